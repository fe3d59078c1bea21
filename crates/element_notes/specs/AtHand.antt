-- The results that an element has at hand when it notes, and the senders about whom the words differ.
use Rattle.std.specs.Prelude.{◌≡◌, ℕ, ◌<◌, Bool, true, false, List}
use Rattle.ftpp_base.specs.Lists.{cell_at}
use Rattle.ftpp_base.specs.Sets.{has}
use Rattle.ftpp_base.specs.declared.sets.Set8.{Set8}
use Rattle.bit_vote.specs.Vote.{Cell}
use Rattle.two_round.specs.Echoes.{Echoes, result_for, IsUnanimous}

-- Cells that are the results of the senders that count, among n.
abbrev pub AreResults : ℕ → Echoes → (ℕ → Bool) → List Cell → Type 0
AreResults n x counts results = (s : ℕ) → s < n → counts s ≡ true → cell_at results s ≡ result_for x s

-- A set of senders that count, with all of these about whom a word differs from the result.
pub record HasDiffering (n : ℕ) (x : Echoes) (counts : ℕ → Bool) (set : Set8) : Type 0 where
  pub count : (s : ℕ) → s < n → has set s ≡ true → counts s ≡ true
  pub rest : (s : ℕ) → s < n → counts s ≡ true → has set s ≡ false → IsUnanimous n x s
