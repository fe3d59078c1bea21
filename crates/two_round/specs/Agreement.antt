-- What one faulty element cannot part: the two-round results at all others.
use Rattle.std.specs.Prelude.{◌≡◌, ◌≢◌, ◌<◌, ◌⊎◌, ℕ, false, length}
use Rattle.ftpp_base.specs.Lists.{cell_at, is_this}
use Rattle.bit_vote.specs.Vote.{Cell, IsCell}
use Rattle.bit_vote.specs.Agreed.{FirstRound, agreed, copy_at}
use Rattle.two_round.specs.Echoes.{Echoes, relayed_at, relay_to, result_for, echoes_at}

-- Two rounds about a sender among n elements, seen from one that is not the faulty one. Own values are optional rows of a width, and so is what the faulty element says.
pub record IsExchange (wide n : ℕ) (round : FirstRound) (said : ℕ → ℕ → Cell) (me sender : ℕ) : Type 0 where
  pub size : (n ≡ 4) ⊎ (n ≡ 5)
  pub fault_free : is_this round.faulty me ≡ false
  pub among : sender < n
  pub heard : length round.heard ≡ n
  pub own : IsCell wide (cell_at round.own sender)
  pub rogue : IsCell wide (said me sender)

-- What such rounds let an element hear of the sender: its copy, and the cell that each other one but the sender relays to it.
pub record HasHeard (n : ℕ) (round : FirstRound) (said : ℕ → ℕ → Cell) (sender : ℕ) (x : Echoes) : Type 0 where
  pub count : length x.copies ≡ n
  pub copy : cell_at x.copies sender ≡ copy_at round x.me sender
  pub relays : (k : ℕ) → k < n → k ≢ x.me → k ≢ sender → relayed_at x k sender ≡ relay_to round said x.me k sender

-- Whatever the faulty element sends in both rounds, and to whom, every other element's result for each sender is the agreed value.
abbrev pub Agreement : Type 0
Agreement = (wide n : ℕ) (round : FirstRound) (said : ℕ → ℕ → Cell) (me sender : ℕ)
    → IsExchange wide n round said me sender → result_for (echoes_at n round said me) sender ≡ agreed round sender

-- A result is the agreed value of each exchange that the element can have heard.
abbrev pub IsAgreed : ℕ → ℕ → Echoes → ℕ → Cell → Type 0
IsAgreed wide n x sender result = (round : FirstRound) (said : ℕ → ℕ → Cell)
    → IsExchange wide n round said x.me sender → HasHeard n round said sender x → result ≡ agreed round sender
