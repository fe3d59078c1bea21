-- Copies that come one after another.
use Rattle.std.proofs.Common.{◌≡◌, ◌≢◌, ℕ, ◌<◌, ◌+◌, ◌==◌, Bool, true, false, cond, length, slice_set, refl, sym, ◌∙◌, subst, arith, inl, inr}
use Rattle.std.specs.Prelude.{None}
use Rattle.std.proofs.lemmas.Bool.{eqb-true, eq-eqb, cases_eq}
use Rattle.std.proofs.lemmas.List.{length-set, get_or-set_same, get_or-set_other}
use Rattle.std.proofs.lemmas.List.FromFn.{fill_by_all}
use Rattle.ftpp_base.specs.Lists.{cell_at, each_below}
use Rattle.bit_vote.specs.Vote.{Cell}
use Rattle.two_round.specs.Echoes.{Echoes, with_copy}

-- The copies of the first k senders have come, and the own one stays in its place.
pub record IsHearing (n me : ℕ) (heard : ℕ → Cell) (k : ℕ) (first x : Echoes) : Type 0 where
  pub mine : x.me ≡ me
  pub count : length x.copies ≡ n
  pub relayed : x.relayed ≡ first.relayed
  pub own : cell_at x.copies me ≡ heard me
  pub copy : (s : ℕ) → s < k → cell_at x.copies s ≡ heard s

-- what holds below k and of k holds below k + 1
below_more : (P : ℕ → Type 0) (k : ℕ) → ((s : ℕ) → s < k → P s) → P k → (s : ℕ) → s < k + 1 → P s
below_more P k less at s l = elim (cases_eq k s) [ inl e ↦ subst P e at | inr other ↦ less s (omega arith) ]

-- one copy more, or the own one again
more_by : (n me : ℕ) (heard : ℕ → Cell) (k : ℕ) (first x y : Echoes) (cell : Cell) (b : Bool) → IsHearing n me heard k first x → k < n → (k == me) ≡ b
    → y ≡ cond b x (with_copy x k cell) → (b ≡ false → cell ≡ heard k) → IsHearing n me heard (k + 1) first y
more_by n me heard k first x y cell true h l b is value =
    subst (IsHearing n me heard (k + 1) first) (sym is) (record {
      mine = h.mine;
      count = h.count;
      relayed = h.relayed;
      own = h.own;
      copy = below_more (λ s. cell_at x.copies s ≡ heard s) k h.copy (subst (λ s. cell_at x.copies s ≡ heard s) (sym (eqb-true k me b)) h.own);
    })
more_by n me heard k first x y cell false h l b is value =
    let apart : me ≢ k = λ e. let yes = eq-eqb k me (sym e) in cc in
    subst (IsHearing n me heard (k + 1) first) (sym is) (record {
      mine = h.mine;
      count = length-set x.copies k cell ∙ h.count;
      relayed = h.relayed;
      own = get_or-set_other x.copies k me cell None apart ∙ h.own;
      copy = below_more (λ s. cell_at (slice_set x.copies k cell) s ≡ heard s) k
          (λ s less. get_or-set_other x.copies k s cell None (λ e. omega arith) ∙ h.copy s less)
          (get_or-set_same x.copies k cell None (rw h.count l) ∙ value refl);
    })

pub hears_more : (n me : ℕ) (heard : ℕ → Cell) (k sender : ℕ) (first x y : Echoes) (cell : Cell) → IsHearing n me heard k first x → k < n → sender ≡ k
    → y ≡ cond (sender == me) x (with_copy x sender cell) → ((sender == me) ≡ false → cell ≡ heard sender) → IsHearing n me heard (k + 1) first y
hears_more n me heard k sender first x y cell h l same is value =
    subst (λ s. y ≡ cond (s == me) x (with_copy x s cell) → ((s == me) ≡ false → cell ≡ heard s) → IsHearing n me heard (k + 1) first y) (sym same)
    (λ is value. more_by n me heard k first x y cell (k == me) h l refl is value) is value

-- in the end each copy has come
pub heard_all : (n me : ℕ) (heard : ℕ → Cell) (k : ℕ) (first x : Echoes) → IsHearing n me heard k first x → k ≡ n → first.me ≡ me
    → x ≡ record { me = first.me; copies = each_below n heard; relayed = first.relayed }
heard_all n me heard k first x h end own =
    let copies : x.copies ≡ each_below n heard = fill_by_all heard x.copies n None h.count (λ s l. h.copy s (omega arith)) in
    λ i. record { me = (h.mine ∙ sym own) i; copies = copies i; relayed = h.relayed i }
