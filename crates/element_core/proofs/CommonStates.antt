-- Where all others but at most one tell the same state, it is the voted one.
use Rattle.std.proofs.Common.{◌≡◌, ◌≢◌, ℕ, suc, ◌+◌, ◌<◌, ◌≤◌, ◌⊎◌, Bool, true, false, cond, List, [], ◌∷◌, length, map, refl, ap, sym, ◌∙◌, subst, arith, inl, inr, Some}
use Rattle.std.specs.Prelude.{◌==◌, count_by}
use Rattle.std.proofs.lemmas.Bool.{cases_eq, eqb-false}
use Rattle.std.proofs.lemmas.List.{length-map}
use Rattle.ftpp_base.specs.Lists.{cell_at, others}
use Rattle.ftpp_base.proofs.Counts.{count_by-cons}
use Rattle.bit_vote.specs.Vote.{Cell, IsCell, same_cell}
use Rattle.bit_vote.proofs.Majority.{AreCells, vote-same, same_cell-refl}
use Rattle.two_round.proofs.Others.{Ascend, Ascend-others, three_others, count_once}
use Rattle.element_core.specs.declared.Rejoined.TheVariants.{Taken, Refused}
use Rattle.element_core.specs.ElementValue.{rejoined_with}
use Rattle.element_core.specs.Rejoins.{others_vote, CommonStateIsVoted, VotedStateIsTaken}
use Rattle.element_core.proofs.RejoinRows.{same_state}

-- one more that is the odd one, or is equal
one_more : (b c : Bool) (m n l : ℕ) → (b ≡ false → c ≡ true) → l ≤ m + n → suc l ≤ (cond b 1 0 + m) + (cond c 1 0 + n)
one_more true true m n l h few = omega arith
one_more true false m n l h few = omega arith
one_more false true m n l h few = omega arith
one_more false false m n l h few = let wrong = h refl in cc

-- all entries but the odd one are equal to the common one
most_equal : (n me odd : ℕ) (states : List Cell) (v : Cell) (ks : List ℕ) → Ascend n me ks → ((k : ℕ) → k < n → k ≢ me → k ≢ odd → cell_at states k ≡ v)
    → length ks ≤ count_by (λ other. odd == other) ks + count_by (same_cell v) (map (cell_at states) ks)
most_equal n me odd states v [] a h = omega arith
most_equal n me odd states v (k ∷ ks) a h =
    rw (count_by-cons (λ other. odd == other) k ks, count_by-cons (same_cell v) (cell_at states k) (map (cell_at states) ks))
    (one_more (odd == k) (same_cell v (cell_at states k)) _ _ (length ks)
    (λ e. ap (same_cell v) (h k a.0 a.1 (λ same. eqb-false odd k e (sym same))) ∙ same_cell-refl v)
    (most_equal n me odd states v ks a.3 h))

-- all entries are cells
all_cells : (n me odd : ℕ) (states : List Cell) (v : Cell) (ks : List ℕ) → Ascend n me ks → IsCell 1887 v → IsCell 1887 (cell_at states odd)
    → ((k : ℕ) → k < n → k ≢ me → k ≢ odd → cell_at states k ≡ v) → AreCells 1887 (map (cell_at states) ks)
all_cells n me odd states v [] a is rogue h = tt
all_cells n me odd states v (k ∷ ks) a is rogue h = (
  elim (cases_eq k odd) [
    | inl e ↦ subst (λ j. IsCell 1887 (cell_at states j)) (sym e) rogue
    | inr ne ↦ subst (IsCell 1887) (sym (h k a.0 a.1 ne)) is
  ],
  all_cells n me odd states v ks a.3 is rogue h,
)

-- so the common one is voted
common_vote : (n me odd : ℕ) (states : List Cell) (v : Cell) → (n ≡ 4) ⊎ (n ≡ 5) → me < n → IsCell 1887 v → IsCell 1887 (cell_at states odd)
    → ((k : ℕ) → k < n → k ≢ me → k ≢ odd → cell_at states k ≡ v) → others_vote n me states ≡ v
unfolding others_vote
common_vote n me odd states v size below is rogue h =
    let ks = others n me in
    let a = Ascend-others n me size below in
    let many = three_others n me size below in
    let one = count_once n me odd ks a in
    let equal = most_equal n me odd states v ks a h in
    let long : length (map (cell_at states) ks) ≡ length ks = length-map ks (cell_at states) in
    vote-same 1887 v (map (cell_at states) ks) is (all_cells n me odd states v ks a is rogue h) (omega arith)

pub common_state : CommonStateIsVoted
common_state n me odd bytes states state size below is rogue h state_is fits = record {
  bytes = bytes;
  voted = common_vote n me odd states (Some bytes) size below is rogue h;
  is_state = state_is;
  size = fits;
}

pub voted_taken : VotedStateIsTaken
voted_taken n before after states Taken state h r = (refl, r.2 ∙ ap (rejoined_with before.kept.me) (same_state n before.kept.me states r.0 state r.1 h))
voted_taken n before after states Refused state h r = absurd (r.0 state h)
