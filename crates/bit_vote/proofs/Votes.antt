-- What a vote is, from its parts.
use Rattle.std.proofs.Common.{◌≡◌, ℕ, ◌*◌, ◌<◌, ◌≤◌, List, Some, None, length, get_or, sym, ◌∙◌, ap, arith, ltb, cond, ◌+◌, ◌-◌, set, length-set, ⊎_elim}
use Rattle.std.proofs.lemmas.Bool.{cases_lt}
use Rattle.std.proofs.lemmas.List.FromFn.{fill_by_all}
use Rattle.std.proofs.lemmas.List.Edits.{fill_by_more}
use Rattle.std.proofs.lemmas.Bool.Decides.{nat_tests}
use Rattle.bit_vote.specs.Vote.{Cell, present, width, column, byte_vote, row_vote, vote}

chosen : {A : Type 0} (m n : ℕ) (x y : A) → m < n → cond (ltb m n) x y ≡ x
chosen m n x y h = grind (arith, nat_tests)

not_chosen : {A : Type 0} (m n : ℕ) (x y : A) → n ≤ m → cond (ltb m n) x y ≡ y
not_chosen m n x y h = grind (arith, nat_tests)

pub vote_none : (list : List Cell) → 2 * length (present list) ≤ length list → None ≡ vote list
unfolding vote
vote_none list h = sym (not_chosen _ _ _ _ h)

pub vote_some : (list : List Cell) (row : List ℕ) → length list < 2 * length (present list) → length row ≡ width (present list)
    → ((k : ℕ) → k < width (present list) → get_or row k 0 ≡ byte_vote (column (present list) k)) → Some row ≡ vote list
unfolding vote row_vote
vote_some list row h long same =
    ap Some (fill_by_all (λ k. byte_vote (column (present list) k)) row (width (present list)) 0 long same) ∙ sym (chosen _ _ _ _ h)

-- a row of some width is voted up to an index
pub record IsVotedBelow (wide : ℕ) (rows : List (List ℕ)) (at : ℕ) (row : List ℕ) : Type 0 where
  pub long : length row ≡ wide
  pub voted : (k : ℕ) → k < at → get_or row k 0 ≡ byte_vote (column rows k)

pub voted_more : {wide : ℕ} {rows : List (List ℕ)} {at : ℕ} {row : List ℕ} → IsVotedBelow wide rows at row → (byte : ℕ) → at < wide → byte ≡ byte_vote (column rows at)
    → IsVotedBelow wide rows (at + 1) (set row at byte)
voted_more {wide} {rows} {at} {row} before byte h e = record {
  long = length-set row at byte ∙ before.long;
  voted = λ k below. rw e (fill_by_more (λ j. byte_vote (column rows j)) row at 0 (omega (arith, before.long)) before.voted k below);
}

-- a block of 32 voted bytes is put at an index
pub voted_block : {wide : ℕ} {rows : List (List ℕ)} {from : ℕ} {row : List ℕ} → IsVotedBelow wide rows from row
    → (at to : ℕ) (new block : List ℕ) → from ≡ at → to ≡ at + 32 → length new ≡ wide
    → ((k : ℕ) → k < at → get_or new k 0 ≡ get_or row k 0)
    → ((k : ℕ) → k < 32 → get_or new (at + k) 0 ≡ get_or block k 0)
    → ((k : ℕ) → k < 32 → get_or block k 0 ≡ byte_vote (column rows (at + k)))
    → IsVotedBelow wide rows to new
voted_block {wide} {rows} {from} {row} before at to new block is_at is_to long below here voted = record {
  long = long;
  voted = λ k h. ⊎_elim
      (λ (lt : k < at). below k lt ∙ before.voted k (omega arith))
      (λ (le : at ≤ k).
      let i = k - at in
      let e : k ≡ at + i = omega arith in
      rw e (here i (omega arith) ∙ voted i (omega arith)))
      (cases_lt k at);
}
