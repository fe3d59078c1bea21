-- Where all elements tell a state of one cycle, the voted state is of that cycle, whatever else they tell.
use Rattle.std.proofs.Common.{◌≡◌, ℕ, suc, ◌+◌, ◌/◌, ◌%◌, ◌<◌, ◌≤◌, Bool, true, false, cond, List, [], ◌∷◌, length, map, refl, ap, sym, ◌∙◌, subst, arith}
use Rattle.std.specs.Prelude.{Some, None, ◌==◌, count_by, slice_index}
use Rattle.std.specs.List.{AllByRecursion}
use Rattle.std.proofs.lemmas.Bool.{eq-eqb}
use Rattle.std.proofs.lemmas.Option.{same_Some}
use Rattle.std.proofs.lemmas.List.FromFn.{get_or-map-range_with_len}
use Rattle.ftpp_base.specs.Bits.{is_majority}
use Rattle.ftpp_base.specs.Lists.{cell_at, others}
use Rattle.ftpp_base.proofs.Counts.{count_by-cons}
use Rattle.config_table.specs.declared.decisions.StateRow.{StateRow}
use Rattle.config_table.specs.Table.{TableValue}
use Rattle.bit_vote.specs.Vote.{Cell, present, width, column, byte_vote, row_vote, vote}
use Rattle.bit_vote.proofs.Majority.{byte_vote-same}
use Rattle.two_round.proofs.Others.{IsSize, Ascend, Ascend-others, three_others}
use Rattle.two_round.proofs.Agreement.{at_place}
use Rattle.rejoin.specs.State.{state_bytes}
use Rattle.element_core.specs.Rejoins.{others_vote, IsVotedState}
use Rattle.element_core.specs.ElementValue.{ElementValue}
use Rattle.element_core.specs.Run.{AgreedState}
use Rattle.cluster.specs.ClusterValue.{element_in}
use Rattle.cluster.specs.Rejoins.{TellsState, bytes_told, state_told, states_told}

-- ---- rows that are equal at a place

-- where all bytes are one byte, as many as there are are that byte
all_counted : (b : ℕ) (bytes : List ℕ) → AllByRecursion (λ x. x ≡ b) bytes → count_by (λ x. x == b) bytes ≡ length bytes
all_counted b [] a = refl
all_counted b (x ∷ xs) a =
    let more : 1 + length xs ≡ suc (length xs) = omega arith in
    count_by-cons (λ y. y == b) x xs ∙ (λ i. cond (eq-eqb x b a.0 i) 1 0 + all_counted b xs a.1 i) ∙ more

-- so that byte is voted
one_byte : (b : ℕ) (bytes : List ℕ) → b < 256 → 0 < length bytes → AllByRecursion (λ x. x ≡ b) bytes → byte_vote bytes ≡ b
one_byte b bytes low some a = byte_vote-same b bytes low (let all = all_counted b bytes a in omega arith)

-- the rows of cells that are all there
rows_there : (n one : ℕ) (cells : List Cell) (row : ℕ → List ℕ) (ks : List ℕ) → Ascend n one ks → ((k : ℕ) → k < n → cell_at cells k ≡ Some (row k)) → present (map (cell_at cells) ks) ≡ map row ks
rows_there n one cells row [] a h = refl
rows_there n one cells row (k ∷ ks) a h =
    ap (λ c. present (c ∷ map (cell_at cells) ks)) (h k a.0) ∙ ap (λ rows. row k ∷ rows) (rows_there n one cells row ks a.3 h)

-- their column at a place where they are equal
column_there : (n one at b : ℕ) (row : ℕ → List ℕ) (ks : List ℕ) → Ascend n one ks → ((k : ℕ) → k < n → slice_index (row k) at ≡ b) → AllByRecursion (λ x. x ≡ b) (column (map row ks) at)
column_there n one at b row [] a h = tt
column_there n one at b row (k ∷ ks) a h = (h k a.0, column_there n one at b row ks a.3 h)

-- how many bytes they have
some_column : (at : ℕ) (row : ℕ → List ℕ) (ks : List ℕ) → 3 ≤ length ks → 0 < length (column (map row ks) at)
some_column at row [] l = omega arith
some_column at row (k ∷ ks) l = omega arith

wide_rows : (n one wide : ℕ) (row : ℕ → List ℕ) (ks : List ℕ) → Ascend n one ks → 3 ≤ length ks → ((k : ℕ) → k < n → length (row k) ≡ wide) → width (map row ks) ≡ wide
wide_rows n one wide row [] a l h = absurd (omega arith)
wide_rows n one wide row (k ∷ ks) a l h = h k a.0

-- what is voted at a place
voted_at : (rows : List (List ℕ)) (at : ℕ) → at < width rows → slice_index (row_vote rows) at ≡ byte_vote (column rows at)
unfolding row_vote
voted_at rows at l = get_or-map-range_with_len (λ k. byte_vote (column rows k)) 0 (width rows) at at 0 l (omega arith)

voted_row : (b : Bool) (row bytes : List ℕ) → cond b (Some row) None ≡ Some bytes → row ≡ bytes
voted_row true row bytes e = same_Some row bytes e
voted_row false row bytes e = cc

-- **A byte that all others have at a place is voted there.**
common_byte : (n me wide at b : ℕ) (cells : List Cell) (row : ℕ → List ℕ) (bytes : List ℕ) → IsSize n → me < n → at < wide → b < 256
    → ((k : ℕ) → k < n → cell_at cells k ≡ Some (row k)) → ((k : ℕ) → k < n → length (row k) ≡ wide) → ((k : ℕ) → k < n → slice_index (row k) at ≡ b)
    → others_vote n me cells ≡ Some bytes → slice_index bytes at ≡ b
unfolding others_vote vote
common_byte n me wide at b cells row bytes size below l low there long same voted =
    let ks = others n me in
    let a = Ascend-others n me size below in
    let many = three_others n me size below in
    let rows = rows_there n me cells row ks a there in
    let is : row_vote (map row ks) ≡ bytes
    = ap row_vote (sym rows) ∙ voted_row (is_majority (length (present (map (cell_at cells) ks))) (length (map (cell_at cells) ks))) (row_vote (present (map (cell_at cells) ks))) bytes voted in
    let wider = wide_rows n me wide row ks a many long in
    ap (λ xs. slice_index xs at) (sym is)
    ∙ voted_at (map row ks) at (omega arith)
    ∙ one_byte b (column (map row ks) at) low (some_column at row ks many) (column_there n me at b row ks a same)

-- ---- the number of the cycle

-- the last three bytes of the number of a state

second_byte : (now : ℕ) (table : TableValue) (rows : List StateRow) → slice_index (state_bytes now table rows) 1 ≡ now / 65536 % 256
unfolding state_bytes
second_byte now table rows = refl

third_byte : (now : ℕ) (table : TableValue) (rows : List StateRow) → slice_index (state_bytes now table rows) 2 ≡ now / 256 % 256
unfolding state_bytes
third_byte now table rows = refl

fourth_byte : (now : ℕ) (table : TableValue) (rows : List StateRow) → slice_index (state_bytes now table rows) 3 ≡ now % 256
unfolding state_bytes
fourth_byte now table rows = refl

same_number : (a b : ℕ) → a ≤ 100000 → b ≤ 100000 → a / 65536 % 256 ≡ b / 65536 % 256 → a / 256 % 256 ≡ b / 256 % 256 → a % 256 ≡ b % 256 → a ≡ b
same_number a b l m second third fourth = omega arith

-- **The voted state is of the cycle of all others.**
pub voted_cycle : (n me now : ℕ) (elements : List ElementValue) (state : AgreedState) → IsSize n → me < n → ((k : ℕ) → k < n → (element_in elements k).kept.cycle ≡ now)
    → ((k : ℕ) → k < n → TellsState (element_in elements k)) → IsVotedState n me (states_told n elements) state → state.cycle ≡ now
voted_cycle n me now elements state size below cycles tell voted =
    let row : ℕ → List ℕ = λ k. bytes_told (element_in elements k) in
    let there : (k : ℕ) → k < n → cell_at (states_told n elements) k ≡ Some (row k) = λ k l. at_place n (state_told elements) k None l in
    let long : (k : ℕ) → k < n → length (row k) ≡ 1887 = λ k l. (tell k l).row.long in
    let few : now ≤ 100000 = subst (λ (c : ℕ). c ≤ 100000) (cycles me below) (tell me below).state.in_range.cycle in
    let byte : (at : ℕ) (f : ℕ → ℕ) → at < 1887 → f now < 256 → ((c : ℕ) (table : TableValue) (rows : List StateRow) → slice_index (state_bytes c table rows) at ≡ f c) → f state.cycle ≡ f now
    = λ at f l low spelled.
    sym (spelled state.cycle state.table state.scoreboard)
    ∙ ap (λ xs. slice_index xs at) (sym voted.is_state.spelled)
    ∙ common_byte n me 1887 at (f now) (states_told n elements) row voted.bytes size below l low there long
    (λ k m. spelled (element_in elements k).kept.cycle (element_in elements k).kept.table (element_in elements k).kept.scoreboard ∙ ap f (cycles k m)) voted.voted in
    same_number state.cycle now voted.is_state.in_range.cycle few
    (byte 1 (λ c. c / 65536 % 256) (omega arith) (omega arith) second_byte)
    (byte 2 (λ c. c / 256 % 256) (omega arith) (omega arith) third_byte)
    (byte 3 (λ c. c % 256) (omega arith) (omega arith) fourth_byte)
