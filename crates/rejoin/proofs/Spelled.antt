-- The bytes of a state are read to that state, so they are of one state at most.
use Rattle.std.proofs.Common.{◌≡◌, ℕ, ◌+◌, ◌-◌, ◌*◌, ◌<◌, ◌≤◌, ◌^◌, zero, suc, Bool, true, false, List, [], ◌∷◌, ◌++◌, Option, Some, None, length, get_or, replicate, take, drop, map, refl, sym, ◌∙◌, ap, arith, subst, append_assoc, length-append, drop-cons}
use Rattle.std.specs.Prelude.{not, All, slice_index, slice_range}
use Rattle.std.specs.List.{flat_map, zip, range_with_len, AllByRecursion}
use Rattle.std.proofs.Math.Seq.{drop-append-add, drop-append_seam, take-append_seam}
use Rattle.std.proofs.lemmas.List.{ext_get_or, drop-drop, get_or-drop}
use Rattle.std.proofs.lemmas.List.Elements.{All-get_or, All-weaker, recursion_from_All}
use Rattle.std.proofs.lemmas.List.FromFn.{length-map-range_with_len, get_or-map-range_with_len}
use Rattle.std.proofs.lemmas.Slice.Zip.{get_or-zip}
use Rattle.packet_format.specs.declared.Descriptor.{Descriptor}
use Rattle.config_table.specs.declared.groups.Group.{Group}
use Rattle.config_table.specs.declared.decisions.StateRow.{StateRow}
use Rattle.config_table.specs.Bounds.{IsBounded}
use Rattle.config_table.specs.Table.{TableValue, IsValid}
use Rattle.config_table.proofs.Bounded.{bounded-valid, few_groups}
use Rattle.rejoin.specs.declared.AgreedState.{AgreedState}
use Rattle.rejoin.specs.State.{slots_bytes, group_bytes, row_bytes, slot_bytes, head_bytes, state_bytes, RequestFits, RowFits, IsInRange, IsState}
use Rattle.rejoin.specs.Reading.{number_at, group_from, row_from, group_at, row_at, count_from, groups_from, rows_from, table_from}
use Rattle.rejoin.proofs.Walks.{no_row, length-pairs}
use Rattle.rejoin.proofs.Slots.{number-four, group_with, group_read, length-group, IsSmall, row_read, length-row}

-- a slot of 47 bytes, the first 19 of its group
pub record IsWhole (pair : Group × StateRow) : Type 0 where
  pub group : length (group_bytes pair.0) ≡ 19
  pub row : length (row_bytes pair.1) ≡ 28

pub length-slot : (pair : Group × StateRow) → IsWhole pair → length (slot_bytes pair) ≡ 47
unfolding slot_bytes
length-slot pair whole = let group = whole.group in let row = whole.row in let both = length-append (group_bytes pair.0) (row_bytes pair.1) in omega arith

-- what is left after the first slots is the others
drop-slots : (i : ℕ) (pairs : List (Group × StateRow)) (zeros : List ℕ) → AllByRecursion IsWhole pairs → i ≤ length pairs
    → drop (47 * i) (flat_map slot_bytes pairs ++ zeros) ≡ flat_map slot_bytes (drop i pairs) ++ zeros
drop-slots zero pairs zeros whole h = refl
drop-slots (suc i) [] zeros whole h = let never : ⊥ = omega arith in absurd never
drop-slots (suc i) (pair ∷ pairs) zeros whole h =
    let first = length-slot pair whole.0 in
    let at : 47 * suc i ≡ length (slot_bytes pair) + 47 * i = omega arith in
    ap (λ n. drop n ((slot_bytes pair ++ flat_map slot_bytes pairs) ++ zeros)) at
    ∙ ap (drop (length (slot_bytes pair) + 47 * i)) (append_assoc (slot_bytes pair) (flat_map slot_bytes pairs) zeros)
    ∙ drop-append-add (slot_bytes pair) (flat_map slot_bytes pairs ++ zeros) (47 * i)
    ∙ drop-slots i pairs zeros whole.1 (omega arith)

-- bytes with a pair's slot at their front
begins : (pair : Group × StateRow) (rest : List ℕ) → slot_bytes pair ++ rest ≡ group_bytes pair.0 ++ (row_bytes pair.1 ++ rest)
unfolding slot_bytes
begins pair rest = append_assoc (group_bytes pair.0) (row_bytes pair.1) rest

module _ (head zeros : List ℕ) (pairs : List (Group × StateRow)) (seven : length head ≡ 7) (whole : AllByRecursion IsWhole pairs) where
  module _ (i : ℕ) (d pair : Group × StateRow) (h : i < length pairs) (here : get_or pairs i d ≡ pair) (is : IsWhole pair) where
    -- the bytes from a slot on
    from_slot : drop (7 + 47 * i) ((head ++ flat_map slot_bytes pairs) ++ zeros)
        ≡ group_bytes pair.0 ++ (row_bytes pair.1 ++ (flat_map slot_bytes (drop (suc i) pairs) ++ zeros))
    from_slot =
        let at : 7 + 47 * i ≡ length head + 47 * i = omega arith in
        ap (λ n. drop n ((head ++ flat_map slot_bytes pairs) ++ zeros)) at
        ∙ ap (drop (length head + 47 * i)) (append_assoc head (flat_map slot_bytes pairs) zeros)
        ∙ drop-append-add head (flat_map slot_bytes pairs ++ zeros) (47 * i)
        ∙ drop-slots i pairs zeros whole (omega arith)
        ∙ ap (λ l. flat_map slot_bytes l ++ zeros) (drop-cons pairs i d h)
        ∙ ap (λ p. (slot_bytes p ++ flat_map slot_bytes (drop (suc i) pairs)) ++ zeros) here
        ∙ append_assoc (slot_bytes pair) (flat_map slot_bytes (drop (suc i) pairs)) zeros
        ∙ begins pair (flat_map slot_bytes (drop (suc i) pairs) ++ zeros)

    -- its group's bytes
    pub cut_group : slice_range ((head ++ flat_map slot_bytes pairs) ++ zeros) (7 + 47 * i) (26 + 47 * i) ≡ group_bytes pair.0
    cut_group =
        let long = is.group in
        let size : (26 + 47 * i) - (7 + 47 * i) ≡ length (group_bytes pair.0) = omega arith in
        (λ t. take (size t) (from_slot t)) ∙ take-append_seam (group_bytes pair.0) (row_bytes pair.1 ++ (flat_map slot_bytes (drop (suc i) pairs) ++ zeros))

    -- and its row's
    pub cut_row : slice_range ((head ++ flat_map slot_bytes pairs) ++ zeros) (26 + 47 * i) (54 + 47 * i) ≡ row_bytes pair.1
    cut_row =
        let long = is.row in
        let before = is.group in
        let size : (54 + 47 * i) - (26 + 47 * i) ≡ length (row_bytes pair.1) = omega arith in
        let at : 26 + 47 * i ≡ (7 + 47 * i) + length (group_bytes pair.0) = omega arith in
        let behind : drop (26 + 47 * i) ((head ++ flat_map slot_bytes pairs) ++ zeros)
        ≡ row_bytes pair.1 ++ (flat_map slot_bytes (drop (suc i) pairs) ++ zeros) =
        ap (λ n. drop n ((head ++ flat_map slot_bytes pairs) ++ zeros)) at
        ∙ sym (drop-drop (length (group_bytes pair.0)) (7 + 47 * i) ((head ++ flat_map slot_bytes pairs) ++ zeros))
        ∙ ap (drop (length (group_bytes pair.0))) from_slot
        ∙ drop-append_seam (group_bytes pair.0) (row_bytes pair.1 ++ (flat_map slot_bytes (drop (suc i) pairs) ++ zeros)) in
        (λ t. take (size t) (behind t)) ∙ take-append_seam (row_bytes pair.1) (flat_map slot_bytes (drop (suc i) pairs) ++ zeros)

    -- its first byte is the group's number
    pub cut_number : slice_index ((head ++ flat_map slot_bytes pairs) ++ zeros) (7 + 47 * i) ≡ pair.0.vid
    cut_number =
        let at : 7 + 47 * i ≡ 7 + 47 * i + 0 = omega arith in
        ap (λ n. get_or ((head ++ flat_map slot_bytes pairs) ++ zeros) n 0) at
        ∙ sym (get_or-drop (7 + 47 * i) ((head ++ flat_map slot_bytes pairs) ++ zeros) 0 0)
        ∙ ap (λ l. get_or l 0 0) from_slot

-- what a place past the end is read as
no_group : Group
no_group = group_with 0 [] 0 0 0 0 0 0

-- numbers of at most 100,000 cycles are small
small_request : (now : ℕ) (request : Option (Descriptor × ℕ × ℕ)) → now ≤ 100000 → RequestFits now request → IsSmall request
small_request now None few fits = tt
small_request now (Some waiting) few fits = (let since = fits.0 in omega arith, let starved = fits.1 in omega arith)

small_lags : (now : ℕ) (lags : List ℕ) → now ≤ 100000 → All (λ lag. lag ≤ now) lags → All (λ lag. lag < 2 ^ 32) lags
small_lags now lags few fit = All-weaker (λ lag. lag ≤ now) (λ lag. lag < 2 ^ 32) (λ lag most. omega arith) lags fit

module _ (now : ℕ) (table : TableValue) (rows : List StateRow) (right : IsInRange now table rows) where
  module _ (i : ℕ) (d : Group × StateRow) (h : i < length (zip table.groups rows)) where
    in_groups : i < length table.groups
    in_groups = let long = length-pairs table.groups rows right.one_each in omega arith

    there : get_or (zip table.groups rows) i d ≡ (get_or table.groups i d.0, get_or rows i d.1)
    there = get_or-zip table.groups rows i d in_groups (let same = right.one_each in let below = in_groups in omega arith)

    pub bounded : IsBounded table.n (get_or (zip table.groups rows) i d).0
    bounded =
        subst (IsBounded table.n) (sym (ap (λ (p : Group × StateRow). p.0) there))
        (All-get_or (IsBounded table.n) table.groups i d.0 in_groups (bounded-valid table right.valid))

    pub fits : RowFits now (get_or (zip table.groups rows) i d)
    fits = All-get_or (RowFits now) (zip table.groups rows) i d h right.fit

    pub whole_at : IsWhole (get_or (zip table.groups rows) i d)
    whole_at = record {
      group = length-group (get_or (zip table.groups rows) i d).0 bounded.few_members;
      row = length-row (get_or (zip table.groups rows) i d).1 fits.four;
    }

  pub all_whole : AllByRecursion IsWhole (zip table.groups rows)
  all_whole = recursion_from_All IsWhole (zip table.groups rows) (λ i d h. whole_at i d h)

  -- the group and the row of a place
  module _ (i : ℕ) (h : i < length (zip table.groups rows)) where
    group_at-state : group_at (state_bytes now table rows) i ≡ get_or table.groups i no_group
    unfolding state_bytes
    group_at-state =
        let g : Group = (get_or (zip table.groups rows) i (no_group, no_row)).0 in
        let in_range = bounded i (no_group, no_row) h in
        let p : Group × StateRow = get_or (zip table.groups rows) i (no_group, no_row) in
        let behind : List ℕ = replicate (1887 - length (head_bytes now table ++ slots_bytes table.groups rows)) 0 in
        let ts : g.ts < 2 ^ 16 = let top = in_range.ts_high in omega arith in
        let tr : g.tr < 2 ^ 16 = let top = in_range.tr_high in omega arith in
        let tx : g.tx < 2 ^ 16 = let top = in_range.tx_high in omega arith in
        ap group_from (cut_group (head_bytes now table) behind (zip table.groups rows) refl all_whole i (no_group, no_row) p h refl (whole_at i (no_group, no_row) h))
        ∙ group_read g in_range.few_members ts tr tx
        ∙ ap (λ (p : Group × StateRow). p.0) (there i (no_group, no_row) h)

    row_at-state : row_at (state_bytes now table rows) i ≡ get_or rows i no_row
    unfolding state_bytes
    row_at-state =
        let p : Group × StateRow = get_or (zip table.groups rows) i (no_group, no_row) in
        let fit = fits i (no_group, no_row) h in
        let top = right.cycle in
        let behind : List ℕ = replicate (1887 - length (head_bytes now table ++ slots_bytes table.groups rows)) 0 in
        let number =
        cut_number (head_bytes now table) behind (zip table.groups rows) refl all_whole i (no_group, no_row) p h refl (whole_at i (no_group, no_row) h) in
        let row = cut_row (head_bytes now table) behind (zip table.groups rows) refl all_whole i (no_group, no_row) p h refl (whole_at i (no_group, no_row) h) in
        (λ t. row_from (number t) (row t))
        ∙ ap (λ v. row_from v (row_bytes p.1)) (sym fit.number)
        ∙ row_read p.1 (small_request now p.1.request top fit.request) fit.four (small_lags now p.1.lags top fit.lags)
        ∙ ap (λ (q : Group × StateRow). q.1) (there i (no_group, no_row) h)

  count_from-state : count_from (state_bytes now table rows) ≡ length table.groups
  unfolding state_bytes
  count_from-state = let few = few_groups table right.valid in omega arith

  groups_from-state : groups_from (state_bytes now table rows) ≡ table.groups
  groups_from-state =
      let f : ℕ → Group = group_at (state_bytes now table rows) in
      let k : ℕ = length table.groups in
      let pairs = length-pairs table.groups rows right.one_each in
      ap (λ n. map f (range_with_len 0 n)) count_from-state
      ∙ ext_get_or no_group (map f (range_with_len 0 k)) table.groups (length-map-range_with_len f 0 k) (λ i h.
      let long = length-map-range_with_len f 0 k in
      get_or-map-range_with_len f 0 k i i no_group (omega arith) (omega arith) ∙ group_at-state i (omega arith))

  rows_from-state : rows_from (state_bytes now table rows) ≡ rows
  rows_from-state =
      let f : ℕ → StateRow = row_at (state_bytes now table rows) in
      let k : ℕ = length table.groups in
      let pairs = length-pairs table.groups rows right.one_each in
      ap (λ n. map f (range_with_len 0 n)) count_from-state
      ∙ ext_get_or no_row (map f (range_with_len 0 k)) rows (length-map-range_with_len f 0 k ∙ sym right.one_each) (λ i h.
      let long = length-map-range_with_len f 0 k in
      get_or-map-range_with_len f 0 k i i no_row (omega arith) (omega arith) ∙ row_at-state i (omega arith))

  cycle_from-state : number_at (state_bytes now table rows) 0 4 ≡ now
  unfolding state_bytes
  cycle_from-state = number-four now (let top = right.cycle in omega arith)

  table_from-state : table_from (state_bytes now table rows) ≡ table
  unfolding state_bytes
  table_from-state = λ t. record { n = table.n; manager = table.manager; groups = groups_from-state t }

-- what is taken of the places of bytes is the state that they are
pub only_one : (bytes : List ℕ) (s t : AgreedState) → (t.cycle ≡ number_at bytes 0 4) × (t.table ≡ table_from bytes) × (t.rows.items ≡ rows_from bytes)
    → IsState bytes s.cycle s.table s.rows.items → t ≡ s
only_one bytes s t taken is =
    let cycle : t.cycle ≡ s.cycle = taken.0 ∙ ap (λ b. number_at b 0 4) is.spelled ∙ cycle_from-state s.cycle s.table s.rows.items is.in_range in
    let table : t.table ≡ s.table = taken.1 ∙ ap table_from is.spelled ∙ table_from-state s.cycle s.table s.rows.items is.in_range in
    let rows : t.rows.items ≡ s.rows.items = taken.2 ∙ ap rows_from is.spelled ∙ rows_from-state s.cycle s.table s.rows.items is.in_range in
    λ i. record { cycle = cycle i; table = table i; rows = record { items = rows i } }

-- the table that is taken of the bytes of a state is valid
pub valid_taken : (bytes : List ℕ) (s : AgreedState) → IsState bytes s.cycle s.table s.rows.items → IsValid (table_from bytes)
valid_taken bytes s is =
    subst IsValid (sym (ap table_from is.spelled ∙ table_from-state s.cycle s.table s.rows.items is.in_range)) is.in_range.valid

-- bytes are those of one state at most
pub one_state : (bytes : List ℕ) (s t : AgreedState) → IsState bytes s.cycle s.table s.rows.items → IsState bytes t.cycle t.table t.rows.items → s ≡ t
one_state bytes s t is as_well =
    let cycle : t.cycle ≡ number_at bytes 0 4 =
    sym (cycle_from-state t.cycle t.table t.rows.items as_well.in_range) ∙ ap (λ b. number_at b 0 4) (sym as_well.spelled) in
    let table : t.table ≡ table_from bytes = sym (table_from-state t.cycle t.table t.rows.items as_well.in_range) ∙ ap table_from (sym as_well.spelled) in
    let rows : t.rows.items ≡ rows_from bytes = sym (rows_from-state t.cycle t.table t.rows.items as_well.in_range) ∙ ap rows_from (sym as_well.spelled) in
    sym (only_one bytes s t (cycle, table, rows) is)

-- a test whose turn fails
pub true_of : (b : Bool) → not b ≡ false → b ≡ true
true_of true e = refl
true_of false e = cc
