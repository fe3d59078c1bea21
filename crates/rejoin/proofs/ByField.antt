-- A state's bytes and its fields say the same.
use Rattle.std.proofs.Common.{◌≡◌, ℕ, ◌+◌, ◌-◌, ◌*◌, ◌<◌, ◌≤◌, zero, suc, List, [], ◌∷◌, ◌++◌, length, get_or, take, drop, replicate, refl, ap, sym, ◌∙◌, arith, subst, append_assoc, length-append, length-drop}
use Rattle.std.specs.List.{flat_map, zip, AllByRecursion}
use Rattle.std.proofs.Math.Seq.{take-add, drop-append_seam}
use Rattle.std.proofs.lemmas.List.{length-replicate, take-append-drop, drop-drop, get_or-drop, length-take-le}
use Rattle.packet_format.specs.Numbers.{four_bytes}
use Rattle.config_table.specs.declared.groups.Group.{Group}
use Rattle.config_table.specs.declared.decisions.StateRow.{StateRow}
use Rattle.config_table.specs.Table.{TableValue}
use Rattle.config_table.proofs.Bounded.{few_groups}
use Rattle.rejoin.specs.State.{head_bytes, slots_bytes, slot_bytes, group_bytes, row_bytes, state_bytes, IsInRange}
use Rattle.rejoin.specs.Grammar.{group_slice, row_slice, ShowsGroup, ShowsRow, ShowsSlot, IsSpelled, StateIsSpelled, EncodedIsSpelled}
use Rattle.rejoin.proofs.Walks.{length-pairs}
use Rattle.rejoin.proofs.Fields.{items, take-items, group_shown, shown_group, row_shown, shown_row}
use Rattle.rejoin.proofs.Spelled.{IsWhole, length-slot, cut_group, cut_row, all_whole, bounded, fits, whole_at}

length-slots : (pairs : List (Group × StateRow)) → AllByRecursion IsWhole pairs → length (flat_map slot_bytes pairs) ≡ 47 * length pairs
length-slots [] whole = refl
length-slots (pair ∷ pairs) whole =
    let first = length-slot pair whole.0 in
    let rest = length-slots pairs whole.1 in
    let both = length-append (slot_bytes pair) (flat_map slot_bytes pairs) in
    omega arith

zeros_at : (n k : ℕ) → get_or (replicate {A = ℕ} n 0) k 0 ≡ 0
zeros_at zero k = refl
zeros_at (suc n) zero = refl
zeros_at (suc n) (suc k) = zeros_at n k

all_zeros : (bytes : List ℕ) → ((k : ℕ) → get_or bytes k 0 ≡ 0) → bytes ≡ replicate (length bytes) 0
all_zeros [] zeros = refl
all_zeros (b ∷ bs) zeros = λ i. zeros 0 i ∷ all_zeros bs (λ k. zeros (suc k)) i

-- bytes that are cut into slots are those of all of them, and what is left
joined : (pairs : List (Group × StateRow)) (bytes : List ℕ)
    → ((i : ℕ) (d : Group × StateRow) → i < length pairs → take 47 (drop (47 * i) bytes) ≡ slot_bytes (get_or pairs i d))
    → bytes ≡ flat_map slot_bytes pairs ++ drop (47 * length pairs) bytes
joined [] bytes cut = refl
joined (pair ∷ pairs) bytes cut =
    let first : take 47 bytes ≡ slot_bytes pair = cut 0 pair (omega arith) in
    let step : (i : ℕ) → 47 + 47 * i ≡ 47 * suc i = λ i. omega arith in
    let rest = joined pairs (drop 47 bytes) (λ i d h. ap (take 47) (drop-drop (47 * i) 47 bytes ∙ ap (λ k. drop k bytes) (step i)) ∙ cut (suc i) d (omega arith)) in
    let left : drop (47 * length pairs) (drop 47 bytes) ≡ drop (47 * suc (length pairs)) bytes = drop-drop (47 * length pairs) 47 bytes ∙ ap (λ k. drop k bytes) (step (length pairs)) in
    sym (take-append-drop 47 bytes)
    ∙ (λ t. first t ++ (rest ∙ ap (λ l. flat_map slot_bytes pairs ++ l) left) t)
    ∙ sym (append_assoc (slot_bytes pair) (flat_map slot_bytes pairs) (drop (47 * suc (length pairs)) bytes))

module _ (now : ℕ) (table : TableValue) (rows : List StateRow) (right : IsInRange now table rows) where
  -- the bytes that are not 0 by their place
  abbrev front : List ℕ
  front = head_bytes now table ++ slots_bytes table.groups rows

  pairs_are : length (zip table.groups rows) ≡ length table.groups
  pairs_are = length-pairs table.groups rows right.one_each

  length-front : length front ≡ 7 + 47 * length table.groups
  length-front =
      let slots = length-slots (zip table.groups rows) (all_whole now table rows right) in
      let pairs = pairs_are in
      let both = length-append (head_bytes now table) (slots_bytes table.groups rows) in
      omega arith

  few : length table.groups ≤ 40
  few = few_groups table right.valid

  -- ---- the fields of a state's bytes

  long : length (state_bytes now table rows) ≡ 1887
  unfolding state_bytes
  long =
      let size = length-front in
      let most = few in
      let behind : length (replicate {A = ℕ} (1887 - length front) 0) ≡ 1887 - length front = length-replicate (1887 - length front) 0 in
      let both = length-append front (replicate (1887 - length front) 0) in
      omega arith

  slot : (i : ℕ) (d : Group × StateRow) → i < length table.groups → ShowsSlot (state_bytes now table rows) i (get_or (zip table.groups rows) i d)
  unfolding state_bytes
  slot i d h =
      let pair : Group × StateRow = get_or (zip table.groups rows) i d in
      let here : i < length (zip table.groups rows) = let pairs = pairs_are in omega arith in
      let behind : List ℕ = replicate (1887 - length front) 0 in
      let whole = whole_at now table rows right i d here in
      let all = all_whole now table rows right in
      record {
        group =
            subst (λ l. ShowsGroup l pair.0) (sym (cut_group (head_bytes now table) behind (zip table.groups rows) refl all i d pair here refl whole))
            (group_shown pair.0 (bounded now table rows right i d here).few_members);
        row =
            subst (λ l. ShowsRow l pair.1) (sym (cut_row (head_bytes now table) behind (zip table.groups rows) refl all i d pair here refl whole))
            (row_shown pair.1 (fits now table rows right i d here).four);
      }

  zeros : (i : ℕ) → 7 + 47 * length table.groups ≤ i → get_or (state_bytes now table rows) i 0 ≡ 0
  unfolding state_bytes
  zeros i past =
      let at : i ≡ length front + (i - length front) = let size = length-front in omega arith in
      let behind : List ℕ = replicate (1887 - length front) 0 in
      ap (λ k. get_or (front ++ behind) k 0) at
      ∙ sym (get_or-drop (length front) (front ++ behind) (i - length front) 0)
      ∙ ap (λ l. get_or l (i - length front) 0) (drop-append_seam front behind)
      ∙ zeros_at (1887 - length front) (i - length front)

  pub state_shown : IsSpelled (state_bytes now table rows) now table rows
  unfolding state_bytes
  state_shown = record {
    in_range = right;
    long = long;
    cycle = refl;
    elements = refl;
    manager = refl;
    count = refl;
    slot = slot;
    zeros = zeros;
  }

  -- ---- and the bytes of the fields

  module _ (bytes : List ℕ) (shows : IsSpelled bytes now table rows) where
    head : take 7 bytes ≡ head_bytes now table
    head =
        let cycle : items bytes 0 4 ≡ four_bytes now = sym (take-items bytes 4 0 (omega (arith, shows.long))) ∙ shows.cycle in
        take-items bytes 7 0 (omega (arith, shows.long)) ∙ (λ i. cycle i ++ (shows.elements i ∷ shows.manager i ∷ shows.count i ∷ []))

    -- 47 bytes from the place of a slot on
    slot_of : (i : ℕ) (d : Group × StateRow) → i < length (zip table.groups rows) → take 47 (drop (47 * i) (drop 7 bytes)) ≡ slot_bytes (get_or (zip table.groups rows) i d)
    unfolding slot_bytes
    slot_of i d here =
        let pair : Group × StateRow = get_or (zip table.groups rows) i d in
        let most = few in
        let pairs = pairs_are in
        let long = shows.long in
        let at = shows.slot i d (omega arith) in
        let size : (26 + 47 * i) - (7 + 47 * i) ≡ 19 = omega arith in
        let row_size : (54 + 47 * i) - (26 + 47 * i) ≡ 28 = omega arith in
        let left = length-drop (7 + 47 * i) bytes in
        let row_left = length-drop (26 + 47 * i) bytes in
        let group : take 19 (drop (7 + 47 * i) bytes) ≡ group_bytes pair.0 =
        ap (λ k. take k (drop (7 + 47 * i) bytes)) (sym size)
        ∙ shown_group (group_slice bytes i) pair.0 (ap (λ k. length (take k (drop (7 + 47 * i) bytes))) size ∙ length-take-le 19 (drop (7 + 47 * i) bytes) (omega arith))
        (bounded now table rows right i d here).few_members at.group in
        let row : take 28 (drop (26 + 47 * i) bytes) ≡ row_bytes pair.1 =
        ap (λ k. take k (drop (26 + 47 * i) bytes)) (sym row_size)
        ∙ shown_row (row_slice bytes i) pair.1 (ap (λ k. length (take k (drop (26 + 47 * i) bytes))) row_size ∙ length-take-le 28 (drop (26 + 47 * i) bytes) (omega arith))
        (fits now table rows right i d here).four at.row in
        let next : (7 + 47 * i) + 19 ≡ 26 + 47 * i = omega arith in
        ap (take 47) (drop-drop (47 * i) 7 bytes)
        ∙ take-add 19 28 (drop (7 + 47 * i) bytes)
        ∙ ap (λ l. take 19 (drop (7 + 47 * i) bytes) ++ take 28 l) (drop-drop 19 (7 + 47 * i) bytes ∙ ap (λ k. drop k bytes) next)
        ∙ (λ t. group t ++ row t)

    -- all bytes behind the slots are 0
    behind_slots : drop (47 * length (zip table.groups rows)) (drop 7 bytes) ≡ replicate (1887 - length front) 0
    behind_slots =
        let count = pairs_are in
        let size = length-front in
        let at : 7 + 47 * length (zip table.groups rows) ≡ length front = omega arith in
        let left = length-drop (length front) bytes in
        let long = shows.long in
        let many : length (drop (length front) bytes) ≡ 1887 - length front = omega arith in
        drop-drop (47 * length (zip table.groups rows)) 7 bytes
        ∙ ap (λ k. drop k bytes) at
        ∙ all_zeros (drop (length front) bytes) (λ k. get_or-drop (length front) bytes k 0 ∙ shows.zeros (length front + k) (omega arith))
        ∙ ap (λ k. replicate k 0) many

    pub shown_state : bytes ≡ state_bytes now table rows
    unfolding state_bytes
    shown_state =
        let rest = joined (zip table.groups rows) (drop 7 bytes) slot_of in
        sym (take-append-drop 7 bytes)
        ∙ (λ t. head t ++ (rest ∙ ap (λ l. flat_map slot_bytes (zip table.groups rows) ++ l) behind_slots) t)
        ∙ sym (append_assoc (head_bytes now table) (slots_bytes table.groups rows) (replicate (1887 - length front) 0))

pub state_spelled : StateIsSpelled
state_spelled bytes now table rows = (
  (λ is. subst (λ l. IsSpelled l now table rows) (sym is.spelled) (state_shown now table rows is.in_range)),
  (λ shows. record { in_range = shows.in_range; spelled = shown_state now table rows shows.in_range bytes shows }),
)

pub encoded_spelled : EncodedIsSpelled
encoded_spelled now table rows right = state_shown now table rows right
