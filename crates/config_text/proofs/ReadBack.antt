-- A printed table reads back.
use Rattle.std.proofs.Common.{◌≡◌, ℕ, zero, suc, ◌+◌, ◌-◌, ◌<◌, ◌≤◌, ℤ, pos, Bool, true, false, cond, List, [], ◌∷◌, ◌++◌, length, map, refl, ap, sym, ◌∙◌, arith, append_assoc, append-nil}
use Rattle.std.specs.Prelude.{Option, Some, None, Ok, nat_le, ◌&&◌, All}
use Rattle.std.proofs.lemmas.Bool.{le-leb}
use Rattle.ftpp_base.specs.declared.element.Proc.{Proc}
use Rattle.ftpp_base.specs.declared.sets.Set8.{Set8}
use Rattle.ftpp_base.specs.Sets.{has}
use Rattle.ftpp_base.specs.Bits.{byte_where}
use Rattle.config_table.specs.declared.groups.Group.{Group}
use Rattle.config_table.specs.Groups.{members_of}
use Rattle.config_table.specs.Table.{TableValue, IsValid}
use Rattle.config_table.specs.Bounds.{IsBounded}
use Rattle.config_table.proofs.ValidTable.{valid-n}
use Rattle.config_table.proofs.Bounded.{bounded-valid}
use Rattle.toml.specs.Data.{Data, table, integer, Items, no_items, item, push_item, Members, depth, items_depth, members_depth}
use Rattle.toml.specs.View.{items_of}
use Rattle.config_text.specs.declared.errors.ConfigKey.TheVariants.{Elements, Manager, Vid, Members as MembersKey, Ts, Tr, Masked, Tx, Outs, Ins}
use Rattle.config_text.specs.Fields.{of_kind, place}
use Rattle.config_text.specs.Values.{is_digit, number_of, version_of, proc_of, item_count, procs_from, few_procs, row_of, procs_of, set_from, set_of}
use Rattle.config_text.specs.Reading.{is_top_key, is_group_key, top_only, version_in, elements_in, manager_in, groups_in, table_at, group_only, vid_in, members_in, ts_in, tr_in, masked_in, tx_in, outs_in, ins_in, group_from, groups_from, checked, valid_or, table_from}
use Rattle.config_text.specs.Printing.{HasDigits, numbers_below, printed_set, printed_proc, printed_procs, printed_group, printed_entry, printed_table}

-- a digit is one
digit_back : (n : ℕ) → n < 10 → is_digit (48 + n) ≡ true
digit_back n l = rw (le-leb 48 (48 + n) (omega arith), le-leb (48 + n) 57 (omega arith))

-- a printed processor
proc_back : (p : Proc) → HasDigits p → proc_of (printed_proc p) ≡ Some p
unfolding proc_of
proc_back p h =
    let ne : 48 + p.ne - 48 ≡ p.ne = omega arith in
    let port : 48 + p.port - 48 ≡ p.port = omega arith in
    let here : Option Proc = Some (record { ne = 48 + p.ne - 48; port = 48 + p.port - 48 }) in
    (λ i. cond (digit_back p.ne h.0 i && true && digit_back p.port h.1 i) here None)
    ∙ (λ i. Some (record { ne = ne i; port = port i }))

-- printed processors, behind those found
procs_back : (found ps : List Proc) → All HasDigits ps → procs_from found (items_of (map printed_proc ps)) ≡ Some (found ++ ps)
procs_back found [] h = ap (λ xs. Some xs) (sym (append-nil found))
procs_back found (p ∷ ps) h =
    rw (proc_back p (h zero p (omega arith))) (procs_back (found ++ p ∷ []) ps (λ k d l. h (suc k) d (omega arith)) ∙ ap (λ xs. Some xs) (append_assoc found (p ∷ []) ps))

-- how many items are printed
count_back : {A : Type 0} (f : A → Data) (xs : List A) → item_count (items_of (map f xs)) ≡ length xs
count_back f [] = refl
count_back f (x ∷ xs) = let more = count_back f xs in omega arith

-- at most four printed processors
row_back : (ps : List Proc) → length ps ≤ 4 → All HasDigits ps → procs_of (printed_procs ps) ≡ Some (row_of ps)
unfolding procs_of few_procs
row_back ps few h =
    let short : nat_le (item_count (items_of (map printed_proc ps))) 4 ≡ true = le-leb _ 4 (rw (count_back printed_proc ps) few) in
    rw (short, procs_back [] ps h)

-- a printed number up to a limit
number_back : (top n : ℕ) → n ≤ top → number_of top (integer (pos n)) ≡ Some n
unfolding number_of
number_back top n l = rw (le-leb n top l)

-- the printed numbers of a set of members, set by set
numbers_back : (b : ℕ) → b < 16 → set_from (record { bits = 0 }) (numbers_below (record { bits = b }) 8) ≡ Some (record { bits = b })
unfolding number_of byte_where
numbers_back zero l = refl
numbers_back (suc zero) l = refl
numbers_back (suc (suc zero)) l = refl
numbers_back (suc (suc (suc zero))) l = refl
numbers_back (suc (suc (suc (suc zero)))) l = refl
numbers_back (suc (suc (suc (suc (suc zero))))) l = refl
numbers_back (suc (suc (suc (suc (suc (suc zero)))))) l = refl
numbers_back (suc (suc (suc (suc (suc (suc (suc zero))))))) l = refl
numbers_back (suc (suc (suc (suc (suc (suc (suc (suc zero)))))))) l = refl
numbers_back (suc (suc (suc (suc (suc (suc (suc (suc (suc zero))))))))) l = refl
numbers_back (suc (suc (suc (suc (suc (suc (suc (suc (suc (suc zero)))))))))) l = refl
numbers_back (suc (suc (suc (suc (suc (suc (suc (suc (suc (suc (suc zero))))))))))) l = refl
numbers_back (suc (suc (suc (suc (suc (suc (suc (suc (suc (suc (suc (suc zero)))))))))))) l = refl
numbers_back (suc (suc (suc (suc (suc (suc (suc (suc (suc (suc (suc (suc (suc zero))))))))))))) l = refl
numbers_back (suc (suc (suc (suc (suc (suc (suc (suc (suc (suc (suc (suc (suc (suc zero)))))))))))))) l = refl
numbers_back (suc (suc (suc (suc (suc (suc (suc (suc (suc (suc (suc (suc (suc (suc (suc zero))))))))))))))) l = refl
numbers_back (suc (suc (suc (suc (suc (suc (suc (suc (suc (suc (suc (suc (suc (suc (suc (suc b)))))))))))))))) l = let no_ : ⊥ = omega arith in absurd no_

-- a printed set
set_back : (s : Set8) → s.bits < 16 → set_of (printed_set s) ≡ Some s
unfolding set_of printed_set
set_back s l = numbers_back s.bits l

-- an entry that is a table
table_back : (at : ℕ) (ms : Members) → table_at at (table ms) ≡ Ok ms
unfolding table_at
table_back at ms = refl

-- the keys of a printed group are listed in version 2
only_back : (at : ℕ) (g : Group) → group_only 2 at (printed_group g) ≡ Ok tt
unfolding group_only is_group_key printed_group
only_back at g = refl

-- each key of a printed group
vid_back : (at : ℕ) (g : Group) → g.vid ≤ 255 → vid_in at (printed_group g) ≡ Ok g.vid
unfolding vid_in printed_group
vid_back at g l = ap (of_kind (place (Some at) Vid)) (number_back 255 g.vid l)

members_back : (at : ℕ) (g : Group) → length (members_of g) ≤ 4 → All HasDigits (members_of g)
    → members_in at (printed_group g) ≡ Ok (row_of (members_of g))
unfolding members_in printed_group
members_back at g few h = ap (of_kind (place (Some at) MembersKey)) (row_back (members_of g) few h)

ts_back : (at : ℕ) (g : Group) → g.ts ≤ 65535 → ts_in at (printed_group g) ≡ Ok g.ts
unfolding ts_in printed_group
ts_back at g l = ap (of_kind (place (Some at) Ts)) (number_back 65535 g.ts l)

tr_back : (at : ℕ) (g : Group) → g.tr ≤ 65535 → tr_in at (printed_group g) ≡ Ok g.tr
unfolding tr_in printed_group
tr_back at g l = ap (of_kind (place (Some at) Tr)) (number_back 65535 g.tr l)

masked_back : (at : ℕ) (g : Group) → g.masked.bits < 16 → masked_in at (printed_group g) ≡ Ok g.masked
unfolding masked_in printed_group
masked_back at g l = ap (of_kind (place (Some at) Masked)) (set_back g.masked l)

tx_back : (at : ℕ) (g : Group) → g.tx ≤ 65535 → tx_in at (printed_group g) ≡ Ok g.tx
unfolding tx_in printed_group
tx_back at g l = ap (of_kind (place (Some at) Tx)) (number_back 65535 g.tx l)

outs_back : (at : ℕ) (g : Group) → g.outs ≤ 255 → outs_in at (printed_group g) ≡ Ok g.outs
unfolding outs_in printed_group
outs_back at g l = ap (of_kind (place (Some at) Outs)) (number_back 255 g.outs l)

ins_back : (at : ℕ) (g : Group) → g.ins ≤ 255 → ins_in at (printed_group g) ≡ Ok g.ins
unfolding ins_in printed_group
ins_back at g l = ap (of_kind (place (Some at) Ins)) (number_back 255 g.ins l)

-- the members of a bounded group have digits
pub with_digits : (n : ℕ) (g : Group) → n ≤ 5 → IsBounded n g → All HasDigits (members_of g)
with_digits n g top bounded k d l = let there = bounded.members k d l in let ne = there.ne in let port = there.port in (omega arith, omega arith)

-- a printed group
group_back : (n at : ℕ) (g : Group) → n ≤ 5 → IsBounded n g → group_from 2 at (printed_entry g) ≡ Ok g
unfolding group_from
group_back n at g top bounded =
    let vid : g.vid ≤ 255 = omega (arith, bounded.vid_high) in
    let ts : g.ts ≤ 65535 = omega (arith, bounded.ts_high) in
    let tr : g.tr ≤ 65535 = omega (arith, bounded.tr_high) in
    let tx : g.tx ≤ 65535 = omega (arith, bounded.tx_high) in
    let outs : g.outs ≤ 255 = omega (arith, bounded.outs_high) in
    let ins : g.ins ≤ 255 = omega (arith, bounded.ins_high) in
    rw (
      table_back at (printed_group g),
      only_back at g,
      vid_back at g vid,
      members_back at g bounded.few_members (with_digits n g top bounded),
      ts_back at g ts,
      tr_back at g tr,
      masked_back at g bounded.masked,
      tx_back at g tx,
      outs_back at g outs,
      ins_back at g ins,
    )

-- printed groups, behind those found
groups_back : (n : ℕ) (found gs : List Group) → n ≤ 5 → All (IsBounded n) gs → groups_from 2 found (items_of (map printed_entry gs)) ≡ Ok (found ++ gs)
groups_back n found [] top h = ap (λ xs. Ok xs) (sym (append-nil found))
groups_back n found (g ∷ gs) top h =
    rw (group_back n (length found) g top (h zero g (omega arith)))
    (groups_back n (found ++ g ∷ []) gs top (λ k d l. h (suc k) d (omega arith)) ∙ ap (λ xs. Ok xs) (append_assoc found (g ∷ []) gs))

-- the keys at the top are listed
top_back : (t : TableValue) → top_only (printed_table t) ≡ Ok tt
unfolding top_only is_top_key printed_table
top_back t = refl

-- each key at the top
version_back : (t : TableValue) → version_in (printed_table t) ≡ Ok 2
unfolding version_in version_of number_of printed_table
version_back t = refl

elements_back : (t : TableValue) → t.n ≤ 255 → elements_in (printed_table t) ≡ Ok t.n
unfolding elements_in printed_table
elements_back t l = ap (of_kind (place None Elements)) (number_back 255 t.n l)

manager_back : (t : TableValue) → t.manager ≤ 255 → manager_in (printed_table t) ≡ Ok t.manager
unfolding manager_in printed_table
manager_back t l = ap (of_kind (place None Manager)) (number_back 255 t.manager l)

entries_back : (t : TableValue) → groups_in (printed_table t) ≡ Ok (items_of (map printed_entry t.groups))
unfolding groups_in printed_table
entries_back t = refl

-- a valid table passes
checked_back : (t : TableValue) → IsValid t → checked t ≡ Ok t
unfolding checked
checked_back t e = ap (valid_or t) e

-- a valid table's document is read as the table
pub printed_back : (t : TableValue) → IsValid t → t.manager ≤ 255 → table_from (printed_table t) ≡ Ok t
unfolding table_from
printed_back t valid manager =
    let few = valid-n t valid in
    let n : t.n ≤ 255 = omega arith in
    rw (
      top_back t,
      version_back t,
      elements_back t n,
      manager_back t manager,
      entries_back t,
      groups_back t.n [] t.groups few (bounded-valid t valid),
    ) (checked_back t valid)

-- how deep the document is
deep : {A : Type 0} (f : A → Data) (top : ℕ) (xs : List A) → ((x : A) → depth (f x) ≤ top) → items_depth (items_of (map f xs)) ≤ top
deep f top [] h = omega arith
deep f top (x ∷ xs) h = let here = h x in let more = deep f top xs h in omega arith

-- a number more makes an array no deeper
push_flat : (ds : Items) (z : ℤ) → items_depth (push_item ds (integer z)) ≤ items_depth ds
push_flat no_items z = omega arith
push_flat (item d ds) z = let more = push_flat ds z in omega arith

-- one of two arrays that are flat
cond_flat : (b : Bool) (ds es : Items) → items_depth ds ≤ 0 → items_depth es ≤ 0 → items_depth (cond b ds es) ≤ 0
cond_flat true ds es d e = d
cond_flat false ds es d e = e

-- the numbers of a set are flat
set_flat : (s : Set8) (i : ℕ) → items_depth (numbers_below s i) ≤ 0
set_flat s zero = omega arith
set_flat s (suc i) =
    let here = set_flat s i in
    let pushed = push_flat (numbers_below s i) (pos i) in
    cond_flat (has s i) (push_item (numbers_below s i) (integer (pos i))) (numbers_below s i) (omega arith) here

-- a group is two deep
group_deep : (g : Group) → depth (printed_entry g) ≤ 2
unfolding printed_group printed_set
group_deep g =
    let procs = deep printed_proc 0 (members_of g) (λ p. omega arith) in
    let set = set_flat g.masked 8 in
    omega arith

-- a table is no deeper than a text may be that is read
pub table_deep : (t : TableValue) → members_depth (printed_table t) ≤ 80
unfolding printed_table
table_deep t = let groups = deep printed_entry 2 t.groups group_deep in omega arith
