-- The document of a table.
use Rattle.std.specs.Prelude.{ℕ, zero, suc, ◌+◌, ◌<◌, pos, List, [], ◌∷◌, map, codes, if◌then◌else◌}
use Rattle.std.specs.Ordering.{nat_cmp, match_ordering}
use Rattle.std.specs.Cmp.Lexicographic.{slice_cmp}
use Rattle.toml.specs.Data.{Data, string, integer, array, table, Items, no_items, push_item, Members, no_members, member}
use Rattle.toml.specs.View.{items_of}
use Rattle.ftpp_base.specs.declared.element.Proc.{Proc}
use Rattle.ftpp_base.specs.declared.sets.Set8.{Set8}
use Rattle.ftpp_base.specs.Sets.{has}
use Rattle.config_table.specs.declared.groups.Group.{Group}
use Rattle.config_table.specs.Groups.{members_of}
use Rattle.config_table.specs.Table.{TableValue}

-- the members in the order of their keys, and one more
abbrev pub with_member : List ℕ → Data → Members → Members
with_member k d no_members = member k d no_members
with_member k d (member l e ms) = match_ordering (slice_cmp nat_cmp k l) (member k d (member l e ms)) (member l d ms) (member l e (with_member k d ms))

-- a processor whose numbers have one digit
abbrev pub HasDigits : Proc → Type 0
HasDigits p = (p.ne < 10) × (p.port < 10)

-- a digit, a dot, a digit
abbrev pub proc_text : Proc → List ℕ
proc_text p = (48 + p.ne) ∷ 46 ∷ (48 + p.port) ∷ []

abbrev pub printed_proc : Proc → Data
printed_proc p = string (proc_text p)

abbrev pub printed_procs : List Proc → Data
printed_procs ps = array (items_of (map printed_proc ps))

-- the numbers of a set below a number
abbrev pub numbers_below : Set8 → ℕ → Items
numbers_below s zero = no_items
numbers_below s (suc i) = if has s i then push_item (numbers_below s i) (integer (pos i)) else numbers_below s i

unfoldable pub printed_set : Set8 → Data
printed_set s = array (numbers_below s 8)

unfoldable pub printed_group : Group → Members
printed_group g =
    with_member (codes "ins") (integer (pos g.ins)) (
    with_member (codes "outs") (integer (pos g.outs)) (
    with_member (codes "tx") (integer (pos g.tx)) (
    with_member (codes "masked") (printed_set g.masked) (
    with_member (codes "tr") (integer (pos g.tr)) (
    with_member (codes "ts") (integer (pos g.ts)) (
    with_member (codes "members") (printed_procs (members_of g)) (
    with_member (codes "vid") (integer (pos g.vid)) no_members)))))))

abbrev pub printed_entry : Group → Data
printed_entry g = table (printed_group g)

abbrev pub printed_groups : List Group → Data
printed_groups gs = array (items_of (map printed_entry gs))

unfoldable pub printed_table : TableValue → Members
printed_table t =
    with_member (codes "group") (printed_groups t.groups) (
    with_member (codes "manager") (integer (pos t.manager)) (
    with_member (codes "elements") (integer (pos t.n)) (
    with_member (codes "version") (integer (pos 2)) no_members)))
