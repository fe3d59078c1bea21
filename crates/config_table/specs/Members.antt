-- The live members of the groups that a decision names: who sends, who receives, and who stands at an element.
use Rattle.std.specs.Prelude.{ℕ, Bool, false, not, ◌&&◌, ◌||◌, ◌==◌, nat_le, List, [], map, filter, find, Option, option_map, unwrap_or, if◌then◌else◌}
use Rattle.std.specs.List.{enumerate_from}
use Rattle.ftpp_base.specs.Lists.{is_in}
use Rattle.ftpp_base.specs.Sets.{has}
use Rattle.ftpp_base.specs.declared.element.Proc.{Proc}
use Rattle.ftpp_base.specs.declared.sets.Set8.{Set8}
use Rattle.config_table.specs.declared.decisions.Service.{Service}
use Rattle.config_table.specs.declared.limits.TheConstants.{FEWEST_MANAGERS}
use Rattle.config_table.specs.Groups.{live_members, live_count, elements_of}
use Rattle.config_table.specs.Table.{TableValue, group_named}

-- the members that are not masked, whose indices count from a number
abbrev pub unmasked_from : Set8 → ℕ → List Proc → List Proc
unmasked_from masked i members = map (λ seat. seat.1) (filter (λ seat. not (has masked seat.0)) (enumerate_from i members))

-- the ones of all members of a group that are not masked
abbrev pub live_in : Set8 → List Proc → List Proc
live_in masked members = unmasked_from masked 0 members

-- the live members of a group of the table
abbrev pub senders : TableValue → ℕ → List Proc
senders table vid = unwrap_or (option_map live_members (group_named table vid)) []

-- the member of a group at an element
abbrev pub member_at : List Proc → ℕ → Option Proc
member_at procs ne = find (λ proc. proc.ne == ne) procs

-- whether a processor is at one of the elements
abbrev pub is_admitted : Set8 → Proc → Bool
is_admitted admitted proc = has admitted proc.ne

-- the members of a group that are admitted
abbrev pub admitted_members : TableValue → ℕ → Set8 → List Proc
admitted_members table vid admitted = filter (is_admitted admitted) (senders table vid)

-- whether a class is one that is delivered
abbrev pub is_delivered : ℕ → Bool
is_delivered class = class == 1 || class == 2

-- the processors that an exchange delivers to
abbrev pub receivers : TableValue → Service → List Proc
receivers table service = if is_delivered service.desc.class then senders table service.desc.dest else []

-- whether one of some processors stands at an element
abbrev pub stands_at : List Proc → ℕ → Bool
stands_at procs ne = is_in (elements_of procs) ne

-- whether a live member of a group is at the element and is not admitted
abbrev pub is_left_out : TableValue → ℕ → Set8 → ℕ → Bool
is_left_out table vid admitted ne = stands_at (senders table vid) ne && not (has admitted ne)

-- whether a group has at least three live members
abbrev pub has_three : TableValue → ℕ → Bool
has_three table vid = unwrap_or (option_map (λ g. nat_le FEWEST_MANAGERS (live_count g)) (group_named table vid)) false
