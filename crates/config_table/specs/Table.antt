-- A table as a plain value, and when it is valid.
use Rattle.std.specs.Prelude.{◌≡◌, ℕ, ◌^◌, Bool, true, not, ◌&&◌, ◌||◌, ◌==◌, nat_lt, nat_le, List, [], ◌∷◌, length, find, Option, Some, None, option_map, unwrap_or, if◌then◌else◌}
use Rattle.std.specs.List.{list_any}
use Rattle.std.specs.Option.{option_or}
use Rattle.ftpp_base.specs.Lists.{is_in}
use Rattle.ftpp_base.specs.declared.limits.TheConstants.{MOST_GROUPS}
use Rattle.ftpp_base.specs.declared.element.Proc.{Proc}
use Rattle.config_table.specs.declared.groups.Group.{Group}
use Rattle.config_table.specs.declared.limits.TheConstants.{FEWEST_MANAGERS, LONGEST_WAIT, MOST_SLOTS, USUAL_OUTS, USUAL_INS}
use Rattle.config_table.specs.declared.errors.ConfigError.{ConfigError}
use Rattle.config_table.specs.declared.errors.ConfigError.TheVariants.{Elements, GroupCount, Vid, VidOrder, Size, MemberRange, SameElement, SharedProcessor, Masked, Timeout, Expiry, Slots, Manager, ManagerLive}
use Rattle.config_table.specs.Groups.{index_from, is_member, members_of, live_count}

-- The number of elements, the group that may update the table, and the groups in order.
pub record TableValue : Type 0 where
  pub n : ℕ
  pub manager : ℕ
  pub groups : List Group

-- whether a group has that number
abbrev pub is_named : ℕ → Group → Bool
is_named vid g = g.vid == vid

-- the group with that number, if there is one
abbrev pub group_named : TableValue → ℕ → Option Group
group_named table vid = find (is_named vid) table.groups

-- the group of a processor, if it is in one
abbrev pub group_with : TableValue → Proc → Option Group
group_with table proc = find (λ g. is_member g proc) table.groups

-- the number of a group and the index of a processor in it, if it is a member
abbrev pub seat_in : Group → Proc → Option (ℕ × ℕ)
seat_in g proc = option_map (λ i. (g.vid, i)) (index_from proc 0 (members_of g))

-- the same of the first group that has the processor
abbrev pub seat_with : List Group → Proc → Option (ℕ × ℕ)
seat_with [] proc = None
seat_with (g ∷ gs) proc = option_or (seat_in g proc) (seat_with gs proc)

-- how many packets a processor's output and input hold: as its group says, and the usual number in no group
abbrev pub out_limit : TableValue → Proc → ℕ
out_limit table proc = unwrap_or (option_map (λ g. g.outs) (group_with table proc)) USUAL_OUTS

abbrev pub in_limit : TableValue → Proc → ℕ
in_limit table proc = unwrap_or (option_map (λ g. g.ins) (group_with table proc)) USUAL_INS

-- the error, where the test fails
abbrev pub unless : Bool → ConfigError → Option ConfigError
unless ok error = if ok then None else Some error

-- the first error of several
abbrev pub first_error : List (Option ConfigError) → Option ConfigError
first_error [] = None
first_error (e ∷ es) = option_or e (first_error es)

abbrev pub is_within : ℕ → ℕ → ℕ → Bool
is_within low high x = nat_le low x && nat_le x high

-- whether the group's number is greater than that of the group before, the nearest first
abbrev pub follows : List Group → Group → Bool
follows [] g = true
follows (before ∷ earlier) g = nat_lt before.vid g.vid

-- the first element that an earlier member stands at, too
abbrev pub repeated_element : List ℕ → List Proc → Option ℕ
repeated_element seen [] = None
repeated_element seen (p ∷ ps) = if is_in seen p.ne then Some p.ne else repeated_element (p.ne ∷ seen) ps

-- the first member that the test does not pass
abbrev pub first_failing : (Proc → Bool) → Group → Option Proc
first_failing ok g = find (λ p. not (ok p)) (members_of g)

-- whether a member stands at an element below n and at one of eight ports
abbrev pub is_in_range : ℕ → Proc → Bool
is_in_range n p = nat_lt p.ne n && nat_lt p.port 8

-- whether a processor is in none of the earlier groups
abbrev pub is_free : List Group → Proc → Bool
is_free earlier p = not (list_any (λ h. is_member h p) earlier)

-- ---- the clauses of a group

-- the number is not 0 and not 255
abbrev pub vid_error : Group → Option ConfigError
vid_error g = unless (is_within 1 254 g.vid) (Vid g.vid)

-- it is greater than that of the group before
abbrev pub order_error : List Group → Group → Option ConfigError
order_error earlier g = unless (follows earlier g) (VidOrder g.vid)

-- there are one, three or four members
abbrev pub size_error : Group → Option ConfigError
size_error g = unless (is_in (1 ∷ 3 ∷ 4 ∷ []) (length (members_of g))) (Size g.vid (length (members_of g)))

-- each member is there among n elements
abbrev pub range_error : ℕ → Group → Option ConfigError
range_error n g = option_map (MemberRange g.vid) (first_failing (is_in_range n) g)

-- each stands at an element of its own
abbrev pub element_error : Group → Option ConfigError
element_error g = option_map (SameElement g.vid) (repeated_element [] (members_of g))

-- each is in this group only
abbrev pub shared_error : List Group → Group → Option ConfigError
shared_error earlier g = option_map (SharedProcessor g.vid) (first_failing (is_free earlier) g)

-- only members are masked, and not all of them
abbrev pub masked_error : Group → Option ConfigError
masked_error g = unless (nat_lt g.masked.bits (2 ^ length (members_of g)) && nat_lt 0 (live_count g)) (Masked g.vid g.masked.bits)

-- a timeout is 1 to 1,000
abbrev pub timeout_error : ℕ → ℕ → Option ConfigError
timeout_error vid value = unless (is_within 1 LONGEST_WAIT value) (Timeout vid value)

-- the expiry is at most 1,000
abbrev pub expiry_error : Group → Option ConfigError
expiry_error g = unless (nat_le g.tx LONGEST_WAIT) (Expiry g.vid g.tx)

-- a limit of a port is 1 to 64
abbrev pub slots_error : ℕ → ℕ → Option ConfigError
slots_error vid value = unless (is_within 1 MOST_SLOTS value) (Slots vid value)

-- what each clause says of a group, after the earlier groups, in the order of the clauses
abbrev pub group_errors : ℕ → List Group → Group → List (Option ConfigError)
group_errors n earlier g =
    vid_error g
    ∷ order_error earlier g
    ∷ size_error g
    ∷ range_error n g
    ∷ element_error g
    ∷ shared_error earlier g
    ∷ masked_error g
    ∷ timeout_error g.vid g.ts
    ∷ timeout_error g.vid g.tr
    ∷ expiry_error g
    ∷ slots_error g.vid g.outs
    ∷ slots_error g.vid g.ins
    ∷ []

-- the first clause that a group breaks, after the earlier groups
unfoldable pub group_error : ℕ → List Group → Group → Option ConfigError
group_error n earlier g = first_error (group_errors n earlier g)

-- the first clause that one of the groups breaks, the earlier groups nearest first
abbrev pub groups_error : ℕ → List Group → List Group → Option ConfigError
groups_error n earlier [] = None
groups_error n earlier (g ∷ gs) = option_or (group_error n earlier g) (groups_error n (g ∷ earlier) gs)

-- ---- the clauses of a table

-- there are four or five elements
abbrev pub elements_error : ℕ → Option ConfigError
elements_error n = unless (n == 4 || n == 5) (Elements n)

-- there are 1 to 40 groups
abbrev pub count_error : List Group → Option ConfigError
count_error groups = unless (is_within 1 MOST_GROUPS (length groups)) (GroupCount (length groups))

-- the manager is a group with at least three live members
abbrev pub manager_error : ℕ → Option Group → Option ConfigError
manager_error manager None = Some (Manager manager)
manager_error manager (Some g) = unless (nat_le FEWEST_MANAGERS (live_count g)) (ManagerLive manager (live_count g))

-- what each clause says of a table, in the order of the clauses
abbrev pub table_errors : TableValue → List (Option ConfigError)
table_errors table =
    elements_error table.n
    ∷ count_error table.groups
    ∷ groups_error table.n [] table.groups
    ∷ manager_error table.manager (group_named table table.manager)
    ∷ []

-- the first clause that a table breaks
unfoldable pub table_error : TableValue → Option ConfigError
table_error table = first_error (table_errors table)

-- a table that breaks no clause
abbrev pub IsValid : TableValue → Type 0
IsValid table = table_error table ≡ None

-- the number of each clause
abbrev pub error_code : ConfigError → ℕ
error_code (Elements n) = 1
error_code (GroupCount count) = 2
error_code (Vid vid) = 3
error_code (VidOrder vid) = 4
error_code (Size vid size) = 5
error_code (MemberRange vid proc) = 6
error_code (SameElement vid ne) = 7
error_code (SharedProcessor vid proc) = 8
error_code (Masked vid masked) = 9
error_code (Timeout vid value) = 10
error_code (Manager manager) = 11
error_code (ManagerLive manager live) = 12
error_code (Expiry vid value) = 16
error_code (Slots vid value) = 17
