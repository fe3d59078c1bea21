-- Updates as bytes, and the table that an update gives.
use Rattle.std.specs.Prelude.{ℕ, ◌+◌, ◌*◌, min, Bool, true, ◌&&◌, ◌==◌, nat_lt, List, [], ◌∷◌, ◌++◌, filter, not, length, slice_index, slice_range, Option, Some, None, is_some, is_none, if◌then◌else◌}
use Rattle.std.specs.List.{flat_map, list_all}
use Rattle.arrayvec.specs.ArrayVec.{ArrayVec}
use Rattle.ftpp_base.specs.Lists.{each_below}
use Rattle.ftpp_base.specs.Sets.{with_number, without_number}
use Rattle.ftpp_base.specs.declared.element.Proc.{Proc}
use Rattle.packet_format.specs.Numbers.{two_bytes, number_from}
use Rattle.packet_format.specs.Packets.{filled_up, same_bytes}
use Rattle.packet_format.specs.declared.Packet.{Packet}
use Rattle.config_table.specs.declared.groups.Group.{Group}
use Rattle.config_table.specs.declared.errors.ConfigError.{ConfigError}
use Rattle.config_table.specs.Groups.{members_of}
use Rattle.config_table.specs.Table.{TableValue, group_named, table_error}
use Rattle.table_update.specs.declared.Update.{Update}
use Rattle.table_update.specs.declared.Update.TheVariants.{Mask, Admit, Timeouts, Dissolve, Form}
use Rattle.table_update.specs.declared.Applied.{Applied}
use Rattle.table_update.specs.declared.Applied.TheVariants.{Done, Refused, Absent}

abbrev pub proc_bytes : Proc → List ℕ
proc_bytes proc = proc.ne ∷ proc.port ∷ []

-- the bytes of an update, without the zeros behind them
abbrev pub named_bytes : Update → List ℕ
named_bytes (Mask vid member) = 1 ∷ vid ∷ member ∷ []
named_bytes (Admit vid member) = 2 ∷ vid ∷ member ∷ []
named_bytes (Timeouts vid ts tr) = 3 ∷ vid ∷ two_bytes ts ++ two_bytes tr
named_bytes (Dissolve vid) = 4 ∷ vid ∷ []
named_bytes (Form vid members ts tr) = 5 ∷ vid ∷ length members.items ∷ two_bytes ts ++ two_bytes tr ++ flat_map proc_bytes members.items

-- the packet of an update: its bytes, filled up with zeros
abbrev pub update_bytes : Update → List ℕ
update_bytes update = filled_up 64 (named_bytes update)

-- whether all bytes are 0
abbrev pub all_zero : List ℕ → Bool
all_zero bytes = list_all (λ b. b == 0) bytes

-- the member index of Mask and Admit is below 4
abbrev pub has_index : Update → Bool
has_index (Mask vid member) = nat_lt member 4
has_index (Admit vid member) = nat_lt member 4
has_index (Timeouts vid ts tr) = true
has_index (Dissolve vid) = true
has_index (Form vid members ts tr) = true

-- the members that the pairs of bytes from byte 7 on name
abbrev pub members_from : List ℕ → List Proc
members_from bytes = each_below (min (slice_index bytes 2) 4)
    (λ i. record { ne = slice_index bytes (7 + 2 * i); port = slice_index bytes (8 + 2 * i) })

-- the only update that these bytes can be
unfoldable pub update_from : List ℕ → Option Update
update_from bytes =
    if slice_index bytes 0 == 1 then Some (Mask (slice_index bytes 1) (slice_index bytes 2))
    else if slice_index bytes 0 == 2 then Some (Admit (slice_index bytes 1) (slice_index bytes 2))
    else if slice_index bytes 0 == 3 then Some (Timeouts (slice_index bytes 1) (number_from (slice_range bytes 2 4)) (number_from (slice_range bytes 4 6)))
    else if slice_index bytes 0 == 4 then Some (Dissolve (slice_index bytes 1))
    else if slice_index bytes 0 == 5 then Some (Form (slice_index bytes 1) (record { items = members_from bytes }) (number_from (slice_range bytes 3 5)) (number_from (slice_range bytes 5 7)))
    else None

-- the update, if it is spelled by exactly these bytes
abbrev pub if_spelled : List ℕ → Option Update → Option Update
if_spelled bytes None = None
if_spelled bytes (Some update) = if same_bytes bytes (update_bytes update) && has_index update then Some update else None

-- the update that a packet is, if it is one
abbrev pub read_update : Packet → Option Update
read_update packet = if_spelled packet.bytes (update_from packet.bytes)

-- the group that an update names
abbrev pub named_group : Update → ℕ
named_group (Mask vid member) = vid
named_group (Admit vid member) = vid
named_group (Timeouts vid ts tr) = vid
named_group (Dissolve vid) = vid
named_group (Form vid members ts tr) = vid

-- a group with a member masked, with a member admitted, and with other timeouts
abbrev pub with_masked : ℕ → Group → Group
with_masked member g = record g { masked = with_number g.masked member }

abbrev pub with_admitted : ℕ → Group → Group
with_admitted member g = record g { masked = without_number g.masked member }

abbrev pub with_timeouts : ℕ → ℕ → Group → Group
with_timeouts ts tr g = record g { ts = ts; tr = tr }

-- what an update changes in the group that it names
abbrev pub change_of : Update → Group → Group
change_of (Mask vid member) g = with_masked member g
change_of (Admit vid member) g = with_admitted member g
change_of (Timeouts vid ts tr) g = with_timeouts ts tr g
change_of (Dissolve vid) g = g
change_of (Form vid members ts tr) g = g

-- a group as it is formed: no member masked, no expiry, usual limits
abbrev pub formed : ℕ → ArrayVec Proc → ℕ → ℕ → Group
formed vid members ts tr = record {
  vid = vid;
  members = members;
  masked = record { bits = 0 };
  ts = ts;
  tr = tr;
  tx = 0;
  outs = 16;
  ins = 32;
}

-- the groups with one of them changed, with one gone, and with a new one at its place
abbrev pub with_changed : (Group → Group) → ℕ → List Group → List Group
with_changed change vid [] = []
with_changed change vid (g ∷ gs) = (if g.vid == vid then change g else g) ∷ with_changed change vid gs

abbrev pub without_group : ℕ → List Group → List Group
without_group vid gs = filter (λ g. not (g.vid == vid)) gs

abbrev pub with_formed : Group → List Group → List Group
with_formed new [] = new ∷ []
with_formed new (g ∷ gs) = if nat_lt new.vid g.vid then new ∷ g ∷ gs else g ∷ with_formed new gs

-- all members of a group that may be there, and the member of an index alone
abbrev pub all_members : Option Group → List Proc
all_members None = []
all_members (Some g) = members_of g

abbrev pub member_of_index : ℕ → List Proc → List Proc
member_of_index index procs = slice_range procs index (index + 1)

-- the ports that an update clears
abbrev pub cleared_in : Update → Option Group → List Proc
cleared_in (Mask vid member) g = []
cleared_in (Admit vid member) g = member_of_index member (all_members g)
cleared_in (Timeouts vid ts tr) g = []
cleared_in (Dissolve vid) g = all_members g
cleared_in (Form vid members ts tr) g = members.items

abbrev pub ports_to_clear : TableValue → Update → List Proc
ports_to_clear table update = cleared_in update (group_named table (named_group update))

-- whether the group is there and has a member of that index
abbrev pub has_member : ℕ → Option Group → Bool
has_member index g = nat_lt index (length (all_members g))

abbrev pub where_there : Bool → TableValue → List Group → Option TableValue
where_there there table groups = if there then Some (record table { groups = groups }) else None

-- the table that an update gives, and none where what it names is not there
unfoldable pub updated : TableValue → Update → Option TableValue
updated table (Mask vid member) = where_there (has_member member (group_named table vid)) table (with_changed (with_masked member) vid table.groups)
updated table (Admit vid member) = where_there (has_member member (group_named table vid)) table (with_changed (with_admitted member) vid table.groups)
updated table (Timeouts vid ts tr) = where_there (is_some (group_named table vid)) table (with_changed (with_timeouts ts tr) vid table.groups)
updated table (Dissolve vid) = where_there (is_some (group_named table vid)) table (without_group vid table.groups)
updated table (Form vid members ts tr) = Some (record table { groups = with_formed (formed vid members ts tr) table.groups })

-- what becomes of an update that gives a table: refused with the first clause that it breaks, or done
abbrev pub judged : Option ConfigError → List Proc → Applied
judged None ports = Done (record { items = ports })
judged (Some error) ports = Refused error

-- what becomes of an update, by the table that it would give
abbrev pub applied_to : Option TableValue → List Proc → Applied
applied_to None ports = Absent
applied_to (Some new) ports = judged (table_error new) ports

abbrev pub applied : TableValue → Update → Applied
applied table update = applied_to (updated table update) (ports_to_clear table update)

-- the new table where it is valid, and otherwise the old one
abbrev pub if_valid : TableValue → Option TableValue → TableValue
if_valid old None = old
if_valid old (Some new) = if is_none (table_error new) then new else old

-- the table after an update
abbrev pub table_after : TableValue → Update → TableValue
table_after table update = if_valid table (updated table update)
