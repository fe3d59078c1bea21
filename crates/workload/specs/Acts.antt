-- What processors do in a cycle of the workload.
use Rattle.std.specs.Prelude.{ℕ, ◌+◌, ◌%◌, ◌==◌, List, [], ◌∷◌, ◌++◌, map, Option, Some, None, if◌then◌else◌}
use Rattle.ftpp_base.specs.declared.element.Proc.{Proc}
use Rattle.packet_format.specs.declared.Packet.{Packet}
use Rattle.packet_format.specs.declared.acts.Act.{Act}
use Rattle.packet_format.specs.declared.acts.Act.TheVariants.{Post, Read}
use Rattle.packet_format.specs.Numbers.{four_bytes}
use Rattle.packet_format.specs.Packets.{filled_up}
use Rattle.config_table.specs.declared.groups.Group.{Group}
use Rattle.config_table.specs.Groups.{members_of}
use Rattle.config_table.specs.Table.{TableValue, group_named}
use Rattle.workload.specs.declared.draws.Draws.{Draws}

abbrev pub members_in : Option Group → List Proc
members_in None = []
members_in (Some g) = members_of g

-- the members of a group, in the order of the table
abbrev pub members : TableValue → ℕ → List Proc
members table vid = members_in (group_named table vid)

-- the cycle in four bytes, the byte that was drawn, and zeros
abbrev pub packet_of : ℕ → ℕ → Packet
packet_of c byte = record { bytes = filled_up 64 (four_bytes c ++ byte ∷ []) }

-- the post of a member
abbrev pub post : ℕ → Draws → Proc → ℕ × Act
post c d proc = (c, Post proc (record { dest = d.dest; class = if d.kind == 1 then 2 else 1; source = 0 }) (packet_of c d.byte))

-- all members of the group that was drawn post alike, unless 0 was drawn
unfoldable pub posts : TableValue → ℕ → Draws → List (ℕ × Act)
posts table c d = if d.kind == 0 then [] else map (post c d) (members table d.group)

abbrev pub read : ℕ → Proc → ℕ × Act
read c proc = (c, Read proc)

-- all members of a group read once
unfoldable pub reads : TableValue → ℕ → ℕ → List (ℕ × Act)
reads table c vid = map (read c) (members table vid)

-- the acts of a cycle; two groups, which go round with the cycle, read
unfoldable pub acts_at : TableValue → ℕ → Draws → List (ℕ × Act)
acts_at table c d = posts table c d ++ (reads table c (1 + c % 6) ++ reads table c (1 + (c + 3) % 6))
