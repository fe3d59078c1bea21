-- What the live members of a group say in the agreed pattern.
use Rattle.std.specs.Prelude.{Bool, false, ◌&&◌, List, [], map, filter, find, Option, Some, None}
use Rattle.std.specs.List.{list_all}
use Rattle.ftpp_base.specs.Bits.{most}
use Rattle.ftpp_base.specs.Sets.{set_of}
use Rattle.ftpp_base.specs.declared.element.Proc.{Proc}
use Rattle.packet_format.specs.declared.Descriptor.{Descriptor}
use Rattle.packet_format.specs.Packets.{same_descriptor}
use Rattle.local_pattern.specs.Pattern.{entry_of}
pub use Rattle.local_pattern.specs.Columns.{Pattern, has_space}
use Rattle.config_table.specs.declared.groups.Group.{Group}
use Rattle.config_table.specs.declared.decisions.GroupFlags.{GroupFlags}
use Rattle.config_table.specs.Groups.{live_members, live_elements, elements_of}
use Rattle.config_table.specs.Table.{TableValue}

-- whether a member holds the request: its entry is not empty and carries it
abbrev pub holds : Pattern → Descriptor → Proc → Bool
holds pattern desc proc = (entry_of pattern proc).not_empty && same_descriptor (entry_of pattern proc).desc desc

-- the request that a member shows
abbrev pub descriptor_of : Pattern → Proc → Descriptor
descriptor_of pattern proc = (entry_of pattern proc).desc

-- whether more than half of the live members hold the request
abbrev pub is_held_by_most : Pattern → Group → Descriptor → Bool
is_held_by_most pattern g desc = most (holds pattern desc) (live_members g)

-- the request that more than half of the live members hold, if any
unfoldable pub voted_descriptor : Pattern → Group → Option Descriptor
voted_descriptor pattern g =
    find (is_held_by_most pattern g) (map (descriptor_of pattern) (live_members g))

-- the live members that hold the voted request
abbrev pub holders : Pattern → Group → Option Descriptor → List Proc
holders pattern g None = []
holders pattern g (Some desc) = filter (holds pattern desc) (live_members g)

-- whether all live members hold the voted request
abbrev pub all_hold : Pattern → Group → Option Descriptor → Bool
all_hold pattern g None = false
all_hold pattern g (Some desc) = list_all (holds pattern desc) (live_members g)

-- the flags of a group, its sets by elements
unfoldable pub flags_of : Pattern → Group → GroupFlags
flags_of pattern g = record {
  vid = g.vid;
  desc = voted_descriptor pattern g;
  unanimous = all_hold pattern g (voted_descriptor pattern g);
  live = set_of (live_elements g);
  holds = set_of (elements_of (holders pattern g (voted_descriptor pattern g)));
  space = set_of (elements_of (filter (has_space pattern) (live_members g)));
  most_space = most (has_space pattern) (live_members g);
}

-- the flags of all groups, in the order of the table
abbrev pub voted_flags : TableValue → Pattern → List GroupFlags
voted_flags table pattern = map (flags_of pattern) table.groups
