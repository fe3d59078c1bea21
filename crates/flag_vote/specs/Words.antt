-- What the live members of a group say, by the list of them.
use Rattle.std.specs.Prelude.{ℕ, Bool, false, List, [], map, filter, find, Option, Some, None}
use Rattle.std.specs.List.{list_all}
use Rattle.ftpp_base.specs.Bits.{most}
use Rattle.ftpp_base.specs.Sets.{set_of}
use Rattle.ftpp_base.specs.declared.element.Proc.{Proc}
use Rattle.packet_format.specs.declared.Descriptor.{Descriptor}
use Rattle.config_table.specs.Groups.{elements_of}
pub use Rattle.config_table.specs.Members.{unmasked_from}
use Rattle.config_table.specs.declared.decisions.GroupFlags.{GroupFlags}
use Rattle.local_pattern.specs.Pattern.{entry_of}
use Rattle.flag_vote.specs.Flags.{Pattern, holds, has_space, descriptor_of}

-- whether a member has a request
abbrev pub asks : Pattern → Proc → Bool
asks pattern proc = (entry_of pattern proc).not_empty

-- whether more than half of the members hold the request
abbrev pub most_hold : Pattern → List Proc → Descriptor → Bool
most_hold pattern members desc = most (holds pattern desc) members

-- the request that more than half of the members hold, if any
abbrev pub most_held : Pattern → List Proc → Option Descriptor
most_held pattern members = find (most_hold pattern members) (map (descriptor_of pattern) members)

-- the members that hold the voted request
abbrev pub held_by : Pattern → List Proc → Option Descriptor → List Proc
held_by pattern members None = []
held_by pattern members (Some desc) = filter (holds pattern desc) members

-- whether all members hold the voted request
abbrev pub all_hold_it : Pattern → List Proc → Option Descriptor → Bool
all_hold_it pattern members None = false
all_hold_it pattern members (Some desc) = list_all (holds pattern desc) members

-- the flags of a group with these live members
abbrev pub flags_on : Pattern → ℕ → List Proc → GroupFlags
flags_on pattern vid live = record {
  vid = vid;
  desc = most_held pattern live;
  unanimous = all_hold_it pattern live (most_held pattern live);
  live = set_of (elements_of live);
  holds = set_of (elements_of (held_by pattern live (most_held pattern live)));
  space = set_of (elements_of (filter (has_space pattern) live));
  most_space = most (has_space pattern) live;
}

-- flags with this voted request of these members
abbrev pub with_vote : Pattern → List Proc → Option Descriptor → GroupFlags → GroupFlags
with_vote pattern members desc flags = record flags {
  desc = desc;
  unanimous = all_hold_it pattern members desc;
  holds = set_of (elements_of (held_by pattern members desc));
}
