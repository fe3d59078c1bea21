use Rattle.std.proofs.Common.{◌≡◌, ◌≤◌, ◌+◌, drop, take}
use Rattle.std.specs.Prelude.{count_by, filter}
use Rattle.ftpp_base.specs.Sets.{set_of}
use Rattle.config_table.specs.Groups.{elements_of}
use Rattle.flag_vote.specs.Flags.{has_space}
use Rattle.flag_vote.specs.Words.{asks}
use Rattle.flag_vote.proofs.members.survey.Given as goal

-- those so far are counted, and their elements are in the sets
abbrev pub invariant-loop-p : goal.invariant-loop-p
invariant-loop-p g l = record {
  few : l.said.asking ≤ l.p-index;
  few_with : l.said.with_space ≤ l.p-index;
  asked : l.said.asking + count_by (asks l.pattern) (drop l.p-index l.members) ≡ count_by (asks l.pattern) l.members;
  spaced : l.said.with_space + count_by (has_space l.pattern) (drop l.p-index l.members) ≡ count_by (has_space l.pattern) l.members;
  space : l.said.space ≡ set_of (elements_of (filter (has_space l.pattern) (take l.p-index l.members)));
  live : l.said.live ≡ set_of (elements_of (take l.p-index l.members));
}
