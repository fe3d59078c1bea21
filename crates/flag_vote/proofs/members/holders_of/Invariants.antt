use Rattle.std.proofs.Common.{◌≡◌, ◌≤◌, ◌+◌, drop, take}
use Rattle.std.specs.Prelude.{count_by, filter}
use Rattle.ftpp_base.specs.Sets.{set_of}
use Rattle.config_table.specs.Groups.{elements_of}
use Rattle.flag_vote.specs.Flags.{holds}
use Rattle.flag_vote.proofs.members.holders_of.Given as goal

-- those so far that hold the request are counted, and their elements are in the set
abbrev pub invariant-loop-p : goal.invariant-loop-p
invariant-loop-p g l = record {
  few : l.holders.count ≤ l.p-index;
  counted : l.holders.count + count_by (holds l.pattern l.desc) (drop l.p-index l.members) ≡ count_by (holds l.pattern l.desc) l.members;
  set : l.holders.elements ≡ set_of (elements_of (filter (holds l.pattern l.desc) (take l.p-index l.members)));
}
