use Rattle.std.proofs.Common.{◌≡◌, ◌-◌, ◌++◌}
use Rattle.workload.specs.Workload.{acts_from, edits_from}
use Rattle.workload.proofs.script.generate.Given as goal

-- what there is so far, and what is left
abbrev pub invariant-loop-cycle : goal.invariant-loop-cycle
invariant-loop-cycle l = record {
  acts : l.acts.items ++ acts_from l.cycle (l.cycles - l.cycle) l.stream.state ≡ acts_from 0 l.cycles l.initial.stream.state;
  edits : l.edits.items ++ edits_from l.faulty l.cycle (l.cycles - l.cycle) l.stream.state ≡ edits_from l.faulty 0 l.cycles l.initial.stream.state;
}
