use Rattle.std.proofs.Common.{◌≡◌, ◌++◌, take, map}
use Rattle.workload.specs.Acts.{read}
use Rattle.workload.proofs.acts.push_reads.Given as goal

-- the reads so far
abbrev pub invariant-loop-proc : goal.invariant-loop-proc
invariant-loop-proc l = l.acts.items ≡ l.initial.acts.items ++ map (read l.cycle) (take l.proc-index l.reading)
