use Rattle.std.specs.Prelude.{option_copied}
use Rattle.trace_audit.proofs.Walk.{Walks, left}
use Rattle.trace_audit.proofs.audit.Reading.take_lines.Given as goal

abbrev pub invariant-loop-rest : goal.invariant-loop-rest
invariant-loop-rest g l = Walks g.row.N l.initial.self.auditor l.bytes l.self (option_copied l.rest) l.pieces

abbrev pub decreases-loop-rest : goal.decreases-loop-rest
decreases-loop-rest g l = left l.rest
