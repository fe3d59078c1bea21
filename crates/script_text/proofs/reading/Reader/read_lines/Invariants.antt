use Rattle.std.specs.Prelude.{option_copied}
use Rattle.script_text.proofs.Steps.{Walks, left}
use Rattle.script_text.proofs.reading.Reader.read_lines.Given as goal

abbrev pub invariant-loop-rest : goal.invariant-loop-rest
invariant-loop-rest l = Walks l.initial.self.so_far.n l.bytes l.self (option_copied l.rest) l.line

abbrev pub decreases-loop-rest : goal.decreases-loop-rest
decreases-loop-rest l = left l.rest
