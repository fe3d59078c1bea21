use Rattle.config_table.specs.Members.{is_admitted}
use Rattle.trace_audit.proofs.Admitted.{Keeps}
use Rattle.trace_audit.proofs.shown.admitted_in.Given as goal

abbrev pub invariant-loop-i : goal.invariant-loop-i
invariant-loop-i l = Keeps (is_admitted l.admitted) l.masked l.members l.i l.kept.items
