use Rattle.std.proofs.Common.{◌≡◌, ◌-◌, ◌++◌}
use Rattle.script_text.specs.Reading.{plan_of}
use Rattle.script_text.specs.Printing.{text_of, canonical, canonical_from}
use Rattle.script_text.proofs.print.lines.Given as goal

abbrev pub invariant-loop-c : goal.invariant-loop-c
invariant-loop-c l = l.out.items ++ text_of (canonical_from l.c (l.script.cycles - l.c) l.rejoins l.acts l.edits) ≡ text_of (canonical (plan_of l.script))
