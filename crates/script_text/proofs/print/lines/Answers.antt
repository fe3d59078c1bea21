use Rattle.std.proofs.Common.{◌≡◌, ◌-◌, ◌+◌, suc, arith, refl}
use Rattle.script_text.specs.Reading.{plan_of}
use Rattle.script_text.specs.Printing.{text_of, canonical}
use Rattle.script_text.proofs.Canonical.{canonical_starts, canonical_ends, cycle_more}
use Rattle.script_text.proofs.print.lines.Goals as goal

pub loop-c-init : goal.loop-c-init
loop-c-init c =
    rw (c.as_slice-rejoins.ensures.value, c.as_slice-acts.ensures.value, c.as_slice-edits.ensures.value)
    (canonical_starts (plan_of c.args.script.now) c.named_line.new.out.items (rw (c.in_ok-named_line.ensures, c.in_ok-cycles_line.ensures, c.new-out.ensures.items) refl))

pub loop-c-preserved : goal.loop-c-preserved
loop-c-preserved c =
    let total = c.args.script.now.cycles in
    let one : total - c.loop-c.c ≡ suc (total - (c.loop-c.c + 1)) = omega arith in
    let e = cycle_more c.loop-c.out.items (text_of (canonical (plan_of c.args.script.now))) c.loop-c.c (total - c.loop-c.c) (total - (c.loop-c.c + 1)) c.loop-c.rejoins.now c.loop-c.acts.now c.loop-c.edits.now one c.loop-c.invariant in
    rw (c.in_ok-edits.ensures.0, c.in_ok-acts.ensures.0, c.in_ok-rejoins.ensures.0, c.in_ok-edits.ensures.1, c.in_ok-acts.ensures.1, c.in_ok-rejoins.ensures.1) e

pub returns : goal.returns
returns c = canonical_ends (plan_of c.args.script.now) c.loop-c.out.items c.loop-c.c _ c.loop-c.rejoins.now c.loop-c.acts.now c.loop-c.edits.now (omega arith) c.loop-c.invariant
