use Rattle.std.proofs.Common.{sym, ◌∙◌}
use Rattle.diagnosis.proofs.Left.{filter-all, noted_next}
use Rattle.diagnosis.proofs.suspects.Suspects.note_all.Goals as goal

pub loop-s-init : goal.loop-s-init
loop-s-init c = sym (filter-all c.args.self.now)

pub loop-s-preserved : goal.loop-s-preserved
loop-s-preserved c =
    c.note.ensures
    ∙ noted_next c.args.noted.now c.loop-s.s-index c.s-item.result c.args.self.now c.loop-s.self c.loop-s-test.true c.s-item.is c.loop-s.invariant
