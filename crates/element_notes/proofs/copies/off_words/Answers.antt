use Rattle.element_notes.specs.Words.{is_off_word}
use Rattle.element_notes.proofs.Gathering.{gathers_none, gathers_more, gathers_all}
use Rattle.element_notes.proofs.copies.off_words.Goals as goal

pub loop-k-init : goal.loop-k-init
loop-k-init g c = gathers_none (is_off_word c.args.x.now c.args.looked_at.now c.args.of)

pub loop-k-preserved : goal.loop-k-preserved
loop-k-preserved g c =
    let test = is_off_word c.args.x.now c.args.looked_at.now c.args.of in
    gathers_more test c.loop-k.k c.at-sender.result c.loop-k.off _ c.is_off_word-is_off.result c.loop-k.invariant c.is_off_word-is_off.ensures c.at-sender.ensures
    c.put_if-off.ensures

pub returns : goal.returns
returns g c =
    let test = is_off_word c.args.x.now c.args.looked_at.now c.args.of in
    gathers_all test c.loop-k.k g.row.N c.loop-k.off c.loop-k.invariant c.loop-k-test.false c.requires.whole.few
