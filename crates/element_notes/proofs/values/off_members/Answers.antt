use Rattle.element_notes.specs.Words.{is_off_member}
use Rattle.element_notes.proofs.Gathering.{gathers_none, gathers_more, gathers_all}
use Rattle.element_notes.proofs.values.off_members.Goals as goal

pub loop-k-init : goal.loop-k-init
loop-k-init g c = gathers_none (is_off_member c.args.x.now c.args.results.now c.args.compared.now c.args.entry.now c.args.admitted.now)

pub loop-k-preserved : goal.loop-k-preserved
loop-k-preserved g c =
    let test = is_off_member c.args.x.now c.args.results.now c.args.compared.now c.args.entry.now c.args.admitted.now in
    gathers_more test c.loop-k.k c.at-ne.result c.loop-k.off _ c.is_off_member-is_off.result c.loop-k.invariant c.is_off_member-is_off.ensures c.at-ne.ensures
    c.put_if-off.ensures

pub returns : goal.returns
returns g c =
    let test = is_off_member c.args.x.now c.args.results.now c.args.compared.now c.args.entry.now c.args.admitted.now in
    gathers_all test c.loop-k.k g.row.N c.loop-k.off c.loop-k.invariant c.loop-k-test.false c.requires
