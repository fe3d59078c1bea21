use Rattle.ftpp_base.specs.declared.element.Proc.{Proc}
use Rattle.element_notes.specs.Words.{lacks}
use Rattle.element_notes.proofs.Standing.{stands_none, stands_more, stands_all}
use Rattle.element_notes.proofs.members.lacking_among.Goals as goal

pub loop-i-init : goal.loop-i-init
loop-i-init g c = stands_none (lacks c.args.pattern.now c.args.lack.now) c.args.masked.now c.args.members.now

pub loop-i-preserved : goal.loop-i-preserved
loop-i-preserved g c =
    let none : Proc = record { ne = 0; port = 0 } in
    stands_more (lacks c.args.pattern.now c.args.lack.now) c.args.masked.now c.args.members.now c.loop-i.i c.loop-i.set _ none
    c.is_lacking-belongs.result c.loop-i-test.true
    c.loop-i.invariant c.is_lacking-belongs.ensures c.put_if-set.ensures

pub returns : goal.returns
returns g c =
    stands_all (lacks c.args.pattern.now c.args.lack.now) c.args.masked.now c.args.members.now c.loop-i.i c.loop-i.set c.loop-i-test.false
    c.loop-i.invariant
