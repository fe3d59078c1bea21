use Rattle.std.proofs.Common.{◌≡◌, ◌∙◌, ap, ◌-◌, ◌+◌, arith}
use Rattle.link_fabric.specs.Rows.{rows_of}
use Rattle.element_node.specs.Node.{cycles_from}
use Rattle.element_node.proofs.Cycles.{no_rows, starts, goes_on_to, ends_in_as, ends_behind}
use Rattle.element_node.proofs.serving.serve_cycles.Goals as goal

pub loop-cycle-init : goal.loop-cycle-init
loop-cycle-init g c = (
  c.requires.due,
  c.requires.first,
  c.new-link.ensures.owner ∙ c.me.ensures.me,
  no_rows (rows_of c.new-link.result.came.items) g.row.N c.new-link.result.owner (omega (arith, c.new-link.ensures.owner, c.me.ensures.below)) c.new-link.ensures.came,
  c.new-text.ensures,
  starts c.args.cycles (c.args.cycles - 0) c.args.element.now _ _ (omega arith),
  omega arith,
  omega arith,
)

pub loop-cycle-preserved : goal.loop-cycle-preserved
loop-cycle-preserved g c = (
  c.in_default.ensures.due,
  c.in_default.ensures.cycle ∙ ap (λ k. k + 1) c.loop-cycle.invariant.1,
  c.in_default.ensures.owner,
  c.in_default.ensures.own,
  c.in_default.ensures.text,
  goes_on_to (cycles_from c.args.cycles c.args.element.now) (c.args.cycles - c.loop-cycle.cycle) (c.args.cycles - (c.loop-cycle.cycle + 1)) c.loop-cycle.element c.serve_cycle.new.element _ _ _ _ _ _
      (omega (arith, c.loop-cycle-test.true)) c.loop-cycle.invariant.5 c.in_default.ensures.served,
  omega (arith, c.loop-cycle.invariant.6, c.serve_cycle.ensures.input_faults),
  omega (arith, c.loop-cycle.invariant.7, c.serve_cycle.ensures.out_faults),
)

pub returns-in-Err-clause-served : goal.returns-in-Err-clause-served
returns-in-Err-clause-served g c =
    ends_in_as (cycles_from c.args.cycles c.args.element.now) c.args.cycles (c.args.cycles - c.loop-cycle.cycle) (c.args.cycles - (c.loop-cycle.cycle + 1)) c.loop-cycle.cycle c.loop-cycle.element c.in-Err.halt c.end_in.result _ _ _ _ _ _
    c.end_in.ensures (omega (arith, c.loop-cycle-test.true)) c.loop-cycle.invariant.5 c.loop-cycle.invariant.1 c.loop-cycle-test.true c.in-Err.ensures.halted

pub returns-clause-served : goal.returns-clause-served
returns-clause-served g c =
    let last : c.loop-cycle.cycle ≡ c.args.cycles = omega (arith, c.loop-cycle-test.false, c.loop-cycle.auto.cycle-end) in
    ends_behind (cycles_from c.args.cycles c.args.element.now) c.args.cycles (c.args.cycles - c.loop-cycle.cycle) c.loop-cycle.element c.take_end.result _ _ _ _ _ _
    c.loop-cycle.invariant.5 (omega (arith, c.loop-cycle-test.false)) (c.loop-cycle.invariant.1 ∙ last) (c.take_end.ensures.served _) c.take_end.ensures.only.1
