use Rattle.std.proofs.Common.{◌≡◌, ◌-◌, ◌≤◌, []}
use Rattle.std.specs.Prelude.{slice_index_or}
use Rattle.link_fabric.specs.Rows.{rows_of}
use Rattle.ftpp_base.specs.declared.element.Round.TheVariants.{A1}
use Rattle.element_core.specs.declared.Due.TheVariants.{Emit}
use Rattle.element_node.specs.Node.{cycles_from}
use Rattle.element_node.proofs.Cycles.{Reaches}
use Rattle.element_node.proofs.serving.serve_cycles.Given as goal

abbrev pub invariant-loop-cycle : goal.invariant-loop-cycle
invariant-loop-cycle g l =
    (l.element.due ≡ Emit A1)
    × (l.element.kept.cycle ≡ l.cycle)
    × (l.link.owner ≡ l.element.kept.me)
    × (slice_index_or (rows_of l.link.came.items) l.link.owner [] ≡ [])
    × (l.text.items ≡ [])
    × Reaches (cycles_from l.cycles l.fn.element) (cycles_from (l.cycles - l.cycle) l.element) (g.S.Source.left l.fn.input) (g.S.Source.left l.input) (g.K.Sink.written l.fn.out) (g.K.Sink.written l.out)
    × (g.S.Source.faults l.fn.input ≤ g.S.Source.faults l.input)
    × (g.K.Sink.faults l.fn.out ≤ g.K.Sink.faults l.out)
