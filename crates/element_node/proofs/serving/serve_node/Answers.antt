use Rattle.std.proofs.Common.{None}
use Rattle.element_node.specs.Node.{node}
use Rattle.element_node.specs.declared.NodeEnd.TheVariants.{Memory}
use Rattle.element_node.proofs.Cycles.{as_fresh, nothing_served, whole_is_no_stream}
use Rattle.element_node.proofs.serving.serve_node.Goals as goal

pub returns-in-Ok-clause-served : goal.returns-in-Ok-clause-served
returns-in-Ok-clause-served g c = as_fresh c.args.me c.args.cycles c.args.table.now c.in-Ok.element c.serve_cycles.result _ _ _ _ c.in-Ok.ensures c.serve_cycles.ensures.served

pub returns-in-Ok-clause-whole : goal.returns-in-Ok-clause-whole
returns-in-Ok-clause-whole g c = whole_is_no_stream (node c.args.me c.args.table.now c.args.cycles) c.args.cycles c.serve_cycles.result _ _ _ _
    (as_fresh c.args.me c.args.cycles c.args.table.now c.in-Ok.element c.serve_cycles.result _ _ _ _ c.in-Ok.ensures c.serve_cycles.ensures.served)

pub returns-in-Err-clause-served : goal.returns-in-Err-clause-served
returns-in-Err-clause-served g c = nothing_served (node c.args.me c.args.table.now c.args.cycles) c.args.cycles _ _

pub returns-in-Err-clause-whole : goal.returns-in-Err-clause-whole
returns-in-Err-clause-whole g c = whole_is_no_stream (node c.args.me c.args.table.now c.args.cycles) c.args.cycles Memory _ _ None None (nothing_served (node c.args.me c.args.table.now c.args.cycles) c.args.cycles _ None)
