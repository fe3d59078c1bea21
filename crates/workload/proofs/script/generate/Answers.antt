use Rattle.std.proofs.Common.{◌≡◌, ◌++◌, ap, arith, ◌∙◌}
use Rattle.std.specs.Option.{option_to_list}
use Rattle.built_in_tables.specs.Tables.{c5}
use Rattle.workload.specs.Draws.{pick, draws}
use Rattle.workload.specs.Acts.{acts_at}
use Rattle.workload.specs.Edits.{edit_of}
use Rattle.workload.specs.Workload.{acts_from, edits_from}
use Rattle.workload.proofs.Cycles.{acts_next, edits_next, acts_end, edits_end, made}
use Rattle.workload.proofs.script.generate.Goals as goal

pub loop-cycle-preserved : goal.loop-cycle-preserved
loop-cycle-preserved c =
    let s = c.loop-cycle.stream.state in
    let acts : c.push_acts.new.acts.items ≡ c.loop-cycle.acts.items ++ acts_at c5 c.loop-cycle.cycle (draws s).0 = cc (c.in_ok-push_acts.ensures, c.built_in_5-table.ensures, c.draws-draws.ensures.drawn) in
    let edits : c.push_edit.new.edits.items ≡ c.loop-cycle.edits.items ++ option_to_list (edit_of c.loop-cycle.cycle c.at-faulty.result (draws s).0) = cc (c.in_ok-push_edit.ensures, c.draws-draws.ensures.drawn) in
    rw c.draws-draws.ensures.state (record {
      acts = acts_next c.args.cycles c.loop-cycle.cycle s c.loop-cycle.acts.items _ _ (omega arith) acts c.loop-cycle.invariant.acts;
      edits = edits_next c.at-faulty.result c.args.cycles c.loop-cycle.cycle s c.loop-cycle.edits.items _ _ (omega arith) edits c.loop-cycle.invariant.edits;
    })

pub returns : goal.returns
returns c =
    let state : c.pick.new.self.state ≡ (pick 5 c.args.start).1 = c.pick.ensures.state in
    let first : c.at-faulty.result ≡ (pick 5 c.args.start).0 = cc in
    let acts : c.loop-cycle.acts.items ≡ acts_from 0 c.args.cycles (pick 5 c.args.start).1 = acts_end c.args.cycles c.loop-cycle.cycle c.loop-cycle.stream.state _ _ (omega arith) c.loop-cycle.invariant.acts ∙ ap (acts_from 0 c.args.cycles) state in
    let edits : c.loop-cycle.edits.items ≡ edits_from c.at-faulty.result 0 c.args.cycles (pick 5 c.args.start).1 = edits_end c.at-faulty.result c.args.cycles c.loop-cycle.cycle c.loop-cycle.stream.state _ _ (omega arith) c.loop-cycle.invariant.edits ∙ ap (edits_from c.at-faulty.result 0 c.args.cycles) state in
    made c.args.start c.args.cycles c.at-faulty.result _ _ _ first acts edits c.new.ensures.items
