use Rattle.std.proofs.Common.{◌≡◌, ℕ, List, [], ◌++◌, length, sym, ◌∙◌, ap, arith}
use Rattle.std.specs.Prelude.{slice_index_or}
use Rattle.cluster.specs.Delivered.{rows_in}
use Rattle.cluster.specs.Carrying.{one_entry}
use Rattle.report_text.specs.Trace.{carried_lines}
use Rattle.ftpp_top.proofs.Traced.{by_more, past_more}
use Rattle.ftpp_top.proofs.frame_lines.sender_lines.Goals as goal

pub loop-to-preserved : goal.loop-to-preserved
loop-to-preserved g c =
    let row = slice_index_or (rows_in c.args.cluster.now.delivered c.args.at.round) c.args.from [] in
    let i = c.loop-to.invariant in
    let to : c.at.result ≡ c.loop-to.to = c.at.ensures in
    record {
      text = c.frame_line.ensures.text ∙ (ap (λ k. c.loop-to.text ++ carried_lines (one_entry c.args.at row c.args.from k)) to
          ∙ (ap (λ (t : List ℕ). t ++ carried_lines (one_entry c.args.at row c.args.from c.loop-to.to)) i.text ∙ by_more c.args.text.now c.args.at row c.args.from c.loop-to.to));
      len = omega (arith, i.len, c.frame_line.ensures.len);
      past = λ p. past_more c.args.from c.loop-to.to (length c.loop-to.text) (length c.frame_line.new.text) (length c.args.text.now) p c.frame_line.ensures.len (λ e. c.frame_line.ensures.own (e ∙ sym to)) i.len i.past;
    }
