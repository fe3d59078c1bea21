use Rattle.std.proofs.Common.{ap, sym, ◌∙◌, cond, arith}
use Rattle.frame_format.specs.Frames.{reads_as, first_cell}
use Rattle.ftpp_base.specs.Lists.{cell_at}
use Rattle.element_core.specs.ElementValue.{copy_taken, frames_in}
use Rattle.element_core.proofs.Copies.{hears_more, heard_all}
use Rattle.element_core.proofs.hearing.hear_copies.Goals as goal

pub loop-k-preserved : goal.loop-k-preserved
loop-k-preserved g c =
    let own = cell_at c.args.exchange.now.copies c.args.me in
    let heard = copy_taken g.row.N c.args.slot c.args.me own (frames_in (g.L.Link.came c.args.link.now)) in
    let sender = c.at-sender.result in
    record {
      heard = hears_more g.row.N c.args.me heard c.loop-k.k sender c.args.exchange.now c.loop-k.exchange c.hear_copy.new.exchange _
          c.loop-k.invariant.heard (omega arith) c.at-sender.ensures c.hear_copy.ensures.heard (λ apart.
          ap (λ rows. first_cell (reads_as g.row.N c.args.slot sender (frames_in rows sender))) c.loop-k.invariant.came
          ∙ ap (λ b. cond b own (first_cell (reads_as g.row.N c.args.slot sender (frames_in (g.L.Link.came c.args.link.now) sender)))) (sym apart));
      owner = cc;
      came = cc;
      leaves = cc;
    }

pub returns-clause-heard : goal.returns-clause-heard
returns-clause-heard g c =
    heard_all g.row.N c.args.me _ c.loop-k.k c.args.exchange.now c.loop-k.exchange c.loop-k.invariant.heard (omega arith) c.requires.me
