use Rattle.ftpp_top.proofs.Lines.{soak_pieces}
use Rattle.ftpp_top.proofs.soak_line.put_soak.Goals as goal

pub returns : goal.returns
returns c = let whole = soak_pieces c.args.line.now.items c.args.start c.args.totals.now in cc
