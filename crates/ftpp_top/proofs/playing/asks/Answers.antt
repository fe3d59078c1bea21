use Rattle.script_text.specs.Reading.{plan_of}
use Rattle.ftpp_top.proofs.Begun.{first_below, few_in_all}
use Rattle.ftpp_top.proofs.playing.asks.Goals as goal

pub returns-clause-below : goal.returns-clause-below
returns-clause-below g c = first_below g.row.N (plan_of c.args.script.now) c.requires

pub returns-clause-acts : goal.returns-clause-acts
returns-clause-acts g c = few_in_all g.row.N (plan_of c.args.script.now) c.requires
