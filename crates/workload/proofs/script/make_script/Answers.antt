use Rattle.workload.proofs.Given.{playable_made, printable_made, edits_made, cycles_made, acts_made}
use Rattle.workload.proofs.script.make_script.Goals as goal

pub returns-in-Ok-clause-playable : goal.returns-in-Ok-clause-playable
returns-in-Ok-clause-playable c = playable_made c.args.start c.args.cycles c.in-Ok.script c.requires.some c.requires.few c.in-Ok.ensures

pub returns-in-Ok-clause-printable : goal.returns-in-Ok-clause-printable
returns-in-Ok-clause-printable c = printable_made c.args.start c.args.cycles c.in-Ok.script c.requires.some c.requires.few c.in-Ok.ensures

pub returns-in-Ok-clause-edits : goal.returns-in-Ok-clause-edits
returns-in-Ok-clause-edits c = edits_made c.args.start c.args.cycles c.in-Ok.script c.requires.some c.requires.few c.in-Ok.ensures

pub returns-in-Ok-clause-cycles : goal.returns-in-Ok-clause-cycles
returns-in-Ok-clause-cycles c = cycles_made c.args.start c.args.cycles c.in-Ok.script c.in-Ok.ensures

pub returns-in-Ok-clause-acts : goal.returns-in-Ok-clause-acts
returns-in-Ok-clause-acts c = acts_made c.args.start c.args.cycles c.in-Ok.script c.in-Ok.ensures
