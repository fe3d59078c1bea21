use Rattle.std.proofs.Common.{◌≡◌, refl}
use Rattle.script_text.specs.Reading.{plan_of}
use Rattle.script_text.proofs.Law.{read_again}
use Rattle.script_text.proofs.print.print_script.Goals as goal

pub returns-in-Ok-clause-again : goal.returns-in-Ok-clause-again
returns-in-Ok-clause-again c = λ n l s. rw c.in-Ok.ensures (read_again n (plan_of c.args.script.now) l s)
