use Rattle.std.proofs.Common.{ap, sym, ◌∙◌}
use Rattle.element_core.specs.AloneRun.{own_answer}
use Rattle.element_core.specs.ElementValue.{after_own_act}
use Rattle.element_node.proofs.ActCases.{own_post}
use Rattle.element_node.proofs.acting.perform.Goals as goal

pub returns-in-Ok-clause-element : goal.returns-in-Ok-clause-element
returns-in-Ok-clause-element g c = c.in-Ok.ensures.element ∙ ap (λ a. after_own_act a c.args.element.now) (sym (own_post c.args.element.now.kept.me c.args.act.now c.in-Post.proc c.in-Post.desc c.in-Post.packet c.in-Post.is c.requires.own))

pub returns-in-Ok-clause-answer : goal.returns-in-Ok-clause-answer
returns-in-Ok-clause-answer g c = sym (ap (own_answer c.args.element.now.kept.table c.args.element.now.kept.ports) (own_post c.args.element.now.kept.me c.args.act.now c.in-Post.proc c.in-Post.desc c.in-Post.packet c.in-Post.is c.requires.own) ∙ c.in-Ok.ensures.answer)

pub returns-in-Err-clause-element : goal.returns-in-Err-clause-element
returns-in-Err-clause-element g c = c.in-Err.ensures.element ∙ ap (λ a. after_own_act a c.args.element.now) (sym (own_post c.args.element.now.kept.me c.args.act.now c.in-Post.proc c.in-Post.desc c.in-Post.packet c.in-Post.is c.requires.own))

pub returns-in-Err-clause-answer : goal.returns-in-Err-clause-answer
returns-in-Err-clause-answer g c = sym (ap (own_answer c.args.element.now.kept.table c.args.element.now.kept.ports) (own_post c.args.element.now.kept.me c.args.act.now c.in-Post.proc c.in-Post.desc c.in-Post.packet c.in-Post.is c.requires.own) ∙ c.in-Err.ensures.answer)
