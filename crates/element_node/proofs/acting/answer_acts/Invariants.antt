use Rattle.std.proofs.Common.{◌≡◌, ◌*◌, ◌≤◌, ◌++◌, length, drop}
use Rattle.ftpp_base.specs.declared.element.Round.TheVariants.{A1}
use Rattle.element_core.specs.declared.Due.TheVariants.{Emit}
use Rattle.element_node.specs.Node.{after_own_acts, answers_text}
use Rattle.element_node.proofs.acting.answer_acts.Given as goal

abbrev pub invariant-loop-k : goal.invariant-loop-k
invariant-loop-k g l =
    (after_own_acts l.element (drop l.k l.acts.items) ≡ after_own_acts l.initial.element l.acts.items)
    × (l.text.items ++ answers_text l.element (drop l.k l.acts.items) ≡ answers_text l.initial.element l.acts.items)
    × (length l.text.items ≤ 72 * l.k)
    × (l.element.due ≡ Emit A1)
    × (l.element.kept.me ≡ l.fn.me)
