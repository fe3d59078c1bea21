use Rattle.std.proofs.Common.{◌≡◌, ◌≤◌, ℕ, refl, ap, ◌∙◌, subst, arith}
use Rattle.element_core.specs.Run.{AgreedState as Agreed}
use Rattle.element_core.specs.ElementValue.{ElementValue}
use Rattle.element_core.specs.Rejoins.{IsVotedState}
use Rattle.element_core.proofs.Holding.{few_by}
use Rattle.element_core.proofs.element.Element.rejoin.Goals as goal

pub voted_state-requires : goal.voted_state-requires
voted_state-requires g c =
    let few : g.row.N ≤ 5 = few_by g.row.N c.self.invariant.0.size in
    (grind (arith, few), few)

pub returns-in-None : goal.returns-in-None
returns-in-None g c =
    let me : c.index.result ≡ c.args.self.now.kept.me = c.index.ensures.number ∙ c.me.ensures.me ∙ ap (λ (e : ElementValue). e.kept.me) c.self.view_is in
    (subst (λ (m : ℕ). (s : Agreed) → IsVotedState g.row.N m c.args.states.now s → ⊥) me (c.voted_state.ensures.none c.in-None.is), refl)
