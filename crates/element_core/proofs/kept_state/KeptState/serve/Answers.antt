use Rattle.std.proofs.Common.{◌≡◌, ◌<◌, ◌+◌, sym, subst, ap}
use Rattle.scoreboard.specs.Times.{AreLinesOf, AreBefore, OnlyMembersLag}
use Rattle.element_core.specs.Element.{Kept}
use Rattle.element_core.proofs.KeptStates.{stands_with, stands_next}
use Rattle.element_core.proofs.kept_state.KeptState.serve.Goals as goal

pub deliver-handed-requires : goal.deliver-handed-requires
deliver-handed-requires c =
    (stands_with c.self.inside.cycle c.self.inside.table c.self.inside.scoreboard.value c.self.inside.ports c.serve.new.self _ c.self.invariant c.serve.ensures).1

pub invariant_of-self : goal.invariant_of-self
invariant_of-self c =
    let cycle = c.self.inside.cycle in
    let table = c.self.inside.table in
    let board = c.self.inside.scoreboard.value in
    let served = stands_with cycle table board c.self.inside.ports c.serve.new.self _ c.self.invariant c.serve.ensures in
    let handed = stands_with cycle table board c.serve.new.self c.deliver-handed.new.self _ served c.deliver-handed.ensures.ports in
    let is : c.swap.new.x.value ≡ c.args.after.now.value = ap (λ b. b.value) c.swap.ensures.x_after in
    stands_next cycle table board c.swap.new.x.value c.deliver-handed.new.self handed
    (subst (λ (k : Kept). k.cycle < 100000) (sym c.self.view_is) c.requires.cycle)
    (subst (AreLinesOf table) (sym is) (subst (λ (k : Kept). AreLinesOf k.table c.args.after.now.value) (sym c.self.view_is) c.requires.lines))
    (subst (AreBefore (cycle + 1)) (sym is) (subst (λ (k : Kept). AreBefore (k.cycle + 1) c.args.after.now.value) (sym c.self.view_is) c.requires.earlier))
    (subst (OnlyMembersLag table) (sym is) (subst (λ (k : Kept). OnlyMembersLag k.table c.args.after.now.value) (sym c.self.view_is) c.requires.members))
