use Rattle.std.proofs.Common.{◌≡◌, sym, ◌∙◌, ap, subst, List}
use Rattle.ftpp_base.specs.declared.element.Proc.{Proc}
use Rattle.config_table.specs.Table.{TableValue}
use Rattle.scoreboard.specs.Board.{Scoreboard}
use Rattle.scoreboard.specs.Times.{AreOthersHeldBy, AreBefore, OnlyOthersLag}
use Rattle.table_update.specs.declared.Applied.TheVariants.{Done}
use Rattle.table_update.specs.Updates.{applied, named_group, table_after}
use Rattle.element_core.proofs.Sound.{size-table_after}
use Rattle.element_ports.specs.Ports.{CanGoOver}
use Rattle.element_core.proofs.UpdatePorts.{each_update_fits}
use Rattle.element_core.proofs.KeptStates.{stands_on}
use Rattle.element_core.proofs.Updated.{others_stay, others_lag}
use Rattle.element_core.proofs.kept_state.KeptState.apply.Goals as goal

pub after_update-requires : goal.after_update-requires
after_update-requires c =
    let done : applied c.self.inside.table c.args.update.now ≡ Done c.in-Done.cleared = sym c.apply.ensures.answer ∙ c.in-Done.is in
    let others = others_stay c.self.inside.table c.args.update.now c.in-Done.cleared c.self.inside.scoreboard.value c.apply.ensures.valid c.self.invariant.0.lines done in
    subst (λ (board : Scoreboard). AreOthersHeldBy c.apply.new.table c.group.result board) (sym c.deref_mut.ensures.value)
    (subst (λ vid. AreOthersHeldBy c.apply.new.table vid c.self.inside.scoreboard.value) (sym c.group.ensures)
    (subst (λ (t : TableValue). AreOthersHeldBy t (named_group c.args.update.now) c.self.inside.scoreboard.value) (sym c.apply.ensures.table) others))

pub update-requires : goal.update-requires
update-requires c =
    let done : applied c.self.inside.table c.args.update.now ≡ Done c.in-Done.cleared = sym c.apply.ensures.answer ∙ c.in-Done.is in
    let fits = each_update_fits c.self.inside.table c.args.update.now c.in-Done.cleared c.self.inside.ports c.apply.ensures.valid c.self.invariant.1 done in
    subst (λ (t : TableValue). CanGoOver t c.as_slice.result.now c.self.inside.ports) (sym c.apply.ensures.table)
    (subst (λ (cleared : List Proc). CanGoOver (table_after c.self.inside.table c.args.update.now) cleared c.self.inside.ports) (sym c.as_slice.ensures.value) fits)

pub invariant_of-self : goal.invariant_of-self
invariant_of-self c =
    let done : applied c.self.inside.table c.args.update.now ≡ Done c.in-Done.cleared = sym c.apply.ensures.answer ∙ c.in-Done.is in
    let others = others_lag c.self.inside.table c.args.update.now c.in-Done.cleared c.self.inside.scoreboard.value c.apply.ensures.valid c.self.invariant.0.lines c.self.invariant.0.members done in
    stands_on c.self.inside.cycle c.self.inside.table c.apply.new.table c.self.inside.scoreboard.value c.after_update.new.self c.self.inside.ports c.update.new.self
    c.self.invariant
    (ap (λ (t : TableValue). t.n) c.apply.ensures.table ∙ size-table_after c.self.inside.table c.args.update.now)
    c.update.ensures.me
    c.after_update.ensures.lines
    (c.after_update.ensures.earlier c.self.inside.cycle (subst (AreBefore c.self.inside.cycle) (sym c.deref_mut.ensures.value) c.self.invariant.0.earlier))
    (c.after_update.ensures.members (subst (λ (board : Scoreboard). OnlyOthersLag c.apply.new.table c.group.result board) (sym c.deref_mut.ensures.value)
    (subst (λ vid. OnlyOthersLag c.apply.new.table vid c.self.inside.scoreboard.value) (sym c.group.ensures)
    (subst (λ (t : TableValue). OnlyOthersLag t (named_group c.args.update.now) c.self.inside.scoreboard.value) (sym c.apply.ensures.table) others))))
    c.update.ensures.limits
