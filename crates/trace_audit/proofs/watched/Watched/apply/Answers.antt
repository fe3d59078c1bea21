use Rattle.std.proofs.Common.{◌≡◌, sym, ◌∙◌, ap, subst}
use Rattle.config_table.specs.Table.{TableValue}
use Rattle.scoreboard.specs.Times.{AreOthersHeldBy}
use Rattle.table_update.specs.declared.Applied.TheVariants.{Done}
use Rattle.table_update.specs.Updates.{applied, named_group}
use Rattle.element_core.proofs.Sound.{size-table_after}
use Rattle.element_core.proofs.Updated.{others_stay}
use Rattle.trace_audit.proofs.watched.Watched.apply.Goals as goal

pub after_update-requires : goal.after_update-requires
after_update-requires g c =
    let done : applied c.self.inside.table c.args.update.now ≡ Done c.in-Done.cleared = sym c.apply.ensures.answer ∙ c.in-Done.is in
    let others = others_stay c.self.inside.table c.args.update.now c.in-Done.cleared c.self.inside.scoreboard c.n-valid.ensures.valid c.self.invariant.lines done in
    subst (λ vid. AreOthersHeldBy c.apply.new.table vid c.self.inside.scoreboard) (sym c.group.ensures)
    (subst (λ (t : TableValue). AreOthersHeldBy t (named_group c.args.update.now) c.self.inside.scoreboard) (sym c.apply.ensures.table) others)

pub invariant_of-self : goal.invariant_of-self
invariant_of-self g c = record {
  size = ap (λ (t : TableValue). t.n) c.apply.ensures.table ∙ size-table_after c.self.inside.table c.args.update.now ∙ c.self.invariant.size;
  cycle = c.self.invariant.cycle;
  lines = c.after_update.ensures.lines;
  earlier = c.after_update.ensures.earlier c.self.inside.cycle c.self.invariant.earlier;
}
