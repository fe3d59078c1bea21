use Rattle.std.proofs.Common.{rules, ◌≡◌, sym, ap, ◌∙◌, filter}
use Rattle.arrayvec.proofs.ArrayVecLemmas.{filter-from_retain}
use Rattle.diagnosis.specs.Suspects.{is_named_in}
use Rattle.diagnosis.proofs.Left.{of_copies, of_others}
use Rattle.diagnosis.proofs.suspects.Suspects.note.Goals as goal

pub returns-then-is_of_copies : goal.returns-then-is_of_copies
returns-then-is_of_copies c =
    let seen : c.self.inside.left.items ≡ c.args.self.now = cc in
    filter-from_retain _ (is_named_in c.args.s.now) _ (λ x b f' y called. search rules) _ _ c.retain.ensures.filtered
    ∙ ap (filter (is_named_in c.args.s.now)) seen
    ∙ sym (of_copies c.args.s.now c.args.self.now (sym c.is_of_copies.ensures ∙ c.if-is_of_copies.true))

pub returns-else-is_of_copies : goal.returns-else-is_of_copies
returns-else-is_of_copies c = sym (of_others c.args.s.now c.args.self.now (sym c.is_of_copies.ensures ∙ c.if-is_of_copies.false))
