use Rattle.std.proofs.Common.{◌∙◌, ap, sym, set, replicate, true, false, Some, None}
use Rattle.std.proofs.lemmas.List.{length-set}
use Rattle.bit_vote.proofs.Packings.{set_present, set_absent, zeroed_present, zeroed_absent, length-packed}
use Rattle.bit_vote.proofs.rows.Cells.set.Goals as goal

pub invariant_of-self : goal.invariant_of-self
invariant_of-self g c = (length-set _ _ _ ∙ c.self.invariant.0, length-set _ _ _ ∙ c.self.invariant.1, zeroed_absent g.row.B _ _ c.args.i c.self.invariant.2, c.self.invariant.3)

pub invariant_of-self-in-Some : goal.invariant_of-self-in-Some
invariant_of-self-in-Some g c = (length-set _ _ _ ∙ c.self.invariant.0, length-set _ _ _ ∙ c.self.invariant.1, zeroed_present g.row.B _ _ c.args.i c.in-Some.row c.self.invariant.2, c.self.invariant.3)

pub returns-in-None-clause-set : goal.returns-in-None-clause-set
returns-in-None-clause-set g c = set_absent c.self.inside.present c.self.inside.rows c.args.i _ ∙ ap (λ l. set l c.args.i None) c.self.view_is ∙ ap (set c.args.self.now c.args.i) (sym c.in-None.is)

pub returns-in-Some-clause-set : goal.returns-in-Some-clause-set
returns-in-Some-clause-set g c = set_present c.self.inside.present c.self.inside.rows c.args.i c.in-Some.row ∙ ap (λ l. set l c.args.i (Some c.in-Some.row)) c.self.view_is ∙ ap (set c.args.self.now c.args.i) (sym c.in-Some.is)

pub returns-in-None-clause-length : goal.returns-in-None-clause-length
returns-in-None-clause-length g c =
    let tests = length-set c.self.inside.present c.args.i false ∙ c.self.invariant.0 in
    let rows = length-set c.self.inside.rows c.args.i (replicate g.row.B 0) ∙ c.self.invariant.1 in
    length-packed (set c.self.inside.present c.args.i false) (set c.self.inside.rows c.args.i (replicate g.row.B 0)) (tests ∙ sym rows) ∙ tests

pub returns-in-Some-clause-length : goal.returns-in-Some-clause-length
returns-in-Some-clause-length g c =
    let tests = length-set c.self.inside.present c.args.i true ∙ c.self.invariant.0 in
    let rows = length-set c.self.inside.rows c.args.i c.in-Some.row ∙ c.self.invariant.1 in
    length-packed (set c.self.inside.present c.args.i true) (set c.self.inside.rows c.args.i c.in-Some.row) (tests ∙ sym rows) ∙ tests
