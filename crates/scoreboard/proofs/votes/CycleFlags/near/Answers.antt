use Rattle.std.proofs.Common.{List, find, refl, sym, ◌∙◌, ap, inl, inr}
use Rattle.config_table.specs.declared.decisions.GroupFlags.{GroupFlags}
use Rattle.scoreboard.specs.Board.{are_flags_of}
use Rattle.scoreboard.specs.Steps.{flags_number}
use Rattle.scoreboard.proofs.Order.{found_near, none_near}
use Rattle.scoreboard.proofs.votes.CycleFlags.near.Goals as goal

pub returns-in-Some : goal.returns-in-Some
returns-in-Some c =
    let vid = c.args.vid in
    let placed : List GroupFlags = c.self.inside.placed.now in
    elim c.self.invariant.1 [
      | inl same ↦
          sym (found_near flags_number (are_flags_of vid) placed c.args.place vid c.in-Some.one.now (λ y. refl) c.self.invariant.0
          c.in-Some.ensures.lookup.0 c.in-Some.ensures.lookup.1 c.if-one-vid.true)
          ∙ ap (find (are_flags_of vid)) (same ∙ c.self.view_is)
      | inr none ↦ absurd (none_near placed c.args.place none c.in-Some.ensures.lookup.0)
    ]
