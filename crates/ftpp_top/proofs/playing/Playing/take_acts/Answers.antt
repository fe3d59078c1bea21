use Rattle.std.proofs.Common.{◌≡◌, ℕ, ◌≤◌, List, length, sym, ◌∙◌, subst, ap, arith}
use Rattle.packet_format.specs.declared.acts.Act.{Act}
use Rattle.script_text.specs.Reading.{plan_of}
use Rattle.ftpp_top.specs.Due.{acts_in}
use Rattle.ftpp_top.proofs.Begun.{few_at}
use Rattle.ftpp_top.proofs.Again.{row_fits, row_among, taken_at}
use Rattle.ftpp_top.proofs.playing.Playing.take_acts.Goals as goal

pub due_acts-self-requires-clause-few : goal.due_acts-self-requires-clause-few
due_acts-self-requires-clause-few g c =
    let s = c.args.self.now in
    let plan = plan_of s.script.now in
    let k : ℕ = length s.cluster.journal in
    let here : c.len-cycle.result ≡ k = c.len-cycle.ensures.length ∙ ap length c.journal.ensures in
    let few : length (acts_in s.acts.now k) ≤ 80 = subst (λ (xs : List Act). length xs ≤ 80) (sym (c.requires.later k (omega arith))) (few_at g.row.N plan k c.requires.playable) in
    rw here few

pub returns-clause-fits : goal.returns-clause-fits
returns-clause-fits g c =
    let s = c.args.self.now in
    row_fits g.row.N (plan_of s.script.now) s.cluster s.acts.now c.due_acts-self.result.now c.due_acts-self.new.row.items s.rejoins.now c.requires
    (taken_at (length s.cluster.journal) c.len-cycle.result s.acts.now c.due_acts-self.new.row.items c.due_acts-self.result.now (c.len-cycle.ensures.length ∙ ap length c.journal.ensures) c.due_acts-self.ensures.due c.due_acts-self.ensures.ordered c.due_acts-self.ensures.later c.due_acts-self.ensures.count)

pub returns-clause-among : goal.returns-clause-among
returns-clause-among g c =
    let s = c.args.self.now in
    row_among g.row.N (plan_of s.script.now) s.cluster s.acts.now c.due_acts-self.result.now c.due_acts-self.new.row.items s.rejoins.now c.requires
    (taken_at (length s.cluster.journal) c.len-cycle.result s.acts.now c.due_acts-self.new.row.items c.due_acts-self.result.now (c.len-cycle.ensures.length ∙ ap length c.journal.ensures) c.due_acts-self.ensures.due c.due_acts-self.ensures.ordered c.due_acts-self.ensures.later c.due_acts-self.ensures.count)
