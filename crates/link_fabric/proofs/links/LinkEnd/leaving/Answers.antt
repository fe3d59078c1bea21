use Rattle.std.proofs.Common.{◌≡◌, [], Bool, true, false, cond, ap, sym, ◌∙◌, rules, get_or}
use Rattle.std.proofs.lemmas.Grind.{common_steps}
use Rattle.link_fabric.specs.Rows.{rows_of}
use Rattle.link_fabric.proofs.Ended.{leaving_of}
use Rattle.link_fabric.proofs.links.LinkEnd.leaving.Goals as goal

pub returns-then-self-index : goal.returns-then-self-index
returns-then-self-index g c =
    let link = c.args.self.now in
    let row : c.index-deref-index.result.items ≡ get_or (rows_of link.leaves.items) c.args.to [] = search (rules, common_steps) in
    let has : get_or link.has_own c.args.to false ≡ true = search (rules, common_steps) in
    row ∙ sym (leaving_of link c.args.to c.requires.below c.requires.other ∙ ap (λ (b : Bool). cond b (get_or (rows_of link.leaves.items) c.args.to []) link.shared.items) has)

pub returns-else-self-index : goal.returns-else-self-index
returns-else-self-index g c =
    let link = c.args.self.now in
    let none : get_or link.has_own c.args.to false ≡ false = search (rules, common_steps) in
    sym (leaving_of link c.args.to c.requires.below c.requires.other ∙ ap (λ (b : Bool). cond b (get_or (rows_of link.leaves.items) c.args.to []) link.shared.items) none)
