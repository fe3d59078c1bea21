use Rattle.std.proofs.Common.{◌<◌, ◌∙◌, ◌++◌, [], ap, sym, arith}
use Rattle.std.proofs.lemmas.List.{append-nil}
use Rattle.ftpp_base.specs.Sets.{has}
use Rattle.element_notes.specs.Notes.{off_relays}
use Rattle.element_notes.proofs.LookedAt.{no_copies, no_relays, copies_looked, relays_looked}
use Rattle.element_notes.proofs.copies.note_exchange.Goals as goal

pub returns-clause-items : goal.returns-clause-items
returns-clause-items g c senders differing =
    let x = c.args.x.now in
    let set = c.args.differing.now in
    let among : x.me < g.row.N = (let own = c.requires.whole.own in let among = c.requires.whole.among in omega arith) in
    c.note_relays.ensures.items
    ∙ ap (λ l. l ++ off_relays c.args.cycle c.args.kinds.now.relays x g.row.N (has set)) c.note_copies.ensures.items
    ∙ (λ t.
    c.args.out.now.items
    ++ copies_looked c.args.cycle c.args.kinds.now.copies x g.row.N senders set differing among t
    ++ relays_looked c.args.cycle c.args.kinds.now.relays x g.row.N senders set differing t)

pub returns-then-differing-eq0-clause-items : goal.returns-then-differing-eq0-clause-items
returns-then-differing-eq0-clause-items g c senders differing =
    let x = c.args.x.now in
    let n = g.row.N in
    let cycle = c.args.cycle in
    let kinds = c.args.kinds.now in
    let set = c.args.differing.now in
    let among : x.me < n = (let own = c.requires.whole.own in let among = c.requires.whole.among in omega arith) in
    let copies = sym (copies_looked cycle kinds.copies x n senders set differing among) ∙ no_copies cycle kinds.copies x n set c.if-differing-eq0.true in
    let relays = sym (relays_looked cycle kinds.relays x n senders set differing) ∙ no_relays cycle kinds.relays x n set c.if-differing-eq0.true in
    sym ((λ t. c.args.out.now.items ++ copies t ++ relays t) ∙ append-nil (c.args.out.now.items ++ []) ∙ append-nil c.args.out.now.items)
