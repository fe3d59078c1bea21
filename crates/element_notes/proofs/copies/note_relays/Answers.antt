use Rattle.std.proofs.Common.{◌≡◌, ◌≢◌, ◌+◌, arith, ap, length}
use Rattle.ftpp_base.specs.Lists.{others}
use Rattle.ftpp_base.specs.Sets.{has}
use Rattle.element_notes.specs.Notes.{off_by}
use Rattle.element_notes.proofs.OffRows.{others_few, others_longer, others_skip, relays_more, relays_same, another, itself}
use Rattle.element_notes.proofs.copies.note_relays.Goals as goal
use Rattle.element_notes.proofs.copies.note_relays.Goals.{then-ne, else-ne}

pub loop-k-preserved : goal.loop-k-preserved
loop-k-preserved g c =
    let by = off_by c.args.heading.now.cycle c.args.heading.now.kind c.args.x.now g.row.N (has c.args.looked_at.now) in
    let before = c.loop-k.invariant in
    let k = c.loop-k.k in
    elim c.if-ne.branch [
      | then-ne w ↦
          let away : k ≢ c.args.me = another k c.at-relay.result c.args.me c.ne.result c.at-relay.ensures c.ne.ensures w.if-ne.true in
          let one_more = others_longer k c.args.me away in
          rw w.out-is (record {
            items = relays_more by c.args.me k c.at-relay.result c.args.out.now.items c.loop-k.out.items _ before.items
                w.note_relay.ensures.items c.at-relay.ensures away;
            few = omega (arith, before.few, w.note_relay.ensures.few, one_more);
            room = omega (arith, before.room, w.note_relay.ensures.few);
          })
      | else-ne w ↦
          let same : k ≡ c.args.me = itself k c.at-relay.result c.args.me c.ne.result c.at-relay.ensures c.ne.ensures w.if-ne.false in
          let skip = others_skip k c.args.me same in
          rw w.out-is (record {
            items = relays_same by c.args.me k c.args.out.now.items c.loop-k.out.items before.items same;
            few = let count : length (others (k + 1) c.args.me) ≡ length (others k c.args.me) = ap length skip in omega (arith, before.few, count);
            room = omega (arith, before.room);
          })
    ]

pub returns-clause-few : goal.returns-clause-few
returns-clause-few g c =
    let whole = c.requires.whole in
    let most = others_few c.loop-k.k g.row.N c.args.me c.loop-k.auto.k-end whole.few whole.among in
    omega (arith, c.loop-k.invariant.few, most)
