use Rattle.std.proofs.Common.{◌++◌, length, ap, sym, ◌∙◌, arith}
use Rattle.std.specs.List.{flat_map, zip}
use Rattle.rejoin.specs.State.{slot_bytes}
use Rattle.rejoin.proofs.Walks.{written_more, no_row, pair_at, all_pairs, length-pairs}
use Rattle.rejoin.proofs.writing.put_slots.Goals as goal

pub loop-i-preserved : goal.loop-i-preserved
loop-i-preserved c =
    let seen = c.groups-groups.ensures.groups in
    let long = ap length c.groups-groups.ensures.groups in
    let pairs = length-pairs c.args.table.now.groups c.args.rows.now c.requires.one_each in
    let pair =
    pair_at c.groups-groups.result.now c.args.table.now.groups c.args.rows.now c.loop-i.i c.index-groups-i.result seen
    c.requires.one_each c.loop-i-test.true c.index-groups-i.is in
    record {
      items =
          written_more slot_bytes c.args.out.now.items c.loop-i.out.items c.put_slot.new.out.items (zip c.args.table.now.groups c.args.rows.now)
          c.loop-i.i (c.index-groups-i.result, no_row) (let below = c.loop-i-test.true in omega arith)
          c.loop-i.invariant.items (c.put_slot.ensures.items ∙ ap (λ p. c.loop-i.out.items ++ slot_bytes p) (sym pair));
      len = let before = c.loop-i.invariant.len in let after = c.put_slot.ensures.len in omega arith;
    }

pub returns-clause-items : goal.returns-clause-items
returns-clause-items c =
    c.loop-i.invariant.items
    ∙ ap (λ l. c.args.out.now.items ++ flat_map slot_bytes l)
    (all_pairs c.groups-groups.result.now c.args.table.now.groups c.args.rows.now c.loop-i.i c.groups-groups.ensures.groups
    c.requires.one_each c.loop-i-test.false)
