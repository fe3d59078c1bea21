use Rattle.std.proofs.Common.{[], ◌∷◌, ◌++◌, ap, sym, ◌∙◌, arith}
use Rattle.std.proofs.lemmas.List.FromFn.{map-range_with_len_more}
use Rattle.table_update.proofs.Spelled.{pair_at}
use Rattle.table_update.proofs.reading.read_members.Goals as goal

pub loop-i-preserved : goal.loop-i-preserved
loop-i-preserved c = record {
  all =
      c.push.ensures.items
      ∙ ap (λ procs. procs ++ pair_at c.args.bytes.now c.loop-i.i ∷ []) c.loop-i.invariant.all
      ∙ sym (map-range_with_len_more (pair_at c.args.bytes.now) 0 c.loop-i.i c.loop-i.i (omega arith));
  count = let before = c.loop-i.invariant.count in let after = c.push.ensures.len in omega arith;
}
