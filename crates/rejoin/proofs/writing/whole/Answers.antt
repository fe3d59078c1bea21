use Rattle.std.proofs.Common.{length, drop, replicate, ◌++◌, ◌∙◌, ap}
use Rattle.rejoin.proofs.Pieces.{filled_pieces}
use Rattle.rejoin.proofs.writing.whole.Goals as goal

pub returns : goal.returns
returns c =
    filled_pieces c.args.out.now.items c.put_front.new.bytes
    (c.put_front.ensures ∙ ap (λ l. l ++ drop (length l) (replicate 1887 0)) c.as_slice.ensures.value)
