use Rattle.std.proofs.Common.{sym, ◌∙◌}
use Rattle.std.proofs.lemmas.List.{take_rest}
use Rattle.frame_format.proofs.LikeFrames.{like_reads}
use Rattle.frame_format.proofs.reading.is_like.Goals as goal

pub returns : goal.returns
returns c t n =
    like_reads n c.args.slot c.args.sender c.args.other c.args.bytes.now c.args.before.now
    (c.is_headed.ensures.0 c.if-not-is_headed.false).1
    (c.is_headed-2.ensures.0 c.if-not-is_headed-2.false).1
    (sym (take_rest c.args.bytes.now 6) ∙ c.same_bytes.ensures.0 t ∙ take_rest c.args.before.now 6)
