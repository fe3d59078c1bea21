use Rattle.std.proofs.Common.{ap, replicate, None}
use Rattle.std.specs.Prelude.{unwrap_or}
use Rattle.frame_format.specs.Frames.{cells_in, frame_bytes}
use Rattle.frame_format.proofs.Decoded.{decoded-frame}
use Rattle.frame_format.proofs.laws.written_is_read.Goals as goal

pub returns : goal.returns
returns c n slot sender cells is =
    ap (λ o. unwrap_or o (replicate (cells_in n slot.round) None)) (decoded-frame n slot sender (frame_bytes slot sender cells) cells is)
