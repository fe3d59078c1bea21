use Rattle.std.proofs.Common.{sym}
use Rattle.frame_format.proofs.Decoded.{frame-decoded}
use Rattle.frame_format.proofs.laws.read_is_written.Goals as goal

pub returns : goal.returns
returns c n slot sender bytes cells e = sym (frame-decoded n slot sender bytes cells e).spelled
