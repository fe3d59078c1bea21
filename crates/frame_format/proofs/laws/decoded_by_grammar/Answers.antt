use Rattle.frame_format.proofs.Decoded.{decoded-frame, frame-decoded}
use Rattle.frame_format.proofs.laws.decoded_by_grammar.Goals as goal

pub returns : goal.returns
returns c n slot sender bytes cells = (frame-decoded n slot sender bytes cells, decoded-frame n slot sender bytes cells)
