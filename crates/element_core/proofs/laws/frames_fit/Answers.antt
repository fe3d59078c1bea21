use Rattle.element_core.proofs.FrameShapes.{frames_fit}
use Rattle.element_core.proofs.laws.frames_fit.Goals as goal

pub returns : goal.returns
returns c = frames_fit
