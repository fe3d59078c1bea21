use Rattle.run_frames.proofs.Existing.{frames_exist}
use Rattle.run_frames.proofs.laws.frames_exist.Goals as goal

pub returns : goal.returns
returns c = frames_exist
