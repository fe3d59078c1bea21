use Rattle.audited_runs.proofs.PlayedFrames.{plays_run_frames}
use Rattle.audited_runs.proofs.laws.plays_run_frames.Goals as goal

pub returns : goal.returns
returns c = plays_run_frames
