use Rattle.run_frames.proofs.NodeRun.{node_in_run}
use Rattle.run_frames.proofs.laws.node_in_run.Goals as goal

pub returns : goal.returns
returns c = node_in_run
