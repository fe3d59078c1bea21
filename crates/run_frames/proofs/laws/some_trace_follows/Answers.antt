use Rattle.run_frames.proofs.Existing.{some_trace_follows}
use Rattle.run_frames.proofs.laws.some_trace_follows.Goals as goal

pub returns : goal.returns
returns c = some_trace_follows
