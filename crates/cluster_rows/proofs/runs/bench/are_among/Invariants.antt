use Rattle.std.proofs.Common.{ℕ, ◌<◌, slice_index_or}
use Rattle.cluster.specs.Follows.{IsActAmong}
use Rattle.cluster_rows.proofs.runs.bench.are_among.Given as goal

abbrev pub invariant-loop-act : goal.invariant-loop-act
invariant-loop-act l = (k : ℕ) (d : _) → k < l.act-index → IsActAmong 4 (slice_index_or l.acts k d)
