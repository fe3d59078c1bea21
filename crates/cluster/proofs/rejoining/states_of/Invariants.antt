use Rattle.std.proofs.Common.{◌≡◌, ℕ, ◌<◌, length, get_or}
use Rattle.ftpp_base.specs.Lists.{cell_at}
use Rattle.cluster.specs.Stations.{elements_of}
use Rattle.cluster.specs.Rejoins.{TellsState, state_told}
use Rattle.cluster.proofs.rejoining.states_of.Given as goal

abbrev pub invariant-loop-place : goal.invariant-loop-place
invariant-loop-place g l = record {
  long : length l.states ≡ g.row.N;
  put : (s : ℕ) → s < l.place → cell_at l.states s ≡ state_told (elements_of l.stations) s;
  tell : (s : ℕ) (d : _) → s < l.place → TellsState (get_or l.stations s d).element;
}
