-- What is drawn lies in its ranges.
use Rattle.std.proofs.Common.{ℕ, ◌<◌, arith}
use Rattle.workload.specs.declared.draws.Draws.{Draws}
use Rattle.workload.specs.Draws.{draws}

pub record AreDraws (d : Draws) : Type 0 where
  pub dest : d.dest < 256
  pub byte : d.byte < 256
  pub to : d.to < 4
  pub place : d.place < 8

pub are_draws : (s : ℕ) → AreDraws (draws s).0
unfolding draws
are_draws s = record { dest = omega arith; byte = omega arith; to = omega arith; place = omega arith }
