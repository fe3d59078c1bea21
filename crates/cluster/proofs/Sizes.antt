-- A station of four or five elements fits in memory, and so do all of them together.
use Rattle.std.proofs.Common.{◌≡◌, ◌⊎◌, ◌<◌, ◌*◌, ℕ, Fits, w64, inl, inr, arith}
use Rattle.std.specs.Mem.{FitsInMemory}
use Rattle.cluster.specs.contracts.stations.Station.{the_row}
use denote.Param.{number, layout}
use prog.Memory.{size}

pub station_fits : (N : ℕ) → (N ≡ 4) ⊎ (N ≡ 5) → FitsInMemory (the_row (number N))
station_fits N few = elim few [ inl e ↦ rw e (omega arith) | inr e ↦ rw e (omega arith) ]

-- the place of each of them has a number of bytes
pub place_fits : (N place : ℕ) → (N ≡ 4) ⊎ (N ≡ 5) → place < N → Fits w64 (place * size (layout (the_row (number N))))
place_fits N place few there = elim few [ inl e ↦ rw e (omega (arith, there)) | inr e ↦ rw e (omega (arith, there)) ]
