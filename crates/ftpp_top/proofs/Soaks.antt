-- The lines of the outcomes of soaks.
use Rattle.std.proofs.Common.{◌≡◌, ℕ, List, map}
use Rattle.std.specs.List.{flat_map}
use Rattle.std.proofs.lemmas.List.Folds.{flat_map-map}
use Rattle.built_in_tables.specs.Tables.{c5}
use Rattle.workload.specs.Workload.{workload}
use Rattle.report_text.specs.PlayedRun.{totals_played}
use Rattle.ftpp_top.specs.Commands.{line_of, line_from, in_order, soak_outcome}

pub swept_lines : (cycles : ℕ) (starts : List ℕ) → flat_map line_of (map (λ start. soak_outcome start cycles) starts) ≡ flat_map (line_from cycles) starts
swept_lines cycles starts = flat_map-map line_of (λ start. soak_outcome start cycles) starts

pub outcome_with : (start cycles : ℕ) (totals : List ℕ) → totals ≡ in_order (totals_played c5 (workload start cycles)) → record { start = start; totals = totals } ≡ soak_outcome start cycles
outcome_with start cycles totals e = λ i. record { start = start; totals = e i }
