use Rattle.std.proofs.Common.{◌≡◌, drop}
use Rattle.config_table.specs.Table.{first_error}
use Rattle.config_table.proofs.checks.first_error.Given as goal

abbrev pub invariant-loop-error : goal.invariant-loop-error
invariant-loop-error l = first_error (drop l.error-index l.errors) ≡ first_error l.errors
