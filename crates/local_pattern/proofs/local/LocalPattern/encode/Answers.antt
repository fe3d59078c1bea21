use Rattle.std.proofs.Common.{◌≡◌, ◌∙◌, ap, Some, arith}
use Rattle.std.proofs.lemmas.Grind.{common_steps}
use Rattle.local_pattern.specs.Pattern.{read_column, column_bytes}
use Rattle.local_pattern.proofs.Columns.{read_back}
use Rattle.local_pattern.proofs.local.LocalPattern.encode.Goals as goal

pub returns-clause-read_back : goal.returns-clause-read_back
returns-clause-read_back c =
    let bytes : c.loop-port.bytes ≡ column_bytes c.self.inside.entries = grind (arith, common_steps) in
    let back : read_column (Some c.loop-port.bytes) ≡ c.self.inside.entries =
    ap (λ l. read_column (Some l)) bytes ∙ read_back c.self.inside.entries c.self.invariant.0 c.self.invariant.1 in
    cc
