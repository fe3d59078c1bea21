use Rattle.std.proofs.Common.{◌≡◌, ◌∙◌, ap, sym, subst, refl, length, ℕ, List}
use Rattle.std.specs.Prelude.{Some}
use Rattle.local_pattern.specs.declared.Entry.{Entry}
use Rattle.local_pattern.specs.Pattern.{ArePlain, read_column}
use Rattle.local_pattern.proofs.Columns.{read_plain}
use Rattle.local_pattern.proofs.local.LocalPattern.reread.Goals as goal

eight_read : (row : List ℕ) → length (read_column (Some row)) ≡ 8
unfolding read_column
eight_read row = refl

pub invariant_of-self : goal.invariant_of-self
invariant_of-self c =
    let P : List Entry → Type 0 = λ l. ArePlain l in
    (ap length c.read_row.ensures ∙ eight_read c.in-Some.row.now, subst P (sym c.read_row.ensures) (read_plain c.in-Some.row.now))
