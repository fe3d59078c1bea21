-- Columns that are read of cells.
use Rattle.std.proofs.Common.{◌≡◌, ◌∙◌, ℕ, List, [], None, ap, arith}
use Rattle.std.proofs.lemmas.List.FromFn.{fill_by_all, get_or-map-range_with_len, length-map-range_with_len}
use Rattle.ftpp_base.specs.Lists.{cell_at, each_below}
use Rattle.bit_vote.specs.Vote.{Cell}
use Rattle.local_pattern.specs.declared.Entry.{Entry}
use Rattle.local_pattern.specs.Pattern.{read_column}

-- what is read of each entry of a list is read of what makes the entries
pub read_each : (n : ℕ) (f : ℕ → Cell) (cells : List Cell) → cells ≡ each_below n f → each_below n (λ s. read_column (cell_at cells s)) ≡ each_below n (λ s. read_column (f s))
read_each n f cells e =
    let column : ℕ → List Entry = λ s. read_column (cell_at cells s) in
    fill_by_all (λ s. read_column (f s)) (each_below n column) n [] (length-map-range_with_len column 0 n)
    (λ s l. get_or-map-range_with_len column 0 n s s [] l (omega arith)
    ∙ ap read_column (ap (λ cs. cell_at cs s) e ∙ get_or-map-range_with_len f 0 n s s None l (omega arith)))
