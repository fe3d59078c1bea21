-- The summary line of a soak.
use Rattle.std.specs.Prelude.{ℕ, List, ◌++◌, codes}
use Rattle.std.specs.Fmt.{decimal}
use Rattle.report_text.specs.declared.totals.Totals.{Totals}

unfoldable pub soak_line : ℕ → Totals → List ℕ
soak_line start t =
    codes "soak " ++ decimal start ++ codes " cycles " ++ decimal t.cycles ++ codes " served " ++ decimal t.served ++ codes " discarded " ++ decimal t.discarded ++ codes " idle " ++ decimal t.idle ++ codes " stored " ++ decimal t.stored ++ codes " overrun " ++ decimal t.overrun ++ codes " syndromes " ++ decimal t.syndromes ++ codes "\n"
