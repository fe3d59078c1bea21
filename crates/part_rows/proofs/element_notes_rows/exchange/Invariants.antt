use Rattle.std.proofs.Common.{◌≡◌}
use Rattle.part_rows.proofs.element_notes_rows.exchange.Given as goal

-- it is still the same element's
abbrev pub invariant-loop-k : goal.invariant-loop-k
invariant-loop-k g l = l.x.me ≡ l.me
