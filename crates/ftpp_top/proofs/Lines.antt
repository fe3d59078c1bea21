-- The summary line, and the lines of an audit, piece after piece.
use Rattle.std.proofs.Common.{◌≡◌, ℕ, List, ◌++◌, append_assoc}
use Rattle.std.specs.Prelude.{codes}
use Rattle.std.specs.Fmt.{decimal}
use Rattle.ftpp_base.specs.declared.element.Slot.{Slot}
use Rattle.trace_audit.specs.AuditedTrace.{round_word}
use Rattle.report_text.specs.declared.totals.Totals.{Totals}
use Rattle.ftpp_top.specs.Audited.{follows_line, breaks_line}
use Rattle.ftpp_top.specs.SoakLine.{soak_line}

pub soak_pieces : (text : List ℕ) (start : ℕ) (t : Totals) → text ++ soak_line start t ≡ text ++ codes "soak " ++ decimal start ++ codes " cycles " ++ decimal t.cycles ++ codes " served " ++ decimal t.served ++ codes " discarded " ++ decimal t.discarded ++ codes " idle " ++ decimal t.idle ++ codes " stored " ++ decimal t.stored ++ codes " overrun " ++ decimal t.overrun ++ codes " syndromes " ++ decimal t.syndromes ++ codes "\n"
unfolding soak_line
soak_pieces text start t = simp append_assoc

pub follows_pieces : (text : List ℕ) (cycles : ℕ) → text ++ follows_line cycles ≡ text ++ codes "follows cycles " ++ decimal cycles ++ codes "\n"
unfolding follows_line
follows_pieces text cycles = simp append_assoc

pub breaks_pieces : (text : List ℕ) (at : Slot) (from to : ℕ) → text ++ breaks_line at from to ≡ text ++ codes "breaks " ++ decimal at.cycle ++ codes " " ++ round_word at.round ++ codes " " ++ decimal from ++ codes " " ++ decimal to ++ codes "\n"
unfolding breaks_line
breaks_pieces text at from to = simp append_assoc
