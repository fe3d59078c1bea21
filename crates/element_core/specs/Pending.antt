-- What holds of an element between two of its steps.
use Rattle.std.specs.Prelude.{◌≡◌, ℕ, ◌<◌, ◌≤◌, ◌+◌, ◌⊎◌, Bool, true, false, List, Option}
use Rattle.ftpp_base.specs.Lists.{each_below}
use Rattle.ftpp_base.specs.declared.element.Round.TheVariants.{A1, A2, B1, B2}
use Rattle.ftpp_base.specs.declared.limits.TheConstants.{MOST_CYCLES}
use Rattle.two_round.specs.Echoes.{Echoes, result_for}
use Rattle.scoreboard.specs.Times.{AreLinesOf, AreBefore}
use Rattle.syndrome_log.specs.declared.Syndrome.{Syndrome}
use Rattle.element_notes.specs.AtHand.{HasDiffering}
use Rattle.element_core.specs.Element.{Kept, echoes_of}
use Rattle.element_core.specs.Noted.{own_pattern}
use Rattle.element_core.specs.declared.pending.Pending.{Pending}
use Rattle.element_core.specs.declared.Due.{Due}
use Rattle.element_core.specs.declared.Due.TheVariants.{Emit, Absorb}
use Rattle.element_core.specs.ElementValue.{ElementValue, CycleTold, rounds_heard, decision_now, pattern_now, scoreboard_now}
use Rattle.element_core.specs.Steps.{HasOwnCells}

-- an element, by what it keeps and holds of both exchanges
abbrev pub element_with : Kept → Echoes → Echoes → Due → Option CycleTold → List Syndrome → ElementValue
element_with kept patterns packets due last log = record {
  kept = kept;
  heard = record {
    patterns = patterns.copies;
    relayed_patterns = patterns.relayed;
    packets = packets.copies;
    relayed_packets = packets.relayed;
  };
  due = due;
  last = last;
  log = log;
}

-- whether it is in the middle of a cycle
abbrev pub has_begun : Due → Bool
has_begun (Emit A1) = false
has_begun (Emit A2) = true
has_begun (Emit B1) = true
has_begun (Emit B2) = true
has_begun (Absorb round) = true

-- What it made of both rounds of patterns is kept until the cycle ends.
pub record IsPending (n : ℕ) (e : ElementValue) (pending : Pending n) : Type 0 where
  pub results : pending.results ≡ each_below e.kept.table.n (result_for (echoes_of e.kept.me (own_pattern e.kept) e.heard.patterns e.heard.relayed_patterns))
  pub differing : HasDiffering n (echoes_of e.kept.me (own_pattern e.kept) e.heard.patterns e.heard.relayed_patterns) (λ s. true) pending.differing
  pub pattern : pending.pattern ≡ pattern_now e
  pub decision : pending.decision ≡ decision_now e
  pub after : pending.after.value ≡ scoreboard_now e
  pub lines : AreLinesOf e.kept.table pending.after.value
  pub earlier : AreBefore (e.kept.cycle + 1) pending.after.value

-- What an element among n holds.
pub record IsElement (n : ℕ) (e : ElementValue) (pending : Pending n) : Type 0 where
  pub size : (n ≡ 4) ⊎ (n ≡ 5)
  pub elements : e.kept.table.n ≡ n
  pub below : e.kept.me < n
  pub cells : HasOwnCells e
  pub cycle : has_begun e.due ≡ true → e.kept.cycle < MOST_CYCLES
  pub agreed : 2 ≤ rounds_heard e.due → IsPending n e pending
