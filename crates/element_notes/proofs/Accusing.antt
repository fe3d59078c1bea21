-- Entries that accuse the elements of a set: those of each kind that goes by members.
use Rattle.std.proofs.Common.{◌≡◌, ℕ, ◌<◌, Bool, false, List, [], ◌∷◌, map, refl, ap, arith}
use Rattle.std.specs.Prelude.{filter}
use Rattle.ftpp_base.specs.Lists.{below}
use Rattle.ftpp_base.specs.Sets.{has}
use Rattle.ftpp_base.specs.declared.sets.Set8.{Set8}
use Rattle.bit_vote.specs.Vote.{Cell}
use Rattle.two_round.specs.Echoes.{Echoes}
use Rattle.config_table.specs.declared.decisions.Decision.{Decision}
use Rattle.config_table.specs.declared.decisions.Decision.TheVariants.{Idle, Discard, Exchange}
use Rattle.config_table.specs.Table.{TableValue}
use Rattle.local_pattern.specs.Columns.{Pattern}
use Rattle.syndrome_log.specs.declared.SyndromeKind.{SyndromeKind}
use Rattle.syndrome_log.specs.declared.SyndromeKind.TheVariants as kind
use Rattle.syndrome_log.specs.Log.{noted}
use Rattle.element_notes.specs.Notes.{absent_ones, full_ones, off_values}
use Rattle.element_notes.specs.Notes.{accused_where}
use Rattle.element_notes.specs.declared.entries.Heading.{Heading}
use Rattle.element_notes.specs.declared.entries.Accused.TheVariants.{Itself}
use Rattle.element_notes.specs.Words.{entry_about, entries_about, is_absent, is_full, is_off}
use Rattle.element_notes.proofs.OffRows.{filter_range-same}

-- the entries about a set are those on the elements that pass its test
pub accused_same : (heading : Heading) (n : ℕ) (nes : Set8) (test : ℕ → Bool) → ((s : ℕ) → s < n → has nes s ≡ test s)
    → entries_about heading Itself n nes ≡ accused_where heading.cycle heading.kind test (below n)
accused_same heading n nes test same = ap (map (entry_about heading Itself)) (filter_range-same (has nes) test 0 n n (omega arith) (λ s l h. same s l))

-- nobody passes a test that all fail
none_pass : (ks : List ℕ) → filter (λ k. false) ks ≡ []
none_pass [] = refl
none_pass (k ∷ ks) = none_pass ks

none_accused : (cycle : ℕ) (sort : SyndromeKind) (n : ℕ) → accused_where cycle sort (λ ne. false) (below n) ≡ []
none_accused cycle sort n = ap (map (λ ne. noted cycle sort ne ne)) (none_pass (below n))

pub absent_entries : (cycle : ℕ) (table : TableValue) (decision : Decision)
    → accused_where cycle kind.R (is_absent table decision) (below table.n) ≡ absent_ones cycle table decision
absent_entries cycle table Idle = none_accused cycle kind.R table.n
absent_entries cycle table (Discard vid desc number admitted waited) = refl
absent_entries cycle table (Exchange service) = refl

pub full_entries : (cycle : ℕ) (table : TableValue) (pattern : Pattern) (decision : Decision)
    → accused_where cycle kind.O (is_full table pattern decision) (below table.n) ≡ full_ones cycle table pattern decision
full_entries cycle table pattern Idle = none_accused cycle kind.O table.n
full_entries cycle table pattern (Discard vid desc number admitted waited) = none_accused cycle kind.O table.n
full_entries cycle table pattern (Exchange service) = refl

pub off_entries : (cycle : ℕ) (table : TableValue) (x : Echoes) (decision : Decision) (entry : Cell)
    → accused_where cycle kind.V (is_off table x decision entry) (below table.n) ≡ off_values cycle table x decision entry
off_entries cycle table x Idle entry = none_accused cycle kind.V table.n
off_entries cycle table x (Discard vid desc number admitted waited) entry = none_accused cycle kind.V table.n
off_entries cycle table x (Exchange service) entry = refl
