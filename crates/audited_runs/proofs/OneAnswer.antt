-- A text has one right answer at most, since a trace breaks at one frame only.
use Rattle.std.proofs.Common.{◌≡◌, ℕ, zero, suc, ◌<◌, ◌≤◌, List, drop, refl, ap, arith, sym, ◌∙◌, subst, ◌⊎◌, inl, inr, Ok, Err}
use Rattle.std.specs.Prelude.{Option, Result}
use Rattle.std.proofs.lemmas.Bool.{cases_lt}
use Rattle.ftpp_base.specs.declared.element.Round.{Round}
use Rattle.two_round.proofs.Others.{IsSize}
use Rattle.config_table.specs.Table.{TableValue}
use Rattle.script_text.specs.Reading.{Refusal}
use Rattle.script_text.specs.declared.ScriptError.{ScriptError}
use Rattle.script_text.specs.declared.ScriptError.TheVariants.{At, Memory}
use Rattle.trace_audit.specs.declared.audit.Verdict.{Verdict}
use Rattle.trace_audit.specs.declared.audit.Verdict.TheVariants as verdict
use Rattle.trace_audit.specs.Known.{Known, Frames, known_first, known_after}
use Rattle.trace_audit.specs.Trace.{per_cycle, place_of, frames_in, BreaksFrom, IsFirstUnexpected}
use Rattle.trace_audit.specs.Links.{link_at}
use Rattle.trace_audit.specs.AuditedTrace.{trace_of, Judges}
use Rattle.trace_audit.proofs.FirstBreak.{size_after}
use Rattle.trace_audit.proofs.Places.{link_back}
use Rattle.trace_audit.proofs.Verdicts.{never_both}
use Rattle.audited_runs.specs.OneAnswer.{OneAnswer}
use Rattle.audited_runs.proofs.AuditedTraces.{ok_same, size_is, same_times}

-- Two frames of traces are one.
record AreOne (cycle : ℕ) (round : Round) (from to : ℕ) (other_cycle : ℕ) (other : Round) (sender receiver : ℕ) : Type 0 where
  cycles : cycle ≡ other_cycle
  rounds : round ≡ other
  senders : from ≡ sender
  receivers : to ≡ receiver

-- of two numbers, where neither is below the other
by_order : (m n : ℕ) → (m < n → ⊥) → (n < m → ⊥) → m ≡ n
by_order m n f g = by (cases_lt m n) (cases_lt n m) where
  by : (m < n) ⊎ (n ≤ m) → (n < m) ⊎ (m ≤ n) → m ≡ n
  by (inl l) later = absurd (f l)
  by (inr l) (inl k) = absurd (g k)
  by (inr l) (inr k) = omega arith

-- two first frames of a cycle that are not expected
same_place : (known : Known) (named : Option ℕ) (frames : Frames) (round other : Round) (from to sender receiver : ℕ)
    → IsFirstUnexpected known named frames round from to → IsFirstUnexpected known named frames other sender receiver
    → place_of known.table.n round from to ≡ place_of known.table.n other sender receiver
same_place known named frames round other from to sender receiver a b =
    by_order (place_of known.table.n round from to) (place_of known.table.n other sender receiver)
    (λ l. b.first round from to a.here l) (λ l. a.first other sender receiver b.here l)

first_once : (cycle : ℕ) (known : Known) (named : Option ℕ) (frames : Frames) (round other : Round) (from to sender receiver : ℕ) → IsSize known.table.n
    → IsFirstUnexpected known named frames round from to → IsFirstUnexpected known named frames other sender receiver → AreOne cycle round from to cycle other sender receiver
first_once cycle known named frames round other from to sender receiver size a b =
    let n = known.table.n in
    let one = link_back n round from to size a.here.sender_there a.here.receiver_there a.here.another in
    let two = link_back n other sender receiver size b.here.sender_there b.here.receiver_there b.here.another in
    let links = sym one ∙ ap (link_at n) (same_place known named frames round other from to sender receiver a b) ∙ two in
    record { cycles = refl; rounds = λ i. (links i).round; senders = λ i. (links i).from; receivers = λ i. (links i).to }

later_one : {cycle other_cycle from to sender receiver : ℕ} {round other : Round} → AreOne cycle round from to other_cycle other sender receiver → AreOne (suc cycle) round from to (suc other_cycle) other sender receiver
later_one h = record { cycles = ap suc h.cycles; rounds = h.rounds; senders = h.senders; receivers = h.receivers }

-- a trace breaks at one frame
breaks_once : (cycle other_cycle : ℕ) (known : Known) (named : Option ℕ) (trace : List (List ℕ)) (round other : Round) (from to sender receiver : ℕ) → IsSize known.table.n
    → BreaksFrom cycle known named trace round from to → BreaksFrom other_cycle known named trace other sender receiver → AreOne cycle round from to other_cycle other sender receiver
breaks_once zero zero known named trace round other from to sender receiver size a b = first_once 0 known named (frames_in known.table.n trace) round other from to sender receiver size a b
breaks_once zero (suc k) known named trace round other from to sender receiver size a b =
    let here = a.here in
    let yes = b.0 round from to here.sender_there here.receiver_there here.another here.not_named in
    let no = here.unexpected in absurd cc
breaks_once (suc c) zero known named trace round other from to sender receiver size a b =
    let here = b.here in
    let yes = a.0 other sender receiver here.sender_there here.receiver_there here.another here.not_named in
    let no = here.unexpected in absurd cc
breaks_once (suc c) (suc k) known named trace round other from to sender receiver size a b =
    let frames = frames_in known.table.n trace in
    let still : IsSize (known_after known named frames).table.n = subst IsSize (sym (size_after known named frames)) size in
    later_one (breaks_once c k (known_after known named frames) named (drop (per_cycle known.table.n) trace) round other from to sender receiver still a.1 b.1)

-- ---- verdicts on one trace

verdicts_same : (table : TableValue) (named : Option ℕ) (trace : List (List ℕ)) (one other : Verdict) → IsSize table.n → Judges table named trace one → Judges table named trace other → one ≡ other
verdicts_same table named trace (verdict.Follows c) (verdict.Follows k) size a b = ap verdict.Follows (same_times table.n c k size (sym a.1 ∙ b.1))
verdicts_same table named trace (verdict.Follows c) (verdict.Breaks at from to) size a b = absurd (never_both table named trace at.cycle at.round from to a.0 b)
verdicts_same table named trace (verdict.Breaks at from to) (verdict.Follows c) size a b = absurd (never_both table named trace at.cycle at.round from to b.0 a)
verdicts_same table named trace (verdict.Breaks at from to) (verdict.Breaks then sender receiver) size a b =
    let h = breaks_once at.cycle then.cycle (known_first table) named trace at.round then.round from to sender receiver size a.first b.first in
    λ i. verdict.Breaks (record { cycle = h.cycles i; round = h.rounds i }) (h.senders i) (h.receivers i)

err_same : {A E : Type 0} (result : Result A E) (x y : E) → result ≡ Err x → result ≡ Err y → x ≡ y
err_same result x y e g = cc

abbrev refused_as : Refusal → Result Verdict ScriptError
refused_as refusal = Err (At refusal.line refusal.code)

pub one_answer : OneAnswer
one_answer table named bytes (Ok one) (Ok other) valid a b =
    let same : a.0 ≡ b.0 = ok_same (trace_of table.n bytes) a.0 b.0 a.1 b.1 in
    ap Ok (verdicts_same table named b.0 one other (size_is table valid) (subst (λ (trace : List (List ℕ)). Judges table named trace one) same a.2) b.2)
one_answer table named bytes (Ok one) (Err (At line code)) valid a b = absurd (cc (sym a.1 ∙ b))
one_answer table named bytes (Err (At line code)) (Ok other) valid a b = absurd (cc (sym a ∙ b.1))
one_answer table named bytes (Err (At line code)) (Err (At m k)) valid a b =
    ap refused_as (err_same (trace_of table.n bytes) (record { line = line; code = code }) (record { line = m; code = k }) a b)
one_answer table named bytes (Err Memory) other valid a b = absurd a
one_answer table named bytes one (Err Memory) valid a b = absurd b
