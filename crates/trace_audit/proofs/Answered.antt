-- What is answered of a text that was read.
use Rattle.std.proofs.Common.{◌≡◌, ℕ, ◌*◌, ◌/◌, ◌%◌, ◌<◌, Bool, true, false, cond, List, length, refl, sym, ◌∙◌, ap, arith, subst, inl, inr, Option, Some, None, Result, Ok, Err}
use Rattle.std.specs.Prelude.{not, ◌||◌, ◌==◌}
use Rattle.std.proofs.lemmas.Bool.{or_parts, eqb-true, not-false}
use Rattle.two_round.proofs.Others.{IsSize}
use Rattle.config_table.specs.Table.{TableValue}
use Rattle.script_text.specs.Reading.{Refusal}
use Rattle.script_text.specs.declared.ScriptError.{ScriptError}
use Rattle.script_text.specs.declared.ScriptError.TheVariants.{At, Memory}
use Rattle.trace_audit.specs.declared.audit.Reading.{Reading}
use Rattle.trace_audit.specs.Trace.{per_cycle}
use Rattle.trace_audit.specs.Progress.{Progress, progress_first}
use Rattle.trace_audit.specs.AuditedTrace.{Audits, Judges, ends_inside, trace_of}
use Rattle.trace_audit.specs.Reading.{HasRead, ReadsAll, verdict_if, verdict_of}
use Rattle.trace_audit.proofs.FirstBreak.{IsThere, Judged, judged}

-- a line that is refused
pub refused : (n : ℕ) (table : TableValue) (named : Option ℕ) (bytes : List ℕ) (start : Progress) (r : Reading n) (why : ScriptError) → table.n ≡ n → ReadsAll n start bytes (Err why) r → Audits table named bytes (Err why)
unfolding trace_of
refused n table named bytes start r (At line code) size h = rw (size, h) refl
refused n table named bytes start r Memory size h = h

-- whole cycles
whole_by : (k p : ℕ) → (k % p == 0) ≡ true → 0 < p → k ≡ k / p * p
whole_by k p e some = let none = eqb-true (k % p) 0 e in omega arith

judges_by : (table : TableValue) (named : Option ℕ) (trace : List (List ℕ)) (lines : ℕ) (found : Option ℕ) → lines ≡ length trace → length trace ≡ length trace / per_cycle table.n * per_cycle table.n
    → Judged table named trace found → Judges table named trace (verdict_of table.n lines found)
judges_by table named trace lines None same whole h = (h, whole ∙ ap (λ (k : ℕ). k / per_cycle table.n * per_cycle table.n) (sym same))
judges_by table named trace lines (Some place) same whole h = h

some_by : (n : ℕ) → IsSize n → 0 < per_cycle n
some_by n (inl e) = subst (λ k. 0 < per_cycle k) (sym e) (omega arith)
some_by n (inr e) = subst (λ k. 0 < per_cycle k) (sym e) (omega arith)

-- by whether the cycles are whole
read_by : (table : TableValue) (named : Option ℕ) (bytes : List ℕ) (last : ℕ) (r : Reading table.n) (h : HasRead table.n (progress_first table named) bytes last r) (b : Bool)
    → IsSize table.n → IsThere table.n named → (length h.taken == 0 || not (length h.taken % per_cycle table.n == 0)) ≡ b
    → Audits table named bytes (cond b (Err (At last ends_inside)) (Ok (verdict_of table.n r.lines r.broken)))
unfolding trace_of
read_by table named bytes last r h true size there e =
    rw (h.frames, e) (ap (λ (k : ℕ). let refused : Refusal = record { line = k; code = ends_inside } in let x : Result (List (List ℕ)) Refusal = Err refused in x) (sym h.newlines))
read_by table named bytes last r h false size there e =
    let parts = or_parts (length h.taken == 0) (not (length h.taken % per_cycle table.n == 0)) e in
    let whole = whole_by (length h.taken) (per_cycle table.n) (not-false (length h.taken % per_cycle table.n == 0) parts.1) (some_by table.n size) in
    let is : Judged table named h.taken r.broken = subst (Judged table named h.taken) (sym h.broken) (judged table named h.taken (length h.taken / per_cycle table.n) size there whole) in
    (h.taken, rw (h.frames, e) refl, judges_by table named h.taken r.lines r.broken h.lines whole is)

pub answered : (n : ℕ) (table : TableValue) (named : Option ℕ) (bytes : List ℕ) (start : Progress) (last : ℕ) (r : Reading n) → table.n ≡ n → IsSize n → IsThere n named → start ≡ progress_first table named
    → ReadsAll n start bytes (Ok last) r → Audits table named bytes (verdict_if n last r.lines r.broken)
answered n table named bytes start last r size is there begins h =
    subst (λ (k : ℕ). (s : Reading k) → IsSize k → IsThere k named → HasRead k (progress_first table named) bytes last s → Audits table named bytes (verdict_if k last s.lines s.broken)) size by r is there
    (subst (λ (p : Progress). HasRead n p bytes last r) begins h) where
      by : (s : Reading table.n) → IsSize table.n → IsThere table.n named → HasRead table.n (progress_first table named) bytes last s → Audits table named bytes (verdict_if table.n last s.lines s.broken)
      by s is there h =
          subst (λ (k : ℕ). Audits table named bytes (cond (k == 0 || not (k % per_cycle table.n == 0)) (Err (At last ends_inside)) (Ok (verdict_of table.n s.lines s.broken)))) (sym h.lines)
          (read_by table named bytes last s h (length h.taken == 0 || not (length h.taken % per_cycle table.n == 0)) is there refl)
