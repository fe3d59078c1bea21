-- A call on which nothing fails, and of which nothing is refused, is done.
use Rattle.std.proofs.Common.{◌≡◌, ◌⊎◌, ℕ, List, [], ◌++◌, Option, Some, None, Ok, Err, inl, inr, refl, sym, ◌∙◌, ap, append-nil, arith}
use Rattle.ftpp_outside.specs.Told.{Gives}
use Rattle.script_text.specs.declared.ScriptError.TheVariants as refused
use Rattle.element_node.specs.declared.NodeEnd.TheVariants as end
use Rattle.element_node.specs.Node.{Stopped, node}
use Rattle.element_node.specs.Node.Stopped.{WaitsIn, BreaksIn}
use Rattle.element_node.specs.Progress.{EndsStream, IsWholeInput}
use Rattle.command_steps.specs.declared.status.Status.{Status}
use Rattle.command_steps.specs.declared.status.Status.TheVariants.{Done, Usage, Script, Config, Read, Write, Memory, TooLong, Stream}
use Rattle.command_steps.specs.Ends.{Output}
use Rattle.command_steps.specs.Known.{IsHalt}
use Rattle.ftpp_top.specs.Audited.{judged}
use Rattle.ftpp_top.specs.Completeness.{HasFailed, IsDone, DoneIfNoneFails, AuditedIfNoneFails, ServedIfNoneFails}

pub done_if_none_fails : DoneIfNoneFails
done_if_none_fails output Done old new h none = inl (refl, h.1)
done_if_none_fails output Memory old new h none = inr (refl, h)
done_if_none_fails output Read old new h none = absurd (none (inl refl))
done_if_none_fails output Write old new h none = absurd (none (inr refl))
done_if_none_fails output Usage old new h none = let never : Done ≡ Usage = h.0 in cc
done_if_none_fails output TooLong old new h none = let never : Done ≡ TooLong = h.0 in cc
done_if_none_fails output (Script line code) old new h none = let never : Done ≡ Script line code = h.0 in cc
done_if_none_fails output (Config code) old new h none = let never : Done ≡ Config code = h.0 in cc
done_if_none_fails output (Stream cycle code) old new h none = let never : Done ≡ Stream cycle code = h.0 in cc

-- ---- an audit

from_done : (output : Output) (status : Status) (old new : Option (List ℕ)) → IsDone output status old new → (status ≡ Done) ⊎ ((status ≡ Memory) × (new ≡ old))
from_done output status old new (inl h) = inl h.0
from_done output status old new (inr h) = inr h

halted_or_failed : (status : Status) (old new : Option (List ℕ)) → IsHalt status → new ≡ old → (HasFailed status → ⊥) → (status ≡ Done) ⊎ ((status ≡ Memory) × (new ≡ old))
halted_or_failed Memory old new halt e none = inr (refl, e)
halted_or_failed Read old new halt e none = absurd (none (inl refl))
halted_or_failed Write old new halt e none = absurd halt
halted_or_failed Done old new halt e none = absurd halt
halted_or_failed Usage old new halt e none = absurd halt
halted_or_failed TooLong old new halt e none = absurd halt
halted_or_failed (Script line code) old new halt e none = absurd halt
halted_or_failed (Config code) old new halt e none = absurd halt
halted_or_failed (Stream cycle code) old new halt e none = absurd halt

pub audited_if_none_fails : AuditedIfNoneFails
audited_if_none_fails a trace status old new (inl h) is none = halted_or_failed status old new h.0 h.1 none
audited_if_none_fails a trace status old new (inr (Ok verdict, right, ends)) is none =
    from_done (judged (Ok verdict)).output status old new (done_if_none_fails (judged (Ok verdict)).output status old new ends none)
audited_if_none_fails a trace status old new (inr (Err (refused.At line code), right, ends)) is none =
    let never : Ok trace ≡ Err (record { line = line; code = code }) = sym is ∙ right in cc
audited_if_none_fails a trace status old new (inr (Err refused.Memory, right, ends)) is none = absurd right

-- ---- a node

abbrev cycle_in : Stopped → ℕ
cycle_in (WaitsIn cycle text) = cycle
cycle_in (BreaksIn cycle code text rest) = cycle

-- of a whole input no stream ends before the last cycle, and none breaks
never_streams : (served : List ℕ → Stopped) (cycles cycle code : ℕ) (bytes read wrote : List ℕ) (after : Option (List ℕ)) → Gives (Some bytes) read after → IsWholeInput served cycles bytes
    → EndsStream served cycles read wrote cycle code after → ⊥
never_streams served cycles cycle code bytes read wrote None given whole ends = absurd given
never_streams served cycles cycle code bytes read wrote (Some after) given (text, waits) (inl (one, less, stops, empty)) =
    let all : bytes ≡ read = given ∙ (ap (λ xs. read ++ xs) empty ∙ append-nil read) in
    let same : WaitsIn cycle wrote ≡ WaitsIn cycles text = sym stops ∙ (ap served (sym all) ∙ waits) in
    let equal : cycle ≡ cycles = ap cycle_in same in
    omega (arith, less, equal)
never_streams served cycles cycle code bytes read wrote (Some after) given (text, waits) (inr breaks) =
    let same : BreaksIn cycle code wrote after ≡ WaitsIn cycles text = sym (breaks after) ∙ (ap served (sym given) ∙ waits) in
    cc

unread : (bytes read : List ℕ) (after : Option (List ℕ)) → Gives (Some bytes) read after → read ≡ [] → after ≡ Some bytes
unread bytes read None given e = absurd given
unread bytes read (Some after) given e = let same : after ≡ bytes = sym (given ∙ ap (λ xs. xs ++ after) e) in ap Some same

pub served_if_none_fails : ServedIfNoneFails
served_if_none_fails r bytes status after old new (end.Done, is, serves) whole none = inl is
served_if_none_fails r bytes status after old new (end.Memory, is, serves) whole none = inr (is, unread bytes serves.read after serves.given serves.fits.0)
served_if_none_fails r bytes status after old new (end.Read, is, serves) whole none = absurd (none (inl is))
served_if_none_fails r bytes status after old new (end.Write, is, serves) whole none = absurd (none (inr is))
served_if_none_fails r bytes status after old new (end.Stream cycle code, is, serves) whole none =
    absurd (never_streams (node r.element r.table r.cycles) r.cycles cycle code bytes serves.read serves.wrote after serves.given whole serves.fits)
