-- What four bytes read as.
use Rattle.std.proofs.Common.{◌≡◌, ℕ, Bool, true, false, cond, List, refl, ap, ◌∙◌}
use Rattle.std.proofs.lemmas.Slice.Eq.{slice_eq-Decides}
use Rattle.std.proofs.lemmas.Bool.Decides.{Decides-eqb}
use Rattle.packet_format.specs.Packets.{no_descriptor, same_bytes}
use Rattle.local_pattern.specs.declared.Entry.{Entry}
use Rattle.local_pattern.specs.Pattern.{quiet, entry_bytes, entry_from, read_entry, IsPlain, Shows}
use Rattle.local_pattern.proofs.RoundTrip.{read_entry-entry_bytes}

-- bytes read as the entry that they show
pub read_entry-shown : (bytes : List ℕ) (e : Entry) → Shows bytes e → IsPlain e → read_entry bytes ≡ e
read_entry-shown bytes e shows plain = ap read_entry shows ∙ read_entry-entry_bytes e plain

equal_bytes : (xs ys : List ℕ) → same_bytes xs ys ≡ true → xs ≡ ys
equal_bytes xs ys e = (slice_eq-Decides Decides-eqb xs ys (same_bytes xs ys) refl).0 e

-- bytes that show no entry read as no request and no space
pub read_entry-none : (bytes : List ℕ) → ((e : Entry) → Shows bytes e → ⊥) → read_entry bytes ≡ quiet
unfolding read_entry
read_entry-none bytes none = by_test (same_bytes bytes (entry_bytes (entry_from bytes))) refl where
  by_test : (b : Bool) → same_bytes bytes (entry_bytes (entry_from bytes)) ≡ b → cond b (entry_from bytes) quiet ≡ quiet
  by_test true e = absurd (none (entry_from bytes) (equal_bytes bytes (entry_bytes (entry_from bytes)) e))
  by_test false e = refl

-- an entry that its bytes give back is plain
given_back : (e : Entry) → e ≡ entry_from (entry_bytes e) → IsPlain e
given_back e is empty = ap (λ x. x.desc) is ∙ shown_nothing e.not_empty empty where
  shown_nothing : (b : Bool) → b ≡ false → (entry_from (entry_bytes (record e { not_empty = b }))).desc ≡ no_descriptor
  shown_nothing true wrong = cc
  shown_nothing false ok = refl

-- what is read is plain
pub read_entry-plain : (bytes : List ℕ) → IsPlain (read_entry bytes)
unfolding read_entry
read_entry-plain bytes = by_test (same_bytes bytes (entry_bytes (entry_from bytes))) refl where
  by_test : (b : Bool) → same_bytes bytes (entry_bytes (entry_from bytes)) ≡ b → IsPlain (cond b (entry_from bytes) quiet)
  by_test true e = given_back (entry_from bytes) (ap entry_from (equal_bytes bytes (entry_bytes (entry_from bytes)) e))
  by_test false e = λ _. refl
