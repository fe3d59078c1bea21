-- What a text reads as, by whether it is UTF-8.
use Rattle.std.proofs.Common.{◌≡◌, ℕ, Bool, true, false, cond, List, refl, ap, ◌∙◌}
use Rattle.std.specs.Prelude.{Some, None, Err, IsUtf8}
use Rattle.std.specs.Str.{is_utf8}
use Rattle.std.proofs.lemmas.Str.{IsUtf8-from_is_utf8, is_utf8-from_IsUtf8}
use Rattle.toml.specs.Data.{Members}
use Rattle.toml.specs.Parse.{parse_document}
use Rattle.config_text.specs.declared.errors.TextError.TheVariants.{NotToml}
use Rattle.config_text.specs.Reading.{read_of, table_from, document_of, config_of}

-- a text that is UTF-8 is the document that it parses as
pub document_read : (bytes : List ℕ) (ms : Members) → IsUtf8 bytes → parse_document bytes ≡ Some ms → document_of bytes ≡ Some ms
unfolding document_of
document_read bytes ms text is = ap (λ b. cond b (parse_document bytes) None) (is_utf8-from_IsUtf8 bytes text) ∙ is

-- a text that is a document reads as the document does
pub text_read : (bytes : List ℕ) (ms : Members) → IsUtf8 bytes → parse_document bytes ≡ Some ms → config_of bytes ≡ table_from ms
unfolding config_of
text_read bytes ms text is = ap read_of (document_read bytes ms text is)

refused_by : (bytes : List ℕ) (b : Bool) → is_utf8 bytes ≡ b → (IsUtf8 bytes → parse_document bytes ≡ None) → read_of (cond b (parse_document bytes) None) ≡ Err NotToml
refused_by bytes true e no_ = ap read_of (no_ (IsUtf8-from_is_utf8 bytes e))
refused_by bytes false e no_ = refl

-- a text that is none reads as no table
pub text_refused : (bytes : List ℕ) → (IsUtf8 bytes → parse_document bytes ≡ None) → config_of bytes ≡ Err NotToml
unfolding config_of document_of
text_refused bytes no_ = refused_by bytes (is_utf8 bytes) refl no_
