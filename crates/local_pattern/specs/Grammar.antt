-- The grammar of local patterns as a relation on bytes, field by field.
use Rattle.std.specs.Prelude.{◌≡◌, ◌↔◌, ℕ, ◌+◌, ◌*◌, ◌<◌, ◌≤◌, false, List, length, slice_index, slice_index_or, slice_range, Some}
use Rattle.ftpp_base.specs.Bits.{bit}
use Rattle.local_pattern.specs.declared.Entry.{Entry}
use Rattle.local_pattern.specs.Pattern.{quiet, column_bytes, read_entry, read_column, IsPlain, ArePlain}

-- These four bytes are an entry, whatever it is: flags up to 3, and zeros behind them where bit 0, output not empty, is clear.
pub record IsInGrammar (bytes : List ℕ) : Type 0 where
  pub long : length bytes ≡ 4
  pub flags : slice_index bytes 0 ≤ 3
  pub zeros : bit (slice_index bytes 0) 0 ≡ false → (slice_index bytes 1 ≡ 0) × (slice_index bytes 2 ≡ 0) × (slice_index bytes 3 ≡ 0)

-- These four bytes are that entry: flags, destination, class, source.
pub record IsSpelled (bytes : List ℕ) (e : Entry) : Type 0 where
  pub long : length bytes ≡ 4
  pub flags : slice_index bytes 0 ≤ 3
  pub not_empty : bit (slice_index bytes 0) 0 ≡ e.not_empty
  pub not_full : bit (slice_index bytes 0) 1 ≡ e.not_full
  pub dest : slice_index bytes 1 ≡ e.desc.dest
  pub class : slice_index bytes 2 ≡ e.desc.class
  pub source : slice_index bytes 3 ≡ e.desc.source
  pub plain : IsPlain e

-- the bytes of the entry of a port
abbrev pub entry_slice : List ℕ → ℕ → List ℕ
entry_slice row port = slice_range row (4 * port) (4 * port + 4)

-- This row is those entries, port by port.
pub record IsRow (row : List ℕ) (entries : List Entry) : Type 0 where
  pub long : length row ≡ 32
  pub eight : length entries ≡ 8
  pub entry : (port : ℕ) → port < 8 → IsSpelled (entry_slice row port) (slice_index_or entries port quiet)

-- four bytes are read as the entry that they spell
abbrev pub SpelledIsRead : Type 0
SpelledIsRead = (bytes : List ℕ) (e : Entry) → IsSpelled bytes e → read_entry bytes ≡ e

-- in the grammar they spell what is read of them
abbrev pub GrammarIsSpelled : Type 0
GrammarIsSpelled = (bytes : List ℕ) → IsInGrammar bytes ↔ IsSpelled bytes (read_entry bytes)

-- and outside they are read as no request and no space
abbrev pub OutsideIsQuiet : Type 0
OutsideIsQuiet = (bytes : List ℕ) → (IsInGrammar bytes → ⊥) → read_entry bytes ≡ quiet

-- eight entries are read of the row that spells them
abbrev pub RowIsRead : Type 0
RowIsRead = (row : List ℕ) (entries : List Entry) → IsRow row entries → read_column (Some row) ≡ entries

-- and eight entries are spelled by the row that is encoded
abbrev pub EncodedIsRow : Type 0
EncodedIsRow = (entries : List Entry) → length entries ≡ 8 → ArePlain entries → IsRow (column_bytes entries) entries

-- entries are spelled by one row at most
abbrev pub OneSpelling : Type 0
OneSpelling = (xs ys : List ℕ) (entries : List Entry) → IsRow xs entries → IsRow ys entries → xs ≡ ys

-- and a row spells one list of entries at most
abbrev pub OneMeaning : Type 0
OneMeaning = (row : List ℕ) (entries others : List Entry) → IsRow row entries → IsRow row others → entries ≡ others
