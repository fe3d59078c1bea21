-- A local pattern, one entry for each of eight ports, and the 32 bytes that show it.
use Rattle.std.specs.Prelude.{◌≡◌, ℕ, ◌+◌, ◌*◌, true, false, List, [], ◌∷◌, map, replicate, slice_index, slice_index_or, slice_range, Option, Some, None, if◌then◌else◌}
use Rattle.std.specs.List.{flat_map}
use Rattle.ftpp_base.specs.Bits.{bit, eight}
use Rattle.ftpp_base.specs.declared.element.Proc.{Proc}
use Rattle.packet_format.specs.Packets.{no_descriptor, same_bytes}
use Rattle.local_pattern.specs.declared.Entry.{Entry}

-- no request and no space
abbrev pub quiet : Entry
quiet = record { not_empty = false; not_full = false; desc = no_descriptor }

-- room and no request
abbrev pub room : Entry
room = record { not_empty = false; not_full = true; desc = no_descriptor }

-- the eight entries of an element that shows nothing
abbrev pub quiet_column : List Entry
quiet_column = replicate 8 quiet

-- the flags of an entry as a number from 0 to 3
abbrev pub flag_number : Entry → ℕ
flag_number e = (if e.not_empty then 1 else 0) + (if e.not_full then 2 else 0)

-- a byte of the request, which an empty output shows as zero
abbrev pub shown_byte : Entry → ℕ → ℕ
shown_byte e byte = if e.not_empty then byte else 0

-- the four bytes of an entry
abbrev pub entry_bytes : Entry → List ℕ
entry_bytes e = flag_number e ∷ shown_byte e e.desc.dest ∷ shown_byte e e.desc.class ∷ shown_byte e e.desc.source ∷ []

-- the 32 bytes of a local pattern
abbrev pub column_bytes : List Entry → List ℕ
column_bytes entries = flat_map entry_bytes entries

-- four bytes show an entry exactly where they are its bytes
abbrev pub Shows : List ℕ → Entry → Type 0
Shows bytes e = bytes ≡ entry_bytes e

-- the only entry that four bytes can show
abbrev pub entry_from : List ℕ → Entry
entry_from bytes = record {
  not_empty = bit (slice_index bytes 0) 0;
  not_full = bit (slice_index bytes 0) 1;
  desc = record { dest = slice_index bytes 1; class = slice_index bytes 2; source = slice_index bytes 3 };
}

-- the entry that four bytes show; outside the grammar they read as no request and no space
unfoldable pub read_entry : List ℕ → Entry
read_entry bytes = if same_bytes bytes (entry_bytes (entry_from bytes)) then entry_from bytes else quiet

-- the entries that an agreed cell reads as
unfoldable pub read_column : Option (List ℕ) → List Entry
read_column None = quiet_column
read_column (Some row) = map (λ port. read_entry (slice_range row (4 * port) (4 * port + 4))) eight

-- An entry that its four bytes tell: an empty output shows no request.
abbrev pub IsPlain : Entry → Type 0
IsPlain e = e.not_empty ≡ false → e.desc ≡ no_descriptor

-- entries that their bytes tell
abbrev pub ArePlain : List Entry → Type 0
ArePlain entries = (port : ℕ) → IsPlain (slice_index_or entries port quiet)

-- the entry of a processor in the columns of all elements
abbrev pub entry_of : List (List Entry) → Proc → Entry
entry_of pattern proc = slice_index_or (slice_index_or pattern proc.ne []) proc.port quiet
