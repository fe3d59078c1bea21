-- Reading and writing in turn, as a function of the bytes that come.
use Rattle.std.specs.Prelude.{ℕ, nat_le, List, [], ◌++◌, take, drop, length, slice_index, if◌then◌else◌}

-- What comes of some bytes: a value, with what was written and the bytes that are left; or more bytes are due, after this was
-- written; or a byte breaks the input, with a code, what was written before it and the bytes behind it.
pub data Outcome (A : Type 0) : Type 0 where
  Whole : A → List ℕ → List ℕ → Outcome A
  Waits : List ℕ → Outcome A
  Breaks : ℕ → List ℕ → List ℕ → Outcome A

abbrev pub Dialog : Type 0 → Type 0
Dialog A = List ℕ → Outcome A

-- the outcome, where this was written before
abbrev pub after_text : {A : Type 0} → List ℕ → Outcome A → Outcome A
after_text before (Whole value text rest) = Whole value (before ++ text) rest
after_text before (Waits text) = Waits (before ++ text)
after_text before (Breaks code text rest) = Breaks code (before ++ text) rest

-- what comes of the bytes that are left, once there is a value
abbrev pub continued : {A B : Type 0} → Outcome A → (A → Dialog B) → Outcome B
continued (Whole value text rest) next = after_text text (next value rest)
continued (Waits text) next = Waits text
continued (Breaks code text rest) next = Breaks code text rest

-- one after the other
unfoldable pub and_then : {A B : Type 0} → Dialog A → (A → Dialog B) → Dialog B
and_then first next bytes = continued (first bytes) next

-- a value, for which nothing is read or written
abbrev pub ready : {A : Type 0} → A → Dialog A
ready value bytes = Whole value [] bytes

-- a text is written, and then comes the next
abbrev pub write_then : {A : Type 0} → List ℕ → Dialog A → Dialog A
write_then text next bytes = after_text text (next bytes)

-- the byte that was read last breaks the input
abbrev pub breaks : {A : Type 0} → ℕ → Dialog A
breaks code bytes = Breaks code [] bytes

-- a number of bytes is read
unfoldable pub piece : ℕ → Dialog (List ℕ)
piece count bytes = if nat_le count (length bytes) then Whole (take count bytes) [] (drop count bytes) else Waits []

-- one byte is read
abbrev pub first_of : List ℕ → Dialog ℕ
first_of bytes = ready (slice_index bytes 0)

unfoldable pub byte : Dialog ℕ
byte = and_then (piece 1) first_of
