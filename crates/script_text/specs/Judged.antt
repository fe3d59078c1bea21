-- A line as an item, or the first test that it fails.
use Rattle.std.specs.Prelude.{IsTrue, ◌<◌, ℕ, ◌+◌, Bool, true, false, not, ◌&&◌, ◌||◌, ◌==◌, nat_lt, nat_le, List, [], ◌∷◌, codes, Option, Some, None, is_some, Result, Ok, Err, if◌then◌else◌}
use Rattle.ftpp_base.specs.declared.limits.TheConstants.{MOST_CYCLES}
use Rattle.packet_format.specs.declared.acts.Act.{Act}
use Rattle.packet_format.specs.declared.acts.Act.TheVariants.{Post, Read}
use Rattle.packet_format.specs.declared.acts.TheConstants.{MOST_ACTS}
use Rattle.script_text.specs.declared.items.Item.{Item}
use Rattle.script_text.specs.declared.items.Item.TheVariants.{Cycles, Faulty, Asked, Edited, Rejoined}
use Rattle.fault_script.specs.declared.EditKind.{EditKind}
use Rattle.fault_script.specs.declared.EditKind.TheVariants.{Drop, Flip, Send, Repeat}
use Rattle.script_text.specs.declared.items.SoFar.{SoFar}
use Rattle.script_words.specs.declared.refusals.Refused.{Refused}
use Rattle.script_words.specs.declared.refusals.Refused.TheVariants.{NoForm, CyclesLine, Number, Cycle, FaultyLine, RoundOrReceiver, TooManyActs, Rejoin}
use Rattle.script_words.specs.Lines.{is_skipped}
use Rattle.script_words.specs.Fields.{◌>>=◌, is_word, number_of, number_to, proc_of, packet_of, frame_of, bits_of, round_of, other_of}

abbrev pub is_this : Option ℕ → ℕ → Bool
is_this None n = false
is_this (Some m) n = m == n

-- whether a line of this cycle may follow one of the last
abbrev pub may_follow : Option ℕ → ℕ → Bool
may_follow None c = true
may_follow (Some last) c = nat_le last c

-- the length of the run, which must have been said
abbrev pub total_from : Option ℕ → Result ℕ Refused
total_from None = Err CyclesLine
total_from (Some total) = Ok total

abbrev pub total_of : SoFar → Result ℕ Refused
total_of s = total_from s.cycles

-- a cycle of the run that is not before the last line's
unfoldable pub in_order : SoFar → ℕ → ℕ → Result ℕ Refused
in_order s total c = if nat_lt c total && may_follow s.last c then Ok c else Err Cycle

-- how many posts and reads of this cycle came before
unfoldable pub asked_at : SoFar → ℕ → ℕ
asked_at s c = if is_this s.last c then s.asked else 0

-- at most 80 posts and reads of one cycle
unfoldable pub with_room : SoFar → ℕ → Act → Result Item Refused
with_room s c act = if nat_lt (asked_at s c) MOST_ACTS then Ok (Asked c act) else Err TooManyActs

unfoldable pub cycles_line : SoFar → List ℕ → Result Item Refused
cycles_line s count =
    if is_some s.cycles then Err CyclesLine
    else number_of count >>= λ c. if nat_le 1 c && nat_le c MOST_CYCLES then Ok (Cycles c) else Err Number

unfoldable pub faulty_line : SoFar → List ℕ → Result Item Refused
faulty_line s element = do
  total ← total_of s
  e ← number_to 255 element
  if is_some s.named || is_some s.last || not (nat_lt e s.n) then Err FaultyLine else Ok (Faulty e)

unfoldable pub read_line : SoFar → List ℕ → List ℕ → Result Item Refused
read_line s cycle proc = do
  total ← total_of s
  c ← number_of cycle
  at ← in_order s total c
  p ← proc_of s.n proc
  with_room s at (Read p)

unfoldable pub post_line : SoFar → List ℕ → List ℕ → List ℕ → List ℕ → List ℕ → List ℕ → Result Item Refused
post_line s cycle proc dest class source packet = do
  total ← total_of s
  c ← number_of cycle
  d ← number_to 255 dest
  k ← number_to 255 class
  i ← number_to 255 source
  at ← in_order s total c
  p ← proc_of s.n proc
  x ← packet_of packet
  with_room s at (Post p (record { dest = d; class = k; source = i }) x)

abbrev pub acting_from : Refused → Option ℕ → Result ℕ Refused
acting_from refused None = Err refused
acting_from refused (Some f) = Ok f

-- an edit of the frames of the element that is faulty
unfoldable pub edit_line : SoFar → ℕ → List ℕ → List ℕ → EditKind → Result Item Refused
edit_line s at round to what = do
  f ← acting_from FaultyLine s.faulty
  r ← round_of round
  t ← other_of RoundOrReceiver (codes "all") s.n f to
  Ok (Edited (record { cycle = at; round = r; to = t; what = what }))

unfoldable pub drop_line : SoFar → List ℕ → List ℕ → List ℕ → Result Item Refused
drop_line s cycle round to = do
  total ← total_of s
  c ← number_of cycle
  at ← in_order s total c
  edit_line s at round to Drop

unfoldable pub repeat_line : SoFar → List ℕ → List ℕ → List ℕ → Result Item Refused
repeat_line s cycle round to = do
  total ← total_of s
  c ← number_of cycle
  at ← in_order s total c
  edit_line s at round to Repeat

unfoldable pub flip_line : SoFar → List ℕ → List ℕ → List ℕ → List ℕ → List ℕ → Result Item Refused
flip_line s cycle round to offset bits = do
  total ← total_of s
  c ← number_of cycle
  o ← number_to 330 offset
  b ← bits_of bits
  at ← in_order s total c
  edit_line s at round to (Flip o b)

unfoldable pub send_line : SoFar → List ℕ → List ℕ → List ℕ → List ℕ → Result Item Refused
send_line s cycle round to frame = do
  total ← total_of s
  c ← number_of cycle
  at ← in_order s total c
  x ← frame_of frame
  edit_line s at round to (Send x)

-- the element that rejoins in the first line of a cycle
abbrev pub leaving : SoFar → ℕ → Result ℕ Refused
leaving s at = if is_this s.last at then Err Rejoin else acting_from Rejoin s.faulty

unfoldable pub rejoin_line : SoFar → List ℕ → List ℕ → Result Item Refused
rejoin_line s cycle next = do
  total ← total_of s
  c ← number_of cycle
  at ← in_order s total c
  f ← leaving s at
  e ← other_of Rejoin (codes "none") s.n f next
  Ok (Rejoined at e)

-- the forms of a cycle, by the words behind their name
unfoldable pub at_item : SoFar → List ℕ → List ℕ → List (List ℕ) → Result Item Refused
at_item s c name (p ∷ []) =
    if is_word name (codes "read") then read_line s c p
    else if is_word name (codes "rejoin") then rejoin_line s c p
    else Err NoForm
at_item s c name (r ∷ t ∷ []) =
    if is_word name (codes "drop") then drop_line s c r t
    else if is_word name (codes "repeat") then repeat_line s c r t
    else Err NoForm
at_item s c name (r ∷ t ∷ x ∷ []) = if is_word name (codes "send") then send_line s c r t x else Err NoForm
at_item s c name (r ∷ t ∷ o ∷ b ∷ []) = if is_word name (codes "flip") then flip_line s c r t o b else Err NoForm
at_item s c name (p ∷ d ∷ k ∷ i ∷ x ∷ []) = if is_word name (codes "post") then post_line s c p d k i x else Err NoForm
at_item s c name _ = Err NoForm

-- the forms, by their words
unfoldable pub line_item : SoFar → List (List ℕ) → Result Item Refused
line_item s (a ∷ b ∷ []) =
    if is_word a (codes "cycles") then cycles_line s b
    else if is_word a (codes "faulty") then faulty_line s b
    else Err NoForm
line_item s (a ∷ c ∷ name ∷ words) = if is_word a (codes "at") then at_item s c name words else Err NoForm
line_item s _ = Err NoForm

-- a line that is not skipped gives an item
unfoldable pub line_read : SoFar → List (List ℕ) → Result (Option Item) Refused
line_read s words = if is_skipped words then Ok None else line_item s words >>= λ item. Ok (Some item)

-- what an item keeps to, behind those before it
abbrev pub InOrder : SoFar → Item → Type 0
InOrder s (Cycles c) = Unit {0}
InOrder s (Faulty e) = Unit {0}
InOrder s (Asked c a) = IsTrue (may_follow s.last c) × (asked_at s c < MOST_ACTS)
InOrder s (Edited e) = IsTrue (may_follow s.last e.cycle)
InOrder s (Rejoined c next) = IsTrue (may_follow s.last c)

-- what the next line has to know after an item
abbrev pub after : SoFar → Item → SoFar
after s (Cycles c) = record s { cycles = Some c }
after s (Faulty e) = record s { named = Some e; faulty = Some e }
after s (Asked c a) = record s { last = Some c; asked = asked_at s c + 1 }
after s (Edited e) = record s { last = Some e.cycle; asked = asked_at s e.cycle }
after s (Rejoined c next) = record s { last = Some c; asked = asked_at s c; faulty = next }
