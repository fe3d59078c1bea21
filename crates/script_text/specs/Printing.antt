-- Items as text, one line each.
use Rattle.std.specs.Prelude.{◌≡◌, ℕ, zero, suc, ◌+◌, ◌-◌, ◌<◌, ◌≤◌, ◌==◌, false, IsTrue, Bool, List, [], ◌∷◌, ◌++◌, length, map, take, drop, slice_index, codes, Option, Some, None}
use Rattle.frame_format.specs.declared.TheConstants.{FRAME_BYTES}
use Rattle.std.specs.List.{flat_map, suffix_len, prefix_len}
use Rattle.std.specs.Fmt.{decimal}
use Rattle.hex.specs.Hex.{encode_lower}
use Rattle.ftpp_base.specs.declared.element.Proc.{Proc}
use Rattle.ftpp_base.specs.declared.element.Round.{Round}
use Rattle.ftpp_base.specs.declared.element.Round.TheVariants.{A1, A2, B1, B2}
use Rattle.ftpp_base.specs.declared.limits.TheConstants.{MOST_CYCLES}
use Rattle.packet_format.specs.declared.acts.Act.{Act}
use Rattle.packet_format.specs.declared.acts.Act.TheVariants.{Post, Read}
use Rattle.packet_format.specs.declared.acts.TheConstants.{MOST_ACTS}
use Rattle.script_text.specs.declared.items.Item.{Item}
use Rattle.script_text.specs.declared.items.Item.TheVariants.{Cycles, Faulty, Asked, Edited, Rejoined}
use Rattle.fault_script.specs.declared.Edit.{Edit}
use Rattle.script_text.specs.Reading.{Plan}
use Rattle.fault_script.specs.declared.EditKind.{EditKind}
use Rattle.fault_script.specs.declared.EditKind.TheVariants.{Drop, Flip, Send, Repeat}
use Rattle.script_text.specs.declared.items.SoFar.{SoFar}
use Rattle.script_text.specs.Items.{before}
use Rattle.script_text.specs.Judged.{may_follow, asked_at, is_this}

-- words parted by one space
abbrev pub joined : List (List ℕ) → List ℕ
joined [] = []
joined (w ∷ []) = w
joined (w ∷ v ∷ ws) = w ++ 32 ∷ joined (v ∷ ws)

-- words behind a word, each after a space
abbrev pub behind : List (List ℕ) → List ℕ
behind [] = []
behind (w ∷ ws) = 32 ∷ w ++ behind ws

unfoldable pub proc_word : Proc → List ℕ
proc_word p = decimal p.ne ++ codes "." ++ decimal p.port

-- bytes in hexadecimal, and a dash for none
abbrev pub bytes_word : List ℕ → List ℕ
bytes_word [] = codes "-"
bytes_word (b ∷ bytes) = encode_lower (b ∷ bytes)

-- the bytes up to the last one that is not 0
abbrev pub up_to_last : List ℕ → List ℕ
up_to_last bytes = take (length bytes - suffix_len (λ b. b == 0) bytes) bytes

unfoldable pub packet_word : List ℕ → List ℕ
packet_word bytes = bytes_word (up_to_last bytes)

abbrev pub round_word : Option Round → List ℕ
round_word (Some A1) = codes "A1"
round_word (Some A2) = codes "A2"
round_word (Some B1) = codes "B1"
round_word (Some B2) = codes "B2"
round_word None = codes "any"

-- an element, or the name that stands for None
abbrev pub element_word : List ℕ → Option ℕ → List ℕ
element_word name None = name
element_word name (Some e) = decimal e

-- the words of an act behind its cycle
abbrev pub act_words : Act → List (List ℕ)
act_words (Read p) = codes "read" ∷ proc_word p ∷ []
act_words (Post p d x) = codes "post" ∷ proc_word p ∷ decimal d.dest ∷ decimal d.class ∷ decimal d.source ∷ packet_word x.bytes ∷ []

-- the words of an edit behind its cycle, by its round and receiver
abbrev pub edit_words : List ℕ → List ℕ → EditKind → List (List ℕ)
edit_words round to Drop = codes "drop" ∷ round ∷ to ∷ []
edit_words round to Repeat = codes "repeat" ∷ round ∷ to ∷ []
edit_words round to (Flip offset bits) = codes "flip" ∷ round ∷ to ∷ decimal offset ∷ encode_lower (bits ∷ []) ∷ []
edit_words round to (Send frame) = codes "send" ∷ round ∷ to ∷ bytes_word frame.items ∷ []

-- the words of an item
abbrev pub item_words : Item → List (List ℕ)
item_words (Cycles c) = codes "cycles" ∷ decimal c ∷ []
item_words (Faulty e) = codes "faulty" ∷ decimal e ∷ []
item_words (Asked c a) = codes "at" ∷ decimal c ∷ act_words a
item_words (Edited e) = codes "at" ∷ decimal e.cycle ∷ edit_words (round_word e.round) (element_word (codes "all") e.to) e.what
item_words (Rejoined c next) = codes "at" ∷ decimal c ∷ codes "rejoin" ∷ element_word (codes "none") next ∷ []

-- an item as a line
abbrev pub item_line : Item → List ℕ
item_line item = joined (item_words item) ++ 10 ∷ []

unfoldable pub text_of : List Item → List ℕ
text_of items = flat_map item_line items

-- those at the front that pass, and the others
abbrev pub front_while : {X : Type 0} → (X → Bool) → List X → List X
front_while p xs = take (prefix_len p xs) xs

abbrev pub rest_after : {X : Type 0} → (X → Bool) → List X → List X
rest_after p xs = drop (prefix_len p xs) xs

abbrev pub is_rejoin_at : ℕ → ℕ × Option ℕ → Bool
is_rejoin_at c x = x.0 == c

abbrev pub is_act_at : ℕ → ℕ × Act → Bool
is_act_at c x = x.0 == c

abbrev pub is_edit_at : ℕ → Edit → Bool
is_edit_at c e = e.cycle == c

abbrev pub rejoined : ℕ × Option ℕ → Item
rejoined x = Rejoined x.0 x.1

abbrev pub asked : ℕ × Act → Item
asked x = Asked x.0 x.1

abbrev pub edited : Edit → Item
edited e = Edited e

-- for each of some cycles its rejoin, its acts and its edits
unfoldable pub canonical_from : ℕ → ℕ → List (ℕ × Option ℕ) → List (ℕ × Act) → List Edit → List Item
canonical_from c zero rejoins acts edits = []
canonical_from c (suc n) rejoins acts edits =
    map rejoined (front_while (is_rejoin_at c) rejoins) ++ (map asked (front_while (is_act_at c) acts) ++ (map edited (front_while (is_edit_at c) edits)
    ++ canonical_from (c + 1) n (rest_after (is_rejoin_at c) rejoins) (rest_after (is_act_at c) acts) (rest_after (is_edit_at c) edits)))

abbrev pub named_items : Option ℕ → List Item
named_items None = []
named_items (Some e) = Faulty e ∷ []

-- the items of a script in the order of the canonical text
unfoldable pub canonical : Plan → List Item
canonical p = Cycles p.cycles ∷ (named_items p.faulty ++ canonical_from 0 p.cycles p.rejoins p.acts p.edits)

abbrev pub AreBytes : List ℕ → Type 0
AreBytes bytes = (i : ℕ) → slice_index bytes i < 256

abbrev pub ActFits : ℕ → Act → Type 0
ActFits n (Read p) = (p.ne < n) × (p.port < 8)
ActFits n (Post p d x) = (p.ne < n) × (p.port < 8) × (d.dest < 256) × (d.class < 256) × (d.source < 256) × (length x.bytes ≡ 64) × AreBytes x.bytes

abbrev pub KindFits : EditKind → Type 0
KindFits Drop = Unit {0}
KindFits Repeat = Unit {0}
KindFits (Flip offset bits) = (offset ≤ 330) × (bits < 256)
KindFits (Send frame) = (length frame.items ≤ FRAME_BYTES) × AreBytes frame.items

-- an element below n other than the faulty one, if one is named
abbrev pub IsOther : ℕ → Option ℕ → Option ℕ → Type 0
IsOther n None to = ⊥
IsOther n (Some f) None = Unit {0}
IsOther n (Some f) (Some e) = (e < n) × (e ≡ f → ⊥)

abbrev pub InRun : Option ℕ → ℕ → Type 0
InRun None c = ⊥
InRun (Some total) c = c < total

-- a cycle of the run that may come behind the last
abbrev pub MayCome : SoFar → ℕ → Type 0
MayCome s c = InRun s.cycles c × (c < MOST_CYCLES) × IsTrue (may_follow s.last c)

-- what may come next
abbrev pub IsNext : SoFar → Item → Type 0
IsNext s (Cycles c) = (s.cycles ≡ None) × (1 ≤ c) × (c ≤ MOST_CYCLES)
IsNext s (Faulty e) = InRun s.cycles 0 × (s.named ≡ None) × (s.last ≡ None) × (e < s.n)
IsNext s (Asked c a) = MayCome s c × (asked_at s c < MOST_ACTS) × ActFits s.n a
IsNext s (Edited e) = MayCome s e.cycle × IsOther s.n s.faulty e.to × KindFits e.what
IsNext s (Rejoined c next) = MayCome s c × (is_this s.last c ≡ false) × IsOther s.n s.faulty next

-- each item may come behind those before it
abbrev pub AreNext : ℕ → List Item → List Item → Type 0
AreNext n items [] = Unit {0}
AreNext n items (item ∷ more) = IsNext (before n items) item × AreNext n (item ∷ items) more

-- entries from a cycle on, in order, all below another
abbrev pub Within : {X : Type 0} → (X → ℕ) → ℕ → ℕ → List X → Type 0
Within key from below [] = Unit {0}
Within key from below (x ∷ xs) = (from ≤ key x) × (key x < below) × Within key (key x) below xs

-- a script for n elements
pub record IsScript (n : ℕ) (p : Plan) : Type 0 where
  pub rejoins : Within (λ x. x.0) 0 p.cycles p.rejoins
  pub acts : Within (λ x. x.0) 0 p.cycles p.acts
  pub edits : Within (λ e. e.cycle) 0 p.cycles p.edits
  pub next : AreNext n [] (canonical p)

-- the items, the last first, in front of others
abbrev pub turned_onto : List Item → List Item → List Item
turned_onto [] items = items
turned_onto (item ∷ more) items = turned_onto more (item ∷ items)
