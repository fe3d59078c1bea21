-- What a line that is taken says.
use Rattle.std.proofs.Common.{◌≡◌, ◌≢◌, ℕ, zero, suc, ◌+◌, ◌-◌, ◌*◌, ◌<◌, ◌≤◌, Bool, true, false, cond, not, eqb, List, [], ◌∷◌, ◌++◌, length, replicate, refl, ap, sym, subst, ◌∙◌, arith, Option, Some, None, Result, Ok, Err, IsTrue}
use Rattle.std.specs.Prelude.{◌&&◌, ◌||◌, ◌==◌, nat_lt, nat_le, slice_index, codes, is_some}
use Rattle.std.proofs.lemmas.Bool.{eqb-false, ltb-true, leb-true, and_parts}
use Rattle.std.proofs.lemmas.List.{length-append, length-replicate}
use Rattle.hex.specs.Hex.{decode_of, hex_digit_value}
use Rattle.hex.specs.declared.error.FromHexError.{FromHexError}
use Rattle.hex.proofs.HexLemmas.{decode_of-ok}
use Rattle.arrayvec.specs.ArrayVec.{ArrayVec}
use Rattle.ftpp_base.specs.declared.element.Proc.{Proc}
use Rattle.packet_format.specs.declared.Packet.{Packet}
use Rattle.packet_format.specs.declared.Descriptor.{Descriptor}
use Rattle.packet_format.specs.declared.acts.Act.{Act}
use Rattle.packet_format.specs.declared.acts.Act.TheVariants.{Post, Read}
use Rattle.packet_format.specs.Packets.{filled_up}
use Rattle.fault_script.specs.declared.EditKind.{EditKind}
use Rattle.fault_script.specs.declared.EditKind.TheVariants.{Drop, Flip, Send, Repeat}
use Rattle.script_text.specs.declared.items.Item.{Item}
use Rattle.script_text.specs.declared.items.Item.TheVariants.{Cycles, Faulty, Asked, Edited, Rejoined}
use Rattle.script_text.specs.declared.items.SoFar.{SoFar}
use Rattle.script_words.specs.declared.refusals.Refused.{Refused}
use Rattle.script_words.specs.declared.refusals.Refused.TheVariants.{NoForm, CyclesLine, Number, Cycle, Processor, Bytes, FaultyLine, RoundOrReceiver, TooManyActs, Rejoin}
use Rattle.script_words.specs.Lines.{words_of, is_skipped}
use Rattle.script_words.specs.Fields.{◌>>=◌, is_word, is_digit, number_of, number_to, at_most, proc_of, packet_of, packet_from, frame_of, frame_from, bits_of, bits_from, round_of, digit_of, other_of}
use Rattle.script_text.specs.Items.{before}
use Rattle.script_text.specs.Judged.{total_of, total_from, in_order, asked_at, with_room, may_follow, is_this, cycles_line, faulty_line, read_line, post_line, acting_from, edit_line, drop_line, repeat_line, flip_line, send_line, leaving, rejoin_line, at_item, line_item, line_read}
use Rattle.script_text.specs.Printing.{AreBytes, ActFits, KindFits, IsOther, InRun}

-- what holds of an item that is taken, behind the lines before it
abbrev pub IsTaken : SoFar → Item → Type 0
IsTaken s (Cycles c) = (s.cycles ≡ None) × (1 ≤ c) × (c ≤ 100000)
IsTaken s (Faulty e) = (s.named ≡ None) × (s.last ≡ None) × (e < s.n)
IsTaken s (Asked c a) = InRun s.cycles c × IsTrue (may_follow s.last c) × (asked_at s c < 80) × ActFits s.n a
IsTaken s (Edited e) = InRun s.cycles e.cycle × IsTrue (may_follow s.last e.cycle) × IsOther s.n s.faulty e.to × KindFits e.what
IsTaken s (Rejoined c next) = InRun s.cycles c × IsTrue (may_follow s.last c) × (is_this s.last c ≡ false) × IsOther s.n s.faulty next

-- ---- steps

-- both steps went well
pub bound : {A B E : Type 0} (x : Result A E) (f : A → Result B E) (y : B) → (x >>= f) ≡ Ok y → (a : A) × (x ≡ Ok a) × (f a ≡ Ok y)
bound (Ok a) f y e = (a, refl, e)
bound (Err c) f y e = absurd cc

-- the test passed
passed : {A E : Type 0} (b : Bool) (x y : A) (why : E) → cond b (Ok x) (Err why) ≡ Ok y → (b ≡ true) × (x ≡ y)
passed true x y why e = (refl, cc)
passed false x y why e = absurd cc

-- the test did not refuse
allowed : {A E : Type 0} (b : Bool) (r : Result A E) (y : A) (why : E) → cond b (Err why) r ≡ Ok y → (b ≡ false) × (r ≡ Ok y)
allowed true r y why e = absurd cc
allowed false r y why e = (refl, e)

-- one of the two
pick : {A T : Type 0} (b : Bool) (x y z : A) → cond b x y ≡ z → (x ≡ z → T) → (y ≡ z → T) → T
pick true x y z e f g = f e
pick false x y z e f g = g e

-- ---- bytes

zero_small : (n i : ℕ) → slice_index (replicate n 0) i < 256
zero_small zero i = omega arith
zero_small (suc n) zero = omega arith
zero_small (suc n) (suc i) = zero_small n i

both_small : (xs ys : List ℕ) → AreBytes xs → AreBytes ys → AreBytes (xs ++ ys)
both_small [] ys a b i = b i
both_small (x ∷ xs) ys a b zero = a zero
both_small (x ∷ xs) ys a b (suc i) = both_small xs ys (λ k. a (suc k)) b i

digit_small : (d v : ℕ) → hex_digit_value d ≡ Some v → v < 16
digit_small d v e = upper (nat_le 65 d) refl (nat_le d 70) refl (nat_le 97 d) refl (nat_le d 102) refl (nat_le 48 d) refl (nat_le d 57) refl e where
  upper : (a : Bool) → nat_le 65 d ≡ a → (b : Bool) → nat_le d 70 ≡ b → (c : Bool) → nat_le 97 d ≡ c → (f : Bool) → nat_le d 102 ≡ f → (g : Bool) → nat_le 48 d ≡ g → (h : Bool) → nat_le d 57 ≡ h
      → cond (a && b) (Some (d - 55)) (cond (c && f) (Some (d - 87)) (cond (g && h) (Some (d - 48)) None)) ≡ Some v → v < 16
  upper true p true q c r f s g t h u e = let hi = leb-true d 70 q in let same : d - 55 ≡ v = cc in omega arith
  upper true p false q true r true s g t h u e = let hi = leb-true d 102 s in let same : d - 87 ≡ v = cc in omega arith
  upper true p false q true r false s true t true u e = let hi = leb-true d 57 u in let same : d - 48 ≡ v = cc in omega arith
  upper true p false q true r false s true t false u e = absurd cc
  upper true p false q true r false s false t h u e = absurd cc
  upper true p false q false r f s true t true u e = let hi = leb-true d 57 u in let same : d - 48 ≡ v = cc in omega arith
  upper true p false q false r f s true t false u e = absurd cc
  upper true p false q false r f s false t h u e = absurd cc
  upper false p b q true r true s g t h u e = let hi = leb-true d 102 s in let same : d - 87 ≡ v = cc in omega arith
  upper false p b q true r false s true t true u e = let hi = leb-true d 57 u in let same : d - 48 ≡ v = cc in omega arith
  upper false p b q true r false s true t false u e = absurd cc
  upper false p b q true r false s false t h u e = absurd cc
  upper false p b q false r f s true t true u e = let hi = leb-true d 57 u in let same : d - 48 ≡ v = cc in omega arith
  upper false p b q false r f s true t false u e = absurd cc
  upper false p b q false r f s false t h u e = absurd cc

-- ---- fields

said_by : (o : Option ℕ) (t : ℕ) → total_from o ≡ Ok t → o ≡ Some t
said_by None t e = absurd cc
said_by (Some total) t e = cc

in_run : (o : Option ℕ) (t c : ℕ) → o ≡ Some t → c < t → InRun o c
in_run None t c e l = absurd cc
in_run (Some total) t c e l = let same : total ≡ t = cc in omega arith

-- the cycle is one of the run and not before the last
cycle_taken : (s : SoFar) (t c at : ℕ) → total_of s ≡ Ok t → in_order s t c ≡ Ok at → InRun s.cycles at × IsTrue (may_follow s.last at)
unfolding in_order
cycle_taken s t c at total e =
    let w = passed (nat_lt c t && may_follow s.last c) c at Cycle e in
    let p = and_parts (nat_lt c t) (may_follow s.last c) w.0 in
    let run = in_run s.cycles t c (said_by s.cycles t total) (ltb-true c t p.0) in
    subst (λ (k : ℕ). InRun s.cycles k × IsTrue (may_follow s.last k)) w.1 (run, p.1)

byte_taken : (top n : ℕ) (word : List ℕ) → number_to top word ≡ Ok n → n ≤ top
unfolding number_to
byte_taken top n word e =
    let m = bound (number_of word) (at_most top) n e in
    let w = passed (nat_le m.0 top) m.0 n Number m.2 in
    let l = leb-true m.0 top w.0 in
    subst (λ (k : ℕ). k ≤ top) w.1 l

five : (a b c d e : Bool) → (a && b && c && d && e) ≡ true → (d ≡ true) × (e ≡ true)
five true true true true true h = (refl, refl)
five true true true true false h = absurd cc
five true true true false e h = absurd cc
five true true false d e h = absurd cc
five true false c d e h = absurd cc
five false b c d e h = absurd cc

proc_taken : (n : ℕ) (word : List ℕ) (p : Proc) → proc_of n word ≡ Ok p → (p.ne < n) × (p.port < 8)
unfolding proc_of
proc_taken n [] p e = absurd cc
proc_taken n (a ∷ []) p e = absurd cc
proc_taken n (a ∷ b ∷ []) p e = absurd cc
proc_taken n (a ∷ b ∷ c ∷ []) p e =
    let w = passed (is_digit a && b == 46 && is_digit c && nat_lt (a - 48) n && nat_lt (c - 48) 8) (record { ne = a - 48; port = c - 48 }) p Processor e in
    let h = five (is_digit a) (b == 46) (is_digit c) (nat_lt (a - 48) n) (nat_lt (c - 48) 8) w.0 in
    subst (λ (q : Proc). (q.ne < n) × (q.port < 8)) w.1 (ltb-true (a - 48) n h.0, ltb-true (c - 48) 8 h.1)
proc_taken n (a ∷ b ∷ c ∷ d ∷ rest) p e = absurd cc

-- a row of 64 bytes
abbrev IsWhole : Packet → Type 0
IsWhole x = (length x.bytes ≡ 64) × AreBytes x.bytes

filled : (word : List ℕ) (x : Packet) (d : Result (List ℕ) FromHexError) → decode_of word ≡ d → length word ≤ 128 → packet_from d ≡ Ok x → IsWhole x
filled word x (Err c) is l e = absurd cc
filled word x (Ok bytes) is l e =
    let ok = decode_of-ok word bytes is in
    let same : record { bytes = filled_up 64 bytes } ≡ x = cc in
    let few : length bytes ≤ 64 = omega (arith, ok.2) in
    let long : length (filled_up 64 bytes) ≡ 64 = length-append bytes (replicate (64 - length bytes) 0) ∙ ap (λ (k : ℕ). length bytes + k) (length-replicate (64 - length bytes) 0) ∙ omega arith in
    subst IsWhole same (long, both_small bytes (replicate (64 - length bytes) 0) ok.3 (zero_small (64 - length bytes)))

packet_taken : (word : List ℕ) (x : Packet) → packet_of word ≡ Ok x → IsWhole x
unfolding packet_of
packet_taken word x e =
    pick (is_word word (codes "-")) _ _ _ e
    (λ h. let same : record { bytes = replicate 64 0 } ≡ x = cc in subst IsWhole same (refl, zero_small 64))
    (λ h. by (nat_le 2 (length word)) (nat_le (length word) 128) refl h) where
      by : (a b : Bool) → nat_le (length word) 128 ≡ b → cond (a && b) (packet_from (decode_of word)) (Err Bytes) ≡ Ok x → IsWhole x
      by true true l h = filled word x (decode_of word) refl (leb-true (length word) 128 l) h
      by true false l h = absurd cc
      by false b l h = absurd cc

-- the bytes of a frame
abbrev IsFrame : ArrayVec ℕ → Type 0
IsFrame x = (length x.items ≤ 331) × AreBytes x.items

framed : (word : List ℕ) (x : ArrayVec ℕ) (d : Result (List ℕ) FromHexError) → decode_of word ≡ d → length word ≤ 662 → frame_from d ≡ Ok x → IsFrame x
framed word x (Err c) is l e = absurd cc
framed word x (Ok bytes) is l e =
    let ok = decode_of-ok word bytes is in
    let same : record { items = bytes } ≡ x = cc in
    let few : length bytes ≤ 331 = omega (arith, ok.2) in
    subst IsFrame same (few, ok.3)

no_bytes : (i : ℕ) → slice_index [] i < 256
no_bytes i = omega arith

frame_taken : (word : List ℕ) (x : ArrayVec ℕ) → frame_of word ≡ Ok x → IsFrame x
unfolding frame_of
frame_taken word x e =
    pick (is_word word (codes "-")) _ _ _ e
    (λ h. let same : record { items = [] } ≡ x = cc in subst IsFrame same (omega arith, no_bytes))
    (λ h. by (nat_le 2 (length word)) (nat_le (length word) 662) refl h) where
      by : (a b : Bool) → nat_le (length word) 662 ≡ b → cond (a && b) (frame_from (decode_of word)) (Err Bytes) ≡ Ok x → IsFrame x
      by true true l h = framed word x (decode_of word) refl (leb-true (length word) 662 l) h
      by true false l h = absurd cc
      by false b l h = absurd cc

bits_by : (high low : ℕ) (h l : Option ℕ) (b : ℕ) → hex_digit_value high ≡ h → hex_digit_value low ≡ l → bits_from h l ≡ Ok b → b < 256
bits_by high low None l b p q e = absurd cc
bits_by high low (Some x) None b p q e = absurd cc
bits_by high low (Some x) (Some y) b p q e =
    let same : x * 16 + y ≡ b = cc in
    let i = digit_small high x p in
    let j = digit_small low y q in
    omega arith

bits_taken : (word : List ℕ) (b : ℕ) → bits_of word ≡ Ok b → b < 256
unfolding bits_of
bits_taken [] b e = absurd cc
bits_taken (high ∷ []) b e = absurd cc
bits_taken (high ∷ low ∷ []) b e = bits_by high low (hex_digit_value high) (hex_digit_value low) b refl refl e
bits_taken (high ∷ low ∷ more ∷ rest) b e = absurd cc

three : (a b c : Bool) → (a && b && not c) ≡ true → (b ≡ true) × (c ≡ false)
three true true true h = absurd cc
three true true false h = (refl, refl)
three true false c h = absurd cc
three false b c h = absurd cc

digit_taken : (why : Refused) (n f : ℕ) (word : List ℕ) (to : Option ℕ) → digit_of why n f word ≡ Ok to → IsOther n (Some f) to
unfolding digit_of
digit_taken why n f [] to e = absurd cc
digit_taken why n f (d ∷ []) to e =
    let w = passed (is_digit d && nat_lt (d - 48) n && not (d - 48 == f)) (Some (d - 48)) to why e in
    let h = three (is_digit d) (nat_lt (d - 48) n) (d - 48 == f) w.0 in
    subst (IsOther n (Some f)) w.1 (ltb-true (d - 48) n h.0, eqb-false (d - 48) f h.1)
digit_taken why n f (d ∷ more ∷ rest) to e = absurd cc

other_taken : (why : Refused) (name : List ℕ) (n f : ℕ) (word : List ℕ) (to : Option ℕ) → other_of why name n f word ≡ Ok to → IsOther n (Some f) to
unfolding other_of
other_taken why name n f word to e =
    pick (is_word word name) _ _ _ e
    (λ h. let same : None ≡ to = cc in subst (IsOther n (Some f)) same tt)
    (λ h. digit_taken why n f word to h)

-- the element that acts is the faulty one
acting_is : (why : Refused) (o : Option ℕ) (f : ℕ) → acting_from why o ≡ Ok f → Some f ≡ o
acting_is why None f e = absurd cc
acting_is why (Some g) f e = cc

-- ---- lines

asked_taken : (s : SoFar) (at : ℕ) (act : Act) (item : Item) → InRun s.cycles at × IsTrue (may_follow s.last at) → ActFits s.n act → with_room s at act ≡ Ok item → IsTaken s item
unfolding with_room
asked_taken s at act item h fits e =
    let w = passed (nat_lt (asked_at s at) 80) (Asked at act) item TooManyActs e in
    subst (IsTaken s) w.1 (h.0, h.1, ltb-true (asked_at s at) 80 w.0, fits)

cycles_taken : (s : SoFar) (count : List ℕ) (item : Item) → cycles_line s count ≡ Ok item → IsTaken s item
unfolding cycles_line
cycles_taken s count item e = by s.cycles refl e where
  by : (o : Option ℕ) → s.cycles ≡ o → (cond (is_some o) (Err CyclesLine) (number_of count >>= λ c. cond (nat_le 1 c && nat_le c 100000) (Ok (Cycles c)) (Err Number))) ≡ Ok item → IsTaken s item
  by None is h =
      let m = bound (number_of count) _ item h in
      let w = passed (nat_le 1 m.0 && nat_le m.0 100000) (Cycles m.0) item Number m.2 in
      let p = and_parts (nat_le 1 m.0) (nat_le m.0 100000) w.0 in
      subst (IsTaken s) w.1 (is, leb-true 1 m.0 p.0, leb-true m.0 100000 p.1)
  by (Some total) is h = absurd cc

faulty_taken : (s : SoFar) (element : List ℕ) (item : Item) → faulty_line s element ≡ Ok item → IsTaken s item
unfolding faulty_line
faulty_taken s element item e =
    let m = bound (total_of s) _ item e in
    let k = bound (number_to 255 element) _ item m.2 in
    by k.0 s.named refl s.last refl (nat_lt k.0 s.n) refl k.2 where
      by : (f : ℕ) (named : Option ℕ) → s.named ≡ named → (last : Option ℕ) → s.last ≡ last → (b : Bool) → nat_lt f s.n ≡ b → cond {A = Result Item Refused} (is_some named || is_some last || not b) (Err FaultyLine) (Ok (Faulty f)) ≡ Ok item → IsTaken s item
      by f None p None q true l h = let same : Faulty f ≡ item = cc in subst (IsTaken s) same (p, q, ltb-true f s.n l)
      by f None p None q false l h = absurd cc
      by f None p (Some last) q b l h = absurd cc
      by f (Some named) p last q b l h = absurd cc

read_taken : (s : SoFar) (cycle proc : List ℕ) (item : Item) → read_line s cycle proc ≡ Ok item → IsTaken s item
unfolding read_line
read_taken s cycle proc item e =
    let t = bound (total_of s) _ item e in
    let c = bound (number_of cycle) _ item t.2 in
    let at = bound (in_order s t.0 c.0) _ item c.2 in
    let p = bound (proc_of s.n proc) _ item at.2 in
    asked_taken s at.0 (Read p.0) item (cycle_taken s t.0 c.0 at.0 t.1 at.1) (proc_taken s.n proc p.0 p.1) p.2

post_taken : (s : SoFar) (cycle proc dest class source packet : List ℕ) (item : Item) → post_line s cycle proc dest class source packet ≡ Ok item → IsTaken s item
unfolding post_line
post_taken s cycle proc dest class source packet item e =
    let t = bound (total_of s) _ item e in
    let c = bound (number_of cycle) _ item t.2 in
    let d = bound (number_to 255 dest) _ item c.2 in
    let k = bound (number_to 255 class) _ item d.2 in
    let i = bound (number_to 255 source) _ item k.2 in
    let at = bound (in_order s t.0 c.0) _ item i.2 in
    let p = bound (proc_of s.n proc) _ item at.2 in
    let x = bound (packet_of packet) _ item p.2 in
    let there = proc_taken s.n proc p.0 p.1 in
    let whole = packet_taken packet x.0 x.1 in
    let dl = byte_taken 255 d.0 dest d.1 in
    let kl = byte_taken 255 k.0 class k.1 in
    let il = byte_taken 255 i.0 source i.1 in
    asked_taken s at.0 (Post p.0 (record { dest = d.0; class = k.0; source = i.0 }) x.0) item (cycle_taken s t.0 c.0 at.0 t.1 at.1)
    (there.0, there.1, (let l : d.0 < 256 = omega arith in l), (let l : k.0 < 256 = omega arith in l), (let l : i.0 < 256 = omega arith in l), whole.0, whole.1)
    x.2

edit_taken : (s : SoFar) (at : ℕ) (round to : List ℕ) (what : EditKind) (item : Item) → InRun s.cycles at × IsTrue (may_follow s.last at) → KindFits what → edit_line s at round to what ≡ Ok item → IsTaken s item
unfolding edit_line
edit_taken s at round to what item h fits e =
    let f = bound (acting_from FaultyLine s.faulty) _ item e in
    let r = bound (round_of round) _ item f.2 in
    let t = bound (other_of RoundOrReceiver (codes "all") s.n f.0 to) _ item r.2 in
    let same : Edited (record { cycle = at; round = r.0; to = t.0; what = what }) ≡ item = cc in
    let other = subst (λ (o : Option ℕ). IsOther s.n o t.0) (acting_is FaultyLine s.faulty f.0 f.1) (other_taken RoundOrReceiver (codes "all") s.n f.0 to t.0 t.1) in
    subst (IsTaken s) same (h.0, h.1, other, fits)

drop_taken : (s : SoFar) (cycle round to : List ℕ) (item : Item) → drop_line s cycle round to ≡ Ok item → IsTaken s item
unfolding drop_line
drop_taken s cycle round to item e =
    let t = bound (total_of s) _ item e in
    let c = bound (number_of cycle) _ item t.2 in
    let at = bound (in_order s t.0 c.0) _ item c.2 in
    edit_taken s at.0 round to Drop item (cycle_taken s t.0 c.0 at.0 t.1 at.1) tt at.2

repeat_taken : (s : SoFar) (cycle round to : List ℕ) (item : Item) → repeat_line s cycle round to ≡ Ok item → IsTaken s item
unfolding repeat_line
repeat_taken s cycle round to item e =
    let t = bound (total_of s) _ item e in
    let c = bound (number_of cycle) _ item t.2 in
    let at = bound (in_order s t.0 c.0) _ item c.2 in
    edit_taken s at.0 round to Repeat item (cycle_taken s t.0 c.0 at.0 t.1 at.1) tt at.2

flip_taken : (s : SoFar) (cycle round to offset bits : List ℕ) (item : Item) → flip_line s cycle round to offset bits ≡ Ok item → IsTaken s item
unfolding flip_line
flip_taken s cycle round to offset bits item e =
    let t = bound (total_of s) _ item e in
    let c = bound (number_of cycle) _ item t.2 in
    let o = bound (number_to 330 offset) _ item c.2 in
    let b = bound (bits_of bits) _ item o.2 in
    let at = bound (in_order s t.0 c.0) _ item b.2 in
    edit_taken s at.0 round to (Flip o.0 b.0) item (cycle_taken s t.0 c.0 at.0 t.1 at.1) (byte_taken 330 o.0 offset o.1, bits_taken bits b.0 b.1) at.2

send_taken : (s : SoFar) (cycle round to frame : List ℕ) (item : Item) → send_line s cycle round to frame ≡ Ok item → IsTaken s item
unfolding send_line
send_taken s cycle round to frame item e =
    let t = bound (total_of s) _ item e in
    let c = bound (number_of cycle) _ item t.2 in
    let at = bound (in_order s t.0 c.0) _ item c.2 in
    let x = bound (frame_of frame) _ item at.2 in
    edit_taken s at.0 round to (Send x.0) item (cycle_taken s t.0 c.0 at.0 t.1 at.1) (frame_taken frame x.0 x.1) x.2

rejoin_taken : (s : SoFar) (cycle next : List ℕ) (item : Item) → rejoin_line s cycle next ≡ Ok item → IsTaken s item
unfolding rejoin_line
rejoin_taken s cycle next item e =
    let t = bound (total_of s) _ item e in
    let c = bound (number_of cycle) _ item t.2 in
    let at = bound (in_order s t.0 c.0) _ item c.2 in
    let f = bound (leaving s at.0) _ item at.2 in
    let n = bound (other_of Rejoin (codes "none") s.n f.0 next) _ item f.2 in
    let w = allowed (is_this s.last at.0) (acting_from Rejoin s.faulty) f.0 Rejoin f.1 in
    let h = cycle_taken s t.0 c.0 at.0 t.1 at.1 in
    let same : Rejoined at.0 n.0 ≡ item = cc in
    let other = subst (λ (o : Option ℕ). IsOther s.n o n.0) (acting_is Rejoin s.faulty f.0 w.1) (other_taken Rejoin (codes "none") s.n f.0 next n.0 n.1) in
    subst (IsTaken s) same (h.0, h.1, w.0, other)

no_form : {T : Type 0} (item : Item) → (let r : Result Item Refused = Err NoForm in r) ≡ Ok item → T
no_form item e = absurd cc

at_taken : (s : SoFar) (c name : List ℕ) (words : List (List ℕ)) (item : Item) → at_item s c name words ≡ Ok item → IsTaken s item
unfolding at_item
at_taken s c name [] item e = no_form item e
at_taken s c name (p ∷ []) item e =
    pick (is_word name (codes "read")) _ _ _ e (read_taken s c p item)
    (λ h. pick (is_word name (codes "rejoin")) _ _ _ h (rejoin_taken s c p item) (no_form item))
at_taken s c name (r ∷ t ∷ []) item e =
    pick (is_word name (codes "drop")) _ _ _ e (drop_taken s c r t item)
    (λ h. pick (is_word name (codes "repeat")) _ _ _ h (repeat_taken s c r t item) (no_form item))
at_taken s c name (r ∷ t ∷ x ∷ []) item e = pick (is_word name (codes "send")) _ _ _ e (send_taken s c r t x item) (no_form item)
at_taken s c name (r ∷ t ∷ o ∷ b ∷ []) item e = pick (is_word name (codes "flip")) _ _ _ e (flip_taken s c r t o b item) (no_form item)
at_taken s c name (p ∷ d ∷ k ∷ i ∷ x ∷ []) item e = pick (is_word name (codes "post")) _ _ _ e (post_taken s c p d k i x item) (no_form item)
at_taken s c name (p ∷ d ∷ k ∷ i ∷ x ∷ y ∷ more) item e = no_form item e

item_taken : (s : SoFar) (words : List (List ℕ)) (item : Item) → line_item s words ≡ Ok item → IsTaken s item
unfolding line_item
item_taken s [] item e = no_form item e
item_taken s (a ∷ []) item e = no_form item e
item_taken s (a ∷ b ∷ []) item e =
    pick (is_word a (codes "cycles")) _ _ _ e (cycles_taken s b item)
    (λ h. pick (is_word a (codes "faulty")) _ _ _ h (faulty_taken s b item) (no_form item))
item_taken s (a ∷ c ∷ name ∷ words) item e = pick (is_word a (codes "at")) _ _ _ e (at_taken s c name words item) (no_form item)

-- a line that gives an item
pub line_taken : (s : SoFar) (words : List (List ℕ)) (item : Item) → line_read s words ≡ Ok (Some item) → IsTaken s item
unfolding line_read
line_taken s words item e =
    pick (is_skipped words) _ _ _ e
    (λ h. absurd cc)
    (λ h.
    let i = bound (line_item s words) _ (Some item) h in
    let same : i.0 ≡ item = cc in
    subst (IsTaken s) same (item_taken s words i.0 i.1))
