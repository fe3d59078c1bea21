-- What is printed is read back.
use Rattle.std.proofs.Common.{◌≡◌, ℕ, zero, suc, ◌+◌, ◌-◌, ◌*◌, ◌/◌, ◌%◌, ◌^◌, ◌<◌, ◌≤◌, Bool, true, false, not, eqb, ltb, leb, List, [], ◌∷◌, ◌++◌, length, get_or, take, reverse, replicate, length-append, refl, ap, sym, ◌∙◌, arith, rules, append_assoc, Some, None, Ok, Option, Result, All, inl, inr}
use Rattle.std.specs.Prelude.{slice_index, ◌&&◌, ◌||◌, codes}
use Rattle.std.specs.List.{slice_split, list_all, fold, suffix_len}
use Rattle.std.specs.Fmt.{decimal}
use Rattle.std.specs.Str.Lines.{strip_carriage_return}
use Rattle.std.proofs.lemmas.List.Splits.{slice_split_at, slice_split_none}
use Rattle.std.proofs.lemmas.List.Sums.{AllPass-from_list_all, list_all-from_AllPass, suffix_len-le-length, prefix_len_passes}
use Rattle.std.proofs.lemmas.List.{length-take-le, length-replicate, same_lists, get_or-reverse, get_or-take, get_or-append_right, get_or_append_left, get_or_past, length-take, get_or-replicate}
use Rattle.std.proofs.lemmas.List.Folds.{list_all-append}
use Rattle.std.proofs.lemmas.Bool.{le-leb, lt-ltb, eqb-true, cases_lt}
use Rattle.std.proofs.lemmas.Bool.Decides.{nat_tests}
use Rattle.std.proofs.lemmas.List.Concat.{flat_map-cons}
use Rattle.std.proofs.lemmas.Fmt.{digits_decimal, digits_value-decimal, length-decimal-le, decimal_nonempty, decimal_digit}
use Rattle.std.proofs.lemmas.Str.Parse.{IsNumeralModel, numerals_by_fold}
use Rattle.script_text.specs.declared.items.Item.{Item}
use Rattle.script_text.specs.declared.items.Item.TheVariants.{Cycles, Faulty, Asked, Edited, Rejoined}
use Rattle.script_text.specs.declared.items.SoFar.{SoFar}
use Rattle.script_words.specs.declared.refusals.Refused.{Refused}
use Rattle.script_words.specs.declared.refusals.Refused.TheVariants.{RoundOrReceiver, Rejoin}
use Rattle.script_words.specs.Lines.{is_newline, is_blank, has_bytes, words_of, lines_of}
use Rattle.script_words.specs.Fields.{is_digit, value_of, number_of, number_to, proc_of, is_word, packet_of, frame_of, bits_of, round_of, other_of, digit_of}
use Rattle.packet_format.specs.declared.acts.Act.TheVariants.{Post, Read}
use Rattle.packet_format.specs.declared.Packet.{Packet}
use Rattle.packet_format.specs.Packets.{filled_up}
use Rattle.hex.specs.Hex.{encode_with, encode_lower, lower_digits, is_hex_digit}
use Rattle.hex.proofs.HexLemmas.{length-encode_with, decode_of-ok, decode_of-encode_lower, IsDigits-lower_digits}
use Rattle.ftpp_base.specs.declared.element.Proc.{Proc}
use Rattle.ftpp_base.specs.declared.element.Round.{Round}
use Rattle.ftpp_base.specs.declared.element.Round.TheVariants.{A1, A2, B1, B2}
use Rattle.packet_format.specs.declared.Descriptor.{Descriptor}
use Rattle.fault_script.specs.declared.EditKind.{EditKind}
use Rattle.fault_script.specs.declared.EditKind.TheVariants.{Drop, Flip, Send, Repeat}
use Rattle.script_text.specs.Judged.{line_item, line_read, at_item, cycles_line, faulty_line, read_line, post_line, edit_line, drop_line, repeat_line, flip_line, send_line, rejoin_line, in_order, with_room, may_follow, asked_at, is_this}
use Rattle.script_text.specs.Items.{before, cycles_in}
use Rattle.script_text.specs.Reading.{items_from, plan_with_items, script_of}
use Rattle.script_text.proofs.Steps.{goes}
use Rattle.script_text.specs.Printing.{joined, item_words, item_line, text_of, proc_word, IsNext, AreNext, ActFits, InRun, IsOther, KindFits, AreBytes, bytes_word, up_to_last, packet_word, round_word, element_word, edit_words, turned_onto}

-- a byte of a word
abbrev pub is_plain : ℕ → Bool
is_plain b = not (eqb b 32) && not (eqb b 9) && not (eqb b 10) && not (eqb b 13)

-- a word that stands by itself
pub record IsWord (w : List ℕ) : Type 0 where
  pub some : has_bytes w ≡ true
  pub plain : list_all is_plain w ≡ true

abbrev pub AreWords : List (List ℕ) → Type 0
AreWords [] = Unit {0}
AreWords (w ∷ ws) = IsWord w × AreWords ws

neither : (a b c d : Bool) → (not a && not b && not c && not d) ≡ true → (a || b) ≡ false
neither true b c d e = absurd cc
neither false true c d e = absurd cc
neither false false c d e = refl

plain_not_blank : (b : ℕ) → is_plain b ≡ true → is_blank b ≡ false
plain_not_blank b e = neither (eqb b 32) (eqb b 9) (eqb b 10) (eqb b 13) e

solid : (w : List ℕ) → list_all is_plain w ≡ true → All (λ b. is_blank b ≡ false) w
solid w e = λ k d l. plain_not_blank (get_or w k d) (AllPass-from_list_all is_plain w e k d l)

-- a byte within a line
abbrev pub is_inside : ℕ → Bool
is_inside b = not (eqb b 10) && not (eqb b 13)

inside_of : (a b c d : Bool) → (not a && not b && not c && not d) ≡ true → (not c && not d) ≡ true
inside_of true b c d e = absurd cc
inside_of false true c d e = absurd cc
inside_of false false c d e = e

plain_inside : (w : List ℕ) → list_all is_plain w ≡ true → list_all is_inside w ≡ true
plain_inside w e = list_all-from_AllPass is_inside w (λ k d l. inside_of (eqb (get_or w k d) 32) (eqb (get_or w k d) 9) (eqb (get_or w k d) 10) (eqb (get_or w k d) 13) (AllPass-from_list_all is_plain w e k d l))

joined_inside : (ws : List (List ℕ)) → AreWords ws → list_all is_inside (joined ws) ≡ true
joined_inside [] h = refl
joined_inside (w ∷ []) h = plain_inside w h.0.plain
joined_inside (w ∷ v ∷ ws) h = rw (list_all-append is_inside w (32 ∷ joined (v ∷ ws)), plain_inside w h.0.plain) (joined_inside (v ∷ ws) h.1)

not_newline : (c d : Bool) → (not c && not d) ≡ true → c ≡ false
not_newline true d e = absurd cc
not_newline false d e = refl

not_return : (c d : Bool) → (not c && not d) ≡ true → d ≡ false
not_return true d e = absurd cc
not_return false true e = absurd cc
not_return false false e = refl

-- a line without a carriage return stays as it is
last_at : (l : List ℕ) → list_all is_inside l ≡ true → eqb (get_or l (length l - 1) 0) 13 ≡ false
last_at [] e = refl
last_at (x ∷ xs) e =
    let p = AllPass-from_list_all is_inside (x ∷ xs) e (length (x ∷ xs) - 1) 0 (omega arith) in
    not_return _ _ p

stripped : (l : List ℕ) → list_all is_inside l ≡ true → strip_carriage_return l ≡ l
stripped l e = rw (last_at l e) refl

-- the pieces of a text are its lines
line_first : (l rest : List ℕ) → list_all is_inside l ≡ true → slice_split is_newline ((l ++ 10 ∷ []) ++ rest) ≡ l ∷ slice_split is_newline rest
line_first l rest e = rw (append_assoc l (10 ∷ []) rest) (slice_split_at is_newline l 10 rest (λ k d h. not_newline _ _ (AllPass-from_list_all is_inside l e k d h)) refl)

lines_more : (l rest : List ℕ) → list_all is_inside l ≡ true → lines_of ((l ++ 10 ∷ []) ++ rest) ≡ l ∷ lines_of rest
unfolding lines_of
lines_more l rest e = rw (line_first l rest e, stripped l e) refl

-- a word and a space before other words
word_more : (w rest : List ℕ) → IsWord w → words_of (w ++ 32 ∷ rest) ≡ w ∷ words_of rest
unfolding words_of
word_more w rest h = rw (slice_split_at is_blank w 32 rest (solid w h.plain) refl, h.some) refl

word_alone : (w : List ℕ) → IsWord w → words_of w ≡ w ∷ []
unfolding words_of
word_alone w h = rw (slice_split_none is_blank w (solid w h.plain), h.some) refl

pub words_of-joined : (ws : List (List ℕ)) → AreWords ws → words_of (joined ws) ≡ ws
unfolding words_of
words_of-joined [] h = refl
words_of-joined (w ∷ []) h = word_alone w h.0
words_of-joined (w ∷ v ∷ ws) h = word_more w (joined (v ∷ ws)) h.0 ∙ ap (λ (vs : List (List ℕ)). w ∷ vs) (words_of-joined (v ∷ ws) h.1)

own : IsNumeralModel (λ ds. list_all is_digit ds ≡ true) value_of
own = numerals_by_fold (λ ds. list_all is_digit ds ≡ true) (search rules) (λ n ds. fold (λ n b. n * 10 + (b - 48)) n ds) (search rules)

pub number_again : (n : ℕ) → n < 10 ^ 10 → number_of (decimal n) ≡ Ok n
unfolding number_of
number_again n l =
    let small : n < 2 ^ 64 = omega arith in
    let digits : list_all is_digit (decimal n) ≡ true = digits_decimal own n small in
    let value : value_of (decimal n) ≡ n = digits_value-decimal own n small in
    let one : leb 1 (length (decimal n)) ≡ true = le-leb _ _ (decimal_nonempty n small) in
    let ten : leb (length (decimal n)) 10 ≡ true = le-leb _ _ (length-decimal-le 10 n (omega arith) l small) in
    rw (one, ten, digits, value) refl

digit_plain : (b : ℕ) → is_digit b ≡ true → is_plain b ≡ true
digit_plain b e = grind (arith, nat_tests)

nonempty : (w : List ℕ) → 0 < length w → has_bytes w ≡ true
nonempty [] l = let no : ⊥ = omega arith in absurd no
nonempty (b ∷ w) l = refl

pub decimal_word : (n : ℕ) → n < 2 ^ 64 → IsWord (decimal n)
decimal_word n l =
    let digits : list_all is_digit (decimal n) ≡ true = digits_decimal own n l in
    record {
      some = nonempty (decimal n) (decimal_nonempty n l);
      plain = list_all-from_AllPass is_plain (decimal n) (λ k d h. digit_plain (get_or (decimal n) k d) (AllPass-from_list_all is_digit (decimal n) digits k d h));
    }

-- ---- each form

cycles_again : (s : SoFar) (c : ℕ) → IsNext s (Cycles c) → line_read s (item_words (Cycles c)) ≡ Ok (Some (Cycles c))
unfolding line_read line_item cycles_line
cycles_again s c h =
    let low : leb 1 c ≡ true = le-leb 1 c h.1 in
    let high : leb c 100000 ≡ true = le-leb c 100000 h.2 in
    rw (h.0, number_again c (omega arith), low, high) refl

small_again : (n : ℕ) → n ≤ 255 → number_to 255 (decimal n) ≡ Ok n
unfolding number_to
small_again n l = let fits : leb n 255 ≡ true = le-leb n 255 l in rw (number_again n (omega arith), fits) refl

faulty_with : (s : SoFar) (e : ℕ) (o : Option ℕ) → s.cycles ≡ o → InRun o 0 → s.named ≡ None → s.last ≡ None → e < s.n → s.n ≤ 5 → line_read s (item_words (Faulty e)) ≡ Ok (Some (Faulty e))
unfolding line_read line_item faulty_line
faulty_with s e None f r named last l n = absurd r
faulty_with s e (Some total) f r named last l n =
    let below : ltb e s.n ≡ true = lt-ltb e s.n l in
    rw (f, small_again e (omega arith), named, last, below) refl

digit_byte : (e : ℕ) → e < 10 → is_digit (48 + e) ≡ true
digit_byte e l =
    let low : leb 48 (48 + e) ≡ true = le-leb 48 (48 + e) (omega arith) in
    let high : leb (48 + e) 57 ≡ true = le-leb (48 + e) 57 (omega arith) in
    rw (low, high) refl

digit_back : (e : ℕ) → 48 + e - 48 ≡ e
digit_back e = omega arith

proc_again : (n : ℕ) (p : Proc) → p.ne < n → n ≤ 5 → p.port < 8 → proc_of n (proc_word p) ≡ Ok p
unfolding proc_of proc_word
proc_again n p l m h = rw (decimal_digit p.ne (omega arith), decimal_digit p.port (omega arith), digit_byte p.ne (omega arith), digit_byte p.port (omega arith), digit_back p.ne, digit_back p.port, lt-ltb p.ne n l, lt-ltb p.port 8 h) refl

read_with : (s : SoFar) (c : ℕ) (p : Proc) (o : Option ℕ) → s.cycles ≡ o → InRun o c → c < 10 ^ 10 → may_follow s.last c ≡ true → asked_at s c < 80 → p.ne < s.n → s.n ≤ 5 → p.port < 8 → line_read s (item_words (Asked c (Read p))) ≡ Ok (Some (Asked c (Read p)))
unfolding line_read line_item at_item read_line in_order with_room asked_at
read_with s c p None f r w follows room l n h = absurd r
read_with s c p (Some total) f r w follows room l n h =
    let within : ltb c total ≡ true = lt-ltb c total r in
    let few : ltb (asked_at s c) 80 ≡ true = lt-ltb (asked_at s c) 80 room in
    rw (f, number_again c w, within, follows, proc_again s.n p l n h, few) refl

-- ---- hexadecimal words

longer_word : (x y a : ℕ) (xs : List ℕ) → is_word (x ∷ y ∷ xs) (a ∷ []) ≡ false
longer_word x y a xs = and_no (eqb x a) where
  and_no : (b : Bool) → (b && false) ≡ false
  and_no true = refl
  and_no false = refl

-- the digits of bytes are not a dash
not_dash : (b : ℕ) (bytes : List ℕ) → is_word (encode_lower (b ∷ bytes)) (codes "-") ≡ false
unfolding encode_with
not_dash b bytes = longer_word (slice_index lower_digits (b / 16)) (slice_index lower_digits (b % 16)) 45 (encode_with lower_digits bytes)

apart : (b v : ℕ) → is_hex_digit v ≡ false → is_hex_digit b ≡ true → eqb b v ≡ false
apart b v n e = at (eqb b v) refl where
  at : (t : Bool) → eqb b v ≡ t → t ≡ false
  at true h = let same : b ≡ v = eqb-true b v h in absurd (cc (ap is_hex_digit same))
  at false h = refl

hex_plain : (b : ℕ) → is_hex_digit b ≡ true → is_plain b ≡ true
hex_plain b e = rw (apart b 32 refl e, apart b 9 refl e, apart b 10 refl e, apart b 13 refl e) refl

length_encoded : (bytes : List ℕ) → length (encode_lower bytes) ≡ 2 * length bytes
length_encoded bytes = length-encode_with lower_digits bytes

encoded_word : (b : ℕ) (bytes : List ℕ) → AreBytes (b ∷ bytes) → IsWord (encode_lower (b ∷ bytes))
encoded_word b bytes h =
    let digits = (decode_of-ok (encode_lower (b ∷ bytes)) (b ∷ bytes) (decode_of-encode_lower (b ∷ bytes) h)).1 in
    let long = length_encoded (b ∷ bytes) in
    record {
      some = nonempty (encode_lower (b ∷ bytes)) (omega arith);
      plain = list_all-from_AllPass is_plain (encode_lower (b ∷ bytes)) (λ k d l. hex_plain (get_or (encode_lower (b ∷ bytes)) k d) (digits k d l));
    }

bytes_stand : (bytes : List ℕ) → AreBytes bytes → IsWord (bytes_word bytes)
bytes_stand [] h = record { some = refl; plain = refl }
bytes_stand (b ∷ bytes) h = encoded_word b bytes h

frame_again : (bytes : List ℕ) → length bytes ≤ 331 → AreBytes bytes → frame_of (bytes_word bytes) ≡ Ok (record { items = bytes })
unfolding frame_of
frame_again [] l h = refl
frame_again (b ∷ bytes) l h =
    let long = length_encoded (b ∷ bytes) in
    let low : leb 2 (length (encode_lower (b ∷ bytes))) ≡ true = le-leb _ _ (omega arith) in
    let high : leb (length (encode_lower (b ∷ bytes))) 662 ≡ true = le-leb _ _ (omega arith) in
    rw (not_dash b bytes, low, high, decode_of-encode_lower (b ∷ bytes) h) refl

front_again : (bytes : List ℕ) → length bytes ≤ 64 → AreBytes bytes → packet_of (bytes_word bytes) ≡ Ok (record { bytes = filled_up 64 bytes })
unfolding packet_of
front_again [] l h = refl
front_again (b ∷ bytes) l h =
    let long = length_encoded (b ∷ bytes) in
    let low : leb 2 (length (encode_lower (b ∷ bytes))) ≡ true = le-leb _ _ (omega arith) in
    let high : leb (length (encode_lower (b ∷ bytes))) 128 ≡ true = le-leb _ _ (omega arith) in
    rw (not_dash b bytes, low, high, decode_of-encode_lower (b ∷ bytes) h) refl

-- behind the last byte that is not 0 are zeros
zero_behind : (xs : List ℕ) (i d : ℕ) → length xs - suffix_len (λ b. eqb b 0) xs ≤ i → i < length xs → get_or xs i d ≡ 0
zero_behind xs i d from l =
    let short = suffix_len-le-length (λ b. eqb b 0) xs in
    let j : ℕ = length xs - 1 - i in
    let within : j < length xs = omega arith in
    let under : j < suffix_len (λ b. eqb b 0) xs = omega arith in
    let at = prefix_len_passes (λ b. eqb b 0) (reverse xs) j d under in
    let back : length xs - 1 - j ≡ i = omega arith in
    let same : get_or (reverse xs) j d ≡ get_or xs i d = get_or-reverse xs j d within ∙ ap (λ (k : ℕ). get_or xs k d) back in
    sym same ∙ eqb-true _ _ at

refilled_at : (xs : List ℕ) (k m i d : ℕ) → length (take k xs) ≡ k → k + m ≡ length xs → ((j : ℕ) → k ≤ j → j < length xs → get_or xs j d ≡ 0) → i < length xs → get_or (take k xs ++ replicate m 0) i d ≡ get_or xs i d
refilled_at xs k m i d cut whole zeros l = elim (cases_lt i k) [
  | inl lt ↦ get_or_append_left (take k xs) (replicate m 0) d i (omega arith) ∙ get_or-take k xs i d lt
  | inr ge ↦ get_or-append_right (take k xs) (replicate m 0) k i d cut ge ∙ get_or-replicate m (i - k) 0 d (omega arith) ∙ sym (zeros i ge l)
]

refilled : (xs : List ℕ) (n : ℕ) → length xs ≡ n → filled_up n (up_to_last xs) ≡ xs
refilled xs n e =
    let k : ℕ = length xs - suffix_len (λ b. eqb b 0) xs in
    let cut : length (take k xs) ≡ k = length-take-le k xs (omega arith) in
    let m : ℕ = n - length (take k xs) in
    let whole : k + m ≡ length xs = omega arith in
    let zeros : length (replicate {A = ℕ} m 0) ≡ m = length-replicate {A = ℕ} m 0 in
    same_lists (take k xs ++ replicate m 0) xs
    (omega (arith, length-append (take k xs) (replicate m 0)))
    (λ i d l. refilled_at xs k m i d cut whole (λ j ge lt. zero_behind xs j d ge lt) (omega (arith, length-append (take k xs) (replicate m 0))))

bytes_of_front : (k : ℕ) (xs : List ℕ) → AreBytes xs → AreBytes (take k xs)
bytes_of_front k xs h i = elim (cases_lt i k) [
  | inl lt ↦ rw (get_or-take k xs i 0 lt) (h i)
  | inr ge ↦ let short : length (take k xs) ≤ i = omega (arith, length-take k xs) in rw (get_or_past (take k xs) i 0 short) (omega arith)
]

packet_again : (bytes : List ℕ) → length bytes ≡ 64 → AreBytes bytes → packet_of (packet_word bytes) ≡ Ok (record { bytes = bytes })
unfolding packet_word
packet_again bytes l h =
    let k : ℕ = length bytes - suffix_len (λ b. eqb b 0) bytes in
    front_again (up_to_last bytes) (omega (arith, length-take k bytes)) (bytes_of_front k bytes h)
    ∙ ap (λ (bs : List ℕ). let r : Result Packet Refused = Ok (record { bytes = bs }) in r) (refilled bytes 64 l)

packet_stand : (bytes : List ℕ) → AreBytes bytes → IsWord (packet_word bytes)
unfolding packet_word
packet_stand bytes h = bytes_stand (up_to_last bytes) (bytes_of_front (length bytes - suffix_len (λ b. eqb b 0) bytes) bytes h)

bits_again : (b : ℕ) → b < 256 → bits_of (encode_lower (b ∷ [])) ≡ Ok b
unfolding bits_of encode_with
bits_again b l =
    let whole : b / 16 * 16 + b % 16 ≡ b = omega arith in
    rw (IsDigits-lower_digits (b / 16) (omega arith), IsDigits-lower_digits (b % 16) (omega arith), whole) refl

bits_stand : (b : ℕ) → b < 256 → IsWord (encode_lower (b ∷ []))
bits_stand b l = encoded_word b [] one where
  one : AreBytes (b ∷ [])
  one zero = l
  one (suc i) = omega arith

-- ---- rounds and elements

round_again : (r : Option Round) → round_of (round_word r) ≡ Ok r
unfolding round_of
round_again (Some A1) = refl
round_again (Some A2) = refl
round_again (Some B1) = refl
round_again (Some B2) = refl
round_again None = refl

round_stand : (r : Option Round) → IsWord (round_word r)
round_stand (Some A1) = record { some = refl; plain = refl }
round_stand (Some A2) = record { some = refl; plain = refl }
round_stand (Some B1) = record { some = refl; plain = refl }
round_stand (Some B2) = record { some = refl; plain = refl }
round_stand None = record { some = refl; plain = refl }

one_letter : (x a b : ℕ) (rest : List ℕ) → is_word (x ∷ []) (a ∷ b ∷ rest) ≡ false
one_letter x a b rest = and_no (eqb x a) where
  and_no : (t : Bool) → (t && false) ≡ false
  and_no true = refl
  and_no false = refl

differs : (e f : ℕ) → (e ≡ f → ⊥) → eqb e f ≡ false
differs e f n = at (eqb e f) refl where
  at : (t : Bool) → eqb e f ≡ t → t ≡ false
  at true h = absurd (n (eqb-true e f h))
  at false h = refl

other_again : (why : Refused) (a b : ℕ) (rest : List ℕ) (n f : ℕ) (o : Option ℕ) → is_word (a ∷ b ∷ rest) (a ∷ b ∷ rest) ≡ true → n ≤ 5 → IsOther n (Some f) o → other_of why (a ∷ b ∷ rest) n f (element_word (a ∷ b ∷ rest) o) ≡ Ok o
unfolding other_of digit_of
other_again why a b rest n f None same l h = rw same refl
other_again why a b rest n f (Some e) same l h =
    rw (decimal_digit e (omega arith), one_letter (48 + e) a b rest, digit_byte e (omega arith), digit_back e, lt-ltb e n h.0, differs e f h.1) refl

element_stand : (name : List ℕ) (n : ℕ) (f o : Option ℕ) → IsWord name → n ≤ 5 → IsOther n f o → IsWord (element_word name o)
element_stand name n f None w l h = w
element_stand name n None (Some e) w l h = absurd h
element_stand name n (Some f) (Some e) w l h = decimal_word e (omega arith)

-- ---- posts, edits and rejoins

post_with : (s : SoFar) (c : ℕ) (p : Proc) (d : Descriptor) (x : Packet) (o : Option ℕ) → s.cycles ≡ o → InRun o c → c < 10 ^ 10 → may_follow s.last c ≡ true → asked_at s c < 80 → ActFits s.n (Post p d x) → s.n ≤ 5 → line_read s (item_words (Asked c (Post p d x))) ≡ Ok (Some (Asked c (Post p d x)))
unfolding line_read line_item at_item post_line in_order with_room asked_at
post_with s c p d x None f r w follows room h n = absurd r
post_with s c p d x (Some total) f r w follows room h n =
    let within : ltb c total ≡ true = lt-ltb c total r in
    let few : ltb (asked_at s c) 80 ≡ true = lt-ltb (asked_at s c) 80 room in
    rw (f, number_again c w, small_again d.dest (omega arith), small_again d.class (omega arith), small_again d.source (omega arith), within, follows, proc_again s.n p h.0 n h.1, packet_again x.bytes h.5 h.6, few) refl

edit_again : (s : SoFar) (at : ℕ) (round : Option Round) (to : Option ℕ) (what : EditKind) (o : Option ℕ) → s.faulty ≡ o → IsOther s.n o to → s.n ≤ 5 → edit_line s at (round_word round) (element_word (codes "all") to) what ≡ Ok (Edited (record { cycle = at; round = round; to = to; what = what }))
unfolding edit_line
edit_again s at round to what None f h n = absurd h
edit_again s at round to what (Some e) f h n =
    rw (f, round_again round, other_again RoundOrReceiver 97 108 (108 ∷ []) s.n e to refl n h) refl

offset_again : (n : ℕ) → n ≤ 330 → number_to 330 (decimal n) ≡ Ok n
unfolding number_to
offset_again n l = let fits : leb n 330 ≡ true = le-leb n 330 l in rw (number_again n (omega arith), fits) refl

edited_with : (s : SoFar) (c : ℕ) (round : Option Round) (to : Option ℕ) (what : EditKind) (o : Option ℕ) → s.cycles ≡ o → InRun o c → c < 10 ^ 10 → may_follow s.last c ≡ true → IsOther s.n s.faulty to → s.n ≤ 5 → KindFits what → line_read s (item_words (Edited (record { cycle = c; round = round; to = to; what = what }))) ≡ Ok (Some (Edited (record { cycle = c; round = round; to = to; what = what })))
unfolding line_read line_item at_item drop_line repeat_line flip_line send_line in_order
edited_with s c round to what None f r w follows h n k = absurd r
edited_with s c round to Drop (Some total) f r w follows h n k =
    let within : ltb c total ≡ true = lt-ltb c total r in
    let t : SoFar = record s { cycles = Some total } in
    let edit : edit_line t c (round_word round) (element_word (codes "all") to) Drop ≡ Ok (Edited (record { cycle = c; round = round; to = to; what = Drop })) = edit_again t c round to Drop s.faulty refl h n in
    rw (f, number_again c w, within, follows, edit) refl
edited_with s c round to Repeat (Some total) f r w follows h n k =
    let within : ltb c total ≡ true = lt-ltb c total r in
    let t : SoFar = record s { cycles = Some total } in
    let edit : edit_line t c (round_word round) (element_word (codes "all") to) Repeat ≡ Ok (Edited (record { cycle = c; round = round; to = to; what = Repeat })) = edit_again t c round to Repeat s.faulty refl h n in
    rw (f, number_again c w, within, follows, edit) refl
edited_with s c round to (Flip offset bits) (Some total) f r w follows h n k =
    let within : ltb c total ≡ true = lt-ltb c total r in
    let t : SoFar = record s { cycles = Some total } in
    let edit : edit_line t c (round_word round) (element_word (codes "all") to) (Flip offset bits) ≡ Ok (Edited (record { cycle = c; round = round; to = to; what = (Flip offset bits) })) = edit_again t c round to (Flip offset bits) s.faulty refl h n in
    rw (f, number_again c w, offset_again offset k.0, bits_again bits k.1, within, follows, edit) refl
edited_with s c round to (Send frame) (Some total) f r w follows h n k =
    let within : ltb c total ≡ true = lt-ltb c total r in
    let t : SoFar = record s { cycles = Some total } in
    let edit : edit_line t c (round_word round) (element_word (codes "all") to) (Send frame) ≡ Ok (Edited (record { cycle = c; round = round; to = to; what = (Send frame) })) = edit_again t c round to (Send frame) s.faulty refl h n in
    rw (f, number_again c w, within, follows, frame_again frame.items k.0 k.1, edit) refl

rejoined_with : (s : SoFar) (c : ℕ) (next o : Option ℕ) → s.cycles ≡ o → (g : Option ℕ) → s.faulty ≡ g → InRun o c → c < 10 ^ 10 → may_follow s.last c ≡ true → is_this s.last c ≡ false → IsOther s.n g next → s.n ≤ 5 → line_read s (item_words (Rejoined c next)) ≡ Ok (Some (Rejoined c next))
unfolding line_read line_item at_item rejoin_line in_order
rejoined_with s c next None f g e r w follows new h n = absurd r
rejoined_with s c next (Some total) f None e r w follows new h n = absurd h
rejoined_with s c next (Some total) f (Some x) e r w follows new h n =
    let within : ltb c total ≡ true = lt-ltb c total r in
    rw (f, number_again c w, within, follows, new, e, other_again Rejoin 110 111 (110 ∷ 101 ∷ []) s.n x next refl n h) refl

-- an item that may come next is read back
pub item_again : (s : SoFar) (item : Item) → s.n ≤ 5 → IsNext s item → line_read s (item_words item) ≡ Ok (Some item)
item_again s (Cycles c) n h = cycles_again s c h
item_again s (Faulty e) n h = faulty_with s e s.cycles refl h.0 h.1 h.2 h.3 n
item_again s (Asked c (Read p)) n h = read_with s c p s.cycles refl h.0.0 (omega arith) h.0.2 h.1 h.2.0 n h.2.1
item_again s (Asked c (Post p d x)) n h = post_with s c p d x s.cycles refl h.0.0 (omega arith) h.0.2 h.1 h.2 n
item_again s (Edited e) n h = edited_with s e.cycle e.round e.to e.what s.cycles refl h.0.0 (omega arith) h.0.2 h.1 n h.2
item_again s (Rejoined c next) n h = rejoined_with s c next s.cycles refl s.faulty refl h.0.0 (omega arith) h.0.2 h.1 h.2 n

proc_is_word : (p : Proc) → p.ne < 10 → p.port < 10 → IsWord (proc_word p)
unfolding proc_word
proc_is_word p l h =
    rw (decimal_digit p.ne l, decimal_digit p.port h) (record { some = refl; plain = rw (digit_plain (48 + p.ne) (digit_byte p.ne l), digit_plain (48 + p.port) (digit_byte p.port h)) refl })

edit_words_stand : (round to : List ℕ) (what : EditKind) → IsWord round → IsWord to → KindFits what → AreWords (edit_words round to what)
edit_words_stand round to Drop r t k = (record { some = refl; plain = refl }, (r, (t, tt)))
edit_words_stand round to Repeat r t k = (record { some = refl; plain = refl }, (r, (t, tt)))
edit_words_stand round to (Flip offset bits) r t k = (record { some = refl; plain = refl }, (r, (t, (decimal_word offset (omega arith), (bits_stand bits k.1, tt)))))
edit_words_stand round to (Send frame) r t k = (record { some = refl; plain = refl }, (r, (t, (bytes_stand frame.items k.1, tt))))

words_stand : (s : SoFar) (item : Item) → s.n ≤ 5 → IsNext s item → AreWords (item_words item)
words_stand s (Cycles c) n h = (record { some = refl; plain = refl }, (decimal_word c (omega arith), tt))
words_stand s (Faulty e) n h = (record { some = refl; plain = refl }, (decimal_word e (omega arith), tt))
words_stand s (Asked c (Read p)) n h =
    (record { some = refl; plain = refl }, (decimal_word c (omega arith), (record { some = refl; plain = refl }, (proc_is_word p (omega arith) (omega arith), tt))))
words_stand s (Asked c (Post p d x)) n h =
    (record { some = refl; plain = refl }, (decimal_word c (omega arith), (record { some = refl; plain = refl }, (proc_is_word p (omega arith) (omega arith), (decimal_word d.dest (omega arith), (decimal_word d.class (omega arith), (decimal_word d.source (omega arith), (packet_stand x.bytes h.2.6, tt))))))))
words_stand s (Edited e) n h =
    (record { some = refl; plain = refl }, (decimal_word e.cycle (omega arith), edit_words_stand (round_word e.round) (element_word (codes "all") e.to) e.what (round_stand e.round) (element_stand (codes "all") s.n s.faulty e.to (record { some = refl; plain = refl }) n h.1) h.2))
words_stand s (Rejoined c next) n h =
    (record { some = refl; plain = refl }, (decimal_word c (omega arith), (record { some = refl; plain = refl }, (element_stand (codes "none") s.n s.faulty next (record { some = refl; plain = refl }) n h.2, tt))))

n_is : (n : ℕ) (items : List Item) → (before n items).n ≡ n
unfolding before
n_is n items = refl

-- what is printed is read back, one item after another
turned : (n : ℕ) (items more : List Item) (line : ℕ) → n ≤ 5 → AreNext n items more → items_from n items line (lines_of (text_of more)) ≡ Ok (turned_onto more items)
unfolding items_from lines_of text_of words_of line_read
turned n items [] line l h = refl
turned n items (item ∷ more) line l h =
    let s = before n items in
    let five : s.n ≤ 5 = rw (n_is n items) l in
    let words = words_stand s item five h.0 in
    let inside = joined_inside (item_words item) words in
    let read : line_read s (words_of (joined (item_words item))) ≡ Ok (Some item) = rw (words_of-joined (item_words item) words) (item_again s item five h.0) in
    ap (λ (t : List ℕ). items_from n items line (lines_of t)) (flat_map-cons item_line item more)
    ∙ ap (λ (ls : List (List ℕ)). items_from n items line ls) (lines_more (joined (item_words item)) (text_of more) inside)
    ∙ goes n items line (joined (item_words item)) (lines_of (text_of more)) (Some item) read
    ∙ turned n (item ∷ items) more (line + 1) l h.1

pub script_again : (n : ℕ) (items : List Item) (cycles : ℕ) → n ≤ 5 → AreNext n [] items → cycles_in (turned_onto items []) ≡ Some cycles → script_of n (text_of items) ≡ Ok (plan_with_items cycles (turned_onto items []))
unfolding script_of
script_again n items cycles l h c = rw (turned n [] items 1 l h, c) refl
