-- Numbers and bytes, digit by digit.
use Rattle.std.proofs.Common.{◌≡◌, ℕ, ◌+◌, ◌-◌, ◌*◌, ◌/◌, ◌^◌, ◌<◌, ◌≤◌, Bool, true, false, List, length, take, drop, get_or, replicate, Result, Ok, Err, refl, ap, ◌∙◌, arith, add-one}
use Rattle.std.specs.Prelude.{◌&&◌}
use Rattle.std.specs.List.{fold, list_all}
use Rattle.std.proofs.Math.Nat.{pow-suc, pow-le-pow_right}
use Rattle.std.proofs.lemmas.List.{drop_more, drop-replicate, take_at}
use Rattle.hex.specs.Hex.{decode_of}
use Rattle.hex.specs.declared.error.FromHexError.{FromHexError}
use Rattle.hex.proofs.HexLemmas.{decode_of-ok}
use Rattle.script_words.specs.Fields.{is_digit, packet_from, frame_from, Decodes}
use Rattle.arrayvec.specs.ArrayVec.{ArrayVec}
use Rattle.script_words.specs.declared.refusals.Refused.{Refused}
use Rattle.script_words.specs.declared.refusals.Refused.TheVariants.{Bytes}
use Rattle.packet_format.specs.declared.Packet.{Packet}

and_true : (b c : Bool) → b ≡ true → (b && c) ≡ c
and_true true c e = refl
and_true false c e = absurd cc

and_false : (b c : Bool) → b ≡ false → (b && c) ≡ false
and_false true c e = absurd cc
and_false false c e = refl

pub digits_more : (word : List ℕ) (i : ℕ) → i < length word → is_digit (get_or word i 0) ≡ true → list_all is_digit (drop i word) ≡ list_all is_digit (drop (i + 1) word)
digits_more word i l e = rw (drop_more word i 0 l) (and_true (is_digit (get_or word i 0)) (list_all is_digit (drop (i + 1) word)) e)

pub digits_stop : (word : List ℕ) (i : ℕ) → i < length word → is_digit (get_or word i 0) ≡ false → list_all is_digit (drop i word) ≡ false
digits_stop word i l e = rw (drop_more word i 0 l) (and_false (is_digit (get_or word i 0)) (list_all is_digit (drop (i + 1) word)) e)

pub value_more : (n : ℕ) (word : List ℕ) (i : ℕ) → i < length word → fold (λ n b. n * 10 + (b - 48)) n (drop i word) ≡ fold (λ n b. n * 10 + (b - 48)) (n * 10 + (get_or word i 0 - 48)) (drop (i + 1) word)
value_more n word i l = rw (drop_more word i 0 l) refl

pub next_power : (n d i : ℕ) → n < 10 ^ i → d ≤ 9 → n * 10 + d < 10 ^ (i + 1)
next_power n d i l h = rw (add-one, pow-suc 10 i) (omega arith)

pub below_power : (n i : ℕ) → n < 10 ^ i → i ≤ 10 → n < 10 ^ 10
below_power n i l h =
    let wide : 10 ^ i ≤ 10 ^ 10 = pow-le-pow_right (omega arith) h in omega arith

-- a packet that was read, and one that was not
pub packet_decoded : (d : Result (List ℕ) FromHexError) (old : Packet) (new : List ℕ) → old ≡ record { bytes = replicate 64 0 } → Decodes d old.bytes new (Ok tt) → packet_from d ≡ Ok (record { bytes = new })
packet_decoded (Ok bytes) old new e h = rw (h.1, e, drop-replicate {X = ℕ} (length bytes) 64 0) refl
packet_decoded (Err f) old new e h = absurd cc

pub packet_refused : (d : Result (List ℕ) FromHexError) (old new : List ℕ) (why : Refused) → Decodes d old new (Err why) → packet_from d ≡ Err why
packet_refused (Ok bytes) old new why h = absurd cc
packet_refused (Err f) old new why h = let same : Bytes ≡ why = cc in rw (← same) refl

-- a frame that was read
pub frame_decoded : (word : List ℕ) (d : Result (List ℕ) FromHexError) (old new : List ℕ) (frame : ArrayVec ℕ) → decode_of word ≡ d → Decodes d old new (Ok tt) → frame.items ≡ take (length word / 2) new → Ok frame ≡ frame_from d
frame_decoded word (Ok bytes) old new frame e h f =
    let twice = (decode_of-ok word bytes e).2 in
    let half : length bytes ≡ length word / 2 = omega arith in
    let front : take (length word / 2) new ≡ bytes = rw h.1 (take_at bytes (drop (length bytes) old) (length word / 2) half) in
    ap (λ (xs : List ℕ). let r : Result (ArrayVec ℕ) Refused = Ok (record { items = xs }) in r) (f ∙ front)
frame_decoded word (Err g) old new frame e h f = absurd cc
