-- The words of a form as values, or what is wrong with them.
use Rattle.std.specs.Prelude.{◌≡◌, ℕ, ◌+◌, ◌-◌, ◌*◌, Bool, not, ◌&&◌, ◌==◌, nat_lt, nat_le, List, [], ◌∷◌, ◌++◌, length, drop, codes, replicate, Option, Some, None, Result, Ok, Err, if◌then◌else◌}
use Rattle.std.specs.List.{fold, list_all}
use Rattle.hex.specs.Hex.{decode_of, hex_digit_value}
use Rattle.hex.specs.declared.error.FromHexError.{FromHexError}
use Rattle.ftpp_base.specs.declared.element.Proc.{Proc}
use Rattle.arrayvec.specs.ArrayVec.{ArrayVec}
use Rattle.ftpp_base.specs.declared.element.Round.{Round}
use Rattle.ftpp_base.specs.declared.element.Round.TheVariants.{A1, A2, B1, B2}
use Rattle.packet_format.specs.declared.Packet.{Packet}
use Rattle.script_words.specs.declared.refusals.Refused.{Refused}
use Rattle.script_words.specs.declared.refusals.Refused.TheVariants.{Number, Processor, Bytes, RoundOrReceiver}
use Rattle.packet_format.specs.Packets.{same_bytes, filled_up}

-- a step after what did not fail
infixl 10 ◌>>=◌
abbrev pub ◌>>=◌ : {A B E : Type 0} → Result A E → (A → Result B E) → Result B E
(Ok x) >>= f = f x
(Err e) >>= f = Err e

-- whether the word is this one
abbrev pub is_word : List ℕ → List ℕ → Bool
is_word word name = same_bytes word name

abbrev pub is_digit : ℕ → Bool
is_digit b = nat_le 48 b && nat_le b 57

-- the number that digits stand for
abbrev pub value_of : List ℕ → ℕ
value_of word = fold (λ n b. n * 10 + (b - 48)) 0 word

-- 1 to 10 decimal digits
unfoldable pub number_of : List ℕ → Result ℕ Refused
number_of word = if nat_le 1 (length word) && nat_le (length word) 10 && list_all is_digit word then Ok (value_of word) else Err Number

abbrev pub at_most : ℕ → ℕ → Result ℕ Refused
at_most top n = if nat_le n top then Ok n else Err Number

-- a number up to top
unfoldable pub number_to : ℕ → List ℕ → Result ℕ Refused
number_to top word = number_of word >>= λ n. at_most top n

-- a digit, a dot and a digit: the element below n and the port below 8
unfoldable pub proc_of : ℕ → List ℕ → Result Proc Refused
proc_of n (e ∷ dot ∷ p ∷ []) =
    if is_digit e && dot == 46 && is_digit p && nat_lt (e - 48) n && nat_lt (p - 48) 8 then Ok (record { ne = e - 48; port = p - 48 }) else Err Processor
proc_of n _ = Err Processor

abbrev pub packet_from : Result (List ℕ) FromHexError → Result Packet Refused
packet_from (Ok bytes) = Ok (record { bytes = filled_up 64 bytes })
packet_from (Err e) = Err Bytes

-- a dash, or 2 to 128 digits in pairs
unfoldable pub packet_of : List ℕ → Result Packet Refused
packet_of word =
    if is_word word (codes "-") then Ok (record { bytes = replicate 64 0 })
    else if nat_le 2 (length word) && nat_le (length word) 128 then packet_from (decode_of word)
    else Err Bytes

abbrev pub frame_from : Result (List ℕ) FromHexError → Result (ArrayVec ℕ) Refused
frame_from (Ok bytes) = Ok (record { items = bytes })
frame_from (Err e) = Err Bytes

-- a dash, or 2 to 662 digits in pairs
unfoldable pub frame_of : List ℕ → Result (ArrayVec ℕ) Refused
frame_of word =
    if is_word word (codes "-") then Ok (record { items = [] })
    else if nat_le 2 (length word) && nat_le (length word) 662 then frame_from (decode_of word)
    else Err Bytes

abbrev pub bits_from : Option ℕ → Option ℕ → Result ℕ Refused
bits_from (Some high) (Some low) = Ok (high * 16 + low)
bits_from (Some high) None = Err Number
bits_from None low = Err Number

-- two hexadecimal digits
unfoldable pub bits_of : List ℕ → Result ℕ Refused
bits_of (high ∷ low ∷ []) = bits_from (hex_digit_value high) (hex_digit_value low)
bits_of _ = Err Number

-- one round, or any
unfoldable pub round_of : List ℕ → Result (Option Round) Refused
round_of word =
    if is_word word (codes "A1") then Ok (Some A1)
    else if is_word word (codes "A2") then Ok (Some A2)
    else if is_word word (codes "B1") then Ok (Some B1)
    else if is_word word (codes "B2") then Ok (Some B2)
    else if is_word word (codes "any") then Ok None
    else Err RoundOrReceiver

-- the digit of an element below n other than f
unfoldable pub digit_of : Refused → ℕ → ℕ → List ℕ → Result (Option ℕ) Refused
digit_of refused n f (d ∷ []) = if is_digit d && nat_lt (d - 48) n && not (d - 48 == f) then Ok (Some (d - 48)) else Err refused
digit_of refused n f _ = Err refused

-- an element other than f, or None where a name stands
unfoldable pub other_of : Refused → List ℕ → ℕ → ℕ → List ℕ → Result (Option ℕ) Refused
other_of refused name n f word = if is_word word name then Ok None else digit_of refused n f word

-- the decoded bytes at the front of a row, or the refusal
abbrev pub Decodes : Result (List ℕ) FromHexError → List ℕ → List ℕ → Result Unit Refused → Type 0
Decodes (Ok bytes) old new r = (r ≡ Ok tt) × (new ≡ bytes ++ drop (length bytes) old)
Decodes (Err e) old new r = r ≡ Err Bytes
