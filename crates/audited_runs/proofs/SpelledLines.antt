-- A line of a trace is read to the frame that it spells, and the text is cut into its lines.
use Rattle.std.proofs.Common.{◌≡◌, ℕ, zero, suc, ◌/◌, ◌%◌, ◌^◌, ◌<◌, Bool, true, false, not, eqb, leb, List, [], ◌∷◌, ◌++◌, length, get_or, length-append, refl, ap, ◌∙◌, arith, append_assoc, Some, Ok}
use Rattle.std.specs.Prelude.{slice_index, ◌&&◌, codes}
use Rattle.std.specs.List.{slice_split, list_all, flat_map, AllByRecursion}
use Rattle.std.specs.Fmt.{decimal}
use Rattle.std.proofs.lemmas.List.Splits.{slice_split_at}
use Rattle.std.proofs.lemmas.List.Sums.{AllPass-from_list_all, list_all-from_AllPass}
use Rattle.std.proofs.lemmas.List.Folds.{list_all-append}
use Rattle.std.proofs.lemmas.List.{take_at, drop_at}
use Rattle.std.proofs.lemmas.Bool.{le-leb, and_parts}
use Rattle.std.proofs.lemmas.Bool.Decides.{Decides-eqb}
use Rattle.std.proofs.lemmas.Slice.Eq.{slice_eq-Decides}
use Rattle.hex.specs.Hex.{encode_with, encode_lower, lower_digits}
use Rattle.hex.proofs.HexLemmas.{length-encode_with, decode_of-encode_lower}
use Rattle.ftpp_base.specs.declared.element.Round.{Round}
use Rattle.ftpp_base.specs.declared.element.Round.TheVariants.{A1, A2, B1, B2}
use Rattle.packet_format.specs.Packets.{same_bytes}
use Rattle.script_words.specs.Lines.{is_newline}
use Rattle.script_words.specs.Fields.{is_word, frame_of}
use Rattle.script_text.proofs.Printed.{is_plain, decimal_word}
use Rattle.report_text.specs.Words.{bytes_text, round_text}
use Rattle.report_text.specs.Lines.{trace_line}
use Rattle.trace_audit.specs.AuditedTrace.{round_word, line_head, head_at, after_head, bytes_spelled, bytes_if_read, frame_on, whole_lines, trace_lines}
use Rattle.audited_runs.specs.ReadBack.{IsSpelled}

-- ---- the bytes of a frame

and_none : (b : Bool) → (b && false) ≡ false
and_none true = refl
and_none false = refl

-- the digits of bytes are more than a dash
not_dash : (b : ℕ) (bytes : List ℕ) → is_word (encode_lower (b ∷ bytes)) (codes "-") ≡ false
unfolding encode_with
not_dash b bytes = and_none (eqb (slice_index lower_digits (b / 16)) 45)

-- they are read to the bytes
frame_read : (bytes : List ℕ) → IsSpelled bytes → frame_of (bytes_text bytes) ≡ Ok (record { items = bytes })
unfolding frame_of
frame_read [] is = refl
frame_read (b ∷ bytes) is =
    let long = length-encode_with lower_digits (b ∷ bytes) in
    let short = is.short in
    let low : leb 2 (length (encode_lower (b ∷ bytes))) ≡ true = le-leb _ _ (omega arith) in
    let high : leb (length (encode_lower (b ∷ bytes))) 662 ≡ true = le-leb _ _ (omega arith) in
    rw (not_dash b bytes, low, high, decode_of-encode_lower (b ∷ bytes) is.bytes) refl

-- ---- the head of a line

same_refl : (xs : List ℕ) → same_bytes xs xs ≡ true
same_refl xs = (slice_eq-Decides Decides-eqb xs xs (same_bytes xs xs) refl).1 refl

-- what follows a head that is there
after_there : (head word : List ℕ) → after_head head (head ++ word) ≡ Some word
after_there head word =
    let both = length-append head word in
    let whole : leb (length head) (length (head ++ word)) ≡ true = le-leb _ _ (omega arith) in
    rw (whole, take_at head word (length head) refl, same_refl head, drop_at head word (length head) refl) refl

-- a line with the head of its place is read to its frame
pub line_read : (n place : ℕ) (head frame : List ℕ) → head_at n place ≡ head → IsSpelled frame → frame_on n place (head ++ bytes_text frame) ≡ Some frame
unfolding frame_on
line_read n place head frame e is =
    ap (λ (h : List ℕ). bytes_spelled (after_head h (head ++ bytes_text frame))) e
    ∙ ap bytes_spelled (after_there head (bytes_text frame))
    ∙ ap bytes_if_read (frame_read frame is)

-- ---- a line has no newline

abbrev pub is_inside : ℕ → Bool
is_inside b = not (is_newline b)

inside_of : (a b c d : Bool) → (not a && not b && not c && not d) ≡ true → not c ≡ true
inside_of true b c d e = absurd cc
inside_of false true c d e = absurd cc
inside_of false false true d e = absurd cc
inside_of false false false d e = refl

decimal_inside : (k : ℕ) → k < 2 ^ 64 → list_all is_inside (decimal k) ≡ true
decimal_inside k l =
    let digits = decimal k in
    list_all-from_AllPass is_inside digits
    (λ i d m. inside_of (eqb (get_or digits i d) 32) (eqb (get_or digits i d) 9) (eqb (get_or digits i d) 10) (eqb (get_or digits i d) 13) (AllPass-from_list_all is_plain digits (decimal_word k l).plain i d m))

-- what passes at each place passes at any
at_any : (p : ℕ → Bool) (xs : List ℕ) (d : ℕ) → list_all p xs ≡ true → p d ≡ true → (i : ℕ) → p (get_or xs i d) ≡ true
at_any p [] d e f i = f
at_any p (x ∷ xs) d e f zero = (and_parts (p x) (list_all p xs) e).0
at_any p (x ∷ xs) d e f (suc i) = at_any p xs d (and_parts (p x) (list_all p xs) e).1 f i

digits_inside : (bytes : List ℕ) → list_all is_inside (encode_lower bytes) ≡ true
unfolding encode_with
digits_inside [] = refl
digits_inside (b ∷ bytes) =
    let digit = at_any is_inside lower_digits 0 refl refl in
    rw (digit (b / 16), digit (b % 16)) (digits_inside bytes)

text_inside : (bytes : List ℕ) → list_all is_inside (bytes_text bytes) ≡ true
text_inside [] = refl
text_inside (b ∷ bytes) = digits_inside (b ∷ bytes)

round_inside : (round : Round) → list_all is_inside (round_word round) ≡ true
round_inside A1 = refl
round_inside A2 = refl
round_inside B1 = refl
round_inside B2 = refl

pub line_inside : (cycle : ℕ) (round : Round) (from to : ℕ) (frame : List ℕ) → cycle < 100000 → from < 5 → to < 5
    → list_all is_inside (line_head cycle (record { round = round; from = from; to = to }) ++ bytes_text frame) ≡ true
unfolding line_head
line_inside cycle round from to frame k l m =
    simp (list_all-append, decimal_inside cycle (omega arith), decimal_inside from (omega arith), decimal_inside to (omega arith), round_inside round, text_inside frame) refl

-- ---- the lines of a text

-- a line with its end
abbrev pub ended : List ℕ → List ℕ
ended line = line ++ 10 ∷ []

-- the line of a frame is its head and its bytes
same_word : (round : Round) → round_text round ≡ round_word round
same_word A1 = refl
same_word A2 = refl
same_word B1 = refl
same_word B2 = refl

pub line_ended : (cycle : ℕ) (round : Round) (from to : ℕ) (frame : List ℕ)
    → trace_line cycle round from to frame ≡ ended (line_head cycle (record { round = round; from = from; to = to }) ++ bytes_text frame)
unfolding trace_line line_head
line_ended cycle round from to frame = rw (same_word round) refl

no_newline : (b : Bool) → not b ≡ true → b ≡ false
no_newline true e = absurd cc
no_newline false e = refl

-- the first line, and the others
line_first : (line rest : List ℕ) → list_all is_inside line ≡ true → slice_split is_newline (ended line ++ rest) ≡ line ∷ slice_split is_newline rest
line_first line rest e =
    ap (slice_split is_newline) (append_assoc line (10 ∷ []) rest)
    ∙ slice_split_at is_newline line 10 rest (λ k d l. no_newline (is_newline (get_or line k d)) (AllPass-from_list_all is_inside line e k d l)) refl

split_ended : (lines : List (List ℕ)) → AllByRecursion (λ line. list_all is_inside line ≡ true) lines → slice_split is_newline (flat_map ended lines) ≡ lines ++ [] ∷ []
split_ended [] a = refl
split_ended (line ∷ lines) a = line_first line (flat_map ended lines) a.0 ∙ ap (λ (more : List (List ℕ)). line ∷ more) (split_ended lines a.1)

whole_ended : (lines : List (List ℕ)) → whole_lines (lines ++ [] ∷ []) ≡ lines
whole_ended [] = refl
whole_ended (line ∷ []) = refl
whole_ended (line ∷ next ∷ lines) = ap (λ (more : List (List ℕ)). line ∷ more) (whole_ended (next ∷ lines))

-- Lines that end each with a newline are the lines of their text.
pub lines_again : (lines : List (List ℕ)) → AllByRecursion (λ line. list_all is_inside line ≡ true) lines → trace_lines (flat_map ended lines) ≡ lines
lines_again lines a = ap whole_lines (split_ended lines a) ∙ whole_ended lines
