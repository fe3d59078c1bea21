-- How long the lines of a trace are.
use Rattle.std.proofs.Common.{◌≡◌, ℕ, ◌+◌, ◌*◌, ◌≤◌, List, [], ◌∷◌, ◌++◌, length, refl, arith}
use Rattle.std.specs.List.{AllByRecursion}
use Rattle.std.specs.Fmt.{decimal}
use Rattle.std.proofs.lemmas.List.{length-append}
use Rattle.hex.specs.Hex.{encode_with, encode_lower, lower_digits}
use Rattle.ftpp_base.specs.declared.element.Round.{Round}
use Rattle.ftpp_base.specs.declared.element.Round.TheVariants.{A1, A2, B1, B2}
use Rattle.link_fabric.specs.declared.fabrics.Carried.{Carried}
use Rattle.report_text.specs.Words.{bytes_text, round_text}
use Rattle.report_text.specs.Lines.{trace_line}
use Rattle.report_text.specs.Trace.{carried_line, carried_lines, IsOfRun, CycleFits}
use Rattle.report_text.proofs.Digits.{five_digits, one_digit}

encoded_len : (t bytes : List ℕ) → length (encode_with t bytes) ≡ 2 * length bytes
unfolding encode_with
encoded_len t [] = refl
encoded_len t (b ∷ bytes) = let rest : length (encode_with t bytes) ≡ 2 * length bytes = encoded_len t bytes in omega (arith, rest)

-- two digits a byte, or a dash
text_len : (bytes : List ℕ) → length bytes ≤ 331 → length (bytes_text bytes) ≤ 662
text_len [] l = omega arith
text_len (b ∷ bytes) l = let whole : length (encode_lower (b ∷ bytes)) ≡ 2 * length (b ∷ bytes) = encoded_len lower_digits (b ∷ bytes) in omega (arith, whole, l)

round_len : (round : Round) → length (round_text round) ≡ 2
round_len A1 = refl
round_len A2 = refl
round_len B1 = refl
round_len B2 = refl

-- the length of a line by its parts
line_len : (cycle : ℕ) (round : Round) (from to : ℕ) (frame : List ℕ)
    → length (trace_line cycle round from to frame) ≡ 6 + length (decimal cycle) + 1 + length (round_text round) + 1 + length (decimal from) + 1 + length (decimal to) + 1 + length (bytes_text frame) + 1
unfolding trace_line
line_len cycle round from to frame = simp length-append refl

-- the line of a frame of a run
pub line_fits : (c : Carried) → IsOfRun c → length (carried_line c) ≤ 682
line_fits c h =
    let whole = line_len c.at.cycle c.at.round c.from c.to c.frame.items in
    let cycle : length (decimal c.at.cycle) ≤ 5 = five_digits c.at.cycle h.cycle in
    let round : length (round_text c.at.round) ≡ 2 = round_len c.at.round in
    let from : length (decimal c.from) ≤ 1 = one_digit c.from (omega (arith, h.from)) in
    let to : length (decimal c.to) ≤ 1 = one_digit c.to (omega (arith, h.to)) in
    let bytes : length (bytes_text c.frame.items) ≤ 662 = text_len c.frame.items h.bytes in
    omega (arith, whole, cycle, round, from, to, bytes)

lines_fit : (frames : List Carried) → AllByRecursion IsOfRun frames → length (carried_lines frames) ≤ 682 * length frames
lines_fit [] h = omega arith
lines_fit (c ∷ frames) h =
    let one : length (carried_line c) ≤ 682 = line_fits c h.0 in
    let rest : length (carried_lines frames) ≤ 682 * length frames = lines_fit frames h.1 in
    let both : length (carried_line c ++ carried_lines frames) ≡ length (carried_line c) + length (carried_lines frames) = length-append (carried_line c) (carried_lines frames) in
    omega (arith, one, rest, both)

pub cycle_fits : CycleFits
cycle_fits frames few h = let all : length (carried_lines frames) ≤ 682 * length frames = lines_fit frames h in omega (arith, all, few)
