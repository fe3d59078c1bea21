-- The lines of frames, one after another.
use Rattle.std.proofs.Common.{◌≡◌, ℕ, ◌+◌, ◌*◌, ◌<◌, ◌≤◌, Bool, true, false, eqb, eq-eqb, arith, ◌⊎◌, List, [], ◌++◌, refl, sym, ◌∙◌, ap, append_assoc, add-one}
use Rattle.std.specs.Prelude.{slice_index_or}
use Rattle.std.proofs.lemmas.Bool.{eqb-true, false≢true}
use Rattle.std.proofs.lemmas.Grind.{flat_map-append}
use Rattle.ftpp_base.specs.declared.element.Slot.{Slot}
use Rattle.ftpp_base.specs.declared.element.Round.TheVariants.{A1, A2, B1, B2}
use Rattle.link_fabric.specs.declared.fabrics.Carried.{Carried}
use Rattle.cluster.specs.Delivered.{Delivered, frame_at}
use Rattle.cluster.specs.Carrying.{one_entry, entries_by, entries_of, round_entries, cycle_entries}
use Rattle.report_text.specs.Trace.{carried_line, carried_lines, cycle_frames}
use Rattle.ftpp_top.proofs.Again.{entries_are_frames}

pub lines_more : (text : List ℕ) (one two : List Carried) → (text ++ carried_lines one) ++ carried_lines two ≡ text ++ carried_lines (one ++ two)
lines_more text one two = append_assoc text (carried_lines one) (carried_lines two) ∙ ap (λ (xs : List ℕ). text ++ xs) (sym (flat_map-append carried_line one two))

pub by_more : (text : List ℕ) (at : Slot) (row : List (List ℕ)) (from to : ℕ) → (text ++ carried_lines (entries_by at row from to)) ++ carried_lines (one_entry at row from to) ≡ text ++ carried_lines (entries_by at row from (to + 1))
by_more text at row from to = rw add-one (lines_more text (entries_by at row from to) (one_entry at row from to))

pub of_more : (text : List ℕ) (at : Slot) (rows : List (List (List ℕ))) (n from : ℕ)
    → (text ++ carried_lines (entries_of at rows n from)) ++ carried_lines (entries_by at (slice_index_or rows from []) from n) ≡ text ++ carried_lines (entries_of at rows n (from + 1))
of_more text at rows n from = rw add-one (lines_more text (entries_of at rows n from) (entries_by at (slice_index_or rows from []) from n))

four_rounds : (text : List ℕ) (n cycle : ℕ) (d : Delivered)
    → (((text ++ carried_lines (entries_of (record { cycle = cycle; round = A1 }) d.a1 n n)) ++ carried_lines (entries_of (record { cycle = cycle; round = A2 }) d.a2 n n)) ++ carried_lines (entries_of (record { cycle = cycle; round = B1 }) d.b1 n n)) ++ carried_lines (entries_of (record { cycle = cycle; round = B2 }) d.b2 n n)
    ≡ text ++ carried_lines (cycle_entries n cycle d)
unfolding round_entries
four_rounds text n cycle d =
    let one = entries_of (record { cycle = cycle; round = A1 }) d.a1 n n in
    let two = entries_of (record { cycle = cycle; round = A2 }) d.a2 n n in
    let three = entries_of (record { cycle = cycle; round = B1 }) d.b1 n n in
    let four = entries_of (record { cycle = cycle; round = B2 }) d.b2 n n in
    lines_more ((text ++ carried_lines one) ++ carried_lines two) three four
    ∙ lines_more (text ++ carried_lines one) two (three ++ four)
    ∙ lines_more text one (two ++ (three ++ four))

pub cycle_traced : (text : List ℕ) (n cycle : ℕ) (d : Delivered) → (n ≡ 4) ⊎ (n ≡ 5)
    → text ++ carried_lines (cycle_frames n cycle (frame_at d)) ≡ (((text ++ carried_lines (entries_of (record { cycle = cycle; round = A1 }) d.a1 n n)) ++ carried_lines (entries_of (record { cycle = cycle; round = A2 }) d.a2 n n)) ++ carried_lines (entries_of (record { cycle = cycle; round = B1 }) d.b1 n n)) ++ carried_lines (entries_of (record { cycle = cycle; round = B2 }) d.b2 n n)
cycle_traced text n cycle d four = sym (four_rounds text n cycle d ∙ ap (λ (xs : List Carried). text ++ carried_lines xs) (entries_are_frames n cycle d four))

-- how long the lines of a sender can be once those of one receiver more stand there: it sends none to itself
pub past_more : (from to old new base : ℕ) → from < to + 1 → new ≤ old + 682 → (from ≡ to → new ≡ old) → old ≤ base + 682 * to → (from < to → old + 682 ≤ base + 682 * to) → new + 682 ≤ base + 682 * (to + 1)
past_more from to old new base p most own len past = by (eqb from to) refl where
  by : (b : Bool) → eqb from to ≡ b → new + 682 ≤ base + 682 * (to + 1)
  by true e = let same = own (eqb-true from to e) in omega (arith, same, len)
  by false e =
      let other : (from ≡ to → ⊥) = λ g. absurd (false≢true (sym e ∙ eq-eqb from to g)) in
      let below : from < to = omega (arith, other, p) in
      let before = past below in omega (arith, before, most)
