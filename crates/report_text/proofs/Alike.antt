-- Of a report's rows that of the faulty element is not read: neither by the text nor by the totals.
use Rattle.std.proofs.Common.{◌≡◌, ℕ, suc, ◌+◌, ◌<◌, ◌≤◌, Bool, true, false, List, [], ◌∷◌, ◌++◌, length, get_or, refl, ap, sym, ◌∙◌, arith}
use Rattle.std.specs.Prelude.{Option, Some, None, ◌==◌, if◌then◌else◌}
use Rattle.std.proofs.lemmas.Bool.{eqb-true}
use Rattle.ftpp_base.specs.Lists.{is_this}
use Rattle.packet_format.specs.declared.acts.Act.{Act}
use Rattle.packet_format.specs.declared.acts.ActAnswer.{ActAnswer}
use Rattle.config_table.specs.declared.decisions.Decision.{Decision}
use Rattle.config_table.specs.declared.decisions.Decision.TheVariants.{Idle, Discard, Exchange}
use Rattle.element_core.specs.ElementValue.{CycleTold}
use Rattle.element_core.specs.declared.Rejoined.{Rejoined}
use Rattle.report_text.specs.declared.totals.Totals.{Totals}
use Rattle.report_text.specs.Lines.{first_line, result_line, syndrome_lines}
use Rattle.report_text.specs.Report.{ReportTold, where_free, least, nothing_told, numbered, rejoin_lines, act_lines, result_lines, update_lines, handed_lines, deliver_lines, noted_lines, shown_lines, rest_lines, cycle_lines}
use Rattle.report_text.specs.Sums.{summed, count_free, stored_in, overrun_in, stored_at, overrun_at, noted_count, served_in, discarded_in, idle_in, with_report}
use Rattle.report_text.specs.Laws.{SaysSame, PrintsAlike, AddsAlike}

-- ---- texts and numbers by place

-- the texts of two lists are one where they are so at each place
numbered_alike : {A : Type 0} (f : ℕ → A → List ℕ) (e : ℕ) (xs ys : List A) → length xs ≡ length ys
    → ((k : ℕ) (d : A) → k < length xs → f (e + k) (get_or xs k d) ≡ f (e + k) (get_or ys k d)) → numbered f e xs ≡ numbered f e ys
numbered_alike f e [] [] l h = refl
numbered_alike f e [] (y ∷ ys) l h = let no : ⊥ = omega arith in absurd no
numbered_alike f e (x ∷ xs) [] l h = let no : ⊥ = omega arith in absurd no
numbered_alike f e (x ∷ xs) (y ∷ ys) l h =
    let here : e + 0 ≡ e = omega arith in
    let one : f e x ≡ f e y = ap (λ k. f k x) (sym here) ∙ h 0 x (omega arith) ∙ ap (λ k. f k y) here in
    let rest : numbered f (suc e) xs ≡ numbered f (suc e) ys = numbered_alike f (suc e) xs ys (omega arith) (λ k d m.
    let next : e + suc k ≡ suc e + k = omega arith in
    ap (λ j. f j (get_or xs k d)) (sym next) ∙ h (suc k) d (omega arith) ∙ ap (λ j. f j (get_or ys k d)) next) in
    λ i. one i ++ rest i

summed_alike : {A : Type 0} (f : ℕ → A → ℕ) (e : ℕ) (xs ys : List A) → length xs ≡ length ys
    → ((k : ℕ) (d : A) → k < length xs → f (e + k) (get_or xs k d) ≡ f (e + k) (get_or ys k d)) → summed f e xs ≡ summed f e ys
summed_alike f e [] [] l h = refl
summed_alike f e [] (y ∷ ys) l h = let no : ⊥ = omega arith in absurd no
summed_alike f e (x ∷ xs) [] l h = let no : ⊥ = omega arith in absurd no
summed_alike f e (x ∷ xs) (y ∷ ys) l h =
    let here : e + 0 ≡ e = omega arith in
    let one : f e x ≡ f e y = ap (λ k. f k x) (sym here) ∙ h 0 x (omega arith) ∙ ap (λ k. f k y) here in
    let rest : summed f (suc e) xs ≡ summed f (suc e) ys = summed_alike f (suc e) xs ys (omega arith) (λ k d m.
    let next : e + suc k ≡ suc e + k = omega arith in
    ap (λ j. f j (get_or xs k d)) (sym next) ∙ h (suc k) d (omega arith) ∙ ap (λ j. f j (get_or ys k d)) next) in
    λ i. one i + rest i

-- ---- where an element is not the faulty one

choose_alike : {A : Type 0} (b : Bool) (none one other : A) → (b ≡ false → one ≡ other) → (if b then none else one) ≡ (if b then none else other)
choose_alike true none one other h = refl
choose_alike false none one other h = h refl

-- the rows are one at each place but the faulty element's
abbrev AreRowsAlike : Option ℕ → List CycleTold → List CycleTold → Type 0
AreRowsAlike faulty rows others = (e : ℕ) (d : CycleTold) → e < length rows → is_this faulty e ≡ false → get_or rows e d ≡ get_or others e d

lines_alike : (faulty : Option ℕ) (g : ℕ → CycleTold → List ℕ) (rows others : List CycleTold) → length rows ≡ length others → AreRowsAlike faulty rows others
    → numbered (λ e row. where_free faulty e (g e row)) 0 rows ≡ numbered (λ e row. where_free faulty e (g e row)) 0 others
lines_alike faulty g rows others l h = numbered_alike (λ e row. where_free faulty e (g e row)) 0 rows others l (λ k d m.
    let here : 0 + k ≡ k = omega arith in
    rw here (choose_alike (is_this faulty k) [] (g k (get_or rows k d)) (g k (get_or others k d)) (λ free. ap (g k) (h k d m free))))

sums_alike : (faulty : Option ℕ) (g : CycleTold → ℕ) (rows others : List CycleTold) → length rows ≡ length others → AreRowsAlike faulty rows others
    → summed (λ e row. count_free faulty e (g row)) 0 rows ≡ summed (λ e row. count_free faulty e (g row)) 0 others
sums_alike faulty g rows others l h = summed_alike (λ e row. count_free faulty e (g row)) 0 rows others l (λ k d m.
    let here : 0 + k ≡ k = omega arith in
    rw here (choose_alike (is_this faulty k) 0 (g (get_or rows k d)) (g (get_or others k d)) (λ free. ap g (h k d m free))))

-- ---- the least element that is not faulty

least_by : (m : ℕ) (b : Bool) → (m == 0) ≡ b → (m == (if b then 1 else 0)) ≡ false
least_by m true e = rw (eqb-true m 0 e) refl
least_by m false e = e

least_free : (faulty : Option ℕ) → is_this faulty (least faulty) ≡ false
least_free None = refl
least_free (Some m) = least_by m (m == 0) refl

least_small : (faulty : Option ℕ) (n : ℕ) → 2 ≤ n → least faulty < n
least_small faulty n l = small (is_this faulty 0) where
  small : (b : Bool) → (if b then 1 else 0) < n
  small true = omega arith
  small false = omega arith

least_alike : (faulty : Option ℕ) (rows others : List CycleTold) → 2 ≤ length rows → AreRowsAlike faulty rows others
    → get_or rows (least faulty) nothing_told ≡ get_or others (least faulty) nothing_told
least_alike faulty rows others two h = h (least faulty) nothing_told (least_small faulty (length rows) two) (least_free faulty)

-- ---- the text

results_alike : (faulty : Option ℕ) (rows others : List CycleTold) (d : Decision) → length rows ≡ length others → AreRowsAlike faulty rows others
    → result_lines faulty rows d ≡ result_lines faulty others d
results_alike faulty rows others Idle l h = refl
results_alike faulty rows others (Discard vid desc reason admitted waited) l h = refl
results_alike faulty rows others (Exchange service) l h = lines_alike faulty (λ e row. result_line e row.packet) rows others l h

rest_alike : (faulty : Option ℕ) (rows others : List CycleTold) (row : CycleTold) → length rows ≡ length others → AreRowsAlike faulty rows others
    → rest_lines faulty rows row ≡ rest_lines faulty others row
unfolding rest_lines
rest_alike faulty rows others row l h =
    let results = results_alike faulty rows others row.decision l h in
    let handed : deliver_lines faulty rows ≡ deliver_lines faulty others = lines_alike faulty (λ e told. handed_lines told.handed) rows others l h in
    let noted : noted_lines faulty rows ≡ noted_lines faulty others = lines_alike faulty (λ e told. syndrome_lines e told.syndromes) rows others l h in
    λ i. results i ++ update_lines row.update ++ handed i ++ noted i

text_alike : (rejoin : Option (ℕ × Rejoined)) (acts : List Act) (cycle : ℕ) (faulty : Option ℕ) (answers : List ActAnswer) (rows others : List CycleTold)
    → 2 ≤ length rows → length rows ≡ length others → AreRowsAlike faulty rows others
    → cycle_lines rejoin acts (record { cycle = cycle; faulty = faulty; answers = answers; rows = rows }) ≡ cycle_lines rejoin acts (record { cycle = cycle; faulty = faulty; answers = answers; rows = others })
unfolding cycle_lines
text_alike rejoin acts cycle faulty answers rows others two l h =
    let row = least_alike faulty rows others two h in
    let rest : rest_lines faulty rows (get_or rows (least faulty) nothing_told) ≡ rest_lines faulty others (get_or others (least faulty) nothing_told) =
    rest_alike faulty rows others (get_or rows (least faulty) nothing_told) l h ∙ ap (rest_lines faulty others) row in
    λ i. first_line cycle ++ rejoin_lines rejoin ++ act_lines faulty acts answers ++ shown_lines (l i) (row i) ++ rest i

-- the same report but for its rows
abbrev with_rows : ReportTold → List CycleTold → ReportTold
with_rows one rows = record { cycle = one.cycle; faulty = one.faulty; answers = one.answers; rows = rows }

other_is : (one other : ReportTold) → SaysSame one other → with_rows one other.rows ≡ other
other_is one other h = λ i. record { cycle = h.cycle i; faulty = h.faulty i; answers = h.answers i; rows = other.rows }

pub prints_alike : PrintsAlike
prints_alike rejoin acts one other two h =
    text_alike rejoin acts one.cycle one.faulty one.answers one.rows other.rows two h.count h.rows ∙ ap (cycle_lines rejoin acts) (other_is one other h)

-- ---- the totals

adds_rows : (t : Totals) (cycle : ℕ) (faulty : Option ℕ) (answers : List ActAnswer) (rows others : List CycleTold)
    → 2 ≤ length rows → length rows ≡ length others → AreRowsAlike faulty rows others
    → with_report t (record { cycle = cycle; faulty = faulty; answers = answers; rows = rows }) ≡ with_report t (record { cycle = cycle; faulty = faulty; answers = answers; rows = others })
adds_rows t cycle faulty answers rows others two l h =
    let row = least_alike faulty rows others two h in
    let stored : summed (stored_at faulty) 0 rows ≡ summed (stored_at faulty) 0 others = sums_alike faulty (λ told. stored_in told.handed) rows others l h in
    let overrun : summed (overrun_at faulty) 0 rows ≡ summed (overrun_at faulty) 0 others = sums_alike faulty (λ told. overrun_in told.handed) rows others l h in
    let noted : summed (noted_count faulty) 0 rows ≡ summed (noted_count faulty) 0 others = sums_alike faulty (λ told. length told.syndromes) rows others l h in
    λ i. record {
      cycles = t.cycles + 1;
      served = t.served + served_in (row i).decision;
      discarded = t.discarded + discarded_in (row i).decision;
      idle = t.idle + idle_in (row i).decision;
      stored = t.stored + stored i;
      overrun = t.overrun + overrun i;
      syndromes = t.syndromes + noted i;
    }

pub adds_alike : AddsAlike
adds_alike t one other two h =
    adds_rows t one.cycle one.faulty one.answers one.rows other.rows two h.count h.rows ∙ ap (with_report t) (other_is one other h)
