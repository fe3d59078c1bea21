-- One cycle more of a run that is carried and written.
use Rattle.std.proofs.Common.{◌≡◌, ℕ, zero, suc, ◌+◌, ◌-◌, ◌<◌, List, [], ◌∷◌, ◌++◌, map, refl, ap, sym, subst, ◌∙◌, arith, append_assoc, append-nil}
use Rattle.std.specs.Prelude.{Option, Some, None}
use Rattle.std.specs.List.{flat_map, range_with_len}
use Rattle.std.proofs.lemmas.List.{flat_map_more, map-append}
use Rattle.std.proofs.lemmas.Grind.{fold-append, flat_map-append}
use Rattle.ftpp_base.specs.Lists.{below, each_below}
use Rattle.ftpp_outside.specs.Told.{Adds}
use Rattle.link_fabric.specs.declared.fabrics.Carried.{Carried}
use Rattle.config_table.specs.Table.{TableValue}
use Rattle.fault_script.specs.Plays.{Told}
use Rattle.script_text.specs.Reading.{Plan}
use Rattle.cluster.specs.ClusterValue.{ClusterValue}
use Rattle.cluster.specs.Carrying.{TellsMore}
use Rattle.report_text.specs.Report.{ReportTold}
use Rattle.report_text.specs.Sums.{with_report, no_totals, totals_of}
use Rattle.report_text.specs.Lines.{end_line}
use Rattle.report_text.specs.Trace.{carried_line, carried_lines}
use Rattle.report_text.specs.PlayedRun.{report_at, lines_at, totals_below, totals_played, report_text, frames_at, frames_played, trace_text}
use Rattle.command_steps.specs.Ends.{AddsPrefix}
use Rattle.command_steps.proofs.Writing.{adds_more, adds_nothing, prefix_of_front, prefix_of_rest}
use Rattle.command_steps.specs.Loading.{Run}
use Rattle.ftpp_top.specs.FollowsScript.{StandsAt}
use Rattle.ftpp_top.specs.Carries.{frames_below, CarriesSome}
use Rattle.ftpp_top.specs.Loops.{text_below, trace_at, IsAlong}

-- ---- what stands below one number more

range_more : (a n : ℕ) → range_with_len a (suc n) ≡ range_with_len a n ++ (a + n) ∷ []
range_more a zero = ap (λ k. k ∷ []) (same a) where
  same : (a : ℕ) → a ≡ a + 0
  same a = omega arith
range_more a (suc n) = ap (λ xs. a ∷ xs) (range_more (a + 1) n ∙ ap (λ k. range_with_len (a + 1) n ++ k ∷ []) (same a n)) where
  same : (a n : ℕ) → a + 1 + n ≡ a + suc n
  same a n = omega arith

below_suc : (n : ℕ) → below (suc n) ≡ below n ++ n ∷ []
below_suc n = range_more 0 n ∙ ap (λ k. range_with_len 0 n ++ k ∷ []) (same n) where
  same : (n : ℕ) → 0 + n ≡ n
  same n = omega arith

pub flat_more : {A : Type 0} (f : ℕ → List A) (n : ℕ) → flat_map f (below (suc n)) ≡ flat_map f (below n) ++ f n
flat_more f n = ap (flat_map f) (below_suc n) ∙ sym (flat_map_more f [] (below n) n)

-- what is below a number is at the front of what is below a greater one
pub flat_front : {A : Type 0} (f : ℕ → List A) (n m : ℕ) → (tail : List A) × (flat_map f (below (m + n)) ≡ flat_map f (below n) ++ tail)
flat_front f n zero = ([], ap (λ k. flat_map f (below k)) (same n) ∙ sym (append-nil (flat_map f (below n)))) where
  same : (n : ℕ) → 0 + n ≡ n
  same n = omega arith
flat_front f n (suc m) =
    let rest = flat_front f n m in
    (rest.0 ++ f (m + n), ap (λ k. flat_map f (below k)) (same n m) ∙ flat_more f (m + n) ∙ ap (λ xs. xs ++ f (m + n)) rest.1 ∙ append_assoc (flat_map f (below n)) rest.0 (f (m + n))) where
      same : (n m : ℕ) → suc m + n ≡ suc (m + n)
      same n m = omega arith

pub totals_more : (table : TableValue) (plan : Plan) (n : ℕ) → totals_below table plan (suc n) ≡ with_report (totals_below table plan n) (report_at table plan n)
totals_more table plan n = ap totals_of (each_more (report_at table plan) n) ∙ fold-append with_report no_totals (each_below n (report_at table plan)) (report_at table plan n ∷ []) where
  each_more : (f : ℕ → ReportTold) (n : ℕ) → each_below (suc n) f ≡ each_below n f ++ f n ∷ []
  each_more f n = ap (map f) (below_suc n) ∙ map-append f (below n) (n ∷ [])

-- ---- the list that is told

pub tells_none : (s : Option (List Carried)) → TellsMore s [] s
tells_none None = tt
tells_none (Some xs) = sym (append-nil xs)

pub tells_more : (one two : List Carried) (s t u : Option (List Carried)) → TellsMore s one t → TellsMore t two u → TellsMore s (one ++ two) u
tells_more one two s t None g h = tt
tells_more one two s None (Some c) g h = absurd h
tells_more one two None (Some b) (Some c) g h = absurd g
tells_more one two (Some a) (Some b) (Some c) g h = h ∙ (ap (λ xs. xs ++ two) g ∙ append_assoc a one two)

-- ---- cycle by cycle

pub along_first : (r : Run) (lines : ℕ → List ℕ) (c : ClusterValue) (told : Told) (old : Option (List ℕ)) (before : Option (List Carried)) → StandsAt r.table r.plan 0 c told → IsAlong r lines 0 c told old old before before
along_first r lines c told old before s = record { stands = s; written = adds_nothing old; carried = tells_none before }

pub along_more : (r : Run) (lines : ℕ → List ℕ) (k : ℕ) (c d : ClusterValue) (told after : Told) (old mid new : Option (List ℕ)) (before between later : Option (List Carried))
    → IsAlong r lines k c told old mid before between → StandsAt r.table r.plan (suc k) d after → Adds mid (lines k) new → TellsMore between (frames_at r.table r.plan k) later
    → IsAlong r lines (suc k) d after old new before later
along_more r lines k c d told after old mid new before between later a s w t = record {
  stands = s;
  written = subst (λ (xs : List ℕ). Adds old xs new) (sym (flat_more lines k)) (adds_more (text_below lines k) (lines k) old mid new a.written w);
  carried = subst (λ (xs : List Carried). TellsMore before xs later) (sym (flat_more (frames_at r.table r.plan) k)) (tells_more (frames_below r k) (frames_at r.table r.plan k) before between later a.carried t);
}

-- a cycle whose lines were cut
pub along_cut : (r : Run) (lines : ℕ → List ℕ) (rest : List ℕ) (k : ℕ) (c : ClusterValue) (told : Told) (old mid new : Option (List ℕ)) (before between later : Option (List Carried))
    → IsAlong r lines k c told old mid before between → k < r.plan.cycles → AddsPrefix mid (lines k) new → TellsMore between (frames_at r.table r.plan k) later
    → AddsPrefix old (text_below lines r.plan.cycles ++ rest) new × CarriesSome r before later
along_cut r lines rest k c told old mid new before between later a l w t =
    let m : ℕ = r.plan.cycles - suc k in
    let tail = flat_front lines (suc k) m in
    let whole : m + suc k ≡ r.plan.cycles = omega (arith, l) in
    let front : AddsPrefix old (text_below lines (suc k)) new =
    subst (λ (xs : List ℕ). AddsPrefix old xs new) (sym (flat_more lines k)) (prefix_of_rest (text_below lines k) (lines k) old mid new a.written w) in
    let all : text_below lines r.plan.cycles ≡ text_below lines (suc k) ++ tail.0 = ap (text_below lines) (sym whole) ∙ tail.1 in (
      prefix_of_front (text_below lines r.plan.cycles) rest old new (subst (λ (xs : List ℕ). AddsPrefix old xs new) (sym all) (prefix_of_front (text_below lines (suc k)) tail.0 old new front)),
      (suc k, omega (arith, l), subst (λ (xs : List Carried). TellsMore before xs later) (sym (flat_more (frames_at r.table r.plan) k)) (tells_more (frames_below r k) (frames_at r.table r.plan k) before between later a.carried t)),
    )

-- ---- the whole text

pub report_is : (r : Run) → report_text r.table r.plan ≡ text_below (lines_at r.table r.plan) r.plan.cycles ++ end_line (totals_below r.table r.plan r.plan.cycles)
unfolding report_text totals_played
report_is r = refl

lines_of_lines : (f : ℕ → List Carried) (xs : List ℕ) → carried_lines (flat_map f xs) ≡ flat_map (λ k. carried_lines (f k)) xs
lines_of_lines f [] = refl
lines_of_lines f (x ∷ xs) = flat_map-append carried_line (f x) (flat_map f xs) ∙ ap (λ ys. carried_lines (f x) ++ ys) (lines_of_lines f xs)

pub trace_is : (r : Run) → trace_text r.table r.plan ≡ text_below (trace_at r) r.plan.cycles
unfolding trace_text frames_played
trace_is r = lines_of_lines (frames_at r.table r.plan) (below r.plan.cycles)

pub frames_are : (r : Run) → frames_played r.table r.plan ≡ frames_below r r.plan.cycles
unfolding frames_played
frames_are r = refl
