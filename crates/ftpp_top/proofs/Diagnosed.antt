-- The suspects cycle by cycle, and the lines on them.
use Rattle.std.proofs.Common.{◌≡◌, ℕ, zero, suc, ◌+◌, ◌<◌, ◌≤◌, ◌⊎◌, Bool, true, false, List, [], ◌∷◌, ◌++◌, length, map, filter, get_or, refl, ap, sym, subst, ◌∙◌, arith}
use Rattle.std.specs.Prelude.{Option, Some, None, if◌then◌else◌, ◌==◌, slice_set}
use Rattle.std.proofs.lemmas.Bool.{eqb-true}
use Rattle.std.proofs.lemmas.List.{length-map, get_or-map, take_at}
use Rattle.std.proofs.lemmas.List.FromFn.{get_or-map-range_with_len, length-map-range_with_len, take-map-range_with_len}
use Rattle.std.specs.List.{refill}
use Rattle.ftpp_base.specs.Lists.{others, each_below, is_this}
use Rattle.link_fabric.specs.declared.fabrics.Carried.{Carried}
use Rattle.packet_format.specs.declared.acts.Act.{Act}
use Rattle.config_table.specs.Table.{TableValue}
use Rattle.fault_script.specs.Plays.{Told}
use Rattle.script_text.specs.Reading.{Plan}
use Rattle.syndrome_log.specs.declared.Syndrome.{Syndrome}
use Rattle.element_core.specs.Cycle.{step}
use Rattle.element_core.specs.Run.{run, input_at, state_at, shown_at, no_input}
use Rattle.element_core.specs.Syndromes.{syndromes_at}
use Rattle.element_core.specs.Told.{told_of}
use Rattle.element_core.specs.declared.Rejoined.{Rejoined}
use Rattle.element_core.specs.declared.records.CycleRecord.{CycleRecord}
use Rattle.element_core.specs.declared.records.CycleReport.{CycleReport}
use Rattle.element_core.specs.ElementValue.{CycleTold}
use Rattle.cluster.proofs.Places.{same_default, changed_entry}
use Rattle.cluster.specs.Carrying.{TellsMore}
use Rattle.cluster.specs.ClusterValue.{ClusterValue, element_at}
use Rattle.cluster.specs.Delivered.{frame_at}
use Rattle.report_text.specs.PlayedCycle.{Standing, next_at, faulty_after, rejoined_by, faulty_in, rejoined_in, input_played, cycle_played, told_played, taken_by}
use Rattle.report_text.specs.PlayedRun.{standing_at, shown_in, journal_of, frames_played, report_at}
use Rattle.report_text.specs.Report.{nothing_told, report_told}
use Rattle.report_text.specs.Trace.{cycle_frames}
use Rattle.report_text.specs.Laws.{SaysSame}
use Rattle.report_text.proofs.PlayedJournal.{states_of_journal}
use Rattle.diagnosis.specs.Suspects.{is_suspect, suspects_of, only_one}
use Rattle.diagnosis.specs.Runs.{still_counts, noted_since, suspects_after, faulty_before}
use Rattle.diagnosis.specs.Lines.{suspects_line, suspects_lines, mask_lines, least, diagnosis_lines}
use Rattle.diagnosis.proofs.Left.{filter-all, noted_in_turn}
use Rattle.command_steps.specs.Loading.{Run}
use Rattle.ftpp_top.specs.FollowsScript.{StandsAt}
use Rattle.ftpp_top.specs.Playing.{IsCycleOf}
use Rattle.ftpp_top.specs.Carries.{CarriesSome}
use Rattle.ftpp_top.specs.Loops.{IsAlong, no_lines}
use Rattle.ftpp_top.specs.Diagnosing.{said_played, suspects_played, faulty_last, table_last, diagnosis_text, suspects_below, anew_at, IsDiagnosing}
use Rattle.ftpp_top.proofs.Loops.{along_first, frames_are}
use Rattle.ftpp_top.proofs.Reporting.{carried_more}

-- ---- the journal of a played run, cycle by cycle

pub from_zero : (k : ℕ) → 0 + k ≡ k
from_zero k = omega arith

input_is : (table : TableValue) (plan : Plan) (k : ℕ) → k < plan.cycles → input_at (journal_of table plan) k ≡ input_played plan (standing_at table plan k)
unfolding journal_of
input_is table plan k l = get_or-map-range_with_len (λ cycle. input_played plan (standing_at table plan cycle)) 0 plan.cycles k k no_input l (from_zero k)

pub rejoined_is : (plan : Plan) (before : Standing) → (input_played plan before).rejoined ≡ rejoined_in plan before
unfolding input_played
rejoined_is plan before = refl

pub faulty_is : (plan : Plan) (before : Standing) → (input_played plan before).faulty ≡ faulty_in plan before
unfolding input_played
faulty_is plan before = refl

state_is : (table : TableValue) (plan : Plan) (k : ℕ) → k ≤ plan.cycles → state_at table (journal_of table plan) k ≡ (standing_at table plan k).state
unfolding journal_of
state_is table plan k l = ap (run table) (take-map-range_with_len (λ cycle. input_played plan (standing_at table plan cycle)) 0 plan.cycles k l) ∙ states_of_journal table plan k

shown_is : (table : TableValue) (plan : Plan) (k : ℕ) → k < plan.cycles → shown_at table (journal_of table plan) k ≡ shown_in table plan k
unfolding cycle_played
shown_is table plan k l =
    let state = state_is table plan k (omega arith) in
    let input = input_is table plan k l in
    λ i. (step (state i) (input i)).shown

-- how long it is, and the table and the faulty element at its end
journal_long : (table : TableValue) (plan : Plan) → length (journal_of table plan) ≡ plan.cycles
unfolding journal_of
journal_long table plan = length-map-range_with_len (λ cycle. input_played plan (standing_at table plan cycle)) 0 plan.cycles

pub last_table : (r : Run) → table_last r ≡ (standing_at r.table r.plan r.plan.cycles).state.table
unfolding journal_of
last_table r = ap (λ s. s.table) (states_of_journal r.table r.plan r.plan.cycles)

faulty_at : (r : Run) (k : ℕ) → k ≤ r.plan.cycles → faulty_before r.plan.faulty (journal_of r.table r.plan) k ≡ (standing_at r.table r.plan k).faulty
faulty_at r zero l = refl
faulty_at r (suc k) l = ap (λ input. input.faulty) (input_is r.table r.plan k l) ∙ faulty_is r.plan (standing_at r.table r.plan k)

pub last_faulty_is : (r : Run) → faulty_last r ≡ (standing_at r.table r.plan r.plan.cycles).faulty
last_faulty_is r = ap (faulty_before r.plan.faulty (journal_of r.table r.plan)) (journal_long r.table r.plan) ∙ faulty_at r r.plan.cycles (omega arith)

-- ---- one cycle more

noted_more : (r : Run) (me k : ℕ) → k < r.plan.cycles
    → noted_since r.table (journal_of r.table r.plan) (said_played r me) me (suc k)
    ≡ still_counts (rejoined_in r.plan (standing_at r.table r.plan k)) (noted_since r.table (journal_of r.table r.plan) (said_played r me) me k)
    ++ syndromes_at (shown_in r.table r.plan k) (said_played r me k) me
noted_more r me k l =
    let rejoined = ap (λ input. input.rejoined) (input_is r.table r.plan k l) ∙ rejoined_is r.plan (standing_at r.table r.plan k) in
    let shown = shown_is r.table r.plan k l in
    λ i. still_counts (rejoined i) (noted_since r.table (journal_of r.table r.plan) (said_played r me) me k) ++ syndromes_at (shown i) (said_played r me k) me

-- the suspects with which a cycle begins: where an element rejoins just before it, all others
begun_with : (n me : ℕ) (f : Option ℕ) (next : Option (Option ℕ)) (suspects : List (List ℕ)) (noted : List Syndrome) → me < n → is_this (faulty_after f next) me ≡ false
    → (is_this f me ≡ false → get_or suspects me [] ≡ suspects_of n me noted)
    → get_or (anew_at n (taken_by (rejoined_by f next)) suspects) me [] ≡ suspects_of n me (still_counts (rejoined_by f next) noted)
begun_with n me f None suspects noted l free h = h free
begun_with n me None (Some next) suspects noted l free h = h refl
begun_with n me (Some ne) (Some next) suspects noted l free h = get_or-map-range_with_len (others n) 0 n me me [] l (from_zero me) ∙ sym (filter-all (others n me))

pub anew_long : (n : ℕ) (asked : Option (ℕ × Rejoined)) (suspects : List (List ℕ)) → length suspects ≡ n → length (anew_at n asked suspects) ≡ n
anew_long n None suspects e = e
anew_long n (Some (ne, Rejoined.Taken)) suspects e = length-map-range_with_len (others n) 0 n
anew_long n (Some (ne, Rejoined.Refused)) suspects e = e

pub diagnosing_first : (n : ℕ) (r : Run) (c : ClusterValue) (told : Told) (before : Option (List Carried)) → c.first.n ≡ n → StandsAt r.table r.plan 0 c told
    → IsDiagnosing r 0 c told (each_below n (others n)) before before
diagnosing_first n r c told before size s =
    let same : r.table.n ≡ n = s.size ∙ size in
    record {
      along = along_first r no_lines c told None before s;
      elements = s.size;
      left = λ me l free.
          get_or-map-range_with_len (others n) 0 n me me [] (subst (λ (m : ℕ). me < m) same l) (from_zero me)
          ∙ ap (λ m. others m me) (sym same)
          ∙ sym (filter-all (others r.table.n me));
    }

-- each element with its suspects of the cycle notes what it tells of it
pub record HasNotedCycle {n : ℕ} (report : CycleReport n) (old new : List (List ℕ)) : Type 0 where
  pub many : length report.rows.items ≡ n
  pub long : length old ≡ n
  pub noted : (me : ℕ) → me < length old → get_or new me [] ≡ filter (is_suspect (get_or (map told_of report.rows.items) me nothing_told).syndromes) (get_or old me [])

module _ {n : ℕ} (r : Run) (k : ℕ) (c d : ClusterValue) (told after : Told) (old new : List (List ℕ)) (before between later : Option (List Carried)) (asked : Option (ℕ × Rejoined)) (row : List Act) (report : CycleReport n)
    (i : IsDiagnosing r k c told old before between) (long : length c.journal ≡ k) (l : k < r.plan.cycles) (cycle : IsCycleOf r.table r.plan c told asked row d report after) (size : c.first.n ≡ n) (first : d.first ≡ c.first)
    (frames : TellsMore between (cycle_frames n (length c.journal) (frame_at d.delivered)) later) (h : HasNotedCycle report (anew_at n asked old) new) where
  abbrev now : Standing
  now = standing_at r.table r.plan k

  abbrev noted_before : ℕ → List Syndrome
  noted_before me = noted_since r.table (journal_of r.table r.plan) (said_played r me) me k

  here : StandsAt r.table r.plan (length c.journal) c told
  here = subst (λ (m : ℕ). StandsAt r.table r.plan m c told) (sym long) i.along.stands

  says : SaysSame (report_told report) (report_at r.table r.plan k)
  says = subst (λ (m : ℕ). SaysSame (report_told report) (report_at r.table r.plan m)) long (cycle here).0.says

  begins : asked ≡ taken_by (rejoined_in r.plan now)
  begins = (cycle here).0.begins ∙ ap (λ m. taken_by (rejoined_in r.plan (standing_at r.table r.plan m))) long

  stands : IsAlong r no_lines (suc k) d after None None before later
  stands = carried_more {n = n} r k c d told after before between later asked row report i.along long cycle (ap (λ t. t.n) first ∙ size) frames

  same_n : r.table.n ≡ n
  same_n = i.elements ∙ size

  held : (me : ℕ) → me < r.table.n → is_this (faulty_in r.plan now) me ≡ false
      → get_or (anew_at n asked old) me [] ≡ suspects_of r.table.n me (still_counts (rejoined_in r.plan now) (noted_before me))
  held me m free =
      (λ j. get_or (anew_at (sym same_n j) (begins j) old) me [])
      ∙ begun_with r.table.n me now.faulty (next_at r.plan now.state.cycle) old (noted_before me) m free
      (λ calm. i.left me m (ap (λ f. is_this f me) i.along.stands.faulty_then ∙ calm))

  row_is : (me : ℕ) → me < n → is_this (faulty_in r.plan now) me ≡ false
      → get_or (map told_of report.rows.items) me nothing_told ≡ told_played r.plan now (shown_in r.table r.plan k) me
  row_is me m free =
      let there : me < length (map told_of report.rows.items) = omega (arith, m, h.many, length-map report.rows.items told_of) in
      let size_now : now.state.table.n ≡ n = i.along.stands.size ∙ size in
      says.rows me nothing_told there (ap (λ f. is_this f me) says.faulty ∙ free)
      ∙ get_or-map-range_with_len (told_played r.plan now (shown_in r.table r.plan k)) 0 now.state.table.n me me nothing_told (omega (arith, m, size_now)) (from_zero me)

  suspects_then : (me : ℕ) → me < r.table.n → is_this d.faulty me ≡ false → get_or new me [] ≡ suspects_below r (suc k) me
  suspects_then me m free =
      let there : me < n = omega (arith, m, same_n) in
      let free_now : is_this (faulty_in r.plan now) me ≡ false = ap (λ f. is_this f me) (sym stands.stands.faulty_then) ∙ free in
      h.noted me (omega (arith, there, h.long))
      ∙ (λ j. filter (is_suspect (row_is me there free_now j).syndromes) (held me m free_now j))
      ∙ noted_in_turn r.table.n me (still_counts (rejoined_in r.plan now) (noted_before me)) (syndromes_at (shown_in r.table r.plan k) (said_played r me k) me)
      ∙ sym (ap (suspects_of r.table.n me) (noted_more r me k l))

  pub diagnosing_more : IsDiagnosing r (suc k) d after new before later
  diagnosing_more = record {
    along = stands;
    elements = i.elements ∙ ap (λ t. t.n) (sym first);
    left = suspects_then;
  }

-- ---- all elements note a cycle

-- what an element noted by its record
abbrev pub noted_by : {n : ℕ} → List (CycleRecord n) → ℕ → List Syndrome
noted_by rows me = (get_or (map told_of rows) me nothing_told).syndromes

-- those below a number have noted it, and the others have not yet
abbrev pub HaveNoted : {n : ℕ} → List (CycleRecord n) → List (List ℕ) → List (List ℕ) → ℕ → Type 0
HaveNoted rows old new k =
    ((me : ℕ) → me < k → get_or new me [] ≡ filter (is_suspect (noted_by rows me)) (get_or old me []))
    × ((me : ℕ) → k ≤ me → get_or new me [] ≡ get_or old me [])

pub one_notes : {n : ℕ} (rows : List (CycleRecord n)) (row : CycleRecord n) (old new : List (List ℕ)) (k : ℕ) (next now : List ℕ) → k < length new → k < length rows → row ≡ get_or rows k row → now ≡ get_or new k now
    → next ≡ filter (is_suspect row.syndromes.items) now → HaveNoted rows old new k → HaveNoted rows old (slice_set new k next) (k + 1)
one_notes rows row old new k next now l m is held noted have =
    let told : noted_by rows k ≡ row.syndromes.items = ap (λ (t : CycleTold). t.syndromes) (get_or-map told_of rows k row nothing_told m ∙ ap told_of (sym is)) in
    let before : now ≡ get_or old k [] = held ∙ same_default new k now [] l ∙ have.1 k (omega arith) in
    let done : next ≡ filter (is_suspect (noted_by rows k)) (get_or old k []) = noted ∙ (λ i. filter (is_suspect (sym told i)) (before i)) in (
      λ me p. changed_entry (λ (x : List ℕ). x ≡ filter (is_suspect (noted_by rows me)) (get_or old me [])) new k me next [] l
          (λ e. subst (λ (j : ℕ). next ≡ filter (is_suspect (noted_by rows j)) (get_or old j [])) (sym e) done)
          (λ e. have.0 me (omega arith)),
      λ me p. changed_entry (λ (x : List ℕ). x ≡ get_or old me []) new k me next [] l (λ e. absurd (omega arith)) (λ e. have.1 me (omega arith)),
    )

-- what a slice of all of a row leaves in the row
pub refill_whole : {X : Type 0} (n : ℕ) (xs ws : List X) → length ws ≡ n → refill n xs ws ≡ ws
refill_whole n xs ws e = take_at ws _ n e

-- ---- the lines

-- two texts by a test
by_test : (b : Bool) (one other : List ℕ) → (b ≡ false → one ≡ other) → (if b then [] else one) ≡ (if b then [] else other)
by_test true one other h = refl
by_test false one other h = h refl

-- the faulty element's suspects are not read
lines_alike : (faulty : Option ℕ) (e : ℕ) (xs ys : List (List ℕ)) → length xs ≡ length ys
    → ((k : ℕ) → k < length xs → is_this faulty (e + k) ≡ false → get_or xs k [] ≡ get_or ys k []) → suspects_lines faulty e xs ≡ suspects_lines faulty e ys
lines_alike faulty e [] [] l h = refl
lines_alike faulty e [] (y ∷ ys) l h = let no : ⊥ = omega arith in absurd no
lines_alike faulty e (x ∷ xs) [] l h = let no : ⊥ = omega arith in absurd no
lines_alike faulty e (x ∷ xs) (y ∷ ys) l h =
    let here : e + 0 ≡ e = omega arith in
    let one = by_test (is_this faulty e) (suspects_line e x) (suspects_line e y) (λ free. ap (suspects_line e) (h 0 (omega arith) (ap (is_this faulty) here ∙ free))) in
    let rest : suspects_lines faulty (suc e) xs ≡ suspects_lines faulty (suc e) ys = lines_alike faulty (suc e) xs ys (omega arith) (λ k m free.
    let next : e + suc k ≡ suc e + k = omega arith in
    h (suc k) (omega arith) (ap (is_this faulty) next ∙ free)) in
    λ i. one i ++ rest i

-- the least element is not the faulty one
least_by : (m : ℕ) (b : Bool) → (m == 0) ≡ b → (m == (if b then 1 else 0)) ≡ false
least_by m true e = rw (eqb-true m 0 e) refl
least_by m false e = e

least_free : (faulty : Option ℕ) → is_this faulty (least faulty) ≡ false
least_free None = refl
least_free (Some m) = least_by m (m == 0) refl

pub least_small : (faulty : Option ℕ) (n : ℕ) → (n ≡ 4) ⊎ (n ≡ 5) → least faulty < n
least_small faulty n four = small (is_this faulty 0) where
  small : (b : Bool) → (if b then 1 else 0) < n
  small true = omega (arith, four)
  small false = omega (arith, four)

last_long : (r : Run) (me : ℕ) → suspects_below r r.plan.cycles me ≡ suspects_played r me
unfolding suspects_after
last_long r me = ap (suspects_below_of me) (sym (journal_long r.table r.plan)) where
  suspects_below_of : ℕ → ℕ → List ℕ
  suspects_below_of e k = suspects_below r k e

module _ (n : ℕ) (r : Run) (c : ClusterValue) (told : Told) (suspects : List (List ℕ)) (before after : Option (List Carried)) (four : (n ≡ 4) ⊎ (n ≡ 5)) (size : c.first.n ≡ n)
    (i : IsDiagnosing r r.plan.cycles c told suspects before after) (long : length suspects ≡ n) where
  all_n : r.table.n ≡ n
  all_n = i.elements ∙ size

  played : (me : ℕ) → me < n → is_this c.faulty me ≡ false → get_or suspects me [] ≡ get_or (each_below r.table.n (suspects_played r)) me []
  played me m free =
      let there : me < r.table.n = omega (arith, m, all_n) in
      i.left me there free ∙ last_long r me ∙ sym (get_or-map-range_with_len (suspects_played r) 0 r.table.n me me [] there (from_zero me))

  as_many : length suspects ≡ length (each_below r.table.n (suspects_played r))
  as_many = long ∙ sym all_n ∙ sym (length-map-range_with_len (suspects_played r) 0 r.table.n)

  table_is : (element_at c (least c.faulty)).kept.table ≡ table_last r
  table_is =
      ap (λ kept. kept.table) (i.along.stands.follows.kept (least c.faulty) (least_small c.faulty c.first.n i.along.stands.elements))
      ∙ ap (λ s. s.table) i.along.stands.state
      ∙ sym (last_table r)

  pub lines_are : diagnosis_lines (element_at c (least c.faulty)).kept.table c.faulty suspects ≡ diagnosis_text r
  unfolding diagnosis_lines diagnosis_text
  lines_are =
      let faulty = i.along.stands.faulty_then ∙ sym (last_faulty_is r) in
      let lines = lines_alike c.faulty 0 suspects (each_below r.table.n (suspects_played r)) as_many (λ k m free. played k (omega (arith, m, long)) (ap (is_this c.faulty) (sym (from_zero k)) ∙ free)) in
      let one = played (least c.faulty) (least_small c.faulty n four) (least_free c.faulty) in
      (λ j. lines j ++ mask_lines (table_is j) (only_one (one j)))
      ∙ (λ j. suspects_lines (faulty j) 0 (each_below r.table.n (suspects_played r)) ++ mask_lines (table_last r) (only_one (get_or (each_below r.table.n (suspects_played r)) (least (faulty j)) [])))

-- what is written at the end, and the frames that were carried
pub frames_carried : (r : Run) (c : ClusterValue) (told : Told) (suspects : List (List ℕ)) (before after : Option (List Carried)) → IsDiagnosing r r.plan.cycles c told suspects before after
    → TellsMore before (frames_played r.table r.plan) after
frames_carried r c told suspects before after i = subst (λ (xs : List Carried). TellsMore before xs after) (sym (frames_are r)) i.along.carried

pub frames_cut : (r : Run) (c : ClusterValue) (told : Told) (suspects : List (List ℕ)) (before after : Option (List Carried)) → IsDiagnosing r r.plan.cycles c told suspects before after
    → CarriesSome r before after
frames_cut r c told suspects before after i = (r.plan.cycles, omega arith, i.along.carried)

pub diagnosing_at : (r : Run) (k m : ℕ) (c : ClusterValue) (told : Told) (suspects : List (List ℕ)) (before after : Option (List Carried)) → k ≡ m → IsDiagnosing r k c told suspects before after → IsDiagnosing r m c told suspects before after
diagnosing_at r k m c told suspects before after e i = subst (λ (x : ℕ). IsDiagnosing r x c told suspects before after) e i
