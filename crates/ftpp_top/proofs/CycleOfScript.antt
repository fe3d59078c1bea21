-- A cycle of a cluster that follows a script is the cycle of the played run.
use Rattle.std.proofs.Common.{◌≡◌, ℕ, zero, suc, ◌+◌, ◌<◌, ◌≤◌, ◌⊎◌, false, List, [], ◌∷◌, length, map, get_or, refl, ap, sym, subst, ◌∙◌, arith}
use Rattle.std.specs.Prelude.{Option, Some, None}
use Rattle.std.proofs.lemmas.List.{length-map, length-append, get_or-map}
use Rattle.std.proofs.lemmas.List.FromFn.{length-map-range_with_len}
use Rattle.ftpp_base.specs.Lists.{each_below, is_this}
use Rattle.ftpp_base.specs.declared.element.Round.{Round}
use Rattle.ftpp_base.specs.declared.element.Round.TheVariants.{A1, B1}
use Rattle.packet_format.specs.declared.acts.Act.{Act}
use Rattle.config_table.specs.Table.{TableValue}
use Rattle.config_table.proofs.ValidTable.{size-valid}
use Rattle.fault_script.specs.Plays.{Told}
use Rattle.script_text.specs.Reading.{Plan}
use Rattle.element_core.specs.Cycle.{Input, step}
use Rattle.element_core.specs.Run.{run}
use Rattle.element_core.specs.Sent.{frame_sent}
use Rattle.element_core.proofs.Sound.{step_size}
use Rattle.element_core.specs.declared.records.CycleRecord.{CycleRecord}
use Rattle.element_core.specs.declared.records.CycleReport.{CycleReport}
use Rattle.element_core.specs.ElementValue.{ElementValue, CycleTold}
use Rattle.element_core.specs.Told.{told_of}
use Rattle.cluster.specs.Delivered.{Delivered, frame_at, cell_told, relays_told}
use Rattle.cluster.specs.ClusterValue.{ClusterValue, all_acted, made_frame, ended_at, element_at}
use Rattle.cluster.specs.Follows.{state_now, input_now, step_now}
use Rattle.report_text.specs.Report.{report_told, cycle_lines}
use Rattle.report_text.specs.Trace.{cycle_frames}
use Rattle.element_core.specs.Told.{told_at}
use Rattle.report_text.specs.PlayedCycle.{Standing, slot_of, next_at, faulty_after, rejoined_by, acts_at, input_played, cycle_played, frame_between, rejoin_played}
use Rattle.report_text.specs.PlayedRun.{standing_at, report_at, frames_at}
use Rattle.report_text.specs.Laws.{SaysSame, IsPlayed, IsOfScript, IsReport, KeepsOn, made_of, kept_then, cell_by, relays_from}
use Rattle.report_text.proofs.Alike.{prints_alike, adds_alike}
use Rattle.report_text.proofs.Repeated.{plays_first, plays_on, cycle_after, some_is}
use Rattle.report_text.proofs.OfScript.{each_same, plays_as_script, reports_as_script}
use Rattle.report_text.proofs.Carrying.{carries_alike}
use Rattle.ftpp_top.specs.FollowsScript.{StandsAt, FollowsScript, StandsFirst, FollowsAsItStands, FollowsRejoined, RunsCycle, IsCycleOfScript, CyclesOfScript}

-- ---- the number of a cycle

pub standing_cycle : (table : TableValue) (plan : Plan) (k : ℕ) → (standing_at table plan k).state.cycle ≡ k
standing_cycle table plan zero = refl
standing_cycle table plan (suc k) = let before = standing_cycle table plan k in let next = cycle_after plan (standing_at table plan k) in omega (arith, before, next)

-- ---- how the cluster names things, and how the played run does

cell_names : (n cycle : ℕ) (f : Option ℕ) (d : Delivered) (round : Round) (to : ℕ)
    → cell_told n cycle f d round to ≡ cell_by n (record { cycle = cycle; round = round }) f (frame_at d round) to
cell_names n cycle None d round to = refl
cell_names n cycle (Some ne) d round to = refl

relay_names : (before : Standing) (n cycle : ℕ) (f : Option ℕ) (d : Delivered) (me : ℕ) → n ≡ before.state.table.n → cycle ≡ before.state.cycle
    → relays_told n cycle f d me ≡ relays_from before f (frame_at d) me
relay_names before n cycle None d me en ec = refl
relay_names before n cycle (Some ne) d me en ec = λ i. relays_told (en i) (ec i) (Some ne) d me

-- ---- rows that are there

some_row : {A : Type 0} (f : A → CycleTold) (xs : List A) (k : ℕ) (d : CycleTold) → k < length xs → get_or (map (λ (x : A). Some (f x)) xs) k None ≡ Some (get_or (map f xs) k d)
some_row f [] k d l = let no : ⊥ = omega arith in absurd no
some_row f (x ∷ xs) zero d l = refl
some_row f (x ∷ xs) (suc k) d l = some_row f xs k d (omega arith)

row_of : {A B : Type 0} (f : A → CycleTold) (g : B → Option CycleTold) (xs : List A) (ys : List B) (k : ℕ) (d : CycleTold) (e : B) → map (λ (x : A). Some (f x)) xs ≡ map g ys
    → k < length xs → k < length ys → Some (get_or (map f xs) k d) ≡ g (get_or ys k e)
row_of f g xs ys k d e same l m = sym (some_row f xs k d l) ∙ ap (λ rows. get_or rows k None) same ∙ get_or-map g ys k e None m

one_more : (n k : ℕ) → n ≡ k → n + 1 ≡ suc k
one_more n k e = omega (arith, e)

module _ {N : ℕ} (table : TableValue) (plan : Plan) (k : ℕ) (old : ClusterValue) (acts : List Act) (new : ClusterValue) (report : CycleReport N) (told after : Told)
    (h : FollowsScript table plan k old told) (r : RunsCycle plan k old acts new report told after) where
  abbrev before : Standing
  before = standing_at table plan k

  abbrev delivered : Delivered
  delivered = new.delivered

  abbrev outside : Input
  outside = input_now old acts delivered

  same_n : old.first.n ≡ before.state.table.n
  same_n = sym h.size

  its_cycle : before.state.cycle ≡ k
  its_cycle = standing_cycle table plan k

  same_cycle : length old.journal ≡ before.state.cycle
  same_cycle = h.cycle ∙ sym its_cycle

  below_n : (m : ℕ) → m < before.state.table.n → m < old.first.n
  below_n m l = let e = same_n in omega (arith, l, e)

  cells_by : (round : Round) → each_below old.first.n (cell_told old.first.n (length old.journal) old.faulty delivered round)
      ≡ each_below before.state.table.n (cell_by before.state.table.n (slot_of before round) old.faulty (frame_at delivered round))
  cells_by round =
      each_same old.first.n (cell_told old.first.n (length old.journal) old.faulty delivered round) (cell_by old.first.n (record { cycle = length old.journal; round = round }) old.faulty (frame_at delivered round))
      (λ to l. cell_names old.first.n (length old.journal) old.faulty delivered round to)
      ∙ (λ i. each_below (same_n i) (cell_by (same_n i) (record { cycle = same_cycle i; round = round }) old.faulty (frame_at delivered round)))

  core_is : (round : Round) (ne : ℕ) → ne < old.first.n → made_frame (all_acted old.elements acts) delivered ne round ≡ frame_sent (step before.state outside).shown round ne
  core_is round ne l = r.step.core round ne l ∙ ap (λ s. frame_sent (step s outside).shown round ne) h.state

  is_played : IsPlayed plan before told (frame_at delivered) outside
  is_played = record {
    rejoined = h.rejoined_now;
    faulty = h.faulty_now;
    acts = r.its_acts ∙ ap (acts_at plan) (sym its_cycle);
    patterns = cells_by A1;
    packets = cells_by B1;
    others = λ round from to l m other free.
        r.step.frames round from to (below_n from l) (below_n to m) other free ∙ ap (λ s. frame_sent (step s outside).shown round from) h.state;
    edited = λ round ne to f m other.
        (r.played ne f).frames round to (below_n to m) other
        ∙ (λ i. made_of told (record { cycle = same_cycle i; round = round }) (core_is round ne (h.below ne f) i) to);
  }

  of_script : IsOfScript plan before (frame_at delivered) outside
  of_script = plays_as_script plan before told (frame_at delivered) outside h.plays is_played

  -- the step of the cluster is that of the played run
  played_step : step (state_now old) outside ≡ cycle_played plan before
  unfolding cycle_played
  played_step = λ i. step (h.state i) (of_script.outside i)

  -- from the state of the played run on
  shown_step : step before.state outside ≡ cycle_played plan before
  unfolding cycle_played
  shown_step = λ i. step before.state (of_script.outside i)

  -- ---- the report

  many : length new.elements ≡ old.first.n
  many = ap (λ c. length c.elements) r.next ∙ length-map-range_with_len (ended_at (all_acted old.elements acts) delivered) 0 old.first.n

  rows_many : length (map told_of report.rows.items) ≡ old.first.n
  rows_many =
      length-map report.rows.items told_of
      ∙ sym (length-map report.rows.items (λ (x : CycleRecord N). Some (told_of x)))
      ∙ ap length r.tells.rows
      ∙ length-map new.elements (λ (e : ElementValue). e.last)
      ∙ many

  row_is : (me : ℕ) (d : CycleTold) → me < before.state.table.n → is_this old.faulty me ≡ false
      → get_or (map told_of report.rows.items) me d ≡ told_at (step before.state outside).shown (relays_from before old.faulty (frame_at delivered) me) me
  row_is me d l free =
      let there = below_n me l in
      let many_rows : length report.rows.items ≡ old.first.n = sym (length-map report.rows.items told_of) ∙ rows_many in
      let whole = many in
      let in_rows : me < length report.rows.items = omega (arith, there, many_rows) in
      let in_elements : me < length new.elements = omega (arith, there, whole) in
      let first_row : Some (get_or (map told_of report.rows.items) me d) ≡ (element_at new me).last =
      row_of told_of (λ (e : ElementValue). e.last) report.rows.items new.elements me d _ r.tells.rows in_rows in_elements in
      let told_row : (element_at new me).last ≡ Some (told_at (step_now old acts delivered).shown (relays_told old.first.n (length old.journal) old.faulty delivered me) me) =
      ap (λ e. e.last) (r.step.elements me there free) in
      some_is _ _ (first_row ∙ told_row)
      ∙ ap (λ s. told_at (step s outside).shown (relays_told old.first.n (length old.journal) old.faulty delivered me) me) h.state
      ∙ ap (λ said. told_at (step before.state outside).shown said me) (relay_names before old.first.n (length old.journal) old.faulty delivered me same_n same_cycle)

  is_report : IsReport before (frame_at delivered) outside (report_told report)
  is_report = record {
    cycle = r.tells.cycle ∙ same_cycle;
    faulty = r.tells.faulty;
    answers = r.tells.answers ∙ r.step.answers ∙ ap (λ s. (step s outside).shown.answers) h.state;
    count = rows_many ∙ same_n;
    rows = λ me d l free. row_is me d l free;
  }

  says_same : SaysSame (report_told report) (report_at table plan k)
  says_same = reports_as_script plan before told (frame_at delivered) outside (report_told report) h.plays is_played is_report

  two_rows : 2 ≤ length (map told_of report.rows.items)
  two_rows = let many_rows = rows_many in let four = h.elements in omega (arith, many_rows, four)

  -- ---- the frames

  frames_are : cycle_frames new.first.n k (frame_at delivered) ≡ frames_at table plan k
  frames_are =
      let first : new.first.n ≡ before.state.table.n = ap (λ c. c.first.n) r.next ∙ same_n in
      let four : (before.state.table.n ≡ 4) ⊎ (before.state.table.n ≡ 5) = subst (λ (n : ℕ). (n ≡ 4) ⊎ (n ≡ 5)) same_n h.elements in
      ap (λ n. cycle_frames n k (frame_at delivered)) first
      ∙ carries_alike before.state.table.n k (frame_at delivered) (frame_between plan before (cycle_played plan before).shown) four of_script.sent

  -- ---- after it

  kept_edits : (f : Option ℕ) → old.faulty ≡ f → after.edits ≡ told.edits
  kept_edits None e = ap (λ t. t.edits) (r.silent e)
  kept_edits (Some ne) e = (r.played ne e).edits

  keeps_on : KeepsOn plan before told after
  keeps_on = record {
    edits = kept_edits old.faulty refl;
    none = λ f round. ap (λ t. t.kept round) (r.silent (h.faulty_now ∙ f));
    some = λ ne f round.
        let its = h.faulty_now ∙ f in
        (r.played ne its).kept round
        ∙ (λ i. kept_then told (record { cycle = same_cycle i; round = round }) (core_is round ne (h.below ne its) i))
        ∙ (λ i. kept_then told (slot_of before round) (frame_sent (shown_step i).shown round ne));
  }

  size_after : (cycle_played plan before).state.table.n ≡ before.state.table.n
  unfolding cycle_played
  size_after = step_size before.state (input_played plan before)

  first_same : new.first ≡ old.first
  first_same = ap (λ c. c.first) r.next

  cycle_of_script : IsCycleOfScript table plan k acts new report
  cycle_of_script = record {
    says = says_same;
    text = (λ i. cycle_lines (rejoin_played plan before) (r.its_acts i) (report_told report))
        ∙ prints_alike (rejoin_played plan before) (acts_at plan k) (report_told report) (report_at table plan k) two_rows says_same;
    totals = λ t. adds_alike t (report_told report) (report_at table plan k) two_rows says_same;
    frames = frames_are;
  }

  stands_after : StandsAt table plan (suc k) new after
  stands_after = record {
    elements = subst (λ (t : TableValue). (t.n ≡ 4) ⊎ (t.n ≡ 5)) (sym first_same) h.elements;
    size = size_after ∙ sym same_n ∙ ap (λ t. t.n) (sym first_same);
    cycle = ap (λ c. length c.journal) r.next ∙ length-append old.journal (outside ∷ []) ∙ one_more (length old.journal) k h.cycle;
    below = λ ne f. subst (λ (t : TableValue). ne < t.n) (sym first_same) (h.below ne (sym (ap (λ c. c.faulty) r.next) ∙ f));
    follows = r.step.follows;
    state = r.step.state ∙ ap (λ c. c.state) played_step;
    faulty_then = ap (λ c. c.faulty) r.next ∙ h.faulty_now;
    rejoined_then = ap (λ c. c.rejoined) r.next;
    plays = plays_on plan before told after h.plays keeps_on;
  }

pub cycles_of_script : CyclesOfScript
cycles_of_script n table plan k old acts new report before after h r =
    (cycle_of_script table plan k old acts new report before after h r, stands_after table plan k old acts new report before after h r)

-- ---- the start, and a cycle without a rejoin before it

pub stands_first : StandsFirst
unfolding run
stands_first table plan cycles acts told valid below edits blank follows = record {
  elements = size-valid table valid;
  size = refl;
  cycle = refl;
  below = below;
  follows = follows;
  state = refl;
  faulty_then = refl;
  rejoined_then = refl;
  plays = plays_first table plan told edits blank;
}

pub follows_as_it_stands : FollowsAsItStands
follows_as_it_stands table plan k c told none s =
    let before = standing_at table plan k in
    let here : next_at plan before.state.cycle ≡ None = ap (next_at plan) (standing_cycle table plan k) ∙ none in
    record {
      elements = s.elements;
      size = s.size;
      cycle = s.cycle;
      below = s.below;
      follows = s.follows;
      state = s.state;
      faulty_now = s.faulty_then ∙ sym (ap (faulty_after before.faulty) here);
      rejoined_now = s.rejoined_then ∙ sym (ap (rejoined_by before.faulty) here);
      plays = s.plays;
    }

pub follows_rejoined : FollowsRejoined
follows_rejoined table plan k ne next old new told here s f (e, is, same) follows below =
    let before = standing_at table plan k in
    let asked : next_at plan before.state.cycle ≡ Some next = ap (next_at plan) (standing_cycle table plan k) ∙ here in
    let first : new.first ≡ old.first = ap (λ c. c.first) same in
    let journal : new.journal ≡ old.journal = ap (λ c. c.journal) same in
    record {
      elements = subst (λ (t : TableValue). (t.n ≡ 4) ⊎ (t.n ≡ 5)) (sym first) s.elements;
      size = s.size ∙ sym (ap (λ t. t.n) first);
      cycle = ap length journal ∙ s.cycle;
      below = λ m g. subst (λ (t : TableValue). m < t.n) (sym first) (below m (sym (ap (λ c. c.faulty) same) ∙ g));
      follows = follows;
      state = (λ i. run (first i) (journal i)) ∙ s.state;
      faulty_now = ap (λ c. c.faulty) same ∙ sym (ap (faulty_after before.faulty) asked);
      rejoined_now = ap (λ c. c.rejoined) same ∙ sym (ap (rejoined_by before.faulty) asked ∙ (sym s.faulty_then ∙ f));
      plays = s.plays;
    }
