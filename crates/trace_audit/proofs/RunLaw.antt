-- The frames of every run without a rejoin follow.
use Rattle.std.proofs.Common.{◌≡◌, ◌≢◌, ℕ, ◌<◌, true, List, [], ◌∷◌, ◌++◌, length, get_or, drop, refl, sym, ◌∙◌, ap, subst}
use Rattle.std.specs.Prelude.{Option}
use Rattle.std.specs.List.{flat_map, AllByRecursion}
use Rattle.ftpp_base.specs.Lists.{is_this}
use Rattle.ftpp_base.specs.declared.element.Round.{Round}
use Rattle.ftpp_base.specs.declared.element.Round.TheVariants.{A1, B1}
use Rattle.frame_format.specs.Frames.{first_cell, reads_as}
use Rattle.two_round.proofs.Held.{is_this-true}
use Rattle.std.proofs.lemmas.List.{get_or-replicate}
use Rattle.ftpp_base.specs.declared.element.Proc.{Proc}
use Rattle.local_pattern.specs.declared.Entry.{Entry}
use Rattle.local_pattern.specs.Pattern.{quiet, quiet_column, entry_of}
use Rattle.config_table.specs.Table.{TableValue}
use Rattle.element_core.specs.Cycle.{State, Input, Shown, start, step, shown_by}
use Rattle.element_core.specs.Run.{Journal}
use Rattle.element_core.specs.Alone.{IsSound, IsInput}
use Rattle.element_core.proofs.Sound.{start_sound, step_sound, step_size}
use Rattle.trace_audit.specs.Known.{Known, Frames, known_first, known_after, AreExpected}
use Rattle.trace_audit.specs.Trace.{listed, per_cycle, frames_in, FollowsFrom}
use Rattle.trace_audit.specs.Laws.{AreFramesOf, IsKnown, IsCalm, AreRunFrames, RunsFollow}
use Rattle.trace_audit.proofs.Listed.{drop_behind, flat_length, listed_length, frames_in_listed}
use Rattle.trace_audit.proofs.CycleLaw.{cycle_follows}

-- frames that are the same from each element to each other are those of the cycle, too
same_frames : (shown : Shown) (input : Input) (frames other : Frames) → AreFramesOf shown input frames → ((ne : ℕ) → is_this input.faulty ne ≡ true → ne < shown.table.n)
    → ((round : Round) (s r : ℕ) → s < shown.table.n → r < shown.table.n → s ≢ r → other round s r ≡ frames round s r) → AreFramesOf shown input other
same_frames shown input frames other f bad same = record {
  honest = λ round s r l m away good. same round s r l m away ∙ f.honest round s r l m away good;
  patterns = λ s r m away faulty. ap (λ (bytes : List ℕ). first_cell (reads_as shown.table.n (record { cycle = shown.cycle; round = A1 }) s bytes)) (same A1 s r (bad s faulty) m away)
      ∙ f.patterns s r m away faulty;
  packets = λ s r m away faulty. ap (λ (bytes : List ℕ). first_cell (reads_as shown.table.n (record { cycle = shown.cycle; round = B1 }) s bytes)) (same B1 s r (bad s faulty) m away)
      ∙ f.packets s r m away faulty;
}

-- the first cycle of a list of the frames of cycles
listed_frames : (n : ℕ) (s : State) (input : Input) (frames : Frames) (more : List (List ℕ)) → s.table.n ≡ n → IsInput n input → AreFramesOf (step s input).shown input frames
    → AreFramesOf (step s input).shown input (frames_in n (listed n frames ++ more))
unfolding step shown_by
listed_frames n s input frames more size is f =
    same_frames (step s input).shown input frames (frames_in n (listed n frames ++ more)) f
    (λ ne bad. subst (λ m. ne < m) (sym size) (is.faulty ne (is_this-true input.faulty ne bad)))
    (subst (λ m. (round : Round) (e r : ℕ) → e < m → r < m → e ≢ r → frames_in n (listed n frames ++ more) round e r ≡ frames round e r) (sym size)
    (frames_in_listed n frames more))

-- one cycle, for the element that is faulty in all
cycle_by : (s : State) (input : Input) (faulty : Option ℕ) (known : Known) (frames : Frames) → IsSound s → IsInput s.table.n input → IsCalm faulty input → IsKnown s faulty known
    → AreFramesOf (step s input).shown input frames → AreExpected known faulty frames × IsKnown (step s input).state faulty (known_after known faulty frames)
cycle_by s input faulty known frames sound is calm known_is f =
    subst (λ (named : Option ℕ). AreExpected known named frames × IsKnown (step s input).state named (known_after known named frames)) calm.same
    (cycle_follows s input known frames sound is calm.rejoined (subst (λ (named : Option ℕ). IsKnown s named known) (sym calm.same) known_is) f)

-- the cycles of a journal
run_follows : (n : ℕ) (s : State) (faulty : Option ℕ) (journal : Journal) (cycles : List Frames) (known : Known) → s.table.n ≡ n → IsSound s → IsKnown s faulty known
    → AllByRecursion (IsInput n) journal → AllByRecursion (IsCalm faulty) journal → AreRunFrames s journal cycles
    → FollowsFrom (length cycles) known faulty (flat_map (listed n) cycles)
run_follows n s faulty [] [] known size sound known_is are calm f = refl
run_follows n s faulty [] (frames ∷ more) known size sound known_is are calm f = absurd f
run_follows n s faulty (input ∷ journal) [] known size sound known_is are calm f = absurd f
run_follows n s faulty (input ∷ journal) (frames ∷ more) known size sound known_is are calm f =
    let rest : List (List ℕ) = flat_map (listed n) more in
    let trace : List (List ℕ) = listed n frames ++ rest in
    let here : IsInput s.table.n input = subst (λ m. IsInput m input) (sym size) are.0 in
    let one = cycle_by s input faulty known (frames_in n trace) sound here calm.0 known_is (listed_frames n s input frames rest size are.0 f.0) in
    let later = run_follows n (step s input).state faulty journal more (known_after known faulty (frames_in n trace)) (step_size s input ∙ size) (step_sound s input sound here) one.1 are.1 calm.1 f.1 in
    let known_size : known.table.n ≡ n = ap (λ (table : TableValue). table.n) known_is.table ∙ size in
    subst (λ m. AreExpected known faulty (frames_in m trace) × FollowsFrom (length more) (known_after known faulty (frames_in m trace)) faulty (drop (per_cycle m) trace)) (sym known_size)
    (one.0, subst (FollowsFrom (length more) (known_after known faulty (frames_in n trace)) faulty) (sym (drop_behind (listed n frames) rest (per_cycle n) (sym (listed_length n frames)))) later)

-- what is so of all is so of each
all_any : {A : Type 0} (P : A → Type 0) (xs : List A) → ((x : A) → P x) → AllByRecursion P xs
all_any P [] h = tt
all_any P (x ∷ xs) h = (h x, all_any P xs h)

-- at the start nothing was shown
start_quiet : (table : TableValue) (proc : Proc) → proc.ne < table.n → proc.port < 8 → entry_of (known_first table).standing proc ≡ quiet
start_quiet table proc l m =
    ap (λ (column : List Entry). get_or column proc.port quiet) (get_or-replicate table.n proc.ne quiet_column [] l) ∙ get_or-replicate 8 proc.port quiet quiet m

start_known : (table : TableValue) (faulty : Option ℕ) → IsKnown (start table) faulty (known_first table)
start_known table faulty = record {
  cycle = refl;
  table = refl;
  scoreboard = refl;
  standing = λ proc l m good e. let none = start_quiet table proc l m in let never = ap (λ (x : Entry). x.not_empty) none in cc;
}

-- The frames of every run without a rejoin follow.
pub runs_follow : RunsFollow
runs_follow table journal faulty cycles valid are calm f = record {
  cycles = length cycles;
  whole = flat_length (listed table.n) (per_cycle table.n) cycles (all_any (λ (frames : Frames). length (listed table.n frames) ≡ per_cycle table.n) cycles (listed_length table.n));
  expected = run_follows table.n (start table) faulty journal cycles (known_first table) refl (start_sound table valid) (start_known table faulty) are calm f;
}
