-- Frames for every run: what fault-free elements send, and of the faulty one frames that read as what comes from outside.
use Rattle.std.proofs.Common.{◌≡◌, ℕ, suc, ◌<◌, ◌≤◌, Bool, true, false, cond, List, [], ◌∷◌, ◌++◌, length, map, refl, ap, arith, sym, ◌∙◌, subst, inl, inr}
use Rattle.std.specs.Prelude.{Option, Some, None, slice_index}
use Rattle.std.specs.List.{AllByRecursion, flat_map}
use Rattle.std.proofs.lemmas.Bool.{eqb-true}
use Rattle.ftpp_base.specs.Lists.{cell_at, is_this}
use Rattle.ftpp_base.specs.declared.element.Round.{Round}
use Rattle.ftpp_base.specs.declared.element.Round.TheVariants.{A1, A2, B1, B2}
use Rattle.ftpp_base.proofs.Among.{all-get_or, all-append, all-replicate}
use Rattle.packet_format.specs.Numbers.{four_bytes}
use Rattle.bit_vote.specs.Vote.{Cell, IsCell}
use Rattle.two_round.proofs.Others.{IsSize}
use Rattle.frame_format.specs.Frames.{cell_bytes, frame_bytes, IsFrame, first_cell, reads_as}
use Rattle.frame_format.proofs.Decoded.{length-frame}
use Rattle.element_core.specs.Cycle.{State, Input, start, step, shown_by}
use Rattle.element_core.specs.Run.{Journal}
use Rattle.element_core.specs.Sent.{frame_sent}
use Rattle.element_core.specs.Alone.{IsSound, IsInput}
use Rattle.element_core.proofs.AloneLaws.{size_of}
use Rattle.element_core.proofs.Sound.{start_sound, step_sound, step_size}
use Rattle.cluster.proofs.Reading.{written_read}
use Rattle.trace_audit.specs.Known.{Frames}
use Rattle.trace_audit.specs.Laws.{AreFramesOf, AreRunFrames}
use Rattle.trace_audit.proofs.RunLaw.{runs_follow}
use Rattle.run_frames.specs.NodeInRun.{AreComing, IsNodeCycle, ComeInRun}
use Rattle.run_frames.specs.Frames.{coming_to, FramesExist, SomeTraceFollows}
use Rattle.run_frames.proofs.NodeCycle.{longest}
use Rattle.run_frames.proofs.SentFrames.{wide_cell}

-- ---- a frame of one cell

-- its bytes read as that cell
one_read : (n cycle : ℕ) (round : Round) (sender : ℕ) (cell : Cell) → IsFrame n (record { cycle = cycle; round = round }) sender (frame_bytes (record { cycle = cycle; round = round }) sender (cell ∷ [])) (cell ∷ [])
    → first_cell (reads_as n (record { cycle = cycle; round = round }) sender (frame_bytes (record { cycle = cycle; round = round }) sender (cell ∷ []))) ≡ cell
one_read n cycle round sender cell fits = ap first_cell (written_read n (record { cycle = cycle; round = round }) sender (cell ∷ []) fits)

-- one of patterns, and one of packets
pattern_fits : (n cycle sender : ℕ) (cell : Cell) → IsCell 32 cell → IsFrame n (record { cycle = cycle; round = A1 }) sender (frame_bytes (record { cycle = cycle; round = A1 }) sender (cell ∷ [])) (cell ∷ [])
pattern_fits n cycle sender cell is = record { spelled = refl; count = refl; wide = (wide_cell 32 cell is, tt) }

packet_fits : (n cycle sender : ℕ) (cell : Cell) → IsCell 64 cell → IsFrame n (record { cycle = cycle; round = B1 }) sender (frame_bytes (record { cycle = cycle; round = B1 }) sender (cell ∷ [])) (cell ∷ [])
packet_fits n cycle sender cell is = record { spelled = refl; count = refl; wide = (wide_cell 64 cell is, tt) }

-- ---- its bytes

abbrev pub IsByte : ℕ → Type 0
IsByte b = b < 256

-- a list of numbers that are bytes at each place
pub all_bytes : (bytes : List ℕ) → ((k : ℕ) → slice_index bytes k < 256) → AllByRecursion IsByte bytes
all_bytes [] h = tt
all_bytes (b ∷ bytes) h = (h 0, all_bytes bytes (λ k. h (suc k)))

-- those of a cell
cell_small : (wide : ℕ) (cell : Cell) → IsCell wide cell → AllByRecursion IsByte (cell_bytes wide cell)
cell_small wide None is = (omega arith, all-replicate IsByte wide 0 (omega arith))
cell_small wide (Some row) is = (omega arith, all_bytes row is.bytes)

-- those of a number
four_small : (n : ℕ) (bytes : List ℕ) → AllByRecursion IsByte bytes → AllByRecursion IsByte (four_bytes n ++ bytes)
four_small n bytes a = (omega arith, (omega arith, (omega arith, (omega arith, a))))

-- those of a frame of one cell
one_small : (kind cycle sender wide : ℕ) (cell : Cell) → kind < 256 → sender < 256 → IsCell wide cell
    → AllByRecursion IsByte (kind ∷ four_bytes cycle ++ sender ∷ flat_map (cell_bytes wide) (cell ∷ []))
one_small kind cycle sender wide cell k l is =
    (k, four_small cycle (sender ∷ flat_map (cell_bytes wide) (cell ∷ [])) (l, all-append IsByte (cell_bytes wide cell) [] (cell_small wide cell is) tt))

-- at each place
at_each : (bytes : List ℕ) (k : ℕ) → AllByRecursion IsByte bytes → slice_index bytes k < 256
at_each bytes k a = all-get_or IsByte bytes k 0 a (omega arith)

-- ---- the frames of a cycle

-- those of the faulty element: what comes from outside in the first rounds, and no bytes in the second
abbrev faulty_bytes : State → Input → Round → ℕ → ℕ → List ℕ
faulty_bytes s input A1 sender receiver = frame_bytes (record { cycle = s.cycle; round = A1 }) sender (cell_at input.patterns receiver ∷ [])
faulty_bytes s input A2 sender receiver = []
faulty_bytes s input B1 sender receiver = frame_bytes (record { cycle = s.cycle; round = B1 }) sender (cell_at input.packets receiver ∷ [])
faulty_bytes s input B2 sender receiver = []

-- those of all elements
abbrev frames_for : State → Input → Frames
frames_for s input round sender receiver = cond (is_this input.faulty sender) (faulty_bytes s input round sender receiver) (frame_sent (step s input).shown round sender)

-- of the faulty one
faulty_frame : (s : State) (input : Input) (round : Round) (sender receiver : ℕ) → is_this input.faulty sender ≡ true → frames_for s input round sender receiver ≡ faulty_bytes s input round sender receiver
faulty_frame s input round sender receiver bad = ap (λ (b : Bool). cond b (faulty_bytes s input round sender receiver) (frame_sent (step s input).shown round sender)) bad

-- and of each other
honest_frame : (s : State) (input : Input) (round : Round) (sender receiver : ℕ) → is_this input.faulty sender ≡ false → frames_for s input round sender receiver ≡ frame_sent (step s input).shown round sender
honest_frame s input round sender receiver fine = ap (λ (b : Bool). cond b (faulty_bytes s input round sender receiver) (frame_sent (step s input).shown round sender)) fine

-- what the faulty one's read as
patterns_read : (s : State) (input : Input) (sender receiver : ℕ) → IsInput s.table.n input → is_this input.faulty sender ≡ true
    → first_cell (reads_as s.table.n (record { cycle = s.cycle; round = A1 }) sender (frames_for s input A1 sender receiver)) ≡ cell_at input.patterns receiver
patterns_read s input sender receiver is bad =
    let cell = cell_at input.patterns receiver in
    ap (λ bytes. first_cell (reads_as s.table.n (record { cycle = s.cycle; round = A1 }) sender bytes)) (faulty_frame s input A1 sender receiver bad)
    ∙ one_read s.table.n s.cycle A1 sender cell (pattern_fits s.table.n s.cycle sender cell (is.pattern_cells receiver))

packets_read : (s : State) (input : Input) (sender receiver : ℕ) → IsInput s.table.n input → is_this input.faulty sender ≡ true
    → first_cell (reads_as s.table.n (record { cycle = s.cycle; round = B1 }) sender (frames_for s input B1 sender receiver)) ≡ cell_at input.packets receiver
packets_read s input sender receiver is bad =
    let cell = cell_at input.packets receiver in
    ap (λ bytes. first_cell (reads_as s.table.n (record { cycle = s.cycle; round = B1 }) sender bytes)) (faulty_frame s input B1 sender receiver bad)
    ∙ one_read s.table.n s.cycle B1 sender cell (packet_fits s.table.n s.cycle sender cell (is.packet_cells receiver))

-- They are the frames of the cycle.
frames_of : (s : State) (input : Input) → IsSound s → IsInput s.table.n input → AreFramesOf (step s input).shown input (frames_for s input)
unfolding step shown_by
frames_of s input sound is = record {
  honest = λ round sender receiver l m away fine. honest_frame s input round sender receiver fine;
  patterns = λ sender receiver m away bad. patterns_read s input sender receiver is bad;
  packets = λ sender receiver m away bad. packets_read s input sender receiver is bad;
}

-- ---- as they come to an element

-- the faulty element is one of five
below_five : (s : State) (input : Input) (sender : ℕ) → IsSound s → IsInput s.table.n input → is_this input.faulty sender ≡ true → sender < 256
below_five s input sender sound is bad = by input.faulty refl bad where
  small : (n : ℕ) → IsSize n → n < 6
  small n (inl e) = omega arith
  small n (inr e) = omega arith

  by : (o : Option ℕ) → input.faulty ≡ o → is_this o sender ≡ true → sender < 256
  by None e f = cc
  by (Some ne) e f =
      let l = is.faulty ne e in
      let same = eqb-true ne sender f in
      let size = small s.table.n (size_of s sound) in
      omega arith

-- its frames are of bytes
faulty_small : (s : State) (input : Input) (round : Round) (sender receiver : ℕ) → sender < 256 → IsInput s.table.n input → AllByRecursion IsByte (faulty_bytes s input round sender receiver)
faulty_small s input A1 sender receiver l is = one_small 0xa1 s.cycle sender 32 (cell_at input.patterns receiver) (omega arith) l (is.pattern_cells receiver)
faulty_small s input A2 sender receiver l is = tt
faulty_small s input B1 sender receiver l is = one_small 0xb1 s.cycle sender 64 (cell_at input.packets receiver) (omega arith) l (is.packet_cells receiver)
faulty_small s input B2 sender receiver l is = tt

-- and short
faulty_short : (s : State) (input : Input) (round : Round) (sender receiver : ℕ) → IsSound s → IsInput s.table.n input → length (faulty_bytes s input round sender receiver) ≤ 331
faulty_short s input A1 sender receiver sound is =
    let cell = cell_at input.patterns receiver in
    let long = length-frame s.table.n (record { cycle = s.cycle; round = A1 }) sender (faulty_bytes s input A1 sender receiver) (cell ∷ []) (pattern_fits s.table.n s.cycle sender cell (is.pattern_cells receiver)) in
    let most = longest s.table.n A1 (size_of s sound) in
    omega arith
faulty_short s input A2 sender receiver sound is = omega arith
faulty_short s input B1 sender receiver sound is =
    let cell = cell_at input.packets receiver in
    let long = length-frame s.table.n (record { cycle = s.cycle; round = B1 }) sender (faulty_bytes s input B1 sender receiver) (cell ∷ []) (packet_fits s.table.n s.cycle sender cell (is.packet_cells receiver)) in
    let most = longest s.table.n B1 (size_of s sound) in
    omega arith
faulty_short s input B2 sender receiver sound is = omega arith

-- They are the frames that come to each element.
frames_come : (s : State) (input : Input) (me : ℕ) → IsSound s → IsInput s.table.n input → AreComing (step s input).shown input me (coming_to me (frames_for s input))
unfolding step shown_by
frames_come s input me sound is = record {
  honest = λ round sender l away fine. honest_frame s input round sender me fine;
  patterns = λ sender bad. patterns_read s input sender me is bad;
  packets = λ sender bad. packets_read s input sender me is bad;
  bytes = λ round sender k bad.
      subst (λ bytes. slice_index bytes k < 256) (sym (faulty_frame s input round sender me bad))
      (at_each (faulty_bytes s input round sender me) k (faulty_small s input round sender me (below_five s input sender sound is bad) is));
  short = λ round sender bad. subst (λ (bytes : List ℕ). length bytes ≤ 331) (sym (faulty_frame s input round sender me bad)) (faulty_short s input round sender me sound is);
}

-- ---- in a run

abbrev frames_from : State → Journal → List Frames
frames_from s [] = []
frames_from s (input ∷ journal) = frames_for s input ∷ frames_from (step s input).state journal

-- the later inputs are those among the elements that are there then
later : (s : State) (input : Input) (journal : Journal) → AllByRecursion (IsInput s.table.n) journal → AllByRecursion (IsInput (step s input).state.table.n) journal
later s input journal = subst (λ n. AllByRecursion (IsInput n) journal) (sym (step_size s input))

run_frames : (s : State) (journal : Journal) → IsSound s → AllByRecursion (IsInput s.table.n) journal → AreRunFrames s journal (frames_from s journal)
run_frames s [] sound are = tt
run_frames s (input ∷ journal) sound are = (frames_of s input sound are.0, run_frames (step s input).state journal (step_sound s input sound are.0) (later s input journal are.1))

run_comes : (me : ℕ) (s : State) (journal : Journal) → IsSound s → AllByRecursion (IsInput s.table.n) journal → AllByRecursion (IsNodeCycle me) journal
    → ComeInRun me s journal (map (coming_to me) (frames_from s journal))
run_comes me s [] sound are cycles = tt
run_comes me s (input ∷ journal) sound are cycles =
    (cycles.0, frames_come s input me sound are.0, run_comes me (step s input).state journal (step_sound s input sound are.0) (later s input journal are.1) cycles.1)

-- There are frames for every run.
pub frames_exist : FramesExist
frames_exist table journal valid are =
    let sound = start_sound table valid in
    (frames_from (start table) journal, run_frames (start table) journal sound are, λ me l cycles. run_comes me (start table) journal sound are cycles)

-- So there is a trace that follows.
pub some_trace_follows : SomeTraceFollows
some_trace_follows table journal faulty valid are calm =
    let frames = frames_exist table journal valid are in
    (frames.0, frames.1, runs_follow table journal faulty frames.0 valid are calm frames.1)
