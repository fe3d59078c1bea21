-- A node that gets what comes to an element of a run writes what the run says of that element.
use Rattle.std.proofs.Common.{◌≡◌, ℕ, suc, ◌+◌, ◌<◌, List, [], ◌∷◌, ◌++◌, length, refl, ap, arith, sym, ◌∙◌, subst}
use Rattle.std.specs.List.{AllByRecursion}
use Rattle.std.proofs.lemmas.List.{get_or-replicate}
use Rattle.config_table.specs.Table.{TableValue}
use Rattle.scoreboard.specs.Board.{empty_scoreboard}
use Rattle.element_core.specs.Processors.{empty_ports}
use Rattle.element_core.specs.Cycle.{State, Input, start, step}
use Rattle.element_core.specs.Run.{Journal}
use Rattle.element_core.specs.Alone.{IsSound, IsInput, part_of}
use Rattle.element_core.specs.ElementValue.{ElementValue, fresh}
use Rattle.element_core.proofs.Sound.{start_sound, step_sound, step_size}
use Rattle.element_node.specs.Node.{cycles_from}
use Rattle.element_node.specs.Node.Stopped.{WaitsIn}
use Rattle.element_node.specs.Whole.{IsCycleInput, input_bytes, after_input, whole_text}
use Rattle.element_node.proofs.Spelled.{spelled_is_whole}
use Rattle.run_frames.specs.NodeInRun.{Coming, ComeInRun, node_input, node_inputs, text_in_run, NodeInRun}
use Rattle.run_frames.proofs.NodeCycle.{input_whole, writes_cycle}

-- the later inputs are those among the elements that are there then
later : (s : State) (input : Input) (journal : Journal) → AllByRecursion (IsInput s.table.n) journal → AllByRecursion (IsInput (step s input).state.table.n) journal
later s input journal = subst (λ n. AllByRecursion (IsInput n) journal) (sym (step_size s input))

-- ---- from a state on

-- there are as many inputs as cycles
inputs_count : (n me : ℕ) (s : State) (journal : Journal) (cycles : List Coming) → ComeInRun me s journal cycles → length (node_inputs n me journal cycles) ≡ length journal
inputs_count n me s [] [] come = refl
inputs_count n me s [] (frames ∷ cycles) come = absurd come
inputs_count n me s (input ∷ journal) [] come = absurd come
inputs_count n me s (input ∷ journal) (frames ∷ cycles) come = ap suc (inputs_count n me (step s input).state journal cycles come.2)

-- they are whole
inputs_whole : (me : ℕ) (s : State) (journal : Journal) (cycles : List Coming) → IsSound s → AllByRecursion (IsInput s.table.n) journal → me < s.table.n → ComeInRun me s journal cycles
    → AllByRecursion (IsCycleInput s.table.n me) (node_inputs s.table.n me journal cycles)
inputs_whole me s [] cycles sound are l come = tt
inputs_whole me s (input ∷ journal) [] sound are l come = tt
inputs_whole me s (input ∷ journal) (frames ∷ cycles) sound are l come =
    let next = (step s input).state in
    let size = step_size s input in (
      input_whole s input me frames sound are.0 l come.0 come.1,
      subst (λ n. AllByRecursion (IsCycleInput n me) (node_inputs n me journal cycles)) size
          (inputs_whole me next journal cycles (step_sound s input sound are.0) (later s input journal are.1) (omega arith) come.2),
    )

-- what is written is what the run says
text_is : (me : ℕ) (s : State) (journal : Journal) (cycles : List Coming) (e : ElementValue) → IsSound s → AllByRecursion (IsInput s.table.n) journal → me < s.table.n → ComeInRun me s journal cycles
    → e.kept ≡ part_of s me → whole_text (node_inputs s.table.n me journal cycles) e ≡ text_in_run me s journal
text_is me s [] cycles e sound are l come same = refl
text_is me s (input ∷ journal) [] e sound are l come same = absurd come
text_is me s (input ∷ journal) (frames ∷ cycles) e sound are l come same =
    let next = (step s input).state in
    let size = step_size s input in
    let one = writes_cycle s input me frames e sound are.0 l come.0 come.1 same in
    let after = after_input (node_input s.table.n me input frames) e in
    let rest : whole_text (node_inputs s.table.n me journal cycles) after ≡ text_in_run me next journal =
    ap (λ n. whole_text (node_inputs n me journal cycles) after) (sym size)
    ∙ text_is me next journal cycles after (step_sound s input sound are.0) (later s input journal are.1) (omega arith) come.2 one.kept in
    λ i. one.text i ++ rest i

-- ---- from the start

-- a fresh element keeps its part of the start
fresh_part : (table : TableValue) (me : ℕ) → me < table.n → (fresh me table).kept ≡ part_of (start table) me
fresh_part table me l =
    let ports = sym (get_or-replicate table.n me empty_ports [] l) in
    λ i. record { me = me; cycle = 0; table = table; scoreboard = empty_scoreboard table; ports = ports i }

-- The node waits behind the last cycle, and wrote what the run says of its element.
pub node_in_run : NodeInRun
node_in_run table journal cycles me valid are l come =
    let inputs = node_inputs table.n me journal cycles in
    let e = fresh me table in
    let sound = start_sound table valid in
    let count = inputs_count table.n me (start table) journal cycles come in
    let text = text_is me (start table) journal cycles e sound are l come (fresh_part table me l) in
    let number : 0 + length inputs ≡ length journal = omega arith in
    ap (λ k. cycles_from k e (input_bytes me inputs)) (sym count)
    ∙ spelled_is_whole inputs e (inputs_whole me (start table) journal cycles sound are l come)
    ∙ (λ i. WaitsIn (number i) (text i))
