-- A node as one of the elements of a run: what comes to it, and what it writes.
use Rattle.std.specs.Prelude.{◌≡◌, ◌≢◌, ℕ, ◌<◌, ◌≤◌, ◌==◌, true, false, List, [], ◌∷◌, ◌++◌, length, slice_index, if◌then◌else◌}
use Rattle.std.specs.List.{AllByRecursion, flat_map}
use Rattle.ftpp_base.specs.Lists.{each_below, cell_at, is_this}
use Rattle.ftpp_base.specs.declared.element.Round.{Round}
use Rattle.ftpp_base.specs.declared.element.Round.TheVariants.{A1, A2, B1, B2}
use Rattle.packet_format.specs.declared.acts.Act.{Act}
use Rattle.packet_format.specs.declared.acts.TheConstants.{MOST_ACTS}
use Rattle.frame_format.specs.Frames.{first_cell, reads_as}
use Rattle.frame_format.specs.declared.TheConstants.{FRAME_BYTES}
use Rattle.config_table.specs.Table.{TableValue, IsValid}
use Rattle.element_core.specs.Cycle.{State, Input, Shown, start, step}
use Rattle.element_core.specs.Run.{Journal}
use Rattle.element_core.specs.Sent.{frame_sent}
use Rattle.element_core.specs.Alone.{IsInput}
use Rattle.element_core.specs.AloneRun.{actor, acts_at, answers_at}
use Rattle.element_node.specs.Node.{node, answer_bytes, framed}
use Rattle.element_node.specs.Node.Stopped.{WaitsIn}
use Rattle.element_node.specs.Whole.{CycleInput, input_bytes}

-- The frames that come to an element in a cycle, by round and sender.
abbrev pub Coming : Type 0
Coming = Round → ℕ → List ℕ

-- ---- what comes to an element of a run

-- In a cycle of a run each other fault-free element's frame comes as it is sent, and from the faulty one any bytes, at most 331 in a
-- frame, of which those of A1 and B1 read as what comes from outside.
pub record AreComing (shown : Shown) (input : Input) (me : ℕ) (frames : Coming) : Type 0 where
  pub honest : (round : Round) (sender : ℕ) → sender < shown.table.n → sender ≢ me → is_this input.faulty sender ≡ false → frames round sender ≡ frame_sent shown round sender
  pub patterns : (sender : ℕ) → is_this input.faulty sender ≡ true
      → first_cell (reads_as shown.table.n (record { cycle = shown.cycle; round = A1 }) sender (frames A1 sender)) ≡ cell_at input.patterns me
  pub packets : (sender : ℕ) → is_this input.faulty sender ≡ true
      → first_cell (reads_as shown.table.n (record { cycle = shown.cycle; round = B1 }) sender (frames B1 sender)) ≡ cell_at input.packets me
  pub bytes : (round : Round) (sender k : ℕ) → is_this input.faulty sender ≡ true → slice_index (frames round sender) k < 256
  pub short : (round : Round) (sender : ℕ) → is_this input.faulty sender ≡ true → length (frames round sender) ≤ FRAME_BYTES

-- a port that is there
abbrev pub HasPort : Act → Type 0
HasPort act = (actor act).port < 8

-- A cycle in which an element is fault-free and does not rejoin, and its processors' acts are at most 80, at ports that are there.
pub record IsNodeCycle (me : ℕ) (input : Input) : Type 0 where
  pub fault_free : is_this input.faulty me ≡ false
  pub stays : is_this input.rejoined me ≡ false
  pub few : length (acts_at me input.acts) ≤ MOST_ACTS
  pub ports : AllByRecursion HasPort (acts_at me input.acts)

-- so it is, and so the frames come, in each cycle of a journal from a state on
abbrev pub ComeInRun : ℕ → State → Journal → List Coming → Type 0
ComeInRun me s [] [] = Unit {0}
ComeInRun me s [] (frames ∷ cycles) = ⊥
ComeInRun me s (input ∷ journal) [] = ⊥
ComeInRun me s (input ∷ journal) (frames ∷ cycles) =
    IsNodeCycle me input × AreComing (step s input).shown input me frames × ComeInRun me (step s input).state journal cycles

-- ---- as the input of a node

-- a frame of each other element, and of the element itself none
abbrev pub from_others : ℕ → ℕ → (ℕ → List ℕ) → List (List ℕ)
from_others n me frames = each_below n (λ sender. if sender == me then [] else frames sender)

-- the input of a cycle: the acts of its processors, and the frames
abbrev pub node_input : ℕ → ℕ → Input → Coming → CycleInput
node_input n me input frames = record { acts = acts_at me input.acts; frames = λ round. from_others n me (frames round) }

-- the inputs of all cycles
abbrev pub node_inputs : ℕ → ℕ → Journal → List Coming → List CycleInput
node_inputs n me [] cycles = []
node_inputs n me (input ∷ journal) [] = []
node_inputs n me (input ∷ journal) (frames ∷ cycles) = node_input n me input frames ∷ node_inputs n me journal cycles

-- ---- what the run says of the element

-- in a cycle: the answers of its queues to the acts of its processors, and its frames
abbrev pub cycle_text_in : ℕ → Input → Shown → List ℕ
cycle_text_in me input shown =
    flat_map answer_bytes (answers_at me input.acts shown.answers)
    ++ (framed (frame_sent shown A1 me)
    ++ (framed (frame_sent shown A2 me)
    ++ (framed (frame_sent shown B1 me)
    ++ framed (frame_sent shown B2 me))))

-- in the cycles of a journal from a state on
abbrev pub text_in_run : ℕ → State → Journal → List ℕ
text_in_run me s [] = []
text_in_run me s (input ∷ journal) = cycle_text_in me input (step s input).shown ++ text_in_run me (step s input).state journal

-- A node to which all this comes waits behind the last cycle, and wrote what the run says of its element.
abbrev pub NodeInRun : Type 0
NodeInRun = (table : TableValue) (journal : Journal) (cycles : List Coming) (me : ℕ)
    → IsValid table → AllByRecursion (IsInput table.n) journal → me < table.n → ComeInRun me (start table) journal cycles
    → node me table (length journal) (input_bytes me (node_inputs table.n me journal cycles)) ≡ WaitsIn (length journal) (text_in_run me (start table) journal)
