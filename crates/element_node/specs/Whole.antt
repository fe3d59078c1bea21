-- Whole inputs, spelled from acts and frames, and what a node writes for them.
use Rattle.std.specs.Prelude.{◌≡◌, ℕ, ◌+◌, ◌<◌, ◌≤◌, ◌==◌, List, [], ◌∷◌, ◌++◌, length, slice_index_or, if◌then◌else◌}
use Rattle.frame_format.specs.declared.TheConstants.{FRAME_BYTES}
use Rattle.std.specs.List.{flat_map, AllByRecursion}
use Rattle.ftpp_base.specs.declared.element.Round.{Round}
use Rattle.ftpp_base.specs.declared.element.Round.TheVariants.{A1, A2, B1, B2}
use Rattle.packet_format.specs.declared.acts.Act.{Act}
use Rattle.packet_format.specs.declared.acts.Act.TheVariants.{Post, Read}
use Rattle.packet_format.specs.declared.acts.TheConstants.{MOST_ACTS}
use Rattle.element_core.specs.ElementValue.{ElementValue, after_emit, after_absorb, frame_of, frames_in}
use Rattle.element_node.specs.Input.{IsOwnAct}
use Rattle.element_node.specs.Node.{after_own_acts, answers_text, cycles_from, framed}
use Rattle.element_node.specs.Node.Stopped.{WaitsIn}

-- What comes to an element in a cycle: the acts of its processors, and the frames of a round by sender, of which its own is
-- not there.
pub record CycleInput : Type 0 where
  pub acts : List Act
  pub frames : Round → List (List ℕ)

-- ---- how it is spelled

abbrev pub act_bytes : Act → List ℕ
act_bytes (Post proc desc packet) = 1 ∷ proc.port ∷ desc.dest ∷ desc.class ∷ desc.source ∷ packet.bytes
act_bytes (Read proc) = 2 ∷ proc.port ∷ []

-- how many acts, and each
abbrev pub acts_bytes : List Act → List ℕ
acts_bytes acts = length acts ∷ flat_map act_bytes acts

-- the frame of a sender with its length, unless that is the element itself
abbrev pub bytes_from : ℕ → ℕ → List ℕ → List ℕ
bytes_from me sender frame = if sender == me then [] else framed frame

-- the frames of the senders from one on, ascending
abbrev pub frames_bytes : ℕ → ℕ → List (List ℕ) → List ℕ
frames_bytes me sender [] = []
frames_bytes me sender (frame ∷ frames) = bytes_from me sender frame ++ frames_bytes me (sender + 1) frames

abbrev pub cycle_bytes : ℕ → CycleInput → List ℕ
cycle_bytes me input = acts_bytes input.acts ++ (frames_bytes me 0 (input.frames A1) ++ (frames_bytes me 0 (input.frames A2) ++ (frames_bytes me 0 (input.frames B1) ++ frames_bytes me 0 (input.frames B2))))

abbrev pub input_bytes : ℕ → List CycleInput → List ℕ
input_bytes me [] = []
input_bytes me (input ∷ inputs) = cycle_bytes me input ++ input_bytes me inputs

-- an act of a processor of the element, with a whole packet
abbrev pub IsWholeAct : ℕ → Act → Type 0
IsWholeAct me (Post proc desc packet) = IsOwnAct me (Post proc desc packet) × (length packet.bytes ≡ 64)
IsWholeAct me (Read proc) = IsOwnAct me (Read proc)

-- a frame is no longer than the longest
abbrev pub IsShort : List ℕ → Type 0
IsShort frame = length frame ≤ FRAME_BYTES

-- What comes in a cycle to one of n elements, as it is.
pub record IsCycleInput (n me : ℕ) (input : CycleInput) : Type 0 where
  pub few : length input.acts ≤ MOST_ACTS
  pub acts : AllByRecursion (IsWholeAct me) input.acts
  pub count : (round : Round) → length (input.frames round) ≡ n
  pub own : (round : Round) → slice_index_or (input.frames round) me [] ≡ []
  pub short : (round : Round) → AllByRecursion IsShort (input.frames round)

-- ---- what is made of it

-- the element after a round
abbrev pub after_round : Round → CycleInput → ElementValue → ElementValue
after_round round input e = after_absorb round (frames_in (input.frames round)) (after_emit round e)

-- after some rounds of a cycle
abbrev pub after_a1 : CycleInput → ElementValue → ElementValue
after_a1 input e = after_round A1 input (after_own_acts e input.acts)

abbrev pub after_a2 : CycleInput → ElementValue → ElementValue
after_a2 input e = after_round A2 input (after_a1 input e)

abbrev pub after_b1 : CycleInput → ElementValue → ElementValue
after_b1 input e = after_round B1 input (after_a2 input e)

-- after the cycle
abbrev pub after_input : CycleInput → ElementValue → ElementValue
after_input input e = after_round B2 input (after_b1 input e)

-- what the element writes in a cycle: the answers to its acts, and its frames
abbrev pub cycle_text : CycleInput → ElementValue → List ℕ
cycle_text input e =
    answers_text e input.acts
    ++ (framed (frame_of (after_own_acts e input.acts) A1)
    ++ (framed (frame_of (after_a1 input e) A2)
    ++ (framed (frame_of (after_a2 input e) B1)
    ++ framed (frame_of (after_b1 input e) B2))))

-- what it writes in all cycles
abbrev pub whole_text : List CycleInput → ElementValue → List ℕ
whole_text [] e = []
whole_text (input ∷ inputs) e = cycle_text input e ++ whole_text inputs (after_input input e)

-- A spelled input is whole: the node waits in the cycle behind the last, and wrote that text.
abbrev pub SpelledIsWhole : Type 0
SpelledIsWhole = (inputs : List CycleInput) (e : ElementValue) → AllByRecursion (IsCycleInput e.kept.table.n e.kept.me) inputs
    → cycles_from (length inputs) e (input_bytes e.kept.me inputs) ≡ WaitsIn (e.kept.cycle + length inputs) (whole_text inputs e)
