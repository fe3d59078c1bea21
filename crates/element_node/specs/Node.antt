-- What a node makes of its input: the text that it writes, and where the input ends or breaks.
use Rattle.std.specs.Prelude.{ℕ, List, [], ◌∷◌, ◌++◌, length}
use Rattle.std.specs.List.{flat_map, fold}
use Rattle.ftpp_base.specs.declared.element.Round.{Round}
use Rattle.ftpp_base.specs.declared.element.Round.TheVariants.{A1, A2, B1, B2}
use Rattle.packet_format.specs.declared.acts.Act.{Act}
use Rattle.packet_format.specs.declared.acts.ActAnswer.{ActAnswer}
use Rattle.packet_format.specs.declared.acts.ActAnswer.TheVariants.{Posted, PostFull, Got, Nothing}
use Rattle.packet_format.specs.Numbers.{two_bytes}
use Rattle.packet_format.specs.Packets.{delivered_bytes}
use Rattle.config_table.specs.Table.{TableValue}
use Rattle.element_core.specs.AloneRun.{own_act, own_answers}
use Rattle.element_core.specs.ElementValue.{ElementValue, fresh, after_emit, after_absorb, frame_of, frames_in}
use Rattle.element_node.specs.Dialog.{Outcome, Dialog, and_then, ready, write_then}
use Rattle.element_node.specs.Dialog.Outcome.{Whole, Waits, Breaks}
use Rattle.element_node.specs.Input.{read_acts, read_frames}

-- ---- what it writes

abbrev pub answer_bytes : ActAnswer → List ℕ
answer_bytes Posted = 0 ∷ []
answer_bytes PostFull = 1 ∷ []
answer_bytes Nothing = 2 ∷ []
answer_bytes (Got delivered) = 3 ∷ delivered_bytes delivered

-- the answers to acts, in order
abbrev pub answers_text : ElementValue → List Act → List ℕ
answers_text e acts = flat_map answer_bytes (own_answers e.kept.table e.kept.ports acts)

-- an element after acts of its processors
abbrev pub after_own_acts : ElementValue → List Act → ElementValue
after_own_acts e acts = record e { kept = record e.kept { ports = fold (own_act e.kept.table) e.kept.ports acts } }

-- a frame with its length before it
abbrev pub framed : List ℕ → List ℕ
framed frame = two_bytes (length frame) ++ frame

-- ---- a cycle

-- an element once it heard the frames of a round
abbrev pub heard : Round → ElementValue → List (List ℕ) → Dialog ElementValue
heard round e frames = ready (after_absorb round (frames_in frames) e)

-- a round: its own frame is written, and then the frames of the others are read
unfoldable pub round_dialog : Round → ElementValue → Dialog ElementValue
round_dialog round e = write_then (framed (frame_of e round)) (and_then (read_frames e.kept.table.n e.kept.me) (heard round (after_emit round e)))

abbrev pub rounds_from_b1 : ElementValue → Dialog ElementValue
rounds_from_b1 e = and_then (round_dialog B1 e) (round_dialog B2)

abbrev pub rounds_from_a2 : ElementValue → Dialog ElementValue
rounds_from_a2 e = and_then (round_dialog A2 e) rounds_from_b1

abbrev pub rounds_dialog : ElementValue → Dialog ElementValue
rounds_dialog e = and_then (round_dialog A1 e) rounds_from_a2

-- all acts of the cycle were read: they are answered, and the rounds follow
abbrev pub answers_acts : ElementValue → List Act → Dialog ElementValue
answers_acts e acts = write_then (answers_text e acts) (rounds_dialog (after_own_acts e acts))

unfoldable pub cycle_dialog : ElementValue → Dialog ElementValue
cycle_dialog e = and_then (read_acts e.kept.me) (answers_acts e)

-- ---- all cycles

-- What comes of all that was read: more bytes are due in a cycle, after this was written; or a byte breaks the input in a
-- cycle, with a code, what was written before it and the bytes behind it.
pub data Stopped : Type 0 where
  WaitsIn : ℕ → List ℕ → Stopped
  BreaksIn : ℕ → ℕ → List ℕ → List ℕ → Stopped

-- what is written in all: the node text of what was read
abbrev pub text_in : Stopped → List ℕ
text_in (WaitsIn cycle text) = text
text_in (BreaksIn cycle code text rest) = text

-- the same, where this was written before
abbrev pub after_text_in : List ℕ → Stopped → Stopped
after_text_in before (WaitsIn cycle text) = WaitsIn cycle (before ++ text)
after_text_in before (BreaksIn cycle code text rest) = BreaksIn cycle code (before ++ text) rest

-- what comes of a cycle, and of the bytes behind it
abbrev pub then_cycles : ℕ → Outcome ElementValue → (ElementValue → List ℕ → Stopped) → Stopped
then_cycles cycle (Whole e text rest) next = after_text_in text (next e rest)
then_cycles cycle (Waits text) next = WaitsIn cycle text
then_cycles cycle (Breaks code text rest) next = BreaksIn cycle code text rest

-- behind the last cycle no byte may come
abbrev pub at_the_end : ℕ → List ℕ → Stopped
at_the_end cycle [] = WaitsIn cycle []
at_the_end cycle (byte ∷ rest) = BreaksIn cycle 6 [] rest

-- a number of cycles, and the end
unfoldable pub cycles_from : ℕ → ElementValue → List ℕ → Stopped
cycles_from ℕ.zero e bytes = at_the_end e.kept.cycle bytes
cycles_from (ℕ.suc count) e bytes = then_cycles e.kept.cycle (cycle_dialog e bytes) (cycles_from count)

-- What a node makes of the bytes that come. They are a whole input exactly where it waits in the cycle behind the last.
abbrev pub node : ℕ → TableValue → ℕ → List ℕ → Stopped
node me table cycles = cycles_from cycles (fresh me table)
