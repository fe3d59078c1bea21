-- How the input of a node is read: acts and frames.
use Rattle.std.specs.Prelude.{◌≡◌, ℕ, ◌<◌, Bool, ◌+◌, ◌*◌, ◌==◌, ◌||◌, nat_lt, nat_le, List, [], ◌∷◌, ◌++◌, drop, length, slice_index, if◌then◌else◌}
use Rattle.frame_format.specs.declared.TheConstants.{FRAME_BYTES}
use Rattle.ftpp_base.specs.declared.element.Proc.{Proc}
use Rattle.packet_format.specs.declared.acts.Act.{Act}
use Rattle.packet_format.specs.declared.acts.Act.TheVariants.{Post, Read}
use Rattle.packet_format.specs.declared.acts.TheConstants.{MOST_ACTS}
use Rattle.element_core.specs.AloneRun.{actor}
use Rattle.element_node.specs.Dialog.{Dialog, and_then, ready, breaks, piece, byte}

-- ---- acts

-- the processor of an element at a port
abbrev pub own : ℕ → ℕ → Proc
own me port = record { ne = me; port = port }

-- an act of a processor of an element, at a port that is there
abbrev pub IsOwnAct : ℕ → Act → Type 0
IsOwnAct me act = ((actor act).ne ≡ me) × ((actor act).port < 8)

-- the post that 67 bytes spell: destination, class, source and the packet
abbrev pub post_of : ℕ → ℕ → List ℕ → Act
post_of me port body = Post (own me port) (record { dest = slice_index body 0; class = slice_index body 1; source = slice_index body 2 }) (record { bytes = drop 3 body })

abbrev pub posted : ℕ → ℕ → List ℕ → Dialog Act
posted me port body = ready (post_of me port body)

-- what follows the port of an act
unfoldable pub read_act_at : ℕ → ℕ → ℕ → Dialog Act
read_act_at me kind port =
    if nat_lt port 8
    then (if kind == 1 then and_then (piece 67) (posted me port) else ready (Read (own me port)))
    else breaks 4

-- whether an act begins so: 1 is a post, and 2 a read
abbrev pub is_kind : ℕ → Bool
is_kind kind = kind == 1 || kind == 2

-- what follows the first byte of an act
unfoldable pub read_act_of : ℕ → ℕ → Dialog Act
read_act_of me kind = if is_kind kind then and_then byte (read_act_at me kind) else breaks 3

unfoldable pub read_act : ℕ → Dialog Act
read_act me = and_then byte (read_act_of me)

-- a number of acts, behind those that were read before
unfoldable pub read_acts_from : ℕ → ℕ → List Act → Dialog (List Act)
read_acts_from me ℕ.zero before = ready before
read_acts_from me (ℕ.suc count) before = and_then (read_act me) (λ act. read_acts_from me count (before ++ act ∷ []))

unfoldable pub read_counted : ℕ → ℕ → Dialog (List Act)
read_counted me count = if nat_le count MOST_ACTS then read_acts_from me count [] else breaks 2

-- the acts of a cycle: how many, and each
unfoldable pub read_acts : ℕ → Dialog (List Act)
read_acts me = and_then byte (read_counted me)

-- ---- frames

-- the number that the two bytes of a length spell
abbrev pub length_in : List ℕ → ℕ
length_in bytes = slice_index bytes 0 * 256 + slice_index bytes 1

unfoldable pub read_frame_of : List ℕ → Dialog (List ℕ)
read_frame_of bytes = if nat_le (length_in bytes) FRAME_BYTES then piece (length_in bytes) else breaks 5

-- a frame: its length, and as many bytes
unfoldable pub read_frame : Dialog (List ℕ)
read_frame = and_then (piece 2) read_frame_of

-- the frame of a sender; the element itself sends itself none
unfoldable pub read_frame_from : ℕ → ℕ → Dialog (List ℕ)
read_frame_from me sender = if sender == me then ready [] else read_frame

-- the frames of a number of senders more, ascending, behind those of the senders before
unfoldable pub read_frames_from : ℕ → ℕ → List (List ℕ) → Dialog (List (List ℕ))
read_frames_from me ℕ.zero before = ready before
read_frames_from me (ℕ.suc count) before = and_then (read_frame_from me (length before)) (λ frame. read_frames_from me count (before ++ frame ∷ []))

-- the frames of a round, by sender among n elements
abbrev pub read_frames : ℕ → ℕ → Dialog (List (List ℕ))
read_frames n me = read_frames_from me n []
