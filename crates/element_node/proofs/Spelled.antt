-- Bytes that are spelled are read as what they spell.
use Rattle.std.proofs.Common.{◌≡◌, ℕ, suc, ◌+◌, ◌-◌, ◌*◌, ◌/◌, ◌%◌, ◌<◌, ◌≤◌, Bool, true, false, cond, ◌==◌, nat_le, nat_lt, List, [], ◌∷◌, ◌++◌, take, drop, length, refl, ap, sym, ◌∙◌, subst, append_assoc, append-nil, arith, eqb-true}
use Rattle.std.specs.Prelude.{slice_index, slice_index_or}
use Rattle.std.specs.List.{flat_map, AllByRecursion}
use Rattle.std.proofs.lemmas.Bool.{le-leb, cases_eq}
use Rattle.std.proofs.lemmas.List.{take_at, drop_at, length-append, get_or-append_right}
use Rattle.packet_format.specs.Numbers.{two_bytes}
use Rattle.packet_format.specs.declared.acts.Act.{Act}
use Rattle.packet_format.specs.declared.acts.Act.TheVariants.{Post, Read}
use Rattle.ftpp_base.specs.declared.element.Round.{Round}
use Rattle.ftpp_base.specs.declared.element.Round.TheVariants.{A1, A2, B1, B2}
use Rattle.element_core.specs.ElementValue.{ElementValue, after_emit, after_absorb, ended_with, frame_of, frames_in}
use Rattle.element_node.specs.Dialog.{Outcome, Dialog, after_text, continued, and_then, ready, write_then, piece, byte, first_of}
use Rattle.element_node.specs.Dialog.Outcome.{Whole}
use Rattle.element_node.specs.Input.{own, posted, read_act_at, read_act_of, read_act, read_acts_from, read_counted, read_acts, length_in, read_frame_of, read_frame, read_frame_from, read_frames_from, read_frames}
use Rattle.element_node.specs.Node.{Stopped, after_text_in, then_cycles, answers_text, answers_acts, after_own_acts, framed, heard, round_dialog, rounds_from_b1, rounds_from_a2, rounds_dialog, cycle_dialog, cycles_from}
use Rattle.element_node.specs.Node.Stopped.{WaitsIn}
use Rattle.element_node.proofs.Cycles.{same_after_end}
use Rattle.element_node.specs.Whole.{CycleInput, act_bytes, acts_bytes, bytes_from, frames_bytes, cycle_bytes, input_bytes, IsWholeAct, IsShort, IsCycleInput, after_round, after_a1, after_a2, after_b1, after_input, cycle_text, whole_text, SpelledIsWhole}

-- one dialog after another
chained : {A B : Type 0} (p : Dialog A) (k : A → Dialog B) (v : A) (t bytes rest : List ℕ) (o : Outcome B) → p bytes ≡ Whole v t rest → after_text t (k v rest) ≡ o → and_then p k bytes ≡ o
unfolding and_then
chained p k v t bytes rest o e f = ap (λ x. continued x k) e ∙ f

-- ---- pieces

piece_whole : (n : ℕ) (bs rest : List ℕ) → length bs ≡ n → piece n (bs ++ rest) ≡ Whole bs [] rest
unfolding piece
piece_whole n bs rest e =
    let fits : nat_le n (length (bs ++ rest)) ≡ true = le-leb _ _ (omega (arith, length-append bs rest)) in
    rw (fits, take_at bs rest n e, drop_at bs rest n e) refl

byte_whole : (b : ℕ) (rest : List ℕ) → byte (b ∷ rest) ≡ Whole b [] rest
unfolding byte
byte_whole b rest = chained (piece 1) first_of (b ∷ []) [] (b ∷ rest) rest (Whole b [] rest) (piece_whole 1 (b ∷ []) rest refl) refl

-- ---- acts

act_whole : (me : ℕ) (act : Act) (rest : List ℕ) → IsWholeAct me act → read_act me (act_bytes act ++ rest) ≡ Whole act [] rest
unfolding read_act read_act_of read_act_at
act_whole me (Post proc desc packet) rest ((mine, below), long) =
    let there : nat_lt proc.port 8 ≡ true = le-leb _ _ below in
    let body : List ℕ = desc.dest ∷ desc.class ∷ desc.source ∷ packet.bytes in
    let read : read_act_at me 1 proc.port (body ++ rest) ≡ Whole (Post proc desc packet) [] rest =
    rw there (chained (piece 67) (posted me proc.port) body [] (body ++ rest) rest (Whole (Post proc desc packet) [] rest) (piece_whole 67 body rest (omega (arith, long))) (rw (sym mine) refl)) in
    chained byte (read_act_of me) 1 [] _ _ _ (byte_whole 1 (proc.port ∷ body ++ rest))
    (ap (after_text []) (chained byte (read_act_at me 1) proc.port [] _ _ _ (byte_whole proc.port (body ++ rest)) (ap (after_text []) read)))
act_whole me (Read proc) rest (mine, below) =
    let there : nat_lt proc.port 8 ≡ true = le-leb _ _ below in
    let read : read_act_at me 2 proc.port rest ≡ Whole (Read proc) [] rest = rw (there, sym mine) refl in
    chained byte (read_act_of me) 2 [] _ _ _ (byte_whole 2 (proc.port ∷ rest))
    (ap (after_text []) (chained byte (read_act_at me 2) proc.port [] _ _ _ (byte_whole proc.port rest) (ap (after_text []) read)))

acts_whole_from : (me : ℕ) (acts before : List Act) (rest : List ℕ) → AllByRecursion (IsWholeAct me) acts → read_acts_from me (length acts) before (flat_map act_bytes acts ++ rest) ≡ Whole (before ++ acts) [] rest
unfolding read_acts_from
acts_whole_from me [] before rest all = ap (λ xs. Whole xs [] rest) (sym (append-nil before))
acts_whole_from me (act ∷ acts) before rest (one, more) =
    ap (read_acts_from me (suc (length acts)) before) (append_assoc (act_bytes act) (flat_map act_bytes acts) rest)
    ∙ chained (read_act me) (λ a. read_acts_from me (length acts) (before ++ a ∷ [])) act [] _ (flat_map act_bytes acts ++ rest) _ (act_whole me act (flat_map act_bytes acts ++ rest) one)
    (ap (after_text []) (acts_whole_from me acts (before ++ act ∷ []) rest more) ∙ ap (λ xs. Whole xs [] rest) (append_assoc before (act ∷ []) acts))

acts_whole : (me : ℕ) (acts : List Act) (rest : List ℕ) → length acts ≤ 80 → AllByRecursion (IsWholeAct me) acts → read_acts me (acts_bytes acts ++ rest) ≡ Whole acts [] rest
unfolding read_acts read_counted
acts_whole me acts rest few all =
    let fits : nat_le (length acts) 80 ≡ true = le-leb _ _ few in
    let read : read_counted me (length acts) (flat_map act_bytes acts ++ rest) ≡ Whole acts [] rest = rw fits (acts_whole_from me acts [] rest all) in
    chained byte (read_counted me) (length acts) [] _ _ _ (byte_whole (length acts) (flat_map act_bytes acts ++ rest)) (rw read refl)

-- ---- frames

length_back : (n : ℕ) → n ≤ 331 → length_in (two_bytes n) ≡ n
length_back n few = omega (arith, few)

frame_whole : (frame rest : List ℕ) → IsShort frame → read_frame (framed frame ++ rest) ≡ Whole frame [] rest
unfolding read_frame read_frame_of
frame_whole frame rest short =
    let back : length_in (two_bytes (length frame)) ≡ length frame = length_back (length frame) short in
    let fits : nat_le (length frame) 331 ≡ true = le-leb _ _ short in
    let read : read_frame_of (two_bytes (length frame)) (frame ++ rest) ≡ Whole frame [] rest = rw (back, fits) (piece_whole (length frame) frame rest refl) in
    chained (piece 2) read_frame_of (two_bytes (length frame)) [] _ _ _ (piece_whole 2 (two_bytes (length frame)) (frame ++ rest) refl) (rw read refl)

from_by : (b : Bool) (me sender : ℕ) (frame rest : List ℕ) → (sender == me) ≡ b → IsShort frame → (sender ≡ me → frame ≡ []) → read_frame_from me sender (bytes_from me sender frame ++ rest) ≡ Whole frame [] rest
unfolding read_frame_from
from_by true me sender frame rest e short none = rw (e, none (eqb-true sender me e)) refl
from_by false me sender frame rest e short none = rw e (frame_whole frame rest short)

-- what stands behind those before
here_is : (before frames : List (List ℕ)) (frame : List ℕ) (me : ℕ) → length before ≡ me → slice_index_or (before ++ frame ∷ frames) me [] ≡ frame
here_is before frames frame me e =
    let z : me - me ≡ 0 = omega arith in
    get_or-append_right before (frame ∷ frames) me me [] e (omega arith) ∙ ap (λ k. slice_index_or (frame ∷ frames) k []) z

-- the senders' own places: none where it is the element itself
frames_whole_from : (me : ℕ) (frames before : List (List ℕ)) (rest : List ℕ) → AllByRecursion IsShort frames → slice_index_or (before ++ frames) me [] ≡ []
    → read_frames_from me (length frames) before (frames_bytes me (length before) frames ++ rest) ≡ Whole (before ++ frames) [] rest
unfolding read_frames_from
frames_whole_from me [] before rest all none = ap (λ xs. Whole xs [] rest) (sym (append-nil before))
frames_whole_from me (frame ∷ frames) before rest (one, more) none =
    let next : length (before ++ frame ∷ []) ≡ length before + 1 = length-append before (frame ∷ []) in
    let here : length before ≡ me → frame ≡ [] = λ e. sym (here_is before frames frame me e) ∙ none in
    ap (read_frames_from me (suc (length frames)) before) (append_assoc (bytes_from me (length before) frame) (frames_bytes me (length before + 1) frames) rest)
    ∙ chained (read_frame_from me (length before)) (λ f. read_frames_from me (length frames) (before ++ f ∷ [])) frame [] _ (frames_bytes me (length before + 1) frames ++ rest) _
    (from_by (length before == me) me (length before) frame _ refl one here)
    (ap (after_text []) (ap (λ s. read_frames_from me (length frames) (before ++ frame ∷ []) (frames_bytes me s frames ++ rest)) (sym next)
    ∙ frames_whole_from me frames (before ++ frame ∷ []) rest more (ap (λ xs. slice_index_or xs me []) (append_assoc before (frame ∷ []) frames) ∙ none))
    ∙ ap (λ xs. Whole xs [] rest) (append_assoc before (frame ∷ []) frames))

frames_whole : (n me : ℕ) (frames : List (List ℕ)) (rest : List ℕ) → length frames ≡ n → AllByRecursion IsShort frames → slice_index_or frames me [] ≡ [] → read_frames n me (frames_bytes me 0 frames ++ rest) ≡ Whole frames [] rest
frames_whole n me frames rest e all none = rw (sym e) (frames_whole_from me frames [] rest all none)

-- ---- rounds

round_whole : (round : Round) (e : ElementValue) (n me : ℕ) (input : CycleInput) (rest : List ℕ) → e.kept.table.n ≡ n → e.kept.me ≡ me → IsCycleInput n me input
    → round_dialog round e (frames_bytes me 0 (input.frames round) ++ rest) ≡ Whole (after_round round input e) (framed (frame_of e round)) rest
unfolding round_dialog
round_whole round e n me input rest same mine is =
    let read : read_frames e.kept.table.n e.kept.me (frames_bytes me 0 (input.frames round) ++ rest) ≡ Whole (input.frames round) [] rest =
    rw (same, mine) (frames_whole n me (input.frames round) rest (is.count round) (is.short round) (is.own round)) in
    ap (after_text (framed (frame_of e round))) (chained (read_frames e.kept.table.n e.kept.me) (heard round (after_emit round e)) (input.frames round) [] _ rest _ read refl)
    ∙ ap (λ t. Whole (after_round round input e) t rest) (append-nil (framed (frame_of e round)))

-- the four rounds of a cycle
rounds_whole : (e : ElementValue) (n me : ℕ) (input : CycleInput) (rest : List ℕ) → e.kept.table.n ≡ n → e.kept.me ≡ me → IsCycleInput n me input
    → rounds_dialog e (frames_bytes me 0 (input.frames A1) ++ (frames_bytes me 0 (input.frames A2) ++ (frames_bytes me 0 (input.frames B1) ++ (frames_bytes me 0 (input.frames B2) ++ rest))))
    ≡ Whole (after_round B2 input (after_round B1 input (after_round A2 input (after_round A1 input e))))
    (framed (frame_of e A1) ++ (framed (frame_of (after_round A1 input e) A2) ++ (framed (frame_of (after_round A2 input (after_round A1 input e)) B1) ++ framed (frame_of (after_round B1 input (after_round A2 input (after_round A1 input e))) B2)))) rest
rounds_whole e n me input rest same mine is =
    let a : ElementValue = after_round A1 input e in
    let b : ElementValue = after_round A2 input a in
    let c : ElementValue = after_round B1 input b in
    chained (round_dialog A1 e) rounds_from_a2 a (framed (frame_of e A1)) _ _ _ (round_whole A1 e n me input _ same mine is)
    (ap (after_text (framed (frame_of e A1)))
    (chained (round_dialog A2 a) rounds_from_b1 b (framed (frame_of a A2)) _ _ _ (round_whole A2 a n me input _ same mine is)
    (ap (after_text (framed (frame_of a A2)))
    (chained (round_dialog B1 b) (round_dialog B2) c (framed (frame_of b B1)) _ _ _ (round_whole B1 b n me input _ same mine is)
    (ap (after_text (framed (frame_of b B1))) (round_whole B2 c n me input rest same mine is))))))

-- ---- cycles

cycle_whole : (e : ElementValue) (n me : ℕ) (input : CycleInput) (rest : List ℕ) → e.kept.table.n ≡ n → e.kept.me ≡ me → IsCycleInput n me input
    → cycle_dialog e (cycle_bytes me input ++ rest) ≡ Whole (after_input input e) (cycle_text input e) rest
unfolding cycle_dialog
cycle_whole e n me input rest same mine is =
    let a1 : List ℕ = frames_bytes me 0 (input.frames A1) in
    let a2 : List ℕ = frames_bytes me 0 (input.frames A2) in
    let b1 : List ℕ = frames_bytes me 0 (input.frames B1) in
    let b2 : List ℕ = frames_bytes me 0 (input.frames B2) in
    let parted : cycle_bytes me input ++ rest ≡ acts_bytes input.acts ++ (a1 ++ (a2 ++ (b1 ++ (b2 ++ rest)))) =
    append_assoc (acts_bytes input.acts) (a1 ++ (a2 ++ (b1 ++ b2))) rest
    ∙ ap (λ t. acts_bytes input.acts ++ t) (append_assoc a1 (a2 ++ (b1 ++ b2)) rest
    ∙ ap (λ t. a1 ++ t) (append_assoc a2 (b1 ++ b2) rest
    ∙ ap (λ t. a2 ++ t) (append_assoc b1 b2 rest))) in
    ap (and_then (read_acts e.kept.me) (answers_acts e)) parted
    ∙ chained (read_acts e.kept.me) (answers_acts e) input.acts [] _ (a1 ++ (a2 ++ (b1 ++ (b2 ++ rest)))) _
    (rw mine (acts_whole me input.acts (a1 ++ (a2 ++ (b1 ++ (b2 ++ rest)))) is.few is.acts))
    (ap (after_text []) (ap (after_text (answers_text e input.acts)) (rounds_whole (after_own_acts e input.acts) n me input rest same mine is)))

-- the element after a cycle is the same one, among as many
after_same : (e : ElementValue) (input : CycleInput) → ((after_input input e).kept.me ≡ e.kept.me) × ((after_input input e).kept.table.n ≡ e.kept.table.n) × ((after_input input e).kept.cycle ≡ e.kept.cycle + 1)
after_same e input = same_after_end (after_emit B2 (after_b1 input e)) _

pub spelled_is_whole : SpelledIsWhole
unfolding cycles_from
spelled_is_whole [] e all = ap (λ c. WaitsIn c []) (omega arith)
spelled_is_whole (input ∷ inputs) e (one, more) =
    let same : ((after_input input e).kept.me ≡ e.kept.me) × ((after_input input e).kept.table.n ≡ e.kept.table.n) × ((after_input input e).kept.cycle ≡ e.kept.cycle + 1) = after_same e input in
    let next : cycles_from (length inputs) (after_input input e) (input_bytes e.kept.me inputs) ≡ WaitsIn (e.kept.cycle + suc (length inputs)) (whole_text inputs (after_input input e)) =
    ap (λ me. cycles_from (length inputs) (after_input input e) (input_bytes me inputs)) (sym same.0)
    ∙ (spelled_is_whole inputs (after_input input e) (rw (same.0, same.1) more)
    ∙ ap (λ c. WaitsIn c (whole_text inputs (after_input input e))) (omega (arith, same.2))) in
    ap (λ o. then_cycles e.kept.cycle o (cycles_from (length inputs))) (cycle_whole e e.kept.table.n e.kept.me input (input_bytes e.kept.me inputs) refl refl one)
    ∙ ap (after_text_in (cycle_text input e)) next
