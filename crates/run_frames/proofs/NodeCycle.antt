-- What a node writes in a cycle of a run is what the run says of its element, and then its element keeps its part of the next state.
use Rattle.std.proofs.Common.{◌≡◌, ◌≢◌, ℕ, zero, suc, ◌+◌, ◌<◌, ◌≤◌, Bool, true, false, cond, List, [], ◌∷◌, ◌++◌, length, map, refl, ap, arith, sym, ◌∙◌, subst, inl, inr}
use Rattle.std.specs.Prelude.{◌==◌}
use Rattle.std.specs.List.{AllByRecursion, flat_map, range_with_len}
use Rattle.std.proofs.lemmas.Bool.{eqb-true, eqb-false, eq-eqb}
use Rattle.std.proofs.lemmas.List.FromFn.{length-map-range_with_len}
use Rattle.ftpp_base.specs.Lists.{is_this}
use Rattle.ftpp_base.specs.declared.element.Round.{Round}
use Rattle.ftpp_base.specs.declared.element.Round.TheVariants.{A1, A2, B1, B2}
use Rattle.packet_format.specs.declared.acts.Act.{Act}
use Rattle.packet_format.specs.declared.acts.Act.TheVariants.{Post, Read}
use Rattle.two_round.proofs.Agreement.{at_place}
use Rattle.two_round.proofs.Others.{IsSize}
use Rattle.frame_format.specs.Frames.{frame_bytes, frame_length}
use Rattle.frame_format.proofs.Decoded.{length-frame}
use Rattle.config_table.specs.Table.{TableValue}
use Rattle.element_core.specs.Processors.{ports_of}
use Rattle.element_core.specs.Cycle.{State, Input, Shown, step}
use Rattle.element_core.specs.Sent.{cells_sent, frame_sent}
use Rattle.element_core.specs.Element.{Kept, Heard, made, kept_after}
use Rattle.element_core.specs.Noted.{cells_made}
use Rattle.element_core.specs.Alone.{IsSound, IsInput, IsAct, part_of, before_rounds}
use Rattle.element_core.specs.AloneRun.{acts_at, is_act_at, answers_at, own_answers, own_rejoin, begun}
use Rattle.element_core.specs.Together.{Carried, heard_of}
use Rattle.element_core.specs.ElementValue.{ElementValue, frame_of, ended_with}
use Rattle.element_core.specs.Steps.{IsTaken}
use Rattle.element_core.proofs.AloneLaws.{size_of}
use Rattle.element_core.proofs.AloneRunLaws.{each_begins_alone}
use Rattle.element_core.proofs.StepLaws.{cycle_of_steps}
use Rattle.cluster.specs.ClusterValue.{before_round}
use Rattle.cluster.proofs.Heard.{made_so}
use Rattle.element_node.specs.Node.{after_own_acts, answer_bytes, answers_text, framed}
use Rattle.element_node.specs.Whole.{IsWholeAct, IsShort, IsCycleInput, cycle_text, after_input}
use Rattle.run_frames.specs.NodeInRun.{Coming, AreComing, HasPort, IsNodeCycle, node_input, cycle_text_in}
use Rattle.run_frames.proofs.SentFrames.{frame_fits, shown_cycle, shown_table}
use Rattle.run_frames.proofs.TakesComing.{rows_of, taken_by, is_taken, holds}

-- ---- the input is whole

-- what is so of each number of a range is so of all that is made of them
all_made : {A : Type 0} (P : A → Type 0) (f : ℕ → A) (a n : ℕ) → ((k : ℕ) → k < a + n → P (f k)) → AllByRecursion P (map f (range_with_len a n))
all_made P f a zero h = tt
all_made P f a (suc n) h = (h a (omega arith), all_made P f (a + 1) n (λ k l. h k (omega arith)))

-- the longest frame among five elements
pub longest : (n : ℕ) (round : Round) → IsSize n → frame_length n round ≤ 331
longest n A1 size = omega arith
longest n A2 (inl e) = omega arith
longest n A2 (inr e) = omega arith
longest n B1 size = omega arith
longest n B2 (inl e) = omega arith
longest n B2 (inr e) = omega arith

-- a frame that an element sends is no longer
sent_short : (s : State) (input : Input) (round : Round) (sender : ℕ) → IsSound s → IsInput s.table.n input → length (frame_sent (step s input).shown round sender) ≤ 331
sent_short s input round sender sound is =
    let long = length-frame s.table.n (record { cycle = s.cycle; round = round }) sender (frame_sent (step s input).shown round sender) (cells_sent (step s input).shown round sender)
    (frame_fits s input round sender sound is) in
    let most = longest s.table.n round (size_of s sound) in
    omega arith

-- by whether it is the element itself, and whether it is the faulty one
short_by : (b : Bool) (frame : List ℕ) → (b ≡ false → IsShort frame) → IsShort (cond b [] frame)
short_by true frame h = omega arith
short_by false frame h = h refl

-- so is one that comes
came_short : (s : State) (input : Input) (me : ℕ) (frames : Coming) (round : Round) (sender : ℕ) → IsSound s → IsInput s.table.n input → AreComing (step s input).shown input me frames
    → sender < s.table.n → sender ≢ me → IsShort (frames round sender)
came_short s input me frames round sender sound is come l away = by (is_this input.faulty sender) refl where
  by : (b : Bool) → is_this input.faulty sender ≡ b → IsShort (frames round sender)
  by true bad = come.short round sender bad
  by false fine =
      let there : sender < (step s input).shown.table.n = subst (λ (t : TableValue). sender < t.n) (sym (shown_table s input)) l in
      subst IsShort (sym (come.honest round sender there away fine)) (sent_short s input round sender sound is)

-- an act of the element with a port that is there is whole
whole_act : (me : ℕ) (act : Act) → IsAct act → is_act_at me act ≡ true → HasPort act → IsWholeAct me act
whole_act me (Post proc desc packet) is here port = ((eqb-true proc.ne me here, port), is.row.long)
whole_act me (Read proc) is here port = (eqb-true proc.ne me here, port)

-- one more act, where it is the element's
one_more : (me : ℕ) (act : Act) (acts : List Act) (b : Bool) → is_act_at me act ≡ b → IsAct act → (AllByRecursion HasPort (acts_at me acts) → AllByRecursion (IsWholeAct me) (acts_at me acts))
    → AllByRecursion HasPort (cond b (act ∷ acts_at me acts) (acts_at me acts)) → AllByRecursion (IsWholeAct me) (cond b (act ∷ acts_at me acts) (acts_at me acts))
one_more me act acts true here is more ports = (whole_act me act is here ports.0, more ports.1)
one_more me act acts false there is more ports = more ports

-- so are all its acts
whole_acts : (me : ℕ) (acts : List Act) → AllByRecursion IsAct acts → AllByRecursion HasPort (acts_at me acts) → AllByRecursion (IsWholeAct me) (acts_at me acts)
whole_acts me [] are ports = tt
whole_acts me (act ∷ acts) are ports = one_more me act acts (is_act_at me act) refl are.0 (whole_acts me acts are.1) ports

-- The input of a cycle of a run is one of a node.
pub input_whole : (s : State) (input : Input) (me : ℕ) (frames : Coming) → IsSound s → IsInput s.table.n input → me < s.table.n → IsNodeCycle me input → AreComing (step s input).shown input me frames
    → IsCycleInput s.table.n me (node_input s.table.n me input frames)
input_whole s input me frames sound is l cycle come =
    let n = s.table.n in
    let one = λ (round : Round) (k : ℕ). cond (k == me) [] (frames round k) in
    record {
      few = cycle.few;
      acts = whole_acts me input.acts is.acts cycle.ports;
      count = λ round. length-map-range_with_len (one round) 0 n;
      own = λ round. at_place n (one round) me [] l ∙ ap (λ (b : Bool). cond b [] (frames round me)) (eq-eqb me me refl);
      short = λ round. all_made IsShort (one round) 0 n
          (λ k m. short_by (k == me) (frames round k) (λ e. came_short s input me frames round k sound is come (omega arith) (eqb-false k me e)));
    }

-- ---- what is written

-- an element with its part of a state, whatever it heard, is to do, told and noted before
abbrev pub with_part : ElementValue → Kept → ElementValue
with_part e kept = record { kept = kept; heard = e.heard; due = e.due; last = e.last; log = e.log }

-- what is kept after the rounds
ended_kept : (e : ElementValue) (heard : Heard) → (ended_with e heard).kept ≡ kept_after e.kept (made e.kept heard)
unfolding ended_with
ended_kept e heard = refl

-- What a node writes in a cycle, and what its element keeps after it.
pub record WritesCycle (n me : ℕ) (input : Input) (frames : Coming) (e : ElementValue) (shown : Shown) (next : State) : Type 0 where
  pub text : cycle_text (node_input n me input frames) e ≡ cycle_text_in me input shown
  pub kept : (after_input (node_input n me input frames) e).kept ≡ part_of next me

module _ (s : State) (input : Input) (me : ℕ) (frames : Coming) (e : ElementValue) (sound : IsSound s) (is : IsInput s.table.n input) (l : me < s.table.n)
    (cycle : IsNodeCycle me input) (come : AreComing (step s input).shown input me frames) where
  -- the element at the beginning of the cycle, and what is carried to it
  abbrev first : ElementValue
  first = with_part e (part_of s me)

  abbrev acted : ElementValue
  acted = after_own_acts first (acts_at me input.acts)

  abbrev rows : Coming
  rows = rows_of s.table.n me frames

  abbrev own : Kept
  own = part_of (before_rounds s input) me

  abbrev carried : Carried
  carried = taken_by own rows

  -- after its acts it keeps its part of the state before the rounds
  begins : acted.kept ≡ own
  begins =
      ap (λ (b : Bool). begun (part_of s me) b (acts_at me input.acts)) (sym cycle.stays) ∙ (each_begins_alone s input me sound l).0

  -- its answers are those of the run
  answers : answers_text first (acts_at me input.acts) ≡ flat_map answer_bytes (answers_at me input.acts (step s input).shown.answers)
  answers =
      ap (λ (b : Bool). flat_map answer_bytes (own_answers s.table (own_rejoin b (ports_of s.queues me)) (acts_at me input.acts))) (sym cycle.stays)
      ∙ ap (flat_map answer_bytes) (each_begins_alone s input me sound l).1

  -- what it takes is what is carried
  taken : IsTaken acted.kept rows carried
  taken = subst (λ (k : Kept). IsTaken k rows carried) (sym begins) (is_taken own rows)

  -- its frames are those of the run
  sends : (round : Round) → frame_of (before_round round rows acted) round ≡ frame_sent (step s input).shown round me
  sends round =
      let part = holds s input me frames sound is cycle.fault_free come l in
      let number = sym (shown_cycle s input) in
      made_so acted rows carried taken round
      ∙ ap (λ (k : Kept). frame_bytes (record { cycle = k.cycle; round = round }) k.me (cells_made k (heard_of carried k.table.n k.me) round)) begins
      ∙ (λ i. frame_bytes (record { cycle = number i; round = round }) me (part.sends round i))

  -- and what it keeps is its part of the next state
  keeps : (after_input (node_input s.table.n me input frames) first).kept ≡ part_of (step s input).state me
  keeps =
      let part = holds s input me frames sound is cycle.fault_free come l in
      ap (λ (x : ElementValue). x.kept) (cycle_of_steps acted rows carried taken)
      ∙ ended_kept acted (heard_of carried acted.kept.table.n acted.kept.me)
      ∙ ap (λ (k : Kept). kept_after k (made k (heard_of carried k.table.n k.me))) begins
      ∙ part.keeps

  pub writes_first : WritesCycle s.table.n me input frames first (step s input).shown (step s input).state
  writes_first = record {
    text = λ i. answers i ++ (framed (sends A1 i) ++ (framed (sends A2 i) ++ (framed (sends B1 i) ++ framed (sends B2 i))));
    kept = keeps;
  }

-- A node whose element keeps its part of a state writes what the run says, and keeps its part of the next.
pub writes_cycle : (s : State) (input : Input) (me : ℕ) (frames : Coming) (e : ElementValue) → IsSound s → IsInput s.table.n input → me < s.table.n
    → IsNodeCycle me input → AreComing (step s input).shown input me frames → e.kept ≡ part_of s me
    → WritesCycle s.table.n me input frames e (step s input).shown (step s input).state
writes_cycle s input me frames e sound is l cycle come same =
    subst (λ (k : Kept). WritesCycle s.table.n me input frames (with_part e k) (step s input).shown (step s input).state) (sym same)
    (writes_first s input me frames e sound is l cycle come)
