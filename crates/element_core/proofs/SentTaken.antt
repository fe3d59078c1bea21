-- The frames that the run says are what each element takes, and an honest fabric can carry them for each input.
use Rattle.std.proofs.Common.{◌≡◌, ◌≢◌, ℕ, zero, suc, ◌<◌, Bool, true, false, cond, List, [], ◌∷◌, length, replicate, refl, ap, sym, ◌∙◌, subst}
use Rattle.std.specs.Prelude.{Option, None}
use Rattle.std.proofs.lemmas.List.{length-replicate}
use Rattle.std.proofs.lemmas.List.FromFn.{length-map-range_with_len}
use Rattle.ftpp_base.specs.Lists.{each_below, cell_at, is_this}
use Rattle.ftpp_base.specs.declared.element.Round.{Round}
use Rattle.ftpp_base.specs.declared.element.Round.TheVariants.{A1, A2, B1, B2}
use Rattle.bit_vote.specs.Vote.{Cell, IsCell}
use Rattle.bit_vote.specs.Agreed.{FirstRound, copy_at}
use Rattle.frame_format.specs.Frames.{width_in, cells_in}
use Rattle.two_round.proofs.Agreement.{at_place}
use Rattle.element_core.specs.Cycle.{State, Input, step, shown_by}
use Rattle.element_core.specs.Sent.{is_relayed, relayed_packet, cells_sent}
use Rattle.element_core.specs.Syndromes.{relayed_cell}
use Rattle.element_core.specs.Alone.{IsInput, TakesRound}
use Rattle.element_core.specs.Together.{Carried, said_to, heard_of, IsCarried, SentIsTaken, SomeIsCarried}
use Rattle.element_core.proofs.Alone.{each_alone}
use Rattle.element_core.proofs.Together.{said_cells, said_patterns, said_packets, copy-faulty, relayed-faulty, relayed-fine}
use Rattle.bit_vote.proofs.Copies.{copy-fine}

-- ---- a first round, and its echoes

-- the cell of each other sender
first_by : (bad : Bool) (round : FirstRound) (me s : ℕ) (cell : Cell) → s ≢ me → is_this round.faulty s ≡ bad
    → (is_this round.faulty s ≡ true → cell ≡ cell_at round.heard me) → (is_this round.faulty s ≡ false → cell ≡ cell_at round.own s) → cell ≡ copy_at round me s
first_by true round me s cell away e wrong right = wrong e ∙ sym (copy-faulty round me s e (λ f. away (sym f)))
first_by false round me s cell away e wrong right = right e ∙ sym (copy-fine round me s e)

-- the cells of each other relay
relay_by : (bad : Bool) (round : FirstRound) (said : List Cell) (k s : ℕ) (cell : Cell) → is_this round.faulty k ≡ bad
    → (is_this round.faulty k ≡ true → cell ≡ cell_at said s) → (is_this round.faulty k ≡ false → cell ≡ copy_at round k s) → cell ≡ relayed_cell round said k s
relay_by true round said k s cell e wrong right = wrong e ∙ sym (relayed-faulty round said k s e)
relay_by false round said k s cell e wrong right = right e ∙ sym (relayed-fine round said k s e)

-- a fact of a frame, by whether it is that of the faulty one
by_fault : {P : Type 0} (bad : Bool) (faulty : Option ℕ) (k : ℕ) → is_this faulty k ≡ bad → (is_this faulty k ≡ true → P) → (is_this faulty k ≡ false → P) → P
by_fault true faulty k e wrong right = wrong e
by_fault false faulty k e wrong right = right e

-- first cells and rows of cells, each by its number, are taken
round_taken : (n : ℕ) (round : FirstRound) (said : List Cell) (counts : ℕ → Bool) (me : ℕ) (first : ℕ → Cell) (rows : ℕ → List Cell)
    → ((s : ℕ) → s < n → s ≢ me → first s ≡ copy_at round me s) → ((k : ℕ) → k < n → k ≢ me → length (rows k) ≡ n)
    → ((k s : ℕ) → k < n → k ≢ me → s < n → counts s ≡ true → cell_at (rows k) s ≡ relayed_cell round said k s)
    → TakesRound n round said counts me (each_below n first) (each_below n rows)
round_taken n round said counts me first rows copy cells relay = record {
  count = length-map-range_with_len first 0 n;
  copy = λ s l away. at_place n first s None l ∙ copy s l away;
  cells = λ k l away. ap length (at_place n rows k [] l) ∙ cells k l away;
  relay = λ k s l away m c. ap (λ xs. cell_at xs s) (at_place n rows k [] l) ∙ relay k s l away m c;
}

-- ---- what the run says

-- each takes its part of the rounds of patterns
sent_patterns : (s : State) (input : Input) (carried : Carried) (me : ℕ) → IsCarried s.table.n (cells_sent (step s input).shown) input carried → me < s.table.n
    → TakesRound s.table.n (step s input).shown.patterns (said_to carried input.faulty me).patterns (λ k. true) me (heard_of carried s.table.n me).patterns (heard_of carried s.table.n me).relayed_patterns
unfolding step shown_by
sent_patterns s input carried me c l =
    let n = s.table.n in
    let round = (step s input).shown.patterns in
    round_taken n round (said_to carried input.faulty me).patterns (λ k. true) me (λ sender. cell_at (carried A1 sender me) 0) (λ relay. carried A2 relay me)
    (λ k m away. first_by (is_this input.faulty k) round me k (cell_at (carried A1 k me) 0) away refl
    (λ bad. c.patterns k me m l away bad) (λ good. ap (λ cells. cell_at cells 0) (c.honest A1 k me m l away good)))
    (λ k m away. by_fault (is_this input.faulty k) input.faulty k refl
    (λ bad. c.count A2 k me m l bad) (λ good. ap length (c.honest A2 k me m l away good) ∙ length-map-range_with_len (copy_at round k) 0 n))
    (λ k j m away less counts. relay_by (is_this input.faulty k) round (said_to carried input.faulty me).patterns k j (cell_at (carried A2 k me) j) refl
    (λ bad. ap (λ cells. cell_at cells j) (said_patterns input.faulty carried k me bad))
    (λ good. ap (λ cells. cell_at cells j) (c.honest A2 k me m l away good) ∙ at_place n (copy_at round k) j None less))

-- and of the rounds of packets
sent_packets : (s : State) (input : Input) (carried : Carried) (me : ℕ) → IsCarried s.table.n (cells_sent (step s input).shown) input carried → me < s.table.n
    → TakesRound s.table.n (step s input).shown.packets (said_to carried input.faulty me).packets (is_relayed (step s input).shown.decision) me (heard_of carried s.table.n me).packets (heard_of carried s.table.n me).relayed_packets
unfolding step shown_by
sent_packets s input carried me c l =
    let n = s.table.n in
    let shown = (step s input).shown in
    let round = shown.packets in
    round_taken n round (said_to carried input.faulty me).packets (is_relayed shown.decision) me (λ sender. cell_at (carried B1 sender me) 0) (λ relay. carried B2 relay me)
    (λ k m away. first_by (is_this input.faulty k) round me k (cell_at (carried B1 k me) 0) away refl
    (λ bad. c.packets k me m l away bad) (λ good. ap (λ cells. cell_at cells 0) (c.honest B1 k me m l away good)))
    (λ k m away. by_fault (is_this input.faulty k) input.faulty k refl
    (λ bad. c.count B2 k me m l bad) (λ good. ap length (c.honest B2 k me m l away good) ∙ length-map-range_with_len (relayed_packet shown k) 0 n))
    (λ k j m away less counts. relay_by (is_this input.faulty k) round (said_to carried input.faulty me).packets k j (cell_at (carried B2 k me) j) refl
    (λ bad. ap (λ cells. cell_at cells j) (said_packets input.faulty carried k me bad))
    (λ good. ap (λ cells. cell_at cells j) (c.honest B2 k me m l away good) ∙ at_place n (relayed_packet shown k) j None less ∙ ap (λ b. cond b (copy_at round k j) None) counts))

-- Where the frames that the run says are carried, each element takes its part of them.
pub sent_is_taken : SentIsTaken
unfolding step shown_by
sent_is_taken s input carried me c l = (
  record { patterns = sent_patterns s input carried me c l; packets = sent_packets s input carried me c l },
  said_cells input.faulty carried me c.cells,
)

-- ---- a fabric for each input

-- frames of the faulty one: what comes from outside, and else nothing
abbrev faulty_frame : ℕ → Input → Round → ℕ → List Cell
faulty_frame n input A1 me = cell_at input.patterns me ∷ []
faulty_frame n input A2 me = replicate n None
faulty_frame n input B1 me = cell_at input.packets me ∷ []
faulty_frame n input B2 me = replicate n None

-- a fabric that carries these frames
abbrev carried_in : ℕ → (Round → ℕ → List Cell) → Input → Carried
carried_in n frames input round sender me = cond (is_this input.faulty sender) (faulty_frame n input round me) (frames round sender)

-- as many cells as the round has
frame_count : (n : ℕ) (input : Input) (round : Round) (me : ℕ) → length (faulty_frame n input round me) ≡ cells_in n round
frame_count n input A1 me = refl
frame_count n input A2 me = length-replicate n None
frame_count n input B1 me = refl
frame_count n input B2 me = length-replicate n None

-- a frame of one cell
one_cell : (wide : ℕ) (cell : Cell) (s : ℕ) → IsCell wide cell → IsCell wide (cell_at (cell ∷ []) s)
one_cell wide cell zero is = is
one_cell wide cell (suc s) is = tt

-- a frame of no rows
none_cells : (wide n s : ℕ) → IsCell wide (cell_at (replicate n None) s)
none_cells wide zero s = tt
none_cells wide (suc n) zero = tt
none_cells wide (suc n) (suc s) = none_cells wide n s

-- cells of their widths
frame_cells : (n : ℕ) (input : Input) (round : Round) (me s : ℕ) → IsInput n input → IsCell (width_in round) (cell_at (faulty_frame n input round me) s)
frame_cells n input A1 me s is = one_cell 32 (cell_at input.patterns me) s (is.pattern_cells me)
frame_cells n input A2 me s is = none_cells 32 n s
frame_cells n input B1 me s is = one_cell 64 (cell_at input.packets me) s (is.packet_cells me)
frame_cells n input B2 me s is = none_cells 64 n s

-- a fabric that carries these frames
carries_in : (n : ℕ) (frames : Round → ℕ → List Cell) (input : Input) → IsInput n input → IsCarried n frames input (carried_in n frames input)
carries_in n frames input is =
    let chosen = λ (round : Round) (sender me : ℕ) (bad : is_this input.faulty sender ≡ true). ap (λ b. cond b (faulty_frame n input round me) (frames round sender)) bad in
    record {
      honest = λ round sender me l m away good. ap (λ b. cond b (faulty_frame n input round me) (frames round sender)) good;
      count = λ round sender me l m bad. ap length (chosen round sender me bad) ∙ frame_count n input round me;
      cells = λ round sender me s bad. subst (λ row. IsCell (width_in round) (cell_at row s)) (sym (chosen round sender me bad)) (frame_cells n input round me s is);
      patterns = λ sender me l m away bad. ap (λ row. cell_at row 0) (chosen A1 sender me bad);
      packets = λ sender me l m away bad. ap (λ row. cell_at row 0) (chosen B1 sender me bad);
    }

-- There is a fabric for each input: it carries what the run says, which is what each makes of it.
pub some_is_carried : SomeIsCarried
some_is_carried s input sound is =
    let frames = cells_sent (step s input).shown in
    let carried = carried_in s.table.n frames input in
    let c = carries_in s.table.n frames input is in (
      carried,
      record {
        honest = λ round sender me l m away good.
            let taken = sent_is_taken s input carried sender c l in
            c.honest round sender me l m away good
            ∙ sym ((each_alone s input (said_to carried input.faulty sender) sender (heard_of carried s.table.n sender) sound is taken.1 l taken.0).sends round);
        count = c.count;
        cells = c.cells;
        patterns = c.patterns;
        packets = c.packets;
      },
    )
