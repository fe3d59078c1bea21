-- The elements together: what each makes of what the others made is its part of the one run.
use Rattle.std.proofs.Common.{◌≡◌, ◌≢◌, ℕ, ◌<◌, Bool, true, false, cond, List, [], length, refl, ap, sym, ◌∙◌}
use Rattle.std.specs.Prelude.{Option, Some, None, not, ◌&&◌}
use Rattle.std.proofs.lemmas.Bool.{eqb-true, eq-eqb, ne_eqb}
use Rattle.std.proofs.lemmas.List.FromFn.{length-map-range_with_len}
use Rattle.ftpp_base.specs.Lists.{each_below, cell_at, is_this}
use Rattle.ftpp_base.specs.declared.element.Round.{Round}
use Rattle.ftpp_base.specs.declared.element.Round.TheVariants.{A1, A2, B1, B2}
use Rattle.bit_vote.specs.Vote.{Cell, IsCell}
use Rattle.bit_vote.specs.Agreed.{FirstRound, copy_at}
use Rattle.frame_format.specs.Frames.{width_in}
use Rattle.two_round.proofs.Agreement.{at_place}
use Rattle.two_round.proofs.Held.{held-copies}
use Rattle.element_core.specs.Cycle.{State, Input, step, shown_by}
use Rattle.element_core.specs.Sent.{is_relayed}
use Rattle.element_core.specs.Syndromes.{relayed_cell}
use Rattle.element_core.specs.Element.{Heard, own_packet}
use Rattle.element_core.specs.Noted.{own_pattern, decided_by, cells_made}
use Rattle.element_core.specs.Alone.{IsSound, IsInput, AreRelays, TakesRound, part_of, before_rounds}
use Rattle.element_core.specs.Together.{Carried, heard_of, said_to, IsCarried, frames_by, ElementsTogether}
use Rattle.element_core.proofs.Sound.{before_sound}
use Rattle.element_core.proofs.Alone.{each_alone}
use Rattle.element_core.proofs.AloneLaws.{patterns_in, decision_in, packets_in, Given, pattern_mine, decision_made, packet_mine, packets_settled}
use Rattle.bit_vote.proofs.Copies.{copy-fine}

-- What is given of all elements in one cycle.
record Among (t : State) (input : Input) (carried : Carried) : Type 0 where
  sound : IsSound t
  is : IsInput t.table.n input
  carries : IsCarried t.table.n (frames_by (part_of t) t.table.n carried) input carried

-- ---- what the faulty element said

-- cells of their widths
pub said_cells : (faulty : Option ℕ) (carried : Carried) (me : ℕ) → ((round : Round) (sender to s : ℕ) → is_this faulty sender ≡ true → IsCell (width_in round) (cell_at (carried round sender to) s)) → AreRelays (said_to carried faulty me)
said_cells None carried me cells = record { patterns = λ s. tt; packets = λ s. tt }
said_cells (Some ne) carried me cells = record { patterns = λ s. cells A2 ne me s (eq-eqb ne ne refl); packets = λ s. cells B2 ne me s (eq-eqb ne ne refl) }

-- in A2
pub said_patterns : (faulty : Option ℕ) (carried : Carried) (relay me : ℕ) → is_this faulty relay ≡ true → carried A2 relay me ≡ (said_to carried faulty me).patterns
said_patterns None carried relay me e = cc
said_patterns (Some ne) carried relay me e = ap (λ k. carried A2 k me) (sym (eqb-true ne relay e))

-- in B2
pub said_packets : (faulty : Option ℕ) (carried : Carried) (relay me : ℕ) → is_this faulty relay ≡ true → carried B2 relay me ≡ (said_to carried faulty me).packets
said_packets None carried relay me e = cc
said_packets (Some ne) carried relay me e = ap (λ k. carried B2 k me) (sym (eqb-true ne relay e))

-- the copy of the faulty one is what was heard of it
pub copy-faulty : (round : FirstRound) (me s : ℕ) → is_this round.faulty s ≡ true → me ≢ s → copy_at round me s ≡ cell_at round.heard me
unfolding copy_at
copy-faulty round me s bad away = λ i. cond (bad i && not (ne_eqb me s away i)) (cell_at round.heard me) (cell_at round.own s)

-- what a relay's frame reads as, by whether it is faulty
pub relayed-faulty : (round : FirstRound) (said : List Cell) (relay s : ℕ) → is_this round.faulty relay ≡ true → relayed_cell round said relay s ≡ cell_at said s
relayed-faulty round said relay s bad = ap (λ b. cond b (cell_at said s) (copy_at round relay s)) bad

-- and of a fault-free one
pub relayed-fine : (round : FirstRound) (said : List Cell) (relay s : ℕ) → is_this round.faulty relay ≡ false → relayed_cell round said relay s ≡ copy_at round relay s
relayed-fine round said relay s good = ap (λ b. cond b (cell_at said s) (copy_at round relay s)) good

-- ---- the rounds of patterns

-- the cell of each other sender
pattern_by : (bad : Bool) (t : State) (input : Input) (carried : Carried) (me s : ℕ) → Among t input carried → me < t.table.n → s < t.table.n → s ≢ me → is_this input.faulty s ≡ bad
    → cell_at (carried A1 s me) 0 ≡ copy_at (patterns_in t input) me s
pattern_by true t input carried me s a l m away e =
    a.carries.patterns s me m l away e ∙ sym (copy-faulty (patterns_in t input) me s e (λ f. away (sym f)))
pattern_by false t input carried me s a l m away e =
    ap (λ cells. cell_at cells 0) (a.carries.honest A1 s me m l away e) ∙ pattern_mine t input s m ∙ sym (copy-fine (patterns_in t input) me s e)

-- as it is heard
pattern_heard : (t : State) (input : Input) (carried : Carried) (me s : ℕ) → Among t input carried → me < t.table.n → s < t.table.n → s ≢ me
    → cell_at (heard_of carried t.table.n me).patterns s ≡ copy_at (patterns_in t input) me s
pattern_heard t input carried me s a l m away =
    at_place t.table.n (λ sender. cell_at (carried A1 sender me) 0) s None m ∙ pattern_by (is_this input.faulty s) t input carried me s a l m away refl

-- what each sends in A2 are its copies
echo_patterns : (t : State) (input : Input) (carried : Carried) (me : ℕ) → Among t input carried → me < t.table.n
    → cells_made (part_of t me) (heard_of carried t.table.n me) A2 ≡ each_below t.table.n (copy_at (patterns_in t input) me)
echo_patterns t input carried me a l =
    held-copies t.table.n (patterns_in t input) me (own_pattern (part_of t me)) (heard_of carried t.table.n me).patterns
    (length-map-range_with_len (λ sender. cell_at (carried A1 sender me) 0) 0 t.table.n)
    (λ s m away. pattern_heard t input carried me s a l m away) (pattern_mine t input me l)

-- the cells of each other relay
relay_pattern_by : (bad : Bool) (t : State) (input : Input) (carried : Carried) (me k s : ℕ) → Among t input carried → me < t.table.n → k < t.table.n → k ≢ me → s < t.table.n → is_this input.faulty k ≡ bad
    → cell_at (carried A2 k me) s ≡ relayed_cell (patterns_in t input) (said_to carried input.faulty me).patterns k s
relay_pattern_by true t input carried me k s a l m away n e =
    ap (λ cells. cell_at cells s) (said_patterns input.faulty carried k me e) ∙ sym (relayed-faulty (patterns_in t input) (said_to carried input.faulty me).patterns k s e)
relay_pattern_by false t input carried me k s a l m away n e =
    ap (λ cells. cell_at cells s) (a.carries.honest A2 k me m l away e ∙ echo_patterns t input carried k a m)
    ∙ at_place t.table.n (copy_at (patterns_in t input) k) s None n
    ∙ sym (relayed-fine (patterns_in t input) (said_to carried input.faulty me).patterns k s e)

-- which are as many as there are elements
count_pattern_by : (bad : Bool) (t : State) (input : Input) (carried : Carried) (me k : ℕ) → Among t input carried → me < t.table.n → k < t.table.n → k ≢ me → is_this input.faulty k ≡ bad → length (carried A2 k me) ≡ t.table.n
count_pattern_by true t input carried me k a l m away e = a.carries.count A2 k me m l e
count_pattern_by false t input carried me k a l m away e =
    ap length (a.carries.honest A2 k me m l away e ∙ echo_patterns t input carried k a m) ∙ length-map-range_with_len (copy_at (patterns_in t input) k) 0 t.table.n

-- so each takes its part of the rounds of patterns
takes_patterns : (t : State) (input : Input) (carried : Carried) (me : ℕ) → Among t input carried → me < t.table.n
    → TakesRound t.table.n (patterns_in t input) (said_to carried input.faulty me).patterns (λ s. true) me (heard_of carried t.table.n me).patterns (heard_of carried t.table.n me).relayed_patterns
takes_patterns t input carried me a l =
    let relayed = λ (k : ℕ) (m : k < t.table.n). at_place t.table.n (λ relay. carried A2 relay me) k [] m in
    record {
      count = length-map-range_with_len (λ sender. cell_at (carried A1 sender me) 0) 0 t.table.n;
      copy = λ s m away. pattern_heard t input carried me s a l m away;
      cells = λ k m away. ap length (relayed k m) ∙ count_pattern_by (is_this input.faulty k) t input carried me k a l m away refl;
      relay = λ k s m away n c. ap (λ cells. cell_at cells s) (relayed k m) ∙ relay_pattern_by (is_this input.faulty k) t input carried me k s a l m away n refl;
    }

-- ---- the rounds of packets

-- an element that hears these packets, and the rest as it comes
abbrev hears : Carried → ℕ → ℕ → List Cell → List (List Cell) → Heard
hears carried n me packets relayed = record {
  patterns = (heard_of carried n me).patterns;
  relayed_patterns = (heard_of carried n me).relayed_patterns;
  packets = packets;
  relayed_packets = relayed;
}

-- what it would hear in B2
abbrev ideal_relayed : State → Input → Carried → ℕ → List (List Cell)
ideal_relayed t input carried me = each_below t.table.n (λ k. each_below t.table.n (relayed_cell (packets_in t input) (said_to carried input.faulty me).packets k))

-- that is its part of the rounds of packets
ideal_takes : (t : State) (input : Input) (carried : Carried) (me : ℕ) (packets : List Cell) → length packets ≡ t.table.n
    → ((s : ℕ) → s < t.table.n → s ≢ me → cell_at packets s ≡ copy_at (packets_in t input) me s)
    → TakesRound t.table.n (packets_in t input) (said_to carried input.faulty me).packets (is_relayed (decision_in t input)) me packets (ideal_relayed t input carried me)
ideal_takes t input carried me packets long copy =
    let n = t.table.n in
    let cells = λ (k : ℕ). relayed_cell (packets_in t input) (said_to carried input.faulty me).packets k in
    let row = λ (k : ℕ) (m : k < n). at_place n (λ j. each_below n (cells j)) k [] m in
    record {
      count = long;
      copy = copy;
      cells = λ k m away. ap length (row k m) ∙ length-map-range_with_len (cells k) 0 n;
      relay = λ k s m away l c. ap (λ xs. cell_at xs s) (row k m) ∙ at_place n (cells k) s None l;
    }

-- given the patterns, and packets as they should be
given_packets : (t : State) (input : Input) (carried : Carried) (me : ℕ) (packets : List Cell) → Among t input carried → me < t.table.n → length packets ≡ t.table.n
    → ((s : ℕ) → s < t.table.n → s ≢ me → cell_at packets s ≡ copy_at (packets_in t input) me s)
    → Given t input (said_to carried input.faulty me) me (hears carried t.table.n me packets (ideal_relayed t input carried me))
given_packets t input carried me packets a l long copy = record {
  sound = a.sound;
  is = a.is;
  cells = said_cells input.faulty carried me a.carries.cells;
  there = l;
  patterns = takes_patterns t input carried me a l;
  packets = ideal_takes t input carried me packets long copy;
}

-- what each sends in B1 is its own cell
own_sent : (t : State) (input : Input) (carried : Carried) (me : ℕ) → Among t input carried → me < t.table.n
    → own_packet (part_of t me) (decided_by (part_of t me) (heard_of carried t.table.n me).patterns (heard_of carried t.table.n me).relayed_patterns) ≡ cell_at (packets_in t input).own me
own_sent t input carried me a l =
    let ideal = each_below t.table.n (copy_at (packets_in t input) me) in
    let said = said_to carried input.faulty me in
    packet_mine t input said me (hears carried t.table.n me ideal (ideal_relayed t input carried me))
    (given_packets t input carried me ideal a l (length-map-range_with_len (copy_at (packets_in t input) me) 0 t.table.n) (λ s m away. at_place t.table.n (copy_at (packets_in t input) me) s None m))

-- the cell of each other sender
packet_by : (bad : Bool) (t : State) (input : Input) (carried : Carried) (me s : ℕ) → Among t input carried → me < t.table.n → s < t.table.n → s ≢ me → is_this input.faulty s ≡ bad
    → cell_at (carried B1 s me) 0 ≡ copy_at (packets_in t input) me s
packet_by true t input carried me s a l m away e =
    a.carries.packets s me m l away e ∙ sym (copy-faulty (packets_in t input) me s e (λ f. away (sym f)))
packet_by false t input carried me s a l m away e =
    ap (λ cells. cell_at cells 0) (a.carries.honest B1 s me m l away e) ∙ own_sent t input carried s a m ∙ sym (copy-fine (packets_in t input) me s e)

-- as it is heard
packet_heard : (t : State) (input : Input) (carried : Carried) (me s : ℕ) → Among t input carried → me < t.table.n → s < t.table.n → s ≢ me
    → cell_at (heard_of carried t.table.n me).packets s ≡ copy_at (packets_in t input) me s
packet_heard t input carried me s a l m away =
    at_place t.table.n (λ sender. cell_at (carried B1 sender me) 0) s None m ∙ packet_by (is_this input.faulty s) t input carried me s a l m away refl

-- what each sends in B2 are its copies of those that are relayed
abbrev relayed_in : State → Input → ℕ → ℕ → Cell
relayed_in t input me s = cond (is_relayed (decision_in t input) s) (copy_at (packets_in t input) me s) None

-- as the run says
echo_packets : (t : State) (input : Input) (carried : Carried) (me : ℕ) → Among t input carried → me < t.table.n
    → cells_made (part_of t me) (heard_of carried t.table.n me) B2 ≡ each_below t.table.n (relayed_in t input me)
echo_packets t input carried me a l =
    let packets = (heard_of carried t.table.n me).packets in
    let said = said_to carried input.faulty me in
    let heard = hears carried t.table.n me packets (ideal_relayed t input carried me) in
    let g = given_packets t input carried me packets a l (length-map-range_with_len (λ sender. cell_at (carried B1 sender me) 0) 0 t.table.n) (λ s m away. packet_heard t input carried me s a l m away) in
    let settles = packets_settled t input said me heard g in
    λ i. each_below t.table.n (λ s. cond (is_relayed (decision_made t input said me heard g i) s) (settles.copy s i) None)

-- the cells of each other relay
relay_packet_by : (bad : Bool) (t : State) (input : Input) (carried : Carried) (me k s : ℕ) → Among t input carried → me < t.table.n → k < t.table.n → k ≢ me → s < t.table.n → is_this input.faulty k ≡ bad
    → is_relayed (decision_in t input) s ≡ true → cell_at (carried B2 k me) s ≡ relayed_cell (packets_in t input) (said_to carried input.faulty me).packets k s
relay_packet_by true t input carried me k s a l m away n e c =
    ap (λ cells. cell_at cells s) (said_packets input.faulty carried k me e) ∙ sym (relayed-faulty (packets_in t input) (said_to carried input.faulty me).packets k s e)
relay_packet_by false t input carried me k s a l m away n e c =
    ap (λ cells. cell_at cells s) (a.carries.honest B2 k me m l away e ∙ echo_packets t input carried k a m)
    ∙ at_place t.table.n (relayed_in t input k) s None n
    ∙ ap (λ b. cond b (copy_at (packets_in t input) k s) None) c
    ∙ sym (relayed-fine (packets_in t input) (said_to carried input.faulty me).packets k s e)

-- which are as many as there are elements
count_packet_by : (bad : Bool) (t : State) (input : Input) (carried : Carried) (me k : ℕ) → Among t input carried → me < t.table.n → k < t.table.n → k ≢ me → is_this input.faulty k ≡ bad → length (carried B2 k me) ≡ t.table.n
count_packet_by true t input carried me k a l m away e = a.carries.count B2 k me m l e
count_packet_by false t input carried me k a l m away e =
    ap length (a.carries.honest B2 k me m l away e ∙ echo_packets t input carried k a m) ∙ length-map-range_with_len (relayed_in t input k) 0 t.table.n

-- so each takes its part of the rounds of packets
takes_packets : (t : State) (input : Input) (carried : Carried) (me : ℕ) → Among t input carried → me < t.table.n
    → TakesRound t.table.n (packets_in t input) (said_to carried input.faulty me).packets (is_relayed (decision_in t input)) me (heard_of carried t.table.n me).packets (heard_of carried t.table.n me).relayed_packets
takes_packets t input carried me a l =
    let relayed = λ (k : ℕ) (m : k < t.table.n). at_place t.table.n (λ relay. carried B2 relay me) k [] m in
    record {
      count = length-map-range_with_len (λ sender. cell_at (carried B1 sender me) 0) 0 t.table.n;
      copy = λ s m away. packet_heard t input carried me s a l m away;
      cells = λ k m away. ap length (relayed k m) ∙ count_packet_by (is_this input.faulty k) t input carried me k a l m away refl;
      relay = λ k s m away n c. ap (λ cells. cell_at cells s) (relayed k m) ∙ relay_packet_by (is_this input.faulty k) t input carried me k s a l m away n refl c;
    }

-- Each element holds its part, over what the others make.
pub together : ElementsTogether
unfolding step shown_by
together s input carried me sound is carries l =
    let t = before_rounds s input in
    let a : Among t input carried = record { sound = before_sound s input sound is.acts; is = is; carries = carries } in
    each_alone s input (said_to carried input.faulty me) me (heard_of carried s.table.n me) sound is (said_cells input.faulty carried me carries.cells) l
    (record { patterns = takes_patterns t input carried me a l; packets = takes_packets t input carried me a l })
