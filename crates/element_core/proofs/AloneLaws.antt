-- Each element alone holds its part of the one run.
use Rattle.std.proofs.Common.{◌≡◌, ℕ, ◌<◌, true, List, refl, ap, sym, ◌∙◌}
use Rattle.std.specs.Prelude.{Option, None}
use Rattle.ftpp_base.specs.Lists.{each_below, cell_at}
use Rattle.ftpp_base.specs.declared.element.Proc.{Proc}
use Rattle.packet_format.specs.declared.Packet.{Packet}
use Rattle.bit_vote.specs.Agreed.{FirstRound, agreed, copy_at}
use Rattle.two_round.specs.Echoes.{Echoes, result_for}
use Rattle.two_round.proofs.Others.{IsSize}
use Rattle.two_round.proofs.Agreement.{at_place}
use Rattle.two_round.proofs.Held.{IsRound, Holds, result-held}
use Rattle.config_table.specs.declared.decisions.Decision.{Decision}
use Rattle.flag_vote.specs.Flags.{Pattern, voted_flags}
use Rattle.scoreboard.specs.Board.{marked}
use Rattle.scoreboard.specs.Choice.{scoreboard_decision}
use Rattle.processor_buffers.specs.Queues.{Queues}
use Rattle.processor_buffers.specs.declared.Handed.{Handed}
use Rattle.element_core.specs.Processors.{ports_of}
use Rattle.element_core.specs.Cycle.{State, Input, pattern_sent, pattern_round, agreed_pattern, row_sent, packet_round, entry_in, after_service, after_deliveries, handed_at, update_packet}
use Rattle.element_core.specs.Sent.{is_relayed}
use Rattle.element_core.specs.Syndromes.{Relays}
use Rattle.element_core.specs.Element.{Heard, echoes_of, settled, own_packet, own_entry, own_service, own_delivery, own_handed, own_update}
use Rattle.element_core.specs.Noted.{own_pattern, decided_by}
use Rattle.element_core.specs.Alone.{IsSound, IsInput, AreRelays, TakesRound, part_of}
use Rattle.element_core.proofs.RoundShapes.{pattern_shape, packet_shape}
use Rattle.element_core.proofs.OwnLaws.{own_packet-row, own_service-ports, own_delivery-ports, own_handed-at}
use Rattle.element_core.proofs.AloneRounds.{taken-copies, taken-holds, settled-agreed, Settles, settles-held, own_entry-in, decision_fits, own_update-packet}
use Rattle.config_table.proofs.ValidTable.{size-valid}

-- ---- what the rounds after a state give

-- the first round of patterns
abbrev pub patterns_in : State → Input → FirstRound
patterns_in t input = pattern_round t.table t.queues input

-- the agreed pattern
abbrev pub pattern_in : State → Input → Pattern
pattern_in t input = agreed_pattern t.table (patterns_in t input)

-- the decision
abbrev pub decision_in : State → Input → Decision
decision_in t input = scoreboard_decision t.table t.cycle (voted_flags t.table (pattern_in t input)) t.scoreboard

-- the first round of packets
abbrev pub packets_in : State → Input → FirstRound
packets_in t input = packet_round t.table t.queues (decision_in t input) input

-- the entries
abbrev pub entries_in : State → Input → List (Option Packet)
entries_in t input = each_below t.table.n (entry_in t.table (decision_in t input) (packets_in t input))

-- the deliveries
abbrev pub handed_in : State → Input → List (Option (Proc × Handed))
handed_in t input = each_below t.table.n (handed_at t.table (after_service t.table (decision_in t input) t.queues) (decision_in t input) (entries_in t input))

-- What is given for one element in the rounds of one cycle.
pub record Given (t : State) (input : Input) (said : Relays) (me : ℕ) (heard : Heard) : Type 0 where
  pub sound : IsSound t
  pub is : IsInput t.table.n input
  pub cells : AreRelays said
  pub there : me < t.table.n
  pub patterns : TakesRound t.table.n (patterns_in t input) said.patterns (λ s. true) me heard.patterns heard.relayed_patterns
  pub packets : TakesRound t.table.n (packets_in t input) said.packets (is_relayed (decision_in t input)) me heard.packets heard.relayed_packets

-- ---- the rounds of patterns

-- its echoes of the patterns
abbrev pub own_patterns : State → ℕ → Heard → Echoes
own_patterns t me heard = echoes_of me (own_pattern (part_of t me)) heard.patterns heard.relayed_patterns

-- there are four or five elements
pub size_of : (t : State) → IsSound t → IsSize t.table.n
size_of t sound = size-valid t.table sound.valid

-- its own cell is that of the run
pub pattern_mine : (t : State) (input : Input) (me : ℕ) → me < t.table.n → own_pattern (part_of t me) ≡ cell_at (patterns_in t input).own me
pattern_mine t input me l = sym (at_place t.table.n (pattern_sent t.table t.queues) me None l)

-- its copies are those of the run
pub patterns_copied : (t : State) (input : Input) (said : Relays) (me : ℕ) (heard : Heard) → Given t input said me heard
    → (own_patterns t me heard).copies ≡ each_below t.table.n (copy_at (patterns_in t input) me)
patterns_copied t input said me heard g =
    taken-copies 32 t.table.n (patterns_in t input) said.patterns (λ s. true) me (own_pattern (part_of t me)) heard.patterns heard.relayed_patterns g.patterns (pattern_mine t input me g.there)

-- the round is well formed
pub patterns_shaped : (t : State) (input : Input) (said : Relays) (me : ℕ) (heard : Heard) → Given t input said me heard → IsRound 32 t.table.n (patterns_in t input)
patterns_shaped t input said me heard g = pattern_shape t.table t.queues input g.sound.waiting g.is

-- it holds its part of the round
pub patterns_held : (t : State) (input : Input) (said : Relays) (me : ℕ) (heard : Heard) → Given t input said me heard
    → Holds t.table.n (patterns_in t input) said.patterns (λ s. true) (own_patterns t me heard)
patterns_held t input said me heard g =
    taken-holds 32 t.table.n (patterns_in t input) said.patterns (λ s. true) me (own_pattern (part_of t me)) heard.patterns heard.relayed_patterns
    (patterns_shaped t input said me heard g) g.there g.patterns (pattern_mine t input me g.there)

-- its results are the agreed pattern
pub pattern_made : (t : State) (input : Input) (said : Relays) (me : ℕ) (heard : Heard) → Given t input said me heard
    → settled t.table.n (own_patterns t me heard) ≡ pattern_in t input
pattern_made t input said me heard g =
    settled-agreed t.table (patterns_in t input) said.patterns (own_patterns t me heard) (size_of t g.sound)
    (patterns_shaped t input said me heard g) g.cells.patterns (patterns_held t input said me heard g)

-- each of its results is the agreed value
pub pattern_result : (t : State) (input : Input) (said : Relays) (me : ℕ) (heard : Heard) → Given t input said me heard → (k : ℕ)
    → result_for (own_patterns t me heard) k ≡ agreed (patterns_in t input) k
pattern_result t input said me heard g k =
    result-held 32 t.table.n (patterns_in t input) said.patterns (λ j. true) (own_patterns t me heard) k (size_of t g.sound)
    (patterns_shaped t input said me heard g) (patterns_held t input said me heard g) (g.cells.patterns k) refl

-- ---- the decision, and the rounds of packets

-- its decision
abbrev pub own_decision : State → ℕ → Heard → Decision
own_decision t me heard = decided_by (part_of t me) heard.patterns heard.relayed_patterns

-- is that of the run
pub decision_made : (t : State) (input : Input) (said : Relays) (me : ℕ) (heard : Heard) → Given t input said me heard → own_decision t me heard ≡ decision_in t input
decision_made t input said me heard g =
    ap (λ pattern. scoreboard_decision t.table t.cycle (voted_flags t.table pattern) t.scoreboard) (pattern_made t input said me heard g)

-- its echoes of the packets
abbrev pub own_packets : State → ℕ → Heard → Echoes
own_packets t me heard = echoes_of me (own_packet (part_of t me) (own_decision t me heard)) heard.packets heard.relayed_packets

-- its own cell is that of the run
pub packet_mine : (t : State) (input : Input) (said : Relays) (me : ℕ) (heard : Heard) → Given t input said me heard
    → own_packet (part_of t me) (own_decision t me heard) ≡ cell_at (packets_in t input).own me
packet_mine t input said me heard g =
    ap (own_packet (part_of t me)) (decision_made t input said me heard g)
    ∙ own_packet-row t me (decision_in t input)
    ∙ sym (at_place t.table.n (row_sent t.table t.queues (decision_in t input)) me None g.there)

-- its copies are those of the run
pub packets_copied : (t : State) (input : Input) (said : Relays) (me : ℕ) (heard : Heard) → Given t input said me heard
    → (own_packets t me heard).copies ≡ each_below t.table.n (copy_at (packets_in t input) me)
packets_copied t input said me heard g =
    taken-copies 64 t.table.n (packets_in t input) said.packets (is_relayed (decision_in t input)) me (own_packet (part_of t me) (own_decision t me heard))
    heard.packets heard.relayed_packets g.packets (packet_mine t input said me heard g)

-- the round is well formed
packets_shaped : (t : State) (input : Input) (said : Relays) (me : ℕ) (heard : Heard) → Given t input said me heard → IsRound 64 t.table.n (packets_in t input)
packets_shaped t input said me heard g = packet_shape t.table t.queues (decision_in t input) input g.sound.waiting g.is

-- it holds its part of the round
pub packets_held : (t : State) (input : Input) (said : Relays) (me : ℕ) (heard : Heard) → Given t input said me heard
    → Holds t.table.n (packets_in t input) said.packets (is_relayed (decision_in t input)) (own_packets t me heard)
packets_held t input said me heard g =
    taken-holds 64 t.table.n (packets_in t input) said.packets (is_relayed (decision_in t input)) me (own_packet (part_of t me) (own_decision t me heard))
    heard.packets heard.relayed_packets (packets_shaped t input said me heard g) g.there g.packets (packet_mine t input said me heard g)

-- its results for those relayed are the agreed values
pub packets_settled : (t : State) (input : Input) (said : Relays) (me : ℕ) (heard : Heard) → Given t input said me heard
    → Settles (packets_in t input) (decision_in t input) (own_packets t me heard)
packets_settled t input said me heard g =
    settles-held t.table.n (packets_in t input) said.packets (decision_in t input) (own_packets t me heard) (size_of t g.sound)
    (packets_shaped t input said me heard g) g.cells.packets (packets_held t input said me heard g)

-- ---- the entry, the delivery and the update

-- its entry
abbrev pub entry_own : State → ℕ → Heard → Option Packet
entry_own t me heard = own_entry t.table (own_decision t me heard) (own_packets t me heard)

-- is that of the run
pub entry_made : (t : State) (input : Input) (said : Relays) (me : ℕ) (heard : Heard) → Given t input said me heard
    → entry_own t me heard ≡ cell_at (entries_in t input) me
entry_made t input said me heard g =
    ap (λ d. own_entry t.table d (own_packets t me heard)) (decision_made t input said me heard g)
    ∙ own_entry-in t.table (decision_in t input) (packets_in t input) (own_packets t me heard) (packets_settled t input said me heard g)
    ∙ sym (at_place t.table.n (entry_in t.table (decision_in t input) (packets_in t input)) me None g.there)

-- its ports after heads went
abbrev pub ports_own : State → ℕ → Heard → List Queues
ports_own t me heard = own_service (part_of t me) (own_decision t me heard)

-- are those of the run
pub service_made : (t : State) (input : Input) (said : Relays) (me : ℕ) (heard : Heard) → Given t input said me heard
    → ports_own t me heard ≡ ports_of (after_service t.table (decision_in t input) t.queues) me
service_made t input said me heard g =
    ap (own_service (part_of t me)) (decision_made t input said me heard g) ∙ own_service-ports t me (decision_in t input) g.sound.valid

-- so is its delivery
pub handed_made : (t : State) (input : Input) (said : Relays) (me : ℕ) (heard : Heard) → Given t input said me heard
    → own_handed (part_of t me) (own_decision t me heard) (entry_own t me heard) (ports_own t me heard) ≡ cell_at (handed_in t input) me
handed_made t input said me heard g =
    let served_queues = after_service t.table (decision_in t input) t.queues in
    (λ i. own_handed (part_of t me) (decision_made t input said me heard g i) (entry_made t input said me heard g i) (service_made t input said me heard g i))
    ∙ own_handed-at t me (decision_in t input) (entries_in t input) served_queues
    ∙ sym (at_place t.table.n (handed_at t.table served_queues (decision_in t input) (entries_in t input)) me None g.there)

-- and the packet of an update
pub update_made : (t : State) (input : Input) (said : Relays) (me : ℕ) (heard : Heard) → Given t input said me heard
    → own_update t.table (own_decision t me heard) (own_packets t me heard) ≡ update_packet t.table (decision_in t input) (packets_in t input)
update_made t input said me heard g =
    let flags = voted_flags t.table (pattern_in t input) in
    ap (λ d. own_update t.table d (own_packets t me heard)) (decision_made t input said me heard g)
    ∙ own_update-packet t.table (decision_in t input) (packets_in t input) (own_packets t me heard)
    (decision_fits t.table flags t.cycle (marked t.table flags t.cycle t.scoreboard)) (packets_settled t input said me heard g)

-- and its ports after the delivery
pub ports_made : (t : State) (input : Input) (said : Relays) (me : ℕ) (heard : Heard) → Given t input said me heard
    → own_delivery (part_of t me) (own_decision t me heard) (entry_own t me heard) (ports_own t me heard)
    ≡ ports_of (after_deliveries t.table t.cycle (decision_in t input) (entries_in t input) (after_service t.table (decision_in t input) t.queues)) me
ports_made t input said me heard g =
    (λ i. own_delivery (part_of t me) (decision_made t input said me heard g i) (entry_made t input said me heard g i) (service_made t input said me heard g i))
    ∙ own_delivery-ports t me (decision_in t input) (entries_in t input) (after_service t.table (decision_in t input) t.queues) g.sound.valid
