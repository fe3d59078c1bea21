-- In each pair of rounds an element alone holds the copies, the agreed values, the entry and the update of the run.
use Rattle.std.proofs.Common.{◌≡◌, ℕ, ◌<◌, Bool, true, false, cond, List, length, refl, ap, ◌∙◌}
use Rattle.std.specs.Prelude.{Option, Some, None, not, ◌&&◌, ◌==◌, slice_set}
use Rattle.std.proofs.lemmas.Bool.{eqb-true, and_from, not_from_false}
use Rattle.std.proofs.lemmas.List.FromFn.{length-map-range_with_len}
use Rattle.ftpp_base.specs.Lists.{each_below, cell_at}
use Rattle.packet_format.specs.declared.Descriptor.{Descriptor}
use Rattle.bit_vote.specs.Vote.{Cell, IsCell}
use Rattle.bit_vote.specs.Agreed.{FirstRound, agreed, copy_at}
use Rattle.two_round.specs.Echoes.{Echoes, result_for}
use Rattle.two_round.proofs.Others.{IsSize}
use Rattle.two_round.proofs.Held.{IsRound, Holds, copies-at, held-copies, result-held}
use Rattle.local_pattern.specs.Pattern.{read_column}
use Rattle.config_table.specs.declared.groups.Group.{Group}
use Rattle.config_table.specs.declared.decisions.GroupFlags.{GroupFlags}
use Rattle.config_table.specs.declared.decisions.Kind.{Kind}
use Rattle.config_table.specs.declared.decisions.Kind.TheVariants.{Voted, Source, Every}
use Rattle.config_table.specs.declared.decisions.Decision.{Decision}
use Rattle.config_table.specs.declared.decisions.Decision.TheVariants.{Idle, Discard, Exchange}
use Rattle.config_table.specs.declared.decisions.Service.{Service}
use Rattle.config_table.specs.Table.{TableValue}
use Rattle.scoreboard.specs.Board.{Scoreboard}
use Rattle.scoreboard.specs.Choice.{Request, kind_of, discard_reason, done_with, decided, oldest, eligible_requests, decision_of}
use Rattle.data_exchange.specs.Entries.{contributes, members_vote, entry_by, entry_at, is_voted, packet_in}
use Rattle.element_core.specs.Cycle.{agreed_pattern, entry_in, update_packet}
use Rattle.element_core.specs.Sent.{is_relayed}
use Rattle.element_core.specs.Element.{echoes_of, settled, own_entry, own_update}
use Rattle.element_core.specs.Alone.{TakesRound}
use Rattle.data_exchange.proofs.EntryLaws.{cond_same, members_vote-same, entry_by-same}

-- ---- what it takes is what it holds

-- its own cell in its own place
pub taken-copies : (wide n : ℕ) (round : FirstRound) (said : List Cell) (counts : ℕ → Bool) (me : ℕ) (own : Cell) (heard : List Cell) (relayed : List (List Cell))
    → TakesRound n round said counts me heard relayed → own ≡ cell_at round.own me
    → slice_set heard me own ≡ each_below n (copy_at round me)
taken-copies wide n round said counts me own heard relayed takes mine = held-copies n round me own heard takes.count takes.copy mine

-- the copies, and what the other relays said
pub taken-holds : (wide n : ℕ) (round : FirstRound) (said : List Cell) (counts : ℕ → Bool) (me : ℕ) (own : Cell) (heard : List Cell) (relayed : List (List Cell))
    → IsRound wide n round → me < n → TakesRound n round said counts me heard relayed → own ≡ cell_at round.own me
    → Holds n round said counts (echoes_of me own heard relayed)
taken-holds wide n round said counts me own heard relayed is l takes mine =
    let copies = taken-copies wide n round said counts me own heard relayed takes mine in
    record {
      me = l;
      count = ap length copies ∙ length-map-range_with_len (copy_at round me) 0 n;
      copy = λ s. ap (λ cells. cell_at cells s) copies ∙ copies-at wide n round me s is;
      cells = takes.cells;
      relay = takes.relay;
    }

-- ---- the pattern

-- its results, read as columns, are the agreed pattern
pub settled-agreed : (table : TableValue) (round : FirstRound) (said : List Cell) (x : Echoes)
    → IsSize table.n → IsRound 32 table.n round → ((s : ℕ) → IsCell 32 (cell_at said s)) → Holds table.n round said (λ s. true) x
    → settled table.n x ≡ agreed_pattern table round
settled-agreed table round said x size is cells holds =
    λ i. each_below table.n (λ s. read_column (result-held 32 table.n round said (λ k. true) x s size is holds (cells s) refl i))

-- ---- the entry

-- a sender that contributes in two rounds is relayed
relayed_there : (kind : Kind) (service : Service) (ne : ℕ) → is_voted kind ≡ false → contributes service ne ≡ true → (not (is_voted kind) && contributes service ne) ≡ true
relayed_there kind service ne two counts = and_from (not (is_voted kind)) (contributes service ne) (not_from_false (is_voted kind) two) counts

-- An element's copies are those of the round, and its results for the senders that are relayed are the agreed values.
pub record Settles (round : FirstRound) (decision : Decision) (x : Echoes) : Type 0 where
  pub copy : (ne : ℕ) → cell_at x.copies ne ≡ copy_at round x.me ne
  pub result : (ne : ℕ) → is_relayed decision ne ≡ true → result_for x ne ≡ agreed round ne

-- that is what it has of the rounds of packets
pub settles-held : (n : ℕ) (round : FirstRound) (said : List Cell) (decision : Decision) (x : Echoes)
    → IsSize n → IsRound 64 n round → ((s : ℕ) → IsCell 64 (cell_at said s)) → Holds n round said (is_relayed decision) x
    → Settles round decision x
settles-held n round said decision x size is cells holds = record {
  copy = holds.copy;
  result = λ ne counts. result-held 64 n round said (is_relayed decision) x ne size is holds (cells ne) counts;
}

-- the entry over its own copies and results, as cells
pub entry-cell : (table : TableValue) (service : Service) (round : FirstRound) (x : Echoes) → Settles round (Exchange service) x
    → entry_by service.kind table service (cell_at x.copies) (result_for x) ≡ entry_at table service round x.me
unfolding entry_at
entry-cell table service round x settles =
    entry_by-same service.kind table service (cell_at x.copies) (copy_at round x.me) (result_for x) (agreed round) settles.copy
    (λ two ne counts. settles.result ne (relayed_there service.kind service ne two counts))

-- the entry
pub own_entry-in : (table : TableValue) (decision : Decision) (round : FirstRound) (x : Echoes) → Settles round decision x
    → own_entry table decision x ≡ entry_in table decision round x.me
own_entry-in table Idle round x settles = refl
own_entry-in table (Discard vid desc number admitted waited) round x settles = refl
own_entry-in table (Exchange service) round x settles = ap packet_in (entry-cell table service round x settles)

-- ---- the update

-- an exchange of class 3 takes two rounds
abbrev pub FitsKind : Decision → Type 0
FitsKind Idle = Unit {0}
FitsKind (Discard vid desc number admitted waited) = Unit {0}
FitsKind (Exchange service) = (service.desc.class == 3) ≡ true → is_voted service.kind ≡ false

-- by the class
class_three : (class : ℕ) (three : Bool) (source : ℕ) → class ≡ 3 → is_voted (cond (class == 1 && three) Voted (cond (class == 2) (Source source) Every)) ≡ false
class_three class three source e = ap (λ c. is_voted (cond (c == 1 && three) Voted (cond (c == 2) (Source source) Every))) e

-- a request of class 3 is of two rounds
kind_fits : (g : Group) (desc : Descriptor) → (desc.class == 3) ≡ true → is_voted (kind_of g desc) ≡ false
unfolding kind_of
kind_fits g desc e = class_three desc.class _ _ (eqb-true desc.class 3 e)

-- by whether it is discarded
done_fits : (now : ℕ) (r : Request) (reason : Option ℕ) → FitsKind (done_with now r reason)
done_fits now r (Some number) = tt
done_fits now r None = kind_fits r.sender r.desc

-- by whether there is a request
decided_fits : (table : TableValue) (now : ℕ) (o : Option Request) → FitsKind (decided table now o)
decided_fits table now None = tt
decided_fits table now (Some r) = done_fits now r (discard_reason table r)

-- so each decision fits
pub decision_fits : (table : TableValue) (flags : List GroupFlags) (now : ℕ) (board : Scoreboard) → FitsKind (decision_of table flags now board)
unfolding decision_of
decision_fits table flags now board = decided_fits table now (oldest (eligible_requests table flags board now))

-- the packet of an update
pub own_update-packet : (table : TableValue) (decision : Decision) (round : FirstRound) (x : Echoes) → FitsKind decision → Settles round decision x
    → own_update table decision x ≡ update_packet table decision round
own_update-packet table Idle round x fits settles = refl
own_update-packet table (Discard vid desc number admitted waited) round x fits settles = refl
own_update-packet table (Exchange service) round x fits settles =
    cond_same (service.desc.class == 3) (Some (packet_in (members_vote table service (result_for x)))) (Some (packet_in (members_vote table service (agreed round)))) None
    (λ e. ap (λ cell. Some (packet_in cell)) (members_vote-same table service (result_for x) (agreed round)
    (λ ne counts. settles.result ne (relayed_there service.kind service ne (fits e) counts))))
