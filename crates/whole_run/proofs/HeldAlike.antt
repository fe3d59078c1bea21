-- An exchange of a request that is held alike: it is the voted one, the fault-free members are admitted, and each entry is the common packet.
use Rattle.std.proofs.Common.{◌≡◌, ℕ, suc, true, false, List, [], ◌∷◌, refl, ap, sym, ◌∙◌, subst, Contains, IfSome}
use Rattle.std.specs.Prelude.{Option, Some, None}
use Rattle.ftpp_base.specs.Lists.{cell_at}
use Rattle.ftpp_base.specs.Sets.{has}
use Rattle.ftpp_base.specs.declared.element.Proc.{Proc}
use Rattle.ftpp_base.proofs.Among.{one_of}
use Rattle.packet_format.specs.Packets.{same_descriptor}
use Rattle.bit_vote.specs.Vote.{Cell, IsCell}
use Rattle.bit_vote.specs.Agreed.{agreed, copy_at}
use Rattle.bit_vote.proofs.Majority.{AreCells}
use Rattle.config_table.specs.declared.groups.Group.{Group}
use Rattle.config_table.specs.declared.decisions.Decision.{Decision}
use Rattle.config_table.specs.declared.decisions.Decision.TheVariants.{Exchange}
use Rattle.config_table.specs.declared.decisions.Service.{Service}
use Rattle.config_table.specs.Groups.{live_members}
use Rattle.config_table.specs.Table.{group_named}
use Rattle.config_table.proofs.NamedGroups.{AreApart-named, InRange, InRange-named}
use Rattle.flag_vote.specs.Flags.{holds, voted_descriptor, flags_of}
use Rattle.processor_buffers.specs.Queues.{Posted}
use Rattle.data_exchange.specs.Entries.{entry_by, entry_at, fault_free_members, held_alike}
use Rattle.element_core.specs.Processors.{head_at}
use Rattle.element_core.specs.Cycle.{State, Input, packet_round}
use Rattle.element_core.specs.Alone.{IsSound, IsInput}
use Rattle.element_core.specs.Claims.{is_source}
use Rattle.element_core.proofs.Accepted.{HasRow}
use Rattle.data_exchange.proofs.AlikeEntry.{IsAlike, entry-alike}
use Rattle.element_core.proofs.AloneLaws.{pattern_in, decision_in, packets_in, size_of}
use Rattle.element_core.proofs.DecisionLaws.{Serves, IfExchange, decision_serves}
use Rattle.data_exchange.proofs.CommonHead.{common-all, alike_parts}
use Rattle.element_core.proofs.AdmittedMembers.{small_by}
use Rattle.whole_run.proofs.Admitted.{holds_head, admitted_holds, common-posted}
use Rattle.data_exchange.proofs.FaultFree.{fault_free-live}
use Rattle.whole_run.proofs.Heads.{voted-holder}
use Rattle.element_core.proofs.RoundShapes.{IsHead, head_posted}

-- What is given of a request that is taken and held alike.
pub record Alike (t : State) (input : Input) (service : Service) (g : Group) (head : Posted) : Type 0 where
  pub sound : IsSound t
  pub serves : Serves t.table (pattern_in t input) service
  pub named : group_named t.table service.vid ≡ Some g
  pub alike : held_alike input.faulty (head_at t.queues) g ≡ Some head

-- so it is of an exchange
pub alike-decided : (t : State) (input : Input) (service : Service) (g : Group) (head : Posted) → IsSound t → decision_in t input ≡ Exchange service
    → group_named t.table service.vid ≡ Some g → held_alike input.faulty (head_at t.queues) g ≡ Some head → Alike t input service g head
alike-decided t input service g head sound decided named alike = record {
  sound = sound;
  serves = subst (IfExchange (Serves t.table (pattern_in t input))) decided (decision_serves t.table (pattern_in t input) t.cycle t.scoreboard);
  named = named;
  alike = alike;
}

-- ---- the request that is held alike is the voted one

-- its request is the voted one
voted_of : (t : State) (input : Input) (service : Service) (g : Group) (head : Posted) → Alike t input service g head → voted_descriptor (pattern_in t input) g ≡ Some service.desc
voted_of t input service g head a =
    let one = a.serves.named in let two = a.named in
    let same : a.serves.group ≡ g = cc in
    subst (λ h. voted_descriptor (pattern_in t input) h ≡ Some service.desc) same a.serves.voted

-- its admitted members hold it
admitted_of : (t : State) (input : Input) (service : Service) (g : Group) (head : Posted) → Alike t input service g head → service.admitted ≡ (flags_of (pattern_in t input) g).holds
admitted_of t input service g head a =
    let one = a.serves.named in let two = a.named in
    let same : a.serves.group ≡ g = cc in
    subst (λ h. service.admitted ≡ (flags_of (pattern_in t input) h).holds) same a.serves.admitted

-- each fault-free live member has the common head
pub head-common : (t : State) (input : Input) (service : Service) (g : Group) (head : Posted) → Alike t input service g head
    → (p : Proc) → Contains (fault_free_members input.faulty g) p → head_at t.queues p ≡ Some head
head-common t input service g head a p c =
    let procs = fault_free_members input.faulty g in
    one_of (λ q. head_at t.queues q ≡ Some head) procs p (common-all (head_at t.queues) head procs (alike_parts input.faulty (head_at t.queues) g head a.alike).1) c

-- a fault-free live member holds a request where the common head carries it
holds_common : (t : State) (input : Input) (service : Service) (g : Group) (head : Posted) → Alike t input service g head
    → (p : Proc) → Contains (fault_free_members input.faulty g) p → holds (pattern_in t input) service.desc p ≡ same_descriptor head.0 service.desc
holds_common t input service g head a p c =
    let live = fault_free-live input.faulty g p c in
    let there = one_of (InRange t.table.n) (live_members g) p (InRange-named t.table service.vid g a.sound.valid a.named) live.0 in
    holds_head t.table t.queues input p head service.desc there live.1 (head-common t input service g head a p c)

-- the fault-free are most, so one of them holds the voted request, and the common head carries that
pub carries-voted : (t : State) (input : Input) (service : Service) (g : Group) (head : Posted) → Alike t input service g head → same_descriptor head.0 service.desc ≡ true
carries-voted t input service g head a =
    let parts = alike_parts input.faulty (head_at t.queues) g head a.alike in
    let holder = voted-holder (pattern_in t input) input.faulty g service.desc (voted_of t input service g head a) parts.0 in
    sym (holds_common t input service g head a holder.0 holder.1) ∙ holder.2

-- so each fault-free live member is admitted
pub admitted-common : (t : State) (input : Input) (service : Service) (g : Group) (head : Posted) → Alike t input service g head
    → (p : Proc) → Contains (fault_free_members input.faulty g) p → has service.admitted p.ne ≡ true
admitted-common t input service g head a p c =
    let live = fault_free-live input.faulty g p c in
    let Holder : Proc → Type 0 = λ q. has service.admitted q.ne ≡ holds (pattern_in t input) service.desc q in
    one_of Holder (live_members g) p
    (admitted_holds t.table (pattern_in t input) service g a.sound.valid (small_by t.table.n (size_of t a.sound)) a.named (voted_of t input service g head a) (admitted_of t input service g head a))
    live.0
    ∙ holds_common t input service g head a p c ∙ carries-voted t input service g head a

-- ---- the entry

-- a head, if there is one, has 64 bytes
head_row : (o : Option Posted) → IsHead o → IfSome o HasRow
head_row None is = tt
head_row (Some posted) is = is.row

-- cells, one after another
cells_each : (cells : List Cell) → ((s : ℕ) → IsCell 64 (cell_at cells s)) → AreCells 64 cells
cells_each [] h = tt
cells_each (cell ∷ cells) h = (h 0, cells_each cells (λ s. h (suc s)))

-- what is assumed of an exchange
is_alike : (t : State) (input : Input) (service : Service) (g : Group) (head : Posted) → IsInput t.table.n input → Alike t input service g head
    → IsAlike t.table service (head_at t.queues) input.faulty g head input.packets
is_alike t input service g head is a =
    let parts = alike_parts input.faulty (head_at t.queues) g head a.alike in
    let waiting = λ (p : Proc). head_posted t.queues p a.sound.waiting in
    let posted = common-posted (head_at t.queues) head (fault_free_members input.faulty g) waiting parts.1 in
    record {
      named = a.named;
      apart = AreApart-named t.table service.vid g a.sound.valid a.named;
      range = λ p c. (one_of (InRange t.table.n) (live_members g) p (InRange-named t.table service.vid g a.sound.valid a.named) c).ne;
      rows = λ p c. head_row (head_at t.queues p) (waiting p);
      majority = parts.0;
      head = head-common t input service g head a;
      carried = carries-voted t input service g head a;
      admitted = admitted-common t input service g head a;
      row = posted.row;
      cells = cells_each input.packets is.packet_cells;
    }

-- each entry that is not of one source is the common packet
pub entry_alike : (t : State) (input : Input) (service : Service) (g : Group) (head : Posted) (me : ℕ) → IsSound t → IsInput t.table.n input
    → decision_in t input ≡ Exchange service → is_source service.kind ≡ false → group_named t.table service.vid ≡ Some g → held_alike input.faulty (head_at t.queues) g ≡ Some head
    → entry_at t.table service (packets_in t input) me ≡ Some head.1.bytes
unfolding entry_at
entry_alike t input service g head me sound is decided many named alike =
    let a = alike-decided t input service g head sound decided named alike in
    let Entry : Decision → Type 0 = λ d.
    entry_by service.kind t.table service (copy_at (packet_round t.table t.queues d input) me) (agreed (packet_round t.table t.queues d input)) ≡ Some head.1.bytes in
    subst Entry (sym decided)
    (entry-alike t.table service (head_at t.queues) input.faulty g head input.packets me service.kind (is_alike t input service g head is a) refl
    (λ s k. let one : is_source service.kind ≡ true = ap is_source k in let never : true ≡ false = sym one ∙ many in cc))
