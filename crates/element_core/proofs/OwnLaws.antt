-- What an element does with its own ports is its part of what the run does with all.
use Rattle.std.proofs.Common.{◌≡◌, ℕ, Bool, true, false, cond, List, [], refl, ap, sym, ◌∙◌}
use Rattle.std.specs.Prelude.{Option, Some, None, option_map, unwrap_or}
use Rattle.std.specs.List.{fold}
use Rattle.ftpp_base.specs.Lists.{change_at, cell_at}
use Rattle.ftpp_base.specs.declared.element.Proc.{Proc}
use Rattle.ftpp_base.specs.declared.sets.Set8.{Set8}
use Rattle.packet_format.specs.declared.Packet.{Packet}
use Rattle.bit_vote.specs.Vote.{Cell}
use Rattle.config_table.specs.declared.decisions.Decision.{Decision}
use Rattle.config_table.specs.declared.decisions.Decision.TheVariants.{Idle, Discard, Exchange}
use Rattle.config_table.specs.declared.decisions.Service.{Service}
use Rattle.config_table.specs.Table.{TableValue, IsValid, in_limit}
use Rattle.processor_buffers.specs.Queues.{Queues, no_queues, head_of, after_pop, handed_by}
use Rattle.processor_buffers.specs.declared.Handed.{Handed}
use Rattle.table_update.specs.declared.Update.{Update}
use Rattle.table_update.specs.declared.Applied.{Applied}
use Rattle.table_update.specs.declared.Applied.TheVariants as applied_variant
use Rattle.table_update.specs.Updates.{applied}
use Rattle.data_exchange.specs.Entries.{contributes, senders, packet_of_head, member_at}
use Rattle.element_core.specs.Processors.{AllQueues, ports_of, port_queues, head_at, with_queues, cleared}
use Rattle.element_core.specs.Cycle.{State, row_sent, admitted_members, is_admitted, after_service, receivers, is_delivered, after_entry, after_handing, after_deliveries, handed_to, handed_at, changed_by, with_update}
use Rattle.element_core.specs.Element.{own_packet, own_service, delivered_to, own_delivery, handed_by_own, own_handed, own_cleared, kept_by, kept_with}
use Rattle.element_core.specs.Alone.{part_of}
use Rattle.element_core.proofs.PortLaws.{ports_of-same, ports_of-other, ports_of-fold, listed, filter-member_at, IsAt, IsAt-member_at, ports_of-members}
use Rattle.config_table.proofs.ValidTable.{AreApart}
use Rattle.config_table.proofs.NamedGroups.{AreApart-found}
use Rattle.config_table.proofs.LiveMembers.{apart-filter}

-- ---- members at elements of their own

-- those that may send stand apart
pub AreApart-senders : (table : TableValue) (vid : ℕ) → IsValid table → AreApart (senders table vid)
AreApart-senders table vid valid = AreApart-found table vid valid

-- so do those that are admitted
AreApart-admitted : (table : TableValue) (vid : ℕ) (admitted : Set8) → IsValid table → AreApart (admitted_members table vid admitted)
AreApart-admitted table vid admitted valid = apart-filter (is_admitted admitted) (senders table vid) (AreApart-senders table vid valid)

-- all or none
apart_where : (b : Bool) (ps : List Proc) → AreApart ps → AreApart (cond b ps [])
apart_where true ps a = a
apart_where false ps a = tt

-- and those that are delivered to
AreApart-receivers : (table : TableValue) (service : Service) → IsValid table → AreApart (receivers table service)
AreApart-receivers table service valid =
    apart_where (is_delivered service.desc.class) (senders table service.desc.dest) (AreApart-senders table service.desc.dest valid)

-- ---- what it sends in B1

-- two functions that agree at an element agree on the one found there
found_same : (f g : Proc → Cell) (ne : ℕ) (found : Option Proc) → IsAt ne found → ((proc : Proc) → proc.ne ≡ ne → f proc ≡ g proc)
    → unwrap_or (option_map f found) None ≡ unwrap_or (option_map g found) None
found_same f g ne None at same = refl
found_same f g ne (Some proc) at same = same proc at

-- its own cell of the first round of packets
pub own_packet-row : (s : State) (me : ℕ) (decision : Decision) → own_packet (part_of s me) decision ≡ row_sent s.table s.queues decision me
own_packet-row s me Idle = refl
own_packet-row s me (Discard vid desc number admitted waited) = refl
own_packet-row s me (Exchange service) =
    let ports = ports_of s.queues me in
    ap (λ cell. cond (contributes service me) cell None)
    (found_same (λ proc. packet_of_head service.desc (head_of (port_queues ports proc.port))) (λ proc. packet_of_head service.desc (head_at s.queues proc)) me
    (member_at (senders s.table service.vid) me) (IsAt-member_at me (senders s.table service.vid))
    (λ proc e. ap (λ ne. packet_of_head service.desc (head_of (port_queues (ports_of s.queues ne) proc.port))) (sym e)))

-- ---- heads that go, and deliveries

-- its ports after the head of its admitted member went
pub own_service-ports : (s : State) (me : ℕ) (decision : Decision) → IsValid s.table → own_service (part_of s me) decision ≡ ports_of (after_service s.table decision s.queues) me
own_service-ports s me Idle valid = refl
own_service-ports s me (Discard vid desc number admitted waited) valid =
    sym (ports_of-members (after_pop desc) s.queues (admitted_members s.table vid admitted) me (AreApart-admitted s.table vid admitted valid))
own_service-ports s me (Exchange service) valid =
    sym (ports_of-members (after_pop service.desc) s.queues (admitted_members s.table service.vid service.admitted) me (AreApart-admitted s.table service.vid service.admitted valid))

-- a delivery to the one that is there
one_handed : (table : TableValue) (cycle : ℕ) (service : Service) (entry : Option Packet) (ports : List Queues) (found : Option Proc)
    → fold (λ kept proc. change_at (after_entry (in_limit table proc) cycle service entry) kept proc.port) ports (listed found) ≡ delivered_to table cycle service entry ports found
one_handed table cycle service entry ports None = refl
one_handed table cycle service entry ports (Some proc) = refl

-- the ports of an element after all deliveries
handing_ports : (table : TableValue) (cycle : ℕ) (service : Service) (entries : List (Option Packet)) (queues : AllQueues) (me : ℕ) → IsValid table
    → ports_of (fold (after_handing table cycle service entries) queues (receivers table service)) me
    ≡ delivered_to table cycle service (cell_at entries me) (ports_of queues me) (member_at (receivers table service) me)
handing_ports table cycle service entries queues me valid =
    let own = λ (kept : List Queues) (proc : Proc). change_at (after_entry (in_limit table proc) cycle service (cell_at entries me)) kept proc.port in
    ports_of-fold (after_handing table cycle service entries) own (λ proc. proc.ne) me
    (λ all proc e. ports_of-same (after_entry (in_limit table proc) cycle service (cell_at entries proc.ne)) all proc me e
    ∙ ap (λ ne. change_at (after_entry (in_limit table proc) cycle service (cell_at entries ne)) (ports_of all me) proc.port) e)
    (λ all proc away. ports_of-other (after_entry (in_limit table proc) cycle service (cell_at entries proc.ne)) all proc me away)
    queues (receivers table service)
    ∙ ap (fold own (ports_of queues me)) (filter-member_at me (receivers table service) (AreApart-receivers table service valid))
    ∙ one_handed table cycle service (cell_at entries me) (ports_of queues me) (member_at (receivers table service) me)

-- its ports after its receiver was handed the entry
pub own_delivery-ports : (s : State) (me : ℕ) (decision : Decision) (entries : List (Option Packet)) (queues : AllQueues) → IsValid s.table
    → own_delivery (part_of s me) decision (cell_at entries me) (ports_of queues me) ≡ ports_of (after_deliveries s.table s.cycle decision entries queues) me
own_delivery-ports s me Idle entries queues valid = refl
own_delivery-ports s me (Discard vid desc number admitted waited) entries queues valid = refl
own_delivery-ports s me (Exchange service) entries queues valid = sym (handing_ports s.table s.cycle service entries queues me valid)

-- by whether there is a receiver and an entry
handed_same : (table : TableValue) (queues : AllQueues) (entry : Option Packet) (me : ℕ) (found : Option Proc) → IsAt me found
    → handed_by_own table (ports_of queues me) entry found ≡ handed_to table queues found entry
handed_same table queues entry me None at = refl
handed_same table queues None me (Some proc) at = refl
handed_same table queues (Some packet) me (Some proc) at =
    ap (λ ne. let answer : Option (Proc × Handed) = Some (proc, handed_by (in_limit table proc) (port_queues (ports_of queues ne) proc.port)) in answer) (sym at)

-- what became of its delivery
pub own_handed-at : (s : State) (me : ℕ) (decision : Decision) (entries : List (Option Packet)) (queues : AllQueues)
    → own_handed (part_of s me) decision (cell_at entries me) (ports_of queues me) ≡ handed_at s.table queues decision entries me
own_handed-at s me Idle entries queues = refl
own_handed-at s me (Discard vid desc number admitted waited) entries queues = refl
own_handed-at s me (Exchange service) entries queues =
    handed_same s.table queues (cell_at entries me) me (member_at (receivers s.table service) me) (IsAt-member_at me (receivers s.table service))

-- ---- updates

-- its ports with those of some processors emptied
pub own_cleared-ports : (all : AllQueues) (procs : List Proc) (me : ℕ) → own_cleared me procs (ports_of all me) ≡ ports_of (cleared all procs) me
own_cleared-ports all procs me =
    sym (ports_of-fold (with_queues (λ q. no_queues)) (λ kept proc. change_at (λ q. no_queues) kept proc.port) (λ proc. proc.ne) me
    (λ queues proc e. ports_of-same (λ q. no_queues) queues proc me e) (λ queues proc away. ports_of-other (λ q. no_queues) queues proc me away) all procs)

-- by what becomes of it
kept_by-part : (a : Applied) (update : Update) (s : State) (me : ℕ) → kept_by a update (part_of s me) ≡ part_of (changed_by a update s) me
kept_by-part (applied_variant.Done procs) update s me =
    let after = changed_by (applied_variant.Done procs) update s in
    λ i. record { me = me; cycle = after.cycle; table = after.table; scoreboard = after.scoreboard; ports = own_cleared-ports s.queues procs.items me i }
kept_by-part (applied_variant.Refused error) update s me = refl
kept_by-part applied_variant.Absent update s me = refl

-- what it keeps after an update is its part of the state after it
pub kept_with-part : (update : Option Update) (s : State) (me : ℕ) → kept_with update (part_of s me) ≡ part_of (with_update update s) me
kept_with-part None s me = refl
kept_with-part (Some update) s me = kept_by-part (applied s.table update) update s me
