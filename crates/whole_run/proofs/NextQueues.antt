-- The queues of a processor after the heads were popped and the packets delivered.
use Rattle.std.proofs.Common.{◌≡◌, ℕ, Bool, true, false, cond, List, [], ◌∷◌, refl, ap, sym, ◌∙◌, filter, fold, Contains, Option, Some, None, option_map, unwrap_or}
use Rattle.std.specs.List.{AllByRecursion}
use Rattle.std.proofs.lemmas.Bool.{eqb-true, eqb-false}
use Rattle.ftpp_base.specs.Lists.{cell_at}
use Rattle.ftpp_base.specs.declared.element.Proc.{Proc}
use Rattle.ftpp_base.specs.declared.sets.Set8.{Set8}
use Rattle.packet_format.specs.declared.Packet.{Packet}
use Rattle.packet_format.specs.declared.Descriptor.{Descriptor}
use Rattle.config_table.specs.declared.groups.Group.{Group}
use Rattle.config_table.specs.declared.decisions.Decision.{Decision}
use Rattle.config_table.specs.declared.decisions.Decision.TheVariants.{Idle, Discard, Exchange}
use Rattle.config_table.specs.declared.decisions.Service.{Service}
use Rattle.config_table.specs.Groups.{members_of, live_members, same_proc}
use Rattle.config_table.specs.Table.{TableValue, group_named, in_limit, IsValid}
use Rattle.processor_buffers.specs.Queues.{Queues, Posted, after_pop, rest, carries, head_of}
use Rattle.data_exchange.specs.Entries.{senders}
use Rattle.element_core.specs.Processors.{AllQueues, queues_of, with_queues, after_pops}
use Rattle.element_core.specs.Cycle.{after_service, admitted_members, is_admitted, after_entry, after_handing, after_deliveries, receivers}
use Rattle.scoreboard.specs.Service.{takes_of}
use Rattle.element_core.specs.Claims.{admitted_set, taken_request}
use Rattle.ftpp_base.proofs.Among.{contains-filter, all-filter}
use Rattle.ftpp_base.proofs.Changed.{fold-keeps}
use Rattle.element_core.proofs.Places.{IsPlace, place-kept, places-kept, with_queues-keeps, fold-others, fold-own}
use Rattle.config_table.proofs.ValidTable.{AreApart, named-there, members-others}
use Rattle.config_table.proofs.LiveMembers.{apart-filter, live-apart, all-live}
use Rattle.element_core.proofs.Accepted.{HasRow}
pub use Rattle.data_exchange.proofs.AlikeEntry.{senders-named}

-- ---- the members of the group whose request is taken

-- an admitted live member is popped once
popped_own : (table : TableValue) (vid : ℕ) (desc : Descriptor) (admitted : Set8) (all : AllQueues) (g : Group) (p : Proc) → group_named table vid ≡ Some g → AreApart (members_of g)
    → IsPlace all p → Contains (live_members g) p → is_admitted admitted p ≡ true
    → queues_of (after_pops desc all (admitted_members table vid admitted)) p ≡ after_pop desc (queues_of all p)
popped_own table vid desc admitted all g p named apart place c adm =
    ap (λ (procs : List Proc). queues_of (after_pops desc all (filter (is_admitted admitted) procs)) p) (senders-named table vid g named)
    ∙ fold-own (after_pop desc) all (filter (is_admitted admitted) (live_members g)) p (apart-filter (is_admitted admitted) (live_members g) (live-apart g apart)) place
    (contains-filter (is_admitted admitted) (live_members g) p c adm)

-- an admitted live member loses its head, where that carries the request
pub service-own : (table : TableValue) (decision : Decision) (all : AllQueues) (g : Group) (p : Proc) (desc : Descriptor) → group_named table g.vid ≡ Some g → AreApart (members_of g)
    → IsPlace all p → Contains (live_members g) p → takes_of g.vid decision ≡ true → admitted_set decision p.ne ≡ true → taken_request decision ≡ Some desc
    → queues_of (after_service table decision all) p ≡ after_pop desc (queues_of all p)
service-own table Idle all g p desc named apart place c takes adm req = cc
service-own table (Discard v d number admitted waited) all g p desc named apart place c takes adm req =
    let same : d ≡ desc = cc in
    popped_own table v d admitted all g p (ap (group_named table) (eqb-true v g.vid takes) ∙ named) apart place c adm ∙ ap (λ (x : Descriptor). after_pop x (queues_of all p)) same
service-own table (Exchange service) all g p desc named apart place c takes adm req =
    let same : service.desc ≡ desc = cc in
    popped_own table service.vid service.desc service.admitted all g p (ap (group_named table) (eqb-true service.vid g.vid takes) ∙ named) apart place c adm
    ∙ ap (λ (x : Descriptor). after_pop x (queues_of all p)) same

-- ---- the members of any other group

-- a processor is none of the live members of another group, if that is there
none_by : (table : TableValue) (v : ℕ) (g : Group) (p : Proc) (o : Option Group) → IsValid table → group_named table g.vid ≡ Some g → Contains (members_of g) p → (v ≡ g.vid → ⊥) → group_named table v ≡ o
    → AllByRecursion (λ q. same_proc q p ≡ false) (unwrap_or (option_map live_members o) [])
none_by table v g p None valid named m wrong e = tt
none_by table v g p (Some h) valid named m wrong e =
    let there_is = named-there table v h e in
    all-live (λ q. same_proc q p ≡ false) h (members-others table valid g.vid g p named m h there_is.0 (λ f. wrong (sym there_is.1 ∙ f)))

-- the pops of another group leave it
popped_other : (table : TableValue) (v : ℕ) (desc : Descriptor) (admitted : Set8) (all : AllQueues) (g : Group) (p : Proc) → IsValid table → group_named table g.vid ≡ Some g → Contains (members_of g) p
    → (v ≡ g.vid → ⊥) → queues_of (after_pops desc all (admitted_members table v admitted)) p ≡ queues_of all p
popped_other table v desc admitted all g p valid named m wrong =
    fold-others (after_pop desc) all (admitted_members table v admitted) p
    (all-filter (λ q. same_proc q p ≡ false) (is_admitted admitted) (senders table v) (none_by table v g p (group_named table v) valid named m wrong refl))

-- a decision that takes another group's request pops nothing of this group
pub service-other : (table : TableValue) (decision : Decision) (all : AllQueues) (g : Group) (p : Proc) → IsValid table → group_named table g.vid ≡ Some g → Contains (members_of g) p
    → takes_of g.vid decision ≡ false → queues_of (after_service table decision all) p ≡ queues_of all p
service-other table Idle all g p valid named m takes = refl
service-other table (Discard v d number admitted waited) all g p valid named m takes = popped_other table v d admitted all g p valid named m (eqb-false v g.vid takes)
service-other table (Exchange service) all g p valid named m takes = popped_other table service.vid service.desc service.admitted all g p valid named m (eqb-false service.vid g.vid takes)

-- ---- what every service keeps

-- a place stays one
pub service-place : (table : TableValue) (decision : Decision) (all : AllQueues) (p : Proc) → IsPlace all p → IsPlace (after_service table decision all) p
service-place table Idle all p place = place
service-place table (Discard v d number admitted waited) all p place = places-kept (after_pop d) all (admitted_members table v admitted) p place
service-place table (Exchange service) all p place = places-kept (after_pop service.desc) all (admitted_members table service.vid service.admitted) p place

-- what each pop keeps, all keep
pops_keep : (P : Queues → Type 0) (change : Queues → Queues) (all : AllQueues) (procs : List Proc) (p : Proc) → ((x : Queues) → P x → P (change x)) → P (queues_of all p)
    → P (queues_of (fold (with_queues change) all procs) p)
pops_keep P change all procs p keeps h = fold-keeps (λ x. P (queues_of x p)) (with_queues change) procs all (λ x q i k. with_queues-keeps P change x q p keeps k) h

-- an output of packets of 64 bytes
abbrev pub HasRows : Queues → Type 0
HasRows q = AllByRecursion HasRow q.output

-- the others have 64 bytes, too
rows_rest : (xs : List Posted) → AllByRecursion HasRow xs → AllByRecursion HasRow (rest xs)
rows_rest [] a = tt
rows_rest (x ∷ xs) a = a.1

-- a pop keeps packets of 64 bytes
rows_pop : (desc : Descriptor) (q : Queues) → HasRows q → HasRows (after_pop desc q)
rows_pop desc q a = by (carries (head_of q) desc) where
  by : (b : Bool) → HasRows (cond b (record q { output = rest q.output }) q)
  by true = rows_rest q.output a
  by false = a

-- so does a service
pub service-rows : (table : TableValue) (decision : Decision) (all : AllQueues) (p : Proc) → HasRows (queues_of all p) → HasRows (queues_of (after_service table decision all) p)
service-rows table Idle all p h = h
service-rows table (Discard v d number admitted waited) all p h = pops_keep HasRows (after_pop d) all (admitted_members table v admitted) p (rows_pop d) h
service-rows table (Exchange service) all p h = pops_keep HasRows (after_pop service.desc) all (admitted_members table service.vid service.admitted) p (rows_pop service.desc) h

-- ---- deliveries leave a place

-- a delivery to each receiver leaves a place
handed_place : (table : TableValue) (cycle : ℕ) (service : Service) (entries : List (Option Packet)) (all : AllQueues) (procs : List Proc) (p : Proc) → IsPlace all p
    → IsPlace (fold (after_handing table cycle service entries) all procs) p
handed_place table cycle service entries all procs p place =
    fold-keeps (λ x. IsPlace x p) (after_handing table cycle service entries) procs all
    (λ x q i k. place-kept (after_entry (in_limit table q) cycle service (cell_at entries q.ne)) x q p k) place

-- deliveries leave a place
pub deliveries-place : (table : TableValue) (cycle : ℕ) (decision : Decision) (entries : List (Option Packet)) (all : AllQueues) (p : Proc) → IsPlace all p
    → IsPlace (after_deliveries table cycle decision entries all) p
deliveries-place table cycle Idle entries all p place = place
deliveries-place table cycle (Discard v d number admitted waited) entries all p place = place
deliveries-place table cycle (Exchange service) entries all p place = handed_place table cycle service entries all (receivers table service) p place
