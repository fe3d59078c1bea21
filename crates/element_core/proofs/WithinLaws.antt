-- No input ever holds more than its limit.
use Rattle.std.proofs.Common.{◌≡◌, ℕ, ◌≤◌, Bool, true, false, cond, List, [], ◌∷◌, ◌++◌, length, refl, ap, arith, sym, ◌∙◌, ◌⊎◌, inl, inr, subst, get_or}
use Rattle.std.specs.Prelude.{Option, Some, None, nat_lt, ◌==◌}
use Rattle.std.specs.List.{fold}
use Rattle.std.proofs.lemmas.Bool.{eqb-true, ltb-true, and_parts, or_cases}
use Rattle.std.proofs.lemmas.List.{length_push}
use Rattle.ftpp_base.specs.Lists.{change_at}
use Rattle.ftpp_base.specs.declared.element.Proc.{Proc}
use Rattle.packet_format.specs.declared.acts.Act.{Act}
use Rattle.packet_format.specs.declared.acts.Act.TheVariants.{Post, Read}
use Rattle.packet_format.specs.declared.Packet.{Packet}
use Rattle.packet_format.specs.declared.Descriptor.{Descriptor}
use Rattle.packet_format.specs.declared.Delivered.{Delivered}
use Rattle.arrayvec.specs.ArrayVec.{ArrayVec}
use Rattle.config_table.specs.declared.decisions.Decision.{Decision}
use Rattle.config_table.specs.declared.decisions.Decision.TheVariants.{Idle, Discard, Exchange}
use Rattle.config_table.specs.declared.decisions.Service.{Service}
use Rattle.config_table.specs.Groups.{same_proc}
use Rattle.config_table.specs.Table.{TableValue, IsValid, in_limit, out_limit}
use Rattle.processor_buffers.specs.Queues.{Queues, Posted, no_queues, carries, head_of, rest, has_out_room, after_post, after_read, after_pop}
use Rattle.table_update.specs.declared.Update.{Update}
use Rattle.table_update.specs.declared.Applied.TheVariants.{Done}
use Rattle.table_update.specs.Updates.{applied, table_after}
use Rattle.table_update.proofs.LimitLaws.{is_listed, limit-applied}
use Rattle.element_core.specs.Processors.{AllQueues, empty_ports, empty_queues, port_queues, ports_of, queues_of, with_queues, emptied_at, cleared, after_act, after_acts}
use Rattle.element_core.specs.Cycle.{start, admitted_members, receivers, delivered_by, after_entry, after_handing, after_service, after_deliveries}
use Rattle.element_core.specs.Alone.{IsWithin}
use Rattle.element_core.proofs.PortLaws.{get_or-change_same}
use Rattle.ftpp_base.proofs.Among.{all-get_or, all-replicate, either}
use Rattle.ftpp_base.proofs.Changed.{change_at-either}
use Rattle.element_core.proofs.Places.{with_queues-either}

-- ---- one change

-- whether an input holds at most so many
abbrev AtMost : ℕ → Queues → Type 0
AtMost limit q = length q.input ≤ limit

-- a change that keeps one within its limit keeps all
with_within : (table : TableValue) (change : Queues → Queues) (all : AllQueues) (p : Proc) → ((q : Queues) → AtMost (in_limit table p) q → AtMost (in_limit table p) (change q))
    → IsWithin table all → IsWithin table (with_queues change all p)
with_within table change all p keeps fits proc =
    with_queues-either (AtMost (in_limit table proc)) change all p proc
    (λ e. subst (λ r. (q : Queues) → AtMost (in_limit table r) q → AtMost (in_limit table r) (change q)) e keeps (queues_of all proc) (fits proc)) (fits proc)

-- so do several
fold_within : {X : Type 0} (table : TableValue) (f : AllQueues → X → AllQueues) (xs : List X) (all : AllQueues)
    → ((queues : AllQueues) (x : X) → IsWithin table queues → IsWithin table (f queues x)) → IsWithin table all → IsWithin table (fold f all xs)
fold_within table f [] all keeps fits = fits
fold_within table f (x ∷ xs) all keeps fits = fold_within table f xs (f all x) keeps (keeps all x fits)

-- a post leaves the input
post_within : (limit out : ℕ) (posted : Posted) (q : Queues) → AtMost limit q → AtMost limit (after_post out posted q)
post_within limit out posted q l = either (AtMost limit) (has_out_room out q) (record { output = q.output ++ posted ∷ []; input = q.input }) q l l

-- a read makes it shorter
rest_less : (limit : ℕ) (xs : List Delivered) → length xs ≤ limit → length (rest xs) ≤ limit
rest_less limit [] l = l
rest_less limit (x ∷ xs) l = omega arith

-- a head that goes leaves it
pop_within : (limit : ℕ) (desc : Descriptor) (q : Queues) → AtMost limit q → AtMost limit (after_pop desc q)
pop_within limit desc q l = either (AtMost limit) (carries (head_of q) desc) (record { output = rest q.output; input = q.input }) q l l

-- a delivery is stored only where there is room
stored_by : (b : Bool) (limit : ℕ) (d : Delivered) (q : Queues) → nat_lt (length q.input) limit ≡ b → AtMost limit q
    → AtMost limit (cond b (record { output = q.output; input = q.input ++ d ∷ [] }) q)
stored_by true limit d q e l = let less = ltb-true (length q.input) limit e in let long = length_push q.input d in omega arith
stored_by false limit d q e l = l

-- so with an entry, if there is one
entry_within : (limit cycle : ℕ) (service : Service) (entry : Option Packet) (q : Queues) → AtMost limit q → AtMost limit (after_entry limit cycle service entry q)
entry_within limit cycle service None q l = l
entry_within limit cycle service (Some packet) q l = stored_by (nat_lt (length q.input) limit) limit (delivered_by cycle service packet) q refl l

-- ---- the parts of a cycle

-- an empty port is within each limit
empty_fits : (limit port : ℕ) → AtMost limit (port_queues empty_ports port)
empty_fits limit port = all-get_or (AtMost limit) empty_ports port no_queues (all-replicate (AtMost limit) 8 no_queues (omega arith)) (omega arith)

-- the start
pub start_within : (table : TableValue) → IsWithin table (start table).queues
start_within table proc =
    let P : List Queues → Type 0 = λ ports. AtMost (in_limit table proc) (port_queues ports proc.port) in
    all-get_or P (empty_queues table.n) proc.ne [] (all-replicate P table.n empty_ports (empty_fits (in_limit table proc) proc.port)) (omega arith)

-- a rejoin
pub emptied_within : (table : TableValue) (rejoined : Option ℕ) (all : AllQueues) → IsWithin table all → IsWithin table (emptied_at all rejoined)
emptied_within table None all fits proc = fits proc
emptied_within table (Some ne) all fits proc =
    change_at-either (λ ports. AtMost (in_limit table proc) (port_queues ports proc.port)) (λ ports. empty_ports) all ne proc.ne []
    (λ e. empty_fits (in_limit table proc) proc.port) (fits proc)

-- one act
act_within : (table : TableValue) (all : AllQueues) (act : Act) → IsWithin table all → IsWithin table (after_act table all act)
act_within table all (Post proc desc packet) fits =
    with_within table (after_post (out_limit table proc) (desc, packet)) all proc (post_within (in_limit table proc) (out_limit table proc) (desc, packet)) fits
act_within table all (Read proc) fits = with_within table after_read all proc (λ q. rest_less (in_limit table proc) q.input) fits

-- the acts
pub acts_within : (table : TableValue) (acts : List Act) (all : AllQueues) → IsWithin table all → IsWithin table (after_acts table all acts)
acts_within table acts all fits = fold_within table (after_act table) acts all (act_within table) fits

-- several heads that go
pops_within : (table : TableValue) (desc : Descriptor) (all : AllQueues) (procs : List Proc) → IsWithin table all → IsWithin table (fold (with_queues (after_pop desc)) all procs)
pops_within table desc all procs fits =
    fold_within table (with_queues (after_pop desc)) procs all (λ queues p. with_within table (after_pop desc) queues p (pop_within (in_limit table p) desc)) fits

-- heads that go
pub service_within : (table : TableValue) (decision : Decision) (all : AllQueues) → IsWithin table all → IsWithin table (after_service table decision all)
service_within table Idle all fits = fits
service_within table (Discard vid desc number admitted waited) all fits = pops_within table desc all (admitted_members table vid admitted) fits
service_within table (Exchange service) all fits = pops_within table service.desc all (admitted_members table service.vid service.admitted) fits

-- deliveries
pub deliveries_within : (table : TableValue) (cycle : ℕ) (decision : Decision) (entries : List (Option Packet)) (all : AllQueues) → IsWithin table all → IsWithin table (after_deliveries table cycle decision entries all)
deliveries_within table cycle Idle entries all fits = fits
deliveries_within table cycle (Discard vid desc number admitted waited) entries all fits = fits
deliveries_within table cycle (Exchange service) entries all fits =
    fold_within table (after_handing table cycle service entries) (receivers table service) all
    (λ queues p. with_within table (after_entry (in_limit table p) cycle service (get_or entries p.ne None)) queues p (entry_within (in_limit table p) cycle service (get_or entries p.ne None))) fits

-- ---- an update

-- what was cleared is empty
cleared_one : (all : AllQueues) (p : Proc) → queues_of (with_queues (λ q. no_queues) all p) p ≡ no_queues
cleared_one all p =
    ap (λ ports. port_queues ports p.port) (get_or-change_same (λ ports. change_at (λ q. no_queues) ports p.port) all p.ne [] refl)
    ∙ get_or-change_same (λ q. no_queues) (ports_of all p.ne) p.port no_queues refl

-- and stays empty
cleared_keeps : (limit : ℕ) (ps : List Proc) (all : AllQueues) (proc : Proc) → AtMost limit (queues_of all proc) → AtMost limit (queues_of (cleared all ps) proc)
cleared_keeps limit [] all proc l = l
cleared_keeps limit (p ∷ ps) all proc l =
    cleared_keeps limit ps (with_queues (λ q. no_queues) all p) proc (with_queues-either (AtMost limit) (λ q. no_queues) all p proc (λ e. omega arith) l)

-- this one is cleared, or a later one
cleared_by : (ps : List Proc) (all : AllQueues) (p proc : Proc) → (same_proc proc p ≡ true) ⊎ (is_listed proc ps ≡ true)
    → (is_listed proc ps ≡ true → AtMost 0 (queues_of (cleared (with_queues (λ q. no_queues) all p) ps) proc)) → AtMost 0 (queues_of (cleared (with_queues (λ q. no_queues) all p) ps) proc)
cleared_by ps all p proc (inl e) more =
    let both = and_parts (proc.ne == p.ne) (proc.port == p.port) e in
    let same : p ≡ proc = λ i. record { ne = sym (eqb-true proc.ne p.ne both.0) i; port = sym (eqb-true proc.port p.port both.1) i } in
    cleared_keeps 0 ps (with_queues (λ q. no_queues) all p) proc
    (subst (λ r. AtMost 0 (queues_of (with_queues (λ q. no_queues) all p) r)) same (subst (AtMost 0) (sym (cleared_one all p)) (omega arith)))
cleared_by ps all p proc (inr e) more = more e

-- each that is listed is empty
cleared_listed : (ps : List Proc) (all : AllQueues) (proc : Proc) → is_listed proc ps ≡ true → AtMost 0 (queues_of (cleared all ps) proc)
cleared_listed [] all proc e = cc
cleared_listed (p ∷ ps) all proc e =
    cleared_by ps all p proc (or_cases (same_proc proc p) (is_listed proc ps) e) (cleared_listed ps (with_queues (λ q. no_queues) all p) proc)

-- cleared, or with the limit as it was
update_by : (old new : ℕ) (ps : List Proc) (all : AllQueues) (proc : Proc) → AtMost old (queues_of all proc) → (is_listed proc ps ≡ true) ⊎ (new ≡ old) → AtMost new (queues_of (cleared all ps) proc)
update_by old new ps all proc l (inl e) = let none = cleared_listed ps all proc e in omega arith
update_by old new ps all proc l (inr e) = let kept = cleared_keeps old ps all proc l in omega arith

-- an applied update
pub update_within : (table : TableValue) (update : Update) (procs : ArrayVec Proc) (all : AllQueues) → IsValid table → applied table update ≡ Done procs → IsWithin table all
    → IsWithin (table_after table update) (cleared all procs.items)
update_within table update procs all valid done fits proc =
    update_by (in_limit table proc) (in_limit (table_after table update) proc) procs.items all proc (fits proc) (limit-applied table update procs proc valid done)
