-- A state stays as a run reaches it: a valid table, and queues of whole packets.
use Rattle.std.proofs.Common.{◌≡◌, ℕ, Bool, true, false, cond, List, [], ◌∷◌, ◌++◌, refl, sym, ◌∙◌, get_or}
use Rattle.std.specs.Prelude.{Option, Some, None, is_none, is_some}
use Rattle.std.proofs.lemmas.List.{length-replicate}
use Rattle.std.specs.List.{AllByRecursion, fold}
use Rattle.ftpp_base.specs.Lists.{change_at}
use Rattle.ftpp_base.specs.declared.element.Proc.{Proc}
use Rattle.packet_format.specs.declared.Packet.{Packet}
use Rattle.packet_format.specs.declared.acts.Act.{Act}
use Rattle.packet_format.specs.declared.acts.Act.TheVariants.{Post, Read}
use Rattle.packet_format.specs.declared.Descriptor.{Descriptor}
use Rattle.config_table.specs.declared.groups.Group.{Group}
use Rattle.config_table.specs.declared.decisions.Decision.{Decision}
use Rattle.config_table.specs.declared.decisions.Decision.TheVariants.{Idle, Discard, Exchange}
use Rattle.config_table.specs.declared.decisions.Service.{Service}
use Rattle.config_table.specs.Table.{TableValue, IsValid, group_named, table_error, in_limit, out_limit}
use Rattle.processor_buffers.specs.Queues.{Queues, Posted, no_queues, carries, head_of, rest, has_out_room, has_in_room, after_post, after_read, after_pop}
use Rattle.table_update.specs.declared.Update.{Update}
use Rattle.table_update.specs.declared.Update.TheVariants.{Mask, Admit, Timeouts, Dissolve, Form}
use Rattle.table_update.specs.declared.Applied.{Applied}
use Rattle.table_update.specs.declared.Applied.TheVariants as applied_variant
use Rattle.table_update.specs.Updates.{updated, if_valid, table_after, applied, where_there, has_member, with_changed, with_masked, with_admitted, with_timeouts, without_group}
use Rattle.element_core.specs.Processors.{AllQueues, empty_ports, with_queues, emptied_at, cleared, after_act, after_acts, after_pops}
use Rattle.element_core.specs.Cycle.{State, Input, Shown, start, step, shown_by, served, after_rejoin, after_service, admitted_members, receivers, after_entry, after_handing, after_deliveries, delivered_by, changed_by, with_update, update_in, update_packet}
use Rattle.element_core.specs.Alone.{IsPosted, AreQueues, ArePorts, AreAllQueues, HasEight, HasPorts, IsWithin, IsSound, IsAct, before_rounds, StaysSound}
use Rattle.element_core.proofs.WithinLaws.{start_within, emptied_within, acts_within, service_within, deliveries_within, update_within}
use Rattle.ftpp_base.proofs.Changed.{length-change_at, change_at-all}
use Rattle.element_core.proofs.CycleLaws.{valid_after}
use Rattle.ftpp_base.proofs.Among.{all-append, all-replicate, either}

-- ---- queues

-- each change keeps whole packets
post_sound : (limit : ℕ) (posted : Posted) (q : Queues) → IsPosted posted → AreQueues q → AreQueues (after_post limit posted q)
post_sound limit posted q p a =
    either AreQueues (has_out_room limit q) (record { output = q.output ++ posted ∷ []; input = q.input }) q (all-append IsPosted q.output (posted ∷ []) a (p, tt)) a

-- a read
read_sound : (q : Queues) → AreQueues q → AreQueues (after_read q)
read_sound q a = a

-- what holds of all holds of all without the first
all-rest : {A : Type 0} (P : A → Type 0) (xs : List A) → AllByRecursion P xs → AllByRecursion P (rest xs)
all-rest P [] a = tt
all-rest P (x ∷ xs) a = a.1

-- a head that goes
pop_sound : (desc : Descriptor) (q : Queues) → AreQueues q → AreQueues (after_pop desc q)
pop_sound desc q a =
    either AreQueues (carries (head_of q) desc) (record { output = rest q.output; input = q.input }) q (all-rest IsPosted q.output a) a

-- a delivery
entry_sound : (limit cycle : ℕ) (service : Service) (entry : Option Packet) (q : Queues) → AreQueues q → AreQueues (after_entry limit cycle service entry q)
entry_sound limit cycle service None q a = a
entry_sound limit cycle service (Some packet) q a =
    either AreQueues (has_in_room limit q) (record { output = q.output; input = q.input ++ delivered_by cycle service packet ∷ [] }) q a a

-- one processor's queues changed
with_sound : (change : Queues → Queues) (all : AllQueues) (proc : Proc) → ((q : Queues) → AreQueues q → AreQueues (change q)) → AreAllQueues all → AreAllQueues (with_queues change all proc)
with_sound change all proc keeps a =
    change_at-all ArePorts (λ ports. change_at change ports proc.port) all proc.ne (λ ports p. change_at-all AreQueues change ports proc.port keeps p) a

-- several changes
fold_sound : {X : Type 0} (f : AllQueues → X → AllQueues) (xs : List X) (all : AllQueues) → ((all : AllQueues) (x : X) → AreAllQueues all → AreAllQueues (f all x)) → AreAllQueues all → AreAllQueues (fold f all xs)
fold_sound f [] all keeps a = a
fold_sound f (x ∷ xs) all keeps a = fold_sound f xs (f all x) keeps (keeps all x a)

-- empty ports
empty_sound : ArePorts empty_ports
empty_sound = all-replicate AreQueues 8 no_queues tt

-- a rejoin
emptied_sound : (rejoined : Option ℕ) (all : AllQueues) → AreAllQueues all → AreAllQueues (emptied_at all rejoined)
emptied_sound None all a = a
emptied_sound (Some ne) all a = change_at-all ArePorts (λ ports. empty_ports) all ne (λ ports p. empty_sound) a

-- ports that are cleared
cleared_sound : (all : AllQueues) (procs : List Proc) → AreAllQueues all → AreAllQueues (cleared all procs)
cleared_sound all procs a = fold_sound (with_queues (λ q. no_queues)) procs all (λ queues proc. with_sound (λ q. no_queues) queues proc (λ q p. tt)) a

-- one act
act_sound : (table : TableValue) (all : AllQueues) (act : Act) → IsAct act → AreAllQueues all → AreAllQueues (after_act table all act)
act_sound table all (Post proc desc packet) is a = with_sound (after_post (out_limit table proc) (desc, packet)) all proc (λ q. post_sound (out_limit table proc) (desc, packet) q is) a
act_sound table all (Read proc) is a = with_sound after_read all proc read_sound a

-- the acts keep whole packets
pub acts_sound : (table : TableValue) (all : AllQueues) (acts : List Act) → AllByRecursion IsAct acts → AreAllQueues all → AreAllQueues (after_acts table all acts)
acts_sound table all [] are a = a
acts_sound table all (act ∷ acts) are a = acts_sound table (after_act table all act) acts are.1 (act_sound table all act are.0 a)

-- heads that go
pops_sound : (desc : Descriptor) (all : AllQueues) (procs : List Proc) → AreAllQueues all → AreAllQueues (after_pops desc all procs)
pops_sound desc all procs a = fold_sound (with_queues (after_pop desc)) procs all (λ queues proc. with_sound (after_pop desc) queues proc (pop_sound desc)) a

-- those of a decision
service_sound : (table : TableValue) (decision : Decision) (all : AllQueues) → AreAllQueues all → AreAllQueues (after_service table decision all)
service_sound table Idle all a = a
service_sound table (Discard vid desc number admitted waited) all a = pops_sound desc all (admitted_members table vid admitted) a
service_sound table (Exchange service) all a = pops_sound service.desc all (admitted_members table service.vid service.admitted) a

-- all deliveries
deliveries_sound : (table : TableValue) (cycle : ℕ) (decision : Decision) (entries : List (Option Packet)) (all : AllQueues) → AreAllQueues all → AreAllQueues (after_deliveries table cycle decision entries all)
deliveries_sound table cycle Idle entries all a = a
deliveries_sound table cycle (Discard vid desc number admitted waited) entries all a = a
deliveries_sound table cycle (Exchange service) entries all a =
    fold_sound (after_handing table cycle service entries) (receivers table service) all
    (λ queues proc. with_sound (after_entry (in_limit table proc) cycle service (get_or entries proc.ne None)) queues proc
    (λ q. entry_sound (in_limit table proc) cycle service (get_or entries proc.ne None) q)) a

-- ---- ports

-- a change of one processor's queues keeps the ports
with_ports : (n : ℕ) (change : Queues → Queues) (all : AllQueues) (proc : Proc) → HasPorts n all → HasPorts n (with_queues change all proc)
with_ports n change all proc has = (
  length-change_at (λ ports. change_at change ports proc.port) all proc.ne ∙ has.0,
  change_at-all HasEight (λ ports. change_at change ports proc.port) all proc.ne (λ ports e. length-change_at change ports proc.port ∙ e) has.1,
)

-- so do several
fold_ports : {X : Type 0} (n : ℕ) (f : AllQueues → X → AllQueues) (xs : List X) (all : AllQueues) → ((all : AllQueues) (x : X) → HasPorts n all → HasPorts n (f all x)) → HasPorts n all → HasPorts n (fold f all xs)
fold_ports n f [] all keeps a = a
fold_ports n f (x ∷ xs) all keeps a = fold_ports n f xs (f all x) keeps (keeps all x a)

-- a rejoin
emptied_ports : (n : ℕ) (rejoined : Option ℕ) (all : AllQueues) → HasPorts n all → HasPorts n (emptied_at all rejoined)
emptied_ports n None all has = has
emptied_ports n (Some ne) all has = (
  length-change_at (λ ports. empty_ports) all ne ∙ has.0,
  change_at-all HasEight (λ ports. empty_ports) all ne (λ ports e. refl) has.1,
)

-- ports that are cleared
cleared_ports : (n : ℕ) (all : AllQueues) (procs : List Proc) → HasPorts n all → HasPorts n (cleared all procs)
cleared_ports n all procs has = fold_ports n (with_queues (λ q. no_queues)) procs all (with_ports n (λ q. no_queues)) has

-- one act
act_ports : (n : ℕ) (table : TableValue) (all : AllQueues) (act : Act) → HasPorts n all → HasPorts n (after_act table all act)
act_ports n table all (Post proc desc packet) has = with_ports n (after_post (out_limit table proc) (desc, packet)) all proc has
act_ports n table all (Read proc) has = with_ports n after_read all proc has

-- all acts
pub acts_ports : (n : ℕ) (table : TableValue) (acts : List Act) (all : AllQueues) → HasPorts n all → HasPorts n (after_acts table all acts)
acts_ports n table acts all has = fold_ports n (after_act table) acts all (act_ports n table) has

-- heads that go
service_ports : (n : ℕ) (table : TableValue) (decision : Decision) (all : AllQueues) → HasPorts n all → HasPorts n (after_service table decision all)
service_ports n table Idle all has = has
service_ports n table (Discard vid desc number admitted waited) all has = fold_ports n (with_queues (after_pop desc)) (admitted_members table vid admitted) all (with_ports n (after_pop desc)) has
service_ports n table (Exchange service) all has = fold_ports n (with_queues (after_pop service.desc)) (admitted_members table service.vid service.admitted) all (with_ports n (after_pop service.desc)) has

-- deliveries
deliveries_ports : (n : ℕ) (table : TableValue) (cycle : ℕ) (decision : Decision) (entries : List (Option Packet)) (all : AllQueues) → HasPorts n all → HasPorts n (after_deliveries table cycle decision entries all)
deliveries_ports n table cycle Idle entries all has = has
deliveries_ports n table cycle (Discard vid desc number admitted waited) entries all has = has
deliveries_ports n table cycle (Exchange service) entries all has =
    fold_ports n (after_handing table cycle service entries) (receivers table service) all
    (λ queues proc. with_ports n (after_entry (in_limit table proc) cycle service (get_or entries proc.ne None)) queues proc) has

-- ---- tables

-- an update leaves a valid table
pub IsValid-table_after : (table : TableValue) (update : Update) → IsValid table → IsValid (table_after table update)
IsValid-table_after table update valid = valid_after table (updated table update) valid

-- an update that may be there keeps the number of elements
SameSize : ℕ → Option TableValue → Type 0
SameSize n None = Unit {0}
SameSize n (Some new) = new.n ≡ n

-- where it is there, or not
where_size : (b : Bool) (table : TableValue) (groups : List Group) → SameSize table.n (where_there b table groups)
unfolding SameSize
where_size true table groups = refl
where_size false table groups = tt

-- each update
updated_size : (table : TableValue) (update : Update) → SameSize table.n (updated table update)
unfolding SameSize updated
updated_size table (Mask vid member) = where_size (has_member member (group_named table vid)) table (with_changed (with_masked member) vid table.groups)
updated_size table (Admit vid member) = where_size (has_member member (group_named table vid)) table (with_changed (with_admitted member) vid table.groups)
updated_size table (Timeouts vid ts tr) = where_size (is_some (group_named table vid)) table (with_changed (with_timeouts ts tr) vid table.groups)
updated_size table (Dissolve vid) = where_size (is_some (group_named table vid)) table (without_group vid table.groups)
updated_size table (Form vid members ts tr) = refl

-- the new one or the old one
either_size : (b : Bool) (old new : TableValue) → new.n ≡ old.n → (cond b new old).n ≡ old.n
either_size true old new e = e
either_size false old new e = refl

-- the new one, if there is one
size_by : (old : TableValue) (new : Option TableValue) → SameSize old.n new → (if_valid old new).n ≡ old.n
unfolding SameSize
size_by old None e = refl
size_by old (Some new) e = either_size (is_none (table_error new)) old new e

-- an update keeps the number of elements
pub size-table_after : (table : TableValue) (update : Update) → (table_after table update).n ≡ table.n
size-table_after table update = size_by table (updated table update) (updated_size table update)

-- by what becomes of it
changed_sound : (a : Applied) (update : Update) (s : State) → IsSound s → applied s.table update ≡ a → IsSound (changed_by a update s)
changed_sound (applied_variant.Done procs) update s sound done = record {
  valid = IsValid-table_after s.table update sound.valid;
  waiting = cleared_sound s.queues procs.items sound.waiting;
  within = update_within s.table update procs s.queues sound.valid done sound.within;
  ports =
      let kept = cleared_ports s.table.n s.queues procs.items sound.ports in
      (kept.0 ∙ sym (size-table_after s.table update), kept.1);
}
changed_sound (applied_variant.Refused error) update s sound done = sound
changed_sound applied_variant.Absent update s sound done = sound

-- an update, if there is one
update_sound : (update : Option Update) (s : State) → IsSound s → IsSound (with_update update s)
update_sound None s sound = sound
update_sound (Some update) s sound = changed_sound (applied s.table update) update s sound refl

-- ---- the cycle

-- a run starts sound
pub start_sound : (table : TableValue) → IsValid table → IsSound (start table)
start_sound table valid = record {
  valid = valid;
  waiting = all-replicate ArePorts table.n empty_ports empty_sound;
  within = start_within table;
  ports = (length-replicate table.n empty_ports, all-replicate HasEight table.n empty_ports refl);
}

-- a rejoin keeps it
pub rejoin_sound : (s : State) (rejoined : Option ℕ) → IsSound s → IsSound (after_rejoin s rejoined)
rejoin_sound s rejoined sound = record {
  valid = sound.valid;
  waiting = emptied_sound rejoined s.queues sound.waiting;
  within = emptied_within s.table rejoined s.queues sound.within;
  ports = emptied_ports s.table.n rejoined s.queues sound.ports;
}

-- so do the acts
pub before_sound : (s : State) (input : Input) → IsSound s → AllByRecursion IsAct input.acts → IsSound (before_rounds s input)
before_sound s input sound acts =
    let after = rejoin_sound s input.rejoined sound in
    record {
      valid = sound.valid;
      waiting = acts_sound s.table (emptied_at s.queues input.rejoined) input.acts acts after.waiting;
      within = acts_within s.table input.acts (emptied_at s.queues input.rejoined) after.within;
      ports = acts_ports s.table.n s.table input.acts (emptied_at s.queues input.rejoined) after.ports;
    }

-- and the service of a decision
served_sound : (s : State) (shown : Shown) → IsSound s → AreAllQueues shown.queues → HasPorts s.table.n shown.queues → IsWithin s.table shown.queues → IsSound (served s shown)
unfolding served
served_sound s shown sound a has fits = record {
  valid = sound.valid;
  waiting = deliveries_sound s.table s.cycle shown.decision shown.entries (after_service s.table shown.decision shown.queues) (service_sound s.table shown.decision shown.queues a);
  within = deliveries_within s.table s.cycle shown.decision shown.entries (after_service s.table shown.decision shown.queues) (service_within s.table shown.decision shown.queues fits);
  ports = deliveries_ports s.table.n s.table s.cycle shown.decision shown.entries (after_service s.table shown.decision shown.queues) (service_ports s.table.n s.table shown.decision shown.queues has);
}

-- and a cycle
pub step_sound : StaysSound
unfolding step shown_by
step_sound s input sound is =
    let after = after_rejoin s input.rejoined in
    let shown = shown_by after input in
    let before = before_sound s input sound is.acts in
    update_sound (update_in (update_packet s.table shown.decision shown.packets)) (served after shown) (served_sound after shown (rejoin_sound s input.rejoined sound) before.waiting before.ports before.within)

-- the number of elements stays
changed_size : (a : Applied) (update : Update) (s : State) → (changed_by a update s).table.n ≡ s.table.n
changed_size (applied_variant.Done procs) update s = size-table_after s.table update
changed_size (applied_variant.Refused error) update s = refl
changed_size applied_variant.Absent update s = refl

-- an update, if there is one
update_size : (update : Option Update) (s : State) → (with_update update s).table.n ≡ s.table.n
update_size None s = refl
update_size (Some update) s = changed_size (applied s.table update) update s

-- so a cycle keeps it
pub step_size : (s : State) (input : Input) → (step s input).state.table.n ≡ s.table.n
unfolding step served
step_size s input =
    let after = after_rejoin s input.rejoined in
    let shown = shown_by after input in
    update_size (update_in (update_packet s.table shown.decision shown.packets)) (served after shown)
