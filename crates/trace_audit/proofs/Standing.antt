-- What was shown of a port stands until its head is popped or cleared.
use Rattle.std.proofs.Common.{◌≡◌, ℕ, zero, suc, ◌<◌, Bool, true, false, cond, List, [], ◌∷◌, ◌++◌, get_or, map, refl, sym, ◌∙◌, ap, arith, subst}
use Rattle.std.specs.Prelude.{Option, Some, None, is_some, unwrap_or, ◌&&◌, ◌||◌}
use Rattle.std.specs.List.{AllByRecursion}
use Rattle.std.proofs.lemmas.Bool.{and_from}
use Rattle.ftpp_base.specs.Bits.{eight}
use Rattle.ftpp_base.specs.declared.element.Proc.{Proc}
use Rattle.ftpp_base.proofs.Changed.{fold-keeps}
use Rattle.packet_format.specs.declared.acts.Act.{Act}
use Rattle.packet_format.specs.declared.acts.Act.TheVariants.{Post, Read}
use Rattle.packet_format.specs.declared.Descriptor.{Descriptor}
use Rattle.packet_format.specs.Packets.{no_descriptor, same_bytes, same_descriptor}
use Rattle.packet_format.proofs.Descriptors.{same_descriptor-refl}
use Rattle.local_pattern.specs.declared.Entry.{Entry}
use Rattle.local_pattern.specs.Pattern.{quiet, entry_of, entry_bytes, entry_from, read_entry, IsPlain}
use Rattle.local_pattern.proofs.RoundTrip.{read_entry-entry_bytes}
use Rattle.bit_vote.proofs.Majority.{same_cell-refl}
use Rattle.two_round.proofs.Agreement.{at_place}
use Rattle.config_table.specs.declared.decisions.Decision.{Decision}
use Rattle.config_table.specs.declared.decisions.Decision.TheVariants.{Idle, Discard, Exchange}
use Rattle.config_table.specs.Groups.{same_proc}
use Rattle.config_table.proofs.Procs.{same_proc-true, same_proc-refl}
use Rattle.config_table.specs.Table.{TableValue, out_limit}
use Rattle.flag_vote.specs.Flags.{Pattern}
use Rattle.processor_buffers.specs.Queues.{Queues, Posted, first, head_of, has_out_room, after_post, after_read, after_pop, no_queues}
use Rattle.element_core.specs.Processors.{AllQueues, queues_of, head_at, after_act, after_acts, cleared}
use Rattle.element_core.specs.Cycle.{after_service, admitted_members}
use Rattle.element_core.proofs.Places.{with_queues-keeps, fold-others}
use Rattle.trace_audit.specs.Known.{is_entry, keeps_head, is_among, still_entry, still_column, still_standing, popped}
use Rattle.trace_audit.specs.Laws.{request_of, Stands}

-- ---- what still stands

-- the entry of a port in a column that is made of each port
pub column_at : (f : ℕ → Entry) (port : ℕ) → port < 8 → get_or (map f eight) port quiet ≡ f port
column_at f zero l = refl
column_at f (suc zero) l = refl
column_at f (suc (suc zero)) l = refl
column_at f (suc (suc (suc zero))) l = refl
column_at f (suc (suc (suc (suc zero)))) l = refl
column_at f (suc (suc (suc (suc (suc zero))))) l = refl
column_at f (suc (suc (suc (suc (suc (suc zero)))))) l = refl
column_at f (suc (suc (suc (suc (suc (suc (suc zero))))))) l = refl
column_at f (suc (suc (suc (suc (suc (suc (suc (suc port)))))))) l = let never : ⊥ = omega arith in absurd never

-- a port's entry is as it was, unless its head went
pub still_at : (n : ℕ) (pattern : Pattern) (gone : List Proc) (proc : Proc) → proc.ne < n → proc.port < 8
    → entry_of (still_standing n pattern gone) proc ≡ cond (is_among gone proc) quiet (entry_of pattern proc)
unfolding still_standing still_column
still_at n pattern gone proc l m =
    ap (λ (column : List Entry). get_or column proc.port quiet) (at_place n (still_column pattern gone) proc.ne [] l)
    ∙ column_at (still_entry pattern gone proc.ne) proc.port m

stands_by : (b : Bool) (before : Entry) (head : Option Posted) → (b ≡ false → Stands before head) → Stands (cond b quiet before) head
stands_by true before head h = λ e. cc
stands_by false before head h = h refl

-- so it stands where it does for the ports whose heads did not go
pub still_stands : (n : ℕ) (pattern : Pattern) (gone : List Proc) (proc : Proc) (head : Option Posted) → proc.ne < n → proc.port < 8
    → (is_among gone proc ≡ false → Stands (entry_of pattern proc) head) → Stands (entry_of (still_standing n pattern gone) proc) head
still_stands n pattern gone proc head l m h =
    subst (λ (e : Entry). Stands e head) (sym (still_at n pattern gone proc l m)) (stands_by (is_among gone proc) (entry_of pattern proc) head h)

-- ---- queues

not_here : (a b : Bool) → (a || b) ≡ false → (a ≡ false) × (b ≡ false)
not_here true b e = cc
not_here false b e = (refl, e)

turned : (q proc : Proc) → same_proc proc q ≡ false → same_proc q proc ≡ false
turned q proc e = by (same_proc q proc) refl where
  by : (b : Bool) → same_proc q proc ≡ b → b ≡ false
  by true f = let same = same_proc-true q proc f in let yes : same_proc proc q ≡ true = ap (λ (r : Proc). same_proc proc r) same ∙ same_proc-refl proc in cc
  by false f = refl

-- those among which it is not are others
pub others_than : (procs : List Proc) (proc : Proc) → is_among procs proc ≡ false → AllByRecursion (λ q. same_proc q proc ≡ false) procs
others_than [] proc e = tt
others_than (q ∷ qs) proc e = let parts = not_here (same_proc proc q) (is_among qs proc) e in (turned q proc parts.0, others_than qs proc parts.1)

-- the queues of a processor that is not cleared stay
pub cleared_others : (all : AllQueues) (procs : List Proc) (proc : Proc) → is_among procs proc ≡ false → queues_of (cleared all procs) proc ≡ queues_of all proc
cleared_others all procs proc e = fold-others (λ q. no_queues) all procs proc (others_than procs proc e)

-- so do those of one that is not popped
pub service_others : (table : TableValue) (decision : Decision) (all : AllQueues) (proc : Proc) → is_among (popped table decision) proc ≡ false
    → queues_of (after_service table decision all) proc ≡ queues_of all proc
service_others table Idle all proc e = refl
service_others table (Discard vid desc number admitted waited) all proc e =
    fold-others (after_pop desc) all (admitted_members table vid admitted) proc (others_than (admitted_members table vid admitted) proc e)
service_others table (Exchange service) all proc e =
    fold-others (after_pop service.desc) all (admitted_members table service.vid service.admitted) proc (others_than (admitted_members table service.vid service.admitted) proc e)

-- ---- acts keep a head

abbrev HasHead : Descriptor → Queues → Type 0
HasHead desc q = request_of (head_of q) ≡ Some desc

first_kept : (desc : Descriptor) (xs : List Posted) (posted : Posted) → request_of (first xs) ≡ Some desc → request_of (first (xs ++ posted ∷ [])) ≡ Some desc
first_kept desc [] posted e = cc
first_kept desc (x ∷ xs) posted e = e

post_kept : (desc : Descriptor) (limit : ℕ) (posted : Posted) (q : Queues) → HasHead desc q → HasHead desc (after_post limit posted q)
post_kept desc limit posted q h = by (has_out_room limit q) where
  by : (b : Bool) → HasHead desc (cond b (record q { output = q.output ++ posted ∷ [] }) q)
  by true = first_kept desc q.output posted h
  by false = h

act_kept : (table : TableValue) (desc : Descriptor) (proc : Proc) (act : Act) (all : AllQueues) → HasHead desc (queues_of all proc) → HasHead desc (queues_of (after_act table all act) proc)
act_kept table desc proc (Post poster d packet) all h =
    with_queues-keeps (HasHead desc) (after_post (out_limit table poster) (d, packet)) all poster proc (λ q k. post_kept desc (out_limit table poster) (d, packet) q k) h
act_kept table desc proc (Read reader) all h = with_queues-keeps (HasHead desc) after_read all reader proc (λ q k. k) h

-- a head that stands stands after the acts
pub acts_stand : (table : TableValue) (all : AllQueues) (acts : List Act) (proc : Proc) (before : Entry) → Stands before (head_at all proc) → Stands before (head_at (after_acts table all acts) proc)
acts_stand table all acts proc before h e =
    fold-keeps (λ (x : AllQueues). HasHead before.desc (queues_of x proc)) (after_act table) acts all (λ x act i k. act_kept table before.desc proc act x k) (h e)

-- ---- entries that show heads

-- what a port shows of its head stands for it
pub shown_stands : (head : Option Posted) → is_some head ≡ true → request_of head ≡ Some (unwrap_or (request_of head) no_descriptor)
shown_stands None e = cc
shown_stands (Some posted) e = refl

-- a head that is there is shown
pub head_shown : (head : Option Posted) (desc : Descriptor) → request_of head ≡ Some desc → (is_some head ≡ true) × (unwrap_or (request_of head) no_descriptor ≡ desc)
head_shown None desc e = cc
head_shown (Some posted) desc e = (refl, cc)

bytes_same : (xs : List ℕ) → same_bytes xs xs ≡ true
bytes_same xs = same_cell-refl (Some xs)

from_bytes : (b c : Bool) (desc : Descriptor) → (b ≡ false → desc ≡ no_descriptor)
    → entry_from (entry_bytes (record { not_empty = b; not_full = c; desc = desc })) ≡ record { not_empty = b; not_full = c; desc = desc }
from_bytes true true desc plain = refl
from_bytes true false desc plain = refl
from_bytes false true desc plain = ap (λ (d : Descriptor). record { not_empty = false; not_full = true; desc = d }) (sym (plain refl))
from_bytes false false desc plain = ap (λ (d : Descriptor). record { not_empty = false; not_full = false; desc = d }) (sym (plain refl))

entry_good : (e : Entry) → IsPlain e → is_entry (entry_bytes e) ≡ true
entry_good e plain =
    ap (λ (x : Entry). same_bytes (entry_bytes e) (entry_bytes x)) (from_bytes e.not_empty e.not_full e.desc plain) ∙ bytes_same (entry_bytes e)

keeps_by : (b : Bool) (before e : Entry) → (b ≡ true → (e.not_empty ≡ true) × (e.desc ≡ before.desc)) → cond b (e.not_empty && same_descriptor e.desc before.desc) true ≡ true
keeps_by true before e h =
    let parts = h refl in
    and_from e.not_empty (same_descriptor e.desc before.desc) parts.0 (ap (λ (d : Descriptor). same_descriptor d before.desc) parts.1 ∙ same_descriptor-refl before.desc)
keeps_by false before e h = refl

-- the four bytes of a port show an entry, and the head that stands
pub port_good : (before e : Entry) → IsPlain e → (before.not_empty ≡ true → (e.not_empty ≡ true) × (e.desc ≡ before.desc))
    → (is_entry (entry_bytes e) && keeps_head before (read_entry (entry_bytes e))) ≡ true
port_good before e plain h =
    and_from (is_entry (entry_bytes e)) (keeps_head before (read_entry (entry_bytes e))) (entry_good e plain)
    (ap (keeps_head before) (read_entry-entry_bytes e plain) ∙ keeps_by before.not_empty before e h)
