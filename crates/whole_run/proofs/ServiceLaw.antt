-- A lawful request that is held alike is served within its longest wait, while its receiver keeps space.
use Rattle.std.proofs.Common.{◌≡◌, ℕ, suc, zero, ◌+◌, ◌-◌, ◌<◌, ◌≤◌, true, false, List, length, refl, ap, sym, ◌∙◌, arith, subst}
use Rattle.std.specs.Prelude.{Option, Some, None, All}
use Rattle.std.proofs.lemmas.Option.{MatchOption-at_some}
use Rattle.ftpp_base.specs.declared.element.Proc.{Proc}
use Rattle.ftpp_base.proofs.Items.{IsItem, item_filter, find_item, item_all}
use Rattle.config_table.specs.declared.groups.Group.{Group}
use Rattle.config_table.specs.declared.decisions.GroupFlags.{GroupFlags}
use Rattle.config_table.specs.declared.decisions.Decision.{Decision}
use Rattle.config_table.specs.Groups.{live_members}
use Rattle.config_table.specs.Table.{TableValue, IsValid, group_named, is_named}
use Rattle.flag_vote.specs.Flags.{Pattern, flags_of, voted_flags}
use Rattle.processor_buffers.specs.Queues.{Posted}
use Rattle.scoreboard.specs.Board.{Scoreboard, Waiting, line_of}
use Rattle.scoreboard.specs.Choice.{reason, scoreboard_decision, scoreboard_after}
use Rattle.scoreboard.specs.Service.{takes_of, Serves, longest_wait, IsUntaken, IsAsked, AwaitsFrom, TakesBut}
use Rattle.scoreboard.proofs.Bound.{serves_takes, served_in_time}
use Rattle.data_exchange.specs.Entries.{is_fault_free, fault_free_members, fault_free_majority, held_alike}
use Rattle.element_core.specs.Processors.{AllQueues, queues_of, head_at, entry_shown, emptied_at}
use Rattle.element_core.specs.Cycle.{State, Input, Shown, after_service}
use Rattle.element_core.specs.Run.{Journal, state_at, input_at, shown_at, IsJournal}
use Rattle.element_core.specs.Premises.{held_alike_in, HasRoom, KeepsSpaceFor}
use Rattle.element_core.specs.Claims.{RunsServeInTime}
use Rattle.element_core.proofs.RunLaws.{state_at-suc}
use Rattle.whole_run.proofs.QueueLaws.{BeginsWith, acts_kept, deliveries_kept, service_other, live_member}
use Rattle.element_core.proofs.CycleLaws.{IsOld, old_line, is_step, leaves, dated_at}
use Rattle.element_core.proofs.Calm.{state_at-cycle}
use Rattle.element_core.proofs.ShownFields.{faulty_stays}
use Rattle.whole_run.proofs.AlikeFlags.{pattern_in, voted_alike, takes_but}
use Rattle.element_core.proofs.Chosen.{flags_named-group}
use Rattle.data_exchange.proofs.CommonHead.{alike_parts, common-all}

-- ---- a head that is held alike

-- What a head held alike means: a fault-free majority, and each of these has it.
record EachHas (faulty : Option ℕ) (heads : Proc → Option Posted) (g : Group) (posted : Posted) : Type 0 where
  majority : fault_free_majority faulty g ≡ true
  each : (p : Proc) → IsItem (fault_free_members faulty g) p → heads p ≡ Some posted

-- a head that is held alike means that
alike : (faulty : Option ℕ) (heads : Proc → Option Posted) (g : Group) (posted : Posted) → held_alike faulty heads g ≡ Some posted → EachHas faulty heads g posted
alike faulty heads g posted e =
    let parts = alike_parts faulty heads g posted e in
    record {
      majority = parts.0;
      each = λ p i. item_all (λ q. heads q ≡ Some posted) (fault_free_members faulty g) p (common-all heads posted (fault_free_members faulty g) parts.1) i;
    }

-- ---- a request of a run

-- A lawful request that is held alike in a cycle of a run, while its receiver keeps space.
record Held : Type 0 where
  table : TableValue
  first : Option ℕ
  journal : Journal
  t : ℕ
  g : Group
  head : Posted
  valid : IsValid table
  follows : IsJournal first journal
  within : t < length journal
  named : group_named (shown_at table journal t).table g.vid ≡ Some g
  held : held_alike_in (shown_at table journal t) g ≡ Some head
  lawful : reason (shown_at table journal t).table g head.0 ≡ None
  long : t + longest_wait (shown_at table journal t).table g head.0 ≤ length journal
  keeps : (u : ℕ) → t ≤ u → u < length journal → ((k : ℕ) → t ≤ k → k < u → Serves (shown_at table journal k).decision g.vid head.0 → ⊥) → KeepsSpaceFor table journal head.0 t u

-- the state at the beginning of a cycle
abbrev state : Held → ℕ → State
state x u = state_at x.table x.journal u

-- what came from outside in a cycle
abbrev input : Held → ℕ → Input
input x u = input_at x.journal u

-- what a cycle showed
abbrev shown : Held → ℕ → Shown
shown x u = shown_at x.table x.journal u

-- the table and the faulty element of its first cycle
abbrev kept_table : Held → TableValue
kept_table x = (shown x x.t).table

-- the faulty element of its first cycle
abbrev kept_faulty : Held → Option ℕ
kept_faulty x = (input x x.t).faulty

-- what a cycle decided
abbrev decision : Held → ℕ → Decision
decision x u = (shown x u).decision

-- no cycle before has taken the group
abbrev untaken : Held → ℕ → Type 0
untaken x u = IsUntaken (decision x) x.g.vid x.t u

-- the receiver keeps space until the group is taken
keeps_space : (x : Held) (u : ℕ) → x.t ≤ u → u < length x.journal → untaken x u → KeepsSpaceFor x.table x.journal x.head.0 x.t u
keeps_space x u l m n = x.keeps u l m (λ k a b s. let yields = serves_takes (decision x k) x.g.vid x.head.0 s in let none = n k a b in cc)

-- the table at its first cycle is valid, and the group one of it
table_valid : (x : Held) → IsValid (kept_table x)
table_valid x =
    let l = x.within in
    subst IsValid (sym (is_step (state x x.t) (input x x.t)).table) (dated_at x.table x.journal x.t x.valid (omega arith)).valid

-- the group is one of that table
group_listed : (x : Held) → IsItem (kept_table x).groups x.g
group_listed x = (find_item (is_named x.g.vid) (kept_table x).groups x.g x.named).0

-- What stands in a cycle while the group is not taken: the table, the faulty element, and the head at each fault-free live member.
record Stays (x : Held) (u : ℕ) : Type 0 where
  table : (state x u).table ≡ kept_table x
  faulty : (input x u).faulty ≡ kept_faulty x
  heads : (p : Proc) → IsItem (fault_free_members (kept_faulty x) x.g) p → head_at (shown x u).queues p ≡ Some x.head

-- in its first cycle the head is alike, by the faulty element of the input
alike_first : (x : Held) → EachHas (kept_faulty x) (head_at (shown x x.t).queues) x.g x.head
alike_first x =
    let h = alike (shown x x.t).patterns.faulty (head_at (shown x x.t).queues) x.g x.head x.held in
    let P : Option ℕ → Type 0 = λ f. EachHas f (head_at (shown x x.t).queues) x.g x.head in
    subst P (ap (λ r. r.faulty) (is_step (state x x.t) (input x x.t)).patterns) h

-- all that stands in its first cycle
stays_first : (x : Held) → Stays x x.t
stays_first x = record { table = sym (is_step (state x x.t) (input x x.t)).table; faulty = refl; heads = (alike_first x).each }

-- the heads in the next cycle
heads_next : (x : Held) (u : ℕ) → (shown x u).changed ≡ None → (input x (suc u)).rejoined ≡ None → suc u < length x.journal → takes_of x.g.vid (decision x u) ≡ false → Stays x u
    → (p : Proc) → IsItem (fault_free_members (kept_faulty x) x.g) p → head_at (shown x (suc u)).queues p ≡ Some x.head
heads_next x u same alone l none s p i =
    let member = live_member x.g p (item_filter (is_fault_free (kept_faulty x)) (live_members x.g) p i).0 in
    let left = leaves (state x u) (input x u) same in
    let P : AllQueues → Type 0 = λ all. BeginsWith x.head (queues_of all p) in
    let Q : TableValue → Type 0 = λ t. P (after_service t (decision x u) (shown x u).queues) in
    let served : P (after_service (kept_table x) (decision x u) (shown x u).queues) =
    subst (BeginsWith x.head) (sym (service_other (kept_table x) (decision x u) (shown x u).queues p x.g (table_valid x) (group_listed x) member none)) (s.heads p i) in
    let delivered = deliveries_kept (state x u).table (state x u).cycle (decision x u) (shown x u).entries (after_service (state x u).table (decision x u) (shown x u).queues) p x.head
    (subst Q (sym s.table) served) in
    let stands : P (state x (suc u)).queues =
    subst P (sym (ap (λ r. r.queues) (state_at-suc x.table x.journal u (omega arith)) ∙ left.queues)) delivered in
    let whole : P (emptied_at (state x (suc u)).queues (input x (suc u)).rejoined) = subst (λ o. P (emptied_at (state x (suc u)).queues o)) (sym alone) stands in
    subst P (sym (is_step (state x (suc u)) (input x (suc u))).queues)
    (acts_kept (state x (suc u)).table (emptied_at (state x (suc u)).queues (input x (suc u)).rejoined) (input x (suc u)).acts p x.head whole)

-- and in the next, if the group was not taken
stays_next : (x : Held) (u : ℕ) → x.t ≤ u → suc u < length x.journal → untaken x (suc u) → Stays x u → Stays x (suc u)
stays_next x u l m n s =
    let still = (keeps_space x (suc u) (omega arith) m n).0 in
    let same = still.no_update u l (omega arith) in
    let alone = still.no_rejoin (suc u) (omega arith) (omega arith) in
    let left = leaves (state x u) (input x u) same in
    record {
      table = ap (λ r. r.table) (state_at-suc x.table x.journal u (omega arith)) ∙ left.table ∙ s.table;
      faulty = faulty_stays x.first x.journal u x.follows m alone ∙ s.faulty;
      heads = heads_next x u same alone m (n u l (omega arith)) s;
    }

-- what was not taken before a cycle was not before an earlier one
fewer : (x : Held) (u v : ℕ) → v ≤ u → untaken x u → untaken x v
fewer x u v l n k a b = n k a (omega arith)

-- some cycles after the first
stays_for : (m : ℕ) (x : Held) (u : ℕ) → u ≡ x.t + m → u < length x.journal → untaken x u → Stays x u
stays_for zero x u e l n = let same : x.t ≡ u = omega arith in subst (Stays x) same (stays_first x)
stays_for (suc m) x zero e l n = let never : ⊥ = omega arith in absurd never
stays_for (suc m) x (suc u) e l n =
    stays_next x u (omega arith) l n (stays_for m x u (omega arith) (omega arith) (fewer x (suc u) u (omega arith) n))

-- in each cycle until it is taken
stays : (x : Held) (u : ℕ) → x.t ≤ u → u < length x.journal → untaken x u → Stays x u
stays x u l m n = stays_for (u - x.t) x u (omega arith) m n

-- ---- it is asked for in each of them

-- the flags of a cycle, by the table of the first
abbrev flags : Held → ℕ → List GroupFlags
flags x u = voted_flags (kept_table x) (shown x u).pattern

-- the scoreboard at the beginning of a cycle
abbrev board : Held → ℕ → Scoreboard
board x u = (state x u).scoreboard

-- the agreed pattern, by the table of the first cycle
pattern_is : (x : Held) (u : ℕ) → Stays x u → (shown x u).pattern ≡ pattern_in (kept_table x) (shown x u).queues (input x u)
pattern_is x u s = (is_step (state x u) (input x u)).pattern ∙ ap (λ t. pattern_in t (shown x u).queues (input x u)) s.table

-- the request is voted
voted_in : (x : Held) (u : ℕ) → Stays x u → (flags_of (shown x u).pattern x.g).desc ≡ Some x.head.0
voted_in x u s =
    let M : Option ℕ → Type 0 = λ f. fault_free_majority f x.g ≡ true in
    let H : Option ℕ → Type 0 = λ f. (p : Proc) → IsItem (fault_free_members f x.g) p → head_at (shown x u).queues p ≡ Some x.head in
    ap (λ pattern. (flags_of pattern x.g).desc) (pattern_is x u s)
    ∙ voted_alike (kept_table x) (shown x u).queues (input x u) x.g x.head (table_valid x) (group_listed x) (subst M (sym s.faulty) (alike_first x).majority) (subst H (sym s.faulty) s.heads)

-- the receiver's fault-free members have room, by the table and the faulty element of the first cycle
room_in : (x : Held) (u : ℕ) (d : Group) → Stays x u → group_named (kept_table x) x.head.0.dest ≡ Some d → HasRoom (shown x u) d → TakesBut (kept_faulty x) d (flags_of (shown x u).pattern d)
room_in x u d s named room =
    let is = is_step (state x u) (input x u) in
    let who : (shown x u).patterns.faulty ≡ (input x u).faulty = ap (λ r. r.faulty) is.patterns in
    let A : TableValue → Type 0 = λ t. All (λ p. (entry_shown t (shown x u).queues p).not_full ≡ true) (fault_free_members (shown x u).patterns.faulty d) in
    let B : Option ℕ → Type 0 = λ f. All (λ p. (entry_shown (kept_table x) (shown x u).queues p).not_full ≡ true) (fault_free_members f d) in
    let M : Option ℕ → Type 0 = λ f. fault_free_majority f d ≡ true in
    let T : Option ℕ → Type 0 = λ f. TakesBut f d (flags_of (pattern_in (kept_table x) (shown x u).queues (input x u)) d) in
    let U : Pattern → Type 0 = λ pattern. TakesBut (kept_faulty x) d (flags_of pattern d) in
    let takes = takes_but (kept_table x) (shown x u).queues (input x u) d (table_valid x) (find_item (is_named x.head.0.dest) (kept_table x).groups d named).0
    (subst M who room.majority) (subst B who (subst A (is.table ∙ s.table) room.room)) in
    subst U (sym (pattern_is x u s)) (subst T s.faulty takes)

-- so it is asked for
asked_in : (x : Held) (u : ℕ) → x.t ≤ u → u < length x.journal → untaken x u → IsAsked (kept_table x) x.g x.head.0 (kept_faulty x) (flags x u)
asked_in x u l m n =
    let s = stays x u l m n in
    let space = keeps_space x u l m n in
    let same : (shown x u).table ≡ kept_table x = (is_step (state x u) (input x u)).table ∙ s.table in
    record {
      voted = (flags_of (shown x u).pattern x.g, flags_named-group (kept_table x) (shown x u).pattern x.g.vid x.g x.named, voted_in x u s);
      room = λ class d named. (
        flags_of (shown x u).pattern d,
        flags_named-group (kept_table x) (shown x u).pattern x.head.0.dest d named,
        room_in x u d s named (MatchOption-at_some ⊥ (HasRoom (shown x u)) d (ap (λ t. group_named t x.head.0.dest) same ∙ named) ((space.1 class).room u l (omega arith))),
      );
    }

-- each decision is that of the scoreboard
decides_in : (x : Held) (u : ℕ) → x.t ≤ u → u < length x.journal → untaken x u → decision x u ≡ scoreboard_decision (kept_table x) u (flags x u) (board x u)
decides_in x u l m n =
    let e = (stays x u l m n).table in
    let c = state_at-cycle x.table x.journal u (omega arith) in
    (is_step (state x u) (input x u)).decision ∙ (λ i. scoreboard_decision (e i) (c i) (voted_flags (e i) (shown x u).pattern) (board x u))

-- and each scoreboard that after the cycle before
follows_in : (x : Held) (u : ℕ) → x.t ≤ u → suc u < length x.journal → untaken x (suc u) → board x (suc u) ≡ scoreboard_after (kept_table x) u (flags x u) (board x u)
follows_in x u l m n =
    let e = (stays x u l (omega arith) (fewer x (suc u) u (omega arith) n)).table in
    let c = state_at-cycle x.table x.journal u (omega arith) in
    let still = (keeps_space x (suc u) (omega arith) m n).0 in
    ap (λ r. r.scoreboard) (state_at-suc x.table x.journal u (omega arith))
    ∙ (leaves (state x u) (input x u) (still.no_update u l (omega arith))).scoreboard
    ∙ (λ i. scoreboard_after (e i) (c i) (voted_flags (e i) (shown x u).pattern) (board x u))

-- so it is awaited
awaits : (x : Held) → AwaitsFrom (kept_table x) x.g x.head.0 (kept_faulty x) x.t (flags x) (board x) (decision x)
awaits x = let long = x.long in record {
  asked = λ u l m n. asked_in x u l (omega arith) n;
  decides = λ u l m n. decides_in x u l (omega arith) n;
  follows = λ u l m n. follows_in x u l (omega arith) n;
}

-- no request of its first cycle waits since a later one
old_first : (x : Held) (w : Waiting) → (line_of (board x x.t) x.g.vid).request ≡ Some w → w.1 ≤ x.t
old_first x w e =
    let within = x.within in
    let dated = dated_at x.table x.journal x.t x.valid (omega arith) in
    let l : IsOld (state x x.t).cycle (Some w) = subst (IsOld (state x x.t).cycle) e (old_line (state x x.t).cycle x.g.vid (board x x.t) dated.old) in
    let c = state_at-cycle x.table x.journal x.t (omega arith) in
    subst (λ n. w.1 ≤ n) c l

-- and served
held_served : (x : Held) → (k : ℕ) × (x.t ≤ k) × (k < x.t + longest_wait (kept_table x) x.g x.head.0) × Serves (decision x k) x.g.vid x.head.0
held_served x =
    served_in_time (kept_table x) x.g x.head.0 (kept_faulty x) x.t (flags x) (board x) (decision x) (table_valid x) x.named x.lawful (old_first x) (awaits x)

-- every run serves a lawful request that is held alike within its longest wait, while its receiver keeps space
pub runs_serve_in_time : RunsServeInTime
runs_serve_in_time table first journal valid follows t g head within named held lawful long keeps =
    let x : Held = record {
      table = table;
      first = first;
      journal = journal;
      t = t;
      g = g;
      head = head;
      valid = valid;
      follows = follows;
      within = within;
      named = named;
      held = held;
      lawful = lawful;
      long = long;
      keeps = keeps;
    } in
    held_served x
