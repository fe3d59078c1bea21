-- What the decision of a cycle that takes the next post of a group does: an exchange has its packet as the entry, a discard has its reason.
use Rattle.std.proofs.Common.{◌≡◌, ℕ, zero, suc, ◌-◌, ◌<◌, Bool, true, false, cond, List, [], ◌∷◌, length, refl, ap, arith, sym, ◌∙◌, subst, Contains, Option, Some, None, option_map, unwrap_or, IfSome, MatchOption, slice_get, ◌⊎◌, inl, inr, not}
use Rattle.std.specs.Prelude.{◌&&◌, ◌||◌, ◌==◌, nat_le, nat_lt, is_none}
use Rattle.std.specs.List.{AllByRecursion}
use Rattle.std.specs.Option.{option_or}
use Rattle.std.proofs.lemmas.Bool.{ltb-true, and_parts, not-false, not_from_false, false≢true}
use Rattle.std.proofs.lemmas.List.FromFn.{get_or-map-range_with_len}
use Rattle.ftpp_base.specs.Lists.{is_this, cell_at, each_below}
use Rattle.ftpp_base.specs.Sets.{has}
use Rattle.ftpp_base.specs.declared.element.Proc.{Proc}
use Rattle.ftpp_base.specs.declared.sets.Set8.{Set8}
use Rattle.packet_format.specs.declared.Descriptor.{Descriptor}
use Rattle.packet_format.specs.Packets.{same_descriptor}
use Rattle.bit_vote.specs.Vote.{Cell}
use Rattle.bit_vote.proofs.Majority.{AreCells}
use Rattle.config_table.specs.declared.groups.Group.{Group}
use Rattle.config_table.specs.declared.decisions.Kind.TheVariants.{Voted, Source, Every}
use Rattle.config_table.specs.declared.decisions.Service.{Service}
use Rattle.config_table.specs.declared.decisions.Decision.{Decision}
use Rattle.config_table.specs.declared.decisions.Decision.TheVariants.{Discard, Exchange}
use Rattle.config_table.specs.Groups.{live_members, members_of, is_live, live_count}
use Rattle.config_table.specs.Table.{TableValue, group_named}
use Rattle.flag_vote.specs.Flags.{Pattern, voted_flags}
use Rattle.scoreboard.specs.Board.{Scoreboard, Waiting, marked, starved_of}
use Rattle.scoreboard.specs.Choice.{Request, reason, is_expired, where_true, discard_reason, done_with, kind_of}
use Rattle.processor_buffers.specs.Queues.{Posted, first}
use Rattle.data_exchange.specs.Entries.{fault_free_members, is_fault_free, entry_at, packet_in}
use Rattle.element_core.specs.Processors.{AllQueues, queues_of, head_at}
use Rattle.element_core.specs.Cycle.{Input, packet_round, entry_in}
use Rattle.element_core.specs.Claims.{IsPastExpiry, is_from_faulty}
use Rattle.ftpp_base.proofs.Among.{contains-filter}
use Rattle.config_table.proofs.ValidTable.{members-range, members-apart, named-there}
use Rattle.config_table.proofs.LiveMembers.{live-member, live-apart, live-index}
use Rattle.data_exchange.proofs.FaultFree.{fault_free-live}
use Rattle.element_core.proofs.Accepted.{HasRow}
use Rattle.whole_run.proofs.NextQueues.{HasRows}
use Rattle.packet_format.proofs.Descriptors.{same_descriptor-refl}
use Rattle.whole_run.proofs.Heads.{voted-holder}
use Rattle.element_core.proofs.Chosen.{request_for, request-marked}
use Rattle.data_exchange.specs.Laws.{round_of}
use Rattle.data_exchange.proofs.AlikeEntry.{IsAlike, entry-alike}
use Rattle.whole_run.proofs.SkewCycle.{IsReady, IsTaken}

-- ---- a discard

-- a request that is past its expiry, by its receiver
expired_by : (o : Option Group) (starved : ℕ) (found : Option ℕ) → found ≡ Some starved → unwrap_or (option_map (λ (h : Group). nat_lt 0 h.tx && nat_lt h.tx starved) o) false ≡ true
    → MatchOption o ⊥ (λ (h : Group). (0 < h.tx) × MatchOption found ⊥ (λ (s : ℕ). h.tx < s))
expired_by None starved found f e = false≢true e
expired_by (Some h) starved found f e =
    let x = and_parts (nat_lt 0 h.tx) (nat_lt h.tx starved) e in
    (ltb-true 0 h.tx x.0, subst (λ (o : Option ℕ). MatchOption o ⊥ (λ (s : ℕ). h.tx < s)) (sym f) (ltb-true h.tx starved x.1))

-- a reason of the request, or its expiry
reason_by : (o : Option ℕ) (b : Bool) (number : ℕ) → option_or o (where_true b 6) ≡ Some number → (o ≡ Some number) ⊎ ((o ≡ None) × (number ≡ 6) × (b ≡ true))
reason_by None true number e = let same : number ≡ 6 = cc in inr (refl, same, refl)
reason_by None false number e = cc
reason_by (Some n) b number e = inl e

-- a discard has its number and its request
done_discard : (now : ℕ) (r : Request) (o : Option ℕ) (vid number waited : ℕ) (desc : Descriptor) (admitted : Set8) → done_with now r o ≡ Discard vid desc number admitted waited → (o ≡ Some number) × (r.desc ≡ desc)
done_discard now r None vid number waited desc admitted e = cc
done_discard now r (Some n) vid number waited desc admitted e =
    let same : n ≡ number = cc in let carried : r.desc ≡ desc = cc in (ap (λ (k : ℕ). Some k) same, carried)

-- the service that an exchange of a request makes
abbrev pub service_for : ℕ → Request → Service
service_for now r = record { vid = r.sender.vid; desc = r.desc; kind = kind_of r.sender r.desc; admitted = r.flags.holds; waited = now - r.since }

-- an exchange is of a request without a reason, and has its service
pub done_exchange : (now : ℕ) (r : Request) (o : Option ℕ) (service : Service) → done_with now r o ≡ Exchange service → (o ≡ None) × (service_for now r ≡ service)
done_exchange now r None service e = let same : service_for now r ≡ service = cc in (refl, same)
done_exchange now r (Some n) service e = cc

-- where there is no reason, the first is none
no_reason : (o p : Option ℕ) → option_or o p ≡ None → o ≡ None
no_reason None p e = refl
no_reason (Some n) p e = cc

-- nor is there one after it
next_reason : (o p : Option ℕ) → option_or o p ≡ None → p ≡ None
next_reason None p e = e
next_reason (Some n) p e = cc

-- a reason that is not there has no condition that holds
not_where : (b : Bool) (number : ℕ) → where_true b number ≡ None → b ≡ false
not_where true number e = cc
not_where false number e = refl

-- a lawful request of class 2 names a live source
source_live : (table : TableValue) (g : Group) (desc : Descriptor) → reason table g desc ≡ None → (desc.class == 2) ≡ true → is_live g desc.source ≡ true
unfolding reason
source_live table g desc e two =
    let a : Option ℕ = where_true (not (desc.class == 1 || desc.class == 2 || desc.class == 3)) 1 in
    let b : Option ℕ = where_true ((desc.class == 1 || desc.class == 2) && is_none (group_named table desc.dest)) 2 in
    let d : Option ℕ = where_true (desc.class == 2 && not (is_live g desc.source)) 3 in
    let rest : Option ℕ = option_or (where_true (desc.class == 3 && not (g.vid == table.manager)) 4) (where_true (desc.class == 3 && not (desc.dest == 0)) 5) in
    let none : d ≡ None = no_reason d rest (next_reason b (option_or d rest) (next_reason a (option_or b (option_or d rest)) e)) in
    let not_both = not_where (desc.class == 2 && not (is_live g desc.source)) 3 none in
    not-false (is_live g desc.source) (sym (ap (λ (x : Bool). x && not (is_live g desc.source)) two) ∙ not_both)

-- the kind of one source is the second choice
kind_by : (one two : Bool) (s t : ℕ) → cond one Voted (cond two (Source s) Every) ≡ Source t → (two ≡ true) × (s ≡ t)
kind_by true two s t e = cc
kind_by false true s t e = let same : s ≡ t = cc in (refl, same)
kind_by false false s t e = cc

-- the element of a member, if it is there
abbrev element_of : Option Proc → ℕ
element_of o = unwrap_or (option_map (λ (proc : Proc). proc.ne) o) 0

-- an exchange of one source is of class 2, from the element of the source
kind_source : (g : Group) (desc : Descriptor) (s : ℕ) → kind_of g desc ≡ Source s → ((desc.class == 2) ≡ true) × (element_of (slice_get (members_of g) desc.source) ≡ s)
unfolding kind_of
kind_source g desc s e = kind_by (desc.class == 1 && nat_le 3 (live_count g)) (desc.class == 2) (element_of (slice_get (members_of g) desc.source)) s e

-- there is a member of each index below their number
get_some : (xs : List Proc) (k : ℕ) → k < length xs → (x : Proc) × (slice_get xs k ≡ Some x)
get_some [] k l = let never : ⊥ = omega arith in absurd never
get_some (x ∷ xs) zero l = (x, refl)
get_some (x ∷ xs) (suc k) l = get_some xs k (omega arith)

-- the head of an output of such packets has 64 bytes
head_row : (xs : List Posted) → AllByRecursion HasRow xs → IfSome (first xs) HasRow
head_row [] a = tt
head_row (x ∷ xs) a = a.0

-- a head that is there
row_at : (o : Option Posted) (posted : Posted) → o ≡ Some posted → IfSome o HasRow → HasRow posted
row_at o posted e h = let P : Option Posted → Type 0 = λ x. IfSome x HasRow in subst P e h

-- a source that is not at the faulty element is a fault-free live member
source_good : (table : TableValue) (faulty : Option ℕ) (g : Group) (w : Waiting) (s : ℕ) → reason table g w.0 ≡ None → kind_of g w.0 ≡ Source s → is_this faulty s ≡ false → (p : Proc) × (Contains (fault_free_members faulty g) p) × (p.ne ≡ s)
source_good table faulty g w s lawful k good =
    let from = kind_source g w.0 s k in
    let live = source_live table g w.0 lawful from.0 in
    let l = ltb-true w.0.source (length (members_of g)) (and_parts (nat_lt w.0.source (length (members_of g))) (not (has g.masked w.0.source)) live).0 in
    let p = get_some (members_of g) w.0.source l in
    let at : p.0.ne ≡ s = sym (ap element_of p.1) ∙ from.1 in (
      p.0,
      contains-filter (is_fault_free faulty) (live_members g) p.0 (live-index g w.0.source p.0 live p.1) (not_from_false (is_this faulty p.0.ne) (ap (is_this faulty) at ∙ good)),
      at,
    )

module _ {table : TableValue} {now : ℕ} {board : Scoreboard} {pattern : Pattern} {all : AllQueues} {faulty : Option ℕ} {g : Group} {posts : Proc → List (ℕ × Posted)} {c : ℕ} where
  -- the number of a discard is the reason of the request, or 6 past its expiry
  pub taken-discard : IsReady table now board pattern all faulty g posts c → (decision : Decision) → IsTaken table now board pattern all faulty g posts c decision
      → (vid number waited : ℕ) (desc : Descriptor) (admitted : Set8) → decision ≡ Discard vid desc number admitted waited
      → (reason table g desc ≡ Some number) ⊎ ((reason table g desc ≡ None) × (number ≡ 6) × IsPastExpiry table (marked table (voted_flags table pattern) now board) g.vid desc)
  taken-discard r decision t vid number waited desc admitted e =
      let q : Request = request_for pattern g t.waiting in
      let d = done_discard now q (discard_reason table q) vid number waited desc admitted (sym t.done ∙ e) in
      let starved : starved_of (marked table (voted_flags table pattern) now board) g.vid ≡ Some t.waiting.2 =
      ap (option_map (λ (w : Waiting). w.2)) (request-marked table pattern now board g r.named ∙ t.marked) in
      let P : Descriptor → Type 0 = λ x. (reason table g x ≡ Some number) ⊎ ((reason table g x ≡ None) × (number ≡ 6) × IsPastExpiry table (marked table (voted_flags table pattern) now board) g.vid x) in
      subst P d.1 (by starved (reason_by (reason table g t.waiting.0) (is_expired table q) number d.0)) where
        by : starved_of (marked table (voted_flags table pattern) now board) g.vid ≡ Some t.waiting.2
            → (reason table g t.waiting.0 ≡ Some number) ⊎ ((reason table g t.waiting.0 ≡ None) × (number ≡ 6) × (is_expired table (request_for pattern g t.waiting) ≡ true))
            → (reason table g t.waiting.0 ≡ Some number)
            ⊎ ((reason table g t.waiting.0 ≡ None) × (number ≡ 6) × IsPastExpiry table (marked table (voted_flags table pattern) now board) g.vid t.waiting.0)
        by starved (inl unlawful) = inl unlawful
        by starved (inr late) =
            inr (late.0, late.1, expired_by (group_named table t.waiting.0.dest) t.waiting.2 (starved_of (marked table (voted_flags table pattern) now board) g.vid) starved late.2)

  -- what an exchange of the next post assumes
  alike : IsReady table now board pattern all faulty g posts c → (decision : Decision) (t : IsTaken table now board pattern all faulty g posts c decision)
      → ((p : Proc) → Contains (live_members g) p → HasRows (queues_of all p)) → (heard : List Cell) → AreCells 64 heard
      → IsAlike table (service_for now (request_for pattern g t.waiting)) (head_at all) faulty g t.posted heard
  alike r decision t rows heard cells =
      let there_is = (named-there table g.vid g r.named).0 in
      let holder = voted-holder pattern faulty g t.waiting.0 t.voted r.majority in
      record {
        named = r.named;
        apart = live-apart g (members-apart table r.valid g there_is);
        range = λ p m. (members-range table r.valid g there_is p (live-member g p m)).0;
        rows = λ p m. head_row (queues_of all p).output (rows p m);
        majority = r.majority;
        head = t.head;
        carried = ap (λ (d : Descriptor). same_descriptor d t.waiting.0) t.request ∙ same_descriptor-refl t.waiting.0;
        admitted = t.admitted;
        row = row_at (head_at all holder.0) t.posted (t.head holder.0 holder.1) (head_row (queues_of all holder.0).output (rows holder.0 (fault_free-live faulty g holder.0 holder.1).0));
        cells = cells;
      }

  -- the cell at an element
  cell_alike : IsReady table now board pattern all faulty g posts c → (decision : Decision) (t : IsTaken table now board pattern all faulty g posts c decision)
      → ((p : Proc) → Contains (live_members g) p → HasRows (queues_of all p)) → (heard : List Cell) → AreCells 64 heard
      → reason table g t.waiting.0 ≡ None → is_from_faulty faulty (kind_of g t.waiting.0) ≡ false → (receiver : ℕ)
      → entry_at table (service_for now (request_for pattern g t.waiting)) (round_of table (service_for now (request_for pattern g t.waiting)) (head_at all) faulty heard) receiver ≡ Some t.posted.1.bytes
  unfolding entry_at
  cell_alike r decision t rows heard cells lawful good receiver =
      entry-alike table (service_for now (request_for pattern g t.waiting)) (head_at all) faulty g t.posted heard receiver (kind_of g t.waiting.0) (alike r decision t rows heard cells) refl
      (λ s k. source_good table faulty g t.waiting s lawful k (sym (ap (is_from_faulty faulty) k) ∙ good))

  -- the entry of an exchange at every element
  pub taken-entry : IsReady table now board pattern all faulty g posts c → (decision : Decision) (t : IsTaken table now board pattern all faulty g posts c decision)
      → ((p : Proc) → Contains (live_members g) p → HasRows (queues_of all p)) → (input : Input) → input.faulty ≡ faulty → AreCells 64 input.packets
      → (service : Service) → decision ≡ Exchange service → is_from_faulty faulty service.kind ≡ false → (ne : ℕ) → ne < table.n
      → cell_at (each_below table.n (entry_in table decision (packet_round table all decision input))) ne ≡ Some t.posted.1
  taken-entry r decision t rows input fits cells service e good ne l =
      let q : Request = request_for pattern g t.waiting in
      let d = done_exchange now q (discard_reason table q) service (sym t.done ∙ e) in
      let own : Service = service_for now q in
      let lawful : reason table g t.waiting.0 ≡ None = no_reason (reason table g t.waiting.0) (where_true (is_expired table q) 6) d.0 in
      let good_own : is_from_faulty faulty (kind_of g t.waiting.0) ≡ false = ap (λ (x : Service). is_from_faulty faulty x.kind) d.1 ∙ good in
      get_or-map-range_with_len (entry_in table decision (packet_round table all decision input)) 0 table.n ne ne None l (omega arith)
      ∙ ap (λ (x : Decision). entry_in table x (packet_round table all x input) ne) (e ∙ ap (λ (x : Service). Exchange x) (sym d.1))
      ∙ ap (λ (f : Option ℕ). packet_in (entry_at table own (round_of table own (head_at all) f input.packets) ne)) fits
      ∙ ap packet_in (cell_alike r decision t rows input.packets cells lawful good_own ne)
