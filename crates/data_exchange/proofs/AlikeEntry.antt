-- The entry of an exchange of a request that all fault-free live members have at their heads is their packet.
use Rattle.std.proofs.Common.{◌≡◌, ℕ, zero, suc, ◌<◌, Bool, true, false, cond, List, [], ◌∷◌, length, get_or, refl, ap, arith, sym, ◌∙◌, subst, Contains, Option, Some, None, option_map, unwrap_or, IfSome, remove, not}
use Rattle.std.specs.Prelude.{◌&&◌, ◌==◌}
use Rattle.std.specs.List.{AllByRecursion}
use Rattle.std.proofs.lemmas.Bool.{eq-eqb, ne_eqb, and_from}
use Rattle.std.proofs.lemmas.List.FromFn.{get_or-map-range_with_len}
use Rattle.ftpp_base.specs.Lists.{cell_at, is_this}
use Rattle.ftpp_base.specs.Sets.{has}
use Rattle.ftpp_base.specs.declared.element.Proc.{Proc}
use Rattle.packet_format.specs.Packets.{same_descriptor}
use Rattle.packet_format.specs.declared.Descriptor.{Descriptor}
use Rattle.bit_vote.specs.Vote.{Cell, IsCell}
use Rattle.bit_vote.specs.Agreed.{FirstRound, agreed, copy_at, heard_by_others}
use Rattle.bit_vote.proofs.Majority.{AreCells}
use Rattle.config_table.specs.declared.groups.Group.{Group}
use Rattle.config_table.specs.declared.decisions.Kind.{Kind}
use Rattle.config_table.specs.declared.decisions.Kind.TheVariants.{Voted, Source, Every}
use Rattle.config_table.specs.declared.decisions.Service.{Service}
use Rattle.config_table.specs.Groups.{live_members}
use Rattle.config_table.specs.Table.{TableValue, group_named}
use Rattle.processor_buffers.specs.Queues.{Posted, carries}
use Rattle.data_exchange.specs.Entries.{contributes, contribution, may_send, member_at, own_row, packet_of_head, senders, members_vote, entry_by, fault_free_members, fault_free_majority}
use Rattle.data_exchange.proofs.EntryLaws.{members_vote-alike}
use Rattle.ftpp_base.proofs.Among.{each, one_of, find-passes, either}
use Rattle.data_exchange.specs.Laws.{HasRow, round_of}
use Rattle.config_table.proofs.ValidTable.{AreApart}
use Rattle.data_exchange.proofs.FaultFree.{fault_free-live}
use Rattle.bit_vote.proofs.Widths.{vote-cell, cells-map, cells-remove, cells-at}
use Rattle.bit_vote.proofs.Copies.{copy-fine, agreed-fine}

-- the live members of a named group send
pub senders-named : (table : TableValue) (vid : ℕ) (g : Group) → group_named table vid ≡ Some g → senders table vid ≡ live_members g
senders-named table vid g named = ap (λ (o : Option Group). unwrap_or (option_map live_members o) []) named

-- ---- the member at an element

-- whether a processor stands at the element
abbrev stands_at : ℕ → Proc → Bool
stands_at ne p = p.ne == ne

-- one step: a member at another element is passed over
member_by : (q p : Proc) (qs : List Proc) (k : ℕ) → (l : suc k < suc (length qs)) → get_or qs k p ≡ p → AllByRecursion (λ r. q.ne ≡ r.ne → ⊥) qs → member_at qs p.ne ≡ Some p
    → cond (q.ne == p.ne) (Some q) (member_at qs p.ne) ≡ Some p
member_by q p qs k l e apart rec =
    let c : Contains qs p = (k, omega arith, e) in
    ap (λ (b : Bool). cond b (Some q) (member_at qs p.ne)) (ne_eqb q.ne p.ne (one_of (λ r. q.ne ≡ r.ne → ⊥) qs p apart c)) ∙ rec

-- among members at elements of their own, that of an element is the one that stands there
pub member_at-apart : (procs : List Proc) (p : Proc) → AreApart procs → Contains procs p → member_at procs p.ne ≡ Some p
member_at-apart [] p a c = let l = c.1 in let never : ⊥ = omega arith in absurd never
member_at-apart (q ∷ qs) p a (zero, l, e) =
    ap (λ (b : Bool). cond b (Some q) (member_at qs p.ne)) (eq-eqb q.ne p.ne (ap (λ (r : Proc). r.ne) e)) ∙ ap (λ (r : Proc). Some r) e
member_at-apart (q ∷ qs) p a (suc k, l, e) = member_by q p qs k l e a.0 (member_at-apart qs p a.1 (k, omega arith, e))

-- ---- what is assumed of an exchange

-- The fault-free live members of the group that is served are more than half of the live ones, all have one head that carries the request, and are admitted; all cells have 64 bytes.
pub record IsAlike (table : TableValue) (service : Service) (heads : Proc → Option Posted) (faulty : Option ℕ) (g : Group) (posted : Posted) (heard : List Cell) : Type 0 where
  pub named : group_named table service.vid ≡ Some g
  pub apart : AreApart (live_members g)
  pub range : (p : Proc) → Contains (live_members g) p → p.ne < table.n
  pub rows : (p : Proc) → Contains (live_members g) p → IfSome (heads p) HasRow
  pub majority : fault_free_majority faulty g ≡ true
  pub head : (p : Proc) → Contains (fault_free_members faulty g) p → heads p ≡ Some posted
  pub carried : same_descriptor posted.0 service.desc ≡ true
  pub admitted : (p : Proc) → Contains (fault_free_members faulty g) p → has service.admitted p.ne ≡ true
  pub row : HasRow posted
  pub cells : AreCells 64 heard

-- ---- what each element has of its own

-- an element's own value
own_at : (table : TableValue) (service : Service) (heads : Proc → Option Posted) (faulty : Option ℕ) (heard : List Cell) (ne : ℕ) → ne < table.n
    → cell_at (round_of table service heads faulty heard).own ne ≡ own_row table heads service ne
own_at table service heads faulty heard ne l = get_or-map-range_with_len (own_row table heads service) 0 table.n ne ne None l (omega arith)

-- what a member's element contributes
abbrev packet_by : Service → (Proc → Option Posted) → Option Proc → Cell
packet_by service heads o = unwrap_or (option_map (λ proc. packet_of_head service.desc (heads proc)) o) None

-- a fault-free live member's element has the packet of the common head
own_good : (table : TableValue) (service : Service) (heads : Proc → Option Posted) (faulty : Option ℕ) (g : Group) (posted : Posted) (heard : List Cell)
    → IsAlike table service heads faulty g posted heard → (p : Proc) → Contains (fault_free_members faulty g) p → contributes service p.ne ≡ true
    → cell_at (round_of table service heads faulty heard).own p.ne ≡ Some posted.1.bytes
own_good table service heads faulty g posted heard a p c yes_sends =
    let live = (fault_free-live faulty g p c).0 in
    own_at table service heads faulty heard p.ne (a.range p live)
    ∙ ap (λ (b : Bool). cond b (packet_by service heads (member_at (senders table service.vid) p.ne)) None) yes_sends
    ∙ ap (λ (procs : List Proc). packet_by service heads (member_at procs p.ne)) (senders-named table service.vid g a.named)
    ∙ ap (packet_by service heads) (member_at-apart (live_members g) p a.apart live)
    ∙ ap (packet_of_head service.desc) (a.head p c)
    ∙ ap (λ (b : Bool). cond b (Some posted.1.bytes) None) a.carried

-- a head gives a cell of 64 bytes
head_cell : (desc : Descriptor) (head : Option Posted) → IfSome head HasRow → IsCell 64 (packet_of_head desc head)
head_cell desc None h = tt
head_cell desc (Some posted) h = by (carries (Some posted) desc) where
  by : (b : Bool) → IsCell 64 (cond b (Some posted.1.bytes) None)
  by true = h
  by false = tt

-- so does a member, if it is there
member_cell : (service : Service) (heads : Proc → Option Posted) (procs : List Proc) (ne : ℕ) (o : Option Proc) → ((p : Proc) → Contains procs p → IfSome (heads p) HasRow) → member_at procs ne ≡ o
    → IsCell 64 (packet_by service heads o)
member_cell service heads procs ne None h e = tt
member_cell service heads procs ne (Some p) h e = head_cell service.desc (heads p) (h p (find-passes (stands_at ne) procs p e).0)

-- the own value of each live member's element is a cell of 64 bytes
own_cell : (table : TableValue) (service : Service) (heads : Proc → Option Posted) (faulty : Option ℕ) (g : Group) (posted : Posted) (heard : List Cell)
    → IsAlike table service heads faulty g posted heard → (p : Proc) → Contains (live_members g) p → IsCell 64 (cell_at (round_of table service heads faulty heard).own p.ne)
own_cell table service heads faulty g posted heard a p c =
    let procs = senders table service.vid in
    let same : procs ≡ live_members g = senders-named table service.vid g a.named in
    let there_are : (q : Proc) → Contains procs q → IfSome (heads q) HasRow = λ q d. a.rows q (subst (λ (ps : List Proc). Contains ps q) same d) in
    subst (IsCell 64) (sym (own_at table service heads faulty heard p.ne (a.range p c)))
    (either (IsCell 64) (contributes service p.ne) (packet_by service heads (member_at procs p.ne)) None (member_cell service heads procs p.ne (member_at procs p.ne) there_are refl) tt)

-- ---- what each element has of the others

-- each copy is a cell of 64 bytes
copy_cell : (round : FirstRound) (receiver ne : ℕ) → AreCells 64 round.heard → IsCell 64 (cell_at round.own ne) → IsCell 64 (copy_at round receiver ne)
unfolding copy_at
copy_cell round receiver ne h own = either (IsCell 64) (is_this round.faulty ne && not (receiver == ne)) (cell_at round.heard receiver) (cell_at round.own ne) (cells-at 64 round.heard receiver h) own

-- and each agreed value
agreed_cell : (round : FirstRound) (ne : ℕ) → AreCells 64 round.heard → IsCell 64 (cell_at round.own ne) → IsCell 64 (agreed round ne)
unfolding agreed
agreed_cell round ne h own =
    either (IsCell 64) (is_this round.faulty ne) (heard_by_others round ne) (cell_at round.own ne) (vote-cell 64 (remove round.heard ne) (cells-remove 64 round.heard ne h)) own

-- ---- the entry

-- the vote over the members, by values that are an element's own where it is fault-free
vote_good : (table : TableValue) (service : Service) (heads : Proc → Option Posted) (faulty : Option ℕ) (g : Group) (posted : Posted) (heard : List Cell) (value : ℕ → Cell)
    → IsAlike table service heads faulty g posted heard
    → ((p : Proc) → Contains (fault_free_members faulty g) p → value p.ne ≡ cell_at (round_of table service heads faulty heard).own p.ne)
    → ((p : Proc) → Contains (live_members g) p → IsCell 64 (value p.ne))
    → ((ne : ℕ) → may_send service.kind ne ≡ true)
    → members_vote table service value ≡ Some posted.1.bytes
vote_good table service heads faulty g posted heard value a own cells all_send =
    members_vote-alike 64 table service value faulty g (Some posted.1.bytes) a.named a.row
    (cells-map 64 (λ (proc : Proc). contribution service value proc.ne) (live_members g)
    (each (λ proc. IsCell 64 (contribution service value proc.ne)) (live_members g) (λ p c. either (IsCell 64) (contributes service p.ne) (value p.ne) None (cells p c) tt)))
    a.majority
    (each (λ proc. contribution service value proc.ne ≡ Some posted.1.bytes) (fault_free_members faulty g) (λ p c.
    let yes_sends : contributes service p.ne ≡ true = and_from (has service.admitted p.ne) (may_send service.kind p.ne) (a.admitted p c) (all_send p.ne) in
    ap (λ (b : Bool). cond b (value p.ne) None) yes_sends ∙ own p c ∙ own_good table service heads faulty g posted heard a p c yes_sends))

-- the entry at every element, where a source is a fault-free live member
pub entry-alike : (table : TableValue) (service : Service) (heads : Proc → Option Posted) (faulty : Option ℕ) (g : Group) (posted : Posted) (heard : List Cell) (receiver : ℕ) (kind : Kind)
    → IsAlike table service heads faulty g posted heard → service.kind ≡ kind
    → ((s : ℕ) → kind ≡ Source s → (p : Proc) × (Contains (fault_free_members faulty g) p) × (p.ne ≡ s))
    → entry_by kind table service (copy_at (round_of table service heads faulty heard) receiver) (agreed (round_of table service heads faulty heard)) ≡ Some posted.1.bytes
entry-alike table service heads faulty g posted heard receiver Voted a k source =
    let round = round_of table service heads faulty heard in
    vote_good table service heads faulty g posted heard (copy_at round receiver) a
    (λ p c. copy-fine round receiver p.ne (fault_free-live faulty g p c).1)
    (λ p c. copy_cell round receiver p.ne a.cells (own_cell table service heads faulty g posted heard a p c))
    (λ ne. ap (λ (x : Kind). may_send x ne) k)
entry-alike table service heads faulty g posted heard receiver (Source s) a k source =
    let round = round_of table service heads faulty heard in
    let from = source s refl in
    let p : Proc = from.0 in
    let c : Contains (fault_free_members faulty g) p = from.1 in
    let may : may_send service.kind p.ne ≡ true = ap (λ (x : Kind). may_send x p.ne) k ∙ eq-eqb s p.ne (sym from.2) in
    let yes_sends : contributes service p.ne ≡ true = and_from (has service.admitted p.ne) (may_send service.kind p.ne) (a.admitted p c) may in
    ap (contribution service (agreed round)) (sym from.2)
    ∙ ap (λ (b : Bool). cond b (agreed round p.ne) None) yes_sends
    ∙ agreed-fine round p.ne (fault_free-live faulty g p c).1
    ∙ own_good table service heads faulty g posted heard a p c yes_sends
entry-alike table service heads faulty g posted heard receiver Every a k source =
    let round = round_of table service heads faulty heard in
    vote_good table service heads faulty g posted heard (agreed round) a
    (λ p c. agreed-fine round p.ne (fault_free-live faulty g p c).1)
    (λ p c. agreed_cell round p.ne a.cells (own_cell table service heads faulty g posted heard a p c))
    (λ ne. ap (λ (x : Kind). may_send x ne) k)
