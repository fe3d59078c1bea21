-- The entry of an exchange that is held alike is the common packet, and that of one source is the source's.
use Rattle.std.proofs.Common.{◌≡◌, ℕ, true, cond, List, [], ◌∷◌, Option, Some, None, option_map, unwrap_or, IfSome, refl, ap, ◌∙◌, subst, arith, map}
use Rattle.std.proofs.lemmas.Bool.{eq-eqb, and_from}
use Rattle.std.proofs.lemmas.List.FromFn.{get_or-map-range_with_len}
use Rattle.ftpp_base.specs.Sets.{has}
use Rattle.ftpp_base.specs.declared.element.Proc.{Proc}
use Rattle.ftpp_base.proofs.Among.{one_of}
use Rattle.bit_vote.specs.Vote.{Cell}
use Rattle.bit_vote.specs.Agreed.{agreed, copy_at}
use Rattle.bit_vote.proofs.Copies.{agreed-fine}
use Rattle.bit_vote.proofs.Widths.{cells-from}
use Rattle.config_table.specs.declared.groups.Group.{Group}
use Rattle.config_table.specs.declared.decisions.Kind.{Kind}
use Rattle.config_table.specs.declared.decisions.Kind.TheVariants.{Source}
use Rattle.config_table.specs.declared.decisions.Service.{Service}
use Rattle.config_table.specs.Groups.{live_members}
use Rattle.config_table.specs.Table.{TableValue}
use Rattle.config_table.proofs.NamedGroups.{AreApart-named, InRange, InRange-named}
use Rattle.processor_buffers.specs.Queues.{Posted}
use Rattle.data_exchange.specs.Entries.{may_send, contributes, contribution, packet_of_head, own_row, entry_by, entry_at, fault_free_members, common_head}
use Rattle.data_exchange.specs.Laws.{HasRow, round_of, IsHeldAlike, AlikeEntries, SourceEntries}
use Rattle.data_exchange.proofs.CommonHead.{common-all, alike_parts}
use Rattle.data_exchange.proofs.AlikeEntry.{IsAlike, entry-alike}

-- the common head of some processors is a head of one of them
common-row : (heads : Proc → Option Posted) (head : Posted) (ps : List Proc) → ((p : Proc) → IfSome (heads p) HasRow) → common_head (map heads ps) ≡ Some head → HasRow head
common-row heads head [] rows e = cc
common-row heads head (p ∷ ps) rows e =
    let Row : Option Posted → Type 0 = λ o. IfSome o HasRow in
    subst Row (common-all heads head (p ∷ ps) e).0 (rows p)

is_alike : (table : TableValue) (service : Service) (heads : Proc → Option Posted) (faulty : Option ℕ) (heard : List Cell) (g : Group) (head : Posted)
    → IsHeldAlike table service heads faulty heard g head → IsAlike table service heads faulty g head heard
is_alike table service heads faulty heard g head h =
    let parts = alike_parts faulty heads g head h.alike in
    let procs = fault_free_members faulty g in
    record {
      named = h.named;
      apart = AreApart-named table service.vid g h.valid h.named;
      range = λ p c. (one_of (InRange table.n) (live_members g) p (InRange-named table service.vid g h.valid h.named) c).ne;
      rows = λ p c. h.rows p;
      majority = parts.0;
      head = λ p c. one_of (λ q. heads q ≡ Some head) procs p (common-all heads head procs parts.1) c;
      carried = h.carried;
      admitted = h.admitted;
      row = common-row heads head procs h.rows parts.1;
      cells = cells-from 64 heard h.cells;
    }

pub alike_entries : AlikeEntries
unfolding entry_at
alike_entries table service heads faulty heard g head receiver h many =
    entry-alike table service heads faulty g head heard receiver service.kind (is_alike table service heads faulty heard g head h) refl
    (λ s k. let never : ⊥ = many s k in absurd never)

-- the entry of one source
sourced_by : (kind : Kind) (source : ℕ) (table : TableValue) (service : Service) (copies results : ℕ → Cell) → kind ≡ Source source
    → entry_by kind table service copies results ≡ contribution service results source
sourced_by kind source table service copies results e = ap (λ k. entry_by k table service copies results) e

-- an admitted source contributes
source_counts : (service : Service) (source : ℕ) → service.kind ≡ Source source → has service.admitted source ≡ true → contributes service source ≡ true
source_counts service source kind admitted =
    and_from (has service.admitted source) (may_send service.kind source) admitted (ap (λ k. may_send k source) kind ∙ eq-eqb source source refl)

pub source_entries : SourceEntries
unfolding entry_at
source_entries table service heads faulty heard source head receiver h =
    let round = round_of table service heads faulty heard in
    let counts = source_counts service source h.kind h.admitted in
    sourced_by service.kind source table service (copy_at round receiver) (agreed round) h.kind
    ∙ ap (λ b. cond b (agreed round source) None) counts
    ∙ agreed-fine round source h.fault_free
    ∙ get_or-map-range_with_len (own_row table heads service) 0 table.n source source None h.among (omega arith)
    ∙ (λ i. cond (counts i) (unwrap_or (option_map (λ p. packet_of_head service.desc (heads p)) (h.member i)) None) None)
    ∙ ap (packet_of_head service.desc) h.waits
    ∙ ap (λ b. cond b (Some head.1.bytes) None) h.carried
