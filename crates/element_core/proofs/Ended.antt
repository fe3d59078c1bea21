-- The end of a cycle, in the words of what is made of it.
use Rattle.std.proofs.Common.{◌≡◌, ℕ, ◌<◌, ◌+◌, Bool, true, false, cond, List, refl, ap, ◌∙◌, Option, Some, None, arith}
use Rattle.std.specs.Prelude.{◌==◌, ◌&&◌, nat_le, option_map, unwrap_or, slice_get}
use Rattle.std.specs.List.{AllByRecursion}
use Rattle.ftpp_base.specs.declared.element.Proc.{Proc}
use Rattle.ftpp_base.specs.declared.element.Round.TheVariants.{B2}
use Rattle.ftpp_base.proofs.Among.{each}
use Rattle.packet_format.specs.declared.Descriptor.{Descriptor}
use Rattle.config_table.specs.declared.groups.Group.{Group}
use Rattle.config_table.specs.declared.decisions.GroupFlags.{GroupFlags}
use Rattle.config_table.specs.declared.decisions.Kind.TheVariants.{Voted, Source, Every}
use Rattle.config_table.specs.declared.decisions.Decision.{Decision}
use Rattle.config_table.specs.Groups.{live_count, members_of}
use Rattle.config_table.specs.Table.{TableValue, IsValid, group_named}
use Rattle.config_table.proofs.NamedGroups.{InRange}
use Rattle.config_table.proofs.ValidTable.{members-range, named-there}
use Rattle.flag_vote.specs.Flags.{voted_flags}
use Rattle.scoreboard.specs.Board.{Scoreboard}
use Rattle.scoreboard.specs.Choice.{Request, kind_of, discard_reason, done_with, decided, oldest, eligible_requests, decision_of, scoreboard_after}
use Rattle.scoreboard.proofs.Chosen.{oldest_item}
use Rattle.data_exchange.specs.Entries.{IsSourceAmong, entry_by, packet_in}
use Rattle.ftpp_base.specs.Lists.{cell_at}
use Rattle.bit_vote.specs.Vote.{Cell}
use Rattle.two_round.specs.Echoes.{Echoes, result_for}
use Rattle.config_table.specs.declared.decisions.Decision.TheVariants.{Idle, Discard, Exchange}
use Rattle.element_notes.specs.Words.{row_in}
use Rattle.element_core.specs.Noted.{own_entry_row}
use Rattle.element_core.specs.Cycle.{update_in, update_outcome}
use Rattle.element_core.specs.Element.{Made, echoes_of, settled, own_packet, own_entry, own_service, own_delivery, own_handed, own_update, made, kept_with, kept_after}
use Rattle.element_core.proofs.Accepted.{slice_get-all}
use Rattle.element_core.proofs.AloneRounds.{decision_fits, FitsKind}
use Rattle.element_core.proofs.Chosen.{eligible-may}
use Rattle.element_core.proofs.PhaseLaws.{each_part_made, kept_after-parts}
use Rattle.element_core.specs.declared.Due.TheVariants.{Absorb}
use Rattle.element_core.specs.ElementValue.{ElementValue, patterns_now, packets_now, pattern_now, decision_now, scoreboard_now}
use Rattle.element_core.specs.Frames.{FitsTable}
use Rattle.element_core.specs.Steps.{HasOwnCells}
use Rattle.element_core.proofs.StepLaws.{own_cells_hold}

-- ---- what is made of the cycle

-- What it makes of all four rounds, by what it holds.
pub record MadeNow (e : ElementValue) (m : Made) : Type 0 where
  pub patterns : m.patterns ≡ patterns_now e
  pub pattern : m.pattern ≡ pattern_now e
  pub decision : m.decision ≡ decision_now e
  pub packets : m.packets ≡ packets_now e
  pub entry : m.entry ≡ own_entry e.kept.table (decision_now e) (packets_now e)
  pub handed : m.handed ≡ own_handed e.kept (decision_now e) (own_entry e.kept.table (decision_now e) (packets_now e)) (own_service e.kept (decision_now e))
  pub update : m.update ≡ update_outcome e.kept.table (own_update e.kept.table (decision_now e) (packets_now e))

-- once the fourth was heard
pub made_now : (e : ElementValue) → HasOwnCells e → e.due ≡ Absorb B2 → MadeNow e (made e.kept e.heard)
made_now e cells due =
    let parts = each_part_made e.kept e.heard in
    let m = made e.kept e.heard in
    let holds = own_cells_hold e cells in
    let decision : m.decision ≡ decision_now e = parts.decision in
    let packets : m.packets ≡ packets_now e =
    parts.packets ∙ ap (λ (d : Decision). echoes_of e.kept.me (own_packet e.kept d) e.heard.packets e.heard.relayed_packets) decision
    ∙ holds.packets (rw due (omega arith)) in
    let entry : m.entry ≡ own_entry e.kept.table (decision_now e) (packets_now e) = parts.entry ∙ (λ i. own_entry e.kept.table (decision i) (packets i)) in
    record {
      patterns = parts.patterns ∙ holds.patterns (rw due (omega arith));
      pattern = parts.pattern ∙ ap (settled e.kept.table.n) parts.patterns;
      decision = decision;
      packets = packets;
      entry = entry;
      handed = parts.handed ∙ (λ i. own_handed e.kept (decision i) (entry i) (own_service e.kept (decision i)));
      update = parts.update ∙ (λ i. update_outcome e.kept.table (own_update e.kept.table (decision i) (packets i)));
    }

-- the row of a packet is the cell that it was read from
row_packet : (cell : Cell) → row_in (packet_in cell) ≡ cell
row_packet None = refl
row_packet (Some row) = refl

-- the row of the entry
pub entry_row : (table : TableValue) (d : Decision) (x : Echoes) → row_in (own_entry table d x) ≡ own_entry_row table d x
entry_row table Idle x = refl
entry_row table (Discard vid desc number admitted waited) x = refl
entry_row table (Exchange service) x = row_packet (entry_by service.kind table service (cell_at x.copies) (result_for x))

-- what it keeps then
pub kept_now : (e : ElementValue) → HasOwnCells e → e.due ≡ Absorb B2 → kept_after e.kept (made e.kept e.heard)
    ≡ kept_with (update_in (own_update e.kept.table (decision_now e) (packets_now e))) (record {
      me = e.kept.me;
      cycle = e.kept.cycle + 1;
      table = e.kept.table;
      scoreboard = scoreboard_now e;
      ports = own_delivery e.kept (decision_now e) (own_entry e.kept.table (decision_now e) (packets_now e)) (own_service e.kept (decision_now e));
    })
kept_now e cells due =
    let m = made e.kept e.heard in
    let now = made_now e cells due in
    kept_after-parts e.kept m
    ∙ (λ i. kept_with (update_in (own_update e.kept.table (now.decision i) (now.packets i))) (record {
      me = e.kept.me;
      cycle = e.kept.cycle + 1;
      table = e.kept.table;
      scoreboard = scoreboard_after e.kept.table e.kept.cycle (voted_flags e.kept.table (now.pattern i)) e.kept.scoreboard;
      ports = own_delivery e.kept (now.decision i) (now.entry i) (own_service e.kept (now.decision i));
    }))

-- ---- what a decision has

-- the element of a member, if it is there
ne_below : (n : ℕ) (ps : List Proc) (k : ℕ) (found : Option Proc) → 0 < n → AllByRecursion (InRange n) ps → slice_get ps k ≡ found → unwrap_or (option_map (λ proc. proc.ne) found) 0 < n
ne_below n ps k None some all e = some
ne_below n ps k (Some p) some all e = (slice_get-all (InRange n) ps k p all e).ne

-- by the kind
source_by : (n s : ℕ) (one two : Bool) → s < n → IsSourceAmong n (cond one Voted (cond two (Source s) Every))
source_by n s true two l = tt
source_by n s false true l = l
source_by n s false false l = tt

-- a source is a member of the group that asks
source_among : (table : TableValue) (g : Group) (desc : Descriptor) → IsValid table → 0 < table.n → group_named table g.vid ≡ Some g → IsSourceAmong table.n (kind_of g desc)
unfolding kind_of
source_among table g desc valid some named =
    let all = each (InRange table.n) (members_of g) (λ p m. let h = members-range table valid g (named-there table g.vid g named).0 p m in record { ne = h.0; port = h.1 }) in
    source_by table.n _ (desc.class == 1 && nat_le 3 (live_count g)) (desc.class == 2) (ne_below table.n (members_of g) desc.source _ some all refl)

-- whatever is done with a request of a group of the table
done_fits : (table : TableValue) (now : ℕ) (r : Request) (number : Option ℕ) → IsValid table → 0 < table.n → group_named table r.sender.vid ≡ Some r.sender
    → FitsKind (done_with now r number) → FitsTable table.n (done_with now r number)
done_fits table now r (Some number) valid some named fits = tt
done_fits table now r None valid some named fits = (fits, source_among table r.sender r.desc valid some named)

-- by whether there is one
decided_fits : (table : TableValue) (now : ℕ) (o : Option Request) → IsValid table → 0 < table.n → ((r : Request) → o ≡ Some r → group_named table r.sender.vid ≡ Some r.sender)
    → FitsKind (decided table now o) → FitsTable table.n (decided table now o)
decided_fits table now None valid some named fits = tt
decided_fits table now (Some r) valid some named fits = done_fits table now r (discard_reason table r) valid some (named r refl) fits

-- each decision is one of the table
pub fits_table : (table : TableValue) (flags : List GroupFlags) (now : ℕ) (board : Scoreboard) → IsValid table → 0 < table.n → FitsTable table.n (decision_of table flags now board)
unfolding decision_of
fits_table table flags now board valid some =
    decided_fits table now (oldest (eligible_requests table flags board now)) valid some
    (λ r e. (eligible-may table flags board now valid r (oldest_item (eligible_requests table flags board now) r e)).own)
    (decision_fits table flags now board)
