-- Where a cycle is quiet, what is relayed in the second round of packets makes no difference.
use Rattle.std.proofs.Common.{◌≡◌, ℕ, ◌+◌, Bool, true, false, not, cond, List, refl, ap, sym, ◌∙◌, Some, None}
use Rattle.std.specs.Prelude.{◌&&◌, ◌==◌, ◌++◌}
use Rattle.std.proofs.lemmas.Bool.{and_parts}
use Rattle.ftpp_base.specs.Lists.{cell_at, below}
use Rattle.ftpp_base.specs.Sets.{has}
use Rattle.bit_vote.specs.Vote.{Cell}
use Rattle.two_round.specs.Echoes.{Echoes, result_for}
use Rattle.config_table.specs.declared.decisions.Kind.{Kind}
use Rattle.config_table.specs.declared.decisions.Kind.TheVariants.{Voted, Source, Every}
use Rattle.config_table.specs.declared.decisions.Service.{Service}
use Rattle.config_table.specs.declared.decisions.Decision.{Decision}
use Rattle.config_table.specs.declared.decisions.Decision.TheVariants.{Idle, Discard, Exchange}
use Rattle.config_table.specs.Table.{TableValue}
use Rattle.data_exchange.specs.Entries.{contributes, is_voted, entry_by, members_vote, packet_in}
use Rattle.syndrome_log.specs.declared.Syndrome.{Syndrome}
use Rattle.syndrome_log.specs.declared.SyndromeKind.{SyndromeKind}
use Rattle.syndrome_log.specs.declared.SyndromeKind.TheVariants as kind
use Rattle.syndrome_log.specs.Log.{last_kept}
use Rattle.element_core.specs.Sent.{is_relayed}
use Rattle.element_core.specs.Syndromes.{accused_where, differs}
use Rattle.flag_vote.specs.Flags.{voted_flags}
use Rattle.scoreboard.specs.Choice.{scoreboard_after}
use Rattle.ftpp_base.specs.declared.element.Round.TheVariants.{A1}
use Rattle.element_core.specs.Cycle.{update_in, update_outcome}
use Rattle.element_core.specs.Phases.{nothing_heard}
use Rattle.element_core.specs.Element.{echoes_of, own_entry, own_update, own_packet, own_handed, own_service, own_delivery, kept_with, made, kept_after}
use Rattle.element_notes.specs.Notes.{notes_of}
use Rattle.element_core.specs.Noted.{off_copies, off_relays, off_values, own_compared, absent_ones, full_ones, own_pattern, own_entry_row}
use Rattle.element_core.specs.declared.Due.TheVariants.{Emit}
use Rattle.element_core.specs.ElementValue.{ElementValue, pattern_now, decision_now, ended_with}
use Rattle.element_core.specs.Quiet.{is_quiet}

-- an exchange with other relayed cells
abbrev with_relays : Echoes → List (List Cell) → Echoes
with_relays x relayed = record { me = x.me; copies = x.copies; relayed = relayed }

-- ---- the entry and the update

entry_by_kind : (sort : Kind) (table : TableValue) (service : Service) (copies results values : ℕ → Cell) → is_voted sort ≡ true
    → entry_by sort table service copies results ≡ entry_by sort table service copies values
entry_by_kind Voted table service copies results values e = refl
entry_by_kind (Source s) table service copies results values e = cc
entry_by_kind Every table service copies results values e = cc

pub entry_quiet : (table : TableValue) (d : Decision) (x : Echoes) (r : List (List Cell)) → is_quiet d ≡ true → own_entry table d x ≡ own_entry table d (with_relays x r)
entry_quiet table Idle x r e = refl
entry_quiet table (Discard vid desc number admitted waited) x r e = refl
entry_quiet table (Exchange service) x r e =
    ap packet_in (entry_by_kind service.kind table service (cell_at x.copies) (result_for x) (result_for (with_relays x r)) (and_parts _ _ e).0)

not_three : (b : Bool) → not b ≡ true → b ≡ false
not_three true e = sym e
not_three false e = refl

pub update_quiet : (table : TableValue) (d : Decision) (x : Echoes) (r : List (List Cell)) → is_quiet d ≡ true → own_update table d x ≡ own_update table d (with_relays x r)
update_quiet table Idle x r e = refl
update_quiet table (Discard vid desc number admitted waited) x r e = refl
update_quiet table (Exchange service) x r e =
    let three = not_three (service.desc.class == 3) (and_parts _ _ e).1 in
    ap (λ b. cond b (Some (packet_in (members_vote table service (result_for x)))) None) three
    ∙ sym (ap (λ b. cond b (Some (packet_in (members_vote table service (result_for (with_relays x r))))) None) three)

-- ---- what is noted

-- no packet is relayed
none_relayed : (d : Decision) → is_quiet d ≡ true → is_relayed d ≡ (λ s. false)
none_relayed Idle e = refl
none_relayed (Discard vid desc number admitted waited) e = refl
none_relayed (Exchange service) e =
    let counts : Bool → ℕ → Bool = λ b s. not b && contributes service s in
    ap counts (and_parts _ _ e).0

pub copies_quiet : (cycle n : ℕ) (sort : SyndromeKind) (d : Decision) (x : Echoes) (r : List (List Cell)) → is_quiet d ≡ true
    → off_copies cycle sort x n (is_relayed d) ≡ off_copies cycle sort (with_relays x r) n (is_relayed d)
copies_quiet cycle n sort d x r e =
    ap (λ counts. off_copies cycle sort x n counts) (none_relayed d e) ∙ sym (ap (λ counts. off_copies cycle sort (with_relays x r) n counts) (none_relayed d e))

pub relays_quiet : (cycle n : ℕ) (sort : SyndromeKind) (d : Decision) (x : Echoes) (r : List (List Cell)) → is_quiet d ≡ true
    → off_relays cycle sort x n (is_relayed d) ≡ off_relays cycle sort (with_relays x r) n (is_relayed d)
relays_quiet cycle n sort d x r e =
    ap (λ counts. off_relays cycle sort x n counts) (none_relayed d e) ∙ sym (ap (λ counts. off_relays cycle sort (with_relays x r) n counts) (none_relayed d e))

-- the values that differ, by the kind
abbrev off_by_kind : Kind → TableValue → Service → Echoes → ℕ → Bool
off_by_kind sort table service x ne =
    has service.admitted ne && differs (entry_by sort table service (cell_at x.copies) (result_for x)) (own_compared table service x sort ne)

values_by_kind : (sort : Kind) (table : TableValue) (service : Service) (x : Echoes) (r : List (List Cell)) → is_voted sort ≡ true
    → off_by_kind sort table service x ≡ off_by_kind sort table service (with_relays x r)
values_by_kind Voted table service x r e = refl
values_by_kind (Source s) table service x r e = cc
values_by_kind Every table service x r e = cc

pub values_quiet : (cycle : ℕ) (table : TableValue) (d : Decision) (x : Echoes) (r : List (List Cell)) → is_quiet d ≡ true
    → off_values cycle table x d (own_entry_row table d x) ≡ off_values cycle table (with_relays x r) d (own_entry_row table d (with_relays x r))
values_quiet cycle table Idle x r e = refl
values_quiet cycle table (Discard vid desc number admitted waited) x r e = refl
values_quiet cycle table (Exchange service) x r e =
    ap (λ test. accused_where cycle kind.V test (below table.n)) (values_by_kind service.kind table service x r (and_parts _ _ e).0)

-- ---- the element after the cycle

pub ended_quiet : (e : ElementValue) (r : List (List Cell)) → is_quiet (decision_now e) ≡ true → ended_with e e.heard ≡ ended_with e (record e.heard { relayed_packets = r })
unfolding ended_with made kept_after notes_of
ended_quiet e r quiet =
    let n = e.kept.table.n in
    let cycle = e.kept.cycle in
    let table = e.kept.table in
    let d = decision_now e in
    let pattern = pattern_now e in
    let own = own_packet e.kept d in
    let x : Echoes = echoes_of e.kept.me own e.heard.packets e.heard.relayed_packets in
    let p : Echoes = echoes_of e.kept.me (own_pattern e.kept) e.heard.patterns e.heard.relayed_patterns in
    let entry = entry_quiet table d x r quiet in
    let update = update_quiet table d x r quiet in
    let copies = copies_quiet cycle n kind.D1 d x r quiet in
    let relays = relays_quiet cycle n kind.D2 d x r quiet in
    let values = values_quiet cycle table d x r quiet in
    let notes : List Syndrome → List Syndrome → List Syndrome → List Syndrome =
    λ a b c. off_copies cycle kind.P1 p n (λ s. true) ++ off_relays cycle kind.P2 p n (λ s. true) ++ absent_ones cycle table d ++ full_ones cycle table pattern d ++ a ++ b ++ c in
    λ i. record {
      kept = kept_with (update_in (update i)) (record {
        me = e.kept.me;
        cycle = cycle + 1;
        table = table;
        scoreboard = scoreboard_after table cycle (voted_flags table pattern) e.kept.scoreboard;
        ports = own_delivery e.kept d (entry i) (own_service e.kept d);
      });
      heard = nothing_heard n;
      due = Emit A1;
      last = Some (record {
        cycle = cycle;
        pattern = pattern;
        decision = d;
        packet = entry i;
        handed = own_handed e.kept d (entry i) (own_service e.kept d);
        update = update_outcome table (update i);
        syndromes = notes (copies i) (relays i) (values i);
      });
      log = last_kept (e.log ++ notes (copies i) (relays i) (values i));
    }
