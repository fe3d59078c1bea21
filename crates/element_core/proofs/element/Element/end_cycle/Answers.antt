use Rattle.std.proofs.Common.{◌≡◌, ◌<◌, sym, ap, ◌∙◌, subst, arith, inl, inr, Option}
use Rattle.std.specs.Prelude.{◌++◌, option_copied, option_map}
use Rattle.two_round.specs.Echoes.{Echoes, no_echoes}
use Rattle.config_table.specs.declared.decisions.Decision.{Decision}
use Rattle.config_table.specs.Table.{IsValid}
use Rattle.syndrome_log.specs.Log.{last_kept}
use Rattle.element_notes.specs.AtHand.{AreResults, HasDiffering}
use Rattle.element_core.specs.Sent.{is_relayed}
use Rattle.element_core.specs.Element.{Kept, own_entry, own_update, own_service, own_handed, made, kept_after}
use Rattle.element_core.specs.Noted.{noted_by, decided_by}
use Rattle.element_core.proofs.PhaseLaws.{kept_size}
use Rattle.flag_vote.specs.Flags.{voted_flags}
use Rattle.scoreboard.specs.Board.{Scoreboard}
use Rattle.scoreboard.specs.Times.{OnlyMembersLag}
use Rattle.scoreboard.proofs.MemberLags.{members_step}
use Rattle.ftpp_base.specs.declared.element.Round.TheVariants.{A1}
use Rattle.element_core.specs.declared.Due.TheVariants.{Emit}
use Rattle.element_core.specs.ElementValue.{ElementValue, CycleTold, pattern_now, packets_now, decision_now, ended_with}
use Rattle.element_core.specs.Pending.{element_with}
use Rattle.element_core.specs.Told.{told_of}
use Rattle.element_core.proofs.StepLaws.{kept_me}
use Rattle.element_core.proofs.Holding.{few_by, holds_begun}
use Rattle.element_core.proofs.Results.{results_are, differing_are, decision_fits_now, IsAtHand, served_by, kept_ends, told_ends, ended_value}
use Rattle.element_core.proofs.element.Element.end_cycle.Goals as goal
use Rattle.element_core.proofs.element.Element.end_cycle.Given.{Over}

-- ---- what the calls need

pub entry_of-packet-requires : goal.entry_of-packet-requires
entry_of-packet-requires g c =
    let s = c.self.inside in
    let h = c.self.invariant.0 in
    let e = element_with s.kept s.patterns s.packets s.due (option_map (told_of {n = g.row.N}) s.last) s.log in
    let due = ap (λ (v : ElementValue). v.due) c.self.view_is ∙ c.requires in
    let few = few_by g.row.N h.size in
    let valid = subst IsValid c.table.ensures.table c.table.ensures.valid in (
      grind (arith, few),
      (
        grind (arith, few),
        (
          few,
          (
            ap (λ t. t.n) c.table.ensures.table ∙ h.elements,
            (
              decision_fits_now g.row.N e s.pending h due valid,
              results_are g.row.N s.packets (is_relayed s.pending.decision) c.relayed-sent.result c.settle-differing.new.results few c.settle-differing.ensures.results c.relayed-sent.ensures,
            ),
          ),
        ),
      ),
    )

pub update_of-asked-requires : goal.update_of-asked-requires
update_of-asked-requires g c =
    let s = c.self.inside in
    let h = c.self.invariant.0 in
    let e = element_with s.kept s.patterns s.packets s.due (option_map (told_of {n = g.row.N}) s.last) s.log in
    let due = ap (λ (v : ElementValue). v.due) c.self.view_is ∙ c.requires in
    let few = few_by g.row.N h.size in
    let valid = subst IsValid c.table.ensures.table c.table.ensures.valid in (
      grind (arith, few),
      (
        grind (arith, few),
        (
          few,
          (
            ap (λ t. t.n) c.table-2.ensures.table ∙ h.elements,
            (
              decision_fits_now g.row.N e s.pending h due valid,
              results_are g.row.N s.packets (is_relayed s.pending.decision) c.relayed-sent.result c.settle-differing.new.results few c.settle-differing.ensures.results c.relayed-sent.ensures,
            ),
          ),
        ),
      ),
    )

pub note-requires : goal.note-requires
note-requires g c =
    let s = c.self.inside in
    let h = c.self.invariant.0 in
    let due = ap (λ (v : ElementValue). v.due) c.self.view_is ∙ c.requires in
    let few = few_by g.row.N h.size in
    let decision = (h.agreed (rw due (omega arith))).decision in
    let packets : s.packets ≡ record { me = s.kept.me; copies = s.packets.copies; relayed = s.packets.relayed } =
    λ i. record { me = c.self.invariant.2 i; copies = s.packets.copies; relayed = s.packets.relayed } in
    let are = results_are g.row.N s.packets (is_relayed s.pending.decision) c.relayed-sent.result c.settle-differing.new.results few c.settle-differing.ensures.results c.relayed-sent.ensures in
    let results = subst (λ (x : Echoes). AreResults g.row.N x (is_relayed (decided_by s.kept s.patterns.copies s.patterns.relayed)) c.settle-differing.new.results) packets
    (subst (λ (d : Decision). AreResults g.row.N s.packets (is_relayed d) c.settle-differing.new.results) decision are) in
    let odd = differing_are g.row.N s.packets (is_relayed s.pending.decision) c.relayed-sent.result c.settle-differing.result few c.relayed-sent.ensures
    (λ k l e. ((c.settle-differing.ensures.differing k l).0 e).0) c.settle-differing.ensures.alike in
    let differing = subst (λ (x : Echoes). HasDiffering g.row.N x (is_relayed (decided_by s.kept s.patterns.copies s.patterns.relayed)) c.settle-differing.result) packets
    (subst (λ (d : Decision). HasDiffering g.row.N s.packets (is_relayed d) c.settle-differing.result) decision odd) in
    let entry = c.as_ref.ensures.value ∙ c.entry_of-packet.ensures ∙ (λ i. own_entry (c.table.ensures.table i) (decision i) (packets i)) in (
      elim h.size [ inl four ↦ rw four (omega arith) | inr five ↦ rw five (omega arith) ],
      (
        grind (arith, few),
        (
          c.requires,
          (
            subst (λ (v : ElementValue). AreResults g.row.N (packets_now v) (is_relayed (decision_now v)) c.settle-differing.new.results) c.self.view_is results,
            (
              subst (λ (v : ElementValue). HasDiffering g.row.N (packets_now v) (is_relayed (decision_now v)) c.settle-differing.result) c.self.view_is differing,
              subst (λ (v : ElementValue). option_copied c.as_ref.result ≡ own_entry v.kept.table (decision_now v) (packets_now v)) c.self.view_is entry,
            ),
          ),
        ),
      ),
    )

pub serve-handed-requires-clause-earlier : goal.serve-handed-requires-clause-earlier
serve-handed-requires-clause-earlier g c =
    let due = ap (λ (v : ElementValue). v.due) c.self.view_is ∙ c.requires in
    (c.self.invariant.0.agreed (rw due (omega arith))).earlier

pub serve-handed-requires-clause-members : goal.serve-handed-requires-clause-members
serve-handed-requires-clause-members g c =
    let s = c.self.inside in
    let e = element_with s.kept s.patterns s.packets s.due (option_map (told_of {n = g.row.N}) s.last) s.log in
    let due = ap (λ (v : ElementValue). v.due) c.self.view_is ∙ c.requires in
    subst (λ (board : Scoreboard). OnlyMembersLag s.kept.table board) (sym (c.self.invariant.0.agreed (rw due (omega arith))).after)
    (members_step s.kept.table s.kept.cycle (voted_flags s.kept.table (pattern_now e)) s.kept.scoreboard)

-- ---- what is made of the cycle

-- the element as the cycle ends
abbrev ending : (g : Over) → goal.After-self-1 g → ElementValue
ending g c =
    let s = c.self.inside in
    element_with s.kept s.patterns s.packets s.due (option_map (told_of {n = g.row.N}) s.last) s.log

-- what it has at hand
at_hand : (g : Over) (c : goal.After-self-1 g) → IsAtHand (ending g c) c.self.inside.pending.decision c.entry_of-packet.result c.update_of-asked.result
at_hand g c =
    let s = c.self.inside in
    let due = ap (λ (v : ElementValue). v.due) c.self.view_is ∙ c.requires in
    let decision = (c.self.invariant.0.agreed (rw due (omega arith))).decision in
    let packets : s.packets ≡ packets_now (ending g c) = λ i. record { me = c.self.invariant.2 i; copies = s.packets.copies; relayed = s.packets.relayed } in
    record {
      decided = decision;
      entered = c.entry_of-packet.ensures ∙ (λ i. own_entry (c.table.ensures.table i) (decision i) (packets i));
      asks = c.update_of-asked.ensures ∙ (λ i. own_update (c.table-2.ensures.table i) (decision i) (packets i));
    }

-- what it keeps after the decision was served
serves : (g : Over) (c : goal.After-self-1 g) → c.serve-handed.new.self ≡ served_by (ending g c) c.self.inside.pending.decision c.entry_of-packet.result c.self.inside.pending.after.value
serves g c = c.serve-handed.ensures.kept ∙ (λ i. served_by (ending g c) c.self.inside.pending.decision (c.as_ref-2.ensures.value i) c.self.inside.pending.after.value)

-- and after the cycle
keeps : (g : Over) (c : goal.After-self-1 g) → c.update-update.new.self ≡ kept_after (ending g c).kept (made (ending g c).kept (ending g c).heard)
keeps g c =
    let s = c.self.inside in
    let due = ap (λ (v : ElementValue). v.due) c.self.view_is ∙ c.requires in
    kept_ends (ending g c) s.pending.decision c.entry_of-packet.result c.update_of-asked.result s.pending.after.value c.serve-handed.new.self c.update-update.new.self
    c.self.invariant.0.cells due (at_hand g c) (c.self.invariant.0.agreed (rw due (omega arith))).after (serves g c) c.update-update.ensures.kept

pub invariant_of-self : goal.invariant_of-self
invariant_of-self g c =
    let s = c.self.inside in
    let h = c.self.invariant.0 in
    let m = made (ending g c).kept (ending g c).heard in
    let me : c.update-update.new.self.me ≡ s.kept.me = ap (λ (k : Kept). k.me) (keeps g c) ∙ kept_me s.kept m in
    let patterns = c.restart.ensures ∙ ap (no_echoes g.row.N) (c.self.invariant.1 ∙ sym me) in
    let packets = c.restart-2.ensures ∙ ap (no_echoes g.row.N) (c.self.invariant.2 ∙ sym me) in (
      holds_begun g.row.N c.update-update.new.self c.restart.new.self c.restart-2.new.self _ _ _ h.size
          (ap (λ (k : Kept). k.table.n) (keeps g c) ∙ kept_size s.kept m ∙ h.elements)
          (subst (λ k. k < g.row.N) (sym me) h.below) patterns packets,
      ap (λ (x : Echoes). x.me) patterns,
      ap (λ (x : Echoes). x.me) packets,
    )

pub returns : goal.returns
returns g c =
    let s = c.self.inside in
    let h = c.self.invariant.0 in
    let e = ending g c in
    let due = ap (λ (v : ElementValue). v.due) c.self.view_is ∙ c.requires in
    let agreed = h.agreed (rw due (omega arith)) in
    let notes = c.note.ensures ∙ sym (ap (λ (v : ElementValue). noted_by v.kept (made v.kept v.heard)) c.self.view_is) in
    let handed = c.serve-handed.ensures.handed ∙ (λ i. own_handed s.kept s.pending.decision (c.as_ref-2.ensures.value i) (own_service s.kept s.pending.decision)) in
    let told = told_ends e c.cycle-cycle.result s.pending.pattern s.pending.decision c.entry_of-packet.result c.serve-handed.result c.update_of-asked.result c.update-update.result
    c.serve-handed.new.self.table c.as_slice-2.result.now h.cells due (at_hand g c) c.cycle-cycle.ensures.cycle agreed.pattern handed
    (ap (λ (k : Kept). k.table) (serves g c)) c.update-update.ensures.outcome (c.as_slice-2.ensures.value ∙ notes) in
    let log = c.extend_from_slice.ensures ∙ (λ i. last_kept (s.log ++ (c.as_slice.ensures.value ∙ notes) i)) in
    ap (λ (last : Option CycleTold). element_with c.update-update.new.self c.restart.new.self c.restart-2.new.self (Emit A1) last c.extend_from_slice.new.self) c.tell.ensures
    ∙ ended_value g.row.N e c.update-update.new.self c.restart.new.self c.restart-2.new.self s.kept.me _ c.extend_from_slice.new.self h.elements (keeps g c)
    (c.restart.ensures ∙ ap (no_echoes g.row.N) c.self.invariant.1) (c.restart-2.ensures ∙ ap (no_echoes g.row.N) c.self.invariant.2) told log
    ∙ ap (λ (v : ElementValue). ended_with v v.heard) c.self.view_is
