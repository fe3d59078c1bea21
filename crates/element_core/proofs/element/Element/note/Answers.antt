use Rattle.std.proofs.Common.{◌≡◌, ◌<◌, sym, ap, ◌∙◌, subst, true, arith}
use Rattle.std.specs.Prelude.{option_copied, option_map}
use Rattle.two_round.specs.Echoes.{Echoes}
use Rattle.config_table.specs.declared.decisions.Decision.{Decision}
use Rattle.element_notes.specs.AtHand.{AreResults, HasDiffering}
use Rattle.element_notes.specs.Words.{row_in}
use Rattle.element_core.specs.Sent.{is_relayed}
use Rattle.element_core.specs.Element.{own_entry, made}
use Rattle.element_core.specs.Noted.{noted_by, notes_of, own_entry_row}
use Rattle.element_core.specs.ElementValue.{ElementValue, patterns_now, packets_now, decision_now}
use Rattle.element_core.specs.Pending.{element_with}
use Rattle.element_core.specs.Told.{told_of}
use Rattle.element_core.proofs.Ended.{made_now, entry_row}
use Rattle.element_core.proofs.Holding.{few_by}
use Rattle.element_core.proofs.Results.{pattern_results, pattern_differing}
use Rattle.element_core.proofs.element.Element.note.Goals as goal

pub note_differing-requires : goal.note_differing-requires
note_differing-requires g c =
    let s = c.self.inside in
    let h = c.self.invariant.0 in
    let e = element_with s.kept s.patterns s.packets s.due (option_map (told_of {n = g.row.N}) s.last) s.log in
    let due = ap (λ (v : ElementValue). v.due) c.self.view_is ∙ c.requires.due in
    let agreed = h.agreed (rw due (omega arith)) in
    let patterns : patterns_now e ≡ s.patterns = λ i. record { me = sym c.self.invariant.1 i; copies = s.patterns.copies; relayed = s.patterns.relayed } in
    let packets : packets_now e ≡ s.packets = λ i. record { me = sym c.self.invariant.2 i; copies = s.packets.copies; relayed = s.packets.relayed } in
    let results = subst (λ (v : ElementValue). AreResults g.row.N (packets_now v) (is_relayed (decision_now v)) c.args.results.now) (sym c.self.view_is) c.requires.results in
    let differing = subst (λ (v : ElementValue). HasDiffering g.row.N (packets_now v) (is_relayed (decision_now v)) c.args.packets) (sym c.self.view_is) c.requires.differing in (
      omega arith,
      (
        few_by g.row.N h.size,
        (
          ap (λ t. t.n) c.table.ensures.table ∙ h.elements,
          (
            subst (λ k. k < g.row.N) (sym c.me.ensures.me) h.below,
            (
              c.self.invariant.1 ∙ sym c.me.ensures.me,
              (
                c.self.invariant.2 ∙ sym c.me.ensures.me,
                (
                  subst (λ (x : Echoes). AreResults g.row.N x (λ k. true) s.pending.results) patterns (pattern_results g.row.N e s.pending h due),
                  (
                    subst (λ (x : Echoes). AreResults g.row.N x (is_relayed s.pending.decision) c.args.results.now) packets
                        (subst (λ (d : Decision). AreResults g.row.N (packets_now e) (is_relayed d) c.args.results.now) (sym agreed.decision) results),
                    (
                      subst (λ (x : Echoes). HasDiffering g.row.N x (λ k. true) s.pending.differing) patterns (pattern_differing g.row.N e s.pending h due),
                      subst (λ (x : Echoes). HasDiffering g.row.N x (is_relayed s.pending.decision) c.args.packets) packets
                          (subst (λ (d : Decision). HasDiffering g.row.N (packets_now e) (is_relayed d) c.args.packets) (sym agreed.decision) differing),
                    ),
                  ),
                ),
              ),
            ),
          ),
        ),
      ),
    )

pub returns : goal.returns
returns g c =
    let s = c.self.inside in
    let h = c.self.invariant.0 in
    let e = element_with s.kept s.patterns s.packets s.due (option_map (told_of {n = g.row.N}) s.last) s.log in
    let due = ap (λ (v : ElementValue). v.due) c.self.view_is ∙ c.requires.due in
    let agreed = h.agreed (rw due (omega arith)) in
    let now = made_now e h.cells due in
    let pattern = now.pattern ∙ sym agreed.pattern in
    let decision = now.decision ∙ sym agreed.decision in
    let patterns = now.patterns ∙ (λ i. record { me = sym c.self.invariant.1 i; copies = s.patterns.copies; relayed = s.patterns.relayed }) in
    let packets = now.packets ∙ (λ i. record { me = sym c.self.invariant.2 i; copies = s.packets.copies; relayed = s.packets.relayed }) in
    let held = subst (λ (v : ElementValue). option_copied c.args.entry ≡ own_entry v.kept.table (decision_now v) (packets_now v)) (sym c.self.view_is) c.requires.entry in
    let entry = ap row_in held ∙ entry_row e.kept.table (decision_now e) (packets_now e) ∙ (λ i. own_entry_row e.kept.table (sym now.decision i) (sym now.packets i)) in
    c.note_differing.ensures.noted
    ∙ (λ i. notes_of (c.cycle.ensures.cycle i) (c.table.ensures.table i) (sym pattern i) (sym decision i) (sym patterns i) (sym packets i) (entry i))
    ∙ ap (λ (v : ElementValue). noted_by v.kept (made v.kept v.heard)) c.self.view_is
