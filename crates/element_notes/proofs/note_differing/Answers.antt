use Rattle.std.proofs.Common.{◌≡◌, ◌∙◌, ◌++◌, true, length, arith, refl, ap, sym}
use Rattle.syndrome_log.specs.declared.SyndromeKind.TheVariants as kind
use Rattle.element_notes.specs.Notes.{off_copies, off_relays, absent_ones, full_ones, off_values, notes_of}
use Rattle.config_table.specs.Kinds.{is_relayed}
use Rattle.element_notes.proofs.AllNotes.{five_members, added, in_order}
use Rattle.element_notes.specs.Words.{row_in}
use Rattle.std.specs.Prelude.{option_copied}
use Rattle.element_notes.proofs.note_differing.Goals as goal

pub note_exchange-requires : goal.note_exchange-requires
note_exchange-requires g c =
    let none : length c.clear.new.self.items ≡ 0 = ap length c.clear.ensures in (
      grind arith,
      (
        grind arith,
        (
          record {
            few = c.requires.few;
            among = c.requires.among;
            own = c.requires.patterns;
            are = λ s l e. c.requires.pattern_results s l refl;
          },
          omega arith,
        ),
      ),
    )

pub note_exchange-requires-2 : goal.note_exchange-requires-2
note_exchange-requires-2 g c =
    let none : length c.clear.new.self.items ≡ 0 = ap length c.clear.ensures in (
      grind arith,
      (
        grind arith,
        (
          record {
            few = c.requires.few;
            among = c.requires.among;
            own = c.requires.packets;
            are = λ s l e. c.requires.packet_results s l (c.requires.differing_packets.count s l e);
          },
          omega arith,
        ),
      ),
    )

pub returns-clause-noted : goal.returns-clause-noted
unfolding notes_of
returns-clause-noted g c =
    let seen = c.args.seen.now in
    let decision = seen.decision.now in
    in_order c.clear.new.self.items _ _ _ _ _ _ _ _ _ _ _ _ c.clear.ensures
    (c.note_exchange.ensures.items (λ s. true) c.requires.differing_patterns)
    c.note_absent.ensures.items
    c.note_full.ensures.items
    (c.note_exchange-2.ensures.items (is_relayed decision) c.requires.differing_packets)
    c.note_values.ensures.items
    ∙ (λ t.
    let n = sym c.requires.elements t in
    off_copies seen.cycle kind.P1 seen.patterns.now n (λ s. true)
    ++ off_relays seen.cycle kind.P2 seen.patterns.now n (λ s. true)
    ++ absent_ones seen.cycle seen.table.now decision
    ++ full_ones seen.cycle seen.table.now seen.pattern.now decision
    ++ off_copies seen.cycle kind.D1 seen.packets.now n (is_relayed decision)
    ++ off_relays seen.cycle kind.D2 seen.packets.now n (is_relayed decision)
    ++ off_values seen.cycle seen.table.now seen.packets.now decision (row_in (option_copied seen.entry)))

pub returns-clause-few : goal.returns-clause-few
returns-clause-few g c =
    let seen = c.args.seen.now in
    let table = seen.table.now in
    let decision = seen.decision.now in
    let none : length c.clear.new.self.items ≡ 0 = ap length c.clear.ensures in
    let entry = row_in (option_copied seen.entry) in
    let elements = c.requires.elements in
    let few = c.requires.few in
    let apart = five_members seen.cycle table seen.packets.now decision entry (omega arith) in
    let absent = added _ (absent_ones seen.cycle table decision) _ c.note_absent.ensures.items in
    let off = added _ (off_values seen.cycle table seen.packets.now decision entry) _ c.note_values.ensures.items in
    omega arith
