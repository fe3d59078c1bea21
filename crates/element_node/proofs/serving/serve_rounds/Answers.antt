use Rattle.std.proofs.Common.{◌≡◌, ap, sym, ◌∙◌, Option, List, ℕ, inl, inr, arith}
use Rattle.ftpp_base.specs.declared.element.Round.TheVariants.{A1, A2, B1, B2}
use Rattle.element_core.specs.ElementValue.{ElementValue}
use Rattle.element_node.specs.Dialog.{Dialog, write_then}
use Rattle.element_node.specs.Node.{round_dialog, rounds_from_b1, rounds_from_a2, rounds_dialog}
use Rattle.element_node.proofs.Dialogs.{passed_on}
use Rattle.element_node.proofs.Rounds.{part_served, part_halts, next_part, next_halts, last_part_if, last_halts_if}
use Rattle.element_node.proofs.serving.serve_rounds.Goals as goal

pub returns-in_err-serve_round-clause-halted : goal.returns-in_err-serve_round-clause-halted
returns-in_err-serve_round-clause-halted g c = passed_on c.from_residual.result c.in_err-serve_round.field-0.0 _ c.from_residual.ensures.1
    (part_halts c.args.text.now.items (round_dialog A1 c.args.element.now) rounds_from_a2 c.in_err-serve_round.field-0.0 _ _ _ _ c.in_err-serve_round.ensures.halted)

pub returns-in_err-serve_round-2-clause-halted : goal.returns-in_err-serve_round-2-clause-halted
returns-in_err-serve_round-2-clause-halted g c =
    let s : Dialog ElementValue = write_then c.args.text.now.items (rounds_dialog c.args.element.now) in
    passed_on c.from_residual-in_err-serve_round-2.result c.in_err-serve_round-2.field-0.0 _ c.from_residual-in_err-serve_round-2.ensures.1
    (next_halts s (round_dialog A2 c.serve_round.new.element) rounds_from_b1 c.in_err-serve_round-2.field-0.0 c.serve_round.new.text.items _ _ _ _ _ _ c.in_ok-serve_round.ensures.text
    (part_served c.args.text.now.items (round_dialog A1 c.args.element.now) c.serve_round.new.element rounds_from_a2 _ _ _ _ c.in_ok-serve_round.ensures.served)
    c.in_err-serve_round-2.ensures.halted)

pub returns-in_err-serve_round-3-clause-halted : goal.returns-in_err-serve_round-3-clause-halted
returns-in_err-serve_round-3-clause-halted g c =
    let s : Dialog ElementValue = write_then c.args.text.now.items (rounds_dialog c.args.element.now) in
    passed_on c.from_residual-in_err-serve_round-3.result c.in_err-serve_round-3.field-0.0 _ c.from_residual-in_err-serve_round-3.ensures.1
    (next_halts s (round_dialog B1 c.serve_round-2.new.element) (round_dialog B2) c.in_err-serve_round-3.field-0.0 c.serve_round-2.new.text.items _ _ _ _ _ _ c.in_ok-serve_round-2.ensures.text
    (next_part s (round_dialog A2 c.serve_round.new.element) c.serve_round-2.new.element rounds_from_b1 c.serve_round.new.text.items _ _ _ _ _ _ c.in_ok-serve_round.ensures.text
    (part_served c.args.text.now.items (round_dialog A1 c.args.element.now) c.serve_round.new.element rounds_from_a2 _ _ _ _ c.in_ok-serve_round.ensures.served)
    c.in_ok-serve_round-2.ensures.served)
    c.in_err-serve_round-3.ensures.halted)

pub returns-clause-served : goal.returns-clause-served
returns-clause-served g c =
    let s : Dialog ElementValue = write_then c.args.text.now.items (rounds_dialog c.args.element.now) in
    last_part_if s (round_dialog B2 c.serve_round-3.new.element) c.serve_round-4.new.element c.serve_round-3.new.text.items c.serve_round-4.result _ _ _ _ _ _ c.in_ok-serve_round-3.ensures.text
    (next_part s (round_dialog B1 c.serve_round-2.new.element) c.serve_round-3.new.element (round_dialog B2) c.serve_round-2.new.text.items _ _ _ _ _ _ c.in_ok-serve_round-2.ensures.text
    (next_part s (round_dialog A2 c.serve_round.new.element) c.serve_round-2.new.element rounds_from_b1 c.serve_round.new.text.items _ _ _ _ _ _ c.in_ok-serve_round.ensures.text
    (part_served c.args.text.now.items (round_dialog A1 c.args.element.now) c.serve_round.new.element rounds_from_a2 _ _ _ _ c.in_ok-serve_round.ensures.served)
    c.in_ok-serve_round-2.ensures.served)
    c.in_ok-serve_round-3.ensures.served)
    c.serve_round-4.ensures.served

pub returns-clause-halted : goal.returns-clause-halted
returns-clause-halted g c =
    let s : Dialog ElementValue = write_then c.args.text.now.items (rounds_dialog c.args.element.now) in
    last_halts_if s (round_dialog B2 c.serve_round-3.new.element) c.serve_round-3.new.text.items c.serve_round-4.result _ _ _ _ _ _ c.in_ok-serve_round-3.ensures.text
    (next_part s (round_dialog B1 c.serve_round-2.new.element) c.serve_round-3.new.element (round_dialog B2) c.serve_round-2.new.text.items _ _ _ _ _ _ c.in_ok-serve_round-2.ensures.text
    (next_part s (round_dialog A2 c.serve_round.new.element) c.serve_round-2.new.element rounds_from_b1 c.serve_round.new.text.items _ _ _ _ _ _ c.in_ok-serve_round.ensures.text
    (part_served c.args.text.now.items (round_dialog A1 c.args.element.now) c.serve_round.new.element rounds_from_a2 _ _ _ _ c.in_ok-serve_round.ensures.served)
    c.in_ok-serve_round-2.ensures.served)
    c.in_ok-serve_round-3.ensures.served)
    c.serve_round-4.ensures.halted

pub serve_round-requires-3 : goal.serve_round-requires-3
serve_round-requires-3 g c = (
  elim c.requires.size [ inl e ↦ rw e (omega arith) | inr e ↦ rw e (omega arith) ],
  (elim c.requires.size [ inl e ↦ rw e (omega arith) | inr e ↦ rw e (omega arith) ], (c.requires.size, (c.in_ok-serve_round-2.ensures.due, (omega (arith, c.requires.cycle, c.in_ok-serve_round.ensures.cycle, c.in_ok-serve_round-2.ensures.cycle), (c.in_ok-serve_round-2.ensures.owner, (c.in_ok-serve_round-2.ensures.own, c.in_ok-serve_round-2.ensures.room)))))),
)

pub serve_round-requires-4 : goal.serve_round-requires-4
serve_round-requires-4 g c = (
  elim c.requires.size [ inl e ↦ rw e (omega arith) | inr e ↦ rw e (omega arith) ],
  (elim c.requires.size [ inl e ↦ rw e (omega arith) | inr e ↦ rw e (omega arith) ], (c.requires.size, (c.in_ok-serve_round-3.ensures.due, (omega (arith, c.requires.cycle, c.in_ok-serve_round.ensures.cycle, c.in_ok-serve_round-2.ensures.cycle, c.in_ok-serve_round-3.ensures.cycle), (c.in_ok-serve_round-3.ensures.owner, (c.in_ok-serve_round-3.ensures.own, c.in_ok-serve_round-3.ensures.room)))))),
)
