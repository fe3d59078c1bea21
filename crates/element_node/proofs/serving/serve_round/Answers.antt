use Rattle.std.proofs.Common.{◌≡◌, ap, sym, subst, ◌∙◌, ◌++◌, List, ℕ, []}
use Rattle.std.specs.Prelude.{slice_index_or}
use Rattle.link_fabric.specs.Rows.{rows_of}
use Rattle.element_core.specs.ElementValue.{after_absorb, frame_of, frames_in}
use Rattle.element_node.specs.Dialog.{write_then}
use Rattle.element_node.specs.Input.{read_frames}
use Rattle.element_node.specs.Node.{framed, round_dialog}
use Rattle.element_node.specs.Progress.{Halts}
use Rattle.element_node.proofs.Dialogs.{passed_on, halts_as, between_as}
use Rattle.element_node.proofs.Rounds.{all_text, is_there, same_readers, round_unwritten_as, round_unread, round_served}
use Rattle.element_node.proofs.Cycles.{moved_on}
use Rattle.element_node.proofs.serving.serve_round.Goals as goal

pub returns-in_err-write_text-clause-halted : goal.returns-in_err-write_text-clause-halted
returns-in_err-write_text-clause-halted g c =
    let all = all_text c.args.round c.args.element.now c.emit.new.self c.me.result c.another.result c.args.text.now.items c.push_framed.new.text.items c.leaving.result.now.items _ _
    c.emit.ensures.element c.me.ensures.me c.another.ensures.0 c.push_framed.ensures c.leaving.ensures (c.emit.ensures.frames c.another.result (is_there g.row.N c.another.result c.requires.size c.another.ensures.1)) in
    passed_on c.from_residual.result c.in_err-write_text.field-0.0 _ c.from_residual.ensures.1
    (round_unwritten_as c.args.round c.args.element.now c.args.text.now.items c.push_framed.new.text.items c.in_err-write_text.ensures.partly.1.0 c.in_err-write_text.field-0.0 _ _ _ c.in_err-write_text.ensures.partly.0 all c.in_err-write_text.ensures.partly.1.2)

pub returns-in_err-take_frames-clause-halted : goal.returns-in_err-take_frames-clause-halted
returns-in_err-take_frames-clause-halted g c =
    let all = all_text c.args.round c.args.element.now c.emit.new.self c.me.result c.another.result c.args.text.now.items c.push_framed.new.text.items c.leaving.result.now.items _ _
    c.emit.ensures.element c.me.ensures.me c.another.ensures.0 c.push_framed.ensures c.leaving.ensures (c.emit.ensures.frames c.another.result (is_there g.row.N c.another.result c.requires.size c.another.ensures.1)) in
    let readers = same_readers c.args.element.now.kept.table.n g.row.N c.args.element.now.kept.me c.emit.new.link.owner (ap (λ t. t.n) (sym c.table-table.ensures.table) ∙ c.table-table.ensures.elements) (sym (c.emit.ensures.owner ∙ c.requires.owner)) in
    passed_on c.from_residual-in_err-take_frames.result c.in_err-take_frames.field-0.0 _ c.from_residual-in_err-take_frames.ensures.1
    (round_unread c.args.round c.args.element.now c.args.text.now.items c.push_framed.new.text.items c.in_err-take_frames.field-0.0 _ _ _ _ all c.in_ok-write_text.ensures.written
    (halts_as (read_frames c.args.element.now.kept.table.n c.args.element.now.kept.me) (read_frames g.row.N c.emit.new.link.owner) c.in_err-take_frames.field-0.0 _ _ _ _ readers (c.in_err-take_frames.ensures.halted _)))

pub returns-clause-served : goal.returns-clause-served
returns-clause-served g c =
    let all = all_text c.args.round c.args.element.now c.emit.new.self c.me.result c.another.result c.args.text.now.items c.push_framed.new.text.items c.leaving.result.now.items _ _
    c.emit.ensures.element c.me.ensures.me c.another.ensures.0 c.push_framed.ensures c.leaving.ensures (c.emit.ensures.frames c.another.result (is_there g.row.N c.another.result c.requires.size c.another.ensures.1)) in
    let readers = same_readers c.args.element.now.kept.table.n g.row.N c.args.element.now.kept.me c.emit.new.link.owner (ap (λ t. t.n) (sym c.table-table.ensures.table) ∙ c.table-table.ensures.elements) (sym (c.emit.ensures.owner ∙ c.requires.owner)) in
    round_served c.args.round c.args.element.now c.absorb.new.self c.args.text.now.items c.push_framed.new.text.items (rows_of c.take_frames.new.link.came.items) _ _ _ _ all c.in_ok-write_text.ensures.written
    (between_as (read_frames c.args.element.now.kept.table.n c.args.element.now.kept.me) (read_frames g.row.N c.emit.new.link.owner) _ _ _ _ _ readers (c.in_ok-take_frames.ensures.taken _))
    (c.absorb.ensures.element ∙ ap (after_absorb c.args.round (frames_in (rows_of c.take_frames.new.link.came.items))) c.emit.ensures.element)

pub returns-clause-due : goal.returns-clause-due
returns-clause-due g c = (moved_on c.args.round c.args.element.now c.emit.new.self c.absorb.new.self _ c.emit.ensures.element c.absorb.ensures.element).0

pub returns-clause-cycle : goal.returns-clause-cycle
returns-clause-cycle g c = (moved_on c.args.round c.args.element.now c.emit.new.self c.absorb.new.self _ c.emit.ensures.element c.absorb.ensures.element).1

pub returns-clause-me : goal.returns-clause-me
returns-clause-me g c = (moved_on c.args.round c.args.element.now c.emit.new.self c.absorb.new.self _ c.emit.ensures.element c.absorb.ensures.element).2

pub returns-clause-owner : goal.returns-clause-owner
returns-clause-owner g c = c.absorb.ensures.owner ∙ (c.take_frames.ensures.owner ∙ (c.emit.ensures.owner ∙ (c.requires.owner ∙ sym (moved_on c.args.round c.args.element.now c.emit.new.self c.absorb.new.self _ c.emit.ensures.element c.absorb.ensures.element).2)))

pub returns-clause-own : goal.returns-clause-own
returns-clause-own g c = ap (λ r. slice_index_or r c.absorb.new.link.owner []) c.absorb.ensures.came ∙ (ap (λ o. slice_index_or (rows_of c.take_frames.new.link.came.items) o []) (c.absorb.ensures.owner ∙ c.take_frames.ensures.owner) ∙ c.take_frames.ensures.own)
