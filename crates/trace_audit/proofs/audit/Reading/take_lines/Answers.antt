use Rattle.std.proofs.Common.{arith, inl, inr, refl}
use Rattle.std.specs.Prelude.{option_copied}
use Rattle.trace_audit.proofs.Walk.{walk_starts, walk_on, walk_ends, walk_done, walk_cycle, walk_lines, walk_pieces}
use Rattle.trace_audit.proofs.audit.Reading.take_lines.Goals as goal

pub loop-rest-init : goal.loop-rest-init
loop-rest-init g c =
    walk_starts g.row.N c.args.self.now.auditor c.args.bytes.now c.args.self.now c.requires.elements c.requires.cycle c.requires.frames refl c.requires.lines c.requires.broken

pub overflow_add-pieces : goal.overflow_add-pieces
overflow_add-pieces g c =
    let most = walk_pieces g.row.N c.args.self.now.auditor c.args.bytes.now c.loop-rest.self (option_copied c.loop-rest.rest) c.loop-rest.pieces c.requires.len c.loop-rest.invariant in
    omega arith

pub take_piece-requires : goal.take_piece-requires
take_piece-requires g c = (
  elim c.requires.size [ inl four ↦ rw four (omega arith) | inr five ↦ rw five (omega arith) ],
  (
    c.requires.size,
    (
      walk_cycle g.row.N c.args.self.now.auditor c.args.bytes.now c.loop-rest.self (option_copied c.loop-rest.rest) c.loop-rest.pieces c.requires.size c.requires.len c.loop-rest.invariant,
      walk_lines g.row.N c.args.self.now.auditor c.args.bytes.now c.loop-rest.self (option_copied c.loop-rest.rest) c.loop-rest.pieces c.requires.len c.loop-rest.invariant,
    ),
  ),
)

pub loop-rest-preserved : goal.loop-rest-preserved
loop-rest-preserved g c =
    let w = rw c.in-Some.is at c.loop-rest.invariant in
    walk_on g.row.N c.args.self.now.auditor c.args.bytes.now c.in-Some.text.now c.cut_line.result.0.now (option_copied c.cut_line.result.1) c.loop-rest.pieces c.cut_line.ensures.cut c.loop-rest.self c.take_piece.new.self c.is_line.result w c.is_line.ensures c.in-Ok.ensures

pub returns-in-Err : goal.returns-in-Err
returns-in-Err g c =
    let w = rw c.in-Some.is at c.loop-rest.invariant in
    walk_ends g.row.N c.args.self.now.auditor c.args.bytes.now c.in-Some.text.now c.cut_line.result.0.now (option_copied c.cut_line.result.1) c.loop-rest.pieces c.cut_line.ensures.cut c.loop-rest.self c.take_piece.new.self c.is_line.result c.in-Err.e w c.is_line.ensures c.in-Err.ensures

pub returns : goal.returns
returns g c =
    let w = rw c.in_default.is at c.loop-rest.invariant in
    walk_done g.row.N c.args.self.now.auditor c.args.bytes.now c.loop-rest.self c.loop-rest.pieces w
