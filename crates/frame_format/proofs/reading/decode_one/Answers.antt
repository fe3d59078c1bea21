use Rattle.std.proofs.Common.{sym, ap, None, arith}
use Rattle.std.specs.Prelude.{option_map}
use Rattle.std.proofs.lemmas.List.{take_rest}
use Rattle.frame_format.specs.Frames.{first_cell}
use Rattle.frame_format.proofs.Calls.{count_one, headed_one, not_headed, heard_one}
use Rattle.frame_format.proofs.ByField.{grammar_one}
use Rattle.frame_format.proofs.reading.decode_one.Goals as goal

pub returns-then-is_headed-clause-decoded : goal.returns-then-is_headed-clause-decoded
returns-then-is_headed-clause-decoded g c n =
    headed_one n g.row.B c.args.slot c.args.sender c.args.bytes.now _ (take_rest c.args.bytes.now 6) c.requires.round c.requires.width
    (c.is_headed.ensures.0 c.if-is_headed.true).1 c.read_cell.result c.read_cell.ensures.found c.read_cell.ensures.only

pub returns-then-is_headed-clause-heard : goal.returns-then-is_headed-clause-heard
returns-then-is_headed-clause-heard g c n =
    heard_one n c.args.slot c.args.sender c.args.bytes.now c.read_cell.result c.requires.round (returns-then-is_headed-clause-decoded g c n)

pub returns-else-is_headed-clause-decoded : goal.returns-else-is_headed-clause-decoded
returns-else-is_headed-clause-decoded g c n =
    sym (ap (option_map first_cell) (not_headed n 1 g.row.B c.args.slot c.args.sender c.args.bytes.now _ (take_rest c.args.bytes.now 6)
    (count_one c.args.slot.round n c.requires.round) c.requires.width
    (λ is. let right = c.is_headed.ensures.1 ((let long = is.0 in omega arith), is.1) in let wrong = c.if-is_headed.false in cc)))

pub returns-else-is_headed-clause-heard : goal.returns-else-is_headed-clause-heard
returns-else-is_headed-clause-heard g c n =
    heard_one n c.args.slot c.args.sender c.args.bytes.now None c.requires.round (returns-else-is_headed-clause-decoded g c n)

pub returns-then-is_headed-clause-grammar : goal.returns-then-is_headed-clause-grammar
returns-then-is_headed-clause-grammar g c n =
    grammar_one n c.args.slot c.args.sender c.args.bytes.now c.read_cell.result (returns-then-is_headed-clause-decoded g c n)

pub returns-else-is_headed-clause-grammar : goal.returns-else-is_headed-clause-grammar
returns-else-is_headed-clause-grammar g c n =
    grammar_one n c.args.slot c.args.sender c.args.bytes.now None (returns-else-is_headed-clause-decoded g c n)
