use Rattle.std.proofs.Common.{sym, None}
use Rattle.std.proofs.lemmas.List.{take_rest}
use Rattle.frame_format.proofs.Calls.{count_all, headed, not_headed, heard_all}
use Rattle.frame_format.proofs.ByField.{grammar_all}
use Rattle.frame_format.proofs.reading.decode.Goals as goal

pub returns-then-is_headed-clause-decoded : goal.returns-then-is_headed-clause-decoded
returns-then-is_headed-clause-decoded g c =
    sym (headed g.row.N g.row.N g.row.B c.args.slot c.args.sender c.args.bytes.now _ (take_rest c.args.bytes.now 6)
    (count_all c.args.slot.round g.row.N c.requires.round) c.requires.width (c.is_headed.ensures.0 c.if-is_headed.true).1
    c.read_cells.result c.read_cells.ensures.found c.read_cells.ensures.only)

pub returns-then-is_headed-clause-heard : goal.returns-then-is_headed-clause-heard
returns-then-is_headed-clause-heard g c =
    heard_all g.row.N c.args.slot c.args.sender c.args.bytes.now c.read_cells.result c.requires.round (returns-then-is_headed-clause-decoded g c)

pub returns-else-is_headed-clause-decoded : goal.returns-else-is_headed-clause-decoded
returns-else-is_headed-clause-decoded g c =
    sym (not_headed g.row.N g.row.N g.row.B c.args.slot c.args.sender c.args.bytes.now _ (take_rest c.args.bytes.now 6)
    (count_all c.args.slot.round g.row.N c.requires.round) c.requires.width
    (λ is. let right = c.is_headed.ensures.1 is in let wrong = c.if-is_headed.false in cc))

pub returns-else-is_headed-clause-heard : goal.returns-else-is_headed-clause-heard
returns-else-is_headed-clause-heard g c =
    heard_all g.row.N c.args.slot c.args.sender c.args.bytes.now None c.requires.round (returns-else-is_headed-clause-decoded g c)

pub returns-then-is_headed-clause-grammar : goal.returns-then-is_headed-clause-grammar
returns-then-is_headed-clause-grammar g c =
    grammar_all g.row.N c.args.slot c.args.sender c.args.bytes.now c.read_cells.result (returns-then-is_headed-clause-decoded g c)

pub returns-else-is_headed-clause-grammar : goal.returns-else-is_headed-clause-grammar
returns-else-is_headed-clause-grammar g c =
    grammar_all g.row.N c.args.slot c.args.sender c.args.bytes.now None (returns-else-is_headed-clause-decoded g c)
