use Rattle.std.proofs.Common.{arith}
use Rattle.std.specs.Prelude.{option_copied}
use Rattle.script_text.proofs.Steps.{walk_starts, walk_on, walk_ends, walk_done, number_stays}
use Rattle.script_text.proofs.reading.Reader.read_lines.Goals as goal

pub loop-rest-init : goal.loop-rest-init
loop-rest-init c = walk_starts c.args.self.now.so_far.n c.args.bytes.now c.args.self.now c.requires.start

pub take_line-requires : goal.take_line-requires
take_line-requires c =
    let same = number_stays c.args.self.now.so_far.n c.args.bytes.now c.loop-rest.self (option_copied c.loop-rest.rest) c.loop-rest.line c.loop-rest.invariant in
    omega (arith, c.requires.elements)

pub loop-rest-preserved : goal.loop-rest-preserved
loop-rest-preserved c =
    let w = rw c.in-Some.is at c.loop-rest.invariant in
    walk_on c.args.self.now.so_far.n c.args.bytes.now c.loop-rest.self c.take_line.new.self c.in-Some.text.now c.cut_line.result.0.now (option_copied c.cut_line.result.1) c.loop-rest.line w c.cut_line.ensures.cut c.in-Ok.ensures

pub returns-in-Err : goal.returns-in-Err
returns-in-Err c =
    let w = rw c.in-Some.is at c.loop-rest.invariant in
    walk_ends c.args.self.now.so_far.n c.args.bytes.now c.loop-rest.self c.take_line.new.self c.in-Some.text.now c.cut_line.result.0.now (option_copied c.cut_line.result.1) c.loop-rest.line c.in-Err.e w c.cut_line.ensures.cut c.in-Err.ensures

pub returns : goal.returns
returns c =
    let w = rw c.in_default.is at c.loop-rest.invariant in
    walk_done c.args.self.now.so_far.n c.args.bytes.now c.loop-rest.self c.loop-rest.line w
