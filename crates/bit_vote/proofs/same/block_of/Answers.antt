use Rattle.std.proofs.lemmas.Simd.{length-chunk}
use Rattle.bit_vote.proofs.same.block_of.Goals as goal

pub returns-clause-length : goal.returns-clause-length
returns-clause-length c = length-chunk c.args.at 32 c.args.bytes.now c.requires
