use Rattle.bit_vote.proofs.EqualBytes.{same_of_mask}
use Rattle.bit_vote.proofs.same.is_same_block.Goals as goal

pub returns : goal.returns
returns c = same_of_mask c.args.a c.args.b c.requires.one c.requires.other
