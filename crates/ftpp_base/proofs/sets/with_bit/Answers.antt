use Rattle.ftpp_base.proofs.Adding as adding
use Rattle.ftpp_base.proofs.sets.with_bit.Goals as goal

pub returns : goal.returns
returns c = adding.with_bit (record { bits = c.args.bits }) c.args.i c.ranges.bits.fits c.requires
