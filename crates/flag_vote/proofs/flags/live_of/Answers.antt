use Rattle.std.proofs.Common.{◌∙◌, sym}
use Rattle.flag_vote.proofs.AllLive.{all_live}
use Rattle.flag_vote.proofs.flags.live_of.Goals as goal

pub returns-then-g-eq0-clause-members : goal.returns-then-g-eq0-clause-members
returns-then-g-eq0-clause-members c = c.as_slice.ensures.value ∙ sym (all_live c.args.g.now c.if-g-eq0.true)
