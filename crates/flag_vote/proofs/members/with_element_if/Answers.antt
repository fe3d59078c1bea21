use Rattle.std.proofs.Common.{◌∙◌}
use Rattle.flag_vote.proofs.Counted.{set_same_if}
use Rattle.flag_vote.proofs.members.with_element_if.Goals as goal

pub returns-else-ne-lt8 : goal.returns-else-ne-lt8
returns-else-ne-lt8 c xs is = is ∙ set_same_if c.args.belongs xs c.args.ne c.if-ne-lt8.false
