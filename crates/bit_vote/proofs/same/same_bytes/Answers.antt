use Rattle.std.proofs.Common.{◌≡◌, ◌+◌, ◌*◌, arith, sym, ap, refl, ◌∙◌}
use Rattle.bit_vote.proofs.EqualBytes.{same_more, same_one_more, same_all}
use Rattle.bit_vote.proofs.same.same_bytes.Goals as goal

pub loop-block-preserved : goal.loop-block-preserved
loop-block-preserved c =
    same_more (c.loop-block.block * 32) ((c.loop-block.block + 1) * 32) c.args.a.now c.args.b.now c.loop-block.invariant
    (sym c.block_of.ensures.block ∙ c.is_same_block.ensures.0 c.if-not-is_same_block.false ∙ c.block_of-in-loop-block.ensures.block) (omega arith)

pub loop-at-init : goal.loop-at-init
loop-at-init c k h = c.loop-block.invariant k (omega arith)

pub returns : goal.returns
returns c = (λ _. same_all c.loop-at.at c.args.a.now c.args.b.now c.requires c.loop-at-test.false c.loop-at.invariant, λ _. refl)
