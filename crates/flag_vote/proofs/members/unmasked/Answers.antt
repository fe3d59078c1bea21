use Rattle.std.proofs.Common.{◌∙◌, ◌++◌, [], ◌∷◌, ap, arith, cond, not, Bool, get_or}
use Rattle.ftpp_base.specs.declared.element.Proc.{Proc}
use Rattle.flag_vote.proofs.Counted.{gathered, unmasked_more}
use Rattle.flag_vote.proofs.members.unmasked.Goals as goal

pub loop-i-preserved : goal.loop-i-preserved
loop-i-preserved c =
    let none : Proc = record { ne = 0; port = 0 } in
    let few = c.loop-i.invariant.0 in
    let longer = c.push_if.ensures.length in (
      omega arith,
      gathered c.loop-i.live.items _ _ _ _ _ c.loop-i.invariant.1 (unmasked_more c.args.masked.now c.loop-i.i c.args.members.now none c.loop-i-test.true)
          (c.push_if.ensures.items ∙ ap (λ (b : Bool). c.loop-i.live.items ++ cond (not b) (get_or c.args.members.now c.loop-i.i none ∷ []) []) c.has-is_masked.ensures),
    )
