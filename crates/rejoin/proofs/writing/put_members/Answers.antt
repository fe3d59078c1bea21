use Rattle.std.proofs.Common.{◌*◌, ◌-◌, ◌++◌, length, take, replicate, ap, sym, ◌∙◌, arith, take_all}
use Rattle.std.specs.List.{flat_map}
use Rattle.rejoin.specs.State.{member_bytes}
use Rattle.rejoin.proofs.Pieces.{members_pieces}
use Rattle.rejoin.proofs.writing.put_members.Goals as goal

pub returns-clause-items : goal.returns-clause-items
returns-clause-items c =
    c.append-2.ensures.items
    ∙ ap (λ l. l ++ take (8 - 2 * length c.args.members.now) (replicate 8 0))
    (c.loop-member.invariant.items ∙ ap (λ ms. c.args.out.now.items ++ flat_map member_bytes ms) (take_all c.loop-member.member-index c.args.members.now (omega arith)))
    ∙ sym (members_pieces c.args.out.now.items c.args.members.now c.requires.few)
