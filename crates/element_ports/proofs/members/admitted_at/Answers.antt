use Rattle.std.proofs.Common.{◌∙◌, sym, ap, cond, None}
use Rattle.ftpp_base.specs.Sets.{has}
use Rattle.config_table.specs.Members.{member_at, senders}
use Rattle.element_ports.proofs.LiveMember.{admitted_member}
use Rattle.element_ports.proofs.members.admitted_at.Goals as goal

pub returns-then-has-clause-member : goal.returns-then-has-clause-member
returns-then-has-clause-member c =
    let procs = senders c.args.table.now c.args.vid in
    let is_in = ap (has c.args.admitted) (sym c.byte.ensures.number) ∙ sym c.has.ensures ∙ c.if-has.true in
    c.sender_at.ensures.member
    ∙ sym (admitted_member c.args.admitted procs c.args.ne ∙ ap (λ b. cond b (member_at procs c.args.ne) None) is_in)

pub returns-else-has-clause-member : goal.returns-else-has-clause-member
returns-else-has-clause-member c =
    let procs = senders c.args.table.now c.args.vid in
    let is_out = ap (has c.args.admitted) (sym c.byte.ensures.number) ∙ sym c.has.ensures ∙ c.if-has.false in
    sym (admitted_member c.args.admitted procs c.args.ne ∙ ap (λ b. cond b (member_at procs c.args.ne) None) is_out)
