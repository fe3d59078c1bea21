use Rattle.std.proofs.Common.{◌∙◌, sym, ap, length, ℕ}
use Rattle.std.specs.Prelude.{◌==◌}
use Rattle.ftpp_base.specs.Bits.{is_majority}
use Rattle.ftpp_base.specs.declared.element.Proc.{Proc}
use Rattle.local_pattern.specs.declared.Entry.{Entry}
use Rattle.flag_vote.specs.Flags.{holds}
use Rattle.flag_vote.proofs.AllCounted.{all-counted}
use Rattle.flag_vote.proofs.Counted.{held_here, held_later}
use Rattle.flag_vote.proofs.flags.first_held.Goals as goal

pub returns-then-is_majority-clause-desc : goal.returns-then-is_majority-clause-desc
returns-then-is_majority-clause-desc g c =
    let none : Proc = record { ne = 0; port = 0 } in
    let most = c.is_majority.ensures ∙ ap (λ n. is_majority n (length c.args.live.now)) c.holders_of-holders.ensures.count in
    sym (held_here c.args.pattern.now c.args.live.now c.args.live.now c.loop-p.p-index none c.shown.result.desc c.is_majority.result c.loop-p-test.true
    (ap (λ (e : Entry). e.desc) c.shown.ensures) most c.if-is_majority.true)
    ∙ c.loop-p.invariant

pub returns-then-is_majority-clause-all : goal.returns-then-is_majority-clause-all
returns-then-is_majority-clause-all g c =
    ap (λ (n : ℕ). n == length c.args.live.now) c.holders_of-holders.ensures.count
    ∙ all-counted (holds c.args.pattern.now c.shown.result.desc) c.args.live.now

pub loop-p-preserved : goal.loop-p-preserved
loop-p-preserved g c =
    let none : Proc = record { ne = 0; port = 0 } in
    let most = c.is_majority.ensures ∙ ap (λ n. is_majority n (length c.args.live.now)) c.holders_of-holders.ensures.count in
    sym (held_later c.args.pattern.now c.args.live.now c.args.live.now c.loop-p.p-index none c.shown.result.desc c.is_majority.result c.loop-p-test.true
    (ap (λ (e : Entry). e.desc) c.shown.ensures) most c.if-is_majority.false)
    ∙ c.loop-p.invariant
