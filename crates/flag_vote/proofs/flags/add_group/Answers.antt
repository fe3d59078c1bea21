use Rattle.std.proofs.Common.{◌≡◌, ◌∙◌, ap, sym, length, ◌++◌, [], ◌∷◌, None}
use Rattle.ftpp_base.specs.Bits.{is_majority}
use Rattle.flag_vote.specs.Words.{flags_on, most_held, with_vote}
use Rattle.flag_vote.proofs.Counted.{flags_on_live, none_without_most}
use Rattle.flag_vote.proofs.LastFlags.{last_shown, last_set}
use Rattle.flag_vote.proofs.flags.add_group.Goals as goal

pub returns-then-is_majority : goal.returns-then-is_majority
returns-then-is_majority g c =
    let pattern = c.args.pattern.now in
    let live = c.live_of-live.result.now in
    let before = c.args.flags.now.items in
    let all = c.as_mut_slice-all.result.now in
    let one = c.flags_but_vote-asking.result.0 in
    let items : all ≡ before ++ one ∷ [] = c.as_mut_slice-all.ensures.value ∙ c.push.ensures.items in
    let voted =
    c.vote.ensures
    ∙ ap (with_vote pattern live (most_held pattern live)) (last_shown before one all c.len-at.result _ items c.len-at.ensures.value ∙ c.flags_but_vote-asking.ensures.flags)
    ∙ ap (flags_on pattern c.args.g.now.vid) c.live_of-live.ensures.members
    ∙ flags_on_live pattern c.args.g.now in
    last_set before one c.vote.new.flags all c.push.new.self.items c.len-at.result items c.push.ensures.items c.len-at.ensures.value
    ∙ ap (λ f. before ++ f ∷ []) voted

pub returns-else-is_majority : goal.returns-else-is_majority
returns-else-is_majority g c =
    let pattern = c.args.pattern.now in
    let live = c.live_of-live.result.now in
    let none : None ≡ most_held pattern live =
    sym (none_without_most pattern live
    (ap (λ part. is_majority part (length live)) (sym c.flags_but_vote-asking.ensures.asking) ∙ sym c.is_majority.ensures ∙ c.if-is_majority.false)) in
    let voted =
    c.flags_but_vote-asking.ensures.flags
    ∙ ap (λ d. with_vote pattern live d (flags_on pattern c.args.g.now.vid live)) none
    ∙ ap (flags_on pattern c.args.g.now.vid) c.live_of-live.ensures.members
    ∙ flags_on_live pattern c.args.g.now in
    c.push.ensures.items ∙ ap (λ f. c.args.flags.now.items ++ f ∷ []) voted
