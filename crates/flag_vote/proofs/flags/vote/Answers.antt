use Rattle.std.proofs.Common.{◌≡◌, ◌∙◌, ap, Some}
use Rattle.ftpp_base.specs.Sets.{set_of}
use Rattle.config_table.specs.Groups.{elements_of}
use Rattle.flag_vote.specs.Words.{all_hold_it, held_by, most_held, with_vote}
use Rattle.flag_vote.proofs.flags.vote.Goals as goal

pub returns-in-Some : goal.returns-in-Some
returns-in-Some g c =
    let pattern = c.args.pattern.now in
    let live = c.args.live.now in
    let found : Some c.in-Some.held.desc ≡ most_held pattern live = c.in-Some.ensures.desc in
    let all = c.in-Some.ensures.all ∙ ap (all_hold_it pattern live) found in
    let those = c.in-Some.ensures.holds ∙ ap (λ d. set_of (elements_of (held_by pattern live d))) found in
    λ i. record c.args.flags.now { desc = found i; unanimous = all i; holds = those i }

pub returns-in-None : goal.returns-in-None
returns-in-None g c =
    c.requires.none ∙ ap (λ d. with_vote c.args.pattern.now c.args.live.now d c.args.flags.now) c.in-None.ensures.desc
