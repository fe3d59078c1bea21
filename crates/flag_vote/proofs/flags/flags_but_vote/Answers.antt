use Rattle.std.proofs.Common.{◌∙◌, ap, refl, length, false, None}
use Rattle.ftpp_base.specs.Bits.{is_majority}
use Rattle.ftpp_base.specs.declared.sets.Set8.{Set8}
use Rattle.flag_vote.proofs.Counted.{set_none}
use Rattle.flag_vote.proofs.flags.flags_but_vote.Goals as goal

pub returns-clause-flags : goal.returns-clause-flags
returns-clause-flags g c =
    let nothing : Set8 = record { bits = 0 } in
    let holds = set_none nothing refl in
    let most_space = c.is_majority.ensures ∙ ap (λ n. is_majority n (length c.args.live.now)) c.survey-said.ensures.with_space in
    λ i. record {
      vid = c.args.vid;
      desc = None;
      unanimous = false;
      live = c.survey-said.ensures.live i;
      holds = holds i;
      space = c.survey-said.ensures.space i;
      most_space = most_space i;
    }
