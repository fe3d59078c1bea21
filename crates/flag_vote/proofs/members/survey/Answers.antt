use Rattle.std.proofs.Common.{◌∙◌, [], ◌∷◌, List, ap, sym, refl, take, get_or, arith}
use Rattle.std.specs.Prelude.{filter}
use Rattle.std.proofs.lemmas.List.{take_all, take_more, map-append}
use Rattle.ftpp_base.specs.Sets.{set_of}
use Rattle.ftpp_base.specs.declared.element.Proc.{Proc}
use Rattle.ftpp_base.specs.declared.sets.Set8.{Set8}
use Rattle.config_table.specs.Groups.{elements_of}
use Rattle.flag_vote.specs.Flags.{has_space}
use Rattle.flag_vote.specs.Words.{asks}
use Rattle.flag_vote.proofs.Counted.{set_none, elements_more, count_more, one_at_most, none_left}
use Rattle.flag_vote.proofs.members.survey.Goals as goal

pub hear-requires : goal.hear-requires
hear-requires g c =
    let few = c.loop-p.invariant.few in
    let few_with = c.loop-p.invariant.few_with in
    let here = c.loop-p-test.true in
    let most = c.requires in
    (omega arith, omega arith)

pub loop-p-init : goal.loop-p-init
loop-p-init g c =
    let nothing : Set8 = record { bits = 0 } in
    record { few = omega arith; few_with = omega arith; asked = omega arith; spaced = omega arith; space = set_none nothing refl; live = set_none nothing refl }

pub loop-p-preserved : goal.loop-p-preserved
loop-p-preserved g c =
    let none : Proc = record { ne = 0; port = 0 } in
    let before = take c.loop-p.p-index c.args.members.now in
    let here = get_or c.args.members.now c.loop-p.p-index none in
    let with_room = elements_of (filter (has_space c.args.pattern.now) before) in
    let i = c.loop-p.invariant in
    let asked = i.asked in
    let spaced = i.spaced in
    let more_ask = count_more (asks c.args.pattern.now) c.loop-p.p-index c.args.members.now none c.loop-p-test.true in
    let more_room = count_more (has_space c.args.pattern.now) c.loop-p.p-index c.args.members.now none c.loop-p-test.true in
    let is_asking = c.hear.ensures.asking in
    let is_with = c.hear.ensures.with_space in
    record {
      few = one_at_most (asks c.args.pattern.now here) c.loop-p.said.asking c.hear.new.said.asking c.loop-p.p-index is_asking i.few;
      few_with = one_at_most (has_space c.args.pattern.now here) c.loop-p.said.with_space c.hear.new.said.with_space c.loop-p.p-index is_with i.few_with;
      asked = omega arith;
      spaced = omega arith;
      space = c.hear.ensures.space with_room i.space
          ∙ ap set_of (sym (elements_more (has_space c.args.pattern.now) c.loop-p.p-index c.args.members.now none c.loop-p-test.true));
      live = c.hear.ensures.live (elements_of before) i.live
          ∙ ap set_of (sym (ap elements_of (take_more c.args.members.now c.loop-p.p-index none c.loop-p-test.true) ∙ map-append (λ (p : Proc). p.ne) before (here ∷ [])));
    }

pub returns-clause-asking : goal.returns-clause-asking
returns-clause-asking g c =
    let so_far = c.loop-p.invariant.asked in
    let rest = none_left (asks c.args.pattern.now) c.loop-p.p-index c.args.members.now c.loop-p-test.false in
    omega arith

pub returns-clause-with_space : goal.returns-clause-with_space
returns-clause-with_space g c =
    let so_far = c.loop-p.invariant.spaced in
    let rest = none_left (has_space c.args.pattern.now) c.loop-p.p-index c.args.members.now c.loop-p-test.false in
    omega arith

pub returns-clause-space : goal.returns-clause-space
returns-clause-space g c =
    c.loop-p.invariant.space ∙ ap (λ (l : List Proc). set_of (elements_of (filter (has_space c.args.pattern.now) l))) (take_all c.loop-p.p-index c.args.members.now c.loop-p-test.false)

pub returns-clause-live : goal.returns-clause-live
returns-clause-live g c =
    c.loop-p.invariant.live ∙ ap (λ (l : List Proc). set_of (elements_of l)) (take_all c.loop-p.p-index c.args.members.now c.loop-p-test.false)
