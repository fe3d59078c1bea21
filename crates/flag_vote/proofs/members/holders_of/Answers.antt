use Rattle.std.proofs.Common.{◌∙◌, List, ap, sym, refl, take, get_or, arith}
use Rattle.std.specs.Prelude.{filter}
use Rattle.std.proofs.lemmas.List.{take_all}
use Rattle.ftpp_base.specs.Sets.{set_of}
use Rattle.ftpp_base.specs.declared.element.Proc.{Proc}
use Rattle.ftpp_base.specs.declared.sets.Set8.{Set8}
use Rattle.config_table.specs.Groups.{elements_of}
use Rattle.flag_vote.specs.Flags.{holds}
use Rattle.flag_vote.proofs.Counted.{set_none, elements_more, count_more, one_at_most, none_left}
use Rattle.flag_vote.proofs.members.holders_of.Goals as goal

pub add_holder-requires : goal.add_holder-requires
add_holder-requires g c =
    let few = c.loop-p.invariant.few in
    let here = c.loop-p-test.true in
    let most = c.requires in
    omega arith

pub loop-p-init : goal.loop-p-init
loop-p-init g c = let nothing : Set8 = record { bits = 0 } in record { few = omega arith; counted = omega arith; set = set_none nothing refl }

pub loop-p-preserved : goal.loop-p-preserved
loop-p-preserved g c =
    let none : Proc = record { ne = 0; port = 0 } in
    let test = holds c.args.pattern.now c.args.desc.now in
    let before = elements_of (filter test (take c.loop-p.p-index c.args.members.now)) in
    let here = get_or c.args.members.now c.loop-p.p-index none in
    let few = c.loop-p.invariant.few in
    let so_far = c.loop-p.invariant.counted in
    let more = count_more test c.loop-p.p-index c.args.members.now none c.loop-p-test.true in
    let is = c.add_holder.ensures.count in
    record {
      few = one_at_most (test here) c.loop-p.holders.count c.add_holder.new.holders.count c.loop-p.p-index is few;
      counted = omega arith;
      set = c.add_holder.ensures.elements before c.loop-p.invariant.set
          ∙ ap set_of (sym (elements_more test c.loop-p.p-index c.args.members.now none c.loop-p-test.true));
    }

pub returns-clause-count : goal.returns-clause-count
returns-clause-count g c =
    let so_far = c.loop-p.invariant.counted in
    let none = none_left (holds c.args.pattern.now c.args.desc.now) c.loop-p.p-index c.args.members.now c.loop-p-test.false in
    omega arith

pub returns-clause-elements : goal.returns-clause-elements
returns-clause-elements g c =
    let test = holds c.args.pattern.now c.args.desc.now in
    c.loop-p.invariant.set ∙ ap (λ (l : List Proc). set_of (elements_of (filter test l))) (take_all c.loop-p.p-index c.args.members.now c.loop-p-test.false)
