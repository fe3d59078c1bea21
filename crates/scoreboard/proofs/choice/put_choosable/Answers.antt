use Rattle.std.proofs.Common.{◌≡◌, ◌<◌, ℕ, List, length, get_or, sym, ◌∙◌, ap, subst, arith}
use Rattle.std.specs.Prelude.{is_some}
use Rattle.std.specs.List.{list_any}
use Rattle.std.proofs.lemmas.List.{take_all}
use Rattle.ftpp_base.specs.Vids.{has_vid}
use Rattle.sender_choice.specs.Pairs.{sinces_of}
use Rattle.config_table.specs.declared.groups.Group.{Group}
use Rattle.scoreboard.proofs.Holding.{has_room}
use Rattle.scoreboard.proofs.Choosable.{is_choice_of, choice_of_all, none_yet, choose_more, choose_same}
use Rattle.scoreboard.proofs.choice.put_choosable.Goals as goal
use Rattle.scoreboard.proofs.choice.put_choosable.Goals.{in-Some, in-None}

pub set-requires : goal.set-requires
set-requires c =
    let k : ℕ = c.loop-place.place in
    let g : Group = c.group-item.result in
    let Within : List Group → Type 0 = λ groups. k < length groups in
    let At : List Group → Type 0 = λ groups. get_or groups k g ≡ g in
    let within = subst Within c.groups_in-group-items.ensures.groups c.loop-place-test.true in
    let at = subst At c.groups_in-group-items.ensures.groups (sym c.group-item.is) in
    has_room c.args.table.now (sinces_of c.loop-place.chooser) g c.groups_in-group-items.ensures.valid c.loop-place.invariant.known (k, within, at)

pub loop-place-init : goal.loop-place-init
loop-place-init c =
    none_yet c.args.table.now c.args.flags.now c.args.now c.args.lines.now c.args.eligible.now (sinces_of c.args.chooser.now) c.requires.none c.requires.empty

pub loop-place-preserved : goal.loop-place-preserved
loop-place-preserved c =
    let k : ℕ = c.loop-place.place in
    let g : Group = c.group-item.result in
    let Within : List Group → Type 0 = λ groups. k < length groups in
    let At : List Group → Type 0 = λ groups. get_or groups k g ≡ g in
    let within = subst Within c.groups_in-group-items.ensures.groups c.loop-place-test.true in
    let at = subst At c.groups_in-group-items.ensures.groups (sym c.group-item.is) in
    let table = c.args.table.now in
    let flags = c.args.flags.now in
    let board = c.args.lines.now in
    let held = sinces_of c.loop-place.chooser in
    let valid = c.groups_in-group-items.ensures.valid in
    elim c.match-choosable_since.branch [
      | in-Some w ↦
          choose_more table flags c.args.now board k c.loop-place.eligible _ held _ g w.in-Some.since valid c.loop-place.invariant within at
          (sym c.choosable_since.ensures.chosen ∙ ap is_some w.in-Some.is) w.in-Some.ensures.since
          (ap (λ s. has_vid s g.vid) w.eligible-is ∙ w.put.ensures.has) (λ other differs. ap (λ s. has_vid s other) w.eligible-is ∙ w.put.ensures.others other differs)
          (ap sinces_of w.chooser-is ∙ w.set.ensures)
      | in-None w ↦
          choose_same table flags c.args.now board k c.loop-place.eligible _ held _ g c.loop-place.invariant within at
          (sym c.choosable_since.ensures.chosen ∙ ap is_some w.in-None.is) w.eligible-is (ap sinces_of w.chooser-is)
    ]

pub returns-clause-eligible : goal.returns-clause-eligible
returns-clause-eligible c = λ vid.
    let table = c.args.table.now in
    let test = is_choice_of table c.args.flags.now c.args.now c.args.lines.now vid in
    let groups = ap (λ (gs : List Group). length gs) c.groups_in-group-items.ensures.groups in
    c.loop-place.invariant.chosen vid
    ∙ ap (list_any test) (take_all c.loop-place.place table.groups (omega arith))
    ∙ choice_of_all table c.args.flags.now c.args.now c.args.lines.now vid c.groups_in-group-items.ensures.valid
