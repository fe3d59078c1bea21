use Rattle.std.proofs.Common.{◌≡◌, ℕ, ◌<◌, length, sym, ◌∙◌, subst, arith}
use Rattle.std.specs.Prelude.{Some, vec_len}
use Rattle.script_text.specs.Reading.{plan_of}
use Rattle.fault_script.specs.Plays.{Told}
use Rattle.cluster.specs.Follows.{Follows}
use Rattle.cluster.specs.ClusterValue.{ClusterValue, new_cluster}
use Rattle.ftpp_top.specs.FollowsScript.{StandsAt}
use Rattle.ftpp_top.specs.Playing.{IsReady, told_by}
use Rattle.ftpp_top.proofs.Begun.{ready_first, first_below}
use Rattle.ftpp_top.proofs.CycleOfScript.{stands_first}
use Rattle.ftpp_top.proofs.playing.Playing.new.Goals as goal

pub returns-clause-ready : goal.returns-clause-ready
returns-clause-ready g c =
    let s = c.args.script.now in
    let plan = plan_of s in
    let count : vec_len s.acts ≡ length s.acts.items = omega (arith, s.acts.ok.0) in
    let made : c.in_ok-cluster.cluster ≡ new_cluster c.args.table.now s.faulty s.cycles (length s.acts.items) =
    c.in_ok-cluster.ensures.new ∙ (λ i. new_cluster c.args.table.now (c.same_element-faulty.ensures i) s.cycles ((c.len.ensures ∙ count) i)) in
    let ready : IsReady g.row.N plan c.in_ok-cluster.cluster s.acts.items s.rejoins.items = ready_first g.row.N plan c.args.table.now c.in_ok-cluster.cluster c.requires.playable c.requires.elements made in
    rw (c.as_slice-2.ensures.value, c.as_slice-3.ensures.value) ready

pub returns-clause-stands : goal.returns-clause-stands
returns-clause-stands g c =
    let s = c.args.script.now in
    let plan = plan_of s in
    let count : vec_len s.acts ≡ length s.acts.items = omega (arith, s.acts.ok.0) in
    let made : c.in_ok-cluster.cluster ≡ new_cluster c.args.table.now s.faulty s.cycles (length s.acts.items) =
    c.in_ok-cluster.ensures.new ∙ (λ i. new_cluster c.args.table.now (c.same_element-faulty.ensures i) s.cycles ((c.len.ensures ∙ count) i)) in
    let told : Told = told_by c.new-2.result in
    let below : (ne : ℕ) → plan.faulty ≡ Some ne → ne < c.args.table.now.n = λ ne f. subst (λ (x : ℕ). ne < x) (sym c.requires.elements) (first_below g.row.N plan c.requires.playable ne f) in
    let follows : Follows (new_cluster c.args.table.now s.faulty s.cycles (length s.acts.items)) = subst Follows made c.in_ok-cluster.ensures.follows in
    subst (λ (x : ClusterValue). StandsAt c.args.table.now plan 0 x told) (sym made)
    (stands_first c.args.table.now plan s.cycles (length s.acts.items) told c.n-elements.ensures.valid below (c.new-2.ensures.edits ∙ c.as_slice.ensures.value) c.new-2.ensures.kept follows)
