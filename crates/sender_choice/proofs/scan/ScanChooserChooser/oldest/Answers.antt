use Rattle.std.proofs.Common.{◌≡◌, ℕ, ◌+◌, true, false, length, Option, sym, subst, arith, ap, ◌∙◌}
use Rattle.ftpp_base.specs.Vids.{has_vid}
use Rattle.sender_choice.specs.Sinces.{IsChoice}
use Rattle.sender_choice.specs.Scan.{scanned, older_with}
use Rattle.sender_choice.proofs.Scanned.{held_below, choice_looks, choice_skips, choice_ends}
use Rattle.sender_choice.proofs.scan.ScanChooserChooser.oldest.Goals as goal
use Rattle.sender_choice.proofs.scan.ScanChooserChooser.oldest.Goals.{then-has, else-has}

pub loop-place-preserved : goal.loop-place-preserved
loop-place-preserved c =
    let held : ℕ → Option ℕ = scanned c.args.self.now in
    let P : Option (ℕ × ℕ) → Type 0 = λ best. IsChoice (held_below (c.loop-place.place + 1) held) c.args.eligible.now best in
    elim c.if-has.branch [
      | then-has w ↦
          let places : c.self.inside.sinces ≡ c.args.self.now = c.self.view_is in
          let same : c.if-has.best ≡ older_with c.loop-place.best c.loop-place.place (held c.loop-place.place) = cc in
          let fits : has_vid c.args.eligible.now c.loop-place.place ≡ true = cc in
          subst P (sym same) (choice_looks c.loop-place.place held c.args.eligible.now c.loop-place.best fits c.loop-place.invariant)
      | else-has w ↦
          let out : has_vid c.args.eligible.now c.loop-place.place ≡ false = cc in
          subst P (sym w.best-is) (choice_skips c.loop-place.place held c.args.eligible.now c.loop-place.best out c.loop-place.invariant)
    ]

pub returns : goal.returns
returns c =
    let held : ℕ → Option ℕ = scanned c.args.self.now in
    let all : c.loop-place.place ≡ 256 = omega arith in
    let P : ℕ → Type 0 = λ n. IsChoice (held_below n held) c.args.eligible.now c.loop-place.best in
    choice_ends c.args.self.now c.args.eligible.now c.loop-place.best 256 (sym (ap length c.self.view_is) ∙ c.self.invariant) (subst P all c.loop-place.invariant)
