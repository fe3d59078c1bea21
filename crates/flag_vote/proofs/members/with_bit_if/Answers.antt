use Rattle.std.proofs.Common.{◌≡◌, ◌∙◌, Bool, true, false, ℕ, cond, refl}
use mir.Val.{bool_byte}
use Rattle.ftpp_base.specs.declared.sets.Set8.{Set8}
use Rattle.flag_vote.proofs.Counted.{set_more_if}
use Rattle.flag_vote.proofs.members.with_bit_if.Goals as goal

as_number : (b : Bool) → bool_byte b ≡ cond {A = ℕ} b 1 0
as_number true = refl
as_number false = refl

pub returns : goal.returns
returns c xs is =
    let set : Set8 = record { bits = c.args.bits } in
    set_more_if c.args.belongs set c.args.ne c.from.result xs c.ranges.bits.fits c.requires (c.from.ensures ∙ as_number c.args.belongs) is
