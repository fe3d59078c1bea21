use Rattle.std.proofs.Common.{◌<◌, inr, lit<, refl, sym, subst}
use Rattle.sender_choice.specs.Sinces.{Sinces, nothing_held, with_since, held_count, HasRoomFor}
use Rattle.sender_choice.proofs.tests.answers.Goals as goal

-- a few groups leave room
abbrev once : Sinces → Sinces
once held = with_since held 5 0

abbrev twice : Sinces → Sinces
twice held = with_since (once held) 2 1

abbrev three : Sinces → Sinces
three held = with_since (twice held) 3 0

few : (held_count nothing_held < 40) × (held_count (once nothing_held) < 40) × (held_count (twice nothing_held) < 40) × (held_count (three nothing_held) < 40)
unfolding held_count
few = (lit< tt, lit< tt, lit< tt, lit< tt)

abbrev HasRoom : Sinces → Type 0
HasRoom held = HasRoomFor held 5 × (HasRoomFor (once held) 2 × (HasRoomFor (twice held) 3 × (Unit {0} × (Unit {0} × (Unit {0} × (HasRoomFor (three held) 5 × (Unit {0} × (Unit {0} × Unit {0}))))))))

pub drive-requires : goal.drive-requires
drive-requires g c = record {
  room = subst HasRoom (sym c.requires) (inr few.0, (inr few.1, (inr few.2, (tt, (tt, (tt, (inr few.3, (tt, (tt, tt)))))))));
  width = refl;
}
