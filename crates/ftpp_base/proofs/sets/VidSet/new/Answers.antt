use Rattle.std.proofs.Common.{◌≡◌, ℕ, zero, suc, false, refl, replicate, get_or}
use Rattle.ftpp_base.proofs.sets.VidSet.new.Goals as goal

none_of : (n i : ℕ) → get_or (replicate n false) i false ≡ false
none_of zero i = refl
none_of (suc n) zero = refl
none_of (suc n) (suc i) = none_of n i

pub returns : goal.returns
returns c vid = none_of 256 vid
