-- Pairs of since and group number, the oldest first.
use Rattle.std.specs.Prelude.{◌≡◌, ◌≢◌, ℕ, ◌<◌, Bool, true, ◌&&◌, ◌||◌, ◌==◌, nat_lt, not, List, [], ◌∷◌, find, option_map, if◌then◌else◌}
use Rattle.std.specs.List.{AllByRecursion}
use Rattle.ftpp_base.specs.Vids.{has_vid}
use Rattle.sender_choice.specs.Sinces.{Sinces}
use Rattle.sender_choice.specs.declared.index.Pair.{Pair}

-- whether the pair is that of the group
abbrev pub is_pair_of : ℕ → Pair → Bool
is_pair_of vid p = p.vid == vid

-- what the pairs say of each group
abbrev pub sinces_of : List Pair → Sinces
sinces_of pairs vid = option_map (λ p. p.since) (find (is_pair_of vid) pairs)

-- whether a pair is less than another: an earlier cycle, or the same one with a lower number
abbrev pub is_before : Pair → Pair → Bool
is_before p q = nat_lt p.since q.since || (p.since == q.since && nat_lt p.vid q.vid)

-- whether a pair is less than the one that is put in
abbrev pub goes_before : Pair → Pair → Bool
goes_before x p = is_before p x

-- A pair of another group that comes later.
pub record IsLater (p q : Pair) : Type 0 where
  pub greater : is_before p q ≡ true
  pub other_group : p.vid ≢ q.vid

-- each pair is less than those behind it, and no group has two
abbrev pub InOrder : List Pair → Type 0
InOrder [] = Unit {0}
InOrder (p ∷ ps) = (p.vid < 256) × AllByRecursion (IsLater p) ps × InOrder ps

-- whether the pair is that of another group
abbrev pub is_other : ℕ → Pair → Bool
is_other vid p = not (p.vid == vid)

-- the pairs with one more, behind those that are less
abbrev pub put_in_order : Pair → List Pair → List Pair
put_in_order x [] = x ∷ []
put_in_order x (p ∷ ps) = if is_before p x then p ∷ put_in_order x ps else x ∷ p ∷ ps

-- whether the group of the pair is eligible
abbrev pub may_be : List Bool → Pair → Bool
may_be eligible p = has_vid eligible p.vid

-- a pair as it is shown: number and since
abbrev pub shown : Pair → ℕ × ℕ
shown p = (p.vid, p.since)
