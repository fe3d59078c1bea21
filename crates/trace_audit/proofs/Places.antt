-- The links of a cycle and their places are the same, one for one.
use Rattle.std.proofs.Common.{◌≡◌, ◌≢◌, ℕ, zero, suc, ◌+◌, ◌<◌, Bool, true, refl, sym, ◌∙◌, ap, arith, subst, ◌⊎◌, inl, inr}
use Rattle.std.specs.Prelude.{◌&&◌, ◌||◌, ◌==◌, not, nat_lt}
use Rattle.std.specs.List.{list_all, range_with_len}
use Rattle.std.proofs.lemmas.Bool.{and_parts, or_cases, eqb-true, eqb-false, ltb-true, not-true}
use Rattle.ftpp_base.specs.Lists.{below}
use Rattle.ftpp_base.specs.declared.element.Round.{Round}
use Rattle.ftpp_base.specs.declared.element.Round.TheVariants.{A1, A2, B1, B2}
use Rattle.two_round.proofs.Others.{IsSize}
use Rattle.trace_audit.specs.declared.links.Link.{Link}
use Rattle.trace_audit.specs.Trace.{round_number, place_of, per_cycle}
use Rattle.trace_audit.specs.Links.{link_at}

-- what is so of all numbers below n is so of each
from_all : (p : ℕ → Bool) (a n k : ℕ) → list_all p (range_with_len a n) ≡ true → k < n → p (a + k) ≡ true
from_all p a zero k e l = let never : ⊥ = omega arith in absurd never
from_all p a (suc n) zero e l = let same : a + 0 ≡ a = omega arith in ap p same ∙ (and_parts (p a) (list_all p (range_with_len (a + 1) n)) e).0
from_all p a (suc n) (suc k) e l =
    let same : a + suc k ≡ a + 1 + k = omega arith in
    ap p same ∙ from_all p (a + 1) n k (and_parts (p a) (list_all p (range_with_len (a + 1) n)) e).1 (omega arith)

at_each : (p : ℕ → Bool) (n k : ℕ) → list_all p (below n) ≡ true → k < n → p k ≡ true
at_each p n k e l = let same : k ≡ 0 + k = omega arith in ap p same ∙ from_all p 0 n k e l

-- ---- from places to links

-- A link between two elements that are there, at its place.
pub record IsLink (n number : ℕ) (link : Link) : Type 0 where
  pub from : link.from < n
  pub to : link.to < n
  pub another : link.from ≢ link.to
  pub place : place_of n link.round link.from link.to ≡ number

abbrev is_link : ℕ → ℕ → Link → Bool
is_link n place link = nat_lt link.from n && (nat_lt link.to n && (not (link.from == link.to) && place_of n link.round link.from link.to == place))

from_test : (n place : ℕ) (link : Link) → is_link n place link ≡ true → IsLink n place link
from_test n place link e =
    let one = and_parts (nat_lt link.from n) (nat_lt link.to n && (not (link.from == link.to) && place_of n link.round link.from link.to == place)) e in
    let two = and_parts (nat_lt link.to n) (not (link.from == link.to) && place_of n link.round link.from link.to == place) one.1 in
    let three = and_parts (not (link.from == link.to)) (place_of n link.round link.from link.to == place) two.1 in
    record {
      from = ltb-true link.from n one.0;
      to = ltb-true link.to n two.0;
      another = eqb-false link.from link.to (not-true (link.from == link.to) three.0);
      place = eqb-true (place_of n link.round link.from link.to) place three.1;
    }

abbrev is_link_at : ℕ → ℕ → Bool
is_link_at n place = is_link n place (link_at n place)

links_four : list_all (is_link_at 4) (below 48) ≡ true
unfolding link_at
links_four = refl

links_five : list_all (is_link_at 5) (below 80) ≡ true
unfolding link_at
links_five = refl

pub link_there : (n place : ℕ) → IsSize n → place < per_cycle n → IsLink n place (link_at n place)
link_there n place (inl e) l =
    subst (λ k. IsLink k place (link_at k place)) (sym e)
    (from_test 4 place (link_at 4 place) (at_each (is_link_at 4) 48 place links_four (subst (λ k. place < per_cycle k) e l)))
link_there n place (inr e) l =
    subst (λ k. IsLink k place (link_at k place)) (sym e)
    (from_test 5 place (link_at 5 place) (at_each (is_link_at 5) 80 place links_five (subst (λ k. place < per_cycle k) e l)))

-- ---- and back

same_round : (a b : Round) → round_number a ≡ round_number b → a ≡ b
same_round A1 A1 e = refl
same_round A1 A2 e = let never : ⊥ = omega arith in absurd never
same_round A1 B1 e = let never : ⊥ = omega arith in absurd never
same_round A1 B2 e = let never : ⊥ = omega arith in absurd never
same_round A2 A1 e = let never : ⊥ = omega arith in absurd never
same_round A2 A2 e = refl
same_round A2 B1 e = let never : ⊥ = omega arith in absurd never
same_round A2 B2 e = let never : ⊥ = omega arith in absurd never
same_round B1 A1 e = let never : ⊥ = omega arith in absurd never
same_round B1 A2 e = let never : ⊥ = omega arith in absurd never
same_round B1 B1 e = refl
same_round B1 B2 e = let never : ⊥ = omega arith in absurd never
same_round B2 A1 e = let never : ⊥ = omega arith in absurd never
same_round B2 A2 e = let never : ⊥ = omega arith in absurd never
same_round B2 B1 e = let never : ⊥ = omega arith in absurd never
same_round B2 B2 e = refl

abbrev is_same : Link → ℕ → ℕ → ℕ → Bool
is_same link number from to = round_number link.round == number && (link.from == from && link.to == to)

abbrev comes_back : ℕ → Round → ℕ → ℕ → Bool
comes_back n round from to = from == to || is_same (link_at n (place_of n round from to)) (round_number round) from to

abbrev all_back : ℕ → Round → ℕ → Bool
all_back n round from = list_all (comes_back n round from) (below n)

back_four : (round : Round) → list_all (all_back 4 round) (below 4) ≡ true
unfolding link_at
back_four A1 = refl
back_four A2 = refl
back_four B1 = refl
back_four B2 = refl

back_five : (round : Round) → list_all (all_back 5 round) (below 5) ≡ true
unfolding link_at
back_five A1 = refl
back_five A2 = refl
back_five B1 = refl
back_five B2 = refl

abbrev link_of : Round → ℕ → ℕ → Link
link_of round from to = record { round = round; from = from; to = to }

link_same : (link : Link) (round : Round) (from to : ℕ) → is_same link (round_number round) from to ≡ true → link ≡ link_of round from to
link_same link round from to e =
    let one = and_parts (round_number link.round == round_number round) (link.from == from && link.to == to) e in
    let two = and_parts (link.from == from) (link.to == to) one.1 in
    let same = same_round link.round round (eqb-true (round_number link.round) (round_number round) one.0) in
    let sender = eqb-true link.from from two.0 in
    let receiver = eqb-true link.to to two.1 in
    λ i. record { round = same i; from = sender i; to = receiver i }

back_by : (n : ℕ) (round : Round) (from to : ℕ) → list_all (all_back n round) (below n) ≡ true → from < n → to < n → from ≢ to → link_at n (place_of n round from to) ≡ link_of round from to
back_by n round from to all l m away =
    by (or_cases (from == to) (is_same (link_at n (place_of n round from to)) (round_number round) from to) (at_each (comes_back n round from) n to (at_each (all_back n round) n from all l) m)) where
      by : ((from == to) ≡ true) ⊎ (is_same (link_at n (place_of n round from to)) (round_number round) from to ≡ true) → link_at n (place_of n round from to) ≡ link_of round from to
      by (inl e) = absurd (away (eqb-true from to e))
      by (inr e) = link_same (link_at n (place_of n round from to)) round from to e

pub link_back : (n : ℕ) (round : Round) (from to : ℕ) → IsSize n → from < n → to < n → from ≢ to → link_at n (place_of n round from to) ≡ link_of round from to
link_back n round from to (inl e) =
    subst (λ k. from < k → to < k → from ≢ to → link_at k (place_of k round from to) ≡ link_of round from to) (sym e) (back_by 4 round from to (back_four round))
link_back n round from to (inr e) =
    subst (λ k. from < k → to < k → from ≢ to → link_at k (place_of k round from to) ≡ link_of round from to) (sym e) (back_by 5 round from to (back_five round))
