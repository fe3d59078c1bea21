-- The voted request of a group is the one that more than half of its live members hold.
use Rattle.std.proofs.Common.{◌≡◌, ◌≢◌, ℕ, ◌<◌, Bool, true, false, cond, List, [], ◌∷◌, refl, ap, map, sym, ◌∙◌, arith}
use Rattle.std.specs.Prelude.{Option, Some, find, count_by}
use Rattle.std.proofs.lemmas.Bool.{ltb-true, and_parts}
use Rattle.ftpp_base.specs.Bits.{most}
use Rattle.ftpp_base.specs.declared.element.Proc.{Proc}
use Rattle.packet_format.specs.declared.Descriptor.{Descriptor}
use Rattle.packet_format.specs.Packets.{same_descriptor}
use Rattle.packet_format.proofs.Descriptors.{same_descriptor-true, same_descriptor-refl}
use Rattle.ftpp_base.proofs.Counts.{count_by-cons, count_apart}
use Rattle.config_table.specs.declared.groups.Group.{Group}
use Rattle.config_table.specs.Groups.{live_members}
use Rattle.flag_vote.specs.Flags.{Pattern, holds, descriptor_of, is_held_by_most, voted_descriptor}

-- a member that holds a request shows it
shows : (pattern : Pattern) (desc : Descriptor) (proc : Proc) → holds pattern desc proc ≡ true → descriptor_of pattern proc ≡ desc
shows pattern desc proc e = same_descriptor-true _ _ (and_parts _ _ e).1

apart_by : (b : Bool) (pattern : Pattern) (one other : Descriptor) (proc : Proc) → holds pattern other proc ≡ b → one ≢ other → holds pattern one proc ≡ true → holds pattern other proc ≡ false
apart_by true pattern one other proc e differ h = absurd (differ (sym (shows pattern one proc h) ∙ shows pattern other proc e))
apart_by false pattern one other proc e differ h = e

same_by : (b : Bool) (one other : Descriptor) → same_descriptor one other ≡ b → (one ≢ other → ⊥) → one ≡ other
same_by true one other e wrong = same_descriptor-true one other e
same_by false one other e wrong =
    absurd (wrong (λ same. let yes : same_descriptor one other ≡ true = ap (λ d. same_descriptor d other) same ∙ same_descriptor-refl other in cc))

-- two requests that more than half hold are one
pub one_majority : (pattern : Pattern) (one other : Descriptor) (procs : List Proc) → most (holds pattern one) procs ≡ true → most (holds pattern other) procs ≡ true → one ≡ other
one_majority pattern one other procs a b = same_by (same_descriptor one other) one other refl (λ differ.
    let few = count_apart (holds pattern one) (holds pattern other) procs (λ proc h. apart_by (holds pattern other proc) pattern one other proc refl differ h) in
    let x = ltb-true _ _ a in let y = ltb-true _ _ b in omega arith)

found_by : (p : Descriptor → Bool) (desc d : Descriptor) (rest : Option Descriptor) (b : Bool) → p d ≡ b → (p d ≡ true → d ≡ desc) → (b ≡ false → rest ≡ Some desc) → cond b (Some d) rest ≡ Some desc
found_by p desc d rest true e one h = ap (λ x. Some x) (one e)
found_by p desc d rest false e one h = h refl

-- what some member shows, and alone passes the test, is found
found : (pattern : Pattern) (p : Descriptor → Bool) (desc : Descriptor) (procs : List Proc) → p desc ≡ true → ((d : Descriptor) → p d ≡ true → d ≡ desc)
    → 0 < count_by (holds pattern desc) procs → find p (map (descriptor_of pattern) procs) ≡ Some desc
found pattern p desc [] yes_desc one more = let never : ⊥ = omega arith in absurd never
found pattern p desc (proc ∷ procs) yes_desc one more =
    found_by p desc (descriptor_of pattern proc) _ (p (descriptor_of pattern proc)) refl (one (descriptor_of pattern proc))
    (λ wrong. found pattern p desc procs yes_desc one (
    let c = count_by-cons (holds pattern desc) proc procs in
    let not_here : holds pattern desc proc ≡ false = not_held (holds pattern desc proc) refl wrong in
    let z : cond {A = ℕ} (holds pattern desc proc) 1 0 ≡ 0 = ap (λ (b : Bool). cond {A = ℕ} b 1 0) not_here in
    omega arith)) where
      not_held : (b : Bool) → holds pattern desc proc ≡ b → p (descriptor_of pattern proc) ≡ false → holds pattern desc proc ≡ false
      not_held true e wrong = let yes_here : p (descriptor_of pattern proc) ≡ true = ap p (shows pattern desc proc e) ∙ yes_desc in cc
      not_held false e wrong = e

-- the request that more than half of the live members hold is the voted one
pub voted_descriptor-most : (pattern : Pattern) (g : Group) (desc : Descriptor) → is_held_by_most pattern g desc ≡ true → voted_descriptor pattern g ≡ Some desc
unfolding voted_descriptor
voted_descriptor-most pattern g desc e =
    found pattern (is_held_by_most pattern g) desc (live_members g) e (λ d h. one_majority pattern d desc (live_members g) h e)
    (let l = ltb-true _ _ e in omega arith)
