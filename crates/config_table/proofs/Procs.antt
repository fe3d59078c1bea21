-- When two processors are one, and the elements of some.
use Rattle.std.proofs.Common.{◌≡◌, Bool, true, false, List, refl, ap}
use Rattle.std.specs.Prelude.{◌&&◌, ◌==◌}
use Rattle.std.proofs.lemmas.Bool.{eqb-true, eq-eqb, and_parts}
use Rattle.ftpp_base.specs.declared.element.Proc.{Proc}
use Rattle.ftpp_base.specs.Lists.{is_in}
use Rattle.ftpp_base.proofs.Items.{IsItem, item_any, map_item}
use Rattle.config_table.specs.Groups.{same_proc, elements_of}

-- processors that the test finds equal are one
pub same_proc-true : (a b : Proc) → same_proc a b ≡ true → a ≡ b
same_proc-true a b e =
    let h = and_parts (a.ne == b.ne) (a.port == b.port) e in
    let x : a.ne ≡ b.ne = eqb-true a.ne b.ne h.0 in
    let y : a.port ≡ b.port = eqb-true a.port b.port h.1 in
    λ i. record { ne = x i; port = y i }

-- a processor is equal to itself
pub same_proc-refl : (a : Proc) → same_proc a a ≡ true
same_proc-refl a = λ i. eq-eqb a.ne a.ne refl i && eq-eqb a.port a.port refl i

-- processors of different elements are different
pub other_element : (a b : Proc) → (a.ne ≡ b.ne → ⊥) → same_proc a b ≡ false
other_element a b h = by (same_proc a b) refl where
  by : (c : Bool) → same_proc a b ≡ c → c ≡ false
  by true e = absurd (h (ap (λ (p : Proc). p.ne) (same_proc-true a b e)))
  by false e = refl

-- the element of each processor is among their elements
pub element_in : (procs : List Proc) (p : Proc) → IsItem procs p → is_in (elements_of procs) p.ne ≡ true
element_in procs p i = item_any (λ ne. ne == p.ne) (elements_of procs) p.ne (map_item (λ (q : Proc). q.ne) procs p i) (eq-eqb p.ne p.ne refl)
