-- The queues of one processor after those of a processor were changed.
use Rattle.std.proofs.Common.{◌≡◌, ℕ, zero, suc, Contains, ◌<◌, Bool, true, false, cond, List, [], ◌∷◌, length, get_or, refl, ap, arith, sym, ◌∙◌, subst, fold}
use Rattle.std.specs.Prelude.{◌==◌}
use Rattle.std.specs.List.{AllByRecursion}
use Rattle.std.proofs.lemmas.Bool.{eqb-true, eqb-false}
use Rattle.ftpp_base.specs.Lists.{change_at}
use Rattle.ftpp_base.specs.declared.element.Proc.{Proc}
use Rattle.config_table.specs.Groups.{same_proc}
use Rattle.config_table.proofs.Procs.{same_proc-true, same_proc-refl, other_element}
use Rattle.config_table.proofs.ValidTable.{AreApart}
use Rattle.processor_buffers.specs.Queues.{Queues, no_queues}
use Rattle.element_core.specs.Processors.{AllQueues, queues_of, ports_of, port_queues, with_queues}
use Rattle.ftpp_base.proofs.Among.{weaker, one_of}
use Rattle.ftpp_base.proofs.Items.{item_all}
use Rattle.ftpp_base.proofs.Changed.{length-change_at, change_at-same, change_at-other, fold-keeps, change_at-either}

-- A processor's queues are among all.
pub record IsPlace (all : AllQueues) (proc : Proc) : Type 0 where
  pub element : proc.ne < length all
  pub port : proc.port < length (ports_of all proc.ne)

-- the change of one port of an element
abbrev at_port : (Queues → Queues) → ℕ → List Queues → List Queues
at_port change port ports = change_at change ports port

-- the queues of the changed processor
pub with_queues-here : (change : Queues → Queues) (all : AllQueues) (p : Proc) → IsPlace all p → queues_of (with_queues change all p) p ≡ change (queues_of all p)
with_queues-here change all p place =
    ap (λ ports. port_queues ports p.port) (change_at-same (at_port change p.port) all p.ne [] place.element)
    ∙ change_at-same change (ports_of all p.ne) p.port no_queues place.port

-- what is so of a processor's queues, changed or not, is so after a change of one processor's
pub with_queues-either : (C : Queues → Type 0) (change : Queues → Queues) (all : AllQueues) (q p : Proc) → (q ≡ p → C (change (queues_of all p))) → C (queues_of all p) → C (queues_of (with_queues change all q) p)
with_queues-either C change all q p changed same =
    change_at-either (λ ports. C (port_queues ports p.port)) (λ ports. change_at change ports q.port) all q.ne p.ne []
    (λ at. change_at-either C change (ports_of all p.ne) q.port p.port no_queues (λ on. changed (λ i. record { ne = at i; port = on i })) same) same

-- what a change keeps of all queues it keeps of each processor's
pub with_queues-keeps : (P : Queues → Type 0) (change : Queues → Queues) (all : AllQueues) (q p : Proc) → ((x : Queues) → P x → P (change x)) → P (queues_of all p) → P (queues_of (with_queues change all q) p)
with_queues-keeps P change all q p keeps h = with_queues-either P change all q p (λ e. keeps (queues_of all p) h) h

-- the queues of another processor stay
with_queues-differ : (change : Queues → Queues) (all : AllQueues) (q p : Proc) → (q ≡ p → ⊥) → queues_of (with_queues change all q) p ≡ queues_of all p
with_queues-differ change all q p differ = with_queues-either (λ x. x ≡ queues_of all p) change all q p (λ e. absurd (differ e)) refl

-- a processor that the test finds different is another
differs : (q p : Proc) → same_proc q p ≡ false → q ≡ p → ⊥
differs q p e same = let yes : same_proc q p ≡ true = ap (λ r. same_proc r p) same ∙ same_proc-refl p in cc

-- so they stay where the test finds the two different
pub with_queues-there : (change : Queues → Queues) (all : AllQueues) (q p : Proc) → same_proc q p ≡ false → queues_of (with_queues change all q) p ≡ queues_of all p
with_queues-there change all q p e = with_queues-differ change all q p (differs q p e)

-- an element keeps the number of its ports
ports_by : (change : Queues → Queues) (all : AllQueues) (q : Proc) (ne : ℕ) (b : Bool) → (q.ne == ne) ≡ b → ne < length all
    → length (ports_of (with_queues change all q) ne) ≡ length (ports_of all ne)
ports_by change all q ne true e l =
    let same : q.ne ≡ ne = eqb-true q.ne ne e in
    ap (λ k. length (get_or (change_at (at_port change q.port) all k) ne [])) same
    ∙ ap length (change_at-same (at_port change q.port) all ne [] l)
    ∙ length-change_at change (ports_of all ne) q.port
ports_by change all q ne false e l = ap length (change_at-other (at_port change q.port) all q.ne ne [] (eqb-false q.ne ne e))

-- a place stays one
pub place-kept : (change : Queues → Queues) (all : AllQueues) (q p : Proc) → IsPlace all p → IsPlace (with_queues change all q) p
place-kept change all q p place =
    let long = length-change_at (at_port change q.port) all q.ne in
    let wide = ports_by change all q p.ne (q.ne == p.ne) refl place.element in
    let e = place.element in
    let f = place.port in
    record { element = omega arith; port = omega arith }

-- the changed processor, or another
queues_by : (change : Queues → Queues) (all : AllQueues) (q p : Proc) (b : Bool) → same_proc q p ≡ b → IsPlace all p
    → queues_of (with_queues change all q) p ≡ cond b (change (queues_of all p)) (queues_of all p)
queues_by change all q p true e place =
    let same : q ≡ p = same_proc-true q p e in
    ap (λ r. queues_of (with_queues change all r) p) same ∙ with_queues-here change all p place
queues_by change all q p false e place = with_queues-there change all q p e

-- the queues of a processor after a change of any
pub with_queues-is : (change : Queues → Queues) (all : AllQueues) (q p : Proc) → IsPlace all p
    → queues_of (with_queues change all q) p ≡ cond (same_proc q p) (change (queues_of all p)) (queues_of all p)
with_queues-is change all q p place = queues_by change all q p (same_proc q p) refl place

-- ---- one change after another

-- a place stays one through many changes
pub places-kept : (change : Queues → Queues) (all : AllQueues) (procs : List Proc) (p : Proc) → IsPlace all p → IsPlace (fold (with_queues change) all procs) p
places-kept change all [] p place = place
places-kept change all (q ∷ qs) p place = places-kept change (with_queues change all q) qs p (place-kept change all q p place)

-- the queues of a processor that is none of the changed
pub fold-others : (change : Queues → Queues) (all : AllQueues) (procs : List Proc) (p : Proc) → AllByRecursion (λ q. same_proc q p ≡ false) procs
    → queues_of (fold (with_queues change) all procs) p ≡ queues_of all p
fold-others change all procs p a =
    fold-keeps (λ x. queues_of x p ≡ queues_of all p) (with_queues change) procs all (λ x q i k. with_queues-there change x q p (item_all (λ r. same_proc r p ≡ false) procs q a i) ∙ k) refl

-- ---- one change for each of some processors at elements of their own

-- processors at other elements are others
others_apart : (p : Proc) (ps : List Proc) → AllByRecursion (λ q. p.ne ≡ q.ne → ⊥) ps → AllByRecursion (λ q. same_proc q p ≡ false) ps
others_apart p ps h = weaker (λ q. p.ne ≡ q.ne → ⊥) (λ q. same_proc q p ≡ false) (λ q wrong. other_element q p (λ e. wrong (sym e))) ps h

-- each of them is changed once
pub fold-own : (change : Queues → Queues) (all : AllQueues) (procs : List Proc) (p : Proc) → AreApart procs → IsPlace all p → Contains procs p
    → queues_of (fold (with_queues change) all procs) p ≡ change (queues_of all p)
fold-own change all [] p a place c = let l = c.1 in let never : ⊥ = omega arith in absurd never
fold-own change all (q ∷ qs) p a place (zero, l, e) =
    let apart : AllByRecursion (λ r. same_proc r p ≡ false) qs = subst (λ (x : Proc). AllByRecursion (λ r. same_proc r x ≡ false) qs) e (others_apart q qs a.0) in
    ap (λ (x : Proc). queues_of (fold (with_queues change) (with_queues change all x) qs) p) e
    ∙ fold-others change (with_queues change all p) qs p apart
    ∙ with_queues-here change all p place
fold-own change all (q ∷ qs) p a place (suc k, l, e) =
    let c : Contains qs p = (k, omega arith, e) in
    let wrong = one_of (λ r. q.ne ≡ r.ne → ⊥) qs p a.0 c in
    fold-own change (with_queues change all q) qs p a.1 (place-kept change all q p place) c
    ∙ ap change (with_queues-there change all q p (other_element q p wrong))
