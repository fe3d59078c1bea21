-- The ports of one element, when the queues of some processors change.
use Rattle.std.proofs.Common.{◌≡◌, ◌≢◌, ℕ, suc, zero, Bool, true, false, cond, List, [], ◌∷◌, refl, ap, sym, ◌∙◌, get_or}
use Rattle.std.specs.Prelude.{Option, Some, None, filter, ◌==◌}
use Rattle.std.specs.List.{AllByRecursion, fold}
use Rattle.std.proofs.lemmas.Bool.{eqb-true, eqb-false, ne_eqb}
use Rattle.ftpp_base.specs.Lists.{change_at}
use Rattle.ftpp_base.specs.declared.element.Proc.{Proc}
use Rattle.processor_buffers.specs.Queues.{Queues}
use Rattle.data_exchange.specs.Entries.{member_at}
use Rattle.element_core.specs.Processors.{AllQueues, ports_of, with_queues}
use Rattle.element_core.specs.Element.{with_port}
use Rattle.ftpp_base.proofs.Changed.{change_at-other}
use Rattle.config_table.proofs.ValidTable.{AreApart}

-- ---- one entry of a list changed

-- the entry that was changed
pub get_or-change_same : {A : Type 0} (f : A → A) (xs : List A) (i : ℕ) (d : A) → f d ≡ d → get_or (change_at f xs i) i d ≡ f (get_or xs i d)
get_or-change_same f [] i d e = sym e
get_or-change_same f (x ∷ xs) zero d e = refl
get_or-change_same f (x ∷ xs) (suc i) d e = get_or-change_same f xs i d e

-- ---- the ports of an element among those of all

-- a processor of the element changed
pub ports_of-same : (change : Queues → Queues) (all : AllQueues) (proc : Proc) (ne : ℕ) → proc.ne ≡ ne → ports_of (with_queues change all proc) ne ≡ change_at change (ports_of all ne) proc.port
ports_of-same change all proc ne e =
    ap (ports_of (with_queues change all proc)) (sym e)
    ∙ get_or-change_same (λ ports. change_at change ports proc.port) all proc.ne [] refl
    ∙ ap (λ k. change_at change (ports_of all k) proc.port) e

-- one of another element
pub ports_of-other : (change : Queues → Queues) (all : AllQueues) (proc : Proc) (ne : ℕ) → proc.ne ≢ ne → ports_of (with_queues change all proc) ne ≡ ports_of all ne
ports_of-other change all proc ne apart = change_at-other (λ ports. change_at change ports proc.port) all proc.ne ne [] apart

-- changes of several, where each changes one element's ports only: the element sees its own
fold_step : {A X : Type 0} (b : Bool) (g : A → X → A) (a c : A) (x : X) (xs : List X) → (b ≡ true → c ≡ g a x) → (b ≡ false → c ≡ a) → fold g c xs ≡ fold g a (cond b (x ∷ xs) xs)
fold_step true g a c x xs same other = ap (λ d. fold g d xs) (same refl)
fold_step false g a c x xs same other = ap (λ d. fold g d xs) (other refl)

-- so after all changes
pub ports_of-fold : {X : Type 0} (f : AllQueues → X → AllQueues) (g : List Queues → X → List Queues) (at : X → ℕ) (ne : ℕ)
    → ((all : AllQueues) (x : X) → at x ≡ ne → ports_of (f all x) ne ≡ g (ports_of all ne) x)
    → ((all : AllQueues) (x : X) → at x ≢ ne → ports_of (f all x) ne ≡ ports_of all ne)
    → (all : AllQueues) (xs : List X) → ports_of (fold f all xs) ne ≡ fold g (ports_of all ne) (filter (λ x. at x == ne) xs)
ports_of-fold f g at ne same other all [] = refl
ports_of-fold f g at ne same other all (x ∷ xs) =
    ports_of-fold f g at ne same other (f all x) xs
    ∙ fold_step (at x == ne) g (ports_of all ne) (ports_of (f all x) ne) x (filter (λ y. at y == ne) xs)
    (λ e. same all x (eqb-true (at x) ne e)) (λ e. other all x (eqb-false (at x) ne e))

-- ---- the one member at an element

-- the optional member as a list
abbrev pub listed : Option Proc → List Proc
listed None = []
listed (Some proc) = proc ∷ []

-- where no member is at the element, none is kept
none_kept : (b : Bool) (p : Proc) (kept : List Proc) → b ≡ false → kept ≡ [] → cond b (p ∷ kept) kept ≡ []
none_kept true p kept e k = cc
none_kept false p kept e k = k

-- where another stands there, none of the others does
none_there : (x ne : ℕ) (ps : List Proc) → x ≡ ne → AllByRecursion (λ q. x ≢ q.ne) ps → filter (λ proc. proc.ne == ne) ps ≡ []
none_there x ne [] e a = refl
none_there x ne (p ∷ ps) e a =
    none_kept (p.ne == ne) p (filter (λ proc. proc.ne == ne) ps) (ne_eqb p.ne ne (λ same. a.0 (e ∙ sym same))) (none_there x ne ps e a.1)

-- the first that is there is the only one
one_kept : (b : Bool) (p : Proc) (kept : List Proc) (found : Option Proc) → (b ≡ true → kept ≡ []) → kept ≡ listed found → cond b (p ∷ kept) kept ≡ listed (cond b (Some p) found)
one_kept true p kept found none same = ap (λ ps. p ∷ ps) (none refl)
one_kept false p kept found none same = same

-- of members that stand apart, those at an element are the one found there
pub filter-member_at : (ne : ℕ) (ps : List Proc) → AreApart ps → filter (λ proc. proc.ne == ne) ps ≡ listed (member_at ps ne)
filter-member_at ne [] a = refl
filter-member_at ne (p ∷ ps) a =
    one_kept (p.ne == ne) p (filter (λ proc. proc.ne == ne) ps) (member_at ps ne)
    (λ e. none_there p.ne ne ps (eqb-true p.ne ne e) a.0) (filter-member_at ne ps a.1)

-- what holds of the one found, if there is one
abbrev pub IsAt : ℕ → Option Proc → Type 0
IsAt ne None = Unit {0}
IsAt ne (Some proc) = proc.ne ≡ ne

-- this one, or a later one
at_by : (b : Bool) (ne : ℕ) (p : Proc) (found : Option Proc) → (b ≡ true → p.ne ≡ ne) → IsAt ne found → IsAt ne (cond b (Some p) found)
at_by true ne p found e a = e refl
at_by false ne p found e a = a

-- the one found is at the element
pub IsAt-member_at : (ne : ℕ) (ps : List Proc) → IsAt ne (member_at ps ne)
IsAt-member_at ne [] = tt
IsAt-member_at ne (p ∷ ps) = at_by (p.ne == ne) ne p (member_at ps ne) (eqb-true p.ne ne) (IsAt-member_at ne ps)

-- a change of the one that is there
with_one : (change : Queues → Queues) (ports : List Queues) (found : Option Proc) → fold (λ kept proc. change_at change kept proc.port) ports (listed found) ≡ with_port change ports found
with_one change ports None = refl
with_one change ports (Some proc) = refl

-- changes of members that stand apart: an element sees that of its own
pub ports_of-members : (change : Queues → Queues) (all : AllQueues) (ps : List Proc) (ne : ℕ) → AreApart ps
    → ports_of (fold (with_queues change) all ps) ne ≡ with_port change (ports_of all ne) (member_at ps ne)
ports_of-members change all ps ne apart =
    ports_of-fold (with_queues change) (λ kept proc. change_at change kept proc.port) (λ proc. proc.ne) ne
    (λ queues proc e. ports_of-same change queues proc ne e) (λ queues proc away. ports_of-other change queues proc ne away) all ps
    ∙ ap (fold (λ kept proc. change_at change kept proc.port) (ports_of all ne)) (filter-member_at ne ps apart)
    ∙ with_one change (ports_of all ne) (member_at ps ne)
