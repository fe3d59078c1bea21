-- A run without a rejoin: its steps, its cycle numbers and the accepted posts before a cycle.
use Rattle.std.proofs.Common.{◌≡◌, ℕ, suc, ◌+◌, ◌<◌, ◌≤◌, List, [], ◌∷◌, ◌++◌, length, take, drop, refl, ap, arith, sym, ◌∙◌, append_assoc, take-append-drop, Option, Some, None, slice_get}
use Rattle.std.specs.List.{AllByRecursion}
use Rattle.std.proofs.Math.Seq.{take-suc}
use Rattle.std.proofs.lemmas.List.{length-take-le, append-nil}
use Rattle.ftpp_base.specs.declared.element.Proc.{Proc}
use Rattle.config_table.specs.Table.{TableValue}
use Rattle.processor_buffers.specs.Queues.{Posted}
use Rattle.table_update.specs.declared.Update.{Update}
use Rattle.table_update.specs.declared.Applied.{Applied}
use Rattle.table_update.specs.declared.Applied.TheVariants as applied_variant
use Rattle.table_update.specs.Updates.{applied}
use Rattle.element_core.specs.Cycle.{State, Input, Shown, start, step, after_rejoin, shown_by, served, state_after, with_update, changed_by}
use Rattle.element_core.specs.Run.{Journal, run, run_from, state_at, input_at, shown_at, no_input}
use Rattle.element_core.specs.Premises.{accepted_among, accepted_from}
use Rattle.ftpp_base.proofs.Among.{weaker, all-append}
use Rattle.element_core.proofs.Accepted.{accepted-dated, slice_get-all, slice_get-left, slice_get-early}

-- ---- one step

-- without a rejoin the state stays
calm : (s : State) (input : Input) → input.rejoined ≡ None → after_rejoin s input.rejoined ≡ s
calm s input e = ap (after_rejoin s) e

-- without a rejoin a cycle shows what the state gives
pub shown-calm : (s : State) (input : Input) → input.rejoined ≡ None → (step s input).shown ≡ shown_by s input
unfolding step
shown-calm s input e = ap (λ (x : State). shown_by x input) (calm s input e)

-- and leaves the state after that
pub state-calm : (s : State) (input : Input) → input.rejoined ≡ None → (step s input).state ≡ state_after s (shown_by s input)
unfolding step
state-calm s input e = ap (λ (x : State). state_after x (shown_by x input)) (calm s input e)

-- an update keeps the number of the cycle
changed_cycle : (a : Applied) (update : Update) (s : State) → (changed_by a update s).cycle ≡ s.cycle
changed_cycle (applied_variant.Done ports) update s = refl
changed_cycle (applied_variant.Refused error) update s = refl
changed_cycle applied_variant.Absent update s = refl

-- also where none is applied
updated_cycle : (u : Option Update) (s : State) → (with_update u s).cycle ≡ s.cycle
updated_cycle None s = refl
updated_cycle (Some update) s = changed_cycle (applied s.table update) update s

-- a service ends the cycle
served_cycle : (s : State) (shown : Shown) → (served s shown).cycle ≡ s.cycle + 1
unfolding served
served_cycle s shown = refl

-- each cycle has the next number
pub step-cycle : (s : State) (input : Input) → (step s input).state.cycle ≡ s.cycle + 1
unfolding step
step-cycle s input = updated_cycle _ (served (after_rejoin s input.rejoined) (shown_by (after_rejoin s input.rejoined) input)) ∙ served_cycle (after_rejoin s input.rejoined) (shown_by (after_rejoin s input.rejoined) input)

-- so many cycles later
pub run_from-cycle : (s : State) (journal : Journal) → (run_from s journal).cycle ≡ s.cycle + length journal
run_from-cycle s [] = omega arith
run_from-cycle s (input ∷ journal) = let rec = run_from-cycle (step s input).state journal in let one = step-cycle s input in omega arith

-- the number of a cycle of a run
pub state_at-cycle : (table : TableValue) (journal : Journal) (t : ℕ) → t ≤ length journal → (state_at table journal t).cycle ≡ t
unfolding run
state_at-cycle table journal t l = let h = run_from-cycle (start table) (take t journal) in let n = length-take-le t journal l in omega arith

-- ---- the accepted posts of a run

-- the accepted posts of a run are those of its first part and those of the rest
pub accepted-split : (s : State) (front back : Journal) (p : Proc) → accepted_from s (front ++ back) p ≡ accepted_from s front p ++ accepted_from (run_from s front) back p
accepted-split s [] back p = refl
accepted-split s (input ∷ front) back p =
    let one = accepted_among s.cycle p input.acts (step s input).shown.answers in
    ap (λ (xs : List (ℕ × Posted)). one ++ xs) (accepted-split (step s input).state front back p)
    ∙ sym (append_assoc one (accepted_from (step s input).state front p) (accepted_from (run_from (step s input).state front) back p))

-- a post of that cycle or a later one
abbrev IsFrom : ℕ → ℕ × Posted → Type 0
IsFrom cycle post = cycle ≤ post.0

-- a post of an earlier cycle
abbrev IsBefore : ℕ → ℕ × Posted → Type 0
IsBefore cycle post = post.0 < cycle

-- a post of that cycle
abbrev IsIn : ℕ → ℕ × Posted → Type 0
IsIn cycle post = post.0 ≡ cycle

-- none is earlier than the run
accepted_late : (s : State) (journal : Journal) (p : Proc) → AllByRecursion (IsFrom s.cycle) (accepted_from s journal p)
accepted_late s [] p = tt
accepted_late s (input ∷ journal) p =
    let next = step-cycle s input in
    all-append (IsFrom s.cycle) (accepted_among s.cycle p input.acts (step s input).shown.answers) (accepted_from (step s input).state journal p)
    (weaker (IsIn s.cycle) (IsFrom s.cycle) (λ post h. omega arith) (accepted_among s.cycle p input.acts (step s input).shown.answers) (accepted-dated s.cycle p input.acts (step s input).shown.answers))
    (weaker (IsFrom (step s input).state.cycle) (IsFrom s.cycle) (λ post h. omega arith) (accepted_from (step s input).state journal p) (accepted_late (step s input).state journal p))

-- none is later than its cycles
accepted_soon : (s : State) (journal : Journal) (p : Proc) (upto : ℕ) → s.cycle + length journal ≤ upto → AllByRecursion (IsBefore upto) (accepted_from s journal p)
accepted_soon s [] p upto l = tt
accepted_soon s (input ∷ journal) p upto l =
    let next = step-cycle s input in
    all-append (IsBefore upto) (accepted_among s.cycle p input.acts (step s input).shown.answers) (accepted_from (step s input).state journal p)
    (weaker (IsIn s.cycle) (IsBefore upto) (λ post h. omega arith) (accepted_among s.cycle p input.acts (step s input).shown.answers) (accepted-dated s.cycle p input.acts (step s input).shown.answers))
    (accepted_soon (step s input).state journal p upto (omega arith))

-- ---- the accepted posts before a cycle of a run

-- the accepted posts of the whole run
abbrev pub all_posts : TableValue → Journal → Proc → List (ℕ × Posted)
all_posts table journal p = accepted_from (start table) journal p

-- those before a cycle
abbrev pub posts_before : TableValue → Journal → ℕ → Proc → List (ℕ × Posted)
posts_before table journal t p = accepted_from (start table) (take t journal) p

-- all are those before a cycle and those from it on
parts : (table : TableValue) (journal : Journal) (t : ℕ) (p : Proc) → all_posts table journal p ≡ posts_before table journal t p ++ accepted_from (state_at table journal t) (drop t journal) p
unfolding run
parts table journal t p =
    ap (λ (j : Journal). accepted_from (start table) j p) (sym (take-append-drop t journal)) ∙ accepted-split (start table) (take t journal) (drop t journal) p

-- one cycle more
pub posts_before-suc : (table : TableValue) (journal : Journal) (t : ℕ) (p : Proc) → t < length journal
    → posts_before table journal (suc t) p ≡ posts_before table journal t p ++ accepted_among (state_at table journal t).cycle p (input_at journal t).acts (shown_at table journal t).answers
unfolding run
posts_before-suc table journal t p l =
    ap (λ (j : Journal). accepted_from (start table) j p) (take-suc journal t no_input l)
    ∙ accepted-split (start table) (take t journal) (input_at journal t ∷ []) p
    ∙ ap (λ (xs : List (ℕ × Posted)). posts_before table journal t p ++ xs)
    (append-nil (accepted_among (state_at table journal t).cycle p (input_at journal t).acts (shown_at table journal t).answers))

-- a post before a cycle is one of all, and was made before that cycle
pub posts_before-all : (table : TableValue) (journal : Journal) (t : ℕ) (p : Proc) (k : ℕ) (post : ℕ × Posted) → slice_get (posts_before table journal t p) k ≡ Some post
    → slice_get (all_posts table journal p) k ≡ Some post
posts_before-all table journal t p k post e =
    ap (λ (xs : List (ℕ × Posted)). slice_get xs k) (parts table journal t p)
    ∙ slice_get-left (posts_before table journal t p) (accepted_from (state_at table journal t) (drop t journal) p) k post e

-- a post before a cycle was made in an earlier one
pub posts_before-dated : (table : TableValue) (journal : Journal) (t : ℕ) (p : Proc) (k : ℕ) (post : ℕ × Posted) → t ≤ length journal → slice_get (posts_before table journal t p) k ≡ Some post
    → post.0 < t
posts_before-dated table journal t p k post l e =
    let n = length-take-le t journal l in
    slice_get-all (IsBefore t) (posts_before table journal t p) k post (accepted_soon (start table) (take t journal) p t (omega arith)) e

-- one of all that was made before a cycle is one of those
pub posts_before-early : (table : TableValue) (journal : Journal) (t : ℕ) (p : Proc) (k : ℕ) (post : ℕ × Posted) → t ≤ length journal → slice_get (all_posts table journal p) k ≡ Some post
    → post.0 < t → slice_get (posts_before table journal t p) k ≡ Some post
posts_before-early table journal t p k post l e soon =
    let now = state_at-cycle table journal t l in
    slice_get-early (IsFrom (state_at table journal t).cycle) (posts_before table journal t p) (accepted_from (state_at table journal t) (drop t journal) p) k post
    (accepted_late (state_at table journal t) (drop t journal) p) (λ late. omega arith)
    (ap (λ (xs : List (ℕ × Posted)). slice_get xs k) (sym (parts table journal t p)) ∙ e)
