-- What callers need to know of a script that is a workload.
use Rattle.std.proofs.Common.{◌≡◌, ℕ, ◌*◌, ◌≤◌, List, [], ◌∷◌, length, refl, ap, sym, subst, arith, true, IsTrue}
use Rattle.std.proofs.lemmas.Bool.{le-leb}
use Rattle.fault_script.specs.declared.Edit.{Edit}
use Rattle.fault_script.specs.Edited.{never_fall}
use Rattle.script_text.specs.declared.Script.{Script}
use Rattle.script_text.specs.Reading.{Plan, plan_of}
use Rattle.script_text.specs.Printing.{Within, IsScript}
use Rattle.script_text.specs.Playable.{IsPlayable}
use Rattle.workload.specs.Workload.{workload}
use Rattle.workload.proofs.Played.{workload_playable, workload_script, workload_few}

pub playable_made : (start cycles : ℕ) (s : Script) → 1 ≤ cycles → cycles ≤ 100000 → plan_of s ≡ workload start cycles → IsPlayable 5 (plan_of s)
playable_made start cycles s l k e = subst (λ (p : Plan). IsPlayable 5 p) (sym e) (workload_playable start cycles l k)

pub printable_made : (start cycles : ℕ) (s : Script) → 1 ≤ cycles → cycles ≤ 100000 → plan_of s ≡ workload start cycles → IsScript 5 (plan_of s)
printable_made start cycles s l k e = subst (λ (p : Plan). IsScript 5 p) (sym e) (workload_script start cycles l k)

never_falls : (from below : ℕ) (es : List Edit) → Within (λ e. e.cycle) from below es → never_fall from es ≡ true
never_falls from below [] h = refl
never_falls from below (e ∷ es) h = rw (le-leb from e.cycle h.0) (never_falls e.cycle below es h.2)

pub edits_made : (start cycles : ℕ) (s : Script) → 1 ≤ cycles → cycles ≤ 100000 → plan_of s ≡ workload start cycles → IsTrue (never_fall 0 s.edits.items)
edits_made start cycles s l k e = never_falls 0 s.cycles s.edits.items (playable_made start cycles s l k e).edits_order

pub cycles_made : (start cycles : ℕ) (s : Script) → plan_of s ≡ workload start cycles → s.cycles ≡ cycles
unfolding workload
cycles_made start cycles s e = ap (λ (p : Plan). p.cycles) e

pub acts_made : (start cycles : ℕ) (s : Script) → plan_of s ≡ workload start cycles → length s.acts.items ≤ 12 * cycles
acts_made start cycles s e = let few = workload_few start cycles in let same = ap (λ (p : Plan). length p.acts) e in omega arith
