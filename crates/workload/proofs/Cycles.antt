-- One cycle more of a workload.
use Rattle.std.proofs.Common.{◌≡◌, ℕ, suc, ◌+◌, ◌-◌, ◌<◌, ◌≤◌, List, [], ◌++◌, ap, sym, ◌∙◌, arith, append_assoc, Option, Some}
use Rattle.std.specs.Option.{option_to_list}
use Rattle.std.proofs.lemmas.List.{append-nil}
use Rattle.packet_format.specs.declared.acts.Act.{Act}
use Rattle.fault_script.specs.declared.Edit.{Edit}
use Rattle.built_in_tables.specs.Tables.{c5}
use Rattle.script_text.specs.Reading.{Plan}
use Rattle.workload.specs.Draws.{pick, draws}
use Rattle.workload.specs.Acts.{acts_at}
use Rattle.workload.specs.Edits.{edit_of}
use Rattle.workload.specs.Workload.{acts_from, edits_from, workload}

one_less : (cycles c : ℕ) → c < cycles → cycles - c ≡ suc (cycles - (c + 1))
one_less cycles c l = omega arith

-- the acts so far with those of a cycle more, and what is left
pub acts_next : (cycles c s : ℕ) (done more all : List (ℕ × Act)) → c < cycles → more ≡ done ++ acts_at c5 c (draws s).0 → done ++ acts_from c (cycles - c) s ≡ all → more ++ acts_from (c + 1) (cycles - (c + 1)) (draws s).1 ≡ all
unfolding acts_from
acts_next cycles c s done more all l e h =
    ap (λ xs. xs ++ acts_from (c + 1) (cycles - (c + 1)) (draws s).1) e
    ∙ append_assoc done (acts_at c5 c (draws s).0) (acts_from (c + 1) (cycles - (c + 1)) (draws s).1)
    ∙ sym (ap (λ n. done ++ acts_from c n s) (one_less cycles c l))
    ∙ h

pub edits_next : (f cycles c s : ℕ) (done more all : List Edit) → c < cycles → more ≡ done ++ option_to_list (edit_of c f (draws s).0) → done ++ edits_from f c (cycles - c) s ≡ all → more ++ edits_from f (c + 1) (cycles - (c + 1)) (draws s).1 ≡ all
unfolding edits_from
edits_next f cycles c s done more all l e h =
    ap (λ xs. xs ++ edits_from f (c + 1) (cycles - (c + 1)) (draws s).1) e
    ∙ append_assoc done (option_to_list (edit_of c f (draws s).0)) (edits_from f (c + 1) (cycles - (c + 1)) (draws s).1)
    ∙ sym (ap (λ n. done ++ edits_from f c n s) (one_less cycles c l))
    ∙ h

none_left : (cycles c : ℕ) → cycles ≤ c → cycles - c ≡ 0
none_left cycles c l = omega arith

-- nothing is left behind the last cycle
pub acts_end : (cycles c s : ℕ) (done all : List (ℕ × Act)) → cycles ≤ c → done ++ acts_from c (cycles - c) s ≡ all → done ≡ all
unfolding acts_from
acts_end cycles c s done all l h = sym (append-nil done) ∙ sym (ap (λ n. done ++ acts_from c n s) (none_left cycles c l)) ∙ h

pub edits_end : (f cycles c s : ℕ) (done all : List Edit) → cycles ≤ c → done ++ edits_from f c (cycles - c) s ≡ all → done ≡ all
unfolding edits_from
edits_end f cycles c s done all l h = sym (append-nil done) ∙ sym (ap (λ n. done ++ edits_from f c n s) (none_left cycles c l)) ∙ h

abbrev plan : ℕ → ℕ → List (ℕ × Act) → List Edit → List (ℕ × Option ℕ) → Plan
plan cycles f acts edits rejoins = record { cycles = cycles; faulty = Some f; acts = acts; edits = edits; rejoins = rejoins }

-- the parts make the script
pub made : (start cycles f : ℕ) (acts : List (ℕ × Act)) (edits : List Edit) (rejoins : List (ℕ × Option ℕ)) → f ≡ (pick 5 start).0 → acts ≡ acts_from 0 cycles (pick 5 start).1 → edits ≡ edits_from f 0 cycles (pick 5 start).1 → rejoins ≡ [] → plan cycles f acts edits rejoins ≡ workload start cycles
unfolding workload
made start cycles f acts edits rejoins first a e r =
    let same : edits ≡ edits_from (pick 5 start).0 0 cycles (pick 5 start).1 = e ∙ ap (λ g. edits_from g 0 cycles (pick 5 start).1) first in
    λ i. plan cycles (first i) (a i) (same i) (r i)
