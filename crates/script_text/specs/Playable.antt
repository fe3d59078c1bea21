-- What the items of a script keep to, so that it can be played and printed.
use Rattle.std.specs.Prelude.{ℕ, ◌<◌, ◌≤◌, nat_le, List, [], ◌∷◌, count_by, Option, Some, None, if◌then◌else◌}
use Rattle.ftpp_base.specs.declared.limits.TheConstants.{MOST_CYCLES}
use Rattle.std.specs.List.{AllByRecursion}
use Rattle.packet_format.specs.declared.acts.Act.{Act}
use Rattle.packet_format.specs.declared.acts.TheConstants.{MOST_ACTS}
use Rattle.fault_script.specs.declared.Edit.{Edit}
use Rattle.script_text.specs.Reading.{Plan}
use Rattle.script_text.specs.Printing.{ActFits, KindFits, IsOther, Within, is_act_at}

-- the element that is faulty in a cycle: the first one, or the one that the last rejoin so far names
abbrev pub faulty_at : Option ℕ → List (ℕ × Option ℕ) → ℕ → Option ℕ
faulty_at first [] c = first
faulty_at first (r ∷ rs) c = if nat_le r.0 c then faulty_at r.1 rs c else first

-- an element below n, where one is named
abbrev pub IsThere : ℕ → Option ℕ → Type 0
IsThere n None = Unit {0}
IsThere n (Some e) = e < n

-- each rejoin comes while an element is faulty, and names another element below n or none
abbrev pub AreOthers : ℕ → Option ℕ → List (ℕ × Option ℕ) → Type 0
AreOthers n first [] = Unit {0}
AreOthers n first (r ∷ rs) = IsOther n first r.1 × AreOthers n r.1 rs

-- each cycle is before all later ones
abbrev pub Ascend : List (ℕ × Option ℕ) → Type 0
Ascend [] = Unit {0}
Ascend (r ∷ rs) = AllByRecursion (λ s. r.0 < s.0) rs × Ascend rs

-- the act names a processor that is there
abbrev pub ActIsThere : ℕ → ℕ × Act → Type 0
ActIsThere n x = ActFits n x.1

-- the edit comes while an element is faulty, and its receiver is another element below n or all of them
abbrev pub EditIsThere : ℕ → Option ℕ → List (ℕ × Option ℕ) → Edit → Type 0
EditIsThere n first rejoins e = IsOther n (faulty_at first rejoins e.cycle) e.to × KindFits e.what

-- a script for n elements that can be played
pub record IsPlayable (n : ℕ) (p : Plan) : Type 0 where
  pub long : 1 ≤ p.cycles
  pub short : p.cycles ≤ MOST_CYCLES
  pub first : IsThere n p.faulty
  pub rejoins_order : Within (λ x. x.0) 0 p.cycles p.rejoins
  pub rejoins_apart : Ascend p.rejoins
  pub rejoins : AreOthers n p.faulty p.rejoins
  pub acts_order : Within (λ x. x.0) 0 p.cycles p.acts
  pub acts : AllByRecursion (ActIsThere n) p.acts
  pub few_acts : (c : ℕ) → count_by (is_act_at c) p.acts ≤ MOST_ACTS
  pub edits_order : Within (λ e. e.cycle) 0 p.cycles p.edits
  pub edits : AllByRecursion (EditIsThere n p.faulty p.rejoins) p.edits
