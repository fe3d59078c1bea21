-- The members of a group of a valid table stand at five elements at most.
use Rattle.std.proofs.Common.{ℕ, ◌≤◌, List, arith, All, Bor}
use Rattle.std.specs.Prelude.{Option, Some, None, IfSome}
use Rattle.std.proofs.lemmas.List.Elements.{All-weaker}
use Rattle.ftpp_base.specs.declared.element.Proc.{Proc}
use Rattle.config_table.specs.declared.groups.Group.{Group}
use Rattle.config_table.specs.Bounds.{InRange, IsBounded}
use Rattle.config_table.specs.Groups.{members_of}
use Rattle.config_table.specs.Table.{TableValue, IsValid}
use Rattle.config_table.proofs.ValidTable.{valid-n}

-- a processor among fewer elements is one among five
among_five : (n : ℕ) → n ≤ 5 → (p : Proc) → InRange n p → InRange 5 p
among_five n l p h = record { ne = (let e = h.ne in omega arith); port = h.port }

-- so is a group
pub five : (n : ℕ) → n ≤ 5 → (g : Group) → IsBounded n g → IsBounded 5 g
five n l g h = record {
  vid_low = h.vid_low;
  vid_high = h.vid_high;
  some_member = h.some_member;
  few_members = h.few_members;
  members = All-weaker (InRange n) (InRange 5) (among_five n l) (members_of g) h.members;
  masked = h.masked;
  some_live = h.some_live;
  ts_low = h.ts_low;
  ts_high = h.ts_high;
  tr_low = h.tr_low;
  tr_high = h.tr_high;
  tx_high = h.tx_high;
  outs_low = h.outs_low;
  outs_high = h.outs_high;
  ins_low = h.ins_low;
  ins_high = h.ins_high;
}

-- and all groups of a valid table
pub all_five : (table : TableValue) (groups : List Group) → IsValid table → All (IsBounded table.n) groups → All (IsBounded 5) groups
all_five table groups valid all = All-weaker (IsBounded table.n) (IsBounded 5) (five table.n (valid-n table valid)) groups all

-- and a group that a look-up may find
pub five_found : (table : TableValue) (found : Option (Bor Group)) → IsValid table → IfSome found (λ g. IsBounded table.n g.now) → IfSome found (λ g. IsBounded 5 g.now)
five_found table None valid h = tt
five_found table (Some g) valid h = five table.n (valid-n table valid) g.now h
