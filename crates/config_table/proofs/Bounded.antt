-- The numbers of the groups of a valid table are in their ranges.
use Rattle.std.proofs.Common.{◌≡◌, ℕ, zero, suc, ◌^◌, ◌≤◌, true, List, [], ◌∷◌, length, arith, sym, Option, Some, None}
use Rattle.std.specs.Prelude.{◌&&◌, nat_lt, nat_le, All, IfSome, option_copied}
use Rattle.std.specs.Borrow.{Bor}
use Rattle.std.specs.List.{AllByRecursion}
use Rattle.std.proofs.lemmas.Bool.{ltb-true, leb-true, and_parts}
use Rattle.std.proofs.lemmas.List.Elements.{All-from_recursion, All-contains}
use Rattle.ftpp_base.specs.declared.element.Proc.{Proc}
use Rattle.ftpp_base.specs.Lists.{is_in}
use Rattle.ftpp_base.proofs.Among.{weaker, find-passes}
use Rattle.config_table.specs.declared.groups.Group.{Group}
use Rattle.config_table.specs.declared.errors.ConfigError.TheVariants.{GroupCount, Vid, Size, MemberRange, Masked, Timeout, Expiry, Slots}
use Rattle.config_table.specs.Groups.{members_of, live_count, is_member}
use Rattle.config_table.specs.Bounds.{InRange, IsBounded}
use Rattle.config_table.specs.Table.{TableValue, IsValid, is_within, is_in_range, first_failing, group_errors, group_error, groups_error, group_named, group_with}
use Rattle.config_table.proofs.ValidTable.{none_first, none_rest, no_error, passed, unmapped, not_failing, few, valid_tests, named-there}

-- what a test of a range says
low_of : (low high x : ℕ) → is_within low high x ≡ true → low ≤ x
low_of low high x e = leb-true low x (and_parts (nat_le low x) (nat_le x high) e).0

high_of : (low high x : ℕ) → is_within low high x ≡ true → x ≤ high
high_of low high x e = leb-true x high (and_parts (nat_le low x) (nat_le x high) e).1

-- a size that a group may have is not 0
some : (n : ℕ) → is_in (1 ∷ 3 ∷ 4 ∷ []) n ≡ true → 1 ≤ n
some zero e = cc
some (suc n) e = omega arith

-- what the test of a member says
in_range_by : (n : ℕ) (p : Proc) → is_in_range n p ≡ true → InRange n p
in_range_by n p e = let h = and_parts (nat_lt p.ne n) (nat_lt p.port 8) e in record { ne = ltb-true p.ne n h.0; port = ltb-true p.port 8 h.1 }

-- four bits make numbers below 16
power_below : (k : ℕ) → k ≤ 4 → 2 ^ k ≤ 16
power_below zero l = omega arith
power_below (suc zero) l = omega arith
power_below (suc (suc zero)) l = omega arith
power_below (suc (suc (suc zero))) l = omega arith
power_below (suc (suc (suc (suc zero)))) l = omega arith
power_below (suc (suc (suc (suc (suc k))))) l = let no : ⊥ = omega arith in absurd no

-- a group that breaks no clause
bounded : (n : ℕ) (earlier : List Group) (g : Group) → group_error n earlier g ≡ None → IsBounded n g
unfolding group_error
bounded n earlier g e =
    let (vid, (order, (size, (range, (element, (shared, (masked, (ts, (tr, (tx, (outs, (ins, end)))))))))))) = no_error (group_errors n earlier g) e in
    let vid_in = passed (is_within 1 254 g.vid) (Vid g.vid) vid in
    let size_in = passed (is_in (1 ∷ 3 ∷ 4 ∷ []) (length (members_of g))) (Size g.vid (length (members_of g))) size in
    let few_members = few (length (members_of g)) size_in in
    let both = and_parts (nat_lt g.masked.bits (2 ^ length (members_of g))) (nat_lt 0 (live_count g))
    (passed (nat_lt g.masked.bits (2 ^ length (members_of g)) && nat_lt 0 (live_count g)) (Masked g.vid g.masked.bits) masked) in
    let below = ltb-true g.masked.bits (2 ^ length (members_of g)) both.0 in
    let room = power_below (length (members_of g)) few_members in
    let there = not_failing (is_in_range n) g (unmapped (MemberRange g.vid) (first_failing (is_in_range n) g) range) in
    let ts_in = passed (is_within 1 1000 g.ts) (Timeout g.vid g.ts) ts in
    let tr_in = passed (is_within 1 1000 g.tr) (Timeout g.vid g.tr) tr in
    let outs_in = passed (is_within 1 64 g.outs) (Slots g.vid g.outs) outs in
    let ins_in = passed (is_within 1 64 g.ins) (Slots g.vid g.ins) ins in
    record {
      vid_low = low_of 1 254 g.vid vid_in;
      vid_high = high_of 1 254 g.vid vid_in;
      some_member = some (length (members_of g)) size_in;
      few_members = few_members;
      members = All-from_recursion (InRange n) (members_of g) (weaker (λ p. is_in_range n p ≡ true) (InRange n) (in_range_by n) (members_of g) there);
      masked = omega arith;
      some_live = ltb-true 0 (live_count g) both.1;
      ts_low = low_of 1 1000 g.ts ts_in;
      ts_high = high_of 1 1000 g.ts ts_in;
      tr_low = low_of 1 1000 g.tr tr_in;
      tr_high = high_of 1 1000 g.tr tr_in;
      tx_high = leb-true g.tx 1000 (passed (nat_le g.tx 1000) (Expiry g.vid g.tx) tx);
      outs_low = low_of 1 64 g.outs outs_in;
      outs_high = high_of 1 64 g.outs outs_in;
      ins_low = low_of 1 64 g.ins ins_in;
      ins_high = high_of 1 64 g.ins ins_in;
    }

-- groups that break none, one after another
all_bounded : (n : ℕ) (earlier groups : List Group) → groups_error n earlier groups ≡ None → AllByRecursion (IsBounded n) groups
all_bounded n earlier [] e = tt
all_bounded n earlier (g ∷ gs) e = (
  bounded n earlier g (none_first (group_error n earlier g) (groups_error n (g ∷ earlier) gs) e),
  all_bounded n (g ∷ earlier) gs (none_rest (group_error n earlier g) (groups_error n (g ∷ earlier) gs) e),
)

-- the groups of a valid table are bounded
pub bounded-valid : (table : TableValue) → IsValid table → All (IsBounded table.n) table.groups
bounded-valid table valid = All-from_recursion (IsBounded table.n) table.groups (all_bounded table.n [] table.groups (valid_tests table valid).1.1.0)

-- so is a group that is named
pub bounded-named : (table : TableValue) (vid : ℕ) (g : Group) → IsValid table → group_named table vid ≡ Some g → IsBounded table.n g
bounded-named table vid g valid named = All-contains (IsBounded table.n) table.groups g (bounded-valid table valid) (named-there table vid g named).0

-- and one that a look-up may find
pub bounded_found : (table : TableValue) (vid : ℕ) (found : Option (Bor Group)) → IsValid table → option_copied found ≡ group_named table vid → IfSome found (λ g. IsBounded table.n g.now)
bounded_found table vid None valid is = tt
bounded_found table vid (Some g) valid is = bounded-named table vid g.now valid (sym is)

-- and the group of a processor
pub bounded_with : (table : TableValue) (proc : Proc) (found : Option (Bor Group)) → IsValid table → option_copied found ≡ group_with table proc → IfSome found (λ g. IsBounded table.n g.now)
bounded_with table proc None valid is = tt
bounded_with table proc (Some g) valid is =
    All-contains (IsBounded table.n) table.groups g.now (bounded-valid table valid) (find-passes (λ h. is_member h proc) table.groups g.now (sym is)).0

-- a valid table has 1 to 40 groups
pub some_groups : (table : TableValue) → IsValid table → 1 ≤ length table.groups
some_groups table valid = low_of 1 40 (length table.groups) (passed (is_within 1 40 (length table.groups)) (GroupCount (length table.groups)) (valid_tests table valid).1.0)

pub few_groups : (table : TableValue) → IsValid table → length table.groups ≤ 40
few_groups table valid = high_of 1 40 (length table.groups) (passed (is_within 1 40 (length table.groups)) (GroupCount (length table.groups)) (valid_tests table valid).1.0)
