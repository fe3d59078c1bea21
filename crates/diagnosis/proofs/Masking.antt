-- What masking a member does to a valid table: it breaks no clause but that of the masked set and that of the manager's live members.
use Rattle.std.proofs.Common.{◌≡◌, ℕ, suc, ◌<◌, Bool, true, false, cond, not, List, [], ◌∷◌, length, refl, ap, arith, sym, ◌∙◌, find, Option, Some, None, option_map, ◌⊎◌, inl, inr}
use Rattle.std.specs.Prelude.{◌==◌, ◌||◌, nat_le, nat_lt, is_none, ◌^◌, ◌&&◌}
use Rattle.std.specs.List.{AllByRecursion, list_any}
use Rattle.std.specs.Option.{option_or}
use Rattle.std.proofs.lemmas.Bool.{eqb-true, eqb-false, eq-eqb, ne_eqb, lt-ltb}
use Rattle.ftpp_base.specs.declared.limits.TheConstants.{MOST_GROUPS}
use Rattle.ftpp_base.specs.declared.element.Proc.{Proc}
use Rattle.ftpp_base.specs.declared.sets.Set8.{Set8}
use Rattle.config_table.specs.declared.groups.Group.{Group}
use Rattle.config_table.specs.declared.limits.TheConstants.{FEWEST_MANAGERS}
use Rattle.config_table.specs.declared.errors.ConfigError.{ConfigError}
use Rattle.config_table.specs.declared.errors.ConfigError.TheVariants.{GroupCount, VidOrder, SharedProcessor, Masked, ManagerLive}
use Rattle.config_table.specs.Groups.{is_member, members_of, live_count}
use Rattle.config_table.specs.Table.{TableValue, IsValid, is_named, group_named, unless, is_within, follows, masked_error, order_error, shared_error, group_errors, group_error, groups_error, count_error, elements_error, manager_error, table_error, error_code}
use Rattle.config_table.proofs.ValidTable.{no_error, valid_tests, named-there, none_first, none_rest}
use Rattle.config_table.proofs.NamedGroups.{Ascending, Ascending-valid}
use Rattle.table_update.specs.declared.Update.TheVariants.{Mask}
use Rattle.table_update.specs.Updates.{with_masked, with_changed, has_member, where_there, updated, judged, applied_to, applied, if_valid, table_after}

-- ---- errors one after another

-- a test without an error is passed over
skip : (a rest : Option ConfigError) → a ≡ None → option_or a rest ≡ rest
skip a rest e = ap (λ o. option_or o rest) e

-- and behind the last error comes none
alone : (a rest : Option ConfigError) → rest ≡ None → option_or a rest ≡ a
alone None rest e = e
alone (Some x) rest e = refl

-- ---- the earlier groups, with a member masked in one of them

-- a mask keeps the number
vid_if : (b : Bool) (m : ℕ) (g : Group) → (cond b (with_masked m g) g).vid ≡ g.vid
vid_if true m g = refl
vid_if false m g = refl

-- and the members
member_if : (b : Bool) (m : ℕ) (g : Group) (p : Proc) → is_member (cond b (with_masked m g) g) p ≡ is_member g p
member_if true m g p = refl
member_if false m g p = refl

-- a group with another masked set
abbrev with_set : Set8 → Group → Group
with_set set g = record g { masked = set }

-- so a group follows them as before
follows-masked : (m vid : ℕ) (earlier : List Group) (g : Group) (set : Set8) → follows (with_changed (with_masked m) vid earlier) (with_set set g) ≡ follows earlier g
follows-masked m vid [] g set = refl
follows-masked m vid (before ∷ earlier) g set = ap (λ v. nat_lt v g.vid) (vid_if (before.vid == vid) m before)

-- and they have the same members
taken-masked : (m vid : ℕ) (earlier : List Group) (p : Proc) → list_any (λ h. is_member h p) (with_changed (with_masked m) vid earlier) ≡ list_any (λ h. is_member h p) earlier
taken-masked m vid [] p = refl
taken-masked m vid (g ∷ earlier) p = (λ t. member_if (g.vid == vid) m g p t || taken-masked m vid earlier p t)

-- ---- one group

-- of such a group after such earlier ones only the masked set can be wrong
group-masked : (n m vid : ℕ) (earlier : List Group) (g : Group) (set : Set8) → group_error n earlier g ≡ None
    → group_error n (with_changed (with_masked m) vid earlier) (with_set set g) ≡ masked_error (with_set set g)
unfolding group_error
group-masked n m vid earlier g set e =
    let h = no_error (group_errors n earlier g) e in
    let ordered : order_error (with_changed (with_masked m) vid earlier) (with_set set g) ≡ None =
    ap (λ b. unless b (VidOrder g.vid)) (follows-masked m vid earlier g set) ∙ h.1.0 in
    let free : shared_error (with_changed (with_masked m) vid earlier) (with_set set g) ≡ None =
    (λ t. option_map (SharedProcessor g.vid) (find (λ p. not (not (taken-masked m vid earlier p t))) (members_of g))) ∙ h.1.1.1.1.1.0 in
    skip _ _ h.0
    ∙ skip _ _ ordered
    ∙ skip _ _ h.1.1.0
    ∙ skip _ _ h.1.1.1.0
    ∙ skip _ _ h.1.1.1.1.0
    ∙ skip _ _ free
    ∙ alone (masked_error (with_set set g)) _ (
    skip _ _ h.1.1.1.1.1.1.1.0
    ∙ skip _ _ h.1.1.1.1.1.1.1.1.0
    ∙ skip _ _ h.1.1.1.1.1.1.1.1.1.0
    ∙ skip _ _ h.1.1.1.1.1.1.1.1.1.1.0
    ∙ skip _ _ h.1.1.1.1.1.1.1.1.1.1.1.0)

-- ---- all groups

-- what the mask of a member breaks of the group that is found
abbrev error_of : ℕ → Option Group → Option ConfigError
error_of m None = None
error_of m (Some g) = masked_error (with_masked m g)

-- of groups above a number none has it
pub none_named : (vid : ℕ) (gs : List Group) → AllByRecursion (λ h. vid < h.vid) gs → find (is_named vid) gs ≡ None
none_named vid [] a = refl
none_named vid (g ∷ gs) a =
    ap (λ b. cond b (Some g) (find (is_named vid) gs)) (ne_eqb g.vid vid (let less : vid < g.vid = a.0 in λ e. omega arith)) ∙ none_named vid gs a.1

-- one group, masked or not, before the rest
group_by : (n m vid : ℕ) (earlier : List Group) (g : Group) (gs : List Group) (rest : Option ConfigError) (b : Bool) → (g.vid == vid) ≡ b → group_error n earlier g ≡ None
    → masked_error g ≡ None → AllByRecursion (λ h. g.vid < h.vid) gs → rest ≡ error_of m (find (is_named vid) gs)
    → option_or (group_error n (with_changed (with_masked m) vid earlier) (cond b (with_masked m g) g)) rest ≡ error_of m (cond b (Some g) (find (is_named vid) gs))
group_by n m vid earlier g gs rest true is fine own above more =
    let later : find (is_named vid) gs ≡ None = ap (λ v. find (is_named v) gs) (sym (eqb-true g.vid vid is)) ∙ none_named g.vid gs above in
    alone (group_error n (with_changed (with_masked m) vid earlier) (with_masked m g)) rest (more ∙ ap (error_of m) later)
    ∙ group-masked n m vid earlier g (with_masked m g).masked fine
group_by n m vid earlier g gs rest false is fine own above more =
    skip (group_error n (with_changed (with_masked m) vid earlier) g) rest (group-masked n m vid earlier g g.masked fine ∙ own) ∙ more

-- a group without an error has none of its masked set
own_masked : (n : ℕ) (earlier : List Group) (g : Group) → group_error n earlier g ≡ None → masked_error g ≡ None
unfolding group_error
own_masked n earlier g e = (no_error (group_errors n earlier g) e).1.1.1.1.1.1.0

-- all groups of a valid table, with a member masked in one of them
groups-masked : (n m vid : ℕ) (earlier gs : List Group) → groups_error n earlier gs ≡ None → Ascending gs
    → groups_error n (with_changed (with_masked m) vid earlier) (with_changed (with_masked m) vid gs) ≡ error_of m (find (is_named vid) gs)
groups-masked n m vid earlier [] e a = refl
groups-masked n m vid earlier (g ∷ gs) e a =
    let fine = none_first (group_error n earlier g) (groups_error n (g ∷ earlier) gs) e in
    group_by n m vid earlier g gs (groups_error n (with_changed (with_masked m) vid (g ∷ earlier)) (with_changed (with_masked m) vid gs)) (g.vid == vid) refl fine (own_masked n earlier g fine) a.0
    (groups-masked n m vid (g ∷ earlier) gs (none_rest (group_error n earlier g) (groups_error n (g ∷ earlier) gs) e) a.1)

-- ---- the table

length-masked : (m vid : ℕ) (gs : List Group) → length (with_changed (with_masked m) vid gs) ≡ length gs
length-masked m vid [] = refl
length-masked m vid (g ∷ gs) = ap suc (length-masked m vid gs)

-- the group of a number, where a member of one group is masked
abbrev pub masked_if : ℕ → ℕ → ℕ → Group → Group
masked_if m vid v g = cond (v == vid) (with_masked m g) g

-- one group, of that number or not
named_by : (m vid v : ℕ) (g : Group) (o p : Option Group) (b : Bool) → (g.vid == v) ≡ b → p ≡ option_map (masked_if m vid v) o
    → cond ((cond (g.vid == vid) (with_masked m g) g).vid == v) (Some (cond (g.vid == vid) (with_masked m g) g)) p ≡ option_map (masked_if m vid v) (cond b (Some g) o)
named_by m vid v g o p true is rec =
    let new = cond (g.vid == vid) (with_masked m g) g in
    ap (λ b. cond b (Some new) p) (ap (λ k. k == v) (vid_if (g.vid == vid) m g) ∙ is)
    ∙ ap (λ k. Some (cond (k == vid) (with_masked m g) g)) (eqb-true g.vid v is)
named_by m vid v g o p false is rec =
    let new = cond (g.vid == vid) (with_masked m g) g in
    ap (λ b. cond b (Some new) p) (ap (λ k. k == v) (vid_if (g.vid == vid) m g) ∙ is) ∙ rec

-- what is found of a number
pub named-masked : (m vid v : ℕ) (gs : List Group) → find (is_named v) (with_changed (with_masked m) vid gs) ≡ option_map (masked_if m vid v) (find (is_named v) gs)
named-masked m vid v [] = refl
named-masked m vid v (g ∷ gs) =
    named_by m vid v g (find (is_named v) gs) (find (is_named v) (with_changed (with_masked m) vid gs)) (g.vid == v) refl (named-masked m vid v gs)

-- the fewest live members of a manager, if the group is the manager
manager_part : ℕ → Group → Bool → Option ConfigError
manager_part manager g b = cond b (unless (nat_le FEWEST_MANAGERS (live_count g)) (ManagerLive manager (live_count g))) None

-- what a group's masked set breaks: its own clause, or that of the manager's live members
pub mask_error : ℕ → Group → Option ConfigError
mask_error manager g = option_or (masked_error g) (manager_part manager g (g.vid == manager))

-- the table with a member masked
abbrev pub masked_table : TableValue → ℕ → ℕ → TableValue
masked_table table vid m = record table { groups = with_changed (with_masked m) vid table.groups }

unchanged : (o : Option Group) → option_map (λ g. g) o ≡ o
unchanged None = refl
unchanged (Some g) = refl

-- the manager, which is that group or another
manager_by : (table : TableValue) (vid m : ℕ) (g : Group) (b : Bool) → IsValid table → group_named table vid ≡ Some g → g.vid ≡ vid → (g.vid == table.manager) ≡ b
    → manager_error table.manager (option_map (masked_if m vid table.manager) (group_named table table.manager)) ≡ manager_part table.manager (with_masked m g) b
unfolding manager_part
manager_by table vid m g true valid named is e =
    let here : vid ≡ table.manager = sym is ∙ eqb-true g.vid table.manager e in
    ap (λ o. manager_error table.manager (option_map (masked_if m vid table.manager) o)) (ap (group_named table) (sym here) ∙ named)
    ∙ ap (λ b. manager_error table.manager (Some (cond b (with_masked m g) g))) (eq-eqb table.manager vid (sym here))
manager_by table vid m g false valid named is e =
    let away : (table.manager == vid) ≡ false = ne_eqb table.manager vid (λ f. eqb-false g.vid table.manager e (is ∙ sym f)) in
    ap (λ b. manager_error table.manager (option_map (λ k. cond b (with_masked m k) k) (group_named table table.manager))) away
    ∙ ap (manager_error table.manager) (unchanged (group_named table table.manager))
    ∙ (valid_tests table valid).1.1.1.0

-- **A valid table with a member masked breaks what the group's masked set breaks.**
pub table-masked : (table : TableValue) (vid m : ℕ) (g : Group) → IsValid table → group_named table vid ≡ Some g → table_error (masked_table table vid m) ≡ mask_error table.manager (with_masked m g)
unfolding table_error mask_error
table-masked table vid m g valid named =
    let h = valid_tests table valid in
    let new = with_changed (with_masked m) vid table.groups in
    let counted : count_error new ≡ None = ap (λ k. unless (is_within 1 MOST_GROUPS k) (GroupCount k)) (length-masked m vid table.groups) ∙ h.1.0 in
    let groups : groups_error table.n [] new ≡ masked_error (with_masked m g) =
    groups-masked table.n m vid [] table.groups h.1.1.0 (Ascending-valid table valid) ∙ ap (error_of m) named in
    let manager : manager_error table.manager (find (is_named table.manager) new) ≡ manager_part table.manager (with_masked m g) (g.vid == table.manager) =
    ap (manager_error table.manager) (named-masked m vid table.manager table.groups)
    ∙ manager_by table vid m g (g.vid == table.manager) valid named (named-there table vid g named).1 refl in
    skip (elements_error table.n) _ h.0
    ∙ skip (count_error new) _ counted
    ∙ (λ t. option_or (groups t) (option_or (manager t) None))
    ∙ ap (option_or (masked_error (with_masked m g))) (alone (manager_part table.manager (with_masked m g) (g.vid == table.manager)) None refl)

-- that is clause 9 or clause 12
either_clause : (p q r : Bool) (vid masked manager live : ℕ) (e : ConfigError)
    → option_or (unless p (Masked vid masked)) (cond q (unless r (ManagerLive manager live)) None) ≡ Some e → (error_code e ≡ 9) ⊎ (error_code e ≡ 12)
either_clause false q r vid masked manager live e h = let same : Masked vid masked ≡ e = cc in inl (ap error_code (sym same))
either_clause true false r vid masked manager live e h = cc
either_clause true true true vid masked manager live e h = cc
either_clause true true false vid masked manager live e h = let same : ManagerLive manager live ≡ e = cc in inr (ap error_code (sym same))

pub mask_error-code : (manager : ℕ) (g : Group) (e : ConfigError) → mask_error manager g ≡ Some e → (error_code e ≡ 9) ⊎ (error_code e ≡ 12)
unfolding mask_error manager_part
mask_error-code manager g e h =
    either_clause (nat_lt g.masked.bits (2 ^ length (members_of g)) && nat_lt 0 (live_count g)) (g.vid == manager) (nat_le FEWEST_MANAGERS (live_count g)) g.vid g.masked.bits manager (live_count g) e h

-- ---- the update

-- a member that is there
is_there : (table : TableValue) (vid m : ℕ) (g : Group) → group_named table vid ≡ Some g → m < length (members_of g) → has_member m (group_named table vid) ≡ true
is_there table vid m g named l = ap (has_member m) named ∙ lt-ltb m (length (members_of g)) l

-- what becomes of its mask
pub applied-mask : (table : TableValue) (vid m : ℕ) (g : Group) → IsValid table → group_named table vid ≡ Some g → m < length (members_of g)
    → applied table (Mask vid m) ≡ judged (mask_error table.manager (with_masked m g)) []
unfolding updated
applied-mask table vid m g valid named l =
    ap (λ b. applied_to (where_there b table (with_changed (with_masked m) vid table.groups)) []) (is_there table vid m g named l)
    ∙ ap (λ e. judged e []) (table-masked table vid m g valid named)

-- the table after it
pub after-mask : (table : TableValue) (vid m : ℕ) (g : Group) (o : Option ConfigError) → IsValid table → group_named table vid ≡ Some g → m < length (members_of g)
    → mask_error table.manager (with_masked m g) ≡ o → table_after table (Mask vid m) ≡ cond (is_none o) (masked_table table vid m) table
unfolding updated
after-mask table vid m g o valid named l is =
    ap (λ b. if_valid table (where_there b table (with_changed (with_masked m) vid table.groups))) (is_there table vid m g named l)
    ∙ ap (λ e. cond (is_none e) (masked_table table vid m) table) (table-masked table vid m g valid named ∙ is)
