-- An applied update keeps the limits of a processor, or clears its port.
use Rattle.std.proofs.Common.{◌≡◌, ℕ, ◌<◌, Bool, true, false, cond, List, [], ◌∷◌, refl, ap, sym, ◌∙◌, ◌⊎◌, inl, inr, arith, subst}
use Rattle.std.specs.Prelude.{Option, Some, None, option_map, unwrap_or, find, not, nat_lt, is_some, is_none, ◌==◌}
use Rattle.std.specs.List.{AllByRecursion, list_any}
use Rattle.std.proofs.lemmas.Bool.{eqb-true, ne_eqb}
use Rattle.arrayvec.specs.ArrayVec.{ArrayVec}
use Rattle.ftpp_base.specs.declared.element.Proc.{Proc}
use Rattle.config_table.specs.declared.groups.Group.{Group}
use Rattle.config_table.specs.declared.errors.ConfigError.{ConfigError}
use Rattle.config_table.specs.Groups.{same_proc, members_of, is_member}
use Rattle.config_table.specs.Table.{TableValue, IsValid, is_named, group_named, out_limit, in_limit, table_error}
use Rattle.config_table.proofs.NamedGroups.{Ascending, Ascending-valid}
use Rattle.table_update.specs.declared.Update.{Update}
use Rattle.table_update.specs.declared.Update.TheVariants.{Mask, Admit, Timeouts, Dissolve, Form}
use Rattle.table_update.specs.Updates.{with_masked, with_admitted, with_timeouts, formed, with_changed, without_group, with_formed, all_members, ports_to_clear, has_member, where_there, updated, judged, applied_to, applied, if_valid, table_after}
use Rattle.table_update.specs.declared.Applied.TheVariants.{Done}

-- whether a processor is among some
abbrev pub is_listed : Proc → List Proc → Bool
is_listed proc procs = list_any (same_proc proc) procs

-- the limits of a group that may be there, and of a processor by the groups
abbrev limits : Option Group → Option (ℕ × ℕ)
limits found = option_map (λ g. (g.outs, g.ins)) found

abbrev limits_in : List Group → Proc → Option (ℕ × ℕ)
limits_in gs proc = limits (find (λ g. is_member g proc) gs)

-- ---- one group changed, with its members and its limits as they were

-- the limits by the one found first
limits_if : (b c : Bool) (x y : Group) (o p : Option Group)
    → b ≡ c → limits (Some x) ≡ limits (Some y) → limits o ≡ limits p → limits (cond b (Some x) o) ≡ limits (cond c (Some y) p)
limits_if true true x y o p e same more = same
limits_if true false x y o p e same more = cc
limits_if false true x y o p e same more = cc
limits_if false false x y o p e same more = more

-- a changed group has the same members and the same limits
member_if : (b : Bool) (change : Group → Group) (g : Group) (proc : Proc) → members_of (change g) ≡ members_of g
    → is_member (cond b (change g) g) proc ≡ is_member g proc
member_if true change g proc e = ap (list_any (same_proc proc)) e
member_if false change g proc e = refl

same_if : (b : Bool) (change : Group → Group) (g : Group) → limits (Some (change g)) ≡ limits (Some g) → limits (Some (cond b (change g) g)) ≡ limits (Some g)
same_if true change g e = e
same_if false change g e = refl

-- with one group changed the limits stay
limits-changed : (change : Group → Group) (vid : ℕ) (gs : List Group) (proc : Proc)
    → ((g : Group) → members_of (change g) ≡ members_of g) → ((g : Group) → limits (Some (change g)) ≡ limits (Some g))
    → limits_in (with_changed change vid gs) proc ≡ limits_in gs proc
limits-changed change vid [] proc members same = refl
limits-changed change vid (g ∷ gs) proc members same =
    limits_if (is_member (cond (g.vid == vid) (change g) g) proc) (is_member g proc) (cond (g.vid == vid) (change g) g) g
    (find (λ h. is_member h proc) (with_changed change vid gs)) (find (λ h. is_member h proc) gs)
    (member_if (g.vid == vid) change g proc (members g)) (same_if (g.vid == vid) change g (same g)) (limits-changed change vid gs proc members same)

-- ---- a group gone

-- one that is not taken out stays
keeps_if : {A : Type 0} (b : Bool) (x : A) (xs ys : List A) → b ≡ false → xs ≡ ys → cond (not b) (x ∷ xs) xs ≡ x ∷ ys
keeps_if true x xs ys e same = cc
keeps_if false x xs ys e same = ap (λ zs. x ∷ zs) same

-- where all numbers are greater, none is gone
none_gone : (vid : ℕ) (gs : List Group) → AllByRecursion (λ h. vid < h.vid) gs → without_group vid gs ≡ gs
none_gone vid [] a = refl
none_gone vid (g ∷ gs) a =
    keeps_if (g.vid == vid) g (without_group vid gs) gs (ne_eqb g.vid vid (let less : vid < g.vid = a.0 in λ e. omega arith)) (none_gone vid gs a.1)

-- a member of the one that is found, if there is one
abbrev is_member_of : Option Group → Proc → Bool
is_member_of o proc = is_listed proc (all_members o)

-- one step of taking a group out
gone_by : (b : Bool) (vid : ℕ) (g : Group) (gs : List Group) (proc : Proc) → (g.vid == vid) ≡ b → AllByRecursion (λ h. g.vid < h.vid) gs
    → is_member_of (cond b (Some g) (find (is_named vid) gs)) proc ≡ false
    → (is_member_of (find (is_named vid) gs) proc ≡ false → limits_in (without_group vid gs) proc ≡ limits_in gs proc)
    → limits_in (cond (not b) (g ∷ without_group vid gs) (without_group vid gs)) proc ≡ limits_in (g ∷ gs) proc
gone_by true vid g gs proc e greater missing more =
    ap (λ hs. limits_in hs proc) (ap (λ k. without_group k gs) (sym (eqb-true g.vid vid e)) ∙ none_gone g.vid gs greater)
    ∙ sym (ap (λ b. limits (cond b (Some g) (find (λ h. is_member h proc) gs))) missing)
gone_by false vid g gs proc e greater missing more =
    limits_if (is_member g proc) (is_member g proc) g g (find (λ h. is_member h proc) (without_group vid gs)) (find (λ h. is_member h proc) gs)
    refl refl (more missing)

-- with one group gone the limits of the others stay
limits-gone : (vid : ℕ) (gs : List Group) (proc : Proc) → Ascending gs → is_member_of (find (is_named vid) gs) proc ≡ false
    → limits_in (without_group vid gs) proc ≡ limits_in gs proc
limits-gone vid [] proc a missing = refl
limits-gone vid (g ∷ gs) proc a missing = gone_by (g.vid == vid) vid g gs proc refl a.0 missing (limits-gone vid gs proc a.1)

-- ---- a new group

-- a group that has it not is passed over
no_member : (b : Bool) (g : Group) (o : Option Group) → b ≡ false → cond b (Some g) o ≡ o
no_member true g o e = cc
no_member false g o e = refl

-- one step of putting a group in its place
formed_by : (b : Bool) (new g : Group) (gs : List Group) (proc : Proc) → is_member new proc ≡ false → limits_in (with_formed new gs) proc ≡ limits_in gs proc
    → limits_in (cond b (new ∷ g ∷ gs) (g ∷ with_formed new gs)) proc ≡ limits_in (g ∷ gs) proc
formed_by true new g gs proc missing more = ap limits (no_member (is_member new proc) new (find (λ h. is_member h proc) (g ∷ gs)) missing)
formed_by false new g gs proc missing more =
    limits_if (is_member g proc) (is_member g proc) g g (find (λ h. is_member h proc) (with_formed new gs)) (find (λ h. is_member h proc) gs) refl refl more

-- with a new group the limits of the others stay
limits-formed : (new : Group) (gs : List Group) (proc : Proc) → is_member new proc ≡ false → limits_in (with_formed new gs) proc ≡ limits_in gs proc
limits-formed new [] proc missing = ap limits (no_member (is_member new proc) new None missing)
limits-formed new (g ∷ gs) proc missing = formed_by (nat_lt new.vid g.vid) new g gs proc missing (limits-formed new gs proc missing)

-- ---- an update

-- What a table does to a processor: its port is cleared, or its limits stay.
abbrev pub KeepsLimits : TableValue → List Proc → Proc → TableValue → Type 0
KeepsLimits table ports proc new = (is_listed proc ports ≡ true) ⊎ ((out_limit new proc ≡ out_limit table proc) × (in_limit new proc ≡ in_limit table proc))

-- the same of an update that may be there
abbrev pub MayKeepLimits : TableValue → List Proc → Proc → Option TableValue → Type 0
MayKeepLimits table ports proc None = Unit {0}
MayKeepLimits table ports proc (Some new) = KeepsLimits table ports proc new

-- each limit by both
outs_of : (o : Option Group) → unwrap_or (option_map (λ g. g.outs) o) 16 ≡ unwrap_or (option_map (λ l. l.0) (limits o)) 16
outs_of None = refl
outs_of (Some g) = refl

ins_of : (o : Option Group) → unwrap_or (option_map (λ g. g.ins) o) 32 ≡ unwrap_or (option_map (λ l. l.1) (limits o)) 32
ins_of None = refl
ins_of (Some g) = refl

both_keep : (table : TableValue) (groups : List Group) (ports : List Proc) (proc : Proc)
    → (is_listed proc ports ≡ true) ⊎ (limits_in groups proc ≡ limits_in table.groups proc) → KeepsLimits table ports proc (record table { groups = groups })
both_keep table groups ports proc (inl e) = inl e
both_keep table groups ports proc (inr e) =
    let old = find (λ g. is_member g proc) table.groups in
    let new = find (λ g. is_member g proc) groups in
    inr (
      outs_of new ∙ ap (λ (l : Option (ℕ × ℕ)). unwrap_or (option_map (λ p. p.0) l) 16) e ∙ sym (outs_of old),
      ins_of new ∙ ap (λ (l : Option (ℕ × ℕ)). unwrap_or (option_map (λ p. p.1) l) 32) e ∙ sym (ins_of old),
    )

-- an update that is there, or not
where_keeps : (b : Bool) (table : TableValue) (groups : List Group) (ports : List Proc) (proc : Proc)
    → (is_listed proc ports ≡ true) ⊎ (limits_in groups proc ≡ limits_in table.groups proc) → MayKeepLimits table ports proc (where_there b table groups)
where_keeps true table groups ports proc h = both_keep table groups ports proc h
where_keeps false table groups ports proc h = tt

-- of a group that goes
dissolved : (b : Bool) (table : TableValue) (vid : ℕ) (proc : Proc) → Ascending table.groups → is_listed proc (all_members (group_named table vid)) ≡ b
    → (is_listed proc (all_members (group_named table vid)) ≡ true) ⊎ (limits_in (without_group vid table.groups) proc ≡ limits_in table.groups proc)
dissolved true table vid proc a e = inl e
dissolved false table vid proc a e = inr (limits-gone vid table.groups proc a e)

-- of a group that is formed
formed_keeps : (b : Bool) (table : TableValue) (new : Group) (proc : Proc) → is_member new proc ≡ b
    → (is_member new proc ≡ true) ⊎ (limits_in (with_formed new table.groups) proc ≡ limits_in table.groups proc)
formed_keeps true table new proc e = inl e
formed_keeps false table new proc e = inr (limits-formed new table.groups proc e)

-- each update clears a port or keeps its limits
updated_keeps : (table : TableValue) (update : Update) (proc : Proc) → Ascending table.groups
    → MayKeepLimits table (ports_to_clear table update) proc (updated table update)
unfolding updated
updated_keeps table (Mask vid member) proc a =
    where_keeps (has_member member (group_named table vid)) table (with_changed (with_masked member) vid table.groups) [] proc
    (inr (limits-changed (with_masked member) vid table.groups proc (λ g. refl) (λ g. refl)))
updated_keeps table (Admit vid member) proc a =
    where_keeps (has_member member (group_named table vid)) table (with_changed (with_admitted member) vid table.groups)
    (ports_to_clear table (Admit vid member)) proc
    (inr (limits-changed (with_admitted member) vid table.groups proc (λ g. refl) (λ g. refl)))
updated_keeps table (Timeouts vid ts tr) proc a =
    where_keeps (is_some (group_named table vid)) table (with_changed (with_timeouts ts tr) vid table.groups) [] proc
    (inr (limits-changed (with_timeouts ts tr) vid table.groups proc (λ g. refl) (λ g. refl)))
updated_keeps table (Dissolve vid) proc a =
    where_keeps (is_some (group_named table vid)) table (without_group vid table.groups) (all_members (group_named table vid)) proc
    (dissolved (is_listed proc (all_members (group_named table vid))) table vid proc a refl)
updated_keeps table (Form vid members ts tr) proc a =
    both_keep table (with_formed (formed vid members ts tr) table.groups) members.items proc
    (formed_keeps (is_member (formed vid members ts tr) proc) table (formed vid members ts tr) proc refl)

pub limits-updated : (table : TableValue) (update : Update) (new : TableValue) (proc : Proc) → IsValid table → updated table update ≡ Some new
    → KeepsLimits table (ports_to_clear table update) proc new
limits-updated table update new proc valid e =
    subst (MayKeepLimits table (ports_to_clear table update) proc) e (updated_keeps table update proc (Ascending-valid table valid))

-- ---- an update that is done

-- a done update gives the new table, and has the ports to clear
judged_done : (e : Option ConfigError) (old new : TableValue) (ports : List Proc) (procs : ArrayVec Proc) → table_error new ≡ e → judged e ports ≡ Done procs
    → (if_valid old (Some new) ≡ new) × (procs.items ≡ ports)
judged_done None old new ports procs e done = (ap (λ o. cond (is_none o) new old) e, (let same : record { items = ports } ≡ procs = cc in ap (λ p. p.items) (sym same)))
judged_done (Some error) old new ports procs e done = cc

-- so does a done update
done_keeps : (table : TableValue) (o : Option TableValue) (ports : List Proc) (procs : ArrayVec Proc) (proc : Proc) → MayKeepLimits table ports proc o → applied_to o ports ≡ Done procs
    → (is_listed proc procs.items ≡ true) ⊎ (in_limit (if_valid table o) proc ≡ in_limit table proc)
done_keeps table None ports procs proc keeps done = cc
done_keeps table (Some new) ports procs proc keeps done =
    let facts = judged_done (table_error new) table new ports procs refl done in
    done_by keeps facts.0 facts.1 where
      done_by : KeepsLimits table ports proc new → if_valid table (Some new) ≡ new → procs.items ≡ ports
          → (is_listed proc procs.items ≡ true) ⊎ (in_limit (if_valid table (Some new)) proc ≡ in_limit table proc)
      done_by (inl e) same items = inl (ap (is_listed proc) items ∙ e)
      done_by (inr e) same items = inr (ap (λ t. in_limit t proc) same ∙ e.1)

-- an applied update clears a processor's port or keeps its input limit
pub limit-applied : (table : TableValue) (update : Update) (procs : ArrayVec Proc) (proc : Proc) → IsValid table → applied table update ≡ Done procs
    → (is_listed proc procs.items ≡ true) ⊎ (in_limit (table_after table update) proc ≡ in_limit table proc)
limit-applied table update procs proc valid done =
    done_keeps table (updated table update) (ports_to_clear table update) procs proc (updated_keeps table update proc (Ascending-valid table valid)) done
