-- The table after all proposals for an element: each group is settled by itself.
use Rattle.std.proofs.Common.{◌≡◌, ℕ, ◌<◌, ◌≤◌, Bool, true, false, cond, List, [], ◌∷◌, length, refl, ap, arith, sym, ◌∙◌, subst, find, Option, Some, None, option_map, slice_get}
use Rattle.std.specs.Prelude.{◌==◌}
use Rattle.std.specs.List.{AllByRecursion, cons_option}
use Rattle.std.proofs.lemmas.Bool.{eqb-true, ne_eqb, eq-eqb}
use Rattle.ftpp_base.specs.declared.element.Proc.{Proc}
use Rattle.ftpp_base.proofs.Among.{each, all-both}
use Rattle.config_table.specs.declared.groups.Group.{Group}
use Rattle.config_table.specs.declared.errors.ConfigError.{ConfigError}
use Rattle.config_table.specs.Groups.{members_of, is_live}
use Rattle.config_table.specs.Table.{TableValue, IsValid, is_named, group_named}
use Rattle.config_table.proofs.ValidTable.{named-itself, named-there, members-apart, members-few, AreApart}
use Rattle.config_table.proofs.NamedGroups.{Ascending, Ascending-valid}
use Rattle.table_update.specs.declared.Update.{Update}
use Rattle.table_update.specs.declared.Update.TheVariants.{Mask}
use Rattle.table_update.specs.declared.Applied.{Applied}
use Rattle.table_update.specs.declared.Applied.TheVariants.{Done, Refused, Absent}
use Rattle.table_update.specs.Updates.{with_masked, judged, applied, table_after}
use Rattle.diagnosis.specs.Proposals.{live_index_at, if_done, mask_on, proposal_for, left_by, proposals_for, after_all}
use Rattle.diagnosis.specs.Laws.{is_done, AreDone, EachProposalDone, CannotBeMasked, OnlyNeededLeft, table_masked}
use Rattle.diagnosis.proofs.Masking.{none_named, masked_if, named-masked, mask_error, mask_error-code, masked_table, table-masked, applied-mask, after-mask}
use Rattle.diagnosis.proofs.Seats.{live_index-below, live-found, live-free, live-before}

-- ---- each proposal is done

-- one proposal before the others
done_by : (table : TableValue) (update : Update) (updates : List Update) (a : Applied) → applied table update ≡ a
    → AreDone (left_by table (if_done a update)) updates → AreDone table (cons_option (if_done a update) updates)
done_by table update updates (Done ports) e more = (ap is_done e, more)
done_by table update updates (Refused error) e more = more
done_by table update updates Absent e more = more

done_first : (table : TableValue) (vid : ℕ) (o : Option ℕ) (updates : List Update) → AreDone (left_by table (mask_on table vid o)) updates → AreDone table (cons_option (mask_on table vid o) updates)
done_first table vid None updates more = more
done_first table vid (Some m) updates more = done_by table (Mask vid m) updates (applied table (Mask vid m)) refl more

each_done : (table : TableValue) (ne : ℕ) (gs : List Group) → AreDone table (proposals_for table ne gs)
unfolding proposal_for
each_done table ne [] = tt
each_done table ne (g ∷ gs) =
    done_first table g.vid (live_index_at g ne) (proposals_for (left_by table (proposal_for table ne g)) ne gs) (each_done (left_by table (proposal_for table ne g)) ne gs)

pub each_proposal_done : EachProposalDone
each_proposal_done table ne = each_done table ne table.groups

-- ---- what becomes of a group

-- masked, where that breaks nothing
abbrev settled_if : Option ConfigError → ℕ → Group → Group
settled_if None m g = with_masked m g
settled_if (Some e) m g = g

abbrev settled_at : ℕ → Group → Option ℕ → Group
settled_at manager g None = g
settled_at manager g (Some m) = settled_if (mask_error manager (with_masked m g)) m g

abbrev settled : ℕ → ℕ → Group → Group
settled manager ne g = settled_at manager g (live_index_at g ne)

-- ---- one proposal

-- The table after what is proposed of a group: only that group may have changed.
record IsNext (manager : ℕ) (table next : TableValue) (vid : ℕ) (new : Group) : Type 0 where
  valid : IsValid next
  same : next.manager ≡ manager
  named : (v : ℕ) → group_named next v ≡ cond (vid == v) (Some new) (group_named table v)

-- a table that stays has the group itself
itself : (table : TableValue) (g : Group) (v : ℕ) (b : Bool) → group_named table g.vid ≡ Some g → (g.vid == v) ≡ b → group_named table v ≡ cond b (Some g) (group_named table v)
itself table g v true named e = ap (group_named table) (sym (eqb-true g.vid v e)) ∙ named
itself table g v false named e = refl

stays_next : (manager : ℕ) (table : TableValue) (g : Group) → IsValid table → table.manager ≡ manager → group_named table g.vid ≡ Some g → IsNext manager table table g.vid g
stays_next manager table g valid same named = record { valid = valid; same = same; named = λ v. itself table g v (g.vid == v) named refl }

unmasked : (o : Option Group) → option_map (λ g. g) o ≡ o
unmasked None = refl
unmasked (Some g) = refl

-- a table with the member masked has the masked group
masked_named : (table : TableValue) (g : Group) (m v : ℕ) (b : Bool) → group_named table g.vid ≡ Some g → (g.vid == v) ≡ b
    → option_map (masked_if m g.vid v) (group_named table v) ≡ cond b (Some (with_masked m g)) (group_named table v)
masked_named table g m v true named e =
    let here : g.vid ≡ v = eqb-true g.vid v e in
    ap (option_map (masked_if m g.vid v)) (ap (group_named table) (sym here) ∙ named)
    ∙ ap (λ b. Some (cond b (with_masked m g) g)) (eq-eqb v g.vid (sym here))
masked_named table g m v false named e =
    ap (λ b. option_map (λ k. cond b (with_masked m k) k) (group_named table v)) (ne_eqb v g.vid (λ f. let not_it : (v == v) ≡ false = ap (λ k. k == v) f ∙ e in let is : (v == v) ≡ true = eq-eqb v v refl in cc))
    ∙ unmasked (group_named table v)

masked_next : (manager : ℕ) (table : TableValue) (g : Group) (m : ℕ) → IsValid table → table.manager ≡ manager → group_named table g.vid ≡ Some g → mask_error table.manager (with_masked m g) ≡ None
    → IsNext manager table (masked_table table g.vid m) g.vid (with_masked m g)
masked_next manager table g m valid same named fine = record {
  valid = table-masked table g.vid m g valid named ∙ fine;
  same = same;
  named = λ v. named-masked m g.vid v table.groups ∙ masked_named table g m v (g.vid == v) named refl;
}

-- the mask of a member that is there
mask_next : (manager : ℕ) (table : TableValue) (g : Group) (m : ℕ) (o : Option ConfigError) → IsValid table → table.manager ≡ manager → group_named table g.vid ≡ Some g → m < length (members_of g)
    → mask_error table.manager (with_masked m g) ≡ o → IsNext manager table (left_by table (if_done (judged o []) (Mask g.vid m))) g.vid (settled_if o m g)
mask_next manager table g m None valid same named l is =
    let after : table_after table (Mask g.vid m) ≡ masked_table table g.vid m = after-mask table g.vid m g None valid named l is in
    subst (λ (next : TableValue). IsNext manager table next g.vid (with_masked m g)) (sym after) (masked_next manager table g m valid same named is)
mask_next manager table g m (Some e) valid same named l is = stays_next manager table g valid same named

-- what is proposed of a group
next_at : (manager : ℕ) (table : TableValue) (g : Group) (o : Option ℕ) → IsValid table → table.manager ≡ manager → group_named table g.vid ≡ Some g → ((m : ℕ) → o ≡ Some m → m < length (members_of g))
    → IsNext manager table (left_by table (mask_on table g.vid o)) g.vid (settled_at manager g o)
next_at manager table g None valid same named l = stays_next manager table g valid same named
next_at manager table g (Some m) valid same named l =
    let P : ℕ → Type 0 = λ k. IsNext manager table (left_by table (if_done (judged (mask_error k (with_masked m g)) []) (Mask g.vid m))) g.vid (settled_if (mask_error k (with_masked m g)) m g) in
    let is = applied-mask table g.vid m g valid named (l m refl) in
    let here = mask_next manager table g m (mask_error table.manager (with_masked m g)) valid same named (l m refl) refl in
    let Q : Applied → Type 0 = λ a. IsNext manager table (left_by table (if_done a (Mask g.vid m))) g.vid (settled_if (mask_error manager (with_masked m g)) m g) in
    subst Q (sym is) (subst (λ k. IsNext manager table (left_by table (if_done (judged (mask_error table.manager (with_masked m g)) []) (Mask g.vid m))) g.vid (settled_if (mask_error k (with_masked m g)) m g)) same here)

proposal_next : (manager : ℕ) (table : TableValue) (ne : ℕ) (g : Group) → IsValid table → table.manager ≡ manager → group_named table g.vid ≡ Some g
    → IsNext manager table (left_by table (proposal_for table ne g)) g.vid (settled manager ne g)
unfolding proposal_for
proposal_next manager table ne g valid same named = next_at manager table g (live_index_at g ne) valid same named (λ m e. live_index-below g ne m e)

-- ---- all proposals

-- each group is the one of its number
abbrev Stand : TableValue → List Group → Type 0
Stand table gs = AllByRecursion (λ g. group_named table g.vid ≡ Some g) gs

-- what is found among some groups, settled, and otherwise what stood there
abbrev settled_or : (Group → Group) → Option Group → Option Group → Option Group
settled_or f None other = other
settled_or f (Some g) other = Some (f g)

-- The table after the proposals for some groups.
record IsSettled (manager : ℕ) (table last : TableValue) (ne : ℕ) (gs : List Group) : Type 0 where
  valid : IsValid last
  same : last.manager ≡ manager
  named : (v : ℕ) → group_named last v ≡ settled_or (settled manager ne) (find (is_named v) gs) (group_named table v)

-- one proposal, and then the others
fold_first : (table : TableValue) (o : Option Update) (updates : List Update) → after_all table (cons_option o updates) ≡ after_all (left_by table o) updates
fold_first table None updates = refl
fold_first table (Some update) updates = refl

-- the later groups stand as they stood
still_stand : (manager : ℕ) (table next : TableValue) (g new : Group) (gs : List Group) → IsNext manager table next g.vid new → AllByRecursion (λ h. g.vid < h.vid) gs → Stand table gs → Stand next gs
still_stand manager table next g new gs is above stand =
    all-both (λ h. g.vid < h.vid) (λ h. group_named table h.vid ≡ Some h) (λ h. group_named next h.vid ≡ Some h) gs
    (λ h l e. is.named h.vid ∙ ap (λ b. cond b (Some new) (group_named table h.vid)) (ne_eqb g.vid h.vid (λ f. omega arith)) ∙ e) above stand

-- one group is settled now, and the others later
settle_both : (f : Group → Group) (g : Group) (gs : List Group) (v : ℕ) (b : Bool) (other : Option Group) → (g.vid == v) ≡ b → AllByRecursion (λ h. g.vid < h.vid) gs
    → settled_or f (find (is_named v) gs) (cond b (Some (f g)) other) ≡ settled_or f (cond b (Some g) (find (is_named v) gs)) other
settle_both f g gs v true other e above =
    ap (λ o. settled_or f o (Some (f g))) (ap (λ k. find (is_named k) gs) (sym (eqb-true g.vid v e)) ∙ none_named g.vid gs above)
settle_both f g gs v false other e above = refl

settle_all : (manager : ℕ) (table : TableValue) (ne : ℕ) (gs : List Group) → IsValid table → table.manager ≡ manager → Ascending gs → Stand table gs
    → IsSettled manager table (after_all table (proposals_for table ne gs)) ne gs
settle_all manager table ne [] valid same a stand = record { valid = valid; same = same; named = λ v. refl }
settle_all manager table ne (g ∷ gs) valid same a stand =
    let mask = proposal_for table ne g in
    let next = left_by table mask in
    let first : IsNext manager table next g.vid (settled manager ne g) = proposal_next manager table ne g valid same stand.0 in
    let rest = settle_all manager next ne gs first.valid first.same a.1 (still_stand manager table next g (settled manager ne g) gs first a.0 stand.1) in
    let folded = fold_first table mask (proposals_for next ne gs) in
    record {
      valid = subst IsValid (sym folded) rest.valid;
      same = ap (λ t. t.manager) folded ∙ rest.same;
      named = λ v. ap (λ t. group_named t v) folded ∙ rest.named v ∙ ap (settled_or (settled manager ne) (find (is_named v) gs)) (first.named v)
          ∙ settle_both (settled manager ne) g gs v (g.vid == v) (group_named table v) refl a.0;
    }

-- ---- what is left

-- A live member at the element cannot be masked.
abbrev IsNeeded : ℕ → ℕ → Group → Type 0
IsNeeded manager i g = (e : ConfigError) × (mask_error manager (with_masked i g) ≡ Some e)

-- Its members are few, and at elements of their own.
record AreFit (g : Group) : Type 0 where
  few : length (members_of g) ≤ 4
  apart : AreApart (members_of g)

-- a settled group has the same members
members_same : (o : Option ConfigError) (m : ℕ) (g : Group) (i : ℕ) → slice_get (members_of (settled_if o m g)) i ≡ slice_get (members_of g) i
members_same None m g i = refl
members_same (Some e) m g i = refl

needed_if : (manager ne : ℕ) (g : Group) (i m : ℕ) (p : Proc) (o : Option ConfigError) → AreFit g → live_index_at g ne ≡ Some m → slice_get (members_of g) i ≡ Some p → p.ne ≡ ne
    → mask_error manager (with_masked m g) ≡ o → is_live (settled_if o m g) i ≡ true → IsNeeded manager i (settled_if o m g)
needed_if manager ne g i m p None fit at e is fine live =
    let h = live-before g m i fit.few live in
    let found : live_index_at g ne ≡ Some i = live-found g ne i p fit.apart e is h.0 in
    let same : i ≡ m = cc in absurd (h.1 same)
needed_if manager ne g i m p (Some error) fit at e is fine live =
    let found : live_index_at g ne ≡ Some i = live-found g ne i p fit.apart e is (live-free g i live).1 in
    let same : i ≡ m = cc in (error, ap (λ k. mask_error manager (with_masked k g)) same ∙ fine)

needed_at : (manager ne : ℕ) (g : Group) (i : ℕ) (p : Proc) (o : Option ℕ) → AreFit g → live_index_at g ne ≡ o → slice_get (members_of (settled_at manager g o)) i ≡ Some p → p.ne ≡ ne
    → is_live (settled_at manager g o) i ≡ true → IsNeeded manager i (settled_at manager g o)
needed_at manager ne g i p None fit at e is live =
    let found : live_index_at g ne ≡ Some i = live-found g ne i p fit.apart e is (live-free g i live).1 in cc
needed_at manager ne g i p (Some m) fit at e is live =
    needed_if manager ne g i m p (mask_error manager (with_masked m g)) fit at (sym (members_same (mask_error manager (with_masked m g)) m g i) ∙ e) is refl live

-- the group that is found after all proposals is a settled one
needed_by : (manager ne : ℕ) (table : TableValue) (g : Group) (i : ℕ) (p : Proc) (o : Option Group) → IsValid table → group_named table g.vid ≡ o → settled_or (settled manager ne) o o ≡ Some g
    → slice_get (members_of g) i ≡ Some p → p.ne ≡ ne → is_live g i ≡ true → IsNeeded manager i g
needed_by manager ne table g i p None valid named found e is live = cc
needed_by manager ne table g i p (Some before) valid named found e is live =
    let same : settled manager ne before ≡ g = cc in
    let c = (named-there table g.vid before named).0 in
    let fit : AreFit before = record { few = members-few table valid before c; apart = members-apart table valid before c } in
    let P : Group → Type 0 = λ k. IsNeeded manager i k in
    subst P same (needed_at manager ne before i p (live_index_at before ne) fit refl (ap (λ k. slice_get (members_of k) i) same ∙ e) is (ap (λ k. is_live k i) same ∙ live))

-- a member that cannot be masked
refused_by : (table : TableValue) (g : Group) (i : ℕ) → IsValid table → group_named table g.vid ≡ Some g → i < length (members_of g) → IsNeeded table.manager i g → CannotBeMasked table g.vid i
refused_by table g i valid named l needed = record {
  error = needed.0;
  refused = applied-mask table g.vid i g valid named l ∙ ap (λ o. judged o []) needed.1;
  clause = mask_error-code table.manager (with_masked i g) needed.0 needed.1;
}

pub only_needed_left : OnlyNeededLeft
only_needed_left table ne g i p valid c live e is =
    let last = table_masked table ne in
    let s : IsSettled table.manager table last ne table.groups =
    settle_all table.manager table ne table.groups valid refl (Ascending-valid table valid)
    (each (λ h. group_named table h.vid ≡ Some h) table.groups (named-itself table valid)) in
    let named : group_named last g.vid ≡ Some g = named-itself last s.valid g c in
    let needed : IsNeeded table.manager i g = needed_by table.manager ne table g i p (group_named table g.vid) valid refl (sym (s.named g.vid) ∙ named) e is live in
    refused_by last g i s.valid named (live-free g i live).0 (subst (λ k. IsNeeded k i g) (sym s.same) needed)
