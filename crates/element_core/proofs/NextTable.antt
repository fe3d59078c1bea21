-- An applied update that names other groups leaves a group, its line and its members' queues.
use Rattle.std.proofs.Common.{◌≡◌, ℕ, Bool, true, false, cond, not, List, [], ◌∷◌, refl, ap, sym, ◌∙◌, subst, find, Contains, Option, Some, None, is_some, is_none, drop, ◌-◌, ◌+◌, slice_range}
use Rattle.std.specs.Prelude.{◌==◌, nat_lt}
use Rattle.std.specs.List.{AllByRecursion}
use Rattle.std.proofs.lemmas.Bool.{eqb-true, ne_eqb}
use Rattle.std.proofs.lemmas.List.Elements.{All-from_recursion, recursion_from_All, All-take, All-drop}
use Rattle.ftpp_base.specs.declared.element.Proc.{Proc}
use Rattle.config_table.specs.declared.groups.Group.{Group}
use Rattle.config_table.specs.declared.errors.ConfigError.{ConfigError}
use Rattle.config_table.specs.Groups.{members_of, same_proc}
use Rattle.config_table.specs.Table.{TableValue, group_named, is_named, table_error, IsValid}
use Rattle.processor_buffers.specs.Queues.{Queues, no_queues}
use Rattle.scoreboard.specs.Board.{line_of}
use Rattle.table_update.specs.declared.Update.{Update}
use Rattle.table_update.specs.declared.Update.TheVariants.{Mask, Admit, Timeouts, Dissolve, Form}
use Rattle.table_update.specs.Updates.{updated, applied_to, judged, if_valid, table_after, named_group, ports_to_clear, all_members, with_changed, without_group, with_formed, formed, where_there, with_masked, with_admitted, with_timeouts, has_member}
use Rattle.element_core.specs.Processors.{queues_of}
use Rattle.element_core.specs.Cycle.{State, with_update, changed_by, group_changed, if_done}
use Rattle.ftpp_base.proofs.Among.{here, there}
use Rattle.element_core.proofs.Places.{IsPlace, places-kept, fold-others}
use Rattle.config_table.proofs.ValidTable.{named-there, members-others}
use Rattle.scoreboard.proofs.NextLine.{after_update-other}

-- ---- the group is found in the new table

-- one group of the list, changed or not
changed_one : (change : Group → Group) (v vid : ℕ) (h : Group) (before after : Option Group) (b : Bool) → (h.vid == v) ≡ b → (v ≡ vid → ⊥) → ((k : Group) → (change k).vid ≡ k.vid) → after ≡ before
    → cond ((cond b (change h) h).vid == vid) (Some (cond b (change h) h)) after ≡ cond (h.vid == vid) (Some h) before
changed_one change v vid h before after true e wrong keeps rec =
    let here_is : h.vid ≡ v = eqb-true h.vid v e in
    let not_it : (h.vid == vid) ≡ false = ne_eqb h.vid vid (λ f. wrong (sym here_is ∙ f)) in
    let not_new : ((change h).vid == vid) ≡ false = ap (λ k. k == vid) (keeps h) ∙ not_it in
    ap (λ (b : Bool). cond b (Some (change h)) after) not_new ∙ rec ∙ sym (ap (λ (b : Bool). cond b (Some h) before) not_it)
changed_one change v vid h before after false e wrong keeps rec = ap (cond (h.vid == vid) (Some h)) rec

-- a change of another group leaves the one that is found
find_changed : (change : Group → Group) (v vid : ℕ) (gs : List Group) → (v ≡ vid → ⊥) → ((k : Group) → (change k).vid ≡ k.vid) → find (is_named vid) (with_changed change v gs) ≡ find (is_named vid) gs
find_changed change v vid [] wrong keeps = refl
find_changed change v vid (h ∷ hs) wrong keeps =
    changed_one change v vid h (find (is_named vid) hs) (find (is_named vid) (with_changed change v hs)) (h.vid == v) refl wrong keeps (find_changed change v vid hs wrong keeps)

-- one group of the list, taken out or not
left_one : (v vid : ℕ) (h : Group) (hs : List Group) (b : Bool) → (h.vid == v) ≡ b → (v ≡ vid → ⊥) → find (is_named vid) (without_group v hs) ≡ find (is_named vid) hs
    → find (is_named vid) (cond (not b) (h ∷ without_group v hs) (without_group v hs)) ≡ cond (h.vid == vid) (Some h) (find (is_named vid) hs)
left_one v vid h hs true e wrong rec =
    let here_is : h.vid ≡ v = eqb-true h.vid v e in
    let not_it : (h.vid == vid) ≡ false = ne_eqb h.vid vid (λ f. wrong (sym here_is ∙ f)) in
    rec ∙ sym (ap (λ (b : Bool). cond b (Some h) (find (is_named vid) hs)) not_it)
left_one v vid h hs false e wrong rec = ap (cond (h.vid == vid) (Some h)) rec

-- so does one that is taken out
find_left : (v vid : ℕ) (gs : List Group) → (v ≡ vid → ⊥) → find (is_named vid) (without_group v gs) ≡ find (is_named vid) gs
find_left v vid [] wrong = refl
find_left v vid (h ∷ hs) wrong = left_one v vid h hs (h.vid == v) refl wrong (find_left v vid hs wrong)

-- a group is put in before this one, or after it
formed_one : (new : Group) (vid : ℕ) (h : Group) (hs : List Group) (b : Bool) → (new.vid == vid) ≡ false → find (is_named vid) (with_formed new hs) ≡ find (is_named vid) hs
    → find (is_named vid) (cond b (new ∷ h ∷ hs) (h ∷ with_formed new hs)) ≡ cond (h.vid == vid) (Some h) (find (is_named vid) hs)
formed_one new vid h hs true e rec = ap (λ (b : Bool). cond b (Some new) (cond (h.vid == vid) (Some h) (find (is_named vid) hs))) e
formed_one new vid h hs false e rec = ap (cond (h.vid == vid) (Some h)) rec

-- and one that is put in
find_formed : (new : Group) (vid : ℕ) (gs : List Group) → (new.vid == vid) ≡ false → find (is_named vid) (with_formed new gs) ≡ find (is_named vid) gs
find_formed new vid [] e = ap (λ (b : Bool). cond b (Some new) None) e
find_formed new vid (h ∷ hs) e = formed_one new vid h hs (nat_lt new.vid h.vid) e (find_formed new vid hs e)

-- one step: it is put in here, or later
formed_in : (new : Group) (h : Group) (hs : List Group) (b : Bool) → Contains (with_formed new hs) new → Contains (cond b (new ∷ h ∷ hs) (h ∷ with_formed new hs)) new
formed_in new h hs true rec = here new (h ∷ hs)
formed_in new h hs false rec = there h (with_formed new hs) new rec

-- a formed group is in the table
formed_there : (new : Group) (gs : List Group) → Contains (with_formed new gs) new
formed_there new [] = here new []
formed_there new (h ∷ hs) = formed_in new h hs (nat_lt new.vid h.vid) (formed_there new hs)

-- a table with other groups
abbrev table_with : TableValue → List Group → TableValue
table_with table groups = record table { groups = groups }

-- a new table finds what its groups find
there_named : (b : Bool) (table : TableValue) (groups : List Group) (new : TableValue) (vid : ℕ) → where_there b table groups ≡ Some new → find (is_named vid) groups ≡ group_named table vid
    → group_named new vid ≡ group_named table vid
there_named true table groups new vid e h = let same : table_with table groups ≡ new = cc in ap (λ (t : TableValue). group_named t vid) (sym same) ∙ h
there_named false table groups new vid e h = cc

-- the new table has the same group of another number
updated_named : (table : TableValue) (update : Update) (new : TableValue) (vid : ℕ) → updated table update ≡ Some new → (named_group update ≡ vid → ⊥) → group_named new vid ≡ group_named table vid
unfolding updated
updated_named table (Mask v member) new vid e wrong =
    there_named (has_member member (group_named table v)) table (with_changed (with_masked member) v table.groups) new vid e (find_changed (with_masked member) v vid table.groups wrong (λ k. refl))
updated_named table (Admit v member) new vid e wrong =
    there_named (has_member member (group_named table v)) table (with_changed (with_admitted member) v table.groups) new vid e (find_changed (with_admitted member) v vid table.groups wrong (λ k. refl))
updated_named table (Timeouts v ts tr) new vid e wrong =
    there_named (is_some (group_named table v)) table (with_changed (with_timeouts ts tr) v table.groups) new vid e (find_changed (with_timeouts ts tr) v vid table.groups wrong (λ k. refl))
updated_named table (Dissolve v) new vid e wrong =
    there_named (is_some (group_named table v)) table (without_group v table.groups) new vid e (find_left v vid table.groups wrong)
updated_named table (Form v members ts tr) new vid e wrong =
    there_named true table (with_formed (formed v members ts tr) table.groups) new vid e (find_formed (formed v members ts tr) vid table.groups (ne_eqb v vid wrong))

-- ---- its members' ports are not cleared

-- none of some processors is the one
abbrev pub NoneIs : Proc → List Proc → Type 0
NoneIs p procs = AllByRecursion (λ q. same_proc q p ≡ false) procs

-- a member of a group is none of the members of another, if that is there
none_of_group : (table : TableValue) (v : ℕ) (g : Group) (p : Proc) (o : Option Group) → IsValid table → group_named table g.vid ≡ Some g → Contains (members_of g) p → (v ≡ g.vid → ⊥)
    → group_named table v ≡ o → NoneIs p (all_members o)
none_of_group table v g p None valid named m wrong e = tt
none_of_group table v g p (Some h) valid named m wrong e =
    let there_is = named-there table v h e in
    members-others table valid g.vid g p named m h there_is.0 (λ f. wrong (sym there_is.1 ∙ f))

-- nor one of some of them
none_of_range : (p : Proc) (i j : ℕ) (procs : List Proc) → NoneIs p procs → NoneIs p (slice_range procs i j)
none_of_range p i j procs a =
    let P : Proc → Type 0 = λ q. same_proc q p ≡ false in
    recursion_from_All P (slice_range procs i j) (All-take P (j - i) (drop i procs) (All-drop P i procs (All-from_recursion P procs a)))

-- a formed group is in the new table
new_group : (table : TableValue) (h : Group) (new : TableValue) → where_there true table (with_formed h table.groups) ≡ Some new → Contains new.groups h
new_group table h new e =
    let same : table_with table (with_formed h table.groups) ≡ new = cc in
    subst (λ (t : TableValue). Contains t.groups h) same (formed_there h table.groups)

-- an update of another group clears no port of a member
none_cleared : (table : TableValue) (update : Update) (new : TableValue) (g : Group) (p : Proc) → updated table update ≡ Some new → IsValid table → IsValid new
    → group_named table g.vid ≡ Some g → Contains (members_of g) p → (named_group update ≡ g.vid → ⊥) → NoneIs p (ports_to_clear table update)
unfolding updated
none_cleared table (Mask v member) new g p e valid next named m wrong = tt
none_cleared table (Admit v member) new g p e valid next named m wrong =
    none_of_range p member (member + 1) (all_members (group_named table v)) (none_of_group table v g p (group_named table v) valid named m wrong refl)
none_cleared table (Timeouts v ts tr) new g p e valid next named m wrong = tt
none_cleared table (Dissolve v) new g p e valid next named m wrong = none_of_group table v g p (group_named table v) valid named m wrong refl
none_cleared table (Form v members ts tr) new g p e valid next named m wrong =
    let stays = updated_named table (Form v members ts tr) new g.vid e wrong ∙ named in
    members-others new next g.vid g p stays m (formed v members ts tr) (new_group table (formed v members ts tr) new e) wrong

-- ---- an update, whether or not it is applied

-- What is left of a group by an update that does not name it.
pub record Leaves (g : Group) (before after : State) : Type 0 where
  pub valid : IsValid after.table
  pub named : group_named after.table g.vid ≡ Some g
  pub line : line_of after.scoreboard g.vid ≡ line_of before.scoreboard g.vid
  pub places : (p : Proc) → Contains (members_of g) p → IsPlace before.queues p → IsPlace after.queues p
  pub queues : (p : Proc) → Contains (members_of g) p → IsPlace before.queues p → queues_of after.queues p ≡ queues_of before.queues p

-- nothing changes
nothing_done : (g : Group) (s : State) → IsValid s.table → group_named s.table g.vid ≡ Some g → Leaves g s s
nothing_done g s valid named = record { valid = valid; named = named; line = refl; places = λ p m place. place; queues = λ p m place. refl }

-- a cleared port
abbrev to_none : Queues → Queues
to_none q = no_queues

-- the table after an update that is valid
valid_after : (old new : TableValue) (e : Option ConfigError) → table_error new ≡ e → e ≡ None → if_valid old (Some new) ≡ new
valid_after old new None e f = ap (λ (o : Option ConfigError). cond (is_none o) new old) e
valid_after old new (Some error) e f = cc

-- an update that is done, or refused
done_by : (g : Group) (s : State) (update : Update) (new : TableValue) (e : Option ConfigError) → IsValid s.table → group_named s.table g.vid ≡ Some g
    → updated s.table update ≡ Some new → table_error new ≡ e
    → (if_done (judged e (ports_to_clear s.table update)) (named_group update) ≡ Some g.vid → ⊥)
    → Leaves g s (changed_by (judged e (ports_to_clear s.table update)) update s)
done_by g s update new (Some error) valid named is broken other = nothing_done g s valid named
done_by g s update new None valid named is broken other =
    let wrong : named_group update ≡ g.vid → ⊥ = λ h. other (ap (λ (v : ℕ). Some v) h) in
    let after : table_after s.table update ≡ new = ap (if_valid s.table) is ∙ valid_after s.table new None broken refl in
    let stays : group_named new g.vid ≡ Some g = updated_named s.table update new g.vid is wrong ∙ named in
    record {
      valid = subst IsValid (sym after) broken;
      named = subst (λ (t : TableValue). group_named t g.vid ≡ Some g) (sym after) stays;
      line = after_update-other (table_after s.table update) (named_group update) s.scoreboard g (subst (λ (t : TableValue). group_named t g.vid ≡ Some g) (sym after) stays) (λ h. wrong (sym h));
      places = λ p m place. places-kept to_none s.queues (ports_to_clear s.table update) p place;
      queues = λ p m place. fold-others to_none s.queues (ports_to_clear s.table update) p (none_cleared s.table update new g p is valid broken named m wrong);
    }

-- an update that gives a table, or none
table_by : (g : Group) (s : State) (update : Update) (o : Option TableValue) → IsValid s.table → group_named s.table g.vid ≡ Some g → updated s.table update ≡ o
    → (if_done (applied_to o (ports_to_clear s.table update)) (named_group update) ≡ Some g.vid → ⊥)
    → Leaves g s (changed_by (applied_to o (ports_to_clear s.table update)) update s)
table_by g s update None valid named is other = nothing_done g s valid named
table_by g s update (Some new) valid named is other = done_by g s update new (table_error new) valid named is refl other

-- an update that does not name a group of a valid table leaves it
pub with_update-leaves : (g : Group) (s : State) (u : Option Update) → IsValid s.table → group_named s.table g.vid ≡ Some g → (group_changed s.table u ≡ Some g.vid → ⊥) → Leaves g s (with_update u s)
with_update-leaves g s None valid named other = nothing_done g s valid named
with_update-leaves g s (Some update) valid named other = table_by g s update (updated s.table update) valid named refl other
