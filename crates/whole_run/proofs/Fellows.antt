-- While two processors are fault-free live members of one group, they are handed the same.
use Rattle.std.proofs.Common.{◌≡◌, ℕ, Bool, true, false, cond, [], refl, ap, sym, ◌∙◌, subst, find}
use Rattle.std.specs.Prelude.{Option, Some, None, option_map, unwrap_or, not, nat_le, nat_lt, ◌&&◌, ◌==◌}
use Rattle.std.specs.List.{AllByRecursion}
use Rattle.std.proofs.lemmas.Bool.{and_parts, ltb-true, leb-true}
use Rattle.ftpp_base.specs.Lists.{cell_at}
use Rattle.ftpp_base.specs.declared.element.Proc.{Proc}
use Rattle.ftpp_base.proofs.Among.{all-found, one_of}
use Rattle.config_table.specs.declared.decisions.Decision.TheVariants.{Exchange}
use Rattle.config_table.specs.declared.decisions.Service.{Service}
use Rattle.config_table.specs.declared.groups.Group.{Group}
use Rattle.config_table.specs.Groups.{live_members, is_member}
use Rattle.config_table.specs.Table.{TableValue, IsValid, group_named}
use Rattle.config_table.specs.Members.{senders, member_at, is_delivered}
use Rattle.config_table.proofs.LiveMembers.{all-live}
use Rattle.config_table.proofs.NamedGroups.{IsGroupOf, IsGroupOf-valid}
use Rattle.config_table.proofs.Procs.{same_proc-refl}
use Rattle.config_table.proofs.ValidTable.{named-there}
use Rattle.element_core.specs.Cycle.{State, Input, Shown, step, receivers, delivered_by}
use Rattle.element_core.specs.Run.{Journal, LogEntry, state_at, input_at}
use Rattle.element_core.specs.Alone.{IsSound, IsInput}
use Rattle.element_core.proofs.SoundRuns.{sound_at}
use Rattle.whole_run.specs.LogOrder.{is_proc, is_receiver, overran, due_in, is_whole, IsServedMember, AreFellows, is_between, handed_between}
use Rattle.whole_run.proofs.LogHanded.{run_alike, entry_of, receiver_found, given_same, shown_table}
use Rattle.whole_run.proofs.OverrunLaws.{receives_found}

-- ---- a member has one group

-- the group of a live member of a valid table is the one that it was found in
group_found : (table : TableValue) (vid : ℕ) (g : Group) (p : Proc) → IsValid table → group_named table vid ≡ Some g → member_at (live_members g) p.ne ≡ Some p
    → find (λ h. is_member h p) table.groups ≡ Some g
group_found table vid g p valid named found =
    let Own : Proc → Type 0 = λ q. find (λ h. is_member h q) table.groups ≡ Some g in
    let there = named-there table vid g named in
    let owned : IsGroupOf table.groups g = one_of (IsGroupOf table.groups) table.groups g (IsGroupOf-valid table valid) there.0 in
    all-found Own (λ q. q.ne == p.ne) (live_members g) p (all-live Own g owned) found

-- so groups that have it have one number
same_number : (table : TableValue) (v w : ℕ) (g h : Group) (p : Proc) → IsValid table → group_named table v ≡ Some g → group_named table w ≡ Some h
    → member_at (live_members g) p.ne ≡ Some p → member_at (live_members h) p.ne ≡ Some p → v ≡ w
same_number table v w g h p valid named other found too =
    let one : Some g ≡ Some h = sym (group_found table v g p valid named found) ∙ group_found table w h p valid other too in
    let same : g ≡ h = cc in
    sym (named-there table v g named).1 ∙ ap (λ (k : Group). k.vid) same ∙ (named-there table w h other).1

-- A live member of a group that is there.
record IsLiveIn (table : TableValue) (vid : ℕ) (p : Proc) : Type 0 where
  group : Group
  named : group_named table vid ≡ Some group
  found : member_at (live_members group) p.ne ≡ Some p

-- one that is found among the live members of a number
live_found : (table : TableValue) (vid : ℕ) (p : Proc) → member_at (senders table vid) p.ne ≡ Some p → IsLiveIn table vid p
live_found table vid p e = by (group_named table vid) refl e where
  by : (o : Option Group) → group_named table vid ≡ o → member_at (unwrap_or (option_map live_members o) []) p.ne ≡ Some p → IsLiveIn table vid p
  by None named f = cc
  by (Some g) named f = record { group = g; named = named; found = f }

-- ---- what an exchange delivers to

-- an exchange that delivers to a live member of a group is of class 1 or 2 and to that group
delivered_to_group : (table : TableValue) (service : Service) (vid : ℕ) (p : Proc) → IsValid table → member_at (senders table vid) p.ne ≡ Some p → is_receiver table service p ≡ true
    → (is_delivered service.desc.class ≡ true) × (service.desc.dest ≡ vid)
delivered_to_group table service vid p valid live e =
    let r = receives_found table service p.ne p (receiver_found p (member_at (receivers table service) p.ne) e) in
    let l = live_found table vid p live in
    (r.delivered, same_number table service.desc.dest vid r.group l.group p valid r.named l.named r.found l.found)

-- such an exchange delivers to each live member of it
delivered_to_each : (table : TableValue) (service : Service) (vid : ℕ) (p : Proc) → is_delivered service.desc.class ≡ true → service.desc.dest ≡ vid → member_at (senders table vid) p.ne ≡ Some p
    → is_receiver table service p ≡ true
delivered_to_each table service vid p delivered to live =
    ap (λ b. is_proc p (member_at (cond b (senders table service.desc.dest) []) p.ne)) delivered
    ∙ ap (λ v. is_proc p (member_at (senders table v) p.ne)) to
    ∙ ap (is_proc p) live ∙ same_proc-refl p

-- so it delivers to both of two live members, or to neither
both_receive : (table : TableValue) (service : Service) (vid : ℕ) (one other : Proc) → IsValid table → member_at (senders table vid) one.ne ≡ Some one → member_at (senders table vid) other.ne ≡ Some other
    → is_receiver table service one ≡ true → is_receiver table service other ≡ true
both_receive table service vid one other valid live too e =
    let to = delivered_to_group table service vid one valid live e in delivered_to_each table service vid other to.0 to.1 too

-- another one is given nothing
none_given : (shown : Shown) (p : Proc) (entry : LogEntry) → is_receiver shown.table entry.service p ≡ false → due_in p shown entry ≡ None
none_given shown p entry e = ap (λ b. cond (b && not (overran shown p)) (option_map (delivered_by entry.cycle entry.service) (cell_at entry.entries p.ne)) None) e

-- ---- in one cycle

-- two such members are given the same
fellows_same : (s : State) (input : Input) (service : Service) (vid : ℕ) (one other : Proc) → IsSound s → IsInput s.table.n input → (step s input).shown.decision ≡ Exchange service
    → IsServedMember (step s input).shown vid one → IsServedMember (step s input).shown vid other
    → (service.desc.dest ≡ vid → is_whole (step s input).shown service ≡ true)
    → due_in one (step s input).shown (entry_of (step s input).shown service) ≡ due_in other (step s input).shown (entry_of (step s input).shown service)
fellows_same s input service vid one other sound is decided m n whole = by (is_receiver shown.table service one) (is_receiver shown.table service other) refl refl where
  shown : Shown
  shown = (step s input).shown

  valid : IsValid shown.table
  valid = subst IsValid (sym (shown_table s input)) sound.valid

  by : (b c : Bool) → is_receiver shown.table service one ≡ b → is_receiver shown.table service other ≡ c → due_in one shown (entry_of shown service) ≡ due_in other shown (entry_of shown service)
  by true true e f =
      let to = delivered_to_group shown.table service vid one valid m.live e in
      given_same s input service one other sound is decided (whole to.1)
      (record { receives = e; fine = m.fault_free; stored = m.no_overrun }) (record { receives = f; fine = n.fault_free; stored = n.no_overrun })
  by true false e f = let too = both_receive shown.table service vid one other valid m.live n.live e in cc
  by false true e f = let too = both_receive shown.table service vid other one valid n.live m.live f in cc
  by false false e f = none_given shown one (entry_of shown service) e ∙ sym (none_given shown other (entry_of shown service) f)

-- ---- in a run

-- whether a cycle is one of these
abbrev is_within : ℕ → ℕ → ℕ → Bool
is_within from upto k = nat_le from k && nat_lt k upto

-- Two fellows are handed the same.
pub fellows-equal : (table : TableValue) (journal : Journal) (vid from upto : ℕ) (one other : Proc) → IsValid table → AllByRecursion (IsInput table.n) journal
    → AreFellows table journal vid from upto one other → handed_between table journal from upto one ≡ handed_between table journal from upto other
fellows-equal table journal vid from upto one other valid are fellows =
    run_alike (is_between from upto) (is_within from upto) table journal one other valid are (λ d k e. ap (is_within from upto) e)
    (λ k l service e w.
    let at = sound_at table journal k valid are l in
    let bounds = and_parts (nat_le from k) (nat_lt k upto) w in
    let low = leb-true from k bounds.0 in
    let high = ltb-true k upto bounds.1 in
    fellows_same (state_at table journal k) (input_at journal k) service vid one other at.0 at.1 e (fellows.first k low high) (fellows.second k low high)
    (λ to. fellows.whole k service low high e to))
