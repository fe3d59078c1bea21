-- The processors that an applied update clears are there, and so the ports can follow it.
use Rattle.std.proofs.Common.{◌≡◌, ℕ, ◌+◌, ◌<◌, Bool, true, false, cond, List, [], ◌∷◌, ap, sym, ◌∙◌, ◌⊎◌, inl, inr, subst, All, drop, refl, ◌-◌}
use Rattle.std.specs.Prelude.{Option, Some, None, nat_lt, is_none}
use Rattle.std.specs.List.{AllByRecursion}
use Rattle.std.proofs.lemmas.List.Elements.{All-nil, All-take, All-drop, recursion_from_All}
use Rattle.arrayvec.specs.ArrayVec.{ArrayVec}
use Rattle.ftpp_base.specs.declared.element.Proc.{Proc}
use Rattle.config_table.specs.declared.groups.Group.{Group}
use Rattle.config_table.specs.declared.errors.ConfigError.{ConfigError}
use Rattle.config_table.specs.Bounds.{IsBounded}
use Rattle.config_table.specs.Table.{TableValue, IsValid, group_named, table_error}
use Rattle.config_table.proofs.Bounded.{bounded-valid, bounded-named}
use Rattle.table_update.specs.declared.Update.{Update}
use Rattle.table_update.specs.declared.Update.TheVariants.{Mask, Admit, Timeouts, Dissolve, Form}
use Rattle.table_update.specs.declared.Applied.TheVariants.{Done}
use Rattle.table_update.specs.Updates.{formed, with_formed, all_members, ports_to_clear, updated, judged, applied_to, if_valid, table_after}
use Rattle.element_ports.specs.Ports.{PortsValue, HasLimits, HasLimitsAt, CanGoOver, proc_at}
use Rattle.element_core.specs.PortUpdates.{EachUpdateFits}
use Rattle.table_update.proofs.LimitLaws.{KeepsLimits, is_listed, limits-updated}

-- What an update that is done tells: the table that it gives is valid and the next one, and has the ports to clear.
record IsDone (table new : TableValue) (update : Update) (procs : ArrayVec Proc) : Type 0 where
  given : updated table update ≡ Some new
  valid : IsValid new
  after : table_after table update ≡ new
  ports : procs.items ≡ ports_to_clear table update

done_by : (e : Option ConfigError) (table new : TableValue) (update : Update) (procs : ArrayVec Proc) → updated table update ≡ Some new → table_error new ≡ e
    → judged e (ports_to_clear table update) ≡ Done procs → IsDone table new update procs
done_by None table new update procs given e done = record {
  given = given;
  valid = e;
  after = ap (if_valid table) given ∙ ap (λ o. cond (is_none o) new table) e;
  ports = let same : record { items = ports_to_clear table update } ≡ procs = cc in ap (λ p. p.items) (sym same);
}
done_by (Some error) table new update procs given e done = cc

is_done : (o : Option TableValue) (table : TableValue) (update : Update) (procs : ArrayVec Proc) → updated table update ≡ o
    → applied_to o (ports_to_clear table update) ≡ Done procs → (new : TableValue) × IsDone table new update procs
is_done None table update procs given done = cc
is_done (Some new) table update procs given done = (new, done_by (table_error new) table new update procs given refl done)

-- ---- the ports are there

abbrev AreThere : List Proc → Type 0
AreThere procs = All (λ (proc : Proc). proc.port < 8) procs

-- those of a group of a valid table
of_bounded : (n : ℕ) (g : Group) → IsBounded n g → AreThere g.members.items
of_bounded n g h = λ k d l. (h.members k d l).port

-- and of one that may be there
of_found : (table : TableValue) (vid : ℕ) (found : Option Group) → IsValid table → group_named table vid ≡ found → AreThere (all_members found)
of_found table vid None valid e = All-nil (λ proc. proc.port < 8)
of_found table vid (Some g) valid e = of_bounded table.n g (bounded-named table vid g valid e)

-- what holds of all groups holds of the one that is formed
formed_by : (P : Group → Type 0) (b : Bool) (new g : Group) (gs : List Group) → (AllByRecursion P (with_formed new gs) → P new)
    → AllByRecursion P (cond b (new ∷ g ∷ gs) (g ∷ with_formed new gs)) → P new
formed_by P true new g gs rest a = a.0
formed_by P false new g gs rest a = rest a.1

of_formed : (P : Group → Type 0) (new : Group) (gs : List Group) → AllByRecursion P (with_formed new gs) → P new
of_formed P new [] a = a.0
of_formed P new (g ∷ gs) a = formed_by P (nat_lt new.vid g.vid) new g gs (of_formed P new gs) a

-- those that an update clears
cleared_there : (table new : TableValue) (update : Update) → IsValid table → IsValid new → updated table update ≡ Some new
    → AreThere (ports_to_clear table update)
unfolding updated
cleared_there table new (Mask vid member) valid next given = All-nil (λ proc. proc.port < 8)
cleared_there table new (Admit vid member) valid next given =
    let members = all_members (group_named table vid) in
    All-take (λ proc. proc.port < 8) (member + 1 - member) (drop member members)
    (All-drop (λ proc. proc.port < 8) member members (of_found table vid (group_named table vid) valid refl))
cleared_there table new (Timeouts vid ts tr) valid next given = All-nil (λ proc. proc.port < 8)
cleared_there table new (Dissolve vid) valid next given = of_found table vid (group_named table vid) valid refl
cleared_there table new (Form vid members ts tr) valid next given =
    let same : record table { groups = with_formed (formed vid members ts tr) table.groups } ≡ new = cc in
    let groups = subst (λ (t : TableValue). All (IsBounded t.n) t.groups) (sym same) (bounded-valid new next) in
    of_bounded table.n (formed vid members ts tr)
    (of_formed (IsBounded table.n) (formed vid members ts tr) table.groups
    (recursion_from_All (IsBounded table.n) (with_formed (formed vid members ts tr) table.groups) groups))

-- ---- the ports can follow

-- one port, by what the update does to its processor
follows : (table new : TableValue) (cleared : List Proc) (ports : PortsValue) (port : ℕ) → HasLimitsAt table ports port
    → KeepsLimits table cleared (proc_at ports.me port) new
    → (is_listed (proc_at ports.me port) cleared ≡ true) ⊎ HasLimitsAt new ports port
follows table new cleared ports port had (inl e) = inl e
follows table new cleared ports port had (inr same) = inr record { output = had.output ∙ sym same.0; input = had.input ∙ sym same.1 }

can : (table new : TableValue) (update : Update) (procs : ArrayVec Proc) (ports : PortsValue)
    → IsValid table → HasLimits table ports → IsDone table new update procs → CanGoOver new (ports_to_clear table update) ports
can table new update procs ports valid had done = record {
  there = cleared_there table new update valid done.valid done.given;
  others = λ port l.
      follows table new (ports_to_clear table update) ports port (had port l) (limits-updated table update new (proc_at ports.me port) valid done.given);
}

-- an applied update fits the ports that have the limits of the table before it
pub each_update_fits : EachUpdateFits
each_update_fits table update procs ports valid had applied_so =
    let h = is_done (updated table update) table update procs refl applied_so in
    subst (λ (t : TableValue). CanGoOver t procs.items ports) (sym h.1.after)
    (subst (λ (cleared : List Proc). CanGoOver h.0 cleared ports) (sym h.1.ports) (can table h.0 update procs ports valid had h.1))
