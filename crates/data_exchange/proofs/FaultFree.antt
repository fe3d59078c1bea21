-- The fault-free live members of a group.
use Rattle.std.proofs.Common.{◌≡◌, ℕ, false, Option, Contains}
use Rattle.std.proofs.lemmas.Bool.{not-true}
use Rattle.ftpp_base.specs.Lists.{is_this}
use Rattle.ftpp_base.specs.declared.element.Proc.{Proc}
use Rattle.ftpp_base.proofs.Among.{filter-contains}
use Rattle.config_table.specs.declared.groups.Group.{Group}
use Rattle.config_table.specs.Groups.{live_members}
use Rattle.data_exchange.specs.Entries.{fault_free_members, is_fault_free}

-- a fault-free live member is live, and not at the faulty element
pub fault_free-live : (faulty : Option ℕ) (g : Group) (p : Proc) → Contains (fault_free_members faulty g) p → (Contains (live_members g) p) × (is_this faulty p.ne ≡ false)
fault_free-live faulty g p c = let h = filter-contains (is_fault_free faulty) (live_members g) p c in (h.0, not-true (is_this faulty p.ne) h.1)
