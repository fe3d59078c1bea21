-- The ports of an element and the updates of its table.
use Rattle.std.specs.Prelude.{◌≡◌}
use Rattle.arrayvec.specs.ArrayVec.{ArrayVec}
use Rattle.ftpp_base.specs.declared.element.Proc.{Proc}
use Rattle.config_table.specs.Table.{TableValue, IsValid}
use Rattle.table_update.specs.declared.Update.{Update}
use Rattle.table_update.specs.declared.Applied.TheVariants.{Done}
use Rattle.table_update.specs.Updates.{applied, table_after}
use Rattle.element_ports.specs.Ports.{PortsValue, HasLimits, CanGoOver}

-- The ports can go over to the table that an applied update gives.
abbrev pub EachUpdateFits : Type 0
EachUpdateFits = (table : TableValue) (update : Update) (procs : ArrayVec Proc) (ports : PortsValue)
    → IsValid table → HasLimits table ports → applied table update ≡ Done procs
    → CanGoOver (table_after table update) procs.items ports
