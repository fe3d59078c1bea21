-- The eight ports of one element: their queues, and how many packets each output and input holds.
use Rattle.std.specs.Prelude.{◌≡◌, ℕ, ◌<◌, true, ◌⊎◌, List, All, map, slice_index}
use Rattle.std.specs.List.{list_any}
use Rattle.ftpp_base.specs.declared.element.Proc.{Proc}
use Rattle.config_table.specs.Groups.{same_proc}
use Rattle.config_table.specs.Table.{TableValue, out_limit, in_limit}
use Rattle.processor_buffers.specs.Queues.{Queues, no_queues}
use Rattle.processor_buffers.specs.Buffers.{Buffers}

-- The element, and by port the queues, the limits of the outputs and those of the inputs.
pub record PortsValue : Type 0 where
  pub me : ℕ
  pub queues : List Queues
  pub outs : List ℕ
  pub ins : List ℕ

-- the ports of an element with these buffers
abbrev pub seen : ℕ → List Buffers → PortsValue
seen me buffers = record {
  me = me;
  queues = map (λ b. b.queues) buffers;
  outs = map (λ b. b.outs) buffers;
  ins = map (λ b. b.ins) buffers;
}

-- the processor at a port of an element
abbrev pub proc_at : ℕ → ℕ → Proc
proc_at me port = record { ne = me; port = port }

-- the empty buffers of a processor, with the limits of the table
abbrev pub fresh : TableValue → Proc → Buffers
fresh table proc = record { queues = no_queues; outs = out_limit table proc; ins = in_limit table proc }

-- The limits of one port are those of the table.
pub record HasLimitsAt (table : TableValue) (ports : PortsValue) (port : ℕ) : Type 0 where
  pub output : slice_index ports.outs port ≡ out_limit table (proc_at ports.me port)
  pub input : slice_index ports.ins port ≡ in_limit table (proc_at ports.me port)

-- The limits of all ports are those of the table.
abbrev pub HasLimits : TableValue → PortsValue → Type 0
HasLimits table ports = (port : ℕ) → port < 8 → HasLimitsAt table ports port

-- The ports can go over to a table where those of some processors are emptied: these are there, and all others have its limits.
pub record CanGoOver (table : TableValue) (cleared : List Proc) (ports : PortsValue) : Type 0 where
  pub there : All (λ proc. proc.port < 8) cleared
  pub others : (port : ℕ) → port < 8 → (list_any (same_proc (proc_at ports.me port)) cleared ≡ true) ⊎ HasLimitsAt table ports port
