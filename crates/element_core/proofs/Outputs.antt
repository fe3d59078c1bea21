-- Deliveries leave the outputs.
use Rattle.std.proofs.Common.{◌≡◌, ℕ, Bool, true, false, cond, List, [], ◌∷◌, ◌++◌, refl, ap, ◌∙◌, fold, Option, Some, None}
use Rattle.ftpp_base.specs.Lists.{cell_at}
use Rattle.ftpp_base.specs.declared.element.Proc.{Proc}
use Rattle.packet_format.specs.declared.Packet.{Packet}
use Rattle.packet_format.specs.declared.Delivered.{Delivered}
use Rattle.config_table.specs.declared.decisions.Decision.{Decision}
use Rattle.config_table.specs.declared.decisions.Decision.TheVariants.{Idle, Discard, Exchange}
use Rattle.config_table.specs.declared.decisions.Service.{Service}
use Rattle.config_table.specs.Table.{TableValue, in_limit}
use Rattle.processor_buffers.specs.Queues.{Queues, Posted, after_delivery, has_in_room}
use Rattle.element_core.specs.Processors.{AllQueues, queues_of}
use Rattle.element_core.specs.Cycle.{after_entry, after_handing, after_deliveries, receivers, delivered_by}
use Rattle.ftpp_base.proofs.Changed.{fold-keeps}
use Rattle.element_core.proofs.Places.{with_queues-keeps}
use Rattle.element_core.proofs.Accepted.{output_of}

-- a delivery leaves the output, with or without room
delivered_by_room : (limit : ℕ) (d : Delivered) (q : Queues) (b : Bool) → has_in_room limit q ≡ b → (after_delivery limit d q).output ≡ q.output
delivered_by_room limit d q true e = ap (λ (b : Bool). (cond b (record q { input = q.input ++ d ∷ [] }) q).output) e
delivered_by_room limit d q false e = ap (λ (b : Bool). (cond b (record q { input = q.input ++ d ∷ [] }) q).output) e

-- so does an entry, if there is one
entry_output : (limit cycle : ℕ) (service : Service) (entry : Option Packet) (q : Queues) → (after_entry limit cycle service entry q).output ≡ q.output
entry_output limit cycle service None q = refl
entry_output limit cycle service (Some packet) q = delivered_by_room limit (delivered_by cycle service packet) q (has_in_room limit q) refl

-- a queue with that output
abbrev HasOutput : List Posted → Queues → Type 0
HasOutput xs q = q.output ≡ xs

-- deliveries to receivers leave each output
handed_output : (table : TableValue) (cycle : ℕ) (service : Service) (entries : List (Option Packet)) (all : AllQueues) (procs : List Proc) (p : Proc)
    → output_of (fold (after_handing table cycle service entries) all procs) p ≡ output_of all p
handed_output table cycle service entries all procs p =
    fold-keeps (λ x. HasOutput (output_of all p) (queues_of x p)) (after_handing table cycle service entries) procs all
    (λ x q i k. with_queues-keeps (HasOutput (output_of all p)) (after_entry (in_limit table q) cycle service (cell_at entries q.ne)) x q p
    (λ y e. entry_output (in_limit table q) cycle service (cell_at entries q.ne) y ∙ e) k) refl

-- all deliveries leave each output
pub deliveries-output : (table : TableValue) (cycle : ℕ) (decision : Decision) (entries : List (Option Packet)) (all : AllQueues) (p : Proc)
    → output_of (after_deliveries table cycle decision entries all) p ≡ output_of all p
deliveries-output table cycle Idle entries all p = refl
deliveries-output table cycle (Discard v d number admitted waited) entries all p = refl
deliveries-output table cycle (Exchange service) entries all p = handed_output table cycle service entries all (receivers table service) p
