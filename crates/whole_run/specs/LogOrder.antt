-- What a processor is handed and what it reads in a run, and that both are the log in order.
use Rattle.std.specs.Prelude.{◌≡◌, ℕ, ◌<◌, ◌≤◌, Bool, true, false, not, ◌&&◌, nat_le, nat_lt, List, [], ◌∷◌, ◌++◌, length, take, drop, Option, Some, None, option_map, unwrap_or, if◌then◌else◌}
use Rattle.std.specs.List.{AllByRecursion, filter, filter_map, flat_map, list_any}
use Rattle.ftpp_base.specs.Lists.{cell_at, is_this}
use Rattle.ftpp_base.specs.declared.element.Proc.{Proc}
use Rattle.packet_format.specs.declared.Delivered.{Delivered}
use Rattle.packet_format.specs.declared.acts.Act.{Act}
use Rattle.packet_format.specs.declared.acts.Act.TheVariants.{Post, Read}
use Rattle.packet_format.specs.declared.acts.ActAnswer.{ActAnswer}
use Rattle.packet_format.specs.declared.acts.ActAnswer.TheVariants.{Posted as Accepted, PostFull, Got, Nothing}
use Rattle.config_table.specs.declared.decisions.Decision.{Decision}
use Rattle.config_table.specs.declared.decisions.Decision.TheVariants.{Idle, Discard, Exchange}
use Rattle.config_table.specs.declared.decisions.Service.{Service}
use Rattle.config_table.specs.Groups.{same_proc}
use Rattle.config_table.specs.Table.{TableValue, IsValid, group_named}
use Rattle.config_table.specs.Members.{senders, member_at}
use Rattle.processor_buffers.specs.declared.Handed.{Handed}
use Rattle.processor_buffers.specs.declared.Handed.TheVariants.{Stored, Overrun}
use Rattle.table_update.specs.declared.Update.{Update}
use Rattle.table_update.specs.declared.Applied.{Applied}
use Rattle.table_update.specs.declared.Applied.TheVariants as applied_variant
use Rattle.table_update.specs.Updates.{applied}
use Rattle.element_core.specs.Processors.{AllQueues, queues_of}
use Rattle.element_core.specs.Cycle.{State, Shown, step, receivers, delivered_by, after_service, after_deliveries, update_packet, update_in}
use Rattle.element_core.specs.Run.{Journal, LogEntry, run, run_from, history_from, history, state_at, shown_at, log_of}
use Rattle.element_core.specs.Premises.{is_split_in}
use Rattle.element_core.specs.Alone.{IsSound, IsInput}

-- ---- what a processor is handed

-- the queues of all after the deliveries of a cycle
abbrev pub queues_delivered : Shown → AllQueues
queues_delivered shown = after_deliveries shown.table shown.cycle shown.decision shown.entries (after_service shown.table shown.decision shown.queues)

-- the packets that the deliveries of a cycle append to a processor's input
abbrev pub handed_in : Proc → Shown → List Delivered
handed_in proc shown = drop (length (queues_of shown.queues proc).input) (queues_of (queues_delivered shown) proc).input

-- the packets that a processor is handed in the cycles of a journal from a state on, in order
abbrev pub handed_from : State → Journal → Proc → List Delivered
handed_from s journal proc = flat_map (handed_in proc) (history_from s journal)

-- the packets that it is handed in a run
abbrev pub handed_of : TableValue → Journal → Proc → List Delivered
handed_of table journal proc = flat_map (handed_in proc) (history table journal)

-- ---- the log as it is handed to a processor

-- whether the processor that was found is this one
abbrev pub is_proc : Proc → Option Proc → Bool
is_proc proc None = false
is_proc proc (Some other) = same_proc other proc

-- whether an exchange delivers to a processor: it is of class 1 or 2, and this is the destination's live member at its element
abbrev pub is_receiver : TableValue → Service → Proc → Bool
is_receiver table service proc = is_proc proc (member_at (receivers table service) proc.ne)

-- whether a delivery was an overrun
abbrev pub is_overrun : Option (Proc × Handed) → Bool
is_overrun None = false
is_overrun (Some (proc, Stored)) = false
is_overrun (Some (proc, Overrun)) = true

-- whether a cycle records an overrun at a processor's element
abbrev pub overran : Shown → Proc → Bool
overran shown proc = is_overrun (cell_at shown.handed proc.ne)

-- what a processor is handed of an entry of the log, in the cycle that shows this: the packet at its element, if there is one,
-- where the exchange delivers to it and no overrun is recorded
abbrev pub due_in : Proc → Shown → LogEntry → Option Delivered
due_in proc shown entry =
    if is_receiver shown.table entry.service proc && not (overran shown proc)
    then option_map (delivered_by entry.cycle entry.service) (cell_at entry.entries proc.ne)
    else None

-- the same by the cycle that the entry names
abbrev pub due_of : TableValue → Journal → Proc → LogEntry → Option Delivered
due_of table journal proc entry = due_in proc (shown_at table journal entry.cycle) entry

-- ---- what two processors are handed alike

-- whether the exchange of a cycle is not split
abbrev pub is_whole : Shown → Service → Bool
is_whole shown service = unwrap_or (option_map (λ g. not (is_split_in shown g service)) (group_named shown.table service.vid)) false

-- whether a processor is a fault-free receiver of the exchange of a cycle, and no overrun is recorded there
abbrev pub takes_part : Shown → Service → Proc → Bool
takes_part shown service proc = is_receiver shown.table service proc && not (is_this shown.packets.faulty proc.ne) && not (overran shown proc)

-- whether both take part in an exchange that is not split
abbrev pub is_common : Shown → Proc → Proc → Decision → Bool
is_common shown one other Idle = false
is_common shown one other (Discard vid desc number admitted waited) = false
is_common shown one other (Exchange service) = is_whole shown service && takes_part shown service one && takes_part shown service other

-- whether a packet was handed in a cycle whose exchange is common to both
abbrev pub is_shared : TableValue → Journal → Proc → Proc → Delivered → Bool
is_shared table journal one other d = let shown = shown_at table journal d.cycle in is_common shown one other shown.decision

-- A processor is a fault-free live member of a group in a cycle, and no overrun is recorded there.
pub record IsServedMember (shown : Shown) (vid : ℕ) (proc : Proc) : Type 0 where
  pub live : member_at (senders shown.table vid) proc.ne ≡ Some proc
  pub fault_free : is_this shown.packets.faulty proc.ne ≡ false
  pub no_overrun : overran shown proc ≡ false

-- From one cycle on and before another, two processors are both such members of one group, and no exchange to it is split.
pub record AreFellows (table : TableValue) (journal : Journal) (vid from upto : ℕ) (one other : Proc) : Type 0 where
  pub first : (k : ℕ) → from ≤ k → k < upto → IsServedMember (shown_at table journal k) vid one
  pub second : (k : ℕ) → from ≤ k → k < upto → IsServedMember (shown_at table journal k) vid other
  pub whole : (k : ℕ) (service : Service) → from ≤ k → k < upto → (shown_at table journal k).decision ≡ Exchange service → service.desc.dest ≡ vid
      → is_whole (shown_at table journal k) service ≡ true

-- whether a packet was handed in these cycles
abbrev pub is_between : ℕ → ℕ → Delivered → Bool
is_between from upto d = nat_le from d.cycle && nat_lt d.cycle upto

-- the packets that a processor is handed in these cycles of a run
abbrev pub handed_between : TableValue → Journal → ℕ → ℕ → Proc → List Delivered
handed_between table journal from upto proc = filter (is_between from upto) (handed_of table journal proc)

-- ---- what a processor reads

-- what an act reads at a processor
abbrev pub read_by : Proc → Act → ActAnswer → List Delivered
read_by proc (Post poster desc packet) answer = []
read_by proc (Read reader) Accepted = []
read_by proc (Read reader) PostFull = []
read_by proc (Read reader) (Got d) = if same_proc reader proc then d ∷ [] else []
read_by proc (Read reader) Nothing = []

-- what the acts of a cycle read there, in order
abbrev pub read_among : Proc → List Act → List ActAnswer → List Delivered
read_among proc [] answers = []
read_among proc (act ∷ acts) [] = []
read_among proc (act ∷ acts) (answer ∷ answers) = read_by proc act answer ++ read_among proc acts answers

-- what a processor reads in the cycles of a journal from a state on
abbrev pub read_from : State → Journal → Proc → List Delivered
read_from s [] proc = []
read_from s (input ∷ journal) proc = read_among proc input.acts (step s input).shown.answers ++ read_from (step s input).state journal proc

-- the processors whose queues an update empties, if it is applied
abbrev pub cleared_by : Applied → List Proc
cleared_by (applied_variant.Done ports) = ports.items
cleared_by (applied_variant.Refused error) = []
cleared_by applied_variant.Absent = []

abbrev pub cleared_with : TableValue → Option Update → List Proc
cleared_with table None = []
cleared_with table (Some update) = cleared_by (applied table update)

-- whether the update of a cycle empties a processor's queues
abbrev pub is_emptied : Proc → Shown → Bool
is_emptied proc shown = list_any (λ other. same_proc other proc) (cleared_with shown.table (update_in (update_packet shown.table shown.decision shown.packets)))

-- In these cycles from a state on no rejoin and no update empties a processor's queues.
pub record IsNeverEmptied (s : State) (journal : Journal) (proc : Proc) : Type 0 where
  pub rejoins : AllByRecursion (λ input. is_this input.rejoined proc.ne ≡ false) journal
  pub updates : AllByRecursion (λ shown. is_emptied proc shown ≡ false) (history_from s journal)

-- A processor reads in order: what waits at it, and then what it is handed, is what it reads, and then what still waits in the
-- end, unless its queues are emptied.
abbrev pub ReadsInOrder : Type 0
ReadsInOrder = (s : State) (journal : Journal) (proc : Proc)
    → IsSound s → AllByRecursion (IsInput s.table.n) journal → proc.ne < s.table.n → proc.port < 8 → IsNeverEmptied s journal proc
    → (queues_of s.queues proc).input ++ handed_from s journal proc ≡ read_from s journal proc ++ (queues_of (run_from s journal).queues proc).input

-- ---- the log in order

-- A run hands its members the log in order.
pub record HandsLogInOrder (table : TableValue) (journal : Journal) : Type 0 where
  -- What a processor is handed is the log: of each entry that is delivered to it, the packet at its element, but for overruns.
  pub log : (proc : Proc) → handed_of table journal proc ≡ filter_map (due_of table journal proc) (log_of table journal)
  -- What two processors are handed is equal, but for cycles in which not both are fault-free live members of the destination,
  -- the exchange is split, or one of them overran.
  pub alike : (one other : Proc) → filter (is_shared table journal one other) (handed_of table journal one) ≡ filter (is_shared table journal one other) (handed_of table journal other)
  -- While both are fault-free live members of a group, no exchange to it is split and neither overruns, it is equal.
  pub equal : (vid from upto : ℕ) (one other : Proc) → AreFellows table journal vid from upto one other
      → handed_between table journal from upto one ≡ handed_between table journal from upto other
  -- What waits at a processor is always the end of what it was handed.
  pub waits : (proc : Proc) (k : ℕ) → k ≤ length journal
      → (gone : List Delivered) × (handed_of table (take k journal) proc ≡ gone ++ (queues_of (state_at table journal k).queues proc).input)
  -- What it reads from a cycle on is, in order, what waits there and what it is handed from then on, while nothing empties its queues.
  pub reads : (proc : Proc) (k : ℕ) → proc.ne < table.n → proc.port < 8 → IsNeverEmptied (state_at table journal k) (drop k journal) proc
      → (queues_of (state_at table journal k).queues proc).input ++ handed_from (state_at table journal k) (drop k journal) proc
      ≡ read_from (state_at table journal k) (drop k journal) proc ++ (queues_of (run table journal).queues proc).input

-- So does each run from a valid table.
abbrev pub EachRunHandsLogInOrder : Type 0
EachRunHandsLogInOrder = (table : TableValue) (journal : Journal) → IsValid table → AllByRecursion (IsInput table.n) journal → HandsLogInOrder table journal
