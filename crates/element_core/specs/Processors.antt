-- The queues of all processors, by element and then by port, and what changes them.
use Rattle.std.specs.Prelude.{ℕ, List, [], ◌∷◌, replicate, slice_index_or, Option, Some, None, if◌then◌else◌}
use Rattle.std.specs.List.{fold}
use Rattle.ftpp_base.specs.Lists.{change_at}
use Rattle.ftpp_base.specs.declared.element.Proc.{Proc}
use Rattle.packet_format.specs.declared.Descriptor.{Descriptor}
use Rattle.packet_format.specs.declared.acts.Act.{Act}
use Rattle.packet_format.specs.declared.acts.Act.TheVariants.{Post, Read}
use Rattle.packet_format.specs.declared.acts.ActAnswer.{ActAnswer}
use Rattle.packet_format.specs.declared.acts.ActAnswer.TheVariants.{Posted as Accepted, PostFull}
use Rattle.local_pattern.specs.declared.Entry.{Entry}
use Rattle.config_table.specs.Table.{TableValue, out_limit, in_limit}
use Rattle.processor_buffers.specs.Queues.{Queues, Posted, no_queues, first, head_of, has_out_room, after_post, after_read, after_pop}
pub use Rattle.element_ports.specs.PortQueues.{empty_ports, port_queues, read_answer, shown_entry, column_of}

-- the queues of each port of each element
abbrev pub AllQueues : Type 0
AllQueues = List (List Queues)

abbrev pub empty_queues : ℕ → AllQueues
empty_queues n = replicate n empty_ports

abbrev pub ports_of : AllQueues → ℕ → List Queues
ports_of all ne = slice_index_or all ne []

-- the queues of one processor
abbrev pub queues_of : AllQueues → Proc → Queues
queues_of all proc = port_queues (ports_of all proc.ne) proc.port

-- the packet that a processor would send next
abbrev pub head_at : AllQueues → Proc → Option Posted
head_at all proc = head_of (queues_of all proc)

-- the queues with those of one processor changed
abbrev pub with_queues : (Queues → Queues) → AllQueues → Proc → AllQueues
with_queues change all proc = change_at (λ ports. change_at change ports proc.port) all proc.ne

-- the queues with those of one element emptied
abbrev pub emptied_at : AllQueues → Option ℕ → AllQueues
emptied_at all None = all
emptied_at all (Some ne) = change_at (λ ports. empty_ports) all ne

-- the queues with those of some processors emptied
abbrev pub cleared : AllQueues → List Proc → AllQueues
cleared all procs = fold (with_queues (λ q. no_queues)) all procs

-- after one act of a processor
abbrev pub after_act : TableValue → AllQueues → Act → AllQueues
after_act table all (Post proc desc packet) = with_queues (after_post (out_limit table proc) (desc, packet)) all proc
after_act table all (Read proc) = with_queues after_read all proc

-- what one act is answered
abbrev pub answer_to : TableValue → AllQueues → Act → ActAnswer
answer_to table all (Post proc desc packet) = if has_out_room (out_limit table proc) (queues_of all proc) then Accepted else PostFull
answer_to table all (Read proc) = read_answer (first (queues_of all proc).input)

-- after all acts, in order
abbrev pub after_acts : TableValue → AllQueues → List Act → AllQueues
after_acts table all acts = fold (after_act table) all acts

-- the answers to all acts, in order
abbrev pub answers_to : TableValue → AllQueues → List Act → List ActAnswer
answers_to table all [] = []
answers_to table all (act ∷ acts) = answer_to table all act ∷ answers_to table (after_act table all act) acts

-- what a processor's port shows
abbrev pub entry_shown : TableValue → AllQueues → Proc → Entry
entry_shown table all proc = shown_entry (in_limit table proc) (queues_of all proc)

abbrev pub column_shown : TableValue → AllQueues → ℕ → List Entry
column_shown table all ne = column_of table ne (ports_of all ne)

-- after an exchange or a discard of a request: the heads of the admitted members that carry it are gone
abbrev pub after_pops : Descriptor → AllQueues → List Proc → AllQueues
after_pops desc all procs = fold (with_queues (after_pop desc)) all procs
