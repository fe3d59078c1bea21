-- The first rounds of a cycle have a cell of the right width for each element.
use Rattle.std.proofs.Common.{◌≡◌, ℕ, ◌+◌, ◌<◌, ◌≤◌, Bool, true, false, cond, List, [], ◌∷◌, length, refl, arith, map, sym, ◌⊎◌, inl, inr, subst}
use Rattle.std.specs.Prelude.{Option, Some, None, is_some, option_map, unwrap_or}
use Rattle.std.specs.List.{AllByRecursion}
use Rattle.std.proofs.lemmas.Bool.{cases_lt}
use Rattle.std.proofs.lemmas.List.{get_or_past}
use Rattle.std.proofs.lemmas.List.FromFn.{length-map-range_with_len}
use Rattle.ftpp_base.specs.Bits.{eight}
use Rattle.ftpp_base.specs.Lists.{each_below, cell_at}
use Rattle.ftpp_base.specs.declared.element.Proc.{Proc}
use Rattle.packet_format.specs.declared.Descriptor.{Descriptor}
use Rattle.packet_format.specs.Packets.{no_descriptor}
use Rattle.bit_vote.specs.Vote.{Cell, IsRow, IsCell}
use Rattle.local_pattern.specs.declared.Entry.{Entry}
use Rattle.local_pattern.specs.Pattern.{entry_bytes, column_bytes}
use Rattle.config_table.specs.declared.decisions.Decision.{Decision}
use Rattle.config_table.specs.declared.decisions.Decision.TheVariants.{Idle, Discard, Exchange}
use Rattle.config_table.specs.Table.{TableValue, in_limit}
use Rattle.two_round.proofs.Agreement.{at_place}
use Rattle.two_round.proofs.Held.{IsRound}
use Rattle.processor_buffers.specs.Queues.{Queues, Posted, no_queues, carries, first, head_of, has_in_room}
use Rattle.data_exchange.specs.Entries.{contributes, senders, packet_of_head, member_at}
use Rattle.element_core.specs.Processors.{AllQueues, ports_of, port_queues, head_at, shown_entry, column_of}
use Rattle.element_core.specs.Cycle.{Input, pattern_sent, pattern_round, row_sent, packet_round}
use Rattle.element_core.specs.Alone.{IsPosted, AreQueues, ArePorts, AreAllQueues, IsInput}
use Rattle.ftpp_base.proofs.Among.{all-append, all-get_or, either}

-- ---- bytes

-- a byte
abbrev IsByte : ℕ → Type 0
IsByte b = b < 256

-- the flags are a byte
flag_byte : (a b : Bool) → cond a 1 0 + cond b 2 0 < 256
flag_byte true true = omega arith
flag_byte true false = omega arith
flag_byte false true = omega arith
flag_byte false false = omega arith

-- a byte or zero is a byte
where_shown : (b : Bool) (byte : ℕ) → byte < 256 → cond b byte 0 < 256
where_shown true byte l = l
where_shown false byte l = omega arith

-- An entry whose request is three bytes.
record IsShown (e : Entry) : Type 0 where
  dest : e.desc.dest < 256
  class : e.desc.class < 256
  source : e.desc.source < 256

-- four bytes show an entry
entry_bytes_small : (e : Entry) → IsShown e → AllByRecursion IsByte (entry_bytes e)
entry_bytes_small e is = (
  flag_byte e.not_empty e.not_full,
  (
    where_shown e.not_empty e.desc.dest is.dest,
    (where_shown e.not_empty e.desc.class is.class, (where_shown e.not_empty e.desc.source is.source, tt)),
  ),
)

-- so bytes show a column
column_small : (es : List Entry) → AllByRecursion IsShown es → AllByRecursion IsByte (column_bytes es)
column_small [] a = tt
column_small (e ∷ es) a = all-append IsByte (entry_bytes e) (column_bytes es) (entry_bytes_small e a.0) (column_small es a.1)

-- ---- what a port shows

-- what holds of a head, if there is one
abbrev pub IsHead : Option Posted → Type 0
IsHead None = Unit {0}
IsHead (Some posted) = IsPosted posted

-- the head of whole packets is one
first_posted : (xs : List Posted) → AllByRecursion IsPosted xs → IsHead (first xs)
first_posted [] a = tt
first_posted (x ∷ xs) a = a.0

-- what is shown of a head
head_shown : (limit : ℕ) (q : Queues) (head : Option Posted) → IsHead head
    → IsShown (record { not_empty = is_some head; not_full = has_in_room limit q; desc = unwrap_or (option_map (λ posted. posted.0) head) no_descriptor })
head_shown limit q None is = record { dest = omega arith; class = omega arith; source = omega arith }
head_shown limit q (Some posted) is = record { dest = is.dest; class = is.class; source = is.source }

-- what a port shows
entry_small : (limit : ℕ) (q : Queues) → AreQueues q → IsShown (shown_entry limit q)
entry_small limit q a = head_shown limit q (head_of q) (first_posted q.output a)

-- what all ports show
ports_small : (table : TableValue) (ne : ℕ) (ports : List Queues) (numbers : List ℕ) → ArePorts ports
    → AllByRecursion IsShown (map (λ port. shown_entry (in_limit table (record { ne = ne; port = port })) (port_queues ports port)) numbers)
ports_small table ne ports [] a = tt
ports_small table ne ports (port ∷ more) a =
    (entry_small (in_limit table (record { ne = ne; port = port })) (port_queues ports port) (all-get_or AreQueues ports port no_queues a tt), ports_small table ne ports more a)

-- the 32 bytes of a column
pub column_row : (table : TableValue) (ne : ℕ) (ports : List Queues) → ArePorts ports → IsRow 32 (column_bytes (column_of table ne ports))
column_row table ne ports a = record {
  long = refl;
  bytes = λ k. all-get_or IsByte (column_bytes (column_of table ne ports)) k 0 (column_small (column_of table ne ports) (ports_small table ne ports eight a)) (omega arith);
}

-- ---- heads and rows

-- the ports of an element among all
pub ports_sound : (all : AllQueues) (ne : ℕ) → AreAllQueues all → ArePorts (ports_of all ne)
ports_sound all ne a = all-get_or ArePorts all ne [] a tt

-- a head is a whole packet
pub head_posted : (all : AllQueues) (proc : Proc) → AreAllQueues all → IsHead (head_at all proc)
head_posted all proc a =
    let q = port_queues (ports_of all proc.ne) proc.port in
    first_posted q.output (all-get_or AreQueues (ports_of all proc.ne) proc.port no_queues (ports_sound all proc.ne a) tt)

-- the packet of a head that carries the request is a cell
head_cell : (desc : Descriptor) (head : Option Posted) → IsHead head → IsCell 64 (packet_of_head desc head)
head_cell desc None is = tt
head_cell desc (Some posted) is = either (IsCell 64) (carries (Some posted) desc) (Some posted.1.bytes) None is.row tt

-- so is that of the member that is found
found_cell : (f : Proc → Cell) (found : Option Proc) → ((proc : Proc) → IsCell 64 (f proc)) → IsCell 64 (unwrap_or (option_map f found) None)
found_cell f None is = tt
found_cell f (Some proc) is = is proc

-- and what an element sends in B1
row_cell : (table : TableValue) (all : AllQueues) (decision : Decision) (ne : ℕ) → AreAllQueues all → IsCell 64 (row_sent table all decision ne)
row_cell table all Idle ne a = tt
row_cell table all (Discard vid desc number admitted waited) ne a = tt
row_cell table all (Exchange service) ne a =
    let f = λ (proc : Proc). packet_of_head service.desc (head_at all proc) in
    let found = member_at (senders table service.vid) ne in
    either (IsCell 64) (contributes service ne) (unwrap_or (option_map f found) None) None
    (found_cell f found (λ proc. head_cell service.desc (head_at all proc) (head_posted all proc a))) tt

-- ---- rounds

-- an entry of a list of cells, or none past its end
each_cell : (wide n : ℕ) (f : ℕ → Cell) (s : ℕ) → ((k : ℕ) → IsCell wide (f k)) → (s < n) ⊎ (n ≤ s) → IsCell wide (cell_at (each_below n f) s)
each_cell wide n f s is (inl l) = subst (IsCell wide) (sym (at_place n f s None l)) (is s)
each_cell wide n f s is (inr l) =
    let long : length (each_below n f) ≡ n = length-map-range_with_len f 0 n in
    subst (IsCell wide) (sym (get_or_past (each_below n f) s None (omega arith))) tt

-- the first round of patterns
pub pattern_shape : (table : TableValue) (all : AllQueues) (input : Input) → AreAllQueues all → IsInput table.n input → IsRound 32 table.n (pattern_round table all input)
pattern_shape table all input a is = record {
  faulty = is.faulty;
  own_count = length-map-range_with_len (pattern_sent table all) 0 table.n;
  heard_count = is.patterns;
  own = λ s. each_cell 32 table.n (pattern_sent table all) s (λ k. column_row table k (ports_of all k) (ports_sound all k a)) (cases_lt s table.n);
}

-- the first round of packets
pub packet_shape : (table : TableValue) (all : AllQueues) (decision : Decision) (input : Input) → AreAllQueues all → IsInput table.n input → IsRound 64 table.n (packet_round table all decision input)
packet_shape table all decision input a is = record {
  faulty = is.faulty;
  own_count = length-map-range_with_len (row_sent table all decision) 0 table.n;
  heard_count = is.packets;
  own = λ s. each_cell 64 table.n (row_sent table all decision) s (λ k. row_cell table all decision k a) (cases_lt s table.n);
}
