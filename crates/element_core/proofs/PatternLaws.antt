-- What is agreed of a fault-free element's ports is what they show.
use Rattle.std.proofs.Common.{◌≡◌, ℕ, zero, suc, ◌<◌, false, cond, List, [], refl, ap, ◌∙◌, arith, get_or}
use Rattle.std.specs.Prelude.{Option, Some, None, is_some, option_map, unwrap_or}
use Rattle.std.proofs.lemmas.List.FromFn.{get_or-map-range_with_len}
use Rattle.ftpp_base.specs.Lists.{cell_at, is_this}
use Rattle.ftpp_base.specs.declared.element.Proc.{Proc}
use Rattle.packet_format.specs.Packets.{no_descriptor}
use Rattle.bit_vote.specs.Agreed.{agreed, heard_by_others}
use Rattle.local_pattern.specs.declared.Entry.{Entry}
use Rattle.local_pattern.specs.Pattern.{entry_of, quiet, read_column, IsPlain}
use Rattle.local_pattern.proofs.RoundTrip.{read_column-column_bytes}
use Rattle.config_table.specs.Table.{TableValue}
use Rattle.processor_buffers.specs.Queues.{Posted}
use Rattle.element_core.specs.Processors.{AllQueues, head_at, entry_shown, column_shown}
use Rattle.element_core.specs.Cycle.{Input, pattern_round, pattern_sent, agreed_column, agreed_pattern}

plain_by : (head : Option Posted) → is_some head ≡ false → unwrap_or (option_map (λ posted. posted.0) head) no_descriptor ≡ no_descriptor
plain_by None e = refl
plain_by (Some posted) e = cc

-- a port with an empty output shows no request
pub entry_shown-plain : (table : TableValue) (queues : AllQueues) (proc : Proc) → IsPlain (entry_shown table queues proc)
entry_shown-plain table queues proc = plain_by (head_at queues proc)

-- what a fault-free element shows is agreed
pub agreed_column-own : (table : TableValue) (queues : AllQueues) (input : Input) (ne : ℕ) → ne < table.n → is_this input.faulty ne ≡ false
    → agreed_column (pattern_round table queues input) ne ≡ column_shown table queues ne
unfolding agreed
agreed_column-own table queues input ne l good =
    let round = pattern_round table queues input in
    ap read_column (ap (λ b. cond b (heard_by_others round ne) (cell_at round.own ne)) good
    ∙ get_or-map-range_with_len (pattern_sent table queues) 0 table.n ne ne None l (omega arith))
    ∙ read_column-column_bytes _ _ _ _ _ _ _ _ (
      entry_shown-plain table queues _,
      (
        entry_shown-plain table queues _,
        (
          entry_shown-plain table queues _,
          (
            entry_shown-plain table queues _,
            (entry_shown-plain table queues _, (entry_shown-plain table queues _, (entry_shown-plain table queues _, (entry_shown-plain table queues _, tt)))),
          ),
        ),
      ),
    )

-- the agreed pattern has it in the element's place
pub agreed_pattern-own : (table : TableValue) (queues : AllQueues) (input : Input) (ne : ℕ) → ne < table.n → is_this input.faulty ne ≡ false
    → get_or (agreed_pattern table (pattern_round table queues input)) ne [] ≡ column_shown table queues ne
agreed_pattern-own table queues input ne l good =
    get_or-map-range_with_len (agreed_column (pattern_round table queues input)) 0 table.n ne ne [] l (omega arith)
    ∙ agreed_column-own table queues input ne l good

-- the entry of a port in the column of its element
column_at : (table : TableValue) (all : AllQueues) (ne port : ℕ) → port < 8 → get_or (column_shown table all ne) port quiet ≡ entry_shown table all (record { ne = ne; port = port })
column_at table all ne zero l = refl
column_at table all ne (suc zero) l = refl
column_at table all ne (suc (suc zero)) l = refl
column_at table all ne (suc (suc (suc zero))) l = refl
column_at table all ne (suc (suc (suc (suc zero)))) l = refl
column_at table all ne (suc (suc (suc (suc (suc zero))))) l = refl
column_at table all ne (suc (suc (suc (suc (suc (suc zero)))))) l = refl
column_at table all ne (suc (suc (suc (suc (suc (suc (suc zero))))))) l = refl
column_at table all ne (suc (suc (suc (suc (suc (suc (suc (suc port)))))))) l = let never : ⊥ = omega arith in absurd never

-- the agreed entry of a processor at a fault-free element is what its port shows
pub entry-own : (table : TableValue) (all : AllQueues) (input : Input) (p : Proc) → p.ne < table.n → p.port < 8 → is_this input.faulty p.ne ≡ false
    → entry_of (agreed_pattern table (pattern_round table all input)) p ≡ entry_shown table all p
entry-own table all input p l w good =
    ap (λ (column : List Entry). get_or column p.port quiet) (agreed_pattern-own table all input p.ne l good) ∙ column_at table all p.ne p.port w
