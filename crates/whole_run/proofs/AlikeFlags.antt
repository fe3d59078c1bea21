-- The flags of a group whose fault-free members hold one request, and of a group whose fault-free members have room.
use Rattle.std.proofs.Common.{◌≡◌, ℕ, ◌*◌, ◌<◌, Bool, true, false, List, length, refl, ap, ◌∙◌, arith}
use Rattle.std.specs.Prelude.{Some, not, filter, count_by, All}
use Rattle.std.proofs.lemmas.Bool.{lt-ltb, ltb-true, not-true}
use Rattle.std.proofs.lemmas.List.Sums.{length-filter}
use Rattle.std.proofs.lemmas.List.Elements.{All-contains}
use Rattle.ftpp_base.specs.Bits.{most, is_majority}
use Rattle.ftpp_base.specs.Lists.{is_this, is_in}
use Rattle.ftpp_base.specs.declared.element.Proc.{Proc}
use Rattle.ftpp_base.proofs.SetLaws.{has-set_where}
use Rattle.ftpp_base.proofs.Counts.{count_items}
use Rattle.ftpp_base.proofs.Items.{IsItem, filter_item, map_item, item_contains, contains_item}
use Rattle.config_table.specs.declared.groups.Group.{Group}
use Rattle.config_table.specs.Groups.{live_seats, live_members, elements_of}
use Rattle.config_table.specs.Table.{TableValue, IsValid}
use Rattle.config_table.proofs.ValidTable.{valid-n}
use Rattle.config_table.proofs.Procs.{element_in}
use Rattle.config_table.proofs.Validity.{valid_range}
use Rattle.flag_vote.specs.Flags.{Pattern, holds, has_space, flags_of}
use Rattle.flag_vote.proofs.VotedDescriptor.{voted_descriptor-most}
use Rattle.processor_buffers.specs.Queues.{Posted}
use Rattle.scoreboard.specs.Service.{TakesBut}
use Rattle.data_exchange.specs.Entries.{is_fault_free, fault_free_members, fault_free_majority}
use Rattle.element_core.specs.Processors.{AllQueues, head_at, entry_shown}
use Rattle.element_core.specs.Cycle.{Input, pattern_round, agreed_pattern}
use Rattle.element_core.proofs.PatternLaws.{entry-own}
use Rattle.whole_run.proofs.Heads.{head-holds}
use Rattle.whole_run.proofs.QueueLaws.{live_member}

-- ---- what a fault-free processor shows is agreed

-- the agreed pattern in a cycle
abbrev pub pattern_in : TableValue → AllQueues → Input → Pattern
pattern_in table queues input = agreed_pattern table (pattern_round table queues input)

-- a fault-free processor with a head holds its request
holds_head : (table : TableValue) (queues : AllQueues) (input : Input) (p : Proc) (posted : Posted) → p.ne < table.n → p.port < 8 → is_this input.faulty p.ne ≡ false
    → head_at queues p ≡ Some posted → holds (pattern_in table queues input) posted.0 p ≡ true
holds_head table queues input p posted l m good e = head-holds (pattern_in table queues input) table queues p posted.0 posted (entry-own table queues input p l m good) e refl

-- ---- more than half

-- what holds of each of more than half is what most say
pub most_from : {A : Type 0} (q p : A → Bool) (xs : List A) → is_majority (length (filter q xs)) (length xs) ≡ true → ((x : A) → IsItem xs x → q x ≡ true → p x ≡ true) → most p xs ≡ true
most_from q p xs m h =
    let more = count_items q p xs h in
    let half = ltb-true _ _ m in
    let long = length-filter q xs in
    lt-ltb (length xs) (2 * count_by p xs) (omega arith)

-- ---- a request held alike is the voted one

-- where all fault-free live members of a group have it and are more than half
pub voted_alike : (table : TableValue) (queues : AllQueues) (input : Input) (g : Group) (posted : Posted) → IsValid table → IsItem table.groups g → fault_free_majority input.faulty g ≡ true
    → ((p : Proc) → IsItem (fault_free_members input.faulty g) p → head_at queues p ≡ Some posted)
    → (flags_of (pattern_in table queues input) g).desc ≡ Some posted.0
unfolding flags_of
voted_alike table queues input g posted valid listed most heads =
    voted_descriptor-most (pattern_in table queues input) g posted.0
    (most_from (is_fault_free input.faulty) (holds (pattern_in table queues input) posted.0) (live_members g) most (λ p i good.
    let range = valid_range table valid g listed p (live_member g p i) in
    holds_head table queues input p posted range.0 range.1 (not-true (is_this input.faulty p.ne) good)
    (heads p (filter_item (is_fault_free input.faulty) (live_members g) p i good))))

-- ---- a group whose fault-free members have room has most space, and only the faulty one may say full

-- a live member that sits is live
seat_live : (g : Group) (seat : ℕ × Proc) → IsItem (live_seats g) seat → IsItem (live_members g) seat.1
seat_live g seat i = map_item (λ (s : ℕ × Proc). s.1) (live_seats g) seat i

-- where all fault-free live members of a group have room and are more than half
pub takes_but : (table : TableValue) (queues : AllQueues) (input : Input) (d : Group) → IsValid table → IsItem table.groups d → fault_free_majority input.faulty d ≡ true
    → All (λ p. (entry_shown table queues p).not_full ≡ true) (fault_free_members input.faulty d)
    → TakesBut input.faulty d (flags_of (pattern_in table queues input) d)
unfolding flags_of
takes_but table queues input d valid listed majority room =
    let pattern = pattern_in table queues input in
    let free : (p : Proc) → IsItem (live_members d) p → is_this input.faulty p.ne ≡ false → has_space pattern p ≡ true = λ p i good.
    let range = valid_range table valid d listed p (live_member d p i) in
    let kept = filter_item (is_fault_free input.faulty) (live_members d) p i (ap not good) in
    ap (λ entry. entry.not_full) (entry-own table queues input p range.0 range.1 good)
    ∙ All-contains (λ q. (entry_shown table queues q).not_full ≡ true) (fault_free_members input.faulty d) p room (item_contains (fault_free_members input.faulty d) p kept) in
    record {
      most = most_from (is_fault_free input.faulty) (has_space pattern) (live_members d) majority (λ p i good. free p i (not-true (is_this input.faulty p.ne) good));
      others = λ seat c good.
          let i = seat_live d seat (contains_item (live_seats d) seat c) in
          let range = valid_range table valid d listed seat.1 (live_member d seat.1 i) in
          let size = valid-n table valid in
          let low = range.0 in
          let with_room = filter (has_space pattern) (live_members d) in
          has-set_where (is_in (elements_of with_room)) seat.1.ne (omega arith)
          ∙ element_in with_room seat.1 (filter_item (has_space pattern) (live_members d) seat.1 i (free seat.1 i good));
    }
