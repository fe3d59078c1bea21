-- The service bound at work: its premises hold in a run where a faulty receiver says full for two cycles, and it gives the service.
use Rattle.std.proofs.Common.{◌≡◌, ℕ, suc, zero, ◌+◌, ◌<◌, ◌≤◌, List, [], ◌∷◌, replicate, refl, arith}
use Rattle.std.specs.Prelude.{Some, None, true, MatchOption}
use Rattle.std.proofs.lemmas.List.Elements.{All-from_recursion}
use Rattle.packet_format.specs.declared.acts.Act.{Act}
use Rattle.bit_vote.specs.Vote.{Cell}
use Rattle.local_pattern.specs.Pattern.{quiet, column_bytes}
use Rattle.config_table.specs.Table.{group_named}
use Rattle.processor_buffers.specs.Queues.{Posted}
use Rattle.scoreboard.specs.Choice.{reason}
use Rattle.scoreboard.specs.Service.{Serves, longest_wait}
use Rattle.data_exchange.specs.Entries.{fault_free_members}
use Rattle.element_core.specs.Processors.{entry_shown}
use Rattle.element_core.specs.Cycle.{Input}
use Rattle.element_core.specs.Run.{Journal, input_at, shown_at, IsJournal}
use Rattle.element_core.specs.Premises.{held_alike_in, HasRoom, StandsStill, KeepsSpaceFor}
use Rattle.element_core.proofs.WorkedParts.{worked, four_elements, four_elements_valid, packet_41, to_three, posts_at, roomy, with_entry, second_group as sender, third_group as receiver}
use Rattle.whole_run.proofs.ServiceLaw.{runs_serve_in_time}

-- a cycle in which element 3 is faulty and shows this
abbrev with_faulty : List Act → Cell → Input
with_faulty acts cell = record { rejoined = None; faulty = Some 3; acts = acts; patterns = replicate 4 cell; packets = replicate 4 None }

-- what it shows: room at all its ports, or at all but port 2
abbrev all_room : Cell
all_room = Some (column_bytes roomy)

abbrev full_at_two : Cell
full_at_two = Some (column_bytes (with_entry 2 quiet))

-- three members post alike
abbrev posts : List Act
posts = posts_at (0 ∷ 1 ∷ 2 ∷ []) 1 to_three (0x41 ∷ [])

-- three members post alike, and the receiver at element 3 says full in cycles 0 and 1
abbrev full_receiver : Journal
full_receiver = with_faulty posts full_at_two ∷ with_faulty [] full_at_two ∷ replicate 16 (with_faulty [] all_room)

-- the head that is held alike
abbrev head : Posted
head = (to_three, packet_41)

-- element 3 is the faulty one throughout
faulty_all : (n : ℕ) → IsJournal (Some 3) (replicate n (with_faulty [] all_room))
faulty_all zero = tt
faulty_all (suc n) = (refl, faulty_all n)

-- it is held alike in cycle 0
is_held : held_alike_in (shown_at four_elements full_receiver 0) sender ≡ Some head
unfolding worked
is_held = refl

-- its request is lawful
is_lawful : reason (shown_at four_elements full_receiver 0).table sender head.0 ≡ None
unfolding worked
is_lawful = refl

-- its group is one of the table
is_named_sender : group_named (shown_at four_elements full_receiver 0).table 2 ≡ Some sender
unfolding worked
is_named_sender = refl

-- its longest wait is 18 cycles
waits_long : longest_wait (shown_at four_elements full_receiver 0).table sender head.0 ≡ 18
unfolding worked
waits_long = refl

-- no update comes before it is served
no_update : (k : ℕ) → k < 2 → (shown_at four_elements full_receiver k).changed ≡ None
unfolding worked
no_update zero l = refl
no_update (suc zero) l = refl
no_update (suc (suc k)) l = let never : ⊥ = omega arith in absurd never

-- and no rejoin
no_rejoin : (k : ℕ) → k ≤ 2 → (input_at full_receiver k).rejoined ≡ None
no_rejoin zero l = refl
no_rejoin (suc zero) l = refl
no_rejoin (suc (suc zero)) l = refl
no_rejoin (suc (suc (suc k))) l = let never : ⊥ = omega arith in absurd never

-- the fault-free receivers have room until then
has_room : (k : ℕ) → k ≤ 2 → MatchOption (group_named (shown_at four_elements full_receiver k).table 3) ⊥ (HasRoom (shown_at four_elements full_receiver k))
unfolding worked
has_room zero l = record { room = All-from_recursion (λ p. (entry_shown (shown_at four_elements full_receiver 0).table (shown_at four_elements full_receiver 0).queues p).not_full ≡ true) (fault_free_members (Some 3) receiver) (refl, (refl, tt)); majority = refl }
has_room (suc zero) l = record { room = All-from_recursion (λ p. (entry_shown (shown_at four_elements full_receiver 1).table (shown_at four_elements full_receiver 1).queues p).not_full ≡ true) (fault_free_members (Some 3) receiver) (refl, (refl, tt)); majority = refl }
has_room (suc (suc zero)) l = record { room = All-from_recursion (λ p. (entry_shown (shown_at four_elements full_receiver 2).table (shown_at four_elements full_receiver 2).queues p).not_full ≡ true) (fault_free_members (Some 3) receiver) (refl, (refl, tt)); majority = refl }
has_room (suc (suc (suc k))) l = let never : ⊥ = omega arith in absurd never

-- so the receiver keeps space until then
keeps_until : (u : ℕ) → u ≤ 2 → KeepsSpaceFor four_elements full_receiver to_three 0 u
keeps_until u l =
    let still : StandsStill four_elements full_receiver 0 u = record {
      no_update = λ k a b. no_update k (omega arith);
      no_rejoin = λ k a b. no_rejoin k (omega arith);
    } in
    (still, λ class. record { stands_still = still; room = λ k a b. has_room k (omega arith) })

-- the request is served in cycle 2
served_late : Serves (shown_at four_elements full_receiver 2).decision 2 to_three
unfolding worked
served_late = (refl, refl)

-- and until it is served
keeps : (u : ℕ) → 0 ≤ u → u < 18 → ((k : ℕ) → 0 ≤ k → k < u → Serves (shown_at four_elements full_receiver k).decision 2 to_three → ⊥) → KeepsSpaceFor four_elements full_receiver to_three 0 u
keeps zero l m n = keeps_until 0 (omega arith)
keeps (suc zero) l m n = keeps_until 1 (omega arith)
keeps (suc (suc zero)) l m n = keeps_until 2 (omega arith)
keeps (suc (suc (suc u))) l m n = absurd (n 2 (omega arith) (omega arith) served_late)

-- so all premises of the law hold
service_at_work : (k : ℕ) × (0 ≤ k) × (k < 0 + longest_wait (shown_at four_elements full_receiver 0).table sender head.0) × Serves (shown_at four_elements full_receiver k).decision 2 to_three
service_at_work =
    let long = waits_long in
    runs_serve_in_time four_elements (Some 3) full_receiver four_elements_valid (refl, (refl, faulty_all 16)) 0 sender head (omega arith) is_named_sender is_held is_lawful (omega arith) keeps
