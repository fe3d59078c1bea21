-- The log in order at work: what two members of a group are handed and read, where one overruns, and where an entry is split.
use Rattle.std.proofs.Common.{◌≡◌, ℕ, zero, suc, ◌<◌, List, [], ◌∷◌, ◌++◌, replicate, refl, arith, sym, ◌∙◌, subst}
use Rattle.std.specs.Prelude.{Some, None, true}
use Rattle.std.specs.List.{AllByRecursion, filter, filter_map}
use Rattle.ftpp_base.proofs.Among.{all-get_or, all-replicate}
use Rattle.packet_format.specs.declared.Delivered.{Delivered}
use Rattle.packet_format.specs.declared.acts.Act.{Act}
use Rattle.packet_format.specs.declared.acts.Act.TheVariants.{Read}
use Rattle.bit_vote.specs.Vote.{IsCell}
use Rattle.local_pattern.specs.Pattern.{column_bytes}
use Rattle.config_table.specs.declared.decisions.Decision.TheVariants.{Idle, Exchange}
use Rattle.config_table.specs.declared.decisions.Kind.TheVariants.{Voted}
use Rattle.config_table.specs.declared.decisions.Service.{Service}
use Rattle.config_table.specs.Table.{TableValue, table_error}
use Rattle.element_core.specs.Cycle.{Input, start}
use Rattle.element_core.specs.Run.{Journal, shown_at, log_of}
use Rattle.element_core.specs.Alone.{IsPosted, IsAct, IsInput}
use Rattle.element_core.proofs.WorkedParts.{worked, four_elements, with_third, third_group, proc, packet, to_three, posts_at, with_entry, asks}
use Rattle.whole_run.specs.LogOrder.{handed_of, handed_between, due_of, is_shared, is_whole, overran, IsServedMember, AreFellows, read_from}
use Rattle.whole_run.proofs.Fellows.{fellows-equal}
use Rattle.whole_run.proofs.WorkedSkew.{low_at}

-- ---- a member that does not read

-- group 3 takes one packet at a time, and waits one cycle for a member that says full
abbrev small : TableValue
small = with_third (record third_group { tr = 1; ins = 1 })

small_valid : table_error small ≡ None
unfolding worked
small_valid = refl

-- a cycle without a fault
abbrev fine : List Act → Input
fine acts = record { rejoined = None; faulty = None; acts = acts; patterns = replicate 4 None; packets = replicate 4 None }

-- three members post alike twice; of the receivers the first two read between
abbrev one_reads_late : Journal
one_reads_late =
    fine (posts_at (0 ∷ 1 ∷ 2 ∷ []) 1 to_three (0x41 ∷ []))
    ∷ fine (Read (proc 1 2) ∷ Read (proc 2 2) ∷ posts_at (0 ∷ 1 ∷ 2 ∷ []) 1 to_three (0x42 ∷ []))
    ∷ fine []
    ∷ []

-- a packet that group 2 sends to group 3
abbrev delivered : ℕ → ℕ → Delivered
delivered cycle byte = record { cycle = cycle; from = 2; class = 1; dest = 3; packet = packet (byte ∷ []) }

-- the first two are handed both packets
handed_first : handed_of small one_reads_late (proc 1 2) ≡ delivered 0 0x41 ∷ delivered 2 0x42 ∷ []
unfolding worked
handed_first = refl

handed_second : handed_of small one_reads_late (proc 2 2) ≡ delivered 0 0x41 ∷ delivered 2 0x42 ∷ []
unfolding worked
handed_second = refl

-- the third one overruns in cycle 2
handed_third : handed_of small one_reads_late (proc 3 2) ≡ delivered 0 0x41 ∷ []
unfolding worked
handed_third = refl

third_overran : overran (shown_at small one_reads_late 2) (proc 3 2) ≡ true
unfolding worked
third_overran = refl

-- what the log gives it
third_due : filter_map (due_of small one_reads_late (proc 3 2)) (log_of small one_reads_late) ≡ delivered 0 0x41 ∷ []
unfolding worked
third_due = refl

-- what the first and the third share
first_shared : filter (is_shared small one_reads_late (proc 1 2) (proc 3 2)) (handed_of small one_reads_late (proc 1 2)) ≡ delivered 0 0x41 ∷ []
unfolding worked
first_shared = refl

-- what the first reads, and what the third does
first_read : read_from (start small) one_reads_late (proc 1 2) ≡ delivered 0 0x41 ∷ []
unfolding worked
first_read = refl

third_read : read_from (start small) one_reads_late (proc 3 2) ≡ []
unfolding worked
third_read = refl

-- ---- the first two are fellows

-- each of them is a fault-free live member that does not overrun
first_served : (k : ℕ) → k < 3 → IsServedMember (shown_at small one_reads_late k) 3 (proc 1 2)
unfolding worked
first_served zero l = record { live = refl; fault_free = refl; no_overrun = refl }
first_served (suc zero) l = record { live = refl; fault_free = refl; no_overrun = refl }
first_served (suc (suc zero)) l = record { live = refl; fault_free = refl; no_overrun = refl }
first_served (suc (suc (suc k))) l = let never : ⊥ = omega arith in absurd never

second_served : (k : ℕ) → k < 3 → IsServedMember (shown_at small one_reads_late k) 3 (proc 2 2)
unfolding worked
second_served zero l = record { live = refl; fault_free = refl; no_overrun = refl }
second_served (suc zero) l = record { live = refl; fault_free = refl; no_overrun = refl }
second_served (suc (suc zero)) l = record { live = refl; fault_free = refl; no_overrun = refl }
second_served (suc (suc (suc k))) l = let never : ⊥ = omega arith in absurd never

-- what is served, after some cycles of waiting
abbrev served : ℕ → Service
served waited = record { vid = 2; desc = to_three; kind = Voted; admitted = record { bits = 7 }; waited = waited }

decided_first : (shown_at small one_reads_late 0).decision ≡ Exchange (served 0)
unfolding worked
decided_first = refl

decided_second : (shown_at small one_reads_late 1).decision ≡ Idle
unfolding worked
decided_second = refl

decided_third : (shown_at small one_reads_late 2).decision ≡ Exchange (served 1)
unfolding worked
decided_third = refl

whole_first : is_whole (shown_at small one_reads_late 0) (served 0) ≡ true
unfolding worked
whole_first = refl

whole_third : is_whole (shown_at small one_reads_late 2) (served 1) ≡ true
unfolding worked
whole_third = refl

-- no exchange is split
all_whole : (k : ℕ) (service : Service) → k < 3 → (shown_at small one_reads_late k).decision ≡ Exchange service → is_whole (shown_at small one_reads_late k) service ≡ true
all_whole zero service l e =
    let both : Exchange (served 0) ≡ Exchange service = sym decided_first ∙ e in
    let same : served 0 ≡ service = cc in
    subst (λ x. is_whole (shown_at small one_reads_late 0) x ≡ true) same whole_first
all_whole (suc zero) service l e = let none : Idle ≡ Exchange service = sym decided_second ∙ e in cc
all_whole (suc (suc zero)) service l e =
    let both : Exchange (served 1) ≡ Exchange service = sym decided_third ∙ e in
    let same : served 1 ≡ service = cc in
    subst (λ x. is_whole (shown_at small one_reads_late 2) x ≡ true) same whole_third
all_whole (suc (suc (suc k))) service l e = let never : ⊥ = omega arith in absurd never

-- so they are
fellows : AreFellows small one_reads_late 3 0 3 (proc 1 2) (proc 2 2)
fellows = record {
  first = λ k l m. first_served k m;
  second = λ k l m. second_served k m;
  whole = λ k service l m e to. all_whole k service m e;
}

-- packets of 64 bytes
whole_41 : IsPosted (to_three, packet (0x41 ∷ []))
whole_41 = record { dest = omega arith; class = omega arith; source = omega arith; row = record { long = refl; bytes = low_at (packet (0x41 ∷ [])).bytes refl } }

whole_42 : IsPosted (to_three, packet (0x42 ∷ []))
whole_42 = record { dest = omega arith; class = omega arith; source = omega arith; row = record { long = refl; bytes = low_at (packet (0x42 ∷ [])).bytes refl } }

-- such a cycle is in shape
fine_input : (acts : List Act) → AllByRecursion IsAct acts → IsInput 4 (fine acts)
fine_input acts h = record {
  faulty = λ ne e. cc;
  acts = h;
  patterns = refl;
  packets = refl;
  pattern_cells = λ s. all-get_or (IsCell 32) (replicate 4 None) s None (all-replicate (IsCell 32) 4 None tt) tt;
  packet_cells = λ s. all-get_or (IsCell 64) (replicate 4 None) s None (all-replicate (IsCell 64) 4 None tt) tt;
}

-- so the journal is
in_shape : AllByRecursion (IsInput 4) one_reads_late
in_shape = (
  fine_input (posts_at (0 ∷ 1 ∷ 2 ∷ []) 1 to_three (0x41 ∷ [])) (whole_41, (whole_41, (whole_41, tt))),
  (fine_input (Read (proc 1 2) ∷ Read (proc 2 2) ∷ posts_at (0 ∷ 1 ∷ 2 ∷ []) 1 to_three (0x42 ∷ [])) (tt, (tt, (whole_42, (whole_42, (whole_42, tt))))), (fine_input [] tt, tt)),
)

-- and they are handed the same
pub fellows_handed : handed_between small one_reads_late 0 3 (proc 1 2) ≡ handed_between small one_reads_late 0 3 (proc 2 2)
fellows_handed = fellows-equal small one_reads_late 3 0 3 (proc 1 2) (proc 2 2) small_valid in_shape fellows

-- ---- a split entry

-- element 2 is faulty, and sends its group's third packet to element 1 and to element 3 differently
abbrev splitting : Journal
splitting =
    record {
      rejoined = None;
      faulty = Some 2;
      acts = posts_at (0 ∷ []) 1 to_three (0x41 ∷ []) ++ posts_at (1 ∷ []) 1 to_three (0x42 ∷ []);
      patterns = replicate 4 (Some (column_bytes (with_entry 1 (asks to_three))));
      packets = None ∷ Some (packet (0x41 ∷ [])).bytes ∷ None ∷ Some (packet (0x42 ∷ [])).bytes ∷ [];
    }
    ∷ []

-- so two fault-free members are handed different packets
split_first : handed_of four_elements splitting (proc 1 2) ≡ delivered 0 0x41 ∷ []
unfolding worked
split_first = refl

split_third : handed_of four_elements splitting (proc 3 2) ≡ delivered 0 0x42 ∷ []
unfolding worked
split_third = refl

-- which are not shared
split_apart : filter (is_shared four_elements splitting (proc 1 2) (proc 3 2)) (handed_of four_elements splitting (proc 1 2)) ≡ []
unfolding worked
split_apart = refl
