-- What is assumed of a run where its service and its order are claimed.
use Rattle.std.specs.Prelude.{◌≡◌, ◌≢◌, ℕ, ◌+◌, ◌<◌, ◌≤◌, Bool, true, List, [], ◌∷◌, ◌++◌, length, slice_get, Option, Some, None, All, Contains, MatchOption, IsSomeAnd, if◌then◌else◌}
use Rattle.ftpp_base.specs.declared.element.Proc.{Proc}
use Rattle.packet_format.specs.declared.Descriptor.{Descriptor}
use Rattle.packet_format.specs.declared.acts.Act.{Act}
use Rattle.packet_format.specs.declared.acts.Act.TheVariants.{Post, Read}
use Rattle.packet_format.specs.declared.acts.ActAnswer.{ActAnswer}
use Rattle.packet_format.specs.declared.acts.ActAnswer.TheVariants.{Posted as Accepted, PostFull, Got, Nothing}
use Rattle.config_table.specs.declared.groups.Group.{Group}
use Rattle.config_table.specs.declared.decisions.Service.{Service}
use Rattle.config_table.specs.Groups.{same_proc}
use Rattle.config_table.specs.Table.{TableValue, group_named}
use Rattle.processor_buffers.specs.Queues.{Posted}
use Rattle.data_exchange.specs.Entries.{fault_free_members, fault_free_majority, held_alike, is_split}
use Rattle.element_core.specs.Processors.{head_at, entry_shown}
use Rattle.element_core.specs.Cycle.{State, Shown, start, step}
use Rattle.element_core.specs.Run.{Journal, history, shown_at, input_at}

-- the head that a group's request is held alike with in a cycle
abbrev pub held_alike_in : Shown → Group → Option Posted
held_alike_in shown g = held_alike shown.patterns.faulty (head_at shown.queues) g

-- whether the exchange of a cycle is split
abbrev pub is_split_in : Shown → Group → Service → Bool
is_split_in shown g service = is_split shown.packets.faulty (head_at shown.queues) g service

-- All fault-free live members of a group say not full in a cycle, and are more than half of the live ones.
pub record HasRoom (shown : Shown) (g : Group) : Type 0 where
  pub room : All (λ proc. (entry_shown shown.table shown.queues proc).not_full ≡ true) (fault_free_members shown.patterns.faulty g)
  pub majority : fault_free_majority shown.patterns.faulty g ≡ true

-- From one cycle to another no update is applied before the last, and no rejoin is taken after the first.
pub record StandsStill (table : TableValue) (journal : Journal) (from upto : ℕ) : Type 0 where
  pub no_update : (k : ℕ) → from ≤ k → k < upto → (shown_at table journal k).changed ≡ None
  pub no_rejoin : (k : ℕ) → from < k → k ≤ upto → (input_at journal k).rejoined ≡ None

-- From one cycle to another a group of the table keeps space.
pub record KeepsSpace (table : TableValue) (journal : Journal) (dest from upto : ℕ) : Type 0 where
  pub stands_still : StandsStill table journal from upto
  pub room : (k : ℕ) → from ≤ k → k ≤ upto → MatchOption (group_named (shown_at table journal k).table dest) ⊥ (HasRoom (shown_at table journal k))

-- what a request's receiver keeps: space, or for class 3 only the table
abbrev pub KeepsSpaceFor : TableValue → Journal → Descriptor → ℕ → ℕ → Type 0
KeepsSpaceFor table journal desc from upto = (StandsStill table journal from upto) × (desc.class ≢ 3 → KeepsSpace table journal desc.dest from upto)

-- ---- groups whose members post alike within their timeout

-- the posts of a processor among the acts of a cycle that were accepted, with the cycle
abbrev pub accepted_among : ℕ → Proc → List Act → List ActAnswer → List (ℕ × Posted)
accepted_among cycle proc [] answers = []
accepted_among cycle proc (act ∷ acts) [] = []
accepted_among cycle proc (Post poster desc packet ∷ acts) (Accepted ∷ answers) =
    (if same_proc poster proc then (cycle, (desc, packet)) ∷ [] else []) ++ accepted_among cycle proc acts answers
accepted_among cycle proc (Post poster desc packet ∷ acts) (PostFull ∷ answers) = accepted_among cycle proc acts answers
accepted_among cycle proc (Post poster desc packet ∷ acts) (Got d ∷ answers) = accepted_among cycle proc acts answers
accepted_among cycle proc (Post poster desc packet ∷ acts) (Nothing ∷ answers) = accepted_among cycle proc acts answers
accepted_among cycle proc (Read reader ∷ acts) (answer ∷ answers) = accepted_among cycle proc acts answers

-- the accepted posts of a processor in a run, in order
abbrev pub accepted_from : State → Journal → Proc → List (ℕ × Posted)
accepted_from s [] proc = []
accepted_from s (input ∷ journal) proc =
    accepted_among s.cycle proc input.acts (step s input).shown.answers ++ accepted_from (step s input).state journal proc

-- an accepted post without its cycle
abbrev pub posted_of : ℕ × Posted → Posted
posted_of post = post.1

-- Two members post alike: their k-th accepted posts are equal and at most some cycles apart, and neither lags behind more than that.
pub record PostAlike (cycles apart : ℕ) (one other : List (ℕ × Posted)) : Type 0 where
  pub equal : (k : ℕ) (a b : ℕ × Posted) → slice_get one k ≡ Some a → slice_get other k ≡ Some b → (a.1 ≡ b.1) × (a.0 ≤ b.0 + apart) × (b.0 ≤ a.0 + apart)
  pub follows : (k : ℕ) (a : ℕ × Posted) → slice_get one k ≡ Some a → a.0 + apart < cycles → IsSomeAnd (slice_get other k) (λ b. b.0 ≤ a.0 + apart)

-- The members of a group post alike, within its timeout, in a run without a rejoin in which no update names it.
pub record IsSkewAlike (table : TableValue) (journal : Journal) (faulty : Option ℕ) (g : Group) : Type 0 where
  pub listed : group_named table g.vid ≡ Some g
  pub no_rejoin : All (λ input. input.rejoined ≡ None) journal
  pub not_named : All (λ shown. shown.changed ≢ Some g.vid) (history table journal)
  pub majority : fault_free_majority faulty g ≡ true
  pub alike : (a b : Proc) → Contains (fault_free_members faulty g) a → Contains (fault_free_members faulty g) b →
      PostAlike (length journal) g.ts (accepted_from (start table) journal a) (accepted_from (start table) journal b)
