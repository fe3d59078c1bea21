-- The entries of an exchange that is not split are equal at all fault-free elements: by its kind, by its members, or by the packet that is held alike.
use Rattle.std.proofs.Common.{◌≡◌, ◌≢◌, ℕ, ◌<◌, Bool, true, false, cond, refl, subst, ap, sym, ◌∙◌, ◌⊎◌, inl, inr}
use Rattle.std.specs.Prelude.{Option, Some, None, is_none, nat_le, ◌==◌, ◌&&◌}
use Rattle.std.proofs.lemmas.Bool.{and_parts, eq-eqb, ne_eqb, lt-leb}
use Rattle.ftpp_base.specs.Lists.{cell_at, is_this}
use Rattle.ftpp_base.specs.Sets.{has}
use Rattle.ftpp_base.specs.declared.element.Proc.{Proc}
use Rattle.ftpp_base.specs.declared.sets.Set8.{Set8}
use Rattle.bit_vote.specs.Vote.{Cell}
use Rattle.bit_vote.specs.Agreed.{FirstRound, agreed, copy_at}
use Rattle.two_round.proofs.Agreement.{at_place}
use Rattle.two_round.proofs.Held.{is_this-true}
use Rattle.config_table.specs.declared.groups.Group.{Group}
use Rattle.config_table.specs.declared.decisions.Kind.{Kind}
use Rattle.config_table.specs.declared.decisions.Kind.TheVariants.{Voted, Source, Every}
use Rattle.config_table.specs.declared.decisions.Decision.TheVariants.{Exchange}
use Rattle.config_table.specs.declared.decisions.Service.{Service}
use Rattle.config_table.specs.Groups.{live_count}
use Rattle.config_table.specs.Table.{TableValue, IsValid, group_named}
use Rattle.scoreboard.specs.Choice.{kind_of, discard_reason}
use Rattle.scoreboard.specs.Service.{takes_of}
use Rattle.packet_format.specs.declared.Descriptor.{Descriptor}
use Rattle.processor_buffers.specs.Queues.{Posted}
use Rattle.data_exchange.specs.Entries.{may_send, members_vote, entry_by, entry_at, packet_in, is_voted, held_alike, includes}
use Rattle.data_exchange.proofs.EntryLaws.{entry-same, members_vote-same}
use Rattle.element_core.specs.Processors.{head_at}
use Rattle.element_core.specs.Cycle.{State, Input, entry_in, step, shown_by}
use Rattle.element_core.specs.Alone.{IsSound, IsInput, before_rounds}
use Rattle.element_core.specs.Claims.{is_source}
use Rattle.whole_run.specs.Laws.{AlwaysEqualEntries, NeverSplit}
use Rattle.element_core.proofs.DecisionLaws.{HasVid, HasVid-named}
use Rattle.element_core.proofs.Chosen.{request_for, takes-chosen}
use Rattle.whole_run.proofs.SkewTaken.{done_exchange}
use Rattle.element_core.proofs.Sound.{before_sound}
use Rattle.element_core.proofs.AloneLaws.{decision_in, pattern_in, packets_in, entries_in}
use Rattle.bit_vote.proofs.Copies.{copy-fine}
use Rattle.whole_run.proofs.HeldAlike.{entry_alike}

-- ---- in a round alone, with no admitted member at the faulty element

-- one that contributes is then fault-free
fine_by : (b : Bool) (faulty : Option ℕ) (admitted : Set8) (ne : ℕ) → is_this faulty ne ≡ b → includes admitted faulty ≡ false → has admitted ne ≡ true → b ≡ false
fine_by false faulty admitted ne e none there = refl
fine_by true faulty admitted ne e none there =
    let same : includes admitted faulty ≡ has admitted ne = ap (includes admitted) (is_this-true faulty ne e) in cc

-- so all receivers have the same copies
pub vote-fine : (table : TableValue) (service : Service) (round : FirstRound) (one other : ℕ) → includes service.admitted round.faulty ≡ false
    → members_vote table service (copy_at round one) ≡ members_vote table service (copy_at round other)
vote-fine table service round one other none =
    members_vote-same table service (copy_at round one) (copy_at round other)
    (λ ne counts.
    let there = and_parts (has service.admitted ne) (may_send service.kind ne) counts in
    let fine : is_this round.faulty ne ≡ false = fine_by (is_this round.faulty ne) round.faulty service.admitted ne refl none there.0 in
    copy-fine round one ne fine ∙ sym (copy-fine round other ne fine))

-- ---- the entries

-- something that is not nothing
there_is : (o : Option Posted) → is_none o ≡ false → (head : Posted) × (o ≡ Some head)
there_is None e = cc
there_is (Some head) e = (head, refl)

-- the entry of a round alone is the vote over the copies
pub entry_voted : (kind : Kind) (table : TableValue) (service : Service) (copies results : ℕ → Cell) → is_voted kind ≡ true → entry_by kind table service copies results ≡ members_vote table service copies
entry_voted Voted table service copies results e = refl
entry_voted (Source s) table service copies results e = cc
entry_voted Every table service copies results e = cc

-- so equal votes are equal entries
by_members : (table : TableValue) (service : Service) (round : FirstRound) (one other : ℕ) → is_voted service.kind ≡ true
    → members_vote table service (copy_at round one) ≡ members_vote table service (copy_at round other)
    → entry_at table service round one ≡ entry_at table service round other
unfolding entry_at
by_members table service round one other voted e =
    entry_voted service.kind table service (copy_at round one) (agreed round) voted ∙ e ∙ sym (entry_voted service.kind table service (copy_at round other) (agreed round) voted)

-- where it is not split, it takes two rounds, or has no admitted member at the faulty element, or is held alike
abbrev Whole : Option ℕ → (Proc → Option Posted) → Group → Service → Type 0
Whole faulty heads g service = (is_voted service.kind ≡ false) ⊎ ((is_voted service.kind ≡ true) × ((includes service.admitted faulty ≡ false) ⊎ (is_none (held_alike faulty heads g) ≡ false)))

-- which of the three tests fails
whole_by : (a b c : Bool) → (a && b && c) ≡ false → (a ≡ false) ⊎ ((a ≡ true) × ((b ≡ false) ⊎ (c ≡ false)))
whole_by false b c e = inl refl
whole_by true false c e = inr (refl, inl refl)
whole_by true true c e = inr (refl, inr e)

-- a round alone is not of one source
voted_many : (kind : Kind) → is_voted kind ≡ true → is_source kind ≡ false
voted_many Voted e = refl
voted_many (Source s) e = cc
voted_many Every e = refl

-- by why it is not split
entries_by : (t : State) (input : Input) (service : Service) (g : Group) (one other : ℕ) → IsSound t → IsInput t.table.n input
    → decision_in t input ≡ Exchange service → group_named t.table service.vid ≡ Some g → Whole input.faulty (head_at t.queues) g service
    → entry_at t.table service (packets_in t input) one ≡ entry_at t.table service (packets_in t input) other
entries_by t input service g one other sound is decided named (inl two) = entry-same t.table service (packets_in t input) one other two
entries_by t input service g one other sound is decided named (inr w) = voted_by w.1 where
  voted_by : (includes service.admitted input.faulty ≡ false) ⊎ (is_none (held_alike input.faulty (head_at t.queues) g) ≡ false)
      → entry_at t.table service (packets_in t input) one ≡ entry_at t.table service (packets_in t input) other
  voted_by (inl none) = by_members t.table service (packets_in t input) one other w.0 (vote-fine t.table service (packets_in t input) one other none)
  voted_by (inr some) =
      let head = there_is (held_alike input.faulty (head_at t.queues) g) some in
      let alike = λ (me : ℕ). entry_alike t input service g head.0 me sound is decided (voted_many service.kind w.0) named head.1 in
      alike one ∙ sym (alike other)

-- the entry at an element that is there
pub entry_there : (t : State) (input : Input) (service : Service) (me : ℕ) → me < t.table.n → decision_in t input ≡ Exchange service
    → cell_at (entries_in t input) me ≡ packet_in (entry_at t.table service (packets_in t input) me)
entry_there t input service me l decided =
    at_place t.table.n (entry_in t.table (decision_in t input) (packets_in t input)) me None l
    ∙ ap (λ d. entry_in t.table d (packets_in t input) me) decided

-- The entries of an exchange that is not split are equal at all fault-free elements.
pub equal_entries : AlwaysEqualEntries
unfolding step shown_by
equal_entries s input sound is service g one other decided named l m good fine split =
    let t = before_rounds s input in
    let here = before_sound s input sound is.acts in
    entry_there t input service one l decided
    ∙ ap packet_in (entries_by t input service g one other here is decided named
    (whole_by (is_voted service.kind) (includes service.admitted input.faulty) (is_none (held_alike input.faulty (head_at t.queues) g)) split))
    ∙ sym (entry_there t input service other m decided)

-- ---- exchanges that are never split

-- a kind is of one round only for class 1 and three live members
few_kind : (one three two : Bool) (source : ℕ) → (one ≡ false) ⊎ (three ≡ false) → is_voted (cond (one && three) Voted (cond two (Source source) Every)) ≡ false
few_kind true true two source (inl e) = cc
few_kind true true two source (inr e) = cc
few_kind true false true source e = refl
few_kind true false false source e = refl
few_kind false three true source e = refl
few_kind false three false source e = refl

-- what makes a kind of two rounds, as tests
few_tests : (class count : ℕ) → (class ≢ 1) ⊎ (count < 3) → ((class == 1) ≡ false) ⊎ (nat_le 3 count ≡ false)
few_tests class count (inl away) = inl (ne_eqb class 1 away)
few_tests class count (inr few) = inr (lt-leb 3 count few)

-- a request of another class, or of few members, is carried in two rounds
few_rounds : (g : Group) (desc : Descriptor) → (desc.class ≢ 1) ⊎ (live_count g < 3) → is_voted (kind_of g desc) ≡ false
unfolding kind_of
few_rounds g desc few = few_kind (desc.class == 1) (nat_le 3 (live_count g)) (desc.class == 2) _ (few_tests desc.class (live_count g) few)

-- an exchange is of the kind that its group and its request have
kind_served : (t : State) (input : Input) (service : Service) (g : Group) → IsValid t.table → decision_in t input ≡ Exchange service → group_named t.table service.vid ≡ Some g
    → service.kind ≡ kind_of g service.desc
kind_served t input service g valid decided named =
    let vid : g.vid ≡ service.vid = subst (HasVid service.vid) named (HasVid-named t.table service.vid) in
    let taken : takes_of g.vid (decision_in t input) ≡ true = ap (takes_of g.vid) decided ∙ eq-eqb service.vid g.vid (sym vid) in
    let chosen = takes-chosen t.table (pattern_in t input) t.cycle t.scoreboard g valid (ap (group_named t.table) vid ∙ named) taken in
    let request = request_for (pattern_in t input) g chosen.waiting in
    let done = done_exchange t.cycle request (discard_reason t.table request) service (sym chosen.done ∙ decided) in
    ap (λ (x : Service). x.kind) (sym done.1) ∙ ap (kind_of g) (ap (λ (x : Service). x.desc) done.1)

-- what is not voted in one round is not split
not_split : (voted faulty unlike : Bool) → voted ≡ false → (voted && faulty && unlike) ≡ false
not_split true faulty unlike e = cc
not_split false faulty unlike e = refl

-- An exchange of class 2 or 3, or of few live members, is not split, and has one entry everywhere.
pub never_split : NeverSplit
unfolding step shown_by
never_split s input sound is service g decided named few =
    let t = before_rounds s input in
    let here = before_sound s input sound is.acts in
    let two : is_voted service.kind ≡ false = ap is_voted (kind_served t input service g here.valid decided named) ∙ few_rounds g service.desc few in (
      not_split (is_voted service.kind) (includes service.admitted input.faulty) (is_none (held_alike input.faulty (head_at t.queues) g)) two,
      λ one other l m.
          entry_there t input service one l decided
          ∙ ap packet_in (entry-same t.table service (packets_in t input) one other two)
          ∙ sym (entry_there t input service other m decided),
    )
