-- What an element notes of copies names the faulty element.
use Rattle.std.proofs.Common.{◌≡◌, ℕ, Bool, true, false, cond, List, [], ◌∷◌, refl, ap, map, sym, ◌∙◌, ◌⊎◌, inl, inr, subst}
use Rattle.std.specs.Prelude.{Option, Some, not, ◌&&◌, filter}
use Rattle.std.specs.List.{AllByRecursion, flat_map}
use Rattle.ftpp_base.specs.Lists.{below, others, cell_at, is_this}
use Rattle.bit_vote.specs.Vote.{Cell, same_cell}
use Rattle.bit_vote.specs.Agreed.{FirstRound, agreed, copy_at}
use Rattle.bit_vote.proofs.Majority.{same_cell-refl}
use Rattle.config_table.specs.declared.decisions.Decision.{Decision}
use Rattle.config_table.specs.declared.decisions.Decision.TheVariants.{Idle, Discard, Exchange}
use Rattle.syndrome_log.specs.declared.Syndrome.{Syndrome}
use Rattle.syndrome_log.specs.declared.SyndromeKind.{SyndromeKind}
use Rattle.syndrome_log.specs.declared.SyndromeKind.TheVariants as kind
use Rattle.syndrome_log.specs.Log.{noted}
use Rattle.element_core.specs.Sent.{is_relayed}
use Rattle.element_core.specs.Syndromes.{Relays, relayed_cell, accused_where, first_copies, copies_by, relayed_copies, absent_members, full_members, outvoted_members, is_wrong_copy, is_wrong_relay, is_left_out, is_full_at, is_outvoted, syndromes_at}
use Rattle.ftpp_base.proofs.Among.{all-append}
use Rattle.element_core.specs.Claims.{is_of_copies}
use Rattle.std.proofs.lemmas.List.Elements.{All-from_recursion}
use Rattle.element_core.specs.Cycle.{Shown, step, shown_by}
use Rattle.whole_run.specs.Laws.{AlwaysAccurate}
use Rattle.two_round.proofs.Held.{is_this-true}
use Rattle.bit_vote.proofs.Copies.{copy-fine, agreed-fine}

-- ---- what holds of each item of a list that is made of others

-- one more that passes, or not
pub kept_all : {A B : Type 0} (P : B → Type 0) (f : A → B) (b : Bool) (x : A) (rest : List A) → (b ≡ true → P (f x)) → AllByRecursion P (map f rest) → AllByRecursion P (map f (cond b (x ∷ rest) rest))
kept_all P f true x rest h a = (h refl, a)
kept_all P f false x rest h a = a

-- what is made of each item that passes
pub all_kept : {A B : Type 0} (P : B → Type 0) (f : A → B) (test : A → Bool) (xs : List A) → ((x : A) → test x ≡ true → P (f x)) → AllByRecursion P (map f (filter test xs))
all_kept P f test [] h = tt
all_kept P f test (x ∷ xs) h = kept_all P f (test x) x (filter test xs) (h x) (all_kept P f test xs h)

-- what holds of all that each item gives holds of all of them together
pub all_flat : {A B : Type 0} (P : B → Type 0) (f : A → List B) (xs : List A) → ((x : A) → AllByRecursion P (f x)) → AllByRecursion P (flat_map f xs)
all_flat P f [] h = tt
all_flat P f (x ∷ xs) h = all-append P (f x) (flat_map f xs) (h x) (all_flat P f xs h)

-- ---- a copy that differs is of the faulty element, or came through it

-- what differs is not equal
differing : (a b : Bool) → (a && not b) ≡ true → b ≡ false
differing true true e = cc
differing true false e = refl
differing false b e = cc

-- a copy that differs from the agreed value is of the faulty sender
copy_by : (b : Bool) (round : FirstRound) (me sender : ℕ) → is_this round.faulty sender ≡ b → same_cell (copy_at round me sender) (agreed round sender) ≡ false → round.faulty ≡ Some sender
copy_by true round me sender e wrong = is_this-true round.faulty sender e
copy_by false round me sender e wrong =
    let yes : same_cell (copy_at round me sender) (agreed round sender) ≡ true =
    ap (λ c. same_cell c (agreed round sender)) (copy-fine round me sender e ∙ sym (agreed-fine round sender e)) ∙ same_cell-refl (agreed round sender) in cc

-- a relayed cell that differs is of a faulty relay, or of a faulty sender
relay_by : (b : Bool) (round : FirstRound) (said : List Cell) (relay sender : ℕ) → is_this round.faulty relay ≡ b → same_cell (relayed_cell round said relay sender) (agreed round sender) ≡ false
    → (round.faulty ≡ Some relay) ⊎ (round.faulty ≡ Some sender)
relay_by true round said relay sender e wrong = inl (is_this-true round.faulty relay e)
relay_by false round said relay sender e wrong =
    inr (copy_by (is_this round.faulty sender) round relay sender refl
    (ap (λ b. same_cell (cond b (cell_at said sender) (copy_at round relay sender)) (agreed round sender)) (sym e) ∙ wrong))

-- an entry of copies names the faulty element
abbrev pub Names : Option ℕ → Syndrome → Type 0
Names faulty s = is_of_copies s.kind ≡ true → (faulty ≡ Some s.accused) ⊎ (faulty ≡ Some s.other)

-- entries on copies name the faulty sender
first_named : (cycle : ℕ) (k : SyndromeKind) (round : FirstRound) (n me : ℕ) (sends : ℕ → Bool) → AllByRecursion (Names round.faulty) (first_copies cycle k round n me sends)
first_named cycle k round n me sends =
    all_kept (Names round.faulty) (λ ne. noted cycle k ne ne) (is_wrong_copy round sends me) (others n me)
    (λ s e of_copies. inl (copy_by (is_this round.faulty s) round me s refl (differing _ _ e)))

-- entries on relayed cells name the faulty relay or sender
relayed_named : (cycle : ℕ) (k : SyndromeKind) (round : FirstRound) (said : List Cell) (n me : ℕ) (sends : ℕ → Bool) → AllByRecursion (Names round.faulty) (relayed_copies cycle k round said n me sends)
relayed_named cycle k round said n me sends =
    all_flat (Names round.faulty) (copies_by cycle k round said n sends) (others n me)
    (λ relay. all_kept (Names round.faulty) (λ s. noted cycle k relay s) (is_wrong_relay round said sends relay) (others n relay)
    (λ s e of_copies. relay_by (is_this round.faulty relay) round said relay s refl (differing _ _ e)))

-- entries of another sort name nobody
other_sort : (faulty : Option ℕ) (cycle : ℕ) (k : SyndromeKind) (test : ℕ → Bool) (nes : List ℕ) → is_of_copies k ≡ false → AllByRecursion (Names faulty) (accused_where cycle k test nes)
other_sort faulty cycle k test nes wrong = all_kept (Names faulty) (λ ne. noted cycle k ne ne) test nes (λ s e of_copies. cc)

-- entries on members that are left out are of another sort
absent_named : (faulty : Option ℕ) (shown : Shown) (decision : Decision) → AllByRecursion (Names faulty) (absent_members shown decision)
absent_named faulty shown Idle = tt
absent_named faulty shown (Discard vid desc number admitted waited) = other_sort faulty shown.cycle kind.R (is_left_out shown.table vid admitted) (below shown.table.n) refl
absent_named faulty shown (Exchange service) = other_sort faulty shown.cycle kind.R (is_left_out shown.table service.vid service.admitted) (below shown.table.n) refl

-- so are those on members that say full
full_named : (faulty : Option ℕ) (shown : Shown) (decision : Decision) → AllByRecursion (Names faulty) (full_members shown decision)
full_named faulty shown Idle = tt
full_named faulty shown (Discard vid desc number admitted waited) = tt
full_named faulty shown (Exchange service) = other_sort faulty shown.cycle kind.O (is_full_at shown service) (below shown.table.n) refl

-- and those on members that are outvoted
outvoted_named : (faulty : Option ℕ) (shown : Shown) (me : ℕ) (decision : Decision) → AllByRecursion (Names faulty) (outvoted_members shown me decision)
outvoted_named faulty shown me Idle = tt
outvoted_named faulty shown me (Discard vid desc number admitted waited) = tt
outvoted_named faulty shown me (Exchange service) = other_sort faulty shown.cycle kind.V (is_outvoted shown service me) (below shown.table.n) refl

-- every entry on copies names the faulty element
pub syndromes-named : (shown : Shown) (said : Relays) (me : ℕ) → shown.packets.faulty ≡ shown.patterns.faulty → AllByRecursion (Names shown.patterns.faulty) (syndromes_at shown said me)
unfolding syndromes_at
syndromes-named shown said me same =
    let P = Names shown.patterns.faulty in
    let Q : Option ℕ → Type 0 = λ f. AllByRecursion (Names f) (first_copies shown.cycle kind.D1 shown.packets shown.table.n me (is_relayed shown.decision)) in
    let R : Option ℕ → Type 0 = λ f. AllByRecursion (Names f) (relayed_copies shown.cycle kind.D2 shown.packets said.packets shown.table.n me (is_relayed shown.decision)) in
    all-append P _ _ (all-append P _ _ (all-append P _ _ (all-append P _ _ (all-append P _ _ (all-append P _ _
    (first_named shown.cycle kind.P1 shown.patterns shown.table.n me (λ s. true))
    (relayed_named shown.cycle kind.P2 shown.patterns said.patterns shown.table.n me (λ s. true)))
    (absent_named _ shown shown.decision))
    (full_named _ shown shown.decision))
    (subst Q same (first_named shown.cycle kind.D1 shown.packets shown.table.n me (is_relayed shown.decision))))
    (subst R same (relayed_named shown.cycle kind.D2 shown.packets said.packets shown.table.n me (is_relayed shown.decision))))
    (outvoted_named _ shown me shown.decision)

-- so it is in each cycle
pub always_accurate : AlwaysAccurate
unfolding step shown_by
always_accurate s input said me l good =
    let shown = (step s input).shown in
    All-from_recursion (Names shown.patterns.faulty) (syndromes_at shown said me) (syndromes-named shown said me refl)
