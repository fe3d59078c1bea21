-- What an element notes by its own copies, results and relayed cells is what is expected of it.
use Rattle.std.proofs.Common.{◌≡◌, ◌≢◌, ℕ, ◌<◌, Bool, true, false, cond, List, [], ◌∷◌, ◌++◌, refl, ap, map}
use Rattle.std.specs.Prelude.{Some, None, not, ◌&&◌, filter}
use Rattle.std.specs.List.{flat_map}
use Rattle.std.proofs.lemmas.Bool.{and_from, not_from_false}
use Rattle.ftpp_base.specs.Lists.{below, others, cell_at}
use Rattle.ftpp_base.specs.Sets.{has}
use Rattle.bit_vote.specs.Vote.{Cell, same_cell}
use Rattle.bit_vote.specs.Agreed.{FirstRound, agreed, copy_at}
use Rattle.two_round.specs.Echoes.{Echoes, relayed_at, result_for}
use Rattle.two_round.proofs.Others.{IsSize, Ascend, Ascend-others}
use Rattle.two_round.proofs.Held.{Holds}
use Rattle.config_table.specs.declared.decisions.Kind.{Kind}
use Rattle.config_table.specs.declared.decisions.Kind.TheVariants.{Voted, Source, Every}
use Rattle.config_table.specs.declared.decisions.Decision.{Decision}
use Rattle.config_table.specs.declared.decisions.Decision.TheVariants.{Idle, Discard, Exchange}
use Rattle.config_table.specs.declared.decisions.Service.{Service}
use Rattle.data_exchange.specs.Entries.{is_voted, may_send, entry_by, entry_at}
use Rattle.syndrome_log.specs.declared.SyndromeKind.{SyndromeKind}
use Rattle.syndrome_log.specs.declared.SyndromeKind.TheVariants as kind
use Rattle.syndrome_log.specs.Log.{noted}
use Rattle.element_core.specs.Cycle.{Shown}
use Rattle.element_core.specs.Syndromes.{relayed_cell, accused_where, first_copies, copies_by, relayed_copies, absent_members, full_members, has_three, compared, differs, outvoted_members}
use Rattle.element_core.specs.Noted.{is_off_relay, off_copies, off_by, off_relays, absent_ones, full_ones, own_compared, own_entry_row, off_values}
use Rattle.element_core.proofs.AloneRounds.{Settles, entry-cell}

-- a second test matters only where the first passes
and_same : (a b c : Bool) → (a ≡ true → b ≡ c) → (a && b) ≡ (a && c)
and_same true b c e = e refl
and_same false b c e = refl

-- ---- copies

-- the senders whose copy differs
pub off-copies : (cycle : ℕ) (sort : SyndromeKind) (n : ℕ) (round : FirstRound) (counts : ℕ → Bool) (x : Echoes)
    → ((s : ℕ) → cell_at x.copies s ≡ copy_at round x.me s) → ((s : ℕ) → counts s ≡ true → result_for x s ≡ agreed round s)
    → off_copies cycle sort x n counts ≡ first_copies cycle sort round n x.me counts
off-copies cycle sort n round counts x copy result =
    let same : (s : ℕ) → (counts s && not (same_cell (cell_at x.copies s) (result_for x s))) ≡ (counts s && not (same_cell (copy_at round x.me s) (agreed round s))) =
    λ s. and_same (counts s) (not (same_cell (cell_at x.copies s) (result_for x s))) (not (same_cell (copy_at round x.me s) (agreed round s)))
    (λ c i. not (same_cell (copy s i) (result s c i))) in
    λ i. accused_where cycle sort (λ s. same s i) (others n x.me)

-- two tests that agree on ascending numbers keep the same of them
filter_same : (n one : ℕ) (p q : ℕ → Bool) (ks : List ℕ) → Ascend n one ks → ((k : ℕ) → k < n → p k ≡ q k) → filter p ks ≡ filter q ks
filter_same n one p q [] a h = refl
filter_same n one p q (k ∷ ks) a h = λ i. cond (h k a.0 i) (k ∷ filter_same n one p q ks a.3 h i) (filter_same n one p q ks a.3 h i)

-- two functions that agree on ascending numbers give one list
flat_same : {A : Type 0} (n one : ℕ) (f g : ℕ → List A) (ks : List ℕ) → Ascend n one ks → ((k : ℕ) → k < n → k ≢ one → f k ≡ g k) → flat_map f ks ≡ flat_map g ks
flat_same n one f g [] a h = refl
flat_same n one f g (k ∷ ks) a h = λ i. h k a.0 a.1 i ++ flat_same n one f g ks a.3 h i

-- the senders about whom a relay's cell differs, of all relays
pub off-relays : (cycle : ℕ) (sort : SyndromeKind) (n : ℕ) (round : FirstRound) (said : List Cell) (counts : ℕ → Bool) (x : Echoes)
    → IsSize n → Holds n round said counts x → ((s : ℕ) → counts s ≡ true → result_for x s ≡ agreed round s)
    → off_relays cycle sort x n counts ≡ relayed_copies cycle sort round said n x.me counts
off-relays cycle sort n round said counts x size holds result =
    flat_same n x.me (off_by cycle sort x n counts) (copies_by cycle sort round said n counts) (others n x.me) (Ascend-others n x.me size holds.me)
    (λ k l away. ap (map (λ s. noted cycle sort k s))
    (filter_same n k (is_off_relay x counts k) (λ s. counts s && not (same_cell (relayed_cell round said k s) (agreed round s))) (others n k) (Ascend-others n k size l)
    (λ s m. and_same (counts s) (not (same_cell (relayed_at x k s) (result_for x s))) (not (same_cell (relayed_cell round said k s) (agreed round s)))
    (λ c i. not (same_cell (holds.relay k s l away m c i) (result s c i))))))

-- ---- members

-- the live members that are not admitted, and those of the destination that say full
pub absent-same : (shown : Shown) (decision : Decision) → absent_ones shown.cycle shown.table decision ≡ absent_members shown decision
absent-same shown Idle = refl
absent-same shown (Discard vid desc number admitted waited) = refl
absent-same shown (Exchange service) = refl

-- those that say full
pub full-same : (shown : Shown) (decision : Decision) → full_ones shown.cycle shown.table shown.pattern decision ≡ full_members shown decision
full-same shown Idle = refl
full-same shown (Discard vid desc number admitted waited) = refl
full-same shown (Exchange service) = refl

-- ---- values that differ from the result

-- a value where the test passes
some_if : (b : Bool) (x y : Cell) → x ≡ y → cond b (Some x) None ≡ cond b (Some y) None
some_if true x y e = ap (λ cell. Some cell) e
some_if false x y e = refl

-- by the kind
compared_by : (sort : Kind) (shown : Shown) (service : Service) (x : Echoes) (ne : ℕ) → cell_at x.copies ne ≡ copy_at shown.packets x.me ne
    → (is_voted sort ≡ false → may_send sort ne ≡ true → result_for x ne ≡ agreed shown.packets ne)
    → own_compared shown.table service x sort ne ≡ compared shown service sort x.me ne
compared_by Voted shown service x ne copy result = ap (λ cell. Some cell) copy
compared_by (Source s) shown service x ne copy result = refl
compared_by Every shown service x ne copy result = some_if (has_three shown.table service.vid) (result_for x ne) (agreed shown.packets ne) (result refl refl)

-- one that is admitted and may send in two rounds is relayed
relayed_from : (sort : Kind) (there sends : Bool) → is_voted sort ≡ false → there ≡ true → sends ≡ true → (not (is_voted sort) && (there && sends)) ≡ true
relayed_from sort there sends two t s = and_from (not (is_voted sort)) (there && sends) (not_from_false (is_voted sort) two) (and_from there sends t s)

-- the admitted members whose value differs from the result
pub off-values : (shown : Shown) (decision : Decision) (x : Echoes) → Settles shown.packets decision x
    → off_values shown.cycle shown.table x decision (own_entry_row shown.table decision x) ≡ outvoted_members shown x.me decision
off-values shown Idle x settles = refl
off-values shown (Discard vid desc number admitted waited) x settles = refl
off-values shown (Exchange service) x settles =
    let entry = entry_by service.kind shown.table service (cell_at x.copies) (result_for x) in
    let result = entry_at shown.table service shown.packets x.me in
    let same : (ne : ℕ) → (has service.admitted ne && differs entry (own_compared shown.table service x service.kind ne))
    ≡ (has service.admitted ne && differs result (compared shown service service.kind x.me ne)) =
    λ ne. and_same (has service.admitted ne) (differs entry (own_compared shown.table service x service.kind ne)) (differs result (compared shown service service.kind x.me ne))
    (λ there i. differs (entry-cell shown.table service shown.packets x settles i)
    (compared_by service.kind shown service x ne (settles.copy ne)
    (λ two sends. settles.result ne (relayed_from service.kind (has service.admitted ne) (may_send service.kind ne) two there sends)) i)) in
    λ i. accused_where shown.cycle kind.V (λ ne. same ne i) (below shown.table.n)
