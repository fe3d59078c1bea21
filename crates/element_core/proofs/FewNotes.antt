-- An element notes at most 52 entries in a cycle, whatever frames come.
use Rattle.std.proofs.Common.{◌≡◌, ℕ, zero, suc, ◌+◌, ◌*◌, ◌<◌, ◌≤◌, Bool, true, false, cond, List, [], ◌∷◌, length, refl, ap, arith, sym, ◌∙◌, ◌⊎◌, inl, inr}
use Rattle.std.specs.Prelude.{◌==◌, ◌||◌, ◌++◌, not, Option, Some, None, option_map, unwrap_or, count_by, filter}
use Rattle.std.specs.List.{range_with_len, flat_map, enumerate_from}
use Rattle.std.proofs.lemmas.Bool.{and_parts, eqb-true, ne_eqb}
use Rattle.std.proofs.lemmas.List.{length-map, length-append}
use Rattle.std.proofs.lemmas.List.Edits.{length-remove}
use Rattle.std.proofs.lemmas.List.FromFn.{length-range_with_len, length-enumerate_from}
use Rattle.std.proofs.lemmas.List.Sums.{length-filter, count_by-le-length}
use Rattle.ftpp_base.specs.Lists.{below, others, is_in}
use Rattle.ftpp_base.specs.Sets.{has, set_of}
use Rattle.ftpp_base.specs.declared.element.Proc.{Proc}
use Rattle.ftpp_base.proofs.Counts.{count_by-cons, count_items}
use Rattle.ftpp_base.proofs.Items.{IsItem}
use Rattle.ftpp_base.proofs.SetLaws.{has-set_where}
use Rattle.packet_format.specs.declared.Descriptor.{Descriptor}
use Rattle.config_table.specs.declared.groups.Group.{Group}
use Rattle.config_table.specs.declared.decisions.Decision.{Decision}
use Rattle.config_table.specs.declared.decisions.Decision.TheVariants.{Idle, Discard, Exchange}
use Rattle.config_table.specs.Groups.{members_of, is_unmasked, live_members, elements_of}
use Rattle.config_table.specs.Table.{TableValue, IsValid, group_named}
use Rattle.config_table.proofs.ValidTable.{valid-n, size-valid, named-there, members-few}
use Rattle.bit_vote.specs.Vote.{Cell}
use Rattle.two_round.specs.Echoes.{Echoes}
use Rattle.two_round.proofs.Others.{Ascend, Ascend-others}
use Rattle.flag_vote.specs.Flags.{Pattern, holds, holders, has_space, flags_of, voted_descriptor}
use Rattle.data_exchange.specs.Entries.{senders}
use Rattle.syndrome_log.specs.declared.Syndrome.{Syndrome}
use Rattle.syndrome_log.specs.declared.SyndromeKind.{SyndromeKind}
use Rattle.syndrome_log.specs.declared.SyndromeKind.TheVariants as kind
use Rattle.syndrome_log.specs.Log.{noted}
use Rattle.element_core.specs.Cycle.{is_delivered, receivers}
use Rattle.element_core.specs.Element.{made}
use Rattle.element_notes.specs.Notes.{notes_of}
use Rattle.element_core.specs.Noted.{is_off_copy, is_off_relay, off_copies, off_by, off_relays, absent_ones, says_full_at, full_ones, is_off_value, off_values, own_entry_row}
use Rattle.element_core.specs.Phases.{FewNotes}
use Rattle.element_core.specs.Sent.{is_relayed}
use Rattle.element_core.specs.Syndromes.{accused_where, stands_at, is_left_out}
use Rattle.element_core.proofs.DecisionLaws.{Serves, IfExchange, decision_serves}

-- ---- counts

-- none of the numbers from a on is a lower one
none_from : (m a n : ℕ) → m < a → count_by (λ k. m == k) (range_with_len a n) ≡ 0
none_from m a zero l = refl
none_from m a (suc n) l =
    let no : (m == a) ≡ false = ne_eqb m a (omega arith) in
    count_by-cons (λ k. m == k) a (range_with_len (a + 1) n) ∙ (λ i. cond (no i) 1 0 + none_from m (a + 1) n (omega arith) i)

-- by whether the first is it
once_by : (b : Bool) (m a rest : ℕ) → (m == a) ≡ b → (m ≡ a → rest ≡ 0) → rest ≤ 1 → cond (m == a) 1 0 + rest ≤ 1
once_by true m a rest e none few = let gone = none (eqb-true m a e) in rw e (omega arith)
once_by false m a rest e none few = rw e (omega arith)

-- at most one is it
once_from : (m a n : ℕ) → count_by (λ k. m == k) (range_with_len a n) ≤ 1
once_from m a zero = omega arith
once_from m a (suc n) =
    rw (count_by-cons (λ k. m == k) a (range_with_len (a + 1) n))
    (once_by (m == a) m a _ refl (λ e. none_from m (a + 1) n (omega arith)) (once_from m (a + 1) n))

-- one that passes either test passes one of them
either_one : (a b : Bool) → cond (a || b) 1 0 ≤ cond a 1 0 + cond b 1 0
either_one true true = omega arith
either_one true false = omega arith
either_one false true = omega arith
either_one false false = omega arith

either_count : (p q : ℕ → Bool) (ks : List ℕ) → count_by (λ k. p k || q k) ks ≤ count_by p ks + count_by q ks
either_count p q [] = omega arith
either_count p q (k ∷ ks) =
    let one = either_one (p k) (q k) in
    let more = either_count p q ks in
    rw (count_by-cons (λ j. p j || q j) k ks, count_by-cons p k ks, count_by-cons q k ks) (omega arith)

-- no number is in the empty list
in_none : (ks : List ℕ) → count_by (is_in []) ks ≡ 0
in_none [] = refl
in_none (k ∷ ks) = let more = in_none ks in let one = count_by-cons (is_in []) k ks in omega arith

-- of different numbers no more are in a list than it is long
in_few : (xs : List ℕ) (n : ℕ) → count_by (is_in xs) (below n) ≤ length xs
in_few [] n = let none = in_none (below n) in omega arith
in_few (x ∷ xs) n =
    let both = either_count (λ k. x == k) (is_in xs) (below n) in
    let one = once_from x 0 n in
    let more = in_few xs n in
    omega arith

-- an item of the numbers below n is below it
item_from : (a n k : ℕ) → IsItem (range_with_len a n) k → k < a + n
item_from a zero k i = absurd i
item_from a (suc n) k (inl e) = omega arith
item_from a (suc n) k (inr i) = let more = item_from (a + 1) n k i in omega arith

-- ---- how many are accused

-- those that pass the test
accused_count : (cycle : ℕ) (sort : SyndromeKind) (test : ℕ → Bool) (nes : List ℕ) → length (accused_where cycle sort test nes) ≡ count_by test nes
accused_count cycle sort test nes = length-map (filter test nes) (λ ne. noted cycle sort ne ne) ∙ length-filter test nes

-- no more than stand in a list, where those that pass do
accused_few : (cycle : ℕ) (sort : SyndromeKind) (test : ℕ → Bool) (n : ℕ) (xs : List ℕ) → ((ne : ℕ) → ne < n → test ne ≡ true → is_in xs ne ≡ true)
    → length xs ≤ 4 → length (accused_where cycle sort test (below n)) ≤ 4
accused_few cycle sort test n xs within few =
    let count = accused_count cycle sort test (below n) in
    let fewer = count_items test (is_in xs) (below n) (λ ne i e. within ne (let low = item_from 0 n ne i in omega arith) e) in
    let most = in_few xs n in
    omega arith

-- ---- copies and relayed cells

-- four others at most
others_few : (n one : ℕ) → n ≤ 5 → one < n → length (others n one) ≤ 4
others_few n one few there =
    let long = length-range_with_len 0 n in
    let inside : one < length (below n) = omega arith in
    let less : length (others n one) + 1 ≡ length (below n) = length-remove (below n) one inside in
    omega arith

copies_few : (cycle : ℕ) (sort : SyndromeKind) (echoes : Echoes) (n : ℕ) (counts : ℕ → Bool) → n ≤ 5 → echoes.me < n → length (off_copies cycle sort echoes n counts) ≤ 4
copies_few cycle sort echoes n counts few there =
    let count = accused_count cycle sort (is_off_copy echoes counts) (others n echoes.me) in
    let fewer = count_by-le-length (is_off_copy echoes counts) (others n echoes.me) in
    let most = others_few n echoes.me few there in
    omega arith

-- of one relay
by_few : (cycle : ℕ) (sort : SyndromeKind) (echoes : Echoes) (n : ℕ) (counts : ℕ → Bool) (relay : ℕ) → n ≤ 5 → relay < n → length (off_by cycle sort echoes n counts relay) ≤ 4
by_few cycle sort echoes n counts relay few there =
    let test = is_off_relay echoes counts relay in
    let count : length (off_by cycle sort echoes n counts relay) ≡ count_by test (others n relay) =
    length-map (filter test (others n relay)) (λ s. noted cycle sort relay s) ∙ length-filter test (others n relay) in
    let fewer = count_by-le-length test (others n relay) in
    let most = others_few n relay few there in
    omega arith

-- of several
each_few : (f : ℕ → List Syndrome) (n one : ℕ) (ks : List ℕ) → ((k : ℕ) → k < n → length (f k) ≤ 4) → Ascend n one ks → length (flat_map f ks) ≤ length ks * 4
each_few f n one [] few a = omega arith
each_few f n one (k ∷ ks) few a =
    let here = few k a.0 in
    let more = each_few f n one ks few a.3 in
    let long = length-append (f k) (flat_map f ks) in
    omega arith

relays_few : (cycle : ℕ) (sort : SyndromeKind) (echoes : Echoes) (n : ℕ) (counts : ℕ → Bool) → (n ≡ 4) ⊎ (n ≡ 5) → n ≤ 5 → echoes.me < n → length (off_relays cycle sort echoes n counts) ≤ 16
relays_few cycle sort echoes n counts size few there =
    let all = each_few (off_by cycle sort echoes n counts) n echoes.me (others n echoes.me) (λ relay l. by_few cycle sort echoes n counts relay few l) (Ascend-others n echoes.me size there) in
    let most = others_few n echoes.me few there in
    omega arith

-- ---- members

-- no more live members than members
live_few : (g : Group) → length (members_of g) ≤ 4 → length (live_members g) ≤ 4
live_few g few =
    let seats : List (ℕ × Proc) = enumerate_from 0 (members_of g) in
    let long = length-map (filter (is_unmasked g) seats) (λ (seat : ℕ × Proc). seat.1) in
    let count = length-filter (is_unmasked g) seats in
    let fewer = count_by-le-length (is_unmasked g) seats in
    let all = length-enumerate_from 0 (members_of g) in
    omega arith

-- four senders at most, under a valid table
found_few : (found : Option Group) → ((g : Group) → found ≡ Some g → length (members_of g) ≤ 4) → length (unwrap_or (option_map live_members found) []) ≤ 4
found_few None few = omega arith
found_few (Some g) few = live_few g (few g refl)

group_few : (table : TableValue) (vid : ℕ) (g : Group) → IsValid table → group_named table vid ≡ Some g → length (members_of g) ≤ 4
group_few table vid g valid named = members-few table valid g (named-there table vid g named).0

senders_few : (table : TableValue) (vid : ℕ) → IsValid table → length (senders table vid) ≤ 4
senders_few table vid valid = found_few (group_named table vid) (λ g named. group_few table vid g valid named)

-- as many elements as members
elements_few : (procs : List Proc) → length procs ≤ 4 → length (elements_of procs) ≤ 4
elements_few procs few = let long = length-map procs (λ (proc : Proc). proc.ne) in omega arith

-- a filter is no longer
filter_few : (test : Proc → Bool) (procs : List Proc) → length procs ≤ 4 → length (filter test procs) ≤ 4
filter_few test procs few =
    let count = length-filter test procs in
    let fewer = count_by-le-length test procs in
    omega arith

-- ---- entries on members

left_out_few : (cycle : ℕ) (table : TableValue) (decision : Decision) → IsValid table → length (absent_ones cycle table decision) ≤ 4
left_out_few cycle table Idle valid = omega arith
left_out_few cycle table (Discard vid desc number admitted waited) valid =
    accused_few cycle kind.R (is_left_out table vid admitted) table.n (elements_of (senders table vid)) (λ ne l e. (and_parts (stands_at (senders table vid) ne) _ e).0)
    (elements_few (senders table vid) (senders_few table vid valid))
left_out_few cycle table (Exchange service) valid =
    accused_few cycle kind.R (is_left_out table service.vid service.admitted) table.n (elements_of (senders table service.vid)) (λ ne l e. (and_parts (stands_at (senders table service.vid) ne) _ e).0)
    (elements_few (senders table service.vid) (senders_few table service.vid valid))

-- receivers are the live members of the destination, or none
either_few : (b : Bool) (procs : List Proc) → length procs ≤ 4 → length (cond b procs []) ≤ 4
either_few true procs few = few
either_few false procs few = omega arith

full_few : (cycle : ℕ) (table : TableValue) (pattern : Pattern) (decision : Decision) → IsValid table → length (full_ones cycle table pattern decision) ≤ 4
full_few cycle table pattern Idle valid = omega arith
full_few cycle table pattern (Discard vid desc number admitted waited) valid = omega arith
full_few cycle table pattern (Exchange service) valid =
    let full : List Proc = filter (λ proc. not (has_space pattern proc)) (receivers table service) in
    accused_few cycle kind.O (says_full_at table pattern service) table.n (elements_of full) (λ ne l e. e)
    (elements_few full (filter_few _ (receivers table service) (either_few (is_delivered service.desc.class) (senders table service.desc.dest) (senders_few table service.desc.dest valid))))

-- the holders of a request are live members
holders_few : (pattern : Pattern) (g : Group) (o : Option Descriptor) → length (live_members g) ≤ 4 → length (holders pattern g o) ≤ 4
holders_few pattern g None few = omega arith
holders_few pattern g (Some desc) few = filter_few (holds pattern desc) (live_members g) few

-- the admitted elements are those of the holders
holds_flags : (pattern : Pattern) (g : Group) → (flags_of pattern g).holds ≡ set_of (elements_of (holders pattern g (voted_descriptor pattern g)))
unfolding flags_of
holds_flags pattern g = refl

off_few : (cycle : ℕ) (table : TableValue) (pattern : Pattern) (echoes : Echoes) (decision : Decision) (entry : Cell) → IsValid table → IfExchange (Serves table pattern) decision
    → length (off_values cycle table echoes decision entry) ≤ 4
off_few cycle table pattern echoes Idle entry valid serves = omega arith
off_few cycle table pattern echoes (Discard vid desc number admitted waited) entry valid serves = omega arith
off_few cycle table pattern echoes (Exchange service) entry valid serves =
    let xs : List ℕ = elements_of (holders pattern serves.group (voted_descriptor pattern serves.group)) in
    let n5 = valid-n table valid in
    accused_few cycle kind.V (is_off_value table service echoes entry) table.n xs
    (λ ne l e.
    sym (has-set_where (is_in xs) ne (omega arith))
    ∙ ap (λ s. has s ne) (sym (serves.admitted ∙ holds_flags pattern serves.group))
    ∙ (and_parts (has service.admitted ne) _ e).0)
    (elements_few _ (holders_few pattern serves.group (voted_descriptor pattern serves.group) (live_few serves.group (group_few table service.vid serves.group valid serves.named))))

-- ---- all

sum_few : (a b c d e f g : List Syndrome) → length a ≤ 4 → length b ≤ 16 → length c ≤ 4 → length d ≤ 4 → length e ≤ 4 → length f ≤ 16 → length g ≤ 4
    → length (a ++ b ++ c ++ d ++ e ++ f ++ g) ≤ 52
sum_few a b c d e f g la lb lc ld le lf lg =
    simp length-append (omega arith)

-- At most 52 entries: 4 P1, 16 P2, 4 R, 4 O, 4 D1, 16 D2, 4 V.
pub few_notes : FewNotes
unfolding notes_of made
few_notes kept heard valid there =
    let m = made kept heard in
    let n = kept.table.n in
    let five = valid-n kept.table valid in
    let size = size-valid kept.table valid in
    let entry = own_entry_row kept.table m.decision m.packets in
    sum_few (off_copies kept.cycle kind.P1 m.patterns n (λ s. true)) (off_relays kept.cycle kind.P2 m.patterns n (λ s. true)) (absent_ones kept.cycle kept.table m.decision)
    (full_ones kept.cycle kept.table m.pattern m.decision) (off_copies kept.cycle kind.D1 m.packets n (is_relayed m.decision)) (off_relays kept.cycle kind.D2 m.packets n (is_relayed m.decision))
    (off_values kept.cycle kept.table m.packets m.decision entry)
    (copies_few kept.cycle kind.P1 m.patterns n (λ s. true) five there)
    (relays_few kept.cycle kind.P2 m.patterns n (λ s. true) size five there)
    (left_out_few kept.cycle kept.table m.decision valid)
    (full_few kept.cycle kept.table m.pattern m.decision valid)
    (copies_few kept.cycle kind.D1 m.packets n (is_relayed m.decision) five there)
    (relays_few kept.cycle kind.D2 m.packets n (is_relayed m.decision) size five there)
    (off_few kept.cycle kept.table m.pattern m.packets m.decision entry valid (decision_serves kept.table m.pattern kept.cycle kept.scoreboard))
