-- The bytes of an update and its fields say the same.
use Rattle.std.proofs.Common.{◌≡◌, ℕ, ◌+◌, ◌-◌, ◌*◌, ◌<◌, ◌≤◌, zero, suc, cond, List, [], ◌∷◌, ◌++◌, Option, Some, None, length, get_or, take, drop, replicate, refl, ap, sym, ◌∙◌, arith, subst, length-drop}
use Rattle.std.specs.Prelude.{◌==◌, min, slice_index, slice_index_or, IsSome}
use Rattle.std.specs.List.{flat_map}
use Rattle.std.proofs.Math.Seq.{drop-append_seam}
use Rattle.std.proofs.lemmas.List.{take-append-drop, get_or-drop}
use Rattle.std.proofs.lemmas.List.FromFn.{get_or-map-range_with_len}
use Rattle.ftpp_base.specs.declared.element.Proc.{Proc}
use Rattle.packet_format.specs.Numbers.{AreBytes, two_bytes, number_from}
use Rattle.packet_format.specs.Packets.{filled_up}
use Rattle.packet_format.specs.declared.Packet.{Packet}
use Rattle.table_update.specs.declared.Update.{Update}
use Rattle.table_update.specs.declared.Update.TheVariants.{Mask, Admit, Timeouts, Dissolve, Form}
use Rattle.table_update.specs.Updates.{proc_bytes, update_bytes, members_from, read_update}
use Rattle.table_update.specs.Grammar.{IsInRange, AreZeroFrom, ShowsMember, ShowsForm, Shows, IsSpelled, IsInGrammar, EachSpelledIsRead, EachReadIsSpelled, GrammarIsRead, OneSpelling, OneMeaning}
use Rattle.table_update.proofs.Spelled.{items, take-items, two_at, pair_at, length-pairs, length-members, timeouts_from, form_from}
use Rattle.table_update.proofs.Exact.{IsWritten, written_read, read_written, two_small}

-- ---- zeros behind some bytes

zeros_at : (n k : ℕ) → get_or (replicate {A = ℕ} n 0) k 0 ≡ 0
zeros_at zero k = refl
zeros_at (suc n) zero = refl
zeros_at (suc n) (suc k) = zeros_at n k

all_zeros : (bytes : List ℕ) → ((k : ℕ) → get_or bytes k 0 ≡ 0) → bytes ≡ replicate (length bytes) 0
all_zeros [] zeros = refl
all_zeros (b ∷ bs) zeros = λ i. zeros 0 i ∷ all_zeros bs (λ k. zeros (suc k)) i

zeros_behind : (named bytes : List ℕ) → bytes ≡ filled_up 64 named → AreZeroFrom (length named) bytes
zeros_behind named bytes e i past =
    let behind : List ℕ = replicate (64 - length named) 0 in
    let at : i ≡ length named + (i - length named) = omega arith in
    ap (λ l. get_or l i 0) e
    ∙ ap (λ k. get_or (named ++ behind) k 0) at
    ∙ sym (get_or-drop (length named) (named ++ behind) (i - length named) 0)
    ∙ ap (λ l. get_or l (i - length named) 0) (drop-append_seam named behind)
    ∙ zeros_at (64 - length named) (i - length named)

filled_by : (named bytes : List ℕ) → length bytes ≡ 64 → take (length named) bytes ≡ named → AreZeroFrom (length named) bytes → bytes ≡ filled_up 64 named
filled_by named bytes long front zeros =
    let left : length (drop (length named) bytes) ≡ 64 - length named = let all = length-drop (length named) bytes in omega arith in
    let rest = all_zeros (drop (length named) bytes) (λ k. get_or-drop (length named) bytes k 0 ∙ zeros (length named + k) (omega arith)) ∙ ap (λ n. replicate n 0) left in
    sym (take-append-drop (length named) bytes) ∙ (λ i. front i ++ rest i)

-- ---- from the bytes to the fields

length-form : (vid : ℕ) (members : List Proc) (ts tr : ℕ) → length (5 ∷ vid ∷ length members ∷ two_bytes ts ++ two_bytes tr ++ flat_map proc_bytes members) ≡ 7 + 2 * length members
length-form vid members ts tr = let pairs = length-pairs members in omega arith

-- the pair of a member stands at its place
pair_element : (front : List ℕ) (members : List Proc) (rest : List ℕ) (k : ℕ) (d : Proc) → k < length members
    → get_or (front ++ (flat_map proc_bytes members ++ rest)) (length front + 2 * k) 0 ≡ (get_or members k d).ne
pair_element front members rest k d h =
    sym (get_or-drop (length front) (front ++ (flat_map proc_bytes members ++ rest)) (2 * k) 0)
    ∙ ap (λ l. get_or l (2 * k) 0) (drop-append_seam front (flat_map proc_bytes members ++ rest))
    ∙ here members k h
  where
    here : (members : List Proc) (k : ℕ) → k < length members → get_or (flat_map proc_bytes members ++ rest) (2 * k) 0 ≡ (get_or members k d).ne
    here [] k h = let never : ⊥ = omega arith in absurd never
    here (p ∷ ps) zero h = refl
    here (p ∷ ps) (suc k) h = let at : 2 * suc k ≡ suc (suc (2 * k)) = omega arith in ap (λ j. get_or (p.ne ∷ p.port ∷ (flat_map proc_bytes ps ++ rest)) j 0) at ∙ here ps k (omega arith)

pair_port : (front : List ℕ) (members : List Proc) (rest : List ℕ) (k : ℕ) (d : Proc) → k < length members
    → get_or (front ++ (flat_map proc_bytes members ++ rest)) (length front + (1 + 2 * k)) 0 ≡ (get_or members k d).port
pair_port front members rest k d h =
    sym (get_or-drop (length front) (front ++ (flat_map proc_bytes members ++ rest)) (1 + 2 * k) 0)
    ∙ ap (λ l. get_or l (1 + 2 * k) 0) (drop-append_seam front (flat_map proc_bytes members ++ rest))
    ∙ here members k h
  where
    here : (members : List Proc) (k : ℕ) → k < length members → get_or (flat_map proc_bytes members ++ rest) (1 + 2 * k) 0 ≡ (get_or members k d).port
    here [] k h = let never : ⊥ = omega arith in absurd never
    here (p ∷ ps) zero h = refl
    here (p ∷ ps) (suc k) h = let at : 1 + 2 * suc k ≡ suc (suc (1 + 2 * k)) = omega arith in ap (λ j. get_or (p.ne ∷ p.port ∷ (flat_map proc_bytes ps ++ rest)) j 0) at ∙ here ps k (omega arith)

-- the seven bytes before the pairs of a form
abbrev form_front : ℕ → ℕ → ℕ → ℕ → List ℕ
form_front vid size ts tr = 5 ∷ vid ∷ size ∷ two_bytes ts ++ two_bytes tr

shows_of : (bytes : List ℕ) (update : Update) → bytes ≡ update_bytes update → Shows bytes update
shows_of bytes (Mask vid member) e = record {
  first = ap (λ l. get_or l 0 0) e;
  group = ap (λ l. get_or l 1 0) e;
  index = ap (λ l. get_or l 2 0) e;
  zeros = zeros_behind (1 ∷ vid ∷ member ∷ []) bytes e;
}
shows_of bytes (Admit vid member) e = record {
  first = ap (λ l. get_or l 0 0) e;
  group = ap (λ l. get_or l 1 0) e;
  index = ap (λ l. get_or l 2 0) e;
  zeros = zeros_behind (2 ∷ vid ∷ member ∷ []) bytes e;
}
shows_of bytes (Timeouts vid ts tr) e = record {
  first = ap (λ l. get_or l 0 0) e;
  group = ap (λ l. get_or l 1 0) e;
  send = ap (λ l. take 2 (drop 2 l)) e;
  receive = ap (λ l. take 2 (drop 4 l)) e;
  zeros = zeros_behind (3 ∷ vid ∷ two_bytes ts ++ two_bytes tr) bytes e;
}
shows_of bytes (Dissolve vid) e = record {
  first = ap (λ l. get_or l 0 0) e;
  group = ap (λ l. get_or l 1 0) e;
  zeros = zeros_behind (4 ∷ vid ∷ []) bytes e;
}
shows_of bytes (Form vid members ts tr) e =
    let ms : List Proc = members.items in
    let named : List ℕ = 5 ∷ vid ∷ length ms ∷ two_bytes ts ++ two_bytes tr ++ flat_map proc_bytes ms in
    let behind : List ℕ = replicate (64 - length named) 0 in
    record {
      first = ap (λ l. get_or l 0 0) e;
      group = ap (λ l. get_or l 1 0) e;
      size = ap (λ l. get_or l 2 0) e;
      send = ap (λ l. take 2 (drop 3 l)) e;
      receive = ap (λ l. take 2 (drop 5 l)) e;
      element = λ k d h. ap (λ l. get_or l (7 + 2 * k) 0) e ∙ pair_element (form_front vid (length ms) ts tr) ms behind k d h;
      port = λ k d h.
          let at : 8 + 2 * k ≡ 7 + (1 + 2 * k) = omega arith in
          ap (λ l. get_or l (8 + 2 * k) 0) e ∙ ap (λ j. get_or (named ++ behind) j 0) at ∙ pair_port (form_front vid (length ms) ts tr) ms behind k d h;
      zeros = subst (λ n. AreZeroFrom n bytes) (length-form vid ms ts tr) (zeros_behind named bytes e);
    }

-- ---- and back

form_named : (bytes : List ℕ) (vid : ℕ) (ms : List Proc) (ts tr : ℕ) → length bytes ≡ 64 → length ms ≤ 4 → ShowsForm bytes vid ms ts tr
    → items bytes 0 (7 + 2 * length ms) ≡ 5 ∷ vid ∷ length ms ∷ two_bytes ts ++ two_bytes tr ++ flat_map proc_bytes ms
form_named bytes vid ms ts tr long few shows = by_size ms few shows.element shows.port where
  send : items bytes 3 2 ≡ two_bytes ts
  send = sym (take-items bytes 2 3 (omega arith)) ∙ shows.send

  receive : items bytes 5 2 ≡ two_bytes tr
  receive = sym (take-items bytes 2 5 (omega arith)) ∙ shows.receive

  front : items bytes 0 7 ≡ 5 ∷ vid ∷ length ms ∷ two_bytes ts ++ two_bytes tr
  front = λ i. shows.first i ∷ shows.group i ∷ shows.size i ∷ send i ++ receive i

  by_size : (qs : List Proc) → length qs ≤ 4
      → ((k : ℕ) (d : Proc) → k < length qs → slice_index bytes (7 + 2 * k) ≡ (slice_index_or qs k d).ne)
      → ((k : ℕ) (d : Proc) → k < length qs → slice_index bytes (8 + 2 * k) ≡ (slice_index_or qs k d).port)
      → items bytes 0 (7 + 2 * length qs) ≡ (5 ∷ vid ∷ length ms ∷ two_bytes ts ++ two_bytes tr) ++ flat_map proc_bytes qs
  by_size [] few element port = λ i. front i
  by_size (p ∷ []) few element port = λ i. front i ++ (element 0 p (omega arith) i ∷ port 0 p (omega arith) i ∷ [])
  by_size (p ∷ q ∷ []) few element port =
      λ i. front i ++ (element 0 p (omega arith) i ∷ port 0 p (omega arith) i ∷ element 1 p (omega arith) i ∷ port 1 p (omega arith) i ∷ [])
  by_size (p ∷ q ∷ r ∷ []) few element port =
      λ i. front i ++ (element 0 p (omega arith) i ∷ port 0 p (omega arith) i ∷ element 1 p (omega arith) i ∷ port 1 p (omega arith) i
      ∷ element 2 p (omega arith) i ∷ port 2 p (omega arith) i ∷ [])
  by_size (p ∷ q ∷ r ∷ s ∷ []) few element port =
      λ i. front i ++ (element 0 p (omega arith) i ∷ port 0 p (omega arith) i ∷ element 1 p (omega arith) i ∷ port 1 p (omega arith) i
      ∷ element 2 p (omega arith) i ∷ port 2 p (omega arith) i ∷ element 3 p (omega arith) i ∷ port 3 p (omega arith) i ∷ [])
  by_size (p ∷ q ∷ r ∷ s ∷ t ∷ more) few element port = let no_such : ⊥ = omega arith in absurd no_such

member_written : (form : ℕ) (bytes : List ℕ) (vid member : ℕ) → length bytes ≡ 64 → ShowsMember form bytes vid member → bytes ≡ filled_up 64 (form ∷ vid ∷ member ∷ [])
member_written form bytes vid member long shows =
    filled_by (form ∷ vid ∷ member ∷ []) bytes long
    (take-items bytes 3 0 (omega arith) ∙ (λ i. shows.first i ∷ shows.group i ∷ shows.index i ∷ [])) shows.zeros

written_of : (bytes : List ℕ) (update : Update) → length bytes ≡ 64 → IsInRange update → Shows bytes update → bytes ≡ update_bytes update
written_of bytes (Mask vid member) long range shows = member_written 1 bytes vid member long shows
written_of bytes (Admit vid member) long range shows = member_written 2 bytes vid member long shows
written_of bytes (Timeouts vid ts tr) long range shows =
    let send : items bytes 2 2 ≡ two_bytes ts = sym (take-items bytes 2 2 (omega arith)) ∙ shows.send in
    let receive : items bytes 4 2 ≡ two_bytes tr = sym (take-items bytes 2 4 (omega arith)) ∙ shows.receive in
    filled_by (3 ∷ vid ∷ two_bytes ts ++ two_bytes tr) bytes long
    (take-items bytes 6 0 (omega arith) ∙ (λ i. shows.first i ∷ shows.group i ∷ send i ++ receive i)) shows.zeros
written_of bytes (Dissolve vid) long range shows =
    filled_by (4 ∷ vid ∷ []) bytes long (take-items bytes 2 0 (omega arith) ∙ (λ i. shows.first i ∷ shows.group i ∷ [])) shows.zeros
written_of bytes (Form vid members ts tr) long range shows =
    let ms : List Proc = members.items in
    let size = length-form vid ms ts tr in
    let few : length ms ≤ 4 = range.0 in
    filled_by (5 ∷ vid ∷ length ms ∷ two_bytes ts ++ two_bytes tr ++ flat_map proc_bytes ms) bytes long
    (ap (λ n. take n bytes) size ∙ take-items bytes (7 + 2 * length ms) 0 (omega arith) ∙ form_named bytes vid ms ts tr long few shows)
    (subst (λ n. AreZeroFrom n bytes) (sym size) shows.zeros)

written : (bytes : List ℕ) (update : Update) → IsSpelled bytes update → IsWritten bytes update
written bytes update is = record { in_range = is.in_range; spelled = written_of bytes update is.long is.in_range is.shows }

-- ---- the laws

pub spelled_read : EachSpelledIsRead
spelled_read packet update is = written_read packet update (written packet.bytes update is)

pub read_spelled : EachReadIsSpelled
read_spelled packet update long are e =
    let is = read_written packet update long are e in
    record { in_range = is.in_range; long = long; shows = shows_of packet.bytes update is.spelled }

pub one_spelling : OneSpelling
one_spelling xs ys update a b = (written xs update a).spelled ∙ sym (written ys update b).spelled

pub one_meaning : OneMeaning
one_meaning bytes update other a b =
    let packet : Packet = record { bytes = bytes } in
    let one = spelled_read packet update a in
    let two = spelled_read packet other b in
    let same : Some update ≡ Some other = sym one ∙ two in
    cc

-- ---- the grammar

-- how many bytes a form names, by its first byte
abbrev named_by : ℕ → ℕ → ℕ
named_by size form = cond (form == 3) 6 (cond (form == 4) 2 (cond (form == 5) (7 + 2 * size) 3))

-- two bytes are those of the number that they are
two_again : (bytes : List ℕ) (i : ℕ) → AreBytes bytes → i + 2 ≤ length bytes → take 2 (drop i bytes) ≡ two_bytes (number_from (take 2 (drop i bytes)))
two_again bytes i are fits = take-items bytes 2 i fits ∙ sym (two_at bytes i are fits)

-- a member that is read of a form
member_at : (bytes : List ℕ) (k : ℕ) (d : Proc) → k < length (members_from bytes) → get_or (members_from bytes) k d ≡ pair_at bytes k
member_at bytes k d h =
    let count = length-members bytes in
    get_or-map-range_with_len (pair_at bytes) 0 (min (slice_index bytes 2) 4) k k d (omega arith) (omega arith)

-- An update that bytes spell.
record Spelt (bytes : List ℕ) : Type 0 where
  pub update : Update
  pub is : IsSpelled bytes update

-- what an update shows is in the grammar
count_of : (bytes : List ℕ) (update : Update) → Shows bytes update → IsInRange update → IsInGrammar bytes
count_of bytes (Mask vid member) shows range = record {
  form = let one = shows.first in (omega arith, omega arith);
  index = λ few. let is = shows.index in omega arith;
  size = λ five. let one = shows.first in let never : ⊥ = omega arith in absurd never;
  zeros = subst (λ n. AreZeroFrom n bytes) (ap (named_by (slice_index bytes 2)) (sym shows.first)) shows.zeros;
}
count_of bytes (Admit vid member) shows range = record {
  form = let two = shows.first in (omega arith, omega arith);
  index = λ few. let is = shows.index in omega arith;
  size = λ five. let two = shows.first in let never : ⊥ = omega arith in absurd never;
  zeros = subst (λ n. AreZeroFrom n bytes) (ap (named_by (slice_index bytes 2)) (sym shows.first)) shows.zeros;
}
count_of bytes (Timeouts vid ts tr) shows range = record {
  form = let three = shows.first in (omega arith, omega arith);
  index = λ few. let three = shows.first in let never : ⊥ = omega arith in absurd never;
  size = λ five. let three = shows.first in let never : ⊥ = omega arith in absurd never;
  zeros = subst (λ n. AreZeroFrom n bytes) (ap (named_by (slice_index bytes 2)) (sym shows.first)) shows.zeros;
}
count_of bytes (Dissolve vid) shows range = record {
  form = let four = shows.first in (omega arith, omega arith);
  index = λ few. let four = shows.first in let never : ⊥ = omega arith in absurd never;
  size = λ five. let four = shows.first in let never : ⊥ = omega arith in absurd never;
  zeros = subst (λ n. AreZeroFrom n bytes) (ap (named_by (slice_index bytes 2)) (sym shows.first)) shows.zeros;
}
count_of bytes (Form vid members ts tr) shows range = record {
  form = let five = shows.first in (omega arith, omega arith);
  index = λ few. let five = shows.first in let never : ⊥ = omega arith in absurd never;
  size = λ five. let few = range.0 in let is = shows.size in omega arith;
  zeros =
      subst (λ n. AreZeroFrom n bytes) (ap (λ k. 7 + 2 * k) (sym shows.size) ∙ ap (named_by (slice_index bytes 2)) (sym shows.first)) shows.zeros;
}

-- the update of bytes in the grammar, by their first byte
spells_some : (bytes : List ℕ) (form : ℕ) → length bytes ≡ 64 → AreBytes bytes → slice_index bytes 0 ≡ form → IsInGrammar bytes → Spelt bytes
spells_some bytes zero long are first is = let few = is.form.0 in let never : ⊥ = omega arith in absurd never
spells_some bytes (suc zero) long are first is = record {
  update = Mask (slice_index bytes 1) (slice_index bytes 2);
  is = record {
    in_range = is.index (omega arith);
    long = long;
    shows = record { first = first; group = refl; index = refl; zeros = subst (λ n. AreZeroFrom n bytes) (ap (named_by (slice_index bytes 2)) first) is.zeros };
  };
}
spells_some bytes (suc (suc zero)) long are first is = record {
  update = Admit (slice_index bytes 1) (slice_index bytes 2);
  is = record {
    in_range = is.index (omega arith);
    long = long;
    shows = record { first = first; group = refl; index = refl; zeros = subst (λ n. AreZeroFrom n bytes) (ap (named_by (slice_index bytes 2)) first) is.zeros };
  };
}
spells_some bytes (suc (suc (suc zero))) long are first is = record {
  update = timeouts_from bytes;
  is = record {
    in_range = (two_small bytes 2 are (omega arith), two_small bytes 4 are (omega arith));
    long = long;
    shows = record {
      first = first;
      group = refl;
      send = two_again bytes 2 are (omega arith);
      receive = two_again bytes 4 are (omega arith);
      zeros = subst (λ n. AreZeroFrom n bytes) (ap (named_by (slice_index bytes 2)) first) is.zeros;
    };
  };
}
spells_some bytes (suc (suc (suc (suc zero)))) long are first is = record {
  update = Dissolve (slice_index bytes 1);
  is = record {
    in_range = tt;
    long = long;
    shows = record { first = first; group = refl; zeros = subst (λ n. AreZeroFrom n bytes) (ap (named_by (slice_index bytes 2)) first) is.zeros };
  };
}
spells_some bytes (suc (suc (suc (suc (suc zero))))) long are first is =
    let few = is.size first in
    let count = length-members bytes in
    let size : slice_index bytes 2 ≡ length (members_from bytes) = omega arith in
    record {
      update = form_from bytes;
      is = record {
        in_range = (omega arith, two_small bytes 3 are (omega arith), two_small bytes 5 are (omega arith));
        long = long;
        shows = record {
          first = first;
          group = refl;
          size = size;
          send = two_again bytes 3 are (omega arith);
          receive = two_again bytes 5 are (omega arith);
          element = λ k d h. ap (λ (p : Proc). p.ne) (sym (member_at bytes k d h));
          port = λ k d h. ap (λ (p : Proc). p.port) (sym (member_at bytes k d h));
          zeros = subst (λ n. AreZeroFrom n bytes) (ap (named_by (slice_index bytes 2)) first ∙ ap (λ k. 7 + 2 * k) size) is.zeros;
        };
      };
    }
spells_some bytes (suc (suc (suc (suc (suc (suc k)))))) long are first is = let most = is.form.1 in let never : ⊥ = omega arith in absurd never

read_in_grammar : (packet : Packet) (r : Option Update) → length packet.bytes ≡ 64 → AreBytes packet.bytes → read_update packet ≡ r → IsSome r → IsInGrammar packet.bytes
read_in_grammar packet None long are e some = cc
read_in_grammar packet (Some update) long are e some =
    let is = read_spelled packet update long are e in
    count_of packet.bytes update is.shows is.in_range

pub grammar_read : GrammarIsRead
grammar_read packet long are = (
  (λ some. read_in_grammar packet (read_update packet) long are refl some),
  (λ is.
      let spelt = spells_some packet.bytes (slice_index packet.bytes 0) long are refl is in
      subst IsSome (sym (spelled_read packet spelt.update spelt.is)) refl),
)
