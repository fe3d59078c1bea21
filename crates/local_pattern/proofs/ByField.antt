-- The bytes of an entry and its fields say the same.
use Rattle.std.proofs.Common.{◌≡◌, ℕ, ◌+◌, ◌-◌, ◌*◌, ◌<◌, ◌≤◌, zero, suc, Bool, true, false, List, [], ◌∷◌, ◌++◌, length, take, drop, get_or, refl, ap, sym, ◌∙◌, arith, subst, length-drop}
use Rattle.std.specs.Prelude.{slice_index, if◌then◌else◌}
use Rattle.std.proofs.lemmas.List.{take-append-drop, drop-drop, drop_all}
use Rattle.ftpp_base.specs.Bits.{bit}
use Rattle.packet_format.specs.declared.Descriptor.{Descriptor}
use Rattle.local_pattern.specs.declared.Entry.{Entry}
use Rattle.local_pattern.specs.Pattern.{quiet, entry_bytes, entry_from, read_entry, read_column, column_bytes, IsPlain}
use Rattle.local_pattern.specs.Grammar.{IsInGrammar, IsSpelled, IsRow, entry_slice, SpelledIsRead, GrammarIsSpelled, OutsideIsQuiet, RowIsRead, EncodedIsRow, OneSpelling, OneMeaning}
use Rattle.local_pattern.proofs.RoundTrip.{entry}
use Rattle.local_pattern.proofs.Entries.{read_entry-shown, read_entry-none}
use Rattle.local_pattern.proofs.Columns.{eight_items}

-- ---- one entry

-- flags up to 3 are the sum of their bits
flags_sum : (n : ℕ) → n ≤ 3 → n ≡ (if bit n 0 then 1 else 0) + (if bit n 1 then 2 else 0)
flags_sum zero few = refl
flags_sum (suc zero) few = refl
flags_sum (suc (suc zero)) few = refl
flags_sum (suc (suc (suc zero))) few = refl
flags_sum (suc (suc (suc (suc n)))) few = let never : ⊥ = omega arith in absurd never

-- the bytes of an entry spell it
entry_spelled : (b c : Bool) (desc : Descriptor) → IsPlain (entry b c desc) → IsSpelled (entry_bytes (entry b c desc)) (entry b c desc)
entry_spelled true true desc plain = record { long = refl; flags = omega arith; not_empty = refl; not_full = refl; dest = refl; class = refl; source = refl; plain = plain }
entry_spelled true false desc plain = record { long = refl; flags = omega arith; not_empty = refl; not_full = refl; dest = refl; class = refl; source = refl; plain = plain }
entry_spelled false true desc plain = record {
  long = refl;
  flags = omega arith;
  not_empty = refl;
  not_full = refl;
  dest = ap (λ (d : Descriptor). d.dest) (sym (plain refl));
  class = ap (λ (d : Descriptor). d.class) (sym (plain refl));
  source = ap (λ (d : Descriptor). d.source) (sym (plain refl));
  plain = plain;
}
entry_spelled false false desc plain = record {
  long = refl;
  flags = omega arith;
  not_empty = refl;
  not_full = refl;
  dest = ap (λ (d : Descriptor). d.dest) (sym (plain refl));
  class = ap (λ (d : Descriptor). d.class) (sym (plain refl));
  source = ap (λ (d : Descriptor). d.source) (sym (plain refl));
  plain = plain;
}

-- they are in the grammar, also those of an entry that is not plain
entry_in_grammar : (b c : Bool) (desc : Descriptor) → IsInGrammar (entry_bytes (entry b c desc))
entry_in_grammar true true desc = record { long = refl; flags = omega arith; zeros = λ clear. cc }
entry_in_grammar true false desc = record { long = refl; flags = omega arith; zeros = λ clear. cc }
entry_in_grammar false true desc = record { long = refl; flags = omega arith; zeros = λ clear. (refl, refl, refl) }
entry_in_grammar false false desc = record { long = refl; flags = omega arith; zeros = λ clear. (refl, refl, refl) }

-- the bytes behind the flags are shown as they are
shown_tail : (b c : Bool) (desc : Descriptor) → IsPlain (entry b c desc)
    → entry_bytes (entry b c desc) ≡ ((if b then 1 else 0) + (if c then 2 else 0)) ∷ desc.dest ∷ desc.class ∷ desc.source ∷ []
shown_tail true c desc plain = refl
shown_tail false c desc plain =
    λ i. ((if false then 1 else 0) + (if c then 2 else 0)) ∷ (sym (plain refl) i).dest ∷ (sym (plain refl) i).class ∷ (sym (plain refl) i).source ∷ []

four_bytes_are : (bytes : List ℕ) → length bytes ≡ 4 → bytes ≡ slice_index bytes 0 ∷ slice_index bytes 1 ∷ slice_index bytes 2 ∷ slice_index bytes 3 ∷ []
four_bytes_are [] long = let never : ⊥ = omega arith in absurd never
four_bytes_are (a ∷ []) long = let never : ⊥ = omega arith in absurd never
four_bytes_are (a ∷ b ∷ []) long = let never : ⊥ = omega arith in absurd never
four_bytes_are (a ∷ b ∷ c ∷ []) long = let never : ⊥ = omega arith in absurd never
four_bytes_are (a ∷ b ∷ c ∷ d ∷ []) long = refl
four_bytes_are (a ∷ b ∷ c ∷ d ∷ e ∷ more) long = let never : ⊥ = omega arith in absurd never

-- bytes that spell an entry are its bytes
spelled_bytes : (bytes : List ℕ) (e : Entry) → IsSpelled bytes e → bytes ≡ entry_bytes e
spelled_bytes bytes e is =
    let flags : slice_index bytes 0 ≡ (if e.not_empty then 1 else 0) + (if e.not_full then 2 else 0) =
    flags_sum (slice_index bytes 0) is.flags ∙ (λ i. (if is.not_empty i then 1 else 0) + (if is.not_full i then 2 else 0)) in
    four_bytes_are bytes is.long
    ∙ (λ i. flags i ∷ is.dest i ∷ is.class i ∷ is.source i ∷ [])
    ∙ sym (shown_tail e.not_empty e.not_full e.desc is.plain)

pub spelled_read : SpelledIsRead
spelled_read bytes e is = read_entry-shown bytes e (spelled_bytes bytes e is) is.plain

-- bytes in the grammar spell the only entry that they can be
grammar_spells : (bytes : List ℕ) → IsInGrammar bytes → IsSpelled bytes (entry_from bytes)
grammar_spells bytes is = record {
  long = is.long;
  flags = is.flags;
  not_empty = refl;
  not_full = refl;
  dest = refl;
  class = refl;
  source = refl;
  plain = λ clear. let zeros = is.zeros clear in (λ i. record { dest = zeros.0 i; class = zeros.1 i; source = zeros.2 i });
}

spelled_in_grammar : (bytes : List ℕ) (e : Entry) → IsSpelled bytes e → IsInGrammar bytes
spelled_in_grammar bytes e is = subst IsInGrammar (sym (spelled_bytes bytes e is)) (entry_in_grammar e.not_empty e.not_full e.desc)

pub grammar_spelled : GrammarIsSpelled
grammar_spelled bytes = (
  (λ is. let spells = grammar_spells bytes is in subst (IsSpelled bytes) (sym (spelled_read bytes (entry_from bytes) spells)) spells),
  spelled_in_grammar bytes (read_entry bytes),
)

pub outside_quiet : OutsideIsQuiet
outside_quiet bytes outside =
    read_entry-none bytes (λ e shows. outside (subst IsInGrammar (sym shows) (entry_in_grammar e.not_empty e.not_full e.desc)))

-- ---- rows

-- bytes that are cut into entries are those of all of them
joined : (entries : List Entry) (row : List ℕ) → length row ≡ 4 * length entries
    → ((port : ℕ) → port < length entries → take 4 (drop (4 * port) row) ≡ entry_bytes (get_or entries port quiet)) → row ≡ column_bytes entries
joined [] row long cut = drop_all 0 row (omega arith)
joined (e ∷ es) row long cut =
    let left = length-drop 4 row in
    let first : take 4 row ≡ entry_bytes e = cut 0 (omega arith) in
    let rest : drop 4 row ≡ column_bytes es =
    joined es (drop 4 row) (omega arith) (λ port h.
    let at : 4 + 4 * port ≡ 4 * suc port = omega arith in
    ap (take 4) (drop-drop (4 * port) 4 row ∙ ap (λ n. drop n row) at) ∙ cut (suc port) (omega arith)) in
    sym (take-append-drop 4 row) ∙ (λ i. first i ++ rest i)

size_four : (port : ℕ) → (4 * port + 4) - 4 * port ≡ 4
size_four port = omega arith

row_bytes : (row : List ℕ) (entries : List Entry) → IsRow row entries → row ≡ column_bytes entries
row_bytes row entries is =
    joined entries row (let long = is.long in let count = is.eight in omega arith) (λ port h.
    ap (λ n. take n (drop (4 * port) row)) (sym (size_four port))
    ∙ spelled_bytes (entry_slice row port) (get_or entries port quiet) (is.entry port (omega (arith, is.eight))))

pub row_read : RowIsRead
unfolding read_column
row_read row entries is = (λ i.
    spelled_read (entry_slice row 0) (get_or entries 0 quiet) (is.entry 0 (omega arith)) i
    ∷ spelled_read (entry_slice row 1) (get_or entries 1 quiet) (is.entry 1 (omega arith)) i
    ∷ spelled_read (entry_slice row 2) (get_or entries 2 quiet) (is.entry 2 (omega arith)) i
    ∷ spelled_read (entry_slice row 3) (get_or entries 3 quiet) (is.entry 3 (omega arith)) i
    ∷ spelled_read (entry_slice row 4) (get_or entries 4 quiet) (is.entry 4 (omega arith)) i
    ∷ spelled_read (entry_slice row 5) (get_or entries 5 quiet) (is.entry 5 (omega arith)) i
    ∷ spelled_read (entry_slice row 6) (get_or entries 6 quiet) (is.entry 6 (omega arith)) i
    ∷ spelled_read (entry_slice row 7) (get_or entries 7 quiet) (is.entry 7 (omega arith)) i
    ∷ []) ∙ sym (eight_items entries is.eight)

-- the bytes of an entry stand at its place
cut : (entries : List Entry) (port : ℕ) → port < length entries → take 4 (drop (4 * port) (column_bytes entries)) ≡ entry_bytes (get_or entries port quiet)
cut [] port h = let never : ⊥ = omega arith in absurd never
cut (e ∷ es) zero h = refl
cut (e ∷ es) (suc port) h =
    let at : 4 * suc port ≡ suc (suc (suc (suc (4 * port)))) = omega arith in
    ap (λ n. take 4 (drop n (column_bytes (e ∷ es)))) at ∙ cut es port (omega arith)

length-column : (entries : List Entry) → length (column_bytes entries) ≡ 4 * length entries
length-column [] = refl
length-column (e ∷ es) = let rest = length-column es in omega arith

pub encoded_row : EncodedIsRow
encoded_row entries count plain = record {
  long = let size = length-column entries in omega arith;
  eight = count;
  entry = λ port h.
      let e : Entry = get_or entries port quiet in
      let bytes : entry_slice (column_bytes entries) port ≡ entry_bytes e =
      ap (λ n. take n (drop (4 * port) (column_bytes entries))) (size_four port) ∙ cut entries port (omega arith) in
      subst (λ l. IsSpelled l e) (sym bytes) (entry_spelled e.not_empty e.not_full e.desc (plain port));
}

pub one_spelling : OneSpelling
one_spelling xs ys entries a b = row_bytes xs entries a ∙ sym (row_bytes ys entries b)

pub one_meaning : OneMeaning
one_meaning row entries others a b = sym (row_read row entries a) ∙ row_read row others b
