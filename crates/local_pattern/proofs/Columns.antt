-- Eight entries and their 32 bytes, port by port.
use Rattle.std.proofs.Common.{◌≡◌, ℕ, ◌+◌, ◌*◌, ◌<◌, ◌≤◌, zero, suc, List, [], ◌∷◌, length, take, map, refl, ap, sym, ◌∙◌, arith, drop-cons, get_or}
use Rattle.std.specs.Prelude.{slice_range, Some, None}
use Rattle.std.specs.List.{AllByRecursion}
use Rattle.std.proofs.lemmas.List.{drop_all}
use Rattle.ftpp_base.specs.Bits.{eight}
use Rattle.local_pattern.specs.declared.Entry.{Entry}
use Rattle.local_pattern.specs.Pattern.{quiet, room, quiet_column, read_entry, read_column, column_bytes, IsPlain, ArePlain}
use Rattle.local_pattern.proofs.Entries.{read_entry-plain}
use Rattle.local_pattern.proofs.RoundTrip.{read_column-column_bytes}

-- the entries below a port are those that the row shows, and the others room
pub record HasRead (row : List ℕ) (port : ℕ) (entries : List Entry) : Type 0 where
  pub long : length entries ≡ 8
  pub shown : (p : ℕ) → p < port → get_or entries p quiet ≡ read_entry (slice_range row (4 * p) (4 * p + 4))
  pub others : (p : ℕ) → port ≤ p → p < 8 → get_or entries p quiet ≡ room

-- a list of eight items by its places
pub eight_items : (xs : List Entry) → length xs ≡ 8 → xs ≡ map (λ i. get_or xs i quiet) eight
eight_items xs long =
    drop-cons xs 0 quiet (omega arith)
    ∙ ap (λ l. get_or xs 0 quiet ∷ l) (drop-cons xs 1 quiet (omega arith)
    ∙ ap (λ l. get_or xs 1 quiet ∷ l) (drop-cons xs 2 quiet (omega arith)
    ∙ ap (λ l. get_or xs 2 quiet ∷ l) (drop-cons xs 3 quiet (omega arith)
    ∙ ap (λ l. get_or xs 3 quiet ∷ l) (drop-cons xs 4 quiet (omega arith)
    ∙ ap (λ l. get_or xs 4 quiet ∷ l) (drop-cons xs 5 quiet (omega arith)
    ∙ ap (λ l. get_or xs 5 quiet ∷ l) (drop-cons xs 6 quiet (omega arith)
    ∙ ap (λ l. get_or xs 6 quiet ∷ l) (drop-cons xs 7 quiet (omega arith)
    ∙ ap (λ l. get_or xs 7 quiet ∷ l) (drop_all 8 xs (omega arith)))))))))

-- eight entries that are read are those of the row
pub all_read : (row : List ℕ) (port : ℕ) (entries : List Entry) → HasRead row port entries → 8 ≤ port → entries ≡ read_column (Some row)
unfolding read_column
all_read row port entries read all = eight_items entries read.long ∙ λ i.
    read.shown 0 (omega arith) i
    ∷ read.shown 1 (omega arith) i
    ∷ read.shown 2 (omega arith) i
    ∷ read.shown 3 (omega arith) i
    ∷ read.shown 4 (omega arith) i
    ∷ read.shown 5 (omega arith) i
    ∷ read.shown 6 (omega arith) i
    ∷ read.shown 7 (omega arith) i
    ∷ []

-- entries that are read are plain
pub read_plain : (row : List ℕ) → ArePlain (read_column (Some row))
unfolding read_column
read_plain row zero = read_entry-plain _
read_plain row (suc zero) = read_entry-plain _
read_plain row (suc (suc zero)) = read_entry-plain _
read_plain row (suc (suc (suc zero))) = read_entry-plain _
read_plain row (suc (suc (suc (suc zero)))) = read_entry-plain _
read_plain row (suc (suc (suc (suc (suc zero))))) = read_entry-plain _
read_plain row (suc (suc (suc (suc (suc (suc zero)))))) = read_entry-plain _
read_plain row (suc (suc (suc (suc (suc (suc (suc zero))))))) = read_entry-plain _
read_plain row (suc (suc (suc (suc (suc (suc (suc (suc p)))))))) = λ _. refl

-- ---- written

-- the entries below a port are written
pub record HasWritten (entries : List Entry) (port : ℕ) (bytes : List ℕ) : Type 0 where
  pub long : length bytes ≡ 32
  pub written : take (4 * port) bytes ≡ column_bytes (take port entries)

-- the row of eight plain entries reads as these entries
pub read_back : (entries : List Entry) → length entries ≡ 8 → ArePlain entries → read_column (Some (column_bytes entries)) ≡ entries
read_back entries long plain =
    let by_item = eight_items entries long in
    let all : AllByRecursion IsPlain (map (λ i. get_or entries i quiet) eight) = (plain 0, (plain 1, (plain 2, (plain 3, (plain 4, (plain 5, (plain 6, (plain 7, tt)))))))) in
    ap (λ l. read_column (Some (column_bytes l))) by_item ∙ read_column-column_bytes _ _ _ _ _ _ _ _ all ∙ sym by_item

-- an absent row reads as no request and no space at any port
pub read_absent : read_column None ≡ quiet_column
unfolding read_column
read_absent = refl
