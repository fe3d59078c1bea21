-- A slot's bytes and its fields say the same.
use Rattle.std.proofs.Common.{◌≡◌, ℕ, ◌+◌, ◌*◌, ◌<◌, ◌≤◌, zero, suc, List, [], ◌∷◌, ◌++◌, Option, Some, None, length, take, drop, refl, ap, sym, ◌∙◌, arith, subst, take_all}
use Rattle.std.specs.Prelude.{slice_index, slice_range}
use Rattle.std.specs.List.{flat_map}
use Rattle.std.proofs.lemmas.List.{drop_more}
use Rattle.ftpp_base.specs.declared.element.Proc.{Proc}
use Rattle.packet_format.specs.Numbers.{two_bytes, four_bytes}
use Rattle.packet_format.specs.Packets.{filled_up}
use Rattle.packet_format.specs.declared.Descriptor.{Descriptor}
use Rattle.config_table.specs.declared.groups.Group.{Group}
use Rattle.config_table.specs.declared.decisions.StateRow.{StateRow}
use Rattle.config_table.specs.Groups.{members_of}
use Rattle.rejoin.specs.State.{member_bytes, group_bytes, request_bytes, row_bytes}
use Rattle.rejoin.specs.Grammar.{member_or_zeros, ShowsGroup, ShowsRequest, ShowsRow}
use Rattle.rejoin.proofs.Slots.{row_with}

-- what holds of the numbers below 4
by_four : (P : ℕ → Type 0) → P 0 → P 1 → P 2 → P 3 → (k : ℕ) → k < 4 → P k
by_four P a b c d zero h = a
by_four P a b c d (suc zero) h = b
by_four P a b c d (suc (suc zero)) h = c
by_four P a b c d (suc (suc (suc zero))) h = d
by_four P a b c d (suc (suc (suc (suc k)))) h = let never : ⊥ = omega arith in absurd never

-- some bytes from a place on, one by one
abbrev pub items : List ℕ → ℕ → ℕ → List ℕ
items bytes i zero = []
items bytes i (suc n) = slice_index bytes i ∷ items bytes (i + 1) n

pub take-items : (bytes : List ℕ) (n i : ℕ) → i + n ≤ length bytes → take n (drop i bytes) ≡ items bytes i n
take-items bytes zero i fits = refl
take-items bytes (suc n) i fits =
    ap (take (suc n)) (drop_more bytes i 0 (omega arith))
    ∙ ap (λ l. slice_index bytes i ∷ l) (take-items bytes n (i + 1) (omega arith))

-- ---- a group

-- at most four members, and zeros for those that are missing
abbrev eight : List Proc → List ℕ
eight ms =
    (member_or_zeros ms 0).ne ∷ (member_or_zeros ms 0).port ∷ (member_or_zeros ms 1).ne ∷ (member_or_zeros ms 1).port
    ∷ (member_or_zeros ms 2).ne ∷ (member_or_zeros ms 2).port ∷ (member_or_zeros ms 3).ne ∷ (member_or_zeros ms 3).port ∷ []

eight_bytes : (ms : List Proc) → length ms ≤ 4 → eight ms ≡ filled_up 8 (flat_map member_bytes ms)
eight_bytes [] few = refl
eight_bytes (p ∷ []) few = refl
eight_bytes (p ∷ q ∷ []) few = refl
eight_bytes (p ∷ q ∷ r ∷ []) few = refl
eight_bytes (p ∷ q ∷ r ∷ s ∷ []) few = refl
eight_bytes (p ∷ q ∷ r ∷ s ∷ t ∷ more) few = let no_such : ⊥ = omega arith in absurd no_such

-- the bytes of a group with these eight of its members
abbrev bytes_with : Group → List ℕ → List ℕ
bytes_with g pairs =
    (g.vid ∷ length (members_of g) ∷ []) ++ pairs ++ (g.masked.bits ∷ []) ++ two_bytes g.ts ++ two_bytes g.tr ++ two_bytes g.tx ++ (g.outs ∷ g.ins ∷ [])

-- the bytes of a group show it
pub group_shown : (g : Group) → length (members_of g) ≤ 4 → ShowsGroup (group_bytes g) g
group_shown g few = subst (λ pairs. ShowsGroup (bytes_with g pairs) g) (eight_bytes (members_of g) few) (record {
  number = refl;
  size = refl;
  element = by_four (λ k. slice_index (bytes_with g (eight (members_of g))) (2 + 2 * k) ≡ (member_or_zeros (members_of g) k).ne) refl refl refl refl;
  port = by_four (λ k. slice_index (bytes_with g (eight (members_of g))) (3 + 2 * k) ≡ (member_or_zeros (members_of g) k).port) refl refl refl refl;
  masked = refl;
  ts = refl;
  tr = refl;
  tx = refl;
  outs = refl;
  ins = refl;
})

-- bytes that show the members are theirs
pairs_of : (bytes : List ℕ) (ms : List Proc) → length ms ≤ 4
    → ((k : ℕ) → k < 4 → slice_index bytes (2 + 2 * k) ≡ (member_or_zeros ms k).ne) → ((k : ℕ) → k < 4 → slice_index bytes (3 + 2 * k) ≡ (member_or_zeros ms k).port)
    → items bytes 2 8 ≡ filled_up 8 (flat_map member_bytes ms)
pairs_of bytes ms few element port =
    (λ i.
    element 0 (omega arith) i ∷ port 0 (omega arith) i ∷ element 1 (omega arith) i ∷ port 1 (omega arith) i
    ∷ element 2 (omega arith) i ∷ port 2 (omega arith) i ∷ element 3 (omega arith) i ∷ port 3 (omega arith) i ∷ [])
    ∙ eight_bytes ms few

-- 19 bytes that show a group are its bytes
pub shown_group : (bytes : List ℕ) (g : Group) → length bytes ≡ 19 → length (members_of g) ≤ 4 → ShowsGroup bytes g → bytes ≡ group_bytes g
shown_group bytes g long few shows =
    let pairs = pairs_of bytes (members_of g) few shows.element shows.port in
    let ts : items bytes 11 2 ≡ two_bytes g.ts = sym (take-items bytes 2 11 (omega arith)) ∙ shows.ts in
    let tr : items bytes 13 2 ≡ two_bytes g.tr = sym (take-items bytes 2 13 (omega arith)) ∙ shows.tr in
    let tx : items bytes 15 2 ≡ two_bytes g.tx = sym (take-items bytes 2 15 (omega arith)) ∙ shows.tx in
    let all : take 19 bytes ≡ bytes = take_all 19 bytes (omega arith) in
    sym all ∙ take-items bytes 19 0 (omega arith)
    ∙ (λ i. (shows.number i ∷ shows.size i ∷ []) ++ pairs i ++ (shows.masked i ∷ []) ++ ts i ++ tr i ++ tx i ++ (shows.outs i ∷ shows.ins i ∷ []))

-- ---- a row

row_fields : (vid : ℕ) (request : Option (Descriptor × ℕ × ℕ)) (a b c d : ℕ)
    → ShowsRow (row_bytes (row_with vid request (a ∷ b ∷ c ∷ d ∷ []))) (row_with vid request (a ∷ b ∷ c ∷ d ∷ []))
row_fields vid None a b c d = record {
  request = refl;
  lag =
      by_four (λ k. slice_range (row_bytes (row_with vid None (a ∷ b ∷ c ∷ d ∷ []))) (12 + 4 * k) (16 + 4 * k) ≡ four_bytes (slice_index (a ∷ b ∷ c ∷ d ∷ []) k))
      refl refl refl refl;
}
row_fields vid (Some (desc, since, starved)) a b c d = record {
  request = record { present = refl; dest = refl; class = refl; source = refl; from = refl; without_space = refl };
  lag =
      by_four
      (λ k. slice_range (row_bytes (row_with vid (Some (desc, since, starved)) (a ∷ b ∷ c ∷ d ∷ []))) (12 + 4 * k) (16 + 4 * k) ≡ four_bytes (slice_index (a ∷ b ∷ c ∷ d ∷ []) k))
      refl refl refl refl;
}

row_of_lags : (vid : ℕ) (request : Option (Descriptor × ℕ × ℕ)) (lags : List ℕ) → length lags ≡ 4 → ShowsRow (row_bytes (row_with vid request lags)) (row_with vid request lags)
row_of_lags vid request [] four = let no_such : ⊥ = omega arith in absurd no_such
row_of_lags vid request (a ∷ []) four = let no_such : ⊥ = omega arith in absurd no_such
row_of_lags vid request (a ∷ b ∷ []) four = let no_such : ⊥ = omega arith in absurd no_such
row_of_lags vid request (a ∷ b ∷ c ∷ []) four = let no_such : ⊥ = omega arith in absurd no_such
row_of_lags vid request (a ∷ b ∷ c ∷ d ∷ []) four = row_fields vid request a b c d
row_of_lags vid request (a ∷ b ∷ c ∷ d ∷ e ∷ more) four = let no_such : ⊥ = omega arith in absurd no_such

-- the bytes of a row show it
pub row_shown : (row : StateRow) → length row.lags ≡ 4 → ShowsRow (row_bytes row) row
row_shown row four = row_of_lags row.vid row.request row.lags four

request_of : (bytes : List ℕ) (request : Option (Descriptor × ℕ × ℕ)) → length bytes ≡ 28 → ShowsRequest bytes request → items bytes 0 12 ≡ request_bytes request
request_of bytes None long shows = sym (take-items bytes 12 0 (omega arith)) ∙ shows
request_of bytes (Some (desc, since, starved)) long shows =
    let from : items bytes 4 4 ≡ four_bytes since = sym (take-items bytes 4 4 (omega arith)) ∙ shows.from in
    let count : items bytes 8 4 ≡ four_bytes starved = sym (take-items bytes 4 8 (omega arith)) ∙ shows.without_space in
    λ i. (shows.present i ∷ shows.dest i ∷ shows.class i ∷ shows.source i ∷ []) ++ from i ++ count i

-- four lags one by one
four_lags : (lags : List ℕ) → length lags ≡ 4 → lags ≡ slice_index lags 0 ∷ slice_index lags 1 ∷ slice_index lags 2 ∷ slice_index lags 3 ∷ []
four_lags [] four = let no_such : ⊥ = omega arith in absurd no_such
four_lags (a ∷ []) four = let no_such : ⊥ = omega arith in absurd no_such
four_lags (a ∷ b ∷ []) four = let no_such : ⊥ = omega arith in absurd no_such
four_lags (a ∷ b ∷ c ∷ []) four = let no_such : ⊥ = omega arith in absurd no_such
four_lags (a ∷ b ∷ c ∷ d ∷ []) four = refl
four_lags (a ∷ b ∷ c ∷ d ∷ e ∷ more) four = let no_such : ⊥ = omega arith in absurd no_such

-- 28 bytes that show a row are its bytes
pub shown_row : (bytes : List ℕ) (row : StateRow) → length bytes ≡ 28 → length row.lags ≡ 4 → ShowsRow bytes row → bytes ≡ row_bytes row
shown_row bytes row long four shows =
    let request = request_of bytes row.request long shows.request in
    let a : items bytes 12 4 ≡ four_bytes (slice_index row.lags 0) = sym (take-items bytes 4 12 (omega arith)) ∙ shows.lag 0 (omega arith) in
    let b : items bytes 16 4 ≡ four_bytes (slice_index row.lags 1) = sym (take-items bytes 4 16 (omega arith)) ∙ shows.lag 1 (omega arith) in
    let c : items bytes 20 4 ≡ four_bytes (slice_index row.lags 2) = sym (take-items bytes 4 20 (omega arith)) ∙ shows.lag 2 (omega arith) in
    let d : items bytes 24 4 ≡ four_bytes (slice_index row.lags 3) = sym (take-items bytes 4 24 (omega arith)) ∙ shows.lag 3 (omega arith) in
    let all : take 28 bytes ≡ bytes = take_all 28 bytes (omega arith) in
    sym all ∙ take-items bytes 28 0 (omega arith) ∙ (λ i. request i ++ (a i ++ (b i ++ (c i ++ (d i ++ []))))) ∙ ap (λ l. request_bytes row.request ++ flat_map four_bytes l) (sym (four_lags row.lags four))
