-- When a packet spells an update: its first bytes are those of the form, and all others are 0.
use Rattle.std.proofs.Common.{◌≡◌, ℕ, zero, suc, ◌+◌, ◌*◌, ◌-◌, ◌<◌, ◌≤◌, Bool, true, false, List, [], ◌∷◌, ◌++◌, length, take, drop, replicate, get_or, refl, ap, sym, ◌∙◌, arith, cond, map}
use Rattle.std.specs.Prelude.{◌&&◌, ◌==◌, min, slice_index, slice_range, Some, None}
use Rattle.std.specs.List.{flat_map, range_with_len}
use Rattle.std.proofs.Math.Seq.{take-add}
use Rattle.std.proofs.lemmas.Bool.{eq-eqb, lt-ltb}
use Rattle.std.proofs.lemmas.List.{drop_more}
use Rattle.std.proofs.lemmas.List.FromFn.{length-map-range_with_len}
use lib.Pointwise.{bytes_decides}
use Rattle.ftpp_base.specs.declared.element.Proc.{Proc}
use Rattle.packet_format.specs.Numbers.{AreBytes, two_bytes, number_from}
use Rattle.packet_format.specs.Packets.{filled_up, same_bytes}
use Rattle.packet_format.proofs.NumberLaws.{two_back}
use Rattle.table_update.specs.declared.Update.{Update}
use Rattle.table_update.specs.declared.Update.TheVariants.{Mask, Admit, Timeouts, Dissolve, Form}
use Rattle.table_update.specs.Updates.{all_zero, proc_bytes, named_bytes, update_bytes, members_from, if_spelled, has_index}

and_true : (b : Bool) → (b && true) ≡ b
and_true true = refl
and_true false = refl

-- bytes against as many zeros
same_zeros : (bytes : List ℕ) → same_bytes bytes (replicate (length bytes) 0) ≡ all_zero bytes
same_zeros [] = refl
same_zeros (b ∷ bs) = ap (λ t. (b == 0) && t) (same_zeros bs)

-- one byte that is the same
same_first : (a b : ℕ) (t : Bool) → a ≡ b → ((a == b) && t) ≡ t
same_first a b t e = ap (λ s. s && t) (eq-eqb a b e)

-- bytes that begin with some, against these with zeros behind them
same_behind : (named bytes : List ℕ) (more : ℕ) → length bytes ≡ length named + more → take (length named) bytes ≡ named
    → same_bytes bytes (named ++ replicate more 0) ≡ all_zero (drop (length named) bytes)
same_behind [] bytes more long e = ap (λ n. same_bytes bytes (replicate n 0)) (let h : more ≡ length bytes = omega arith in h) ∙ same_zeros bytes
same_behind (n ∷ ns) [] more long e = let no_such : ⊥ = omega arith in absurd no_such
same_behind (n ∷ ns) (b ∷ bs) more long e =
    same_first b n (same_bytes bs (ns ++ replicate more 0)) (ap (λ l. get_or l 0 0) e)
    ∙ same_behind ns bs more (omega arith) (ap (drop 1) e)

-- a packet that begins with some bytes, against these filled up with zeros
pub same_filled : (named bytes : List ℕ) → length bytes ≡ 64 → length named ≤ 64 → take (length named) bytes ≡ named
    → same_bytes bytes (filled_up 64 named) ≡ all_zero (drop (length named) bytes)
same_filled named bytes long fits e = same_behind named bytes (64 - length named) (omega arith) e

-- ---- the bytes of a packet at their places

-- some bytes from a place on, one by one
abbrev pub items : List ℕ → ℕ → ℕ → List ℕ
items bytes i zero = []
items bytes i (suc n) = slice_index bytes i ∷ items bytes (i + 1) n

pub take-items : (bytes : List ℕ) (n i : ℕ) → i + n ≤ length bytes → take n (drop i bytes) ≡ items bytes i n
take-items bytes zero i fits = refl
take-items bytes (suc n) i fits =
    ap (take (suc n)) (drop_more bytes i 0 (omega arith))
    ∙ ap (λ l. slice_index bytes i ∷ l) (take-items bytes n (i + 1) (omega arith))

-- two bytes from a place on are those of the number that they are
pub two_at : (bytes : List ℕ) (i : ℕ) → AreBytes bytes → i + 2 ≤ length bytes → two_bytes (number_from (take 2 (drop i bytes))) ≡ slice_index bytes i ∷ slice_index bytes (i + 1) ∷ []
two_at bytes i are fits =
    ap (λ l. two_bytes (number_from l)) (take-items bytes 2 i fits)
    ∙ two_back (items bytes i 2) refl (λ k. at k)
  where
    at : (k : ℕ) → slice_index (items bytes i 2) k < 256
    at zero = are i
    at (suc zero) = are (i + 1)
    at (suc (suc k)) = omega arith

-- ---- each form

-- an update that the first bytes say, where all others are 0, and where not
spelled_by : (bytes : List ℕ) (update : Update) (zeros : Bool) → length bytes ≡ 64 → length (named_bytes update) ≤ 64 → take (length (named_bytes update)) bytes ≡ named_bytes update
    → has_index update ≡ true → zeros ≡ all_zero (drop (length (named_bytes update)) bytes)
    → cond zeros (Some update) None ≡ if_spelled bytes (Some update)
spelled_by bytes update zeros long fits front index is =
    ap (λ b. cond b (Some update) None) (is ∙ sym (same_filled (named_bytes update) bytes long fits front) ∙ sym (and_true (same_bytes bytes (update_bytes update))))
    ∙ ap (λ b. cond (same_bytes bytes (update_bytes update) && b) (Some update) None) (sym index)

-- what is read where the others are 0, and where not
pub is_update : (bytes : List ℕ) (update : Update) (zeros : Bool) → zeros ≡ true → cond zeros (Some update) None ≡ if_spelled bytes (Some update) → Some update ≡ if_spelled bytes (Some update)
is_update bytes update zeros are same = ap (λ b. cond b (Some update) None) (sym are) ∙ same

pub is_none : (bytes : List ℕ) (update : Update) (zeros : Bool) → zeros ≡ false → cond zeros (Some update) None ≡ if_spelled bytes (Some update) → None ≡ if_spelled bytes (Some update)
is_none bytes update zeros are same = ap (λ b. cond b (Some update) None) (sym are) ∙ same

-- a first byte
begins : (bytes : List ℕ) (n form : ℕ) → length bytes ≡ 64 → n < 64 → slice_index bytes 0 ≡ form → take (suc n) bytes ≡ form ∷ items bytes 1 n
begins bytes n form long fits is = take-items bytes (suc n) 0 (omega arith) ∙ ap (λ b. b ∷ items bytes 1 n) is

pub mask_spelled : (bytes : List ℕ) (zeros : Bool) → length bytes ≡ 64 → slice_index bytes 0 ≡ 1 → slice_index bytes 2 < 4 → zeros ≡ all_zero (drop 3 bytes)
    → (let update = Mask (slice_index bytes 1) (slice_index bytes 2) in cond zeros (Some update) None ≡ if_spelled bytes (Some update))
mask_spelled bytes zeros long is small are =
    spelled_by bytes (Mask (slice_index bytes 1) (slice_index bytes 2)) zeros long (omega arith) (begins bytes 2 1 long (omega arith) is) (lt-ltb (slice_index bytes 2) 4 small) are

pub admit_spelled : (bytes : List ℕ) (zeros : Bool) → length bytes ≡ 64 → slice_index bytes 0 ≡ 2 → slice_index bytes 2 < 4 → zeros ≡ all_zero (drop 3 bytes)
    → (let update = Admit (slice_index bytes 1) (slice_index bytes 2) in cond zeros (Some update) None ≡ if_spelled bytes (Some update))
admit_spelled bytes zeros long is small are =
    spelled_by bytes (Admit (slice_index bytes 1) (slice_index bytes 2)) zeros long (omega arith) (begins bytes 2 2 long (omega arith) is) (lt-ltb (slice_index bytes 2) 4 small) are

-- the update that the bytes of timeouts say
abbrev pub timeouts_from : List ℕ → Update
timeouts_from bytes = Timeouts (slice_index bytes 1) (number_from (slice_range bytes 2 4)) (number_from (slice_range bytes 4 6))

pub timeouts_spelled : (bytes : List ℕ) (zeros : Bool) → length bytes ≡ 64 → AreBytes bytes → slice_index bytes 0 ≡ 3 → zeros ≡ all_zero (drop 6 bytes)
    → cond zeros (Some (timeouts_from bytes)) None ≡ if_spelled bytes (Some (timeouts_from bytes))
timeouts_spelled bytes zeros long are is rest =
    let ts = two_at bytes 2 are (omega arith) in
    let tr = two_at bytes 4 are (omega arith) in
    spelled_by bytes (timeouts_from bytes) zeros long (omega arith)
    (begins bytes 5 3 long (omega arith) is ∙ (λ i. 3 ∷ slice_index bytes 1 ∷ (sym ts i ++ sym tr i))) refl rest

pub dissolve_spelled : (bytes : List ℕ) (zeros : Bool) → length bytes ≡ 64 → slice_index bytes 0 ≡ 4 → zeros ≡ all_zero (drop 2 bytes)
    → (let update = Dissolve (slice_index bytes 1) in cond zeros (Some update) None ≡ if_spelled bytes (Some update))
dissolve_spelled bytes zeros long is are =
    spelled_by bytes (Dissolve (slice_index bytes 1)) zeros long (omega arith) (begins bytes 1 4 long (omega arith) is) refl are

-- ---- the pairs of a form

-- the processor of a pair
abbrev pub pair_at : List ℕ → ℕ → Proc
pair_at bytes i = record { ne = slice_index bytes (7 + 2 * i); port = slice_index bytes (8 + 2 * i) }

-- two bytes from a place on, and those behind them
two_more : (bytes : List ℕ) (m i : ℕ) → i + 2 ≤ length bytes → take (suc (suc m)) (drop i bytes) ≡ slice_index bytes i ∷ slice_index bytes (i + 1) ∷ take m (drop (i + 2) bytes)
two_more bytes m i fits =
    ap (take (suc (suc m))) (drop_more bytes i 0 (omega arith))
    ∙ ap (λ l. slice_index bytes i ∷ take (suc m) l) (drop_more bytes (i + 1) 0 (omega arith))
    ∙ ap (λ k. slice_index bytes i ∷ slice_index bytes (i + 1) ∷ take m (drop k bytes)) (let e : i + 1 + 1 ≡ i + 2 = omega arith in e)

-- the pairs from one on are the bytes from its place on
pairs_from : (bytes : List ℕ) (n a : ℕ) → 7 + 2 * a + 2 * n ≤ length bytes → flat_map proc_bytes (map (pair_at bytes) (range_with_len a n)) ≡ take (2 * n) (drop (7 + 2 * a) bytes)
pairs_from bytes zero a fits = refl
pairs_from bytes (suc n) a fits =
    let later : 7 + 2 * (a + 1) ≡ 7 + 2 * a + 2 = omega arith in
    let port : 8 + 2 * a ≡ 7 + 2 * a + 1 = omega arith in
    let both : suc (suc (2 * n)) ≡ 2 * suc n = omega arith in
    ap (λ l. slice_index bytes (7 + 2 * a) ∷ slice_index bytes (8 + 2 * a) ∷ l) (pairs_from bytes n (a + 1) (omega arith))
    ∙ (λ i. slice_index bytes (7 + 2 * a) ∷ slice_index bytes (port i) ∷ take (2 * n) (drop (later i) bytes))
    ∙ sym (two_more bytes (2 * n) (7 + 2 * a) (omega arith))
    ∙ ap (λ m. take m (drop (7 + 2 * a) bytes)) both

pub length-pairs : (procs : List Proc) → length (flat_map proc_bytes procs) ≡ 2 * length procs
length-pairs [] = refl
length-pairs (p ∷ ps) = let more = length-pairs ps in omega arith

-- the update that the bytes of a form say
abbrev pub form_from : List ℕ → Update
form_from bytes = Form (slice_index bytes 1) (record { items = members_from bytes }) (number_from (slice_range bytes 3 5)) (number_from (slice_range bytes 5 7))

pub length-members : (bytes : List ℕ) → length (members_from bytes) ≡ min (slice_index bytes 2) 4
length-members bytes = length-map-range_with_len (pair_at bytes) 0 (min (slice_index bytes 2) 4)

-- a size in range: the first bytes are those of the form
form_front : (bytes : List ℕ) → length bytes ≡ 64 → AreBytes bytes → slice_index bytes 0 ≡ 5 → slice_index bytes 2 ≤ 4
    → take (7 + 2 * slice_index bytes 2) bytes ≡ named_bytes (form_from bytes)
form_front bytes long are is small =
    let size = slice_index bytes 2 in
    let ts = two_at bytes 3 are (omega arith) in
    let tr = two_at bytes 5 are (omega arith) in
    let least : min size 4 ≡ size = omega arith in
    let count : length (members_from bytes) ≡ size = length-members bytes ∙ least in
    let pairs : flat_map proc_bytes (members_from bytes) ≡ take (2 * size) (drop 7 bytes) =
    ap (λ n. flat_map proc_bytes (map (pair_at bytes) (range_with_len 0 n))) least ∙ pairs_from bytes size 0 (omega arith) in
    take-add 7 (2 * size) bytes
    ∙ ap (λ l. l ++ take (2 * size) (drop 7 bytes)) (begins bytes 6 5 long (omega arith) is)
    ∙ (λ i. 5 ∷ slice_index bytes 1 ∷ sym count i ∷ (sym ts i ++ sym tr i ++ sym pairs i))

length-form : (bytes : List ℕ) → slice_index bytes 2 ≤ 4 → length (named_bytes (form_from bytes)) ≡ 7 + 2 * slice_index bytes 2
length-form bytes small = let all = length-pairs (members_from bytes) in let count = length-members bytes in omega arith

pub form_spelled : (bytes : List ℕ) (zeros : Bool) → length bytes ≡ 64 → AreBytes bytes → slice_index bytes 0 ≡ 5 → slice_index bytes 2 ≤ 4 → zeros ≡ all_zero (drop (7 + 2 * slice_index bytes 2) bytes)
    → cond zeros (Some (form_from bytes)) None ≡ if_spelled bytes (Some (form_from bytes))
form_spelled bytes zeros long are is small rest =
    let count = length-form bytes small in
    spelled_by bytes (form_from bytes) zeros long (omega (arith, count)) (ap (λ n. take n bytes) count ∙ form_front bytes long are is small) refl
    (rest ∙ ap (λ n. all_zero (drop n bytes)) (sym count))

-- a size out of range: the size that would be spelled is another
pub form_large : (bytes : List ℕ) → 4 < slice_index bytes 2 → None ≡ if_spelled bytes (Some (form_from bytes))
form_large bytes large = sym (by (same_bytes bytes (update_bytes (form_from bytes))) refl) where
  by : (b : Bool) → same_bytes bytes (update_bytes (form_from bytes)) ≡ b → cond (b && true) (Some (form_from bytes)) None ≡ None
  by true e =
      let size : slice_index bytes 2 ≡ length (members_from bytes) = ap (λ l. get_or l 2 0) ((bytes_decides bytes (update_bytes (form_from bytes))).0 e) in
      let count = length-members bytes in
      let no_such : ⊥ = omega arith in absurd no_such
  by false e = refl
