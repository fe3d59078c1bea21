-- What is read or written one after the other, up to one place.
use Rattle.std.proofs.Common.{◌≡◌, ℕ, ◌+◌, ◌<◌, ◌≤◌, List, [], ◌∷◌, ◌++◌, None, length, get_or, take, map, sym, ◌∙◌, ap, arith, append_assoc, append-nil, subst, take_all}
use Rattle.std.specs.Prelude.{All}
use Rattle.std.specs.List.{flat_map, zip, range_with_len}
use Rattle.std.proofs.lemmas.Grind.{flat_map-append}
use Rattle.std.proofs.lemmas.List.{take_more}
use Rattle.std.proofs.lemmas.List.Elements.{All-get_or, All-more}
use Rattle.std.proofs.lemmas.List.FromFn.{map-range_with_len_more}
use Rattle.std.proofs.lemmas.Slice.Zip.{length-zip, get_or-zip}
use Rattle.config_table.specs.declared.groups.Group.{Group}
use Rattle.config_table.specs.declared.decisions.StateRow.{StateRow}

-- one more is made
pub made_more : {A : Type 0} (f : ℕ → A) (i : ℕ) (xs ys : List A) → xs ≡ map f (range_with_len 0 i) → ys ≡ xs ++ f i ∷ [] → ys ≡ map f (range_with_len 0 (i + 1))
made_more f i xs ys before more = more ∙ ap (λ l. l ++ f i ∷ []) before ∙ sym (map-range_with_len_more f 0 i i (omega arith))

-- the bytes of one more are written
pub written_more : {X : Type 0} (f : X → List ℕ) (text out new : List ℕ) (xs : List X) (i : ℕ) (d : X) → i < length xs
    → out ≡ text ++ flat_map f (take i xs) → new ≡ out ++ f (get_or xs i d) → new ≡ text ++ flat_map f (take (i + 1) xs)
written_more f text out new xs i d h before more =
    let last : flat_map f (get_or xs i d ∷ []) ≡ f (get_or xs i d) = append-nil (f (get_or xs i d)) in
    more
    ∙ ap (λ l. l ++ f (get_or xs i d)) before
    ∙ append_assoc text (flat_map f (take i xs)) (f (get_or xs i d))
    ∙ ap (λ l. text ++ (flat_map f (take i xs) ++ l)) (sym last)
    ∙ ap (λ l. text ++ l) (sym (flat_map-append f (take i xs) (get_or xs i d ∷ [])) ∙ ap (flat_map f) (sym (take_more xs i d h)))

-- ---- groups, each with its row

-- what a row of a place past the end is read as
abbrev pub no_row : StateRow
no_row = record { vid = 0; request = None; lags = [] }

pub length-pairs : (groups : List Group) (rows : List StateRow) → length rows ≡ length groups → length (zip groups rows) ≡ length groups
length-pairs groups rows e = let both = length-zip groups rows in omega arith

-- the group and the row of a place, where the groups were seen by another name
pub pair_at : (seen groups : List Group) (rows : List StateRow) (i : ℕ) (g : Group) → seen ≡ groups → length rows ≡ length groups → i < length seen
    → g ≡ get_or seen i g → get_or (zip groups rows) i (g, no_row) ≡ (g, get_or rows i no_row)
pair_at seen groups rows i g same e h is =
    let here : i < length groups = let long = ap length same in omega arith in
    get_or-zip groups rows i (g, no_row) here (omega arith)
    ∙ ap (λ x. (x, get_or rows i no_row)) (sym (is ∙ ap (λ l. get_or l i g) same))

module _ (P : Group × StateRow → Type 0) (seen groups : List Group) (rows : List StateRow) (same : seen ≡ groups) (e : length rows ≡ length groups) where
  module _ (i : ℕ) (g : Group) (h : i < length seen) (is : g ≡ get_or seen i g) where
    there : i < length (zip groups rows)
    there = let long = ap length same in let pairs = length-pairs groups rows e in omega arith

    -- what holds of all pairs holds at a place
    pub holds_at : All P (zip groups rows) → P (g, get_or rows i no_row)
    holds_at all = subst P (pair_at seen groups rows i g same e h is) (All-get_or P (zip groups rows) i (g, no_row) there all)

    -- and of one more, where it holds there
    pub holds_more : All P (take i (zip groups rows)) → P (g, get_or rows i no_row) → All P (take (i + 1) (zip groups rows))
    holds_more all here = All-more P (zip groups rows) i (g, no_row) there all (subst P (sym (pair_at seen groups rows i g same e h is)) here)

-- at the end all pairs are taken
pub all_pairs : (seen groups : List Group) (rows : List StateRow) (i : ℕ) → seen ≡ groups → length rows ≡ length groups → length seen ≤ i
    → take i (zip groups rows) ≡ zip groups rows
all_pairs seen groups rows i same e past =
    take_all i (zip groups rows) (let long = ap length same in let pairs = length-pairs groups rows e in omega arith)
