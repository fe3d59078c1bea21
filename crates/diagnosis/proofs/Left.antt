-- The suspects that are left, entry by entry.
use Rattle.std.proofs.Common.{◌≡◌, ℕ, ◌+◌, ◌<◌, Bool, true, false, cond, not, List, [], ◌∷◌, ◌++◌, length, map, take, get_or, filter, refl, ap, arith, sym, ◌∙◌}
use Rattle.std.specs.Prelude.{◌&&◌, ◌||◌}
use Rattle.std.specs.List.{list_all}
use Rattle.std.proofs.lemmas.List.{take_more}
use Rattle.std.proofs.lemmas.List.FromFn.{length-range_with_len, map-range_with_len_more}
use Rattle.std.proofs.lemmas.List.Folds.{list_all-append}
use Rattle.ftpp_base.specs.Lists.{below, others}
use Rattle.syndrome_log.specs.declared.Syndrome.{Syndrome}
use Rattle.element_core.specs.Claims.{is_of_copies}
use Rattle.diagnosis.specs.Suspects.{is_named_in, is_left_by, is_suspect}
use Rattle.diagnosis.specs.Laws.{NotedInTurn}

-- ---- the numbers below a number more

-- a list with nothing done to its items
map_same : (xs : List ℕ) → map (λ (x : ℕ). x) xs ≡ xs
map_same [] = refl
map_same (x ∷ xs) = ap (λ ys. x ∷ ys) (map_same xs)

pub below_more : (k : ℕ) → below (k + 1) ≡ below k ++ k ∷ []
below_more k =
    sym (map_same (below (k + 1))) ∙ map-range_with_len_more (λ (x : ℕ). x) 0 k k (omega arith) ∙ ap (λ xs. xs ++ k ∷ []) (map_same (below k))

pub below_length : (xs : List ℕ) (k : ℕ) → xs ≡ below k → length xs ≡ k
below_length xs k e = ap length e ∙ length-range_with_len 0 k

-- ---- filters

-- where all pass, all are kept
pub filter-all : {A : Type 0} (xs : List A) → filter (λ x. true) xs ≡ xs
filter-all [] = refl
filter-all (x ∷ xs) = ap (λ ys. x ∷ ys) (filter-all xs)

-- one item, by both tests
both_by : {A : Type 0} (p : A → Bool) (b c : Bool) (x : A) (xs ys : List A) → p x ≡ c → filter p xs ≡ ys → filter p (cond b (x ∷ xs) xs) ≡ cond (b && c) (x ∷ ys) ys
both_by p true c x xs ys e same = (λ t. cond (e t) (x ∷ same t) (same t))
both_by p false c x xs ys e same = same

-- what two tests keep, one after the other
pub filter-filter : {A : Type 0} (p q : A → Bool) (xs : List A) → filter p (filter q xs) ≡ filter (λ x. q x && p x) xs
filter-filter p q [] = refl
filter-filter p q (x ∷ xs) = both_by p (q x) (p x) x (filter q xs) (filter (λ y. q y && p y) xs) refl (filter-filter p q xs)

-- ---- one entry more

-- the last of some passes
all_last : {A : Type 0} (p : A → Bool) (xs : List A) (x : A) → list_all p (xs ++ x ∷ []) ≡ (list_all p xs && p x)
all_last p [] x = by (p x) where
  by : (b : Bool) → (b && true) ≡ (true && b)
  by true = refl
  by false = refl
all_last p (y ∷ ys) x = ap (λ b. p y && b) (all_last p ys x) ∙ by (p y) (list_all p ys) (p x) where
  by : (a b c : Bool) → (a && (b && c)) ≡ ((a && b) && c)
  by true b c = refl
  by false b c = refl

-- **the suspects with one entry more are those that it leaves**
pub noted_more : (noted : List Syndrome) (s : Syndrome) (left : List ℕ) → filter (is_left_by s) (filter (is_suspect noted) left) ≡ filter (is_suspect (noted ++ s ∷ [])) left
noted_more noted s left =
    filter-filter (is_left_by s) (is_suspect noted) left
    ∙ (λ t. filter (λ ne. sym (all_last (λ (e : Syndrome). is_left_by e ne) noted s) t) left)

-- the same of a list of entries and its next one
pub noted_next : (noted : List Syndrome) (k : ℕ) (s : Syndrome) (left now : List ℕ) → k < length noted → s ≡ get_or noted k s
    → now ≡ filter (is_suspect (take k noted)) left → filter (is_left_by s) now ≡ filter (is_suspect (take (k + 1) noted)) left
noted_next noted k s left now l is held =
    ap (filter (is_left_by s)) held ∙ noted_more (take k noted) s left
    ∙ ap (λ xs. filter (is_suspect (take k noted ++ xs ∷ [])) left) is
    ∙ ap (λ xs. filter (is_suspect xs) left) (sym (take_more noted k s l))

-- an entry of copies keeps those that it names
pub of_copies : (s : Syndrome) (left : List ℕ) → is_of_copies s.kind ≡ true → filter (is_left_by s) left ≡ filter (is_named_in s) left
of_copies s left e = ap (λ b. filter (λ ne. not b || is_named_in s ne) left) e

-- another keeps all
pub of_others : (s : Syndrome) (left : List ℕ) → is_of_copies s.kind ≡ false → filter (is_left_by s) left ≡ left
of_others s left e = ap (λ b. filter (λ ne. not b || is_named_in s ne) left) e ∙ filter-all left

-- **entries may be noted in several turns**
pub noted_in_turn : NotedInTurn
noted_in_turn n me noted more =
    filter-filter (is_suspect more) (is_suspect noted) (others n me)
    ∙ (λ t. filter (λ ne. sym (list_all-append (λ (e : Syndrome). is_left_by e ne) noted more) t) (others n me))
