-- Lists taken from the nearest item on.
use Rattle.std.proofs.Common.{◌≡◌, ℕ, ◌+◌, ◌<◌, Bool, true, false, ◌==◌, cond, List, [], ◌∷◌, length, refl, ap, sym, ◌∙◌, arith, map, take, drop, get_or, reverse, not}
use Rattle.std.specs.Prelude.{◌||◌, filter, Option, Some, None}
use Rattle.std.specs.List.{list_any, enumerate_from}
use Rattle.std.specs.Option.{option_or}
use Rattle.std.proofs.lemmas.List.{reverse-append, take_more, drop_more, map-append}
use Rattle.std.proofs.lemmas.List.Folds.{list_any-append}
use Rattle.std.proofs.lemmas.Grind.{reverse_onto}
use Rattle.ftpp_base.specs.declared.element.Proc.{Proc}
use Rattle.ftpp_base.specs.declared.sets.Set8.{Set8}
use Rattle.ftpp_base.specs.Lists.{is_in}
use Rattle.ftpp_base.specs.Sets.{has}
use Rattle.config_table.specs.declared.groups.Group.{Group}
use Rattle.config_table.specs.declared.errors.ConfigError.{ConfigError}
use Rattle.config_table.specs.Table.{repeated_element, groups_error, group_error}

last_or : (a b : Bool) → (a || (b || Bool.false)) ≡ (b || a)
last_or a b = grind arith

-- one item passes in either order
pub any_reverse : {A : Type 0} (p : A → Bool) (xs : List A) → list_any p (reverse xs) ≡ list_any p xs
any_reverse p [] = refl
any_reverse p (x ∷ xs) =
    ap (list_any p) (reverse_onto xs x []) ∙ list_any-append p (reverse xs) (x ∷ []) ∙ ap (λ b. b || (p x || Bool.false)) (any_reverse p xs) ∙ last_or (list_any p xs) (p x)

-- one item more comes first
pub reverse_more : {A : Type 0} (xs : List A) (i : ℕ) (d : A) → i < length xs → reverse (take (i + 1) xs) ≡ get_or xs i d ∷ reverse (take i xs)
reverse_more xs i d l = ap reverse (take_more xs i d l) ∙ reverse-append (take i xs) (get_or xs i d ∷ [])

any_map : {A B : Type 0} (p : B → Bool) (f : A → B) (xs : List A) → list_any p (map f xs) ≡ list_any (λ x. p (f x)) xs
any_map p f [] = refl
any_map p f (x ∷ xs) = ap (λ b. p (f x) || b) (any_map p f xs)

-- the elements of the members before the one at i, the nearest first
abbrev pub seen : List Proc → ℕ → List ℕ
seen ms i = reverse (map (λ p. p.ne) (take i ms))

seen_more : (ms : List Proc) (i : ℕ) (d : Proc) → i < length ms → seen ms (i + 1) ≡ (get_or ms i d).ne ∷ seen ms i
seen_more ms i d l =
    ap (λ xs. reverse (map (λ p. p.ne) xs)) (take_more ms i d l)
    ∙ ap reverse (map-append (λ p. p.ne) (take i ms) (get_or ms i d ∷ []))
    ∙ reverse-append (map (λ p. p.ne) (take i ms)) ((get_or ms i d).ne ∷ [])

seen_any : (ms : List Proc) (i ne : ℕ) → is_in (seen ms i) ne ≡ list_any (λ p. p.ne == ne) (take i ms)
seen_any ms i ne = any_reverse (λ y. y == ne) (map (λ p. p.ne) (take i ms)) ∙ any_map (λ y. y == ne) (λ p. p.ne) (take i ms)

one_more : (b c : Bool) (ms : List Proc) (i : ℕ) (d : Proc) → b ≡ c → i < length ms → is_in (seen ms i) (get_or ms i d).ne ≡ b
    → repeated_element (seen ms i) (drop i ms) ≡ cond c (Some (get_or ms i d).ne) (repeated_element (seen ms (i + 1)) (drop (i + 1) ms))
one_more b c ms i d same l is =
    ap (repeated_element (seen ms i)) (drop_more ms i d l)
    ∙ (λ t. cond (is t) (Some (get_or ms i d).ne) (repeated_element (sym (seen_more ms i d l) t) (drop (i + 1) ms)))
    ∙ ap (λ x. cond x (Some (get_or ms i d).ne) (repeated_element (seen ms (i + 1)) (drop (i + 1) ms))) same

-- a member of the rest that stands at the element of an earlier one, and one that does not
pub repeated_here : (ms : List Proc) (i : ℕ) (d : Proc) (b : Bool) → i < length ms → b ≡ list_any (λ p. p.ne == (get_or ms i d).ne) (take i ms) → b ≡ true
    → repeated_element (seen ms i) (drop i ms) ≡ Some (get_or ms i d).ne
repeated_here ms i d b l is true_ = one_more b Bool.true ms i d true_ l (seen_any ms i (get_or ms i d).ne ∙ sym is)

pub repeated_later : (ms : List Proc) (i : ℕ) (d : Proc) (b : Bool) → i < length ms → b ≡ list_any (λ p. p.ne == (get_or ms i d).ne) (take i ms) → b ≡ false
    → repeated_element (seen ms i) (drop i ms) ≡ repeated_element (seen ms (i + 1)) (drop (i + 1) ms)
repeated_later ms i d b l is false_ = one_more b Bool.false ms i d false_ l (seen_any ms i (get_or ms i d).ne ∙ sym is)

-- how many of the seats from a place on are not masked
abbrev pub unmasked_from : Set8 → ℕ → List Proc → ℕ
unmasked_from s i ms = length (filter (λ seat. not (has s seat.0)) (enumerate_from i ms))

seat_by : (b : Bool) (x : ℕ × Proc) (xs : List (ℕ × Proc)) → length (cond (not b) (x ∷ xs) xs) ≡ cond b 0 1 + length xs
seat_by Bool.true x xs = omega arith
seat_by Bool.false x xs = omega arith

-- one seat of the rest
pub unmasked_more : (s : Set8) (ms : List Proc) (i : ℕ) (d : Proc) → i < length ms
    → unmasked_from s i (drop i ms) ≡ cond (has s i) 0 1 + unmasked_from s (i + 1) (drop (i + 1) ms)
unmasked_more s ms i d l =
    ap (unmasked_from s i) (drop_more ms i d l)
    ∙ seat_by (has s i) (i, get_or ms i d) (filter (λ seat. not (has s seat.0)) (enumerate_from (i + 1) (drop (i + 1) ms)))

groups_by : (n : ℕ) (gs : List Group) (i : ℕ) (d : Group) (o : Option ConfigError) → i < length gs → o ≡ group_error n (reverse (take i gs)) (get_or gs i d)
    → groups_error n (reverse (take i gs)) (drop i gs) ≡ option_or o (groups_error n (reverse (take (i + 1) gs)) (drop (i + 1) gs))
groups_by n gs i d o l is =
    ap (groups_error n (reverse (take i gs))) (drop_more gs i d l)
    ∙ (λ t. option_or (sym is t) (groups_error n (sym (reverse_more gs i d l) t) (drop (i + 1) gs)))

-- one group of the rest that breaks a clause, and one that breaks none
pub group_breaks : (n : ℕ) (gs : List Group) (i : ℕ) (d : Group) (e : ConfigError) → i < length gs → Some e ≡ group_error n (reverse (take i gs)) (get_or gs i d)
    → groups_error n (reverse (take i gs)) (drop i gs) ≡ Some e
group_breaks n gs i d e l is = groups_by n gs i d (Some e) l is

pub group_passes : (n : ℕ) (gs : List Group) (i : ℕ) (d : Group) → i < length gs → None ≡ group_error n (reverse (take i gs)) (get_or gs i d)
    → groups_error n (reverse (take i gs)) (drop i gs) ≡ groups_error n (reverse (take (i + 1) gs)) (drop (i + 1) gs)
group_passes n gs i d l is = groups_by n gs i d None l is

-- a seat that is not masked, and one that is
pub seat_counts : (s : Set8) (ms : List Proc) (i : ℕ) (d : Proc) (b : Bool) → i < length ms → b ≡ has s i → b ≡ false
    → unmasked_from s i (drop i ms) ≡ 1 + unmasked_from s (i + 1) (drop (i + 1) ms)
seat_counts s ms i d b l is no_ = unmasked_more s ms i d l ∙ ap (λ x. cond x 0 1 + unmasked_from s (i + 1) (drop (i + 1) ms)) (sym is ∙ no_)

pub seat_passes : (s : Set8) (ms : List Proc) (i : ℕ) (d : Proc) (b : Bool) → i < length ms → b ≡ has s i → b ≡ true
    → unmasked_from s i (drop i ms) ≡ 0 + unmasked_from s (i + 1) (drop (i + 1) ms)
seat_passes s ms i d b l is yes_ = unmasked_more s ms i d l ∙ ap (λ x. cond x 0 1 + unmasked_from s (i + 1) (drop (i + 1) ms)) (sym is ∙ yes_)
