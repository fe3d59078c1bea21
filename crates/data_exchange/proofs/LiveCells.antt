-- What the live members count as, one member after another.
use Rattle.std.proofs.Common.{◌≡◌, ℕ, ◌+◌, ◌<◌, ◌≤◌, Bool, true, false, cond, List, [], ◌∷◌, ◌++◌, length, get_or, drop, refl, ap, sym, ◌∙◌, arith, map, append_assoc, append-nil, length-append, not}
use Rattle.std.specs.Prelude.{filter}
use Rattle.std.specs.List.{enumerate_from}
use Rattle.std.proofs.lemmas.List.{drop_more, drop_all}
use Rattle.ftpp_base.specs.declared.element.Proc.{Proc}
use Rattle.ftpp_base.specs.declared.sets.Set8.{Set8}
use Rattle.ftpp_base.specs.Sets.{has}
use Rattle.bit_vote.specs.Vote.{Cell}

-- the live ones of the members from one on, counted from its index
abbrev pub live_from : Set8 → ℕ → List Proc → List Proc
live_from masked i members = map (λ seat. seat.1) (filter (λ seat. not (has masked seat.0)) (enumerate_from i members))

-- one seat more, by whether it is masked
seat_by : (b : Bool) (seat : ℕ × Proc) (seats : List (ℕ × Proc))
    → map (λ s. s.1) (cond (not b) (seat ∷ seats) seats) ≡ cond b (map (λ s. s.1) seats) (seat.1 ∷ map (λ s. s.1) seats)
seat_by true seat seats = refl
seat_by false seat seats = refl

live_more : (masked : Set8) (members : List Proc) (i : ℕ) (d : Proc) → i < length members
    → live_from masked i (drop i members)
    ≡ cond (has masked i) (live_from masked (i + 1) (drop (i + 1) members)) (get_or members i d ∷ live_from masked (i + 1) (drop (i + 1) members))
live_more masked members i d l =
    ap (live_from masked i) (drop_more members i d l)
    ∙ seat_by (has masked i) (i, get_or members i d) (filter (λ seat. not (has masked seat.0)) (enumerate_from (i + 1) (drop (i + 1) members)))

module _ (f : Proc → Cell) (masked : Set8) (members : List Proc) where
  -- What is counted so far, and what is to come, are all.
  pub record Counts (i : ℕ) (cells : List Cell) : Type 0 where
    pub few : length cells ≤ i
    pub all : cells ++ map f (live_from masked i (drop i members)) ≡ map f (live_from masked 0 members)

  pub counts-none : Counts 0 []
  counts-none = record { few = omega arith; all = refl }

  pub counts-masked : (i : ℕ) (cells : List Cell) (d : Proc) (b : Bool) → i < length members → b ≡ has masked i → b ≡ true → Counts i cells → Counts (i + 1) cells
  counts-masked i cells d b l is masks c = record {
    few = let less = c.few in omega arith;
    all = (λ t. cells ++ map f (sym (live_more masked members i d l ∙ ap (λ x. cond x (live_from masked (i + 1) (drop (i + 1) members)) (get_or members i d ∷ live_from masked (i + 1) (drop (i + 1) members))) (sym is ∙ masks)) t)) ∙ c.all;
  }

  pub counts-live : (i : ℕ) (cells more : List Cell) (d : Proc) (b : Bool) → i < length members → b ≡ has masked i → b ≡ false
      → more ≡ cells ++ f (get_or members i d) ∷ [] → Counts i cells → Counts (i + 1) more
  counts-live i cells more d b l is shows e c = record {
    few = let less = c.few in let long : length more ≡ length cells + 1 = ap length e ∙ length-append cells (f (get_or members i d) ∷ []) in omega arith;
    all =
        ap (λ xs. xs ++ map f (live_from masked (i + 1) (drop (i + 1) members))) e
        ∙ append_assoc cells (f (get_or members i d) ∷ []) (map f (live_from masked (i + 1) (drop (i + 1) members)))
        ∙ (λ t. cells ++ map f (sym (live_more masked members i d l ∙ ap (λ x. cond x (live_from masked (i + 1) (drop (i + 1) members)) (get_or members i d ∷ live_from masked (i + 1) (drop (i + 1) members))) (sym is ∙ shows)) t))
        ∙ c.all;
  }

  pub counts-all : (i : ℕ) (cells : List Cell) → length members ≤ i → Counts i cells → cells ≡ map f (live_from masked 0 members)
  counts-all i cells l c = sym (append-nil cells) ∙ (λ t. cells ++ map f (live_from masked i (sym (drop_all i members l) t))) ∙ c.all
