-- Two first rounds that differ only in what the faulty element holds of itself are agreed on alike, and copied alike by all others.
use Rattle.std.proofs.Common.{◌≡◌, ◌≢◌, ℕ, zero, suc, ◌+◌, ◌<◌, Bool, true, false, cond, List, [], ◌∷◌, length, get_or, map, refl, sym, ◌∙◌, ap, arith}
use Rattle.std.specs.Prelude.{Option, Some, None, remove, not, ◌&&◌, ◌==◌}
use Rattle.std.specs.List.{range_with_len}
use Rattle.std.proofs.lemmas.Bool.{eqb-true}
use Rattle.ftpp_base.specs.Lists.{each_below, cell_at, is_this}
use Rattle.bit_vote.specs.Vote.{Cell, vote}
use Rattle.bit_vote.specs.Agreed.{FirstRound, agreed, copy_at, heard_by_others}
use Rattle.local_pattern.specs.Pattern.{read_column}
use Rattle.config_table.specs.Table.{TableValue}
use Rattle.config_table.specs.declared.decisions.Decision.{Decision}
use Rattle.config_table.specs.declared.decisions.Decision.TheVariants.{Idle, Discard, Exchange}
use Rattle.data_exchange.specs.Entries.{packet_in}
use Rattle.data_exchange.proofs.EntryLaws.{members_vote-same}
use Rattle.element_core.specs.Cycle.{agreed_pattern, update_packet}

-- ---- lists

-- lists made of each number are the same where what is made of each is
each_from : {A : Type 0} (f g : ℕ → A) (a n : ℕ) → ((i : ℕ) → i < a + n → f i ≡ g i) → map f (range_with_len a n) ≡ map g (range_with_len a n)
each_from f g a zero h = refl
each_from f g a (suc n) h = λ i. h a (omega arith) i ∷ each_from f g (a + 1) n (λ k l. h k (omega arith)) i

pub each_same : {A : Type 0} (n : ℕ) (f g : ℕ → A) → ((i : ℕ) → i < n → f i ≡ g i) → each_below n f ≡ each_below n g
each_same n f g h = each_from f g 0 n (λ i l. h i (omega arith))

-- lists of the same length and entries are the same
all_same : (xs ys : List Cell) → length xs ≡ length ys → ((i : ℕ) → i < length xs → get_or xs i None ≡ get_or ys i None) → xs ≡ ys
all_same [] [] l h = refl
all_same [] (y ∷ ys) l h = let never : ⊥ = omega arith in absurd never
all_same (x ∷ xs) [] l h = let never : ⊥ = omega arith in absurd never
all_same (x ∷ xs) (y ∷ ys) l h = λ i. h 0 (omega arith) i ∷ all_same xs ys (omega arith) (λ k m. h (suc k) (omega arith)) i

-- so are those that differ only in one entry, without it
remove_same : (xs ys : List Cell) (k : ℕ) → length xs ≡ length ys → ((i : ℕ) → i < length xs → k ≢ i → get_or xs i None ≡ get_or ys i None) → remove xs k ≡ remove ys k
remove_same [] [] k l h = refl
remove_same [] (y ∷ ys) k l h = let never : ⊥ = omega arith in absurd never
remove_same (x ∷ xs) [] k l h = let never : ⊥ = omega arith in absurd never
remove_same (x ∷ xs) (y ∷ ys) zero l h = all_same xs ys (omega arith) (λ i m. h (suc i) (omega arith) (λ e. let never : ⊥ = omega arith in never))
remove_same (x ∷ xs) (y ∷ ys) (suc k) l h =
    λ i. h 0 (omega arith) (λ e. let never : ⊥ = omega arith in never) i
    ∷ remove_same xs ys k (omega arith) (λ j m away. h (suc j) (omega arith) (λ e. away (let same : k ≡ j = omega arith in same))) i

-- ---- rounds

-- Two first rounds among n elements with the same faulty one, the same own values of the others, and the same frames to the others.
pub record SameRounds (n : ℕ) (faulty : Option ℕ) (mine others those told : List Cell) : Type 0 where
  pub own : (s : ℕ) → is_this faulty s ≡ false → cell_at mine s ≡ cell_at others s
  pub heard : (s r : ℕ) → is_this faulty s ≡ true → r < n → s ≢ r → cell_at those r ≡ cell_at told r
  pub heard_count : length those ≡ n
  pub told_count : length told ≡ n

module _ (n : ℕ) (faulty : Option ℕ) (own others heard told : List Cell) (same : SameRounds n faulty own others heard told) where
  abbrev one : FirstRound
  one = record { faulty = faulty; own = own; heard = heard }

  abbrev other : FirstRound
  other = record { faulty = faulty; own = others; heard = told }

  agreed_by : (s : ℕ) (b : Bool) → is_this faulty s ≡ b → cond b (heard_by_others one s) (cell_at own s) ≡ cond b (heard_by_others other s) (cell_at others s)
  agreed_by s true e =
      ap vote (remove_same heard told s (same.heard_count ∙ sym same.told_count) (λ r l away. let c = same.heard_count in same.heard s r e (omega arith) away))
  agreed_by s false e = same.own s e

  -- they are agreed on alike
  pub agreed_same : (s : ℕ) → agreed one s ≡ agreed other s
  unfolding agreed
  agreed_same s = agreed_by s (is_this faulty s) refl

  copy_by : (r s : ℕ) (b c : Bool) → r < n → is_this faulty r ≡ false → is_this faulty s ≡ b → (r == s) ≡ c
      → cond (b && not c) (cell_at heard r) (cell_at own s) ≡ cond (b && not c) (cell_at told r) (cell_at others s)
  copy_by r s true true l good e f = let at = eqb-true r s f in let bad = ap (is_this faulty) at in cc
  copy_by r s true false l good e f = same.heard s r e l (λ at. let bad = ap (is_this faulty) at in cc)
  copy_by r s false c l good e f = same.own s e

  -- and the others hold the same copies
  pub copy_same : (r s : ℕ) → r < n → is_this faulty r ≡ false → copy_at one r s ≡ copy_at other r s
  unfolding copy_at
  copy_same r s l good = copy_by r s (is_this faulty s) (r == s) l good refl refl

  -- so the pattern is the same
  pub pattern_same : (table : TableValue) → agreed_pattern table one ≡ agreed_pattern table other
  pattern_same table = each_same table.n (λ ne. read_column (agreed one ne)) (λ ne. read_column (agreed other ne)) (λ ne l. ap read_column (agreed_same ne))

  -- and the packet of an update
  pub packet_same : (table : TableValue) (decision : Decision) → update_packet table decision one ≡ update_packet table decision other
  packet_same table Idle = refl
  packet_same table (Discard vid desc number admitted waited) = refl
  packet_same table (Exchange service) =
      ap (λ (c : Cell). cond (service.desc.class == 3) (Some (packet_in c)) None) (members_vote-same table service (agreed one) (agreed other) (λ ne e. agreed_same ne))
