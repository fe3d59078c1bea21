-- A run that meets the premises of the law: two fault-free members of a triplex post two cycles apart, beside a faulty one.
use Rattle.std.proofs.Common.{◌≡◌, ℕ, zero, suc, ◌+◌, ◌<◌, ◌≤◌, true, List, [], ◌∷◌, replicate, refl, map, arith, ◌∙◌, subst, sym, Option, Some, None, slice_get, slice_index, IsSomeAnd}
use Rattle.std.specs.Prelude.{◌==◌, nat_lt}
use Rattle.std.specs.List.{AllByRecursion, list_all}
use Rattle.std.proofs.lemmas.Bool.{and_parts, ltb-true}
use Rattle.std.proofs.lemmas.List.Elements.{All-from_recursion}
use Rattle.ftpp_base.specs.declared.element.Proc.{Proc}
use Rattle.packet_format.specs.declared.acts.Act.{Act}
use Rattle.packet_format.specs.declared.acts.Act.TheVariants.{Post}
use Rattle.bit_vote.specs.Vote.{Cell, IsRow, IsCell}
use Rattle.local_pattern.specs.Pattern.{column_bytes}
use Rattle.processor_buffers.specs.Queues.{Posted}
use Rattle.data_exchange.specs.Entries.{fault_free_members}
use Rattle.element_core.specs.Cycle.{Input, Shown, start}
use Rattle.element_core.specs.Run.{Journal, history, shown_at}
use Rattle.element_core.specs.Alone.{IsPosted, IsAct, IsInput}
use Rattle.element_core.specs.Premises.{IsSkewAlike, PostAlike, accepted_from}
use Rattle.scoreboard.specs.Service.{takes_of}
use Rattle.element_core.specs.Claims.{TakesPost, times_taken}
use Rattle.element_core.proofs.WorkedParts.{worked, proc, four_elements, four_elements_valid, packet_41, to_three}
use Rattle.element_core.proofs.WorkedParts.{worked, second_group as triplex}
use Rattle.ftpp_base.proofs.Among.{one_of, all-get_or, all-replicate}
use Rattle.whole_run.proofs.SkewRun.{no-loss}

-- a column whose port 1 has that request at its head, with room at all ports
abbrev pub shown_bytes : List ℕ
shown_bytes = column_bytes (map (λ port. record { not_empty = port == 1; not_full = true; desc = to_three }) (0 ∷ 1 ∷ 2 ∷ 3 ∷ 4 ∷ 5 ∷ 6 ∷ 7 ∷ []))

-- the faulty element shows the same request from the first cycle on
abbrev pub shows_it : Cell
shows_it = Some shown_bytes

-- a cycle with these acts in which element 2 is faulty, and sends no packet
abbrev pub beside : List Act → Input
beside acts = record { rejoined = None; faulty = Some 2; acts = acts; patterns = replicate 4 shows_it; packets = replicate 4 None }

-- the second member posts two cycles after the first
abbrev pub late_second : Journal
late_second = beside (Post (proc 0 1) to_three packet_41 ∷ []) ∷ beside [] ∷ beside (Post (proc 1 1) to_three packet_41 ∷ []) ∷ []

-- ---- the premises

-- each byte of a list of bytes is one
pub low_at : (xs : List ℕ) → list_all (λ b. nat_lt b 256) xs ≡ true → (k : ℕ) → slice_index xs k < 256
low_at [] e k = omega arith
low_at (x ∷ xs) e zero = ltb-true x 256 (and_parts (nat_lt x 256) (list_all (λ b. nat_lt b 256) xs) e).0
low_at (x ∷ xs) e (suc k) = low_at xs (and_parts (nat_lt x 256) (list_all (λ b. nat_lt b 256) xs) e).1 k

-- the packet has 64 bytes
pub row_41 : IsRow 64 packet_41.bytes
row_41 = record { long = refl; bytes = low_at packet_41.bytes refl }

-- what the faulty element shows has 32 bytes
row_shown : IsRow 32 shown_bytes
row_shown = record { long = refl; bytes = low_at shown_bytes refl }

-- a whole packet
whole : IsPosted (to_three, packet_41)
whole = record { dest = omega arith; class = omega arith; source = omega arith; row = row_41 }

-- the faulty element is one of four
is_there : (ne : ℕ) → Some 2 ≡ Some ne → ne < 4
is_there ne e = let same : 2 ≡ ne = cc in omega arith

-- such a cycle is in shape
input_by : (acts : List Act) → AllByRecursion IsAct acts → IsInput 4 (beside acts)
input_by acts h = record {
  faulty = is_there;
  acts = h;
  patterns = refl;
  packets = refl;
  pattern_cells = λ s. all-get_or (IsCell 32) (replicate 4 shows_it) s None (all-replicate (IsCell 32) 4 shows_it row_shown) tt;
  packet_cells = λ s. all-get_or (IsCell 64) (replicate 4 None) s None (all-replicate (IsCell 64) 4 None tt) tt;
}

-- so the journal is in shape
pub in_shape : AllByRecursion (IsInput 4) late_second
in_shape = (input_by (Post (proc 0 1) to_three packet_41 ∷ []) (whole, tt), (input_by [] tt, (input_by (Post (proc 1 1) to_three packet_41 ∷ []) (whole, tt), tt)))

-- two lists of one post, the same and at most some cycles apart
one_alike : (cycles apart x y : ℕ) (posted : Posted) → x ≤ y + apart → y ≤ x + apart → PostAlike cycles apart ((x, posted) ∷ []) ((y, posted) ∷ [])
one_alike cycles apart x y posted l m = record { equal = equal_at; follows = follows_at } where
  equal_at : (k : ℕ) (a b : ℕ × Posted) → slice_get ((x, posted) ∷ []) k ≡ Some a → slice_get ((y, posted) ∷ []) k ≡ Some b → (a.1 ≡ b.1) × (a.0 ≤ b.0 + apart) × (b.0 ≤ a.0 + apart)
  equal_at zero a b e f =
      let one : (x, posted) ≡ a = cc in
      let two : (y, posted) ≡ b = cc in
      let P : ℕ × Posted → ℕ × Posted → Type 0 = λ c d. (c.1 ≡ d.1) × (c.0 ≤ d.0 + apart) × (d.0 ≤ c.0 + apart) in
      subst (λ c. P c b) one (subst (P (x, posted)) two (refl, l, m))
  equal_at (suc k) a b e f = cc

  follows_at : (k : ℕ) (a : ℕ × Posted) → slice_get ((x, posted) ∷ []) k ≡ Some a → a.0 + apart < cycles → IsSomeAnd {T = ℕ × Posted} (slice_get ((y, posted) ∷ []) k) (λ b. b.0 ≤ a.0 + apart)
  follows_at zero a e f = let one : (x, posted) ≡ a = cc in subst (λ (c : ℕ × Posted). y ≤ c.0 + apart) one m
  follows_at (suc k) a e f = cc

-- what the first member posts
first_posts : accepted_from (start four_elements) late_second (proc 0 1) ≡ (0, (to_three, packet_41)) ∷ []
unfolding worked
first_posts = refl

-- what the second member posts
second_posts : accepted_from (start four_elements) late_second (proc 1 1) ≡ (2, (to_three, packet_41)) ∷ []
unfolding worked
second_posts = refl

-- two members post alike
abbrev alike_posts : Proc → Proc → Type 0
alike_posts a b = PostAlike 3 3 (accepted_from (start four_elements) late_second a) (accepted_from (start four_elements) late_second b)

-- by what each of them posts
alike_by : (a b : Proc) (x y : ℕ) → accepted_from (start four_elements) late_second a ≡ (x, (to_three, packet_41)) ∷ [] → accepted_from (start four_elements) late_second b ≡ (y, (to_three, packet_41)) ∷ []
    → x ≤ y + 3 → y ≤ x + 3 → alike_posts a b
alike_by a b x y e f l m =
    let P : List (ℕ × Posted) → List (ℕ × Posted) → Type 0 = PostAlike 3 3 in
    subst (λ xs. P xs (accepted_from (start four_elements) late_second b)) (sym e) (subst (P ((x, (to_three, packet_41)) ∷ [])) (sym f) (one_alike 3 3 x y (to_three, packet_41) l m))

-- any two of them do
all_alike : AllByRecursion (λ a. AllByRecursion (alike_posts a) (fault_free_members (Some 2) triplex)) (fault_free_members (Some 2) triplex)
all_alike = (
  (
    alike_by (proc 0 1) (proc 0 1) 0 0 first_posts first_posts (omega arith) (omega arith),
    (alike_by (proc 0 1) (proc 1 1) 0 2 first_posts second_posts (omega arith) (omega arith), tt),
  ),
  (
    (
      alike_by (proc 1 1) (proc 0 1) 2 0 second_posts first_posts (omega arith) (omega arith),
      (alike_by (proc 1 1) (proc 1 1) 2 2 second_posts second_posts (omega arith) (omega arith), tt),
    ),
    tt,
  ),
)

-- no update is applied
no_change : map (λ (s : Shown). s.changed) (history four_elements late_second) ≡ None ∷ None ∷ None ∷ []
unfolding worked
no_change = refl

-- so none names the group
unnamed : (shown : List Shown) (changes : List (Option ℕ)) → map (λ (s : Shown). s.changed) shown ≡ changes → AllByRecursion (λ c. c ≡ Some 2 → ⊥) changes → AllByRecursion (λ (s : Shown). s.changed ≡ Some 2 → ⊥) shown
unnamed [] changes e a = tt
unnamed (s ∷ ss) [] e a = cc
unnamed (s ∷ ss) (c ∷ cs) e a =
    let one : s.changed ≡ c = cc in
    let more : map (λ (x : Shown). x.changed) ss ≡ cs = cc in
    ((λ h. a.0 (sym one ∙ h)), unnamed ss cs more a.1)

-- the triplex posts alike
skew : IsSkewAlike four_elements late_second (Some 2) triplex
skew = record {
  listed = refl;
  no_rejoin = All-from_recursion (λ (x : Input). x.rejoined ≡ None) late_second (refl, (refl, (refl, tt)));
  not_named = All-from_recursion (λ (x : Shown). x.changed ≡ Some 2 → ⊥) (history four_elements late_second) (unnamed (history four_elements late_second) (None ∷ None ∷ None ∷ []) no_change ((λ e. cc), ((λ e. cc), ((λ e. cc), tt))));
  majority = refl;
  alike = λ a b c d. one_of (alike_posts a) (fault_free_members (Some 2) triplex) b (one_of (λ x. AllByRecursion (alike_posts x) (fault_free_members (Some 2) triplex)) (fault_free_members (Some 2) triplex) a all_alike c) d;
}

-- ---- the third cycle takes the request, so the law says what it took

-- the third cycle takes its request
third_takes : takes_of 2 (shown_at four_elements late_second 2).decision ≡ true
unfolding worked
third_takes = refl

-- it is the first
third_number : times_taken four_elements late_second 2 2 ≡ 0
unfolding worked
third_number = refl

-- so it takes the first post
pub first_taken : TakesPost four_elements late_second (Some 2) triplex 2 0
first_taken =
    subst (TakesPost four_elements late_second (Some 2) triplex 2) third_number
    ((no-loss four_elements late_second (Some 2) triplex four_elements_valid (refl, (refl, (refl, tt))) in_shape skew).takes 2 (omega arith) third_takes)
