-- A workload can be played by five elements.
use Rattle.std.proofs.Common.{◌≡◌, ℕ, zero, suc, ◌+◌, ◌*◌, ◌%◌, ◌<◌, ◌≤◌, Bool, true, false, cond, eqb, leb, List, [], ◌∷◌, ◌++◌, length, map, refl, ap, sym, subst, arith, Option, Some, None}
use Rattle.std.specs.Prelude.{count_by}
use Rattle.std.specs.List.{AllByRecursion}
use Rattle.std.specs.Option.{option_to_list}
use Rattle.std.proofs.lemmas.Bool.{eqb-true, leb-true, leb-false}
use Rattle.std.proofs.lemmas.List.Sums.{count_by-le-length}
use Rattle.ftpp_base.specs.declared.element.Proc.{Proc}
use Rattle.ftpp_base.proofs.Among.{weaker, all-append, all-replicate}
use Rattle.ftpp_base.proofs.Counts.{count_by-cons}
use Rattle.packet_format.specs.declared.acts.Act.{Act}
use Rattle.fault_script.specs.declared.Edit.{Edit}
use Rattle.fault_script.specs.declared.EditKind.TheVariants.{Drop, Flip, Repeat}
use Rattle.ftpp_base.specs.declared.element.Round.TheVariants.{A1, A2, B1}
use Rattle.script_text.specs.Printing.{ActFits, AreBytes, KindFits, IsOther, IsScript, Within, is_act_at}
use Rattle.script_text.specs.Playable.{ActIsThere, EditIsThere, IsPlayable}
use Rattle.script_text.proofs.InTurn.{playable_is_script}
use Rattle.built_in_tables.specs.Tables.{c5}
use Rattle.workload.specs.declared.draws.Draws.{Draws}
use Rattle.workload.specs.Draws.{pick, draws}
use Rattle.workload.specs.Acts.{members, packet_of, post, posts, read, reads, acts_at}
use Rattle.workload.specs.Edits.{edit, edit_of, other_than}
use Rattle.workload.specs.Workload.{acts_from, edits_from, workload}
use Rattle.workload.proofs.Members.{IsThere, are_members}
use Rattle.workload.proofs.Drawn.{AreDraws, are_draws}

-- ---- the acts of a cycle

-- an act of this cycle that names a processor that is there
abbrev IsAct : ℕ → ℕ × Act → Type 0
IsAct c x = (x.0 ≡ c) × ActFits 5 x.1

abbrev AllBytes : List ℕ → Type 0
AllBytes bytes = AllByRecursion (λ b. b < 256) bytes

by_place : (bytes : List ℕ) → AllBytes bytes → AreBytes bytes
by_place [] a i = omega arith
by_place (b ∷ bytes) a zero = a.0
by_place (b ∷ bytes) a (suc i) = by_place bytes a.1 i

packet_bytes : (c byte : ℕ) → byte < 256 → AllBytes (packet_of c byte).bytes
packet_bytes c byte l = (omega arith, (omega arith, (omega arith, (omega arith, (l, all-replicate (λ b. b < 256) 59 0 (omega arith))))))

posts_fit : (c : ℕ) (d : Draws) → AreDraws d → (ps : List Proc) → AllByRecursion IsThere ps → AllByRecursion (IsAct c) (map (post c d) ps)
posts_fit c d h [] a = tt
posts_fit c d h (p ∷ ps) a = ((refl, (a.0.0, a.0.1, h.dest, class_fits d.kind, omega arith, refl, by_place (packet_of c d.byte).bytes (packet_bytes c d.byte h.byte))), posts_fit c d h ps a.1) where
  class_fits : (k : ℕ) → cond (eqb k 1) 2 1 < 256
  class_fits k = by (eqb k 1) where
    by : (b : Bool) → cond b 2 1 < 256
    by true = omega arith
    by false = omega arith

reads_fit : (c : ℕ) (ps : List Proc) → AllByRecursion IsThere ps → AllByRecursion (IsAct c) (map (read c) ps)
reads_fit c [] a = tt
reads_fit c (p ∷ ps) a = ((refl, a.0), reads_fit c ps a.1)

length_map : {A B : Type 0} (f : A → B) (xs : List A) → length (map f xs) ≡ length xs
length_map f [] = refl
length_map f (x ∷ xs) = ap suc (length_map f xs)

-- some acts of a cycle
record AreActs (c most : ℕ) (xs : List (ℕ × Act)) : Type 0 where
  fit : AllByRecursion (IsAct c) xs
  few : length xs ≤ most

posts_are : (c : ℕ) (d : Draws) → AreDraws d → AreActs c 4 (posts c5 c d)
unfolding posts
posts_are c d h = by (eqb d.kind 0) where
  by : (b : Bool) → AreActs c 4 (cond b [] (map (post c d) (members c5 d.group)))
  by true = record { fit = tt; few = omega arith }
  by false = let m = are_members d.group in record { fit = posts_fit c d h (members c5 d.group) m.there; few = rw (length_map (post c d) (members c5 d.group)) m.few }

reads_are : (c vid : ℕ) → AreActs c 4 (reads c5 c vid)
unfolding reads
reads_are c vid = let m = are_members vid in record { fit = reads_fit c (members c5 vid) m.there; few = rw (length_map (read c) (members c5 vid)) m.few }

length_both : {A : Type 0} (xs ys : List A) → length (xs ++ ys) ≡ length xs + length ys
length_both [] ys = sym (zero_more (length ys)) where
  zero_more : (n : ℕ) → 0 + n ≡ n
  zero_more n = omega arith
length_both (x ∷ xs) ys = let e = length_both xs ys in omega arith

both : (c m n : ℕ) (xs ys : List (ℕ × Act)) → AreActs c m xs → AreActs c n ys → AreActs c (m + n) (xs ++ ys)
both c m n xs ys h k = let e = length_both xs ys in let a = h.few in let b = k.few in record { fit = all-append (IsAct c) xs ys h.fit k.fit; few = omega arith }

acts_are : (c s : ℕ) → AreActs c 12 (acts_at c5 c (draws s).0)
unfolding acts_at
acts_are c s = both c 4 8 _ _ (posts_are c (draws s).0 (are_draws s)) (both c 4 4 _ _ (reads_are c (1 + c % 6)) (reads_are c (1 + (c + 3) % 6)))

-- ---- the acts of all cycles

within_cycle : {X : Type 0} (key : X → ℕ) (c end : ℕ) (xs ys : List X) → c < end → AllByRecursion (λ x. key x ≡ c) xs → Within key c end ys → Within key c end (xs ++ ys)
within_cycle key c end [] ys l a h = h
within_cycle key c end (x ∷ xs) ys l a h = (omega (arith, a.0), omega (arith, a.0), subst (λ (k : ℕ). Within key k end (xs ++ ys)) (sym a.0) (within_cycle key c end xs ys l a.1 h))

within_later : {X : Type 0} (key : X → ℕ) (from c end : ℕ) (xs : List X) → from ≤ c → Within key c end xs → Within key from end xs
within_later key from c end [] l h = tt
within_later key from c end (x ∷ xs) l h = (omega (arith, h.0), h.1, h.2)

pub acts_within : (c n s : ℕ) → Within (λ x. x.0) c (c + n) (acts_from c n s)
unfolding acts_from
acts_within c zero s = tt
acts_within c (suc n) s =
    let more = within_later (λ x. x.0) c (c + 1) (c + suc n) (acts_from (c + 1) n (draws s).1) (omega arith) (subst (λ (k : ℕ). Within (λ x. x.0) (c + 1) k (acts_from (c + 1) n (draws s).1)) (one_on c n) (acts_within (c + 1) n (draws s).1)) in
    within_cycle (λ x. x.0) c (c + suc n) (acts_at c5 c (draws s).0) _ (omega arith) (weaker (IsAct c) (λ x. x.0 ≡ c) (λ x h. h.0) _ (acts_are c s).fit) more where
      one_on : (k m : ℕ) → k + 1 + m ≡ k + suc m
      one_on k m = omega arith

pub acts_there : (c n s : ℕ) → AllByRecursion (ActIsThere 5) (acts_from c n s)
unfolding acts_from
acts_there c zero s = tt
acts_there c (suc n) s = all-append (ActIsThere 5) (acts_at c5 c (draws s).0) _ (weaker (IsAct c) (ActIsThere 5) (λ x h. h.1) _ (acts_are c s).fit) (acts_there (c + 1) n (draws s).1)

pub acts_few : (c n s : ℕ) → length (acts_from c n s) ≤ 12 * n
unfolding acts_from
acts_few c zero s = omega arith
acts_few c (suc n) s =
    let e = length_both (acts_at c5 c (draws s).0) (acts_from (c + 1) n (draws s).1) in
    let one = (acts_are c s).few in
    let more = acts_few (c + 1) n (draws s).1 in
    omega arith

count_both : (k : ℕ) (xs ys : List (ℕ × Act)) → count_by (is_act_at k) (xs ++ ys) ≡ count_by (is_act_at k) xs + count_by (is_act_at k) ys
count_both k [] ys = sym (zero_more (count_by (is_act_at k) ys)) where
  zero_more : (n : ℕ) → 0 + n ≡ n
  zero_more n = omega arith
count_both k (x ∷ xs) ys =
    let one = count_by-cons (is_act_at k) x (xs ++ ys) in
    let two = count_by-cons (is_act_at k) x xs in
    let rec = count_both k xs ys in
    omega arith

-- a cycle before all of them has none
none_before : (k from end : ℕ) (xs : List (ℕ × Act)) → k < from → Within (λ x. x.0) from end xs → count_by (is_act_at k) xs ≡ 0
none_before k from end [] l h = refl
none_before k from end (x ∷ xs) l h =
    let one = count_by-cons (is_act_at k) x xs in
    let rec = none_before k x.0 end xs (omega (arith, h.0)) h.2 in
    by (eqb x.0 k) refl one rec where
      by : (b : Bool) → eqb x.0 k ≡ b → count_by (is_act_at k) (x ∷ xs) ≡ cond b 1 0 + count_by (is_act_at k) xs → count_by (is_act_at k) xs ≡ 0 → count_by (is_act_at k) (x ∷ xs) ≡ 0
      by true e one rec = let same = eqb-true x.0 k e in let no_such : ⊥ = omega (arith, h.0) in absurd no_such
      by false e one rec = omega arith

-- a cycle after all acts of an earlier one has none of them
none_of : (k c : ℕ) (xs : List (ℕ × Act)) → c < k → AllByRecursion (λ x. x.0 ≡ c) xs → count_by (is_act_at k) xs ≡ 0
none_of k c [] l a = refl
none_of k c (x ∷ xs) l a =
    let one = count_by-cons (is_act_at k) x xs in
    let rec = none_of k c xs l a.1 in
    by (eqb x.0 k) refl one rec where
      by : (b : Bool) → eqb x.0 k ≡ b → count_by (is_act_at k) (x ∷ xs) ≡ cond b 1 0 + count_by (is_act_at k) xs → count_by (is_act_at k) xs ≡ 0 → count_by (is_act_at k) (x ∷ xs) ≡ 0
      by true e one rec = let same = eqb-true x.0 k e in let no_such : ⊥ = omega (arith, a.0) in absurd no_such
      by false e one rec = omega arith

pub count_few : (k c n s : ℕ) → count_by (is_act_at k) (acts_from c n s) ≤ 12
unfolding acts_from
count_few k c zero s = omega arith
count_few k c (suc n) s = by (leb k c) refl (count_few k (c + 1) n (draws s).1) where
  by : (b : Bool) → leb k c ≡ b → count_by (is_act_at k) (acts_from (c + 1) n (draws s).1) ≤ 12 → count_by (is_act_at k) (acts_at c5 c (draws s).0 ++ acts_from (c + 1) n (draws s).1) ≤ 12
  by true e more =
      let l = leb-true k c e in
      let one = count_both k (acts_at c5 c (draws s).0) (acts_from (c + 1) n (draws s).1) in
      let none = none_before k (c + 1) (c + 1 + n) (acts_from (c + 1) n (draws s).1) (omega arith) (acts_within (c + 1) n (draws s).1) in
      let some = count_by-le-length (is_act_at k) (acts_at c5 c (draws s).0) in
      let few = (acts_are c s).few in
      omega arith
  by false e more =
      let l = leb-false k c e in
      let one = count_both k (acts_at c5 c (draws s).0) (acts_from (c + 1) n (draws s).1) in
      let none = none_of k c (acts_at c5 c (draws s).0) l (weaker (IsAct c) (λ x. x.0 ≡ c) (λ x h. h.0) _ (acts_are c s).fit) in
      omega arith

-- ---- the edits

abbrev IsEdit : ℕ → ℕ → Edit → Type 0
IsEdit c f e = (e.cycle ≡ c) × IsOther 5 (Some f) e.to × KindFits e.what

other_below : (f t : ℕ) → (f + 1 + t) % 5 < 5
other_below f t = omega arith

other_else : (f t : ℕ) → f < 5 → t < 4 → (f + 1 + t) % 5 ≡ f → ⊥
other_else f t l k e = omega arith

abbrev chosen : ℕ → ℕ → Draws → Bool → Bool → Bool → Bool → Bool → Bool → Option Edit
chosen c f d a0 a1 a2 a3 a4 a5 =
    cond a0 (edit c None None Drop)
    (cond a1 (edit c (Some A1) (Some (other_than f d)) (Flip (7 + 4 * d.place) 0x01))
    (cond a2 (edit c (Some A1) None (Flip (7 + 4 * d.place) 0x02))
    (cond a3 (edit c (Some A2) (Some (other_than f d)) (Flip (7 + 4 * d.place) 0x03))
    (cond a4 (edit c (Some B1) (Some (other_than f d)) (Flip (7 + d.place) 0xff))
    (cond a5 (edit c (Some A1) None Repeat) None)))))

chosen_are : (c f : ℕ) (d : Draws) → f < 5 → AreDraws d → (a0 a1 a2 a3 a4 a5 : Bool) → AllByRecursion (IsEdit c f) (option_to_list (chosen c f d a0 a1 a2 a3 a4 a5))
chosen_are c f d l h true a1 a2 a3 a4 a5 = ((refl, tt, tt), tt)
chosen_are c f d l h false true a2 a3 a4 a5 = let p = h.place in ((refl, (other_below f d.to, other_else f d.to l h.to), (omega arith, omega arith)), tt)
chosen_are c f d l h false false true a3 a4 a5 = let p = h.place in ((refl, tt, (omega arith, omega arith)), tt)
chosen_are c f d l h false false false true a4 a5 = let p = h.place in ((refl, (other_below f d.to, other_else f d.to l h.to), (omega arith, omega arith)), tt)
chosen_are c f d l h false false false false true a5 = let p = h.place in ((refl, (other_below f d.to, other_else f d.to l h.to), (omega arith, omega arith)), tt)
chosen_are c f d l h false false false false false true = ((refl, tt, tt), tt)
chosen_are c f d l h false false false false false false = tt

edits_are : (c f : ℕ) (d : Draws) → f < 5 → AreDraws d → AllByRecursion (IsEdit c f) (option_to_list (edit_of c f d))
unfolding edit_of
edits_are c f d l h = chosen_are c f d l h (eqb d.edit 0) (eqb d.edit 1) (eqb d.edit 2) (eqb d.edit 3) (eqb d.edit 4) (eqb d.edit 5)

pub edits_within : (f c n s : ℕ) → f < 5 → Within (λ e. e.cycle) c (c + n) (edits_from f c n s)
unfolding edits_from
edits_within f c zero s l = tt
edits_within f c (suc n) s l =
    let more = within_later (λ e. e.cycle) c (c + 1) (c + suc n) (edits_from f (c + 1) n (draws s).1) (omega arith) (subst (λ (k : ℕ). Within (λ e. e.cycle) (c + 1) k (edits_from f (c + 1) n (draws s).1)) (one_on c n) (edits_within f (c + 1) n (draws s).1 l)) in
    within_cycle (λ e. e.cycle) c (c + suc n) (option_to_list (edit_of c f (draws s).0)) _ (omega arith) (weaker (IsEdit c f) (λ e. e.cycle ≡ c) (λ e h. h.0) _ (edits_are c f (draws s).0 l (are_draws s))) more where
      one_on : (k m : ℕ) → k + 1 + m ≡ k + suc m
      one_on k m = omega arith

pub edits_there : (f c n s : ℕ) → f < 5 → AllByRecursion (EditIsThere 5 (Some f) []) (edits_from f c n s)
unfolding edits_from
edits_there f c zero s l = tt
edits_there f c (suc n) s l = all-append (EditIsThere 5 (Some f) []) (option_to_list (edit_of c f (draws s).0)) _ (weaker (IsEdit c f) (EditIsThere 5 (Some f) []) (λ e h. (h.1, h.2)) _ (edits_are c f (draws s).0 l (are_draws s))) (edits_there f (c + 1) n (draws s).1 l)

-- ---- the script

first_below : (s : ℕ) → (pick 5 s).0 < 5
first_below s = omega arith

pub workload_playable : (start cycles : ℕ) → 1 ≤ cycles → cycles ≤ 100000 → IsPlayable 5 (workload start cycles)
unfolding workload
workload_playable start cycles l k =
    let f = (pick 5 start).0 in
    let s = (pick 5 start).1 in
    record {
      long = l;
      short = k;
      first = first_below start;
      rejoins_order = tt;
      rejoins_apart = tt;
      rejoins = tt;
      acts_order = subst (λ (e : ℕ). Within (λ x. x.0) 0 e (acts_from 0 cycles s)) (zero_more cycles) (acts_within 0 cycles s);
      acts = acts_there 0 cycles s;
      few_acts = λ c. let few = count_few c 0 cycles s in omega arith;
      edits_order = subst (λ (e : ℕ). Within (λ x. x.cycle) 0 e (edits_from f 0 cycles s)) (zero_more cycles) (edits_within f 0 cycles s (first_below start));
      edits = edits_there f 0 cycles s (first_below start);
    } where
      zero_more : (n : ℕ) → 0 + n ≡ n
      zero_more n = omega arith

pub workload_script : (start cycles : ℕ) → 1 ≤ cycles → cycles ≤ 100000 → IsScript 5 (workload start cycles)
workload_script start cycles l k = playable_is_script 5 (workload start cycles) (workload_playable start cycles l k)

pub workload_few_at : (start cycles c : ℕ) → count_by (is_act_at c) (workload start cycles).acts ≤ 12
unfolding workload
workload_few_at start cycles c = count_few c 0 cycles (pick 5 start).1

pub workload_few : (start cycles : ℕ) → length (workload start cycles).acts ≤ 12 * cycles
unfolding workload
workload_few start cycles = acts_few 0 cycles (pick 5 start).1
