-- The canonical text, piece by piece.
use Rattle.std.proofs.Common.{◌≡◌, ℕ, suc, ◌+◌, ◌-◌, Bool, true, false, eqb, List, [], ◌∷◌, ◌++◌, map, refl, ap, sym, ◌∙◌, append_assoc, arith, Option, Some, None}
use Rattle.std.specs.List.{flat_map, prefix_len}
use Rattle.std.proofs.lemmas.List.{append-nil}
use Rattle.std.proofs.lemmas.List.Concat.{flat_map-cons, flat_map-append}
use Rattle.packet_format.specs.declared.acts.Act.{Act}
use Rattle.fault_script.specs.declared.Edit.{Edit}
use Rattle.script_text.specs.declared.items.Item.{Item}
use Rattle.script_text.specs.declared.items.Item.TheVariants.{Cycles, Faulty}
use Rattle.script_text.specs.Reading.{Plan}
use Rattle.std.proofs.lemmas.Bool.{eqb-true}
use Rattle.script_text.specs.Printing.{item_line, text_of, front_while, rest_after, canonical_from, is_rejoin_at, is_act_at, is_edit_at, rejoined, asked, edited, named_items, canonical}

suc_is : (n : ℕ) → 1 + n ≡ suc n
suc_is n = omega arith

pub front_yes : {X : Type 0} (p : X → Bool) (x : X) (xs : List X) → p x ≡ true → front_while p (x ∷ xs) ≡ x ∷ front_while p xs
front_yes p x xs e = rw (e, suc_is (prefix_len p xs)) refl

pub rest_yes : {X : Type 0} (p : X → Bool) (x : X) (xs : List X) → p x ≡ true → rest_after p (x ∷ xs) ≡ rest_after p xs
rest_yes p x xs e = rw (e, suc_is (prefix_len p xs)) refl

pub front_no : {X : Type 0} (p : X → Bool) (x : X) (xs : List X) → p x ≡ false → front_while p (x ∷ xs) ≡ []
front_no p x xs e = rw e refl

pub rest_no : {X : Type 0} (p : X → Bool) (x : X) (xs : List X) → p x ≡ false → rest_after p (x ∷ xs) ≡ x ∷ xs
rest_no p x xs e = rw e refl

-- what is printed of those at the front, and what is left
pub record Prints {X : Type 0} (f : X → Item) (p : X → Bool) (first : List ℕ) (all : List X) (out : List ℕ) (rest : List X) : Type 0 where
  pub text : out ++ text_of (map f (front_while p rest)) ≡ first ++ text_of (map f (front_while p all))
  pub left : rest_after p rest ≡ rest_after p all

pub prints_more : {X : Type 0} (f : X → Item) (p : X → Bool) (first : List ℕ) (all : List X) (out : List ℕ) (x : X) (rest : List X) → p x ≡ true → Prints f p first all out (x ∷ rest) → Prints f p first all (out ++ item_line (f x)) rest
unfolding text_of
prints_more f p first all out x rest e h = record {
  text = append_assoc out (item_line (f x)) _ ∙ ap (λ (t : List ℕ). out ++ t) (sym (flat_map-cons item_line (f x) (map f (front_while p rest)))) ∙ ap (λ xs. out ++ flat_map item_line (map f xs)) (sym (front_yes p x rest e)) ∙ h.text;
  left = sym (rest_yes p x rest e) ∙ h.left;
}

pub prints_stop : {X : Type 0} (f : X → Item) (p : X → Bool) (first : List ℕ) (all : List X) (out : List ℕ) (x : X) (rest : List X) → p x ≡ false → Prints f p first all out (x ∷ rest) → (out ≡ first ++ text_of (map f (front_while p all))) × (x ∷ rest ≡ rest_after p all)
unfolding text_of
prints_stop f p first all out x rest e h =
    (sym (append-nil out) ∙ ap (λ xs. out ++ flat_map item_line (map f xs)) (sym (front_no p x rest e)) ∙ h.text, sym (rest_no p x rest e) ∙ h.left)

pub prints_end : {X : Type 0} (f : X → Item) (p : X → Bool) (first : List ℕ) (all : List X) (out : List ℕ) → Prints f p first all out [] → (out ≡ first ++ text_of (map f (front_while p all))) × ([] ≡ rest_after p all)
unfolding text_of
prints_end f p first all out h = (sym (append-nil out) ∙ h.text, h.left)

-- one cycle more
pub cycle_more : (text total : List ℕ) (c n k : ℕ) (rejoins : List (ℕ × Option ℕ)) (acts : List (ℕ × Act)) (edits : List Edit) → n ≡ suc k
    → text ++ text_of (canonical_from c n rejoins acts edits) ≡ total
    → (((text ++ text_of (map rejoined (front_while (is_rejoin_at c) rejoins))) ++ text_of (map asked (front_while (is_act_at c) acts))) ++ text_of (map edited (front_while (is_edit_at c) edits)))
    ++ text_of (canonical_from (c + 1) k (rest_after (is_rejoin_at c) rejoins) (rest_after (is_act_at c) acts) (rest_after (is_edit_at c) edits)) ≡ total
unfolding text_of canonical_from
cycle_more text total c n k rejoins acts edits e h =
    let parts : text ++ flat_map item_line (canonical_from c (suc k) rejoins acts edits) ≡ total = ap (λ (m : ℕ). text ++ flat_map item_line (canonical_from c m rejoins acts edits)) (sym e) ∙ h in
    simp (append_assoc) (simp (flat_map-append) at parts)

pub ne-eqb : (m n : ℕ) → (m ≡ n → ⊥) → eqb m n ≡ false
ne-eqb m n h = at (eqb m n) refl where
  at : (b : Bool) → eqb m n ≡ b → b ≡ false
  at true e = absurd (h (eqb-true m n e))
  at false e = refl

pub named_none : (text : List ℕ) → text ++ text_of (named_items None) ≡ text
unfolding text_of
named_none text = append-nil text

pub named_some : (text : List ℕ) (e : ℕ) → text ++ text_of (named_items (Some e)) ≡ text ++ item_line (Faulty e)
unfolding text_of
named_some text e = ap (λ (t : List ℕ). text ++ t) (append-nil (item_line (Faulty e)))

pub canonical_starts : (p : Plan) (text : List ℕ) → text ≡ ([] ++ item_line (Cycles p.cycles)) ++ text_of (named_items p.faulty) → text ++ text_of (canonical_from 0 (p.cycles - 0) p.rejoins p.acts p.edits) ≡ text_of (canonical p)
unfolding text_of canonical
canonical_starts p text e =
    let all : p.cycles - 0 ≡ p.cycles = omega arith in
    rw (all, e, flat_map-append item_line (named_items p.faulty) (canonical_from 0 p.cycles p.rejoins p.acts p.edits)) (append_assoc (item_line (Cycles p.cycles)) (flat_map item_line (named_items p.faulty)) (flat_map item_line (canonical_from 0 p.cycles p.rejoins p.acts p.edits)))

pub canonical_ends : (p : Plan) (text : List ℕ) (c n : ℕ) (rejoins : List (ℕ × Option ℕ)) (acts : List (ℕ × Act)) (edits : List Edit) → n ≡ 0 → text ++ text_of (canonical_from c n rejoins acts edits) ≡ text_of (canonical p) → text ≡ text_of (canonical p)
unfolding text_of canonical_from
canonical_ends p text c n rejoins acts edits e h = sym (append-nil text) ∙ ap (λ (m : ℕ). text ++ flat_map item_line (canonical_from c m rejoins acts edits)) (sym e) ∙ h
