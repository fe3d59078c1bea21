-- The groups that may be chosen, over the groups of a table and by their numbers.
use Rattle.std.proofs.Common.{◌≡◌, ◌≢◌, ℕ, ◌+◌, ◌<◌, Bool, true, false, List, [], ◌∷◌, ◌++◌, take, length, refl, ap, sym, ◌∙◌, arith, ◌⊎◌, inl, inr, cond, get_or, take-suc, suc, Contains}
use Rattle.std.specs.Prelude.{Option, Some, None, option_map, unwrap_or, is_some, ◌==◌, ◌&&◌, ◌||◌}
use Rattle.std.specs.List.{list_any}
use Rattle.std.proofs.lemmas.Bool.{cases_eq, eqb-true, eq-eqb, ne_eqb, and_parts, and_from, and_left, and_right, or_cases, or_right, false_from_ne_true}
use Rattle.ftpp_base.proofs.Items.{IsItem, item_any, item_contains, contains_item}
use Rattle.ftpp_base.specs.Vids.{has_vid}
use Rattle.config_table.specs.declared.groups.Group.{Group}
use Rattle.config_table.specs.declared.decisions.GroupFlags.{GroupFlags}
use Rattle.config_table.specs.Table.{TableValue, IsValid, group_named}
use Rattle.config_table.proofs.ValidTable.{named-itself, named-there}
use Rattle.sender_choice.specs.Sinces.{Sinces, is_held, nothing_held, with_since}
use Rattle.scoreboard.specs.Board.{Scoreboard}
use Rattle.scoreboard.specs.Steps.{may_be_chosen, is_choosable, sinces_in}
use Rattle.scoreboard.proofs.Holding.{AreKnown, known_with}

-- whether the group has that number and may be chosen
abbrev pub is_choice_of : TableValue → List GroupFlags → ℕ → Scoreboard → ℕ → Group → Bool
is_choice_of table flags now board vid g = g.vid == vid && may_be_chosen table flags now board g

-- some group passes, where one does
any_item : {A : Type 0} (p : A → Bool) (xs : List A) → list_any p xs ≡ true → (x : A) × IsItem xs x × (p x ≡ true)
any_item p [] e = cc
any_item p (x ∷ xs) e = elim (or_cases (p x) (list_any p xs) e) [
  | inl h ↦ (x, inl refl, h)
  | inr h ↦ let r = any_item p xs h in (r.0, inr r.1, r.2)
]

-- one item more at the end
any_end : {A : Type 0} (p : A → Bool) (xs : List A) (x : A) → list_any p (xs ++ x ∷ []) ≡ (list_any p xs || p x)
any_end p [] x = last (p x) where
  last : (b : Bool) → (b || false) ≡ (false || b)
  last true = refl
  last false = refl
any_end p (y ∷ ys) x = ap (λ b. p y || b) (any_end p ys x) ∙ sym (group (p y) (list_any p ys) (p x)) where
  group : (a b c : Bool) → ((a || b) || c) ≡ (a || (b || c))
  group true b c = refl
  group false b c = refl

pub any_more : {A : Type 0} (p : A → Bool) (xs : List A) (k : ℕ) (x : A) → k < length xs → get_or xs k x ≡ x → list_any p (take (k + 1) xs) ≡ (list_any p (take k xs) || p x)
any_more p xs k x l at =
    let more = take-suc xs k x l in
    let next : k + 1 ≡ suc k = omega arith in
    ap (λ n. list_any p (take n xs)) next ∙ ap (list_any p) (more ∙ ap (λ y. take k xs ++ y ∷ []) at) ∙ any_end p (take k xs) x

-- by the group of the number
choice_by : (o : Option Group) (table : TableValue) (flags : List GroupFlags) (now : ℕ) (board : Scoreboard) (vid : ℕ) → IsValid table → group_named table vid ≡ o
    → list_any (is_choice_of table flags now board vid) table.groups ≡ unwrap_or (option_map (may_be_chosen table flags now board) o) false
choice_by None table flags now board vid valid named =
    false_from_ne_true (list_any (is_choice_of table flags now board vid) table.groups) (λ e.
    let r = any_item (is_choice_of table flags now board vid) table.groups e in
    let number = eqb-true r.0.vid vid (and_parts (r.0.vid == vid) (may_be_chosen table flags now board r.0) r.2).0 in
    let itself = named-itself table valid r.0 (item_contains table.groups r.0 r.1) in
    let wrong : ◌≡◌ {A = Option Group} None (Some r.0) = sym named ∙ ap (group_named table) (sym number) ∙ itself in cc)
choice_by (Some g) table flags now board vid valid named = by (may_be_chosen table flags now board g) refl where
  there : (Contains table.groups g) × (g.vid ≡ vid)
  there = named-there table vid g named

  by : (b : Bool) → may_be_chosen table flags now board g ≡ b → list_any (is_choice_of table flags now board vid) table.groups ≡ b
  by true e = item_any (is_choice_of table flags now board vid) table.groups g (contains_item table.groups g there.0) (and_from (g.vid == vid) (may_be_chosen table flags now board g) (eq-eqb g.vid vid there.1) e)
  by false e = false_from_ne_true (list_any (is_choice_of table flags now board vid) table.groups) (λ h.
      let r = any_item (is_choice_of table flags now board vid) table.groups h in
      let parts = and_parts (r.0.vid == vid) (may_be_chosen table flags now board r.0) r.2 in
      let number = eqb-true r.0.vid vid parts.0 in
      let itself = named-itself table valid r.0 (item_contains table.groups r.0 r.1) in
      let same : Some r.0 ≡ Some g = sym itself ∙ ap (group_named table) number ∙ named in
      let one : r.0 ≡ g = cc in
      let wrong = ap (may_be_chosen table flags now board) one in cc)

-- over all groups of a table
pub choice_of_all : (table : TableValue) (flags : List GroupFlags) (now : ℕ) (board : Scoreboard) (vid : ℕ) → IsValid table
    → list_any (is_choice_of table flags now board vid) table.groups ≡ is_choosable table flags now board vid
choice_of_all table flags now board vid valid = choice_by (group_named table vid) table flags now board vid valid refl

-- ---- a set that is filled

-- a set with one number more, if that may be chosen
pub has_more : (old new : List Bool) (n vid : ℕ) (b : Bool) → b ≡ true → has_vid new n ≡ true → ((other : ℕ) → other ≢ n → has_vid new other ≡ has_vid old other)
    → has_vid new vid ≡ (has_vid old vid || (n == vid && b))
has_more old new n vid b passes put others = elim (cases_eq n vid) [
  | inl same ↦ ap (has_vid new) (sym same) ∙ put ∙ sym (or_right (has_vid old vid) (n == vid && b) (and_from (n == vid) b (eq-eqb n vid same) passes))
  | inr ne ↦ others vid (λ e. ne (sym e)) ∙ sym (or_false (has_vid old vid) (n == vid && b) (and_left (n == vid) b (ne_eqb n vid ne)))
] where
  or_false : (a c : Bool) → c ≡ false → (a || c) ≡ a
  or_false true c e = refl
  or_false false c e = e

-- and one without
pub has_same : (old : List Bool) (n vid : ℕ) (b : Bool) → b ≡ false → has_vid old vid ≡ (has_vid old vid || (n == vid && b))
has_same old n vid b out = sym (or_false (has_vid old vid) (n == vid && b) (and_right (n == vid) b out)) where
  or_false : (a c : Bool) → c ≡ false → (a || c) ≡ a
  or_false true c e = refl
  or_false false c e = e

-- ---- the groups so far

-- The choosable groups among the first k are in the set, and each of these is held since its request waits.
pub record IsChoosing (table : TableValue) (flags : List GroupFlags) (now : ℕ) (board : Scoreboard) (k : ℕ) (eligible : List Bool) (held : Sinces) : Type 0 where
  pub chosen : (vid : ℕ) → has_vid eligible vid ≡ list_any (is_choice_of table flags now board vid) (take k table.groups)
  pub since : (vid : ℕ) → has_vid eligible vid ≡ true → held vid ≡ sinces_in board vid
  pub known : AreKnown table held

-- no group is held before the first
pub none_yet : (table : TableValue) (flags : List GroupFlags) (now : ℕ) (board : Scoreboard) (eligible : List Bool) (held : Sinces)
    → ((vid : ℕ) → has_vid eligible vid ≡ false) → held ≡ nothing_held → IsChoosing table flags now board 0 eligible held
none_yet table flags now board eligible held out none = record {
  chosen = out;
  since = λ vid e. let never = out vid in cc;
  known = λ vid e. let gone = ap (λ s. is_held s vid) none in cc;
}

-- one group more that may be chosen
pub choose_more : (table : TableValue) (flags : List GroupFlags) (now : ℕ) (board : Scoreboard) (k : ℕ) (old new : List Bool) (held after : Sinces) (g : Group) (since : ℕ)
    → IsValid table → IsChoosing table flags now board k old held → k < length table.groups → get_or table.groups k g ≡ g
    → may_be_chosen table flags now board g ≡ true → sinces_in board g.vid ≡ Some since
    → has_vid new g.vid ≡ true → ((other : ℕ) → other ≢ g.vid → has_vid new other ≡ has_vid old other) → after ≡ with_since held g.vid since
    → IsChoosing table flags now board (k + 1) new after
choose_more table flags now board k old new held after g since valid h l at passes waits put others next = record {
  chosen = λ vid.
      let test = is_choice_of table flags now board vid in
      has_more old new g.vid vid (may_be_chosen table flags now board g) passes put others
      ∙ ap (λ b. b || test g) (h.chosen vid) ∙ sym (any_more test table.groups k g l at);
  since = λ vid e. ap (λ s. s vid) next ∙ by_group vid e (cases_eq vid g.vid);
  known = λ vid e. known_with table held g.vid since (ap is_some (named-itself table valid g (k, l, at))) h.known vid (sym (ap (λ s. is_held s vid) next) ∙ e);
} where
  by_group : (vid : ℕ) → has_vid new vid ≡ true → (vid ≡ g.vid) ⊎ (vid ≢ g.vid) → with_since held g.vid since vid ≡ sinces_in board vid
  by_group vid e (inl same) = ap (λ b. cond b (Some since) (held vid)) (eq-eqb vid g.vid same) ∙ sym waits ∙ ap (sinces_in board) (sym same)
  by_group vid e (inr differs) = ap (λ b. cond b (Some since) (held vid)) (ne_eqb vid g.vid differs) ∙ h.since vid (sym (others vid differs) ∙ e)

-- and one that may not
pub choose_same : (table : TableValue) (flags : List GroupFlags) (now : ℕ) (board : Scoreboard) (k : ℕ) (old new : List Bool) (held after : Sinces) (g : Group)
    → IsChoosing table flags now board k old held → k < length table.groups → get_or table.groups k g ≡ g
    → may_be_chosen table flags now board g ≡ false → new ≡ old → after ≡ held → IsChoosing table flags now board (k + 1) new after
choose_same table flags now board k old new held after g h l at out same next = record {
  chosen = λ vid.
      let test = is_choice_of table flags now board vid in
      ap (λ s. has_vid s vid) same ∙ has_same old g.vid vid (may_be_chosen table flags now board g) out
      ∙ ap (λ b. b || test g) (h.chosen vid) ∙ sym (any_more test table.groups k g l at);
  since = λ vid e. ap (λ s. s vid) next ∙ h.since vid (sym (ap (λ s. has_vid s vid) same) ∙ e);
  known = λ vid e. h.known vid (sym (ap (λ s. is_held s vid) next) ∙ e);
}
