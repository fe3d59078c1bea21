-- A map's entry more is a member more.
use Rattle.std.proofs.Common.{◌≡◌, ℕ, ◌+◌, pos, cond, ap, add-one, List, [], ◌∷◌, ◌++◌, String, Global, Ordering, Less, Equal, Greater, string_bytes, refl, ◌∙◌}
use Rattle.std.specs.Ordering.{match_ordering}
use Rattle.std.specs.BTreeMap.{insert_entry}
use Rattle.std.specs.String.{string_cmp}
use Rattle.toml.specs.Data.{Data, integer, push_item}
use Rattle.ftpp_base.specs.declared.sets.Set8.{Set8}
use Rattle.ftpp_base.specs.Sets.{has}
use Rattle.toml.specs.declared.value.Value.{Value}
use Rattle.toml.specs.View.{view, items_view, members_view}
use Rattle.toml.proofs.Views.{Entry, items_view-push}
use Rattle.config_text.specs.Printing.{with_member, numbers_below}

view_match : (o : Ordering) (a b c : List Entry) → members_view (match_ordering o a b c) ≡ match_ordering o (members_view a) (members_view b) (members_view c)
view_match Less a b c = refl
view_match Equal a b c = refl
view_match Greater a b c = refl

pub view_inserted : (es : List Entry) (k : String Global) (v : Value) → members_view (insert_entry string_cmp es k v) ≡ with_member (string_bytes k) (view v) (members_view es)
view_inserted [] k v = refl
view_inserted (e ∷ es) k v = view_match (string_cmp k e.0) _ _ _ ∙ rw (view_inserted es k v)

-- one number more
pub numbers_more : (s : Set8) (i : ℕ) → numbers_below s (i + 1) ≡ cond (has s i) (push_item (numbers_below s i) (integer (pos i))) (numbers_below s i)
numbers_more s i = ap (numbers_below s) (add-one i)

-- one item more
pub view_pushed : (vs : List Value) (v : Value) (d : Data) → view v ≡ d → items_view (vs ++ v ∷ []) ≡ push_item (items_view vs) d
view_pushed vs v d is = items_view-push vs v ∙ ap (push_item (items_view vs)) is
