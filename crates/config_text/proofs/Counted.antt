-- How many items an array has.
use Rattle.std.proofs.Common.{◌≡◌, ℕ, ◌≤◌, true, List, [], ◌∷◌, length, drop, refl, ap, sym, ◌∙◌, arith}
use Rattle.std.specs.Prelude.{Some, None, option_map, nat_le}
use Rattle.std.proofs.lemmas.Bool.{le-leb, cond-true}
use Rattle.std.proofs.lemmas.List.{drop_all}
use Rattle.arrayvec.specs.ArrayVec.{ArrayVec}
use Rattle.ftpp_base.specs.declared.element.Proc.{Proc}
use Rattle.toml.specs.declared.value.Value.{Value}
use Rattle.toml.specs.View.{items_view}
use Rattle.config_text.specs.Values.{item_count, procs_from, few_procs, row_of}

pub count_view : (vs : List Value) → item_count (items_view vs) ≡ length vs
count_view [] = refl
count_view (v ∷ vs) = let more = count_view vs in omega arith

-- the row that a loop over at most four strings ends with
pub few_found : (vs : List Value) (i : ℕ) (row : ArrayVec Proc) → length vs ≤ 4 → length vs ≤ i → procs_from row.items (items_view (drop i vs)) ≡ procs_from [] (items_view vs)
    → Some row ≡ option_map row_of (few_procs (items_view vs))
unfolding few_procs
few_found vs i row few all found =
    let rest : drop i vs ≡ [] = drop_all i vs all in
    let end : Some row.items ≡ procs_from [] (items_view vs) = rw rest at found in
    let short : nat_le (item_count (items_view vs)) 4 ≡ true = le-leb _ _ (rw (count_view vs) few) in
    ap (option_map row_of) (end ∙ sym (cond-true _ (procs_from [] (items_view vs)) None short))
