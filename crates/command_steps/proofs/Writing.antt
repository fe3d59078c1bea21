-- What was written is the output that was to be written.
use Rattle.std.proofs.Common.{◌≡◌, ℕ, suc, ◌+◌, List, [], ◌∷◌, ◌++◌, take, length, Option, Result, Ok, Err, refl, ap, subst, sym, arith, length-append, ◌∙◌}
use Rattle.std.specs.Prelude.{OnErr}
use Rattle.std.proofs.lemmas.List.{take-append-le}
use Rattle.ftpp_outside.specs.Told.{Adds}
use Rattle.ftpp_outside.proofs.Told.{adds_none, adds_both}
use Rattle.config_table.specs.Table.{TableValue}
use Rattle.command_steps.specs.Ends.{Prints, WithTable, AddsPrefix, Writes, WritesPart}

pub writes_table : (front text : List ℕ) (table : TableValue) (old new : Option (List ℕ)) → Prints text table → Adds old (front ++ text) new → Writes (WithTable front table) old new
writes_table front text table old new e h = (text, e, h)

pub writes_table_part : (front text : List ℕ) (table : TableValue) (old new : Option (List ℕ)) → Prints text table → AddsPrefix old (front ++ text) new → WritesPart (WithTable front table) old new
writes_table_part front text table old new e h = (text, e, h)

-- ---- one text after another

pub adds_more : (one two : List ℕ) (old mid new : Option (List ℕ)) → Adds old one mid → Adds mid two new → Adds old (one ++ two) new
adds_more one two old mid new g h = adds_both old mid new one two (one ++ two) g h refl

pub prefix_of_front : (one two : List ℕ) (old new : Option (List ℕ)) → AddsPrefix old one new → AddsPrefix old (one ++ two) new
prefix_of_front one two old new (n, l, h) =
    (n, omega (arith, length-append one two, l), subst (λ (xs : List ℕ). Adds old xs new) (sym (take-append-le n one two l)) h)

none_more : (n : ℕ) → 0 + n ≡ n
none_more n = omega arith

suc_left : (m n : ℕ) → suc m + n ≡ suc (m + n)
suc_left m n = omega arith

take_past : (one two : List ℕ) (n : ℕ) → take (length one + n) (one ++ two) ≡ one ++ take n two
take_past [] two n = ap (λ k. take k two) (none_more n)
take_past (x ∷ one) two n = ap (λ k. take k (x ∷ (one ++ two))) (suc_left (length one) n) ∙ ap (λ (xs : List ℕ). x ∷ xs) (take_past one two n)

pub prefix_of_rest : (one two : List ℕ) (old mid new : Option (List ℕ)) → Adds old one mid → AddsPrefix mid two new → AddsPrefix old (one ++ two) new
prefix_of_rest one two old mid new g (n, l, h) =
    (length one + n, omega (arith, length-append one two, l), adds_both old mid new one (take n two) _ g h (take_past one two n))

pub adds_nothing : (old : Option (List ℕ)) → Adds old [] old
adds_nothing = adds_none

pub rest_cut : {T E : Type 0} (r : Result T E) (one two : List ℕ) (old mid new : Option (List ℕ)) → Adds old one mid → OnErr r (AddsPrefix mid two new) → OnErr r (AddsPrefix old (one ++ two) new)
rest_cut (Ok x) one two old mid new g h = tt
rest_cut (Err e) one two old mid new g h = prefix_of_rest one two old mid new g h
