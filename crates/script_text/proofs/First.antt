-- A refusal is that of the first line that is not accepted.
use Rattle.std.proofs.Common.{◌≡◌, ℕ, suc, ◌+◌, List, [], ◌∷◌, ◌++◌, length, refl, ap, sym, ◌∙◌, arith, Option, Some, None, Result, Ok, Err, inl, inr}
use Rattle.std.specs.Prelude.{count_by}
use Rattle.script_text.specs.declared.items.Item.{Item}
use Rattle.script_text.specs.declared.Script.{Script}
use Rattle.script_text.specs.declared.ScriptError.{ScriptError}
use Rattle.script_text.specs.declared.ScriptError.TheVariants.{At, Memory}
use Rattle.script_words.specs.declared.refusals.Refused.{Refused}
use Rattle.script_words.specs.declared.refusals.Refused.TheVariants.{NoCycles}
use Rattle.script_words.specs.Refusals.{refused_code}
use Rattle.script_words.specs.Lines.{words_of, lines_of, is_newline}
use Rattle.script_words.specs.Fields.{◌>>=◌}
use Rattle.script_text.specs.Items.{before, cycles_in}
use Rattle.script_text.specs.Judged.{line_read}
use Rattle.script_text.specs.Reading.{Refusal, at_line, onto, items_from, plan_from, script_of, Reads, IsFirstRefused, TellsFirst, RefusesFirst}

-- the same behind items and from a number on
record First (n : ℕ) (items : List Item) (line : ℕ) (lines : List (List ℕ)) (r : Refusal) : Type 0 where
  front : List (List ℕ)
  words : List ℕ
  back : List (List ℕ)
  more : List Item
  parts : lines ≡ front ++ words ∷ back
  place : r.line ≡ line + length front
  accepted : items_from n items line front ≡ Ok more
  why : Refused
  refused : line_read (before n more) (words_of words) ≡ Err why
  code : r.code ≡ refused_code why

first_with : (n : ℕ) (items : List Item) (line : ℕ) (l : List ℕ) (lines : List (List ℕ)) (r : Refusal) (read : Result (Option Item) Refused) → line_read (before n items) (words_of l) ≡ read → ((o : Option Item) → items_from n (onto o items) (line + 1) lines ≡ Err r → First n (onto o items) (line + 1) lines r) → (at_line line read >>= λ o. items_from n (onto o items) (line + 1) lines) ≡ Err r → First n items line (l ∷ lines) r
unfolding items_from
first_with n items line l lines r (Err code) e ih h =
    let same : record { line = line; code = refused_code code } ≡ r = cc in
    record { front = []; words = l; back = lines; more = items; parts = refl; place = ap (λ (x : Refusal). x.line) (sym same) ∙ zero_more line; accepted = refl; why = code; refused = e; code = ap (λ (x : Refusal). x.code) (sym same) } where
      zero_more : (k : ℕ) → k ≡ k + 0
      zero_more k = omega arith
first_with n items line l lines r (Ok o) e ih h =
    let f = ih o h in
    record { front = l ∷ f.front; words = f.words; back = f.back; more = f.more; parts = ap (λ ls. l ∷ ls) f.parts; place = f.place ∙ one_more line (length f.front); accepted = ap (λ x. at_line line x >>= λ o'. items_from n (onto o' items) (line + 1) f.front) e ∙ f.accepted; why = f.why; refused = f.refused; code = f.code } where
      one_more : (k m : ℕ) → k + 1 + m ≡ k + suc m
      one_more k m = omega arith

first_from : (n : ℕ) (items : List Item) (line : ℕ) (lines : List (List ℕ)) (r : Refusal) → items_from n items line lines ≡ Err r → First n items line lines r
unfolding items_from
first_from n items line [] r h = absurd cc
first_from n items line (l ∷ lines) r h =
    first_with n items line l lines r (line_read (before n items) (words_of l)) refl (λ o e. first_from n (onto o items) (line + 1) lines r e) h

pub first_refused : (n : ℕ) (lines : List (List ℕ)) (r : Refusal) → items_from n [] 1 lines ≡ Err r → IsFirstRefused n lines r
first_refused n lines r h =
    let f = first_from n [] 1 lines r h in
    record { front = f.front; words = f.words; back = f.back; items = f.more; parts = f.parts; place = f.place; accepted = f.accepted; why = f.why; refused = f.refused; code = f.code }

ended : (n : ℕ) (bytes : List ℕ) (r : Refusal) (all : Result (List Item) Refusal) → items_from n [] 1 (lines_of bytes) ≡ all → (all >>= λ items. plan_from (1 + count_by is_newline bytes) items (cycles_in items)) ≡ Err r → TellsFirst n bytes r
ended n bytes r (Err q) e h = let same : q ≡ r = cc in inl (rw (← same) (first_refused n (lines_of bytes) q e))
ended n bytes r (Ok items) e h = inr (last (cycles_in items) h) where
  last : (o : Option ℕ) → plan_from (1 + count_by is_newline bytes) items o ≡ Err r → (r.line ≡ 1 + count_by is_newline bytes) × (r.code ≡ refused_code NoCycles)
  last None k = let same : record { line = 1 + count_by is_newline bytes; code = refused_code NoCycles } ≡ r = cc in (ap (λ (x : Refusal). x.line) (sym same), ap (λ (x : Refusal). x.code) (sym same))
  last (Some c) k = absurd cc

pub tells_first : (n : ℕ) (bytes : List ℕ) (result : Result Script ScriptError) → Reads result (script_of n bytes) → RefusesFirst n bytes result
unfolding script_of
tells_first n bytes (Ok script) h = tt
tells_first n bytes (Err Memory) h = tt
tells_first n bytes (Err (At line code)) h = ended n bytes (record { line = line; code = code }) (items_from n [] 1 (lines_of bytes)) refl h
