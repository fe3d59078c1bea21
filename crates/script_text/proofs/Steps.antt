-- One line more.
use Rattle.std.proofs.Common.{◌≡◌, ℕ, ◌+◌, ◌<◌, ◌≤◌, Bool, true, false, cond, eqb, List, [], ◌∷◌, ◌++◌, length, map, refl, ap, sym, subst, ◌∙◌, arith, eq-eqb, Some, None, Ok, Err, Option, Result, IsTrue}
use Rattle.std.specs.Prelude.{count_by, IfSome}
use Rattle.std.specs.List.{slice_split}
use Rattle.std.proofs.lemmas.Bool.{eqb-true, eqb-false, leb-true}
use Rattle.std.proofs.lemmas.List.Splits.{length-slice_split}
use Rattle.std.proofs.lemmas.List.Sums.{count_by-le-length}
use denote.Ref.{Bor}
use Rattle.std.specs.Str.Lines.{strip_carriage_return}
use Rattle.script_text.specs.declared.items.Item.{Item}
use Rattle.script_text.specs.declared.items.Item.TheVariants.{Cycles, Faulty, Asked, Edited, Rejoined}
use Rattle.script_text.specs.declared.items.SoFar.{SoFar}
use Rattle.script_text.specs.declared.Script.{Script}
use Rattle.script_text.specs.declared.reading.Reader.{Reader}
use Rattle.script_text.specs.declared.ScriptError.{ScriptError}
use Rattle.script_text.specs.declared.ScriptError.TheVariants.{At, Memory}
use Rattle.script_words.specs.declared.refusals.Refused.{Refused}
use Rattle.script_words.specs.Refusals.{refused_code}
use Rattle.script_words.specs.Lines.{is_newline, words_of, lines_of, pieces_left}
use Rattle.script_text.specs.Items.{before, cycles_in, named_in, last_in, asked_in, acts_in, acts_of, edits_in, edits_of, rejoins_in, rejoins_of, faulty_in, asked_of}
use Rattle.script_text.specs.Judged.{InOrder, after, asked_at, is_this, may_follow, line_read}
use Rattle.script_text.specs.Reading.{onto, items_from, IsLater, Stands, Keeps, Takes, TakesAll, plan_from, plan_held, plan_with, script_of, Reads}

asked_with : (o : Option ℕ) (items : List Item) (c : ℕ) → ((d : ℕ) → IsLater o d → asked_in d items ≡ 0) → IsTrue (may_follow o c) → cond (is_this o c) (asked_of o items) 0 ≡ asked_in c items
asked_with None items c later h = sym (later c tt)
asked_with (Some last) items c later h = at (eqb last c) refl where
  at : (b : Bool) → eqb last c ≡ b → cond b (asked_in last items) 0 ≡ asked_in c items
  at true e = let same : last ≡ c = eqb-true last c e in ap (λ d. asked_in d items) same
  at false e =
      let apart = eqb-false last c e in
      let up : last ≤ c = leb-true last c h in
      sym (later c (omega arith))

-- the posts and reads of a cycle that may follow are those that are known
pub asked_here : (n : ℕ) (items : List Item) (c : ℕ) → ((d : ℕ) → IsLater (last_in items) d → asked_in d items ≡ 0) → IsTrue (may_follow (last_in items) c) → asked_at (before n items) c ≡ asked_in c items
unfolding asked_at before
asked_here n items c later h = asked_with (last_in items) items c later h

one_here : (c m : ℕ) → cond (eqb c c) 1 0 + m ≡ m + 1
one_here c m = rw (eq-eqb c c refl) (omega arith)

asked_of-cycles : (o : Option ℕ) (c : ℕ) (items : List Item) → asked_of o (Cycles c ∷ items) ≡ asked_of o items
asked_of-cycles None c items = refl
asked_of-cycles (Some last) c items = refl

asked_of-faulty : (o : Option ℕ) (e : ℕ) (items : List Item) → asked_of o (Faulty e ∷ items) ≡ asked_of o items
asked_of-faulty None e items = refl
asked_of-faulty (Some last) e items = refl

before-after : (n : ℕ) (items : List Item) (item : Item) → ((c : ℕ) → IsLater (last_in items) c → asked_in c items ≡ 0) → InOrder (before n items) item → after (before n items) item ≡ before n (item ∷ items)
unfolding before
before-after n items (Cycles c) later h = rw (asked_of-cycles (last_in items) c items) refl
before-after n items (Faulty e) later h = rw (asked_of-faulty (last_in items) e items) refl
before-after n items (Asked c a) later h =
    let asked : asked_at (before n items) c + 1 ≡ asked_in c (Asked c a ∷ items) = ap (λ m. m + 1) (asked_here n items c later h.0) ∙ sym (one_here c (asked_in c items)) in
    ap (λ (m : ℕ). let s : SoFar = record { n = n; cycles = cycles_in items; named = named_in items; faulty = faulty_in items; last = Some c; asked = m } in s) asked
before-after n items (Edited e) later h =
    ap (λ (m : ℕ). let s : SoFar = record { n = n; cycles = cycles_in items; named = named_in items; faulty = faulty_in items; last = Some e.cycle; asked = m } in s) (asked_here n items e.cycle later h)
before-after n items (Rejoined c next) later h =
    ap (λ (m : ℕ). let s : SoFar = record { n = n; cycles = cycles_in items; named = named_in items; faulty = next; last = Some c; asked = m } in s) (asked_here n items c later h)

past : (o : Option ℕ) (c d : ℕ) → IsTrue (may_follow o c) → c < d → IsLater o d
past None c d h l = tt
past (Some last) c d h l = let up : last ≤ c = leb-true last c h in omega arith

other_cycle : (c d m : ℕ) → c < d → m ≡ 0 → cond (eqb c d) 1 0 + m ≡ 0
other_cycle c d m l e = at (eqb c d) refl where
  at : (b : Bool) → eqb c d ≡ b → cond b 1 0 + m ≡ 0
  at true h = let same : c ≡ d = eqb-true c d h in omega arith
  at false h = omega arith

pub later-still : (n : ℕ) (items : List Item) (item : Item) → ((c : ℕ) → IsLater (last_in items) c → asked_in c items ≡ 0) → InOrder (before n items) item → (c : ℕ) → IsLater (last_in (item ∷ items)) c → asked_in c (item ∷ items) ≡ 0
unfolding before
later-still n items (Cycles c) later h = later
later-still n items (Faulty e) later h = later
later-still n items (Asked c a) later h = λ d l. other_cycle c d (asked_in d items) l (later d (past (last_in items) c d h.0 l))
later-still n items (Edited e) later h = λ d l. later d (past (last_in items) e.cycle d h l)
later-still n items (Rejoined c next) later h = λ d l. later d (past (last_in items) c d h l)

pub stands_more : (n : ℕ) (items : List Item) (old : Reader) (item : Item) (new : Reader) → Stands n items old → InOrder old.so_far item → Keeps old item new → Stands n (item ∷ items) new
stands_more n items old item new s h k =
    let order : InOrder (before n items) item = rw s.so_far at h in
    record {
      so_far = k.so_far ∙ ap (λ b. after b item) s.so_far ∙ before-after n items item s.later order;
      acts = k.acts ∙ ap (λ acts. acts ++ acts_of item) s.acts;
      edits = k.edits ∙ ap (λ edits. edits ++ edits_of item) s.edits;
      rejoins = k.rejoins ∙ ap (λ rejoins. rejoins ++ rejoins_of item) s.rejoins;
      later = later-still n items item s.later order;
    }

-- what is known between two lines
pub record Walks (n : ℕ) (bytes : List ℕ) (r : Reader) (rest : Option (List ℕ)) (line : ℕ) : Type 0 where
  pub items : List Item
  pub stands : Stands n items r
  pub same : items_from n items (line + 1) (map strip_carriage_return (pieces_left rest)) ≡ items_from n [] 1 (lines_of bytes)
  pub count : line + length (pieces_left rest) ≡ 1 + count_by is_newline bytes

pub walk_starts : (n : ℕ) (bytes : List ℕ) (r : Reader) → Stands n [] r → Walks n bytes r (Some bytes) 0
unfolding lines_of
walk_starts n bytes r s = record { items = []; stands = s; same = refl; count = omega (arith, length-slice_split is_newline bytes) }

-- what a line gives, where it is not the last one read
pub goes : (n : ℕ) (items : List Item) (line : ℕ) (front : List ℕ) (more : List (List ℕ)) (item : Option Item) → line_read (before n items) (words_of front) ≡ Ok item → items_from n items line (front ∷ more) ≡ items_from n (onto item items) (line + 1) more
unfolding items_from
goes n items line front more item e = rw e refl

stops : (n : ℕ) (items : List Item) (line : ℕ) (front : List ℕ) (more : List (List ℕ)) (why : Refused) → line_read (before n items) (words_of front) ≡ Err why → items_from n items line (front ∷ more) ≡ Err (record { line = line; code = refused_code why })
unfolding items_from
stops n items line front more why e = rw e refl

walk_with : (n : ℕ) (bytes : List ℕ) (old new : Reader) (text front : List ℕ) (rest : Option (List ℕ)) (line : ℕ) (read : Result (Option Item) Refused) → (w : Walks n bytes old (Some text) line) → slice_split is_newline text ≡ front ∷ pieces_left rest → line_read (before n w.items) (words_of (strip_carriage_return front)) ≡ read → Takes old read (line + 1) (Ok tt) new → Walks n bytes new rest (line + 1)
walk_with n bytes old new text front rest line (Err code) w cut e h = absurd cc
walk_with n bytes old new text front rest line (Ok None) w cut e h =
    record {
      items = w.items;
      stands = rw h.1 w.stands;
      same = sym (goes n w.items (line + 1) (strip_carriage_return front) (map strip_carriage_return (pieces_left rest)) None e) ∙ ap (λ ps. items_from n w.items (line + 1) (map strip_carriage_return ps)) (sym cut) ∙ w.same;
      count = omega (arith, w.count, ap length cut);
    }
walk_with n bytes old new text front rest line (Ok (Some item)) w cut e h =
    record {
      items = item ∷ w.items;
      stands = stands_more n w.items old item new w.stands h.0 h.1;
      same = sym (goes n w.items (line + 1) (strip_carriage_return front) (map strip_carriage_return (pieces_left rest)) (Some item) e) ∙ ap (λ ps. items_from n w.items (line + 1) (map strip_carriage_return ps)) (sym cut) ∙ w.same;
      count = omega (arith, w.count, ap length cut);
    }

pub walk_on : (n : ℕ) (bytes : List ℕ) (old new : Reader) (text front : List ℕ) (rest : Option (List ℕ)) (line : ℕ) → Walks n bytes old (Some text) line → slice_split is_newline text ≡ front ∷ pieces_left rest → Takes old (line_read old.so_far (words_of (strip_carriage_return front))) (line + 1) (Ok tt) new → Walks n bytes new rest (line + 1)
walk_on n bytes old new text front rest line w cut h =
    walk_with n bytes old new text front rest line (line_read old.so_far (words_of (strip_carriage_return front))) w cut (ap (λ s. line_read s (words_of (strip_carriage_return front))) (sym w.stands.so_far)) h

end_with : (n : ℕ) (bytes : List ℕ) (old new : Reader) (text front : List ℕ) (rest : Option (List ℕ)) (line : ℕ) (read : Result (Option Item) Refused) (why : ScriptError) → (w : Walks n bytes old (Some text) line) → slice_split is_newline text ≡ front ∷ pieces_left rest → line_read (before n w.items) (words_of (strip_carriage_return front)) ≡ read → Takes old read (line + 1) (Err why) new → TakesAll n bytes (Err why) new
end_with n bytes old new text front rest line (Err code) Memory w cut e h = tt
end_with n bytes old new text front rest line (Err code) (At l k) w cut e h =
    let is-line : l ≡ line + 1 = cc in
    let is-code : k ≡ refused_code code = cc in
    rw (is-line, is-code) (sym w.same ∙ ap (λ ps. items_from n w.items (line + 1) (map strip_carriage_return ps)) cut ∙ stops n w.items (line + 1) (strip_carriage_return front) (map strip_carriage_return (pieces_left rest)) code e)
end_with n bytes old new text front rest line (Ok None) why w cut e h = absurd cc
end_with n bytes old new text front rest line (Ok (Some item)) Memory w cut e h = tt
end_with n bytes old new text front rest line (Ok (Some item)) (At l k) w cut e h = absurd cc

pub walk_ends : (n : ℕ) (bytes : List ℕ) (old new : Reader) (text front : List ℕ) (rest : Option (List ℕ)) (line : ℕ) (why : ScriptError) → Walks n bytes old (Some text) line → slice_split is_newline text ≡ front ∷ pieces_left rest → Takes old (line_read old.so_far (words_of (strip_carriage_return front))) (line + 1) (Err why) new → TakesAll n bytes (Err why) new
walk_ends n bytes old new text front rest line why w cut h =
    end_with n bytes old new text front rest line (line_read old.so_far (words_of (strip_carriage_return front))) why w cut (ap (λ s. line_read s (words_of (strip_carriage_return front))) (sym w.stands.so_far)) h

pub walk_done : (n : ℕ) (bytes : List ℕ) (r : Reader) (line : ℕ) → Walks n bytes r None line → TakesAll n bytes (Ok line) r
unfolding items_from
walk_done n bytes r line w = (omega (arith, w.count), (w.items, sym w.same, w.stands))

-- a line that is left has a number within the text
pub line_within : (n : ℕ) (bytes : List ℕ) (r : Reader) (text front : List ℕ) (rest : Option (List ℕ)) (line : ℕ) → Walks n bytes r (Some text) line → slice_split is_newline text ≡ front ∷ pieces_left rest → line ≤ length bytes
line_within n bytes r text front rest line w cut = omega (arith, w.count, ap length cut, count_by-le-length is_newline bytes)

pub number_stays : (n : ℕ) (bytes : List ℕ) (r : Reader) (rest : Option (List ℕ)) (line : ℕ) → Walks n bytes r rest line → r.so_far.n ≡ n
unfolding before
number_stays n bytes r rest line w = ap (λ s. s.n) w.stands.so_far

-- how much is left
abbrev pub left : Option (Bor (List ℕ)) → ℕ
left None = 0
left (Some text) = 1 + length text.now

pub left_less : (text : List ℕ) (rest : Option (Bor (List ℕ))) → IfSome rest (λ after. length after.now < length text) → left rest < 1 + length text
left_less text None h = omega arith
left_less text (Some after) h = omega arith

-- the whole script
plan_same : (n last : ℕ) (items : List Item) (r : Reader) → Stands n items r → plan_held last r ≡ plan_from last items (cycles_in items)
unfolding before
plan_same n last items r s =
    let named : r.so_far.named ≡ named_in items = ap (λ b. b.named) s.so_far in
    let cycles : r.so_far.cycles ≡ cycles_in items = ap (λ b. b.cycles) s.so_far in
    rw (cycles, named, s.acts, s.edits, s.rejoins) (at (cycles_in items)) where
      at : (o : Option ℕ) → plan_with last o (named_in items) (acts_in items) (edits_in items) (rejoins_in items) ≡ plan_from last items o
      at None = refl
      at (Some c) = refl

pub script_held : (n : ℕ) (bytes : List ℕ) (last : ℕ) (r : Reader) → TakesAll n bytes (Ok last) r → script_of n bytes ≡ plan_held last r
unfolding script_of
script_held n bytes last r h = rw (h.1.1, ← h.0) (sym (plan_same n last h.1.0 r h.1.2))

refused : (n : ℕ) (bytes : List ℕ) (why : ScriptError) (r : Reader) → TakesAll n bytes (Err why) r → Reads (Err why) (script_of n bytes)
unfolding script_of
refused n bytes Memory r h = tt
refused n bytes (At line code) r h = rw h refl

pub stands_first : (n : ℕ) (r : Reader) → r.so_far ≡ before n [] → r.acts.items ≡ [] → r.edits.items ≡ [] → r.rejoins.items ≡ [] → Stands n [] r
stands_first n r e f g h = record { so_far = e; acts = f; edits = g; rejoins = h; later = λ c l. refl }

told : (n : ℕ) (bytes : List ℕ) (last : ℕ) (r : Reader) (result : Result Script ScriptError) → TakesAll n bytes (Ok last) r → Reads result (plan_held last r) → Reads result (script_of n bytes)
told n bytes last r result h k = rw (script_held n bytes last r h) k

pub script_refused : (n m : ℕ) (bytes : List ℕ) (why : ScriptError) (r : Reader) → m ≡ n → TakesAll m bytes (Err why) r → Reads (Err why) (script_of n bytes)
script_refused n m bytes why r e h = subst (λ k. Reads (Err why) (script_of k bytes)) e (refused m bytes why r h)

pub script_told : (n m : ℕ) (bytes : List ℕ) (last : ℕ) (r : Reader) (result : Result Script ScriptError) → m ≡ n → TakesAll m bytes (Ok last) r → Reads result (plan_held last r) → Reads result (script_of n bytes)
script_told n m bytes last r result e h k = subst (λ i. Reads result (script_of i bytes)) e (told m bytes last r result h k)
