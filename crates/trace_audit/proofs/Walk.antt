-- The lines of an audited trace, one after another.
use Rattle.std.proofs.Common.{◌≡◌, ℕ, suc, ◌+◌, ◌*◌, ◌/◌, ◌%◌, ◌<◌, ◌≤◌, ◌^◌, Bool, true, false, cond, List, [], ◌∷◌, ◌++◌, length, refl, sym, ◌∙◌, ap, arith, subst, inl, inr, length-append, Option, Some, None, Ok, Err}
use Rattle.std.specs.Prelude.{codes, count_by, is_some, IfSome, ◌||◌, take, drop, ◌==◌, ◌&&◌, nat_le}
use Rattle.std.specs.List.{slice_split, onto_first}
use Rattle.std.specs.Fmt.{decimal}
use Rattle.std.proofs.lemmas.Bool.{eqb-true, leb-true, and_parts}
use Rattle.std.proofs.lemmas.List.Splits.{length-slice_split, slice_split-cons_yes, slice_split-cons_no}
use Rattle.std.proofs.lemmas.List.Sums.{count_by-le-length, fold-append}
use denote.Ref.{Bor}
use Rattle.packet_format.specs.Packets.{same_bytes}
use Rattle.two_round.proofs.Others.{IsSize}
use Rattle.table_update.specs.declared.Update.{Update}
use Rattle.table_update.specs.declared.Applied.{Applied}
use Rattle.table_update.specs.declared.Applied.TheVariants as applied_variant
use Rattle.table_update.specs.Updates.{applied}
use Rattle.script_words.specs.Lines.{is_newline, has_bytes, pieces_left}
use Rattle.script_text.specs.Reading.{Refusal}
use Rattle.script_text.specs.declared.ScriptError.{ScriptError}
use Rattle.script_text.specs.declared.ScriptError.TheVariants.{At, Memory}
use Rattle.trace_audit.specs.declared.links.Link.{Link}
use Rattle.trace_audit.specs.declared.audit.Reading.{Reading}
use Rattle.trace_audit.specs.Known.{Known, Frames, known_by, known_with, known_after, known_served, update_told}
use Rattle.trace_audit.specs.Trace.{per_cycle, frames_in}
use Rattle.trace_audit.specs.Links.{link_at}
use Rattle.trace_audit.specs.Progress.{Progress, progress_after, progress_through, is_awaited, first_break}
use Rattle.trace_audit.specs.AuditedTrace.{bad_line, line_head, head_at, bytes_spelled, frame_on, frames_from, trace_lines, whole_lines, round_word}
use Rattle.trace_audit.specs.Reading.{broken_with, Takes, TakesPiece, ReadsAll}
use Rattle.trace_audit.proofs.FirstBreak.{size_after}

-- ---- frames one after another

more_by : (p : Progress) (place : ℕ) (one : List ℕ) (frames : List (List ℕ)) (frame : List ℕ) (b : Bool)
    → first_break (progress_after p one) (place + 1) (frames ++ frame ∷ []) ≡ broken_with (first_break (progress_after p one) (place + 1) frames) (progress_through (progress_after p one) frames) (place + 1 + length frames) frame
    → cond b (first_break (progress_after p one) (place + 1) (frames ++ frame ∷ [])) (Some place)
    ≡ broken_with (cond b (first_break (progress_after p one) (place + 1) frames) (Some place)) (progress_through (progress_after p one) frames) (place + suc (length frames)) frame
more_by p place one frames frame true more =
    let number : place + 1 + length frames ≡ place + suc (length frames) = omega arith in
    more ∙ ap (λ (k : ℕ). broken_with (first_break (progress_after p one) (place + 1) frames) (progress_through (progress_after p one) frames) k frame) number
more_by p place one frames frame false more = refl

-- where the first is that is not awaited, with one more
pub break_more : (p : Progress) (place : ℕ) (frames : List (List ℕ)) (frame : List ℕ)
    → first_break p place (frames ++ frame ∷ []) ≡ broken_with (first_break p place frames) (progress_through p frames) (place + length frames) frame
break_more p place [] frame = let number : place ≡ place + 0 = omega arith in ap (λ (k : ℕ). cond (is_awaited p frame) None (Some k)) number
break_more p place (one ∷ frames) frame = more_by p place one frames frame (is_awaited p one) (break_more (progress_after p one) (place + 1) frames frame)

-- how far an auditor is
pub record Counts (n : ℕ) (p : Progress) (frames : ℕ) : Type 0 where
  pub size : p.known.table.n ≡ n
  pub sum : p.known.cycle * per_cycle n + length p.so_far ≡ frames

-- the next cycle
cycle_by : (a : Applied) (update : Update) (known : Known) → (known_by a update known).cycle ≡ known.cycle
cycle_by (applied_variant.Done procs) update known = refl
cycle_by (applied_variant.Refused error) update known = refl
cycle_by applied_variant.Absent update known = refl

cycle_with : (u : Option Update) (known : Known) → (known_with u known).cycle ≡ known.cycle
cycle_with None known = refl
cycle_with (Some update) known = cycle_by (applied known.table update) update known

cycle_after : (known : Known) (named : Option ℕ) (frames : Frames) → (known_after known named frames).cycle ≡ known.cycle + 1
unfolding known_after known_served
cycle_after known named frames = cycle_with (update_told known named frames) (known_served known named frames)

counts_by : (n k : ℕ) (known : Known) (named : Option ℕ) (frames : List (List ℕ)) (b : Bool) → known.table.n ≡ n → known.cycle * per_cycle n + length frames ≡ k → (length frames == per_cycle known.table.n) ≡ b
    → Counts n (cond b (record { known = known_after known named (frames_in known.table.n frames); named = named; so_far = [] }) (record { known = known; named = named; so_far = frames })) k
counts_by n k known named frames true size sum e =
    let all : length frames ≡ per_cycle n = eqb-true (length frames) (per_cycle known.table.n) e ∙ ap per_cycle size in
    let cycle = cycle_after known named (frames_in known.table.n frames) in
    let more : (known.cycle + 1) * per_cycle n ≡ known.cycle * per_cycle n + per_cycle n = one_more known.cycle (per_cycle n) in
    record {
      size = size_after known named (frames_in known.table.n frames) ∙ size;
      sum = ap (λ (c : ℕ). c * per_cycle n + 0) cycle ∙ (let all_is = all in let sum_is = sum in omega arith);
    } where
      one_more : (a p : ℕ) → (a + 1) * p ≡ a * p + p
      one_more a p = omega arith
counts_by n k known named frames false size sum e = record { size = size; sum = sum }

pub counts_more : (n k : ℕ) (p : Progress) (frame : List ℕ) → Counts n p k → Counts n (progress_after p frame) (k + 1)
unfolding progress_after
counts_more n k p frame c =
    let long = length-append p.so_far (frame ∷ []) in
    counts_by n (k + 1) p.known p.named (p.so_far ++ frame ∷ []) (length (p.so_far ++ frame ∷ []) == per_cycle p.known.table.n) c.size (let sum = c.sum in omega arith) refl

-- ---- lines

-- the bytes of pieces and of the newlines between them
abbrev total : List (List ℕ) → ℕ
total [] = 0
total (piece ∷ pieces) = length piece + 1 + total pieces

total_onto : (x : ℕ) (pieces : List (List ℕ)) → 0 < length pieces → total (onto_first x pieces) ≡ 1 + total pieces
total_onto x [] l = let never : ⊥ = omega arith in absurd never
total_onto x (piece ∷ pieces) l = omega arith

split_by : (x : ℕ) (xs : List ℕ) (b : Bool) → is_newline x ≡ b → total (slice_split is_newline xs) ≡ length xs + 1 → total (slice_split is_newline (x ∷ xs)) ≡ length (x ∷ xs) + 1
split_by x xs true e ih = ap total (slice_split-cons_yes is_newline x xs e) ∙ omega arith
split_by x xs false e ih =
    let some = length-slice_split is_newline xs in
    ap total (slice_split-cons_no is_newline x xs e) ∙ total_onto x (slice_split is_newline xs) (omega arith) ∙ omega arith

total_split : (text : List ℕ) → total (slice_split is_newline text) ≡ length text + 1
total_split [] = refl
total_split (x ∷ xs) = split_by x xs (is_newline x) refl (total_split xs)

-- a head of a line has bytes
head_long : (cycle : ℕ) (link : Link) → 0 < length (line_head cycle link)
unfolding line_head
head_long cycle link =
    let front = codes "frame " ++ decimal cycle ++ codes " " ++ round_word link.round ++ codes " " ++ decimal link.from ++ codes " " ++ decimal link.to in
    let long : length (front ++ codes " ") ≡ length front + 1 = length-append front (codes " ") in
    omega arith

read_by : (head line : List ℕ) (b : Bool) (frame : List ℕ) → (nat_le (length head) (length line) && same_bytes (take (length head) line) head) ≡ b
    → bytes_spelled (cond b (Some (drop (length head) line)) None) ≡ Some frame → length head ≤ length line
read_by head line true frame e f = leb-true (length head) (length line) (and_parts (nat_le (length head) (length line)) (same_bytes (take (length head) line) head) e).0
read_by head line false frame e f = absurd cc

-- a line that is so has bytes
pub line_long : (n place : ℕ) (line frame : List ℕ) → frame_on n place line ≡ Some frame → 0 < length line
unfolding frame_on
line_long n place line frame e =
    let some = head_long (place / per_cycle n) (link_at n (place % per_cycle n)) in
    let fits = read_by (head_at n place) line (nat_le (length (head_at n place)) (length line) && same_bytes (take (length (head_at n place)) line) (head_at n place)) frame refl e in
    omega arith

goes : (n : ℕ) (taken more : List (List ℕ)) (line frame : List ℕ) → frame_on n (length taken) line ≡ Some frame → frames_from n taken (line ∷ more) ≡ frames_from n (taken ++ frame ∷ []) more
unfolding frames_from
goes n taken more line frame e = rw e refl

stops : (n : ℕ) (taken more : List (List ℕ)) (line : List ℕ) → frame_on n (length taken) line ≡ None → frames_from n taken (line ∷ more) ≡ Err (record { line = length taken + 1; code = bad_line })
unfolding frames_from
stops n taken more line e = rw e refl

-- What is known between two lines.
pub record Walks (n : ℕ) (start : Progress) (bytes : List ℕ) (r : Reading n) (rest : Option (List ℕ)) (pieces : ℕ) : Type 0 where
  pub taken : List (List ℕ)
  pub lines : r.lines ≡ length taken
  pub same : frames_from n taken (whole_lines (pieces_left rest)) ≡ frames_from n [] (trace_lines bytes)
  pub count : pieces + length (pieces_left rest) ≡ 1 + count_by is_newline bytes
  pub used : 2 * r.lines + total (pieces_left rest) ≤ length bytes + 1
  pub broken : r.broken ≡ first_break start 0 taken
  pub auditor : r.broken ≡ None → r.auditor ≡ progress_through start taken
  pub counts : r.broken ≡ None → Counts n r.auditor r.lines

pub walk_starts : (n : ℕ) (start : Progress) (bytes : List ℕ) (r : Reading n) → start.known.table.n ≡ n → start.known.cycle ≡ 0 → start.so_far ≡ [] → r.auditor ≡ start → r.lines ≡ 0 → r.broken ≡ None
    → Walks n start bytes r (Some bytes) 0
walk_starts n start bytes r size cycle none same lines whole =
    let pieces = total_split bytes in
    let many = length-slice_split is_newline bytes in
    let first : Counts n start 0 = record { size = size; sum = ap (λ (c : ℕ). c * per_cycle n + length start.so_far) cycle ∙ (let long : length start.so_far ≡ 0 = ap length none in omega arith) } in
    record {
      taken = [];
      lines = lines;
      same = refl;
      count = omega arith;
      used = omega arith;
      broken = whole;
      auditor = λ e. same;
      counts = λ e. subst (λ (p : Progress). Counts n p r.lines) (sym same) (subst (λ (k : ℕ). Counts n start k) (sym lines) first);
    }

-- the lines behind a piece
line_first : (front : List ℕ) (pieces : List (List ℕ)) → 0 < length pieces → whole_lines (front ∷ pieces) ≡ front ∷ whole_lines pieces
line_first front [] l = let never : ⊥ = omega arith in absurd never
line_first front (piece ∷ pieces) l = refl

lines_on : (front : List ℕ) (rest : Option (List ℕ)) → (is_some rest || has_bytes front) ≡ true → whole_lines (front ∷ pieces_left rest) ≡ front ∷ whole_lines (pieces_left rest)
lines_on front None e = ap (λ (b : Bool). cond b (front ∷ []) []) e
lines_on front (Some after) e = line_first front (slice_split is_newline after) (let many = length-slice_split is_newline after in omega arith)

no_line : (front : List ℕ) (rest : Option (List ℕ)) → (is_some rest || has_bytes front) ≡ false → whole_lines (front ∷ pieces_left rest) ≡ whole_lines (pieces_left rest)
no_line front None e = ap (λ (b : Bool). cond b (front ∷ []) []) e
no_line front (Some after) e = absurd cc

-- a line more
module _ (n : ℕ) (start : Progress) (bytes text front : List ℕ) (rest : Option (List ℕ)) (pieces : ℕ) (cut : slice_split is_newline text ≡ front ∷ pieces_left rest) where
  with_line : (old new : Reading n) (frame : List ℕ) → (w : Walks n start bytes old (Some text) pieces) → (is_some rest || has_bytes front) ≡ true → frame_on n old.lines front ≡ Some frame → Takes n old frame new
      → Walks n start bytes new rest (pieces + 1)
  with_line old new frame w is read t =
      let here : frame_on n (length w.taken) front ≡ Some frame = ap (λ (k : ℕ). frame_on n k front) (sym w.lines) ∙ read in
      let lines : whole_lines (slice_split is_newline text) ≡ front ∷ whole_lines (pieces_left rest) = ap whole_lines cut ∙ lines_on front rest is in
      let some = line_long n old.lines front frame read in
      let many : length (slice_split is_newline text) ≡ 1 + length (pieces_left rest) = ap length cut ∙ omega arith in
      let size : total (slice_split is_newline text) ≡ length front + 1 + total (pieces_left rest) = ap total cut in
      let long = length-append w.taken (frame ∷ []) in
      record {
        taken = w.taken ++ frame ∷ [];
        lines = let next = t.lines in let before = w.lines in omega arith;
        same = sym (goes n w.taken (whole_lines (pieces_left rest)) front frame here) ∙ ap (frames_from n w.taken) (sym lines) ∙ w.same;
        count = let before = w.count in omega arith;
        used = let before = w.used in let next = t.lines in omega arith;
        broken = t.broken ∙ (λ i. broken_with (w.broken i) old.auditor (w.lines i) frame) ∙ sym (later old frame w) ∙ sym (break_more start 0 w.taken frame);
        auditor = λ e. followed old new frame w t (was old new frame t e);
        counts = λ e. counted old new frame w t (was old new frame t e);
      } where
        none_with : (o : Option ℕ) (p : Progress) (k : ℕ) (frame : List ℕ) → broken_with o p k frame ≡ None → o ≡ None
        none_with None p k frame e = refl
        none_with (Some place) p k frame e = absurd cc

        was : (old new : Reading n) (frame : List ℕ) → Takes n old frame new → new.broken ≡ None → old.broken ≡ None
        was old new frame t e = none_with old.broken old.auditor old.lines frame (sym t.broken ∙ e)

        followed : (old new : Reading n) (frame : List ℕ) (w : Walks n start bytes old (Some text) pieces) → Takes n old frame new → old.broken ≡ None → new.auditor ≡ progress_through start (w.taken ++ frame ∷ [])
        followed old new frame w t e = t.auditor e ∙ ap (λ (p : Progress). progress_after p frame) (w.auditor e) ∙ sym (fold-append progress_after start w.taken (frame ∷ []))

        counted : (old new : Reading n) (frame : List ℕ) (w : Walks n start bytes old (Some text) pieces) → Takes n old frame new → old.broken ≡ None → Counts n new.auditor new.lines
        counted old new frame w t e =
            subst (λ (p : Progress). Counts n p new.lines) (sym (t.auditor e))
            (subst (λ (k : ℕ). Counts n (progress_after old.auditor frame) k) (sym t.lines) (counts_more n old.lines old.auditor frame (w.counts e)))

        later : (old : Reading n) (frame : List ℕ) (w : Walks n start bytes old (Some text) pieces)
            → broken_with (first_break start 0 w.taken) (progress_through start w.taken) (0 + length w.taken) frame ≡ broken_with (first_break start 0 w.taken) old.auditor (length w.taken) frame
        later old frame w = by (first_break start 0 w.taken) refl where
          number : 0 + length w.taken ≡ length w.taken
          number = omega arith

          by : (o : Option ℕ) → first_break start 0 w.taken ≡ o → broken_with o (progress_through start w.taken) (0 + length w.taken) frame ≡ broken_with o old.auditor (length w.taken) frame
          by None e = λ i. cond (is_awaited (sym (w.auditor (w.broken ∙ e)) i) frame) None (Some (number i))
          by (Some place) e = refl

  without_line : (r : Reading n) → Walks n start bytes r (Some text) pieces → (is_some rest || has_bytes front) ≡ false → Walks n start bytes r rest (pieces + 1)
  without_line r w none =
      let many : length (slice_split is_newline text) ≡ 1 + length (pieces_left rest) = ap length cut ∙ omega arith in
      let size : total (slice_split is_newline text) ≡ length front + 1 + total (pieces_left rest) = ap total cut in
      record {
        taken = w.taken;
        lines = w.lines;
        same = ap (frames_from n w.taken) (sym (ap whole_lines cut ∙ no_line front rest none)) ∙ w.same;
        count = let before = w.count in omega arith;
        used = let before = w.used in omega arith;
        broken = w.broken;
        auditor = w.auditor;
        counts = w.counts;
      }

  walk_by : (old new : Reading n) (is : Bool) (frame : Option (List ℕ)) → Walks n start bytes old (Some text) pieces → (is_some rest || has_bytes front) ≡ is → frame_on n old.lines front ≡ frame → TakesPiece n old is frame (Ok tt) new
      → Walks n start bytes new rest (pieces + 1)
  walk_by old new true None w e f t = absurd cc
  walk_by old new true (Some frame) w e f t = with_line old new frame w e f t.1
  walk_by old new false frame w e f t = subst (λ (r : Reading n). Walks n start bytes r rest (pieces + 1)) (sym t.1) (without_line old w e)

  pub walk_on : (old new : Reading n) (is : Bool) → Walks n start bytes old (Some text) pieces → is ≡ (is_some rest || has_bytes front) → TakesPiece n old is (frame_on n old.lines front) (Ok tt) new
      → Walks n start bytes new rest (pieces + 1)
  walk_on old new is w e t = walk_by old new is (frame_on n old.lines front) w (sym e) refl t

  end_by : (old new : Reading n) (is : Bool) (frame : Option (List ℕ)) (why : ScriptError) → Walks n start bytes old (Some text) pieces → (is_some rest || has_bytes front) ≡ is → frame_on n old.lines front ≡ frame
      → TakesPiece n old is frame (Err why) new → ReadsAll n start bytes (Err why) new
  end_by old new true None (At line code) w e f t =
      let same : ScriptError = At line code in
      let is_line : line ≡ old.lines + 1 = cc in
      let is_code : code ≡ bad_line = cc in
      let here : frame_on n (length w.taken) front ≡ None = ap (λ (k : ℕ). frame_on n k front) (sym w.lines) ∙ f in
      let lines : whole_lines (slice_split is_newline text) ≡ front ∷ whole_lines (pieces_left rest) = ap whole_lines cut ∙ lines_on front rest e in
      let number : length w.taken + 1 ≡ line = let before = w.lines in omega arith in
      sym w.same ∙ ap (frames_from n w.taken) lines ∙ stops n w.taken (whole_lines (pieces_left rest)) front here
      ∙ (λ i. let refused : Refusal = record { line = number i; code = sym is_code i } in Err refused)
  end_by old new true None Memory w e f t = absurd cc
  end_by old new true (Some frame) why w e f t = absurd cc
  end_by old new false frame why w e f t = absurd cc

  pub walk_ends : (old new : Reading n) (is : Bool) (why : ScriptError) → Walks n start bytes old (Some text) pieces → is ≡ (is_some rest || has_bytes front) → TakesPiece n old is (frame_on n old.lines front) (Err why) new
      → ReadsAll n start bytes (Err why) new
  walk_ends old new is why w e t = end_by old new is (frame_on n old.lines front) why w (sym e) refl t

pub walk_done : (n : ℕ) (start : Progress) (bytes : List ℕ) (r : Reading n) (pieces : ℕ) → Walks n start bytes r None pieces → ReadsAll n start bytes (Ok pieces) r
unfolding frames_from
walk_done n start bytes r pieces w = record {
  taken = w.taken;
  frames = sym w.same;
  newlines = let count = w.count in omega arith;
  lines = w.lines;
  broken = w.broken;
}

-- ---- numbers

few_cycles : (n cycle rest lines : ℕ) → IsSize n → cycle * per_cycle n + rest ≡ lines → 2 * lines ≤ 8388609 → cycle < 100000
few_cycles n cycle rest lines (inl e) sum l = (subst (λ (k : ℕ). cycle * per_cycle k + rest ≡ lines → cycle < 100000) (sym e) (λ s. omega arith)) sum
few_cycles n cycle rest lines (inr e) sum l = (subst (λ (k : ℕ). cycle * per_cycle k + rest ≡ lines → cycle < 100000) (sym e) (λ s. omega arith)) sum

pub walk_cycle : (n : ℕ) (start : Progress) (bytes : List ℕ) (r : Reading n) (rest : Option (List ℕ)) (pieces : ℕ) → IsSize n → length bytes ≤ 8388608 → Walks n start bytes r rest pieces → r.broken ≡ None → r.auditor.known.cycle < 100000
walk_cycle n start bytes r rest pieces size l w e =
    let c = w.counts e in
    let used = w.used in
    few_cycles n r.auditor.known.cycle (length r.auditor.so_far) r.lines size c.sum (omega arith)

pub walk_lines : (n : ℕ) (start : Progress) (bytes : List ℕ) (r : Reading n) (rest : Option (List ℕ)) (pieces : ℕ) → length bytes ≤ 8388608 → Walks n start bytes r rest pieces → r.lines + 1 < 2 ^ 32
walk_lines n start bytes r rest pieces l w = let used = w.used in omega arith

pub walk_pieces : (n : ℕ) (start : Progress) (bytes : List ℕ) (r : Reading n) (rest : Option (List ℕ)) (pieces : ℕ) → length bytes ≤ 8388608 → Walks n start bytes r rest pieces → pieces ≤ 8388609
walk_pieces n start bytes r rest pieces l w = let count = w.count in let most = count_by-le-length is_newline bytes in omega arith

-- how much is left
abbrev pub left : Option (Bor (List ℕ)) → ℕ
left None = 0
left (Some text) = 1 + length text.now

pub left_less : (text : List ℕ) (rest : Option (Bor (List ℕ))) → IfSome rest (λ after. length after.now < length text) → left rest < 1 + length text
left_less text None h = omega arith
left_less text (Some after) h = omega arith
