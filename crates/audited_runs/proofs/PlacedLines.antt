-- The lines of a trace stand each at its place, so the text is read to its frames.
use Rattle.std.proofs.Common.{◌≡◌, ℕ, zero, suc, ◌+◌, ◌*◌, ◌%◌, ◌<◌, ◌≤◌, true, false, List, [], ◌∷◌, ◌++◌, length, map, length-append, refl, ap, sym, ◌∙◌, arith, append_assoc, append-nil, subst, inl, inr, Some, Ok}
use Rattle.std.specs.Prelude.{◌==◌, count_by}
use Rattle.std.specs.List.{flat_map, range_with_len, list_all, AllByRecursion}
use Rattle.std.proofs.lemmas.Bool.{eq-eqb, ne_eqb}
use Rattle.std.proofs.lemmas.List.{map-append}
use Rattle.std.proofs.Math.Nat.{suc-mul, zero-mul}
use Rattle.std.proofs.lemmas.List.FromFn.{length-map-range_with_len}
use Rattle.ftpp_base.specs.Lists.{below}
use Rattle.two_round.proofs.Others.{IsSize}
use Rattle.link_fabric.specs.declared.fabrics.Carried.{Carried}
use Rattle.script_words.specs.Lines.{is_newline}
use Rattle.script_text.specs.Printing.{AreBytes}
use Rattle.report_text.specs.Words.{bytes_text}
use Rattle.report_text.specs.Trace.{carried_lines, IsOfRun, cycle_frames}
use Rattle.trace_audit.specs.Known.{Frames}
use Rattle.trace_audit.specs.Trace.{listed, per_cycle}
use Rattle.trace_audit.specs.Links.{link_at}
use Rattle.trace_audit.specs.AuditedTrace.{line_head, head_at, frame_on, frames_from, if_whole, trace_lines, trace_of}
use Rattle.trace_audit.proofs.Places.{link_there}
use Rattle.trace_audit.proofs.Listed.{flat_length, listed_length}
use Rattle.trace_audit.proofs.FirstBreak.{split, some_frames}
use Rattle.audited_runs.specs.ReadBack.{AreSpelled, carried_from, ReadsBack}
use Rattle.audited_runs.proofs.SpelledLines.{is_inside, line_read, line_inside, ended, line_ended, lines_again}

-- ---- a frame as it is carried

-- what stands before its bytes, its line without the end, and its bytes
abbrev head_of : Carried → List ℕ
head_of c = line_head c.at.cycle (record { round = c.at.round; from = c.from; to = c.to })

abbrev line_of : Carried → List ℕ
line_of c = head_of c ++ bytes_text c.frame.items

abbrev bytes_in : Carried → List ℕ
bytes_in c = c.frame.items

-- It is at its place of a trace among n elements, and a line can spell it.
record IsPlaced (n place : ℕ) (c : Carried) : Type 0 where
  head : head_at n place ≡ head_of c
  run : IsOfRun c
  bytes : AreBytes c.frame.items

abbrev ArePlaced : ℕ → ℕ → List Carried → Type 0
ArePlaced n place [] = Unit {0}
ArePlaced n place (c ∷ cs) = IsPlaced n place c × ArePlaced n (place + 1) cs

placed_append : (n place next : ℕ) (xs ys : List Carried) → ArePlaced n place xs → place + length xs ≡ next → ArePlaced n next ys → ArePlaced n place (xs ++ ys)
placed_append n place next [] ys a e b = subst (λ (k : ℕ). ArePlaced n k ys) (let same : next ≡ place = omega arith in same) b
placed_append n place next (x ∷ xs) ys a e b = (a.0, placed_append n (place + 1) next xs ys a.1 (omega arith) b)

-- ---- reading them

read_one : (n place : ℕ) (c : Carried) → IsPlaced n place c → frame_on n place (line_of c) ≡ Some (bytes_in c)
read_one n place c is = line_read n place (head_of c) c.frame.items is.head (record { bytes = is.bytes; short = is.run.bytes })

read_all : (n : ℕ) (cs : List Carried) (taken : List (List ℕ)) → ArePlaced n (length taken) cs → frames_from n taken (map line_of cs) ≡ Ok (taken ++ map bytes_in cs)
unfolding frames_from
read_all n [] taken are = ap Ok (sym (append-nil taken))
read_all n (c ∷ cs) taken are =
    let one = length-append taken (bytes_in c ∷ []) in
    let later : ArePlaced n (length (taken ++ bytes_in c ∷ [])) cs = subst (λ (k : ℕ). ArePlaced n k cs) (let same : length taken + 1 ≡ length (taken ++ bytes_in c ∷ []) = omega arith in same) are.1 in
    rw (read_one n (length taken) c are.0) (read_all n cs (taken ++ bytes_in c ∷ []) later ∙ ap Ok (append_assoc taken (bytes_in c ∷ []) (map bytes_in cs)))

-- their lines are the lines of the text
inside_all : (n place : ℕ) (cs : List Carried) → ArePlaced n place cs → AllByRecursion (λ line. list_all is_inside line ≡ true) (map line_of cs)
inside_all n place [] are = tt
inside_all n place (c ∷ cs) are =
    let run = are.0.run in
    (line_inside c.at.cycle c.at.round c.from c.to c.frame.items run.cycle run.from run.to, inside_all n (place + 1) cs are.1)

text_ended : (cs : List Carried) → carried_lines cs ≡ flat_map ended (map line_of cs)
text_ended [] = refl
text_ended (c ∷ cs) = λ i. line_ended c.at.cycle c.at.round c.from c.to c.frame.items i ++ text_ended cs i

lines_are : (n place : ℕ) (cs : List Carried) → ArePlaced n place cs → trace_lines (carried_lines cs) ≡ map line_of cs
lines_are n place cs are = ap trace_lines (text_ended cs) ∙ lines_again (map line_of cs) (inside_all n place cs are)

-- ---- the frames of a cycle

-- the frame at a place of a cycle
abbrev carried_at : ℕ → ℕ → Frames → ℕ → Carried
carried_at n cycle frames place = record {
  at = record { cycle = cycle; round = (link_at n place).round };
  from = (link_at n place).from;
  to = (link_at n place).to;
  frame = record { items = frames (link_at n place).round (link_at n place).from (link_at n place).to };
}

-- those of a cycle are those of its places
placed_four : (cycle : ℕ) (frames : Frames) → cycle_frames 4 cycle frames ≡ map (carried_at 4 cycle frames) (below 48)
unfolding link_at
placed_four cycle frames = refl

placed_five : (cycle : ℕ) (frames : Frames) → cycle_frames 5 cycle frames ≡ map (carried_at 5 cycle frames) (below 80)
unfolding link_at
placed_five cycle frames = refl

by_place : (n cycle : ℕ) (frames : Frames) → IsSize n → cycle_frames n cycle frames ≡ map (carried_at n cycle frames) (below (per_cycle n))
by_place n cycle frames (inl e) = subst (λ k. cycle_frames k cycle frames ≡ map (carried_at k cycle frames) (below (per_cycle k))) (sym e) (placed_four cycle frames)
by_place n cycle frames (inr e) = subst (λ k. cycle_frames k cycle frames ≡ map (carried_at k cycle frames) (below (per_cycle k))) (sym e) (placed_five cycle frames)

-- their bytes are listed in the same order
bytes_four : (cycle : ℕ) (frames : Frames) → map bytes_in (cycle_frames 4 cycle frames) ≡ listed 4 frames
bytes_four cycle frames = refl

bytes_five : (cycle : ℕ) (frames : Frames) → map bytes_in (cycle_frames 5 cycle frames) ≡ listed 5 frames
bytes_five cycle frames = refl

bytes_listed : (n cycle : ℕ) (frames : Frames) → IsSize n → map bytes_in (cycle_frames n cycle frames) ≡ listed n frames
bytes_listed n cycle frames (inl e) = subst (λ k. map bytes_in (cycle_frames k cycle frames) ≡ listed k frames) (sym e) (bytes_four cycle frames)
bytes_listed n cycle frames (inr e) = subst (λ k. map bytes_in (cycle_frames k cycle frames) ≡ listed k frames) (sym e) (bytes_five cycle frames)

-- the elements are five at most
few : (n k : ℕ) → IsSize n → k < n → k < 5
few n k (inl e) l = omega arith
few n k (inr e) l = omega arith

module _ (n cycle : ℕ) (frames : Frames) (size : IsSize n) (early : cycle < 100000) (are : AreSpelled n frames) where
  placed_one : (place : ℕ) → place < per_cycle n → IsPlaced n (cycle * per_cycle n + place) (carried_at n cycle frames place)
  placed_one place l =
      let parts = split n cycle place size l in
      let there = link_there n place size l in
      let is = are (link_at n place).round (link_at n place).from (link_at n place).to there.from there.to there.another in
      record {
        head = λ i. line_head (parts.0 i) (link_at n (parts.1 i));
        run = record { cycle = early; from = few n (link_at n place).from size there.from; to = few n (link_at n place).to size there.to; bytes = is.short };
        bytes = is.bytes;
      }

  placed_range : (place count from : ℕ) → from ≡ cycle * per_cycle n + place → place + count ≤ per_cycle n → ArePlaced n from (map (carried_at n cycle frames) (range_with_len place count))
  placed_range place zero from e l = tt
  placed_range place (suc count) from e l = (
    subst (λ (k : ℕ). IsPlaced n k (carried_at n cycle frames place)) (sym e) (placed_one place (omega arith)),
    placed_range (place + 1) count (from + 1) (omega arith) (omega arith),
  )

  placed_cycle : ArePlaced n (cycle * per_cycle n) (cycle_frames n cycle frames)
  placed_cycle = subst (ArePlaced n (cycle * per_cycle n)) (sym (by_place n cycle frames size)) (placed_range 0 (per_cycle n) (cycle * per_cycle n) (omega arith) (omega arith))

  pub cycle_long : length (cycle_frames n cycle frames) ≡ per_cycle n
  cycle_long = ap length (by_place n cycle frames size) ∙ length-map-range_with_len (carried_at n cycle frames) 0 (per_cycle n)

-- ---- the frames of all cycles

one_more : (k p : ℕ) → k * p + p ≡ (k + 1) * p
one_more k p = let step = suc-mul k p in let one : suc k ≡ k + 1 = omega arith in (let e : k * p + p ≡ suc k * p = omega arith in e) ∙ ap (λ (m : ℕ). m * p) one

-- at least one cycle is at least as many frames as one has
many_times : (p k : ℕ) → 1 ≤ k → p ≤ k * p
many_times p zero l = let never : ⊥ = omega arith in absurd never
many_times p (suc k) l = let step = suc-mul k p in omega arith

times_mod : (n k : ℕ) → IsSize n → (k * per_cycle n) % per_cycle n ≡ 0
times_mod n k size =
    let same : k * per_cycle n + 0 ≡ k * per_cycle n = omega arith in
    ap (λ (m : ℕ). m % per_cycle n) (sym same) ∙ (split n k 0 size (some_frames n size)).1

placed_from : (n cycle : ℕ) (cycles : List Frames) → IsSize n → cycle + length cycles ≤ 100000 → AllByRecursion (AreSpelled n) cycles → ArePlaced n (cycle * per_cycle n) (carried_from n cycle cycles)
placed_from n cycle [] size l are = tt
placed_from n cycle (frames ∷ more) size l are =
    let early : cycle < 100000 = omega arith in
    let long = cycle_long n cycle frames size early are.0 in
    let next : cycle * per_cycle n + length (cycle_frames n cycle frames) ≡ (cycle + 1) * per_cycle n = ap (λ (k : ℕ). cycle * per_cycle n + k) long ∙ one_more cycle (per_cycle n) in
    placed_append n (cycle * per_cycle n) ((cycle + 1) * per_cycle n) (cycle_frames n cycle frames) (carried_from n (cycle + 1) more) (placed_cycle n cycle frames size early are.0) next
    (placed_from n (cycle + 1) more size (omega arith) are.1)

bytes_from : (n cycle : ℕ) (cycles : List Frames) → IsSize n → map bytes_in (carried_from n cycle cycles) ≡ flat_map (listed n) cycles
bytes_from n cycle [] size = refl
bytes_from n cycle (frames ∷ more) size =
    map-append bytes_in (cycle_frames n cycle frames) (carried_from n (cycle + 1) more)
    ∙ (λ i. bytes_listed n cycle frames size i ++ bytes_from n (cycle + 1) more size i)

-- ---- whole cycles

-- as many frames as the cycles have
pub listed_long : (n : ℕ) (cycles : List Frames) → length (flat_map (listed n) cycles) ≡ length cycles * per_cycle n
listed_long n cycles = flat_length (listed n) (per_cycle n) cycles (all_long cycles) where
  all_long : (frames : List Frames) → AllByRecursion (λ x. length (listed n x) ≡ per_cycle n) frames
  all_long [] = tt
  all_long (x ∷ xs) = (listed_length n x, all_long xs)

whole_frames : (n last : ℕ) (cycles : List Frames) → IsSize n → 1 ≤ length cycles → if_whole n last (flat_map (listed n) cycles) ≡ Ok (flat_map (listed n) cycles)
whole_frames n last cycles size some =
    let p = per_cycle n in
    let there = some_frames n size in
    let long = listed_long n cycles in
    let least : p ≤ length cycles * p = many_times p (length cycles) some in
    let filled : (length (flat_map (listed n) cycles) == 0) ≡ false = ne_eqb (length (flat_map (listed n) cycles)) 0 (λ e. let never : ⊥ = omega arith in never) in
    let even : (length (flat_map (listed n) cycles) % p == 0) ≡ true = eq-eqb (length (flat_map (listed n) cycles) % p) 0 (ap (λ (k : ℕ). k % p) long ∙ times_mod n (length cycles) size) in
    rw (filled, even) refl

-- **The text of a trace is read to its frames.**
pub reads_back : ReadsBack
unfolding trace_of
reads_back n cycles size some many are =
    let cs = carried_from n 0 cycles in
    let placed : ArePlaced n 0 cs = subst (λ (k : ℕ). ArePlaced n k cs) (zero-mul (per_cycle n)) (placed_from n 0 cycles size (omega arith) are) in
    let taken : frames_from n [] (trace_lines (carried_lines cs)) ≡ Ok (flat_map (listed n) cycles) =
    ap (frames_from n []) (lines_are n 0 cs placed) ∙ read_all n cs [] placed ∙ ap Ok (bytes_from n 0 cycles size) in
    rw taken (whole_frames n (1 + count_by is_newline (carried_lines cs)) cycles size some)
