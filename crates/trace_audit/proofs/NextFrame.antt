-- What the next frame makes of what an auditor has.
use Rattle.std.proofs.Common.{◌≡◌, ◌≢◌, ℕ, ◌+◌, ◌*◌, ◌<◌, ◌≤◌, Bool, true, false, cond, List, [], ◌∷◌, ◌++◌, length, sym, ◌∙◌, ap, arith, subst, inl, inr, length-append}
use Rattle.std.specs.Prelude.{Option, ◌==◌}
use Rattle.std.proofs.lemmas.Bool.{eq-eqb, ne_eqb}
use Rattle.std.proofs.lemmas.List.{length-map, map-append}
use Rattle.arrayvec.specs.ArrayVec.{ArrayVec}
use Rattle.two_round.proofs.Others.{IsSize}
use Rattle.trace_audit.specs.declared.links.Link.{Link}
use Rattle.trace_audit.specs.declared.told.Told.{Told}
use Rattle.trace_audit.specs.Known.{Known, Frames, known_after, least_receiver}
use Rattle.trace_audit.specs.Trace.{per_cycle, frames_in, place_of}
use Rattle.trace_audit.specs.Links.{link_at, bytes_of, all_bytes, per_round}
use Rattle.trace_audit.specs.Progress.{Progress, passes_at, is_awaited, progress_after}
use Rattle.trace_audit.specs.Told.{HoldsTold, HoldsBefore, HoldsFor, HoldsPatterns, HoldsPackets, IsAuditing}
use Rattle.trace_audit.proofs.Earlier.{least_place}
use Rattle.trace_audit.proofs.Places.{link_there}
use Rattle.trace_audit.proofs.Stays.{told_held, held_for}
use Rattle.trace_audit.proofs.FirstBreak.{size_after, some_frames}

-- the bytes of one frame more
pub bytes_more : (frames : List (ArrayVec ℕ)) (frame : ArrayVec ℕ) → all_bytes (frames ++ frame ∷ []) ≡ all_bytes frames ++ frame.items ∷ []
bytes_more frames frame = map-append bytes_of frames (frame ∷ [])

pub bytes_long : (frames : List (ArrayVec ℕ)) → length (all_bytes frames) ≡ length frames
bytes_long frames = length-map frames bytes_of

-- there are at most 80 frames in a cycle
pub most_frames : (n : ℕ) → IsSize n → per_cycle n ≤ 80
most_frames n (inl e) = subst (λ k. per_cycle k ≤ 80) (sym e) (omega arith)
most_frames n (inr e) = subst (λ k. per_cycle k ≤ 80) (sym e) (omega arith)

module _ (n : ℕ) (known : Known) (named : Option ℕ) (frames : List (ArrayVec ℕ)) (told : Told n) (frame : ArrayVec ℕ) (is : IsAuditing n known named (all_bytes frames) told) where
  abbrev so_far : List (List ℕ)
  so_far = all_bytes frames

  abbrev more : List (List ℕ)
  more = so_far ++ frame.items ∷ []

  abbrev before : Progress
  before = record { known = known; named = named; so_far = so_far }

  abbrev pub link : Link
  link = link_at n (length frames)

  pub room : length frames < 80
  room = let most = most_frames n is.size in let inside = is.inside in let long = bytes_long frames in omega arith

  pub place_inside : length frames < per_cycle n
  place_inside = let inside = is.inside in let long = bytes_long frames in omega arith

  -- the frame is at its place
  pub here : (all : List (ArrayVec ℕ)) → all ≡ frames ++ frame ∷ [] → place_of n link.round link.from link.to < length all
  here all e = let at = (link_there n (length frames) is.size place_inside).place in let long : length all ≡ length frames + 1 = ap length e ∙ length-append frames (frame ∷ []) in omega arith

  -- and the first of its sender before it
  pub first : (all : List (ArrayVec ℕ)) → all ≡ frames ++ frame ∷ [] → place_of n link.round link.from (least_receiver link.from) < length all
  first all e = let at = here all e in let least = least_place link.from link.to in omega arith

  pub held : (all : List (ArrayVec ℕ)) → all ≡ frames ++ frame ∷ [] → HoldsBefore n known named (all_bytes all) told
  held all e =
      subst (λ (xs : List (List ℕ)). HoldsBefore n known named xs told) (sym (ap all_bytes e ∙ bytes_more frames frame))
      (told_held n known named so_far frame.items told is.size is.elements is.there is.holds)

  pub awaited : (all : List (ArrayVec ℕ)) → all ≡ frames ++ frame ∷ [] → passes_at known named (frames_in n (all_bytes all)) link ≡ is_awaited before frame.items
  unfolding is_awaited
  awaited all e =
      λ i. passes_at known named (frames_in (sym is.elements i) ((ap all_bytes e ∙ bytes_more frames frame) i)) (link_at (sym is.elements i) (sym (bytes_long frames) i))

  -- inside a cycle
  pub goes_on : (all : List (ArrayVec ℕ)) → all ≡ frames ++ frame ∷ [] → length all ≢ per_cycle n → record { known = known; named = named; so_far = all_bytes all } ≡ progress_after before frame.items
  unfolding progress_after
  goes_on all e away =
      let same : all_bytes all ≡ more = ap all_bytes e ∙ bytes_more frames frame in
      let long : length more ≡ length all = ap length (sym same) ∙ bytes_long all in
      let short : (length more == per_cycle known.table.n) ≡ false = ne_eqb (length more) (per_cycle known.table.n) (λ f. away (sym long ∙ f ∙ ap per_cycle is.elements)) in
      let going : Progress = record { known = known; named = named; so_far = more } in
      let done : Progress = record { known = known_after known named (frames_in known.table.n more); named = named; so_far = [] } in
      ap (λ (xs : List (List ℕ)). let p : Progress = record { known = known; named = named; so_far = xs } in p) same
      ∙ sym (ap (λ (b : Bool). cond b done going) short)

  -- and at its end
  pub ends : (all : List (ArrayVec ℕ)) (after : Known) → all ≡ frames ++ frame ∷ [] → length all ≡ per_cycle n → after ≡ known_after known named (frames_in n (all_bytes all))
      → record { known = after; named = named; so_far = [] } ≡ progress_after before frame.items
  unfolding progress_after
  ends all after e full is_after =
      let same : all_bytes all ≡ more = ap all_bytes e ∙ bytes_more frames frame in
      let long : length more ≡ length all = ap length (sym same) ∙ bytes_long all in
      let whole : (length more == per_cycle known.table.n) ≡ true = eq-eqb (length more) (per_cycle known.table.n) (long ∙ full ∙ ap per_cycle (sym is.elements)) in
      let going : Progress = record { known = known; named = named; so_far = more } in
      let done : Progress = record { known = known_after known named (frames_in known.table.n more); named = named; so_far = [] } in
      ap (λ (k : Known). let p : Progress = record { known = k; named = named; so_far = [] } in p)
      (is_after ∙ (λ i. known_after known named (frames_in (sym is.elements i) (same i))))
      ∙ sym (ap (λ (b : Bool). cond b done going) whole)

  -- what is held of the frame's round
  pub holds_here : (all : List (ArrayVec ℕ)) → all ≡ frames ++ frame ∷ [] → HoldsFor n link.round known named (frames_in n (all_bytes all)) told
  holds_here all e =
      let long = length-append frames (frame ∷ []) in
      let same = ap length e in
      let bytes = bytes_long all in
      held_for n (length frames) known named (all_bytes all) told is.size (omega arith) (held all e)

  -- what is known at the end of a cycle
  pub end_known : (all : List (ArrayVec ℕ)) (after : Known) (last : Told n) → HoldsTold n known named (all_bytes all) last → length all ≡ 4 * per_round n
      → ((these : Frames) → HoldsPatterns n known named these last → HoldsPackets n known named these last → after ≡ known_after known named these)
      → after ≡ known_after known named (frames_in n (all_bytes all))
  end_known all after last h full f =
      let bytes = bytes_long all in
      f (frames_in n (all_bytes all)) (h.patterns (omega arith)) (h.packets (omega arith))

  -- the next cycle begins
  pub begins_again : (all none : List (ArrayVec ℕ)) (after : Known) (last : Told n) → none ≡ [] → after ≡ known_after known named (frames_in n (all_bytes all)) → IsAuditing n after named (all_bytes none) last
  begins_again all none after last empty e =
      let some = some_frames n is.size in
      let bytes = bytes_long none in
      let long : length none ≡ 0 = ap length empty in
      record {
        size = is.size;
        elements = ap (λ (k : Known). k.table.n) e ∙ size_after known named (frames_in n (all_bytes all)) ∙ is.elements;
        inside = omega arith;
        there = is.there;
        holds = record {
          patterns = λ l. let never : ⊥ = omega arith in absurd never;
          packets = λ l. let never : ⊥ = omega arith in absurd never;
        };
      }
