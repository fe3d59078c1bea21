use Rattle.std.proofs.Common.{◌≡◌, ◌<◌, ◌*◌, ◌++◌, ◌∷◌, [], ℕ, List, length, ap, sym, subst, ◌∙◌, arith, inl, inr}
use Rattle.arrayvec.specs.ArrayVec.{ArrayVec}
use Rattle.trace_audit.specs.declared.links.Link.{Link}
use Rattle.trace_audit.specs.Known.{least_receiver}
use Rattle.trace_audit.specs.Trace.{place_of, frames_in}
use Rattle.trace_audit.specs.Links.{link_at, all_bytes, per_round}
use Rattle.trace_audit.specs.Progress.{Progress, passes_at, is_awaited, progress_after}
use Rattle.trace_audit.specs.Told.{HoldsFor}
use Rattle.trace_audit.proofs.NextFrame.{here, first, held, holds_here, awaited, goes_on, ends, end_known, begins_again}
use Rattle.trace_audit.proofs.auditor.Auditor.next.Goals as goal

pub passes-passes-requires : goal.passes-passes-requires
passes-passes-requires g c =
    let s = c.self.inside in
    let h = c.self.invariant in
    let link : c.link_at-link.result ≡ link_at g.row.N (length s.frames.items) = c.link_at-link.ensures.link ∙ ap (link_at g.row.N) c.len.ensures.value in
    let all : c.as_slice.result.now ≡ s.frames.items ++ c.copied.result ∷ [] = c.as_slice.ensures.value ∙ c.push.ensures.items in (
      omega arith,
      (
        h.size,
        (
          h.elements,
          (
            c.link_at-link.ensures.from,
            (
              subst (λ (l : Link). place_of g.row.N l.round l.from l.to < length c.as_slice.result.now) (sym link)
                  (here g.row.N s.watched s.named s.frames.items s.told c.copied.result h c.as_slice.result.now all),
              (
                subst (λ (l : Link). place_of g.row.N l.round l.from (least_receiver l.from) < length c.as_slice.result.now) (sym link)
                    (first g.row.N s.watched s.named s.frames.items s.told c.copied.result h c.as_slice.result.now all),
                subst (λ (l : Link). HoldsFor g.row.N l.round s.watched s.named (frames_in g.row.N (all_bytes c.as_slice.result.now)) s.told) (sym link)
                    (holds_here g.row.N s.watched s.named s.frames.items s.told c.copied.result h c.as_slice.result.now all),
              ),
            ),
          ),
        ),
      ),
    )

pub take_frames-requires : goal.take_frames-requires
take_frames-requires g c =
    let s = c.self.inside in
    let h = c.self.invariant in
    let all : c.as_slice-2.result.now ≡ s.frames.items ++ c.copied.result ∷ [] = c.as_slice-2.ensures.value ∙ c.push.ensures.items in (
      elim h.size [ inl four ↦ rw four (omega arith) | inr five ↦ rw five (omega arith) ],
      (
        elim h.size [ inl four ↦ rw four (omega arith) | inr five ↦ rw five (omega arith) ],
        (
          h.size,
          (
            h.elements,
            (
              h.there,
              (
                subst (λ (k : ℕ). k < 100000) (sym (ap (λ (p : Progress). p.known.cycle) c.self.view_is)) c.requires,
                held g.row.N s.watched s.named s.frames.items s.told c.copied.result h c.as_slice-2.result.now all,
              ),
            ),
          ),
        ),
      ),
    )

pub invariant_of-self : goal.invariant_of-self
invariant_of-self g c =
    let s = c.self.inside in
    let full : length c.as_slice-2.result.now ≡ 4 * per_round g.row.N = ap length c.as_slice-2.ensures.value ∙ sym c.len-2.ensures.value ∙ c.if-len-per_round.true ∙ ap (λ (k : ℕ). 4 * k) c.per_round.ensures.count in
    begins_again g.row.N s.watched s.named s.frames.items s.told c.copied.result c.self.invariant c.as_slice-2.result.now c.clear.new.self.items c.end_cycle.new.watched c.end_cycle.new.self c.clear.ensures
    (end_known g.row.N s.watched s.named s.frames.items s.told c.copied.result c.self.invariant c.as_slice-2.result.now c.end_cycle.new.watched c.take_frames.new.self c.take_frames.ensures full c.end_cycle.ensures)

pub returns-then-len-per_round-clause-answer : goal.returns-then-len-per_round-clause-answer
returns-then-len-per_round-clause-answer g c =
    let s = c.self.inside in
    let link : c.link_at-link.result ≡ link_at g.row.N (length s.frames.items) = c.link_at-link.ensures.link ∙ ap (link_at g.row.N) c.len.ensures.value in
    let all : c.as_slice.result.now ≡ s.frames.items ++ c.copied.result ∷ [] = c.as_slice.ensures.value ∙ c.push.ensures.items in
    c.passes-passes.ensures
    ∙ ap (passes_at s.watched s.named (frames_in g.row.N (all_bytes c.as_slice.result.now))) link
    ∙ awaited g.row.N s.watched s.named s.frames.items s.told c.copied.result c.self.invariant c.as_slice.result.now all
    ∙ (λ i. is_awaited (c.self.view_is i) (c.copied.ensures i).items)

pub returns-then-len-per_round-clause-after : goal.returns-then-len-per_round-clause-after
returns-then-len-per_round-clause-after g c =
    let s = c.self.inside in
    let all : c.as_slice-2.result.now ≡ s.frames.items ++ c.copied.result ∷ [] = c.as_slice-2.ensures.value ∙ c.push.ensures.items in
    let full : length c.as_slice-2.result.now ≡ 4 * per_round g.row.N = ap length c.as_slice-2.ensures.value ∙ sym c.len-2.ensures.value ∙ c.if-len-per_round.true ∙ ap (λ (k : ℕ). 4 * k) c.per_round.ensures.count in
    let known = end_known g.row.N s.watched s.named s.frames.items s.told c.copied.result c.self.invariant c.as_slice-2.result.now c.end_cycle.new.watched c.take_frames.new.self c.take_frames.ensures full c.end_cycle.ensures in
    ap (λ (none : List (ArrayVec ℕ)). let p : Progress = record { known = c.end_cycle.new.watched; named = s.named; so_far = all_bytes none } in p) c.clear.ensures
    ∙ ends g.row.N s.watched s.named s.frames.items s.told c.copied.result c.self.invariant c.as_slice-2.result.now c.end_cycle.new.watched all full known
    ∙ (λ i. progress_after (c.self.view_is i) (c.copied.ensures i).items)

pub returns-else-len-per_round-clause-answer : goal.returns-else-len-per_round-clause-answer
returns-else-len-per_round-clause-answer g c =
    let s = c.self.inside in
    let link : c.link_at-link.result ≡ link_at g.row.N (length s.frames.items) = c.link_at-link.ensures.link ∙ ap (link_at g.row.N) c.len.ensures.value in
    let all : c.as_slice.result.now ≡ s.frames.items ++ c.copied.result ∷ [] = c.as_slice.ensures.value ∙ c.push.ensures.items in
    c.passes-passes.ensures
    ∙ ap (passes_at s.watched s.named (frames_in g.row.N (all_bytes c.as_slice.result.now))) link
    ∙ awaited g.row.N s.watched s.named s.frames.items s.told c.copied.result c.self.invariant c.as_slice.result.now all
    ∙ (λ i. is_awaited (c.self.view_is i) (c.copied.ensures i).items)

pub returns-else-len-per_round-clause-after : goal.returns-else-len-per_round-clause-after
returns-else-len-per_round-clause-after g c =
    let s = c.self.inside in
    let count = c.len-2.ensures.value in
    let per = c.per_round.ensures.count in
    goes_on g.row.N s.watched s.named s.frames.items s.told c.copied.result c.self.invariant c.push.new.self.items c.push.ensures.items
    (λ f. c.if-len-per_round.false (count ∙ f ∙ sym (ap (λ (k : ℕ). 4 * k) per)))
    ∙ (λ i. progress_after (c.self.view_is i) (c.copied.ensures i).items)
