use Rattle.std.proofs.Common.{◌≡◌, ℕ, ap, sym, ◌∙◌, arith, ◌-◌, ◌+◌, ◌<◌, List, [], ◌∷◌, ◌++◌, length, take, refl}
use Rattle.std.specs.Prelude.{slice_index_or}
use Rattle.link_fabric.specs.Rows.{rows_of}
use Rattle.element_node.specs.Input.{read_frames, read_frame_from, read_frames_from}
use Rattle.element_node.specs.Dialog.{ready}
use Rattle.element_node.proofs.Dialogs.{stays, goes_on, stops_there, ends_as, between_as, halts_as}
use Rattle.element_node.proofs.FrameCases.{frames_step, frames_none, one_more, rows_wide, as_many_before, all_rows, same_sender}
use Rattle.element_node.proofs.frames.take_frames.Goals as goal

pub loop-k-init : goal.loop-k-init
loop-k-init g c =
    let z : g.row.N - 0 ≡ g.row.N = omega arith in
    (refl, c.requires.own, (λ w. rw z (stays (read_frames g.row.N c.args.link.now.owner) _ w)), omega arith)

pub returns-in_err-take_frame_from-clause-halted : goal.returns-in_err-take_frame_from-clause-halted
returns-in_err-take_frame_from-clause-halted g c =
    let rows : List (List ℕ) = rows_of c.loop-k.link.came.items in
    let wide : c.loop-k.k < length rows = omega (arith, rows_wide c.loop-k.link.came.items _ c.loop-k.link.came_len, c.loop-k-test.true) in
    stops_there (read_frames g.row.N c.args.link.now.owner) (read_frames_from c.args.link.now.owner (g.row.N - c.loop-k.k) (take c.loop-k.k rows))
    (read_frame_from c.args.link.now.owner c.loop-k.k) (λ frame. read_frames_from c.args.link.now.owner (g.row.N - (c.loop-k.k + 1)) (take c.loop-k.k rows ++ frame ∷ []))
    c.from_residual.result c.in_err-take_frame_from.field-0.0 _ _ _
    (frames_step c.args.link.now.owner (g.row.N - c.loop-k.k) (g.row.N - (c.loop-k.k + 1)) c.loop-k.k (take c.loop-k.k rows) (omega (arith, c.loop-k-test.true)) (as_many_before c.loop-k.k rows wide))
    c.from_residual.ensures.1 c.loop-k.invariant.2
    (λ w. halts_as _ _ c.in_err-take_frame_from.field-0.0 _ _ w w (same_sender c.args.link.now.owner c.loop-k.link.owner c.loop-k.k c.at.result c.loop-k.invariant.0 c.at.ensures) (c.in_err-take_frame_from.ensures.halted w))

pub loop-k-preserved : goal.loop-k-preserved
loop-k-preserved g c =
    let rows : List (List ℕ) = rows_of c.loop-k.link.came.items in
    let after : List (List ℕ) = rows_of c.take_frame_from.new.link.came.items in
    let wide : c.loop-k.k < length rows = omega (arith, rows_wide c.loop-k.link.came.items _ c.loop-k.link.came_len, c.loop-k-test.true) in
    let wide_after : c.loop-k.k < length after = omega (arith, rows_wide c.take_frame_from.new.link.came.items _ c.take_frame_from.new.link.came_len, c.loop-k-test.true) in
    let place : c.at.result ≡ c.loop-k.k = c.at.ensures in
    let owner : c.loop-k.link.owner ≡ c.args.link.now.owner = c.loop-k.invariant.0 in
    let kept : take c.loop-k.k after ≡ take c.loop-k.k rows = ap (λ k. take k after) (sym place) ∙ (c.take_frame_from.ensures.before ∙ ap (λ k. take k rows) place) in (
      c.take_frame_from.ensures.owner ∙ owner,
      ap (λ me. slice_index_or after me []) (sym owner) ∙ c.take_frame_from.ensures.own,
      (λ w. ends_as (read_frames g.row.N c.args.link.now.owner) (read_frames_from c.args.link.now.owner (g.row.N - (c.loop-k.k + 1)) (take c.loop-k.k rows ++ slice_index_or after c.loop-k.k [] ∷ [])) _ _ _ w w
          (ap (read_frames_from c.args.link.now.owner (g.row.N - (c.loop-k.k + 1))) (one_more c.loop-k.k after rows wide_after kept))
          (goes_on (read_frames g.row.N c.args.link.now.owner) (read_frames_from c.args.link.now.owner (g.row.N - c.loop-k.k) (take c.loop-k.k rows))
          (read_frame_from c.args.link.now.owner c.loop-k.k) (slice_index_or after c.loop-k.k []) (λ frame. read_frames_from c.args.link.now.owner (g.row.N - (c.loop-k.k + 1)) (take c.loop-k.k rows ++ frame ∷ [])) _ _ _
          (frames_step c.args.link.now.owner (g.row.N - c.loop-k.k) (g.row.N - (c.loop-k.k + 1)) c.loop-k.k (take c.loop-k.k rows) (omega (arith, c.loop-k-test.true)) (as_many_before c.loop-k.k rows wide))
          c.loop-k.invariant.2
          (λ x. ends_as (read_frame_from c.args.link.now.owner c.loop-k.k) (ready (slice_index_or after c.at.result [])) (ready (slice_index_or after c.loop-k.k [])) _ _ x x
          (ap (λ k. ready (slice_index_or after k [])) place)
          (between_as (read_frame_from c.args.link.now.owner c.loop-k.k) (read_frame_from c.loop-k.link.owner c.at.result) _ _ _ x x
          (same_sender c.args.link.now.owner c.loop-k.link.owner c.loop-k.k c.at.result owner place) (c.in_ok-take_frame_from.ensures.taken x))) w)),
      omega (arith, c.loop-k.invariant.3, c.take_frame_from.ensures.faults),
    )

pub returns-clause-taken : goal.returns-clause-taken
returns-clause-taken g c = λ w. ends_as (read_frames g.row.N c.args.link.now.owner) (read_frames_from c.args.link.now.owner (g.row.N - c.loop-k.k) (take c.loop-k.k (rows_of c.loop-k.link.came.items))) (ready (rows_of c.loop-k.link.came.items)) _ _ w w
    (all_rows c.args.link.now.owner g.row.N c.loop-k.k (rows_of c.loop-k.link.came.items) (rows_wide c.loop-k.link.came.items _ c.loop-k.link.came_len) c.loop-k-test.false)
    (c.loop-k.invariant.2 w)
