use Rattle.std.proofs.Common.{◌∙◌, ap, ℕ, List, [], get_or, slice_set, replicate}
use Rattle.std.proofs.lemmas.List.{length-map}
use Rattle.arrayvec.specs.ArrayVec.{ArrayVec}
use Rattle.link_fabric.specs.Rows.{rows_of}
use Rattle.link_fabric.specs.Ends.{leaves_of, frame_for, frames_wide}
use Rattle.link_fabric.proofs.Ended.{all_shared, shared_put}
use Rattle.link_fabric.proofs.links.LinkEndLink.put_all.Goals as goal

pub returns-clause-frames : goal.returns-clause-frames
unfolding leaves_of
returns-clause-frames g c = λ to below.
    let old = c.args.self.now in
    let rows = rows_of old.leaves.items in
    let wide = length-map old.leaves.items (λ (f : ArrayVec ℕ). f.items) ∙ old.leaves_len in
    ap (λ (frames : List (List ℕ)). get_or (slice_set frames old.owner []) to []) (all_shared g.row.N c.copy_frame.new.into.items rows wide)
    ∙ ap (λ (f : ArrayVec ℕ). get_or (slice_set (replicate g.row.N f.items) old.owner []) to []) c.copy_frame.ensures
    ∙ shared_put g.row.N old.owner c.args._owner to c.args.frame.now.items (frame_for old.has_own old.shared.items rows)
    (frames_wide g.row.N old.has_own old.shared.items rows old.has_own_len wide) below c.requires.owner
