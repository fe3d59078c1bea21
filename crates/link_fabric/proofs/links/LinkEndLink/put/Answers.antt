use Rattle.std.proofs.Common.{ℕ, true, ap, slice_set}
use Rattle.link_fabric.specs.Rows.{rows_of}
use Rattle.link_fabric.specs.Ends.{leaves_of}
use Rattle.link_fabric.proofs.Ended.{row_put}
use Rattle.link_fabric.proofs.Written.{rows_write}
use Rattle.link_fabric.proofs.links.LinkEndLink.put.Goals as goal

pub returns-clause-frame : goal.returns-clause-frame
unfolding leaves_of
returns-clause-frame g c =
    let old = c.args.self.now in
    row_put old.owner c.args.to old.shared.items c.args.frame.now.items old.has_own _ (rows_of old.leaves.items) _ (ap (λ (k : ℕ). slice_set old.has_own k true) c.index-2.ensures.number)
    (rows_write old.leaves.items c.deref_mut.result.now c.index.result c.args.to c.copy_frame.new.into c.args.frame.now c.deref_mut.ensures.value c.index.ensures.number c.copy_frame.ensures) c.requires.other
