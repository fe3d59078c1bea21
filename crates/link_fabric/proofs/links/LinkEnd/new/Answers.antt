use Rattle.std.proofs.Common.{◌≡◌, ◌∙◌, List, ℕ, [], false, ap, length, replicate, rules, slice_set}
use Rattle.std.proofs.lemmas.List.{length-replicate}
use Rattle.link_fabric.specs.Rows.{rows_of}
use Rattle.link_fabric.specs.Ends.{leaves_of, frame_for}
use Rattle.link_fabric.proofs.Ended.{silent_set, all_shared}
use Rattle.link_fabric.proofs.links.LinkEnd.new.Goals as goal

pub returns-clause-leaves : goal.returns-clause-leaves
unfolding leaves_of
returns-clause-leaves g c =
    let n = g.row.N in
    let rows = rows_of c.silence-2.result.items in
    let wide = ap length c.silence-2.ensures ∙ length-replicate n [] in
    let empty : c.new.result.items ≡ [] = search rules in
    ap (λ (shared : List ℕ). slice_set (frame_for (replicate n false) shared rows) c.args.me []) empty
    ∙ (ap (λ (frames : List (List ℕ)). slice_set frames c.args.me []) (all_shared n [] rows wide) ∙ silent_set n c.args.me)
