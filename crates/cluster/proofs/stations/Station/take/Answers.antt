use Rattle.std.proofs.Common.{◌≡◌, ℕ, List, length, refl, ap, ◌∙◌}
use Rattle.std.proofs.lemmas.Bool.{cases_lt}
use Rattle.std.proofs.lemmas.List.{length-map}
use Rattle.std.specs.Global.{Vec}
use Rattle.arrayvec.specs.ArrayVec.{ArrayVec}
use Rattle.link_fabric.specs.Rows.{rows_of}
use Rattle.element_core.specs.ElementValue.{frames_in}
use Rattle.cluster.specs.Carrying.{bytes_in}
use Rattle.cluster.specs.Delivered.{frame_in}
use Rattle.cluster.specs.Taken.{taken_from}
use Rattle.cluster.proofs.RoundLaws.{absorb_same, taken_rows}
use Rattle.cluster.proofs.stations.Station.take.Goals as goal

pub returns : goal.returns
returns g c =
    let old = c.args.self.now in
    let link = c.new-link.result in
    let long : length (bytes_in link.rows.now) ≡ g.row.N = length-map link.rows.now (λ (row : Vec (ArrayVec ℕ)). rows_of row.items) ∙ link.count in
    let same : (j : ℕ) → frames_in (taken_from link) j ≡ frame_in (bytes_in c.args.rows.now) j old.link.owner
    = λ j. taken_rows g.row.N link.owner j (bytes_in link.rows.now) long (cases_lt j g.row.N)
    ∙ ap (λ (rows : List (Vec (ArrayVec ℕ))). frame_in (bytes_in rows) j link.owner) c.new-link.ensures.rows
    ∙ ap (λ me. frame_in (bytes_in c.args.rows.now) j me) c.new-link.ensures.owner in
    record {
      element = c.absorb.ensures.element ∙ absorb_same c.args.round (frames_in (taken_from link)) (λ j. frame_in (bytes_in c.args.rows.now) j old.link.owner) old.element (λ j away. same j);
      owner = refl;
    }
