use Rattle.std.proofs.Common.{◌≡◌, List, length, ap, sym, subst, ◌∙◌}
use Rattle.ftpp_base.specs.declared.element.Round.TheVariants.{A1, A2, B1, B2}
use Rattle.std.specs.Vec.{with_items}
use Rattle.element_core.specs.declared.Due.TheVariants.{Emit}
use Rattle.cluster.specs.declared.stations.Station.{Station}
use Rattle.cluster.specs.Delivered.{Delivered}
use Rattle.cluster.specs.Stations.{AllPlaced, AllReady}
use Rattle.cluster.specs.Carrying.{AreTables, HasShape, TellsMore, bytes_in, delivered_in, cycle_entries}
use Rattle.cluster.specs.Rounds.{PlaysCycleOf, RunsCycle, SendsCycle}
use Rattle.cluster.proofs.Written.{written, rows_long}
use Rattle.cluster.proofs.Sizes.{station_fits}
use Rattle.cluster.proofs.network.Network.run_split.Goals as goal

pub rounds_split-requires : goal.rounds_split-requires
rounds_split-requires g c =
    let f = c.args.self.now in
    let N = g.row.N in
    let t = c.requires.tables in (
      c.type_bounds.sync-R,
      (
        c.type_bounds.sync-G,
        (
          station_fits g.row.N c.requires.size,
          (
            c.requires.size,
            (
              ap length c.as_mut_slice.ensures.value ∙ c.requires.count,
              (
                (rows_long N f.a1.items _ c.as_mut_slice-2.ensures.value (t.count A1), subst (λ r. HasShape N (bytes_in r)) (sym c.as_mut_slice-2.ensures.value) (t.shape A1)),
                (
                  (rows_long N f.a2.items _ c.as_mut_slice-3.ensures.value (t.count A2), subst (λ r. HasShape N (bytes_in r)) (sym c.as_mut_slice-3.ensures.value) (t.shape A2)),
                  (
                    (rows_long N f.b1.items _ c.as_mut_slice-4.ensures.value (t.count B1), subst (λ r. HasShape N (bytes_in r)) (sym c.as_mut_slice-4.ensures.value) (t.shape B1)),
                    (
                      (rows_long N f.b2.items _ c.as_mut_slice-5.ensures.value (t.count B2), subst (λ r. HasShape N (bytes_in r)) (sym c.as_mut_slice-5.ensures.value) (t.shape B2)),
                      (
                        subst (λ s. AllPlaced s) (sym c.as_mut_slice.ensures.value) c.requires.placed,
                        (subst (λ s. AllReady (Emit A1) s) (sym c.as_mut_slice.ensures.value) c.requires.ready, c.requires.below),
                      ),
                    ),
                  ),
                ),
              ),
            ),
          ),
        ),
      ),
    )

pub returns : goal.returns
returns g c =
    let f = c.args.self.now in
    let r = c.rounds_split in
    let N = g.row.N in
    let faulty = c.args.faulty.now in
    let s = g.A.Adversary.told c.args.adversary.now in
    let t = g.A.Adversary.told r.new.adversary in
    let u = g.F.Fabric.told c.args.fabric.now in
    let v = g.F.Fabric.told r.new.fabric in
    let olds : List (Station N) = c.as_mut_slice.result.now in
    let is : olds ≡ f.stations.items = c.as_mut_slice.ensures.value in
    let news : (with_items f.stations r.new.stations).items ≡ r.new.stations = written f.stations olds r.new.stations is r.auto.stations in
    let p1 : (with_items f.a1 r.new.a1).items ≡ r.new.a1 = written f.a1 c.as_mut_slice-2.result.now r.new.a1 c.as_mut_slice-2.ensures.value r.auto.a1 in
    let p2 : (with_items f.a2 r.new.a2).items ≡ r.new.a2 = written f.a2 c.as_mut_slice-3.result.now r.new.a2 c.as_mut_slice-3.ensures.value r.auto.a2 in
    let p3 : (with_items f.b1 r.new.b1).items ≡ r.new.b1 = written f.b1 c.as_mut_slice-4.result.now r.new.b1 c.as_mut_slice-4.ensures.value r.auto.b1 in
    let p4 : (with_items f.b2 r.new.b2).items ≡ r.new.b2 = written f.b2 c.as_mut_slice-5.result.now r.new.b2 c.as_mut_slice-5.ensures.value r.auto.b2 in
    let frames : delivered_in r.new.a1 r.new.a2 r.new.b1 r.new.b2 ≡ delivered_in (with_items f.a1 r.new.a1).items (with_items f.a2 r.new.a2).items (with_items f.b1 r.new.b1).items (with_items f.b2 r.new.b2).items
    = λ i. delivered_in (sym p1 i) (sym p2 i) (sym p3 i) (sym p4 i) in
    record {
      runs = subst (λ (x : List (Station N) × List (Station N) × Delivered). RunsCycle x.0 x.1 x.2) (λ i. (is i, sym news i, frames i)) r.ensures.runs;
      count = ap length news ∙ r.auto.stations ∙ ap length is ∙ c.requires.count;
      tables = subst (λ (d : Delivered). AreTables N d) frames r.ensures.tables;
      sends = λ h. subst (λ (x : List (Station N) × Delivered). SendsCycle faulty x.0 x.1) (λ i. (is i, frames i)) (r.ensures.sends h);
      plays = λ h. subst (λ (x : List (Station N) × Delivered). PlaysCycleOf N c.args.cycle faulty x.0 x.1 s t) (λ i. (is i, frames i)) (r.ensures.plays h);
      silent = r.ensures.silent;
      honest = r.ensures.honest;
      told = subst (λ (d : Delivered). TellsMore u (cycle_entries N c.args.cycle d) v) frames r.ensures.told;
    }
