use Rattle.std.proofs.Common.{◌≡◌, ◌≢◌, ◌<◌, ◌≤◌, ◌+◌, List, length, length-set, ap, sym, ◌∙◌, subst, arith, inl, inr}
use Rattle.std.specs.Prelude.{slice_set}
use Rattle.arrayvec.specs.ArrayVec.{ArrayVec}
use Rattle.element_core.specs.declared.records.CycleRecord.{CycleRecord}
use Rattle.cluster.proofs.Told.{RowsTell, one_row, row_more, all_rows}
use Rattle.cluster.proofs.Written.{row_written}
use Rattle.cluster.proofs.reports.records.Goals as goal
use Rattle.cluster.proofs.reports.records.Goals.{then-len-place, else-len-place}

pub offset_bounds-deref_mut-place : goal.offset_bounds-deref_mut-place
offset_bounds-deref_mut-place g c =
    let below : c.loop-place.place < 5 = omega (arith, c.loop-place-test.true, c.requires.few) in
    elim c.requires.size [ inl e ↦ rw e (omega (arith, below)) | inr e ↦ rw e (omega (arith, below)) ]

pub loop-place-preserved : goal.loop-place-preserved
loop-place-preserved g c =
    let stations = c.args.stations.now in
    let k = c.loop-place.place in
    let before = c.loop-place.invariant in
    let old = c.loop-place.rows.items in
    let items : ArrayVec (CycleRecord g.row.N) → List (CycleRecord g.row.N) = λ row. row.items in
    let P : List (CycleRecord g.row.N) → Type 0 = λ rows. (k < length rows) × (length rows ≤ length stations) × RowsTell rows stations k in
    let Q : List (CycleRecord g.row.N) → Type 0 = λ rows. (k + 1 ≤ length rows) × (length rows ≤ length stations) × RowsTell rows stations (k + 1) in
    let ready : P c.if-len-place.rows.items =
    elim c.if-len-place.branch [
      | then-len-place w ↦
          let full : length old ≡ k = sym c.len.ensures.value ∙ w.if-len-place.true in
          let longer : length c.if-len-place.rows.items ≡ length old + 1 = ap length (ap items w.rows-is) ∙ w.push.ensures.len in
          (omega (arith, full, longer), omega (arith, full, longer, c.loop-place-test.true), subst (λ rows. RowsTell rows stations k) (sym (ap items w.rows-is ∙ w.push.ensures.items)) (row_more old w.default.result stations k before.0 before.2))
      | else-len-place w ↦
          let other : length old ≢ k = λ e. w.if-len-place.false (c.len.ensures.value ∙ e) in
          subst P (sym (ap items w.rows-is)) (omega (arith, before.0, other), before.1, before.2)
    ] in
    let now = c.deref_mut.result.now in
    let row = c.write_row.new.row in
    let rows : P now = subst P (sym c.deref_mut.ensures.value) ready in
    let long : length (slice_set now k row) ≡ length now = length-set now k row in
    subst Q (sym (row_written c.if-len-place.rows.items (slice_set now k row) (long ∙ ap length c.deref_mut.ensures.value)))
    (omega (arith, long, rows.0), omega (arith, long, rows.1), one_row now stations k row c.index-stations-place.result rows.0 c.loop-place-test.true c.index-stations-place.is c.write_row.ensures rows.2)

pub returns : goal.returns
returns g c =
    let before = c.loop-place.invariant in
    let done : c.loop-place.place ≡ length c.args.stations.now = omega (arith, c.loop-place-test.false, c.loop-place.auto.place-end) in
    all_rows c.loop-place.rows.items c.args.stations.now (omega (arith, before.0, before.1, done)) (subst (λ k. RowsTell c.loop-place.rows.items c.args.stations.now k) done before.2)
