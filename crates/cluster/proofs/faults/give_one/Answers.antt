use Rattle.std.proofs.Common.{rules, ◌≡◌, ap, sym, ◌∙◌, arith, slice_set, subst, ℕ, ◌<◌}
use Rattle.std.specs.Prelude.{slice_index, List}
use Rattle.arrayvec.specs.ArrayVec.{ArrayVec}
use Rattle.fault_script.specs.Plays.{Plays}
use Rattle.link_fabric.specs.Rows.{rows_of}
use Rattle.element_core.specs.ElementValue.{frames_in}
use Rattle.cluster.proofs.OneFrame.{row_here, row_away, tells_frame}
use Rattle.cluster.proofs.Sizes.{station_fits}
use Rattle.cluster.proofs.faults.give_one.Goals as goal

pub leaving-requires : goal.leaving-requires
leaving-requires g c = (station_fits g.row.N c.requires.size, (c.requires.size, (c.requires.count, (c.requires.placed, (c.requires.from, (c.requires.to, search rules))))))

pub returns-clause-kept : goal.returns-clause-kept
returns-clause-kept g c k away = row_away c.args.row.now c.index.result k c.carry_frame.new.got (λ e. away (e ∙ c.index.ensures.number))

pub returns-clause-asked : goal.returns-clause-asked
returns-clause-asked g c h away d =
    let row = slice_set c.args.row.now c.index.result c.carry_frame.new.got in
    let before = g.A.Adversary.told c.args.adversary.now in
    let after = g.A.Adversary.told c.frame.new.self in
    let here : frames_in (rows_of row) c.args.to ≡ c.frame.new.got.items
    = row_here c.args.row.now c.index.result c.args.to c.carry_frame.new.got c.index.ensures.number (omega (arith, c.requires.row, c.requires.to))
    ∙ ap (λ (f : ArrayVec ℕ). f.items) (c.carry_frame.ensures.sent h) in
    subst (λ bytes. Plays before c.args.at c.args.to bytes (frames_in (rows_of row) c.args.to) after) (c.leaving.ensures d)
    (subst (λ bytes. Plays before c.args.at c.args.to c.leaving.result.now.items bytes after) (sym here) c.frame.ensures)

pub returns-clause-bytes : goal.returns-clause-bytes
returns-clause-bytes g c away k =
    subst (λ (bytes : List ℕ). slice_index bytes k < 256) (sym (row_here c.args.row.now c.index.result c.args.to c.carry_frame.new.got c.index.ensures.number (omega (arith, c.requires.row, c.requires.to))))
    (c.carry_frame.ensures.bytes k)

pub returns-clause-told : goal.returns-clause-told
returns-clause-told g c =
    tells_frame c.args.at (rows_of (slice_set c.args.row.now c.index.result c.carry_frame.new.got)) c.args.from c.args.to c.carry_frame.new.got _ _ (search rules)
    (row_here c.args.row.now c.index.result c.args.to c.carry_frame.new.got c.index.ensures.number (omega (arith, c.requires.row, c.requires.to))) c.carry_frame.ensures.told
