use Rattle.std.proofs.Common.{◌≡◌, []}
use Rattle.script_text.specs.Reading.{plan_of}
use Rattle.ftpp_top.specs.Playing.{told_by}
use Rattle.ftpp_top.proofs.Begun.{run_calm, nil_by}
use Rattle.ftpp_top.proofs.playing.Playing.rejoin.Goals as goal

pub returns-in-None-clause-run : goal.returns-in-None-clause-run
returns-in-None-clause-run g c table =
    let s = c.args.self.now in
    let none : s.rejoins.now ≡ [] = nil_by s.rejoins.now c.in-None.ensures.cases in
    run_calm g.row.N (plan_of s.script.now) s.cluster s.acts.now s.rejoins.now c.requires.ready table (told_by s.player) (rw none tt)
