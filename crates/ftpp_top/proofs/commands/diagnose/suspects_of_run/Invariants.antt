use Rattle.std.proofs.Common.{◌≡◌, length}
use Rattle.std.specs.Prelude.{IsTrue}
use Rattle.script_text.specs.Reading.{plan_of}
use Rattle.command_steps.specs.Loading.{Run}
use Rattle.ftpp_top.specs.FollowsScript.{StandsAt}
use Rattle.ftpp_top.specs.Playing.{IsReady, told_by}
use Rattle.ftpp_top.specs.Diagnosing.{IsDiagnosing}
use Rattle.ftpp_top.proofs.commands.diagnose.suspects_of_run.Given as goal

abbrev pub invariant-loop-cycle : goal.invariant-loop-cycle
invariant-loop-cycle g l = record {
  script : l.playing.script ≡ l.fn.playing.script;
  cycle : length l.playing.cluster.journal ≡ l._cycle;
  ready : IsReady g.row.N (plan_of l.playing.script.now) l.playing.cluster l.playing.acts.now l.playing.rejoins.now;
  count : length l.suspects.items ≡ g.row.N;
  honest : IsTrue (g.F.Fabric.honest l.fn.fabric) → IsTrue (g.F.Fabric.honest l.fabric);
  suspects : IsTrue (g.F.Fabric.honest l.fn.fabric) → (r : Run) → r.plan ≡ plan_of l.fn.playing.script.now → StandsAt r.table r.plan 0 l.fn.playing.cluster (told_by l.fn.playing.player)
      → IsDiagnosing r l._cycle l.playing.cluster (told_by l.playing.player) l.suspects.items (g.F.Fabric.told l.fn.fabric) (g.F.Fabric.told l.fabric);
}
