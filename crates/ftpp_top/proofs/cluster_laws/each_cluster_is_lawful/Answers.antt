use Rattle.whole_run.proofs.LogOrder.{each_run_hands_log_in_order}
use Rattle.whole_run.proofs.RunsLawful.{each_cycle_lawful}
use Rattle.whole_run.proofs.ServiceLaw.{runs_serve_in_time}
use Rattle.whole_run.proofs.SkewRun.{no-loss}
use Rattle.ftpp_top.proofs.cluster_laws.each_cluster_is_lawful.Goals as goal

pub returns : goal.returns
returns g c =
    let v = c.args.cluster.now in
    let h = c.has_run.ensures in
    record {
      cycles = λ k l. each_cycle_lawful v.first v.journal k h.valid h.inputs l;
      served = runs_serve_in_time v.first h.faulty v.journal h.valid h.journal;
      kept = λ faulty group shape alike. no-loss v.first v.journal faulty group h.valid shape h.inputs alike;
      ordered = each_run_hands_log_in_order v.first v.journal h.valid h.inputs;
    }
