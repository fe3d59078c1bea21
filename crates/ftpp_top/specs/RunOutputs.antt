-- What is written of a run.
use Rattle.std.specs.Prelude.{ℕ, Bool, List, if◌then◌else◌}
use Rattle.report_text.specs.PlayedRun.{report_text, trace_text}
use Rattle.command_steps.specs.Ends.{Outcome, Exactly, Anything, done_with}
use Rattle.command_steps.specs.Loading.{Run}
use Rattle.ftpp_top.specs.declared.commands.play.RunOutput.{RunOutput}
use Rattle.ftpp_top.specs.declared.commands.play.RunOutput.TheVariants.{Report, Trace, Diagnosis}
use Rattle.ftpp_top.specs.Diagnosing.{diagnosis_text}

-- over an honest fabric this text is written; of another one nothing is known
abbrev pub shown : Bool → List ℕ → Outcome
shown honest text = done_with (if honest then Exactly text else Anything)

abbrev pub text_of : RunOutput → Run → List ℕ
text_of Report r = report_text r.table r.plan
text_of Trace r = trace_text r.table r.plan
text_of Diagnosis r = diagnosis_text r

abbrev pub writes : RunOutput → Bool → Run → Outcome
writes output honest r = shown honest (text_of output r)
