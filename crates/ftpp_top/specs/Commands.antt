-- From bytes to an outcome: how each command ends, by what the shelf and the source tell.
use Rattle.std.specs.Prelude.{ℕ, Bool, List, [], ◌∷◌, slice_index, Option, Some, None, true, false}
use Rattle.std.specs.List.{flat_map, range_with_len}
use Rattle.ftpp_outside.specs.Files.{NamedBytes}
use Rattle.config_table.specs.Table.{TableValue}
use Rattle.built_in_tables.specs.Tables.{c5}
use Rattle.workload.specs.Workload.{workload}
use Rattle.command_words.specs.Commands.{CommandValue, Run as RunOf, Trace, Check, Migrate, Soak, Sweep, Make, Node, Audit, Diagnose}
use Rattle.campaign.specs.declared.trial.Outcome.{Outcome as TrialOutcome}
use Rattle.report_text.specs.declared.totals.Totals.{Totals}
use Rattle.report_text.specs.PlayedRun.{totals_played}
use Rattle.command_steps.specs.Ends.{Outcome, Exactly, done_with, not_lawful}
use Rattle.command_steps.specs.Known.{Known, Untold, Given, ◌>>=◌}
use Rattle.command_steps.specs.Loading.{Run, table_named, table_with, bytes_told, run_for}
use Rattle.command_steps.specs.Migrating.{checked, migrated, made}
use Rattle.ftpp_top.specs.declared.commands.play.RunOutput.TheVariants.{Report, Trace as TraceText, Diagnosis}
use Rattle.ftpp_top.specs.RunOutputs.{shown, writes}
use Rattle.ftpp_top.specs.Audited.{Audited}
use Rattle.ftpp_top.specs.Served.{NodeRun}
use Rattle.ftpp_top.specs.SoakLine.{soak_line}

-- the run of the workload of a number
abbrev pub soak_run : ℕ → ℕ → Run
soak_run start cycles = record { table = c5; plan = workload start cycles }

abbrev pub soaked : ℕ → ℕ → List ℕ
soaked start cycles = soak_line start (totals_played c5 (workload start cycles))

-- the outcome of a soak as a trial
abbrev pub in_order : Totals → List ℕ
in_order t = t.cycles ∷ t.served ∷ t.discarded ∷ t.idle ∷ t.stored ∷ t.overrun ∷ t.syndromes ∷ []

-- and back
abbrev pub of_order : List ℕ → Totals
of_order totals = record {
  cycles = slice_index totals 0;
  served = slice_index totals 1;
  discarded = slice_index totals 2;
  idle = slice_index totals 3;
  stored = slice_index totals 4;
  overrun = slice_index totals 5;
  syndromes = slice_index totals 6;
}

abbrev pub soak_outcome : ℕ → ℕ → TrialOutcome
soak_outcome start cycles = record { start = start; totals = in_order (totals_played c5 (workload start cycles)) }

-- the line of an outcome
abbrev pub line_of : TrialOutcome → List ℕ
line_of o = soak_line o.start (of_order o.totals)

-- the lines of consecutive soaks
abbrev pub line_from : ℕ → ℕ → List ℕ
line_from cycles start = soaked start cycles

abbrev pub swept : ℕ → ℕ → ℕ → Outcome
swept start count cycles = done_with (Exactly (flat_map (line_from cycles) (range_with_len start count)))

-- how a call ends that goes on with what a step gives
abbrev pub ends_by : {A : Type 0} → Known A → (A → Outcome) → Known Outcome
ends_by known end = known >>= λ x. Given (end x)

-- the element that runs, once its table is loaded
abbrev pub node_for : Option (List NamedBytes) → ℕ → ℕ → Option (List ℕ) → Known NodeRun
node_for files element cycles config = table_with files (Some element) config >>= λ table. Given (record { table = table; element = element; cycles = cycles })

-- what is audited: first the table is loaded, then the text is read
abbrev pub audited_bytes : TableValue → Option ℕ → List ℕ → Known Audited
audited_bytes table named bytes = Given (record { table = table; named = named; bytes = bytes })

abbrev pub audit_on : Option (List ℕ) → Option ℕ → TableValue → Known Audited
audit_on left named table = bytes_told left >>= audited_bytes table named

abbrev pub audit_for : Option (List NamedBytes) → Option (List ℕ) → Option ℕ → Option (List ℕ) → Known Audited
audit_for files left named config = table_with files named config >>= audit_on left named

-- how a command ends; for `node` and `audit` two clauses of their own say it
unfoldable pub ends_of : Bool → Option (List NamedBytes) → Option (List ℕ) → CommandValue → Known Outcome
ends_of honest files left (RunOf config) = ends_by (run_for files left config) (writes Report honest)
ends_of honest files left (Trace config) = ends_by (run_for files left config) (writes TraceText honest)
ends_of honest files left (Check name) = ends_by (table_named files name) checked
ends_of honest files left (Migrate name) = ends_by (table_named files name) migrated
ends_of honest files left (Soak start cycles) = Given (shown honest (soaked start cycles))
ends_of honest files left (Sweep start count cycles) = Given (swept start count cycles)
ends_of honest files left (Make start cycles) = Given (made (workload start cycles))
ends_of honest files left (Node element cycles config) = Untold
ends_of honest files left (Audit named config) = Untold
ends_of honest files left (Diagnose config) = ends_by (run_for files left config) (writes Diagnosis honest)

-- the run whose frames are carried over the fabric that is handed in
unfoldable pub carried_of : Option (List NamedBytes) → Option (List ℕ) → CommandValue → Known Run
carried_of files left (RunOf config) = run_for files left config
carried_of files left (Trace config) = run_for files left config
carried_of files left (Soak start cycles) = Given (soak_run start cycles)
carried_of files left (Diagnose config) = run_for files left config
carried_of files left (Check name) = Untold
carried_of files left (Migrate name) = Untold
carried_of files left (Sweep start count cycles) = Untold
carried_of files left (Make start cycles) = Untold
carried_of files left (Node element cycles config) = Untold
carried_of files left (Audit named config) = Untold

-- what is audited, and which element runs as a node
unfoldable pub audited_of : Option (List NamedBytes) → Option (List ℕ) → CommandValue → Known Audited
audited_of files left (Audit named config) = audit_for files left named config
audited_of files left _ = Untold

unfoldable pub node_of : Option (List NamedBytes) → CommandValue → Known NodeRun
node_of files (Node element cycles config) = node_for files element cycles config
node_of files _ = Untold

-- ---- words

-- how a call ends whose words ask for this, None where they are not lawful
abbrev pub ends_with : Bool → Option (List NamedBytes) → Option (List ℕ) → Option CommandValue → Known Outcome
ends_with honest files left None = Given not_lawful
ends_with honest files left (Some command) = ends_of honest files left command

-- whether a command reads the source, loads a file, or carries frames over the fabric that is handed in
abbrev pub reads : Option CommandValue → Bool
reads (Some (RunOf config)) = true
reads (Some (Trace config)) = true
reads (Some (Diagnose config)) = true
reads (Some (Node element cycles config)) = true
reads (Some (Audit named config)) = true
reads _ = false

abbrev pub loads : Option CommandValue → Option (List ℕ)
loads (Some (RunOf config)) = config
loads (Some (Trace config)) = config
loads (Some (Diagnose config)) = config
loads (Some (Check name)) = Some name
loads (Some (Migrate name)) = Some name
loads (Some (Node element cycles config)) = config
loads (Some (Audit named config)) = config
loads _ = None

abbrev pub carries : Option CommandValue → Bool
carries (Some (RunOf config)) = true
carries (Some (Trace config)) = true
carries (Some (Diagnose config)) = true
carries (Some (Soak start cycles)) = true
carries _ = false

abbrev pub carried_with : Option (List NamedBytes) → Option (List ℕ) → Option CommandValue → Known Run
carried_with files left None = Untold
carried_with files left (Some command) = carried_of files left command

abbrev pub audited_with : Option (List NamedBytes) → Option (List ℕ) → Option CommandValue → Known Audited
audited_with files left None = Untold
audited_with files left (Some command) = audited_of files left command

abbrev pub node_with : Option (List NamedBytes) → Option CommandValue → Known NodeRun
node_with files None = Untold
node_with files (Some command) = node_of files command

-- whether a command runs an element as a node
abbrev pub is_node : Option CommandValue → Bool
is_node (Some (Node element cycles config)) = true
is_node _ = false
