-- What calls load can be played, and a call of `audit` of what a call of `trace` wrote ends with `follows`.
use Rattle.std.proofs.Common.{◌≡◌, ℕ, ◌≤◌, Bool, true, false, cond, List, [], length, refl, ap, sym, ◌∙◌, subst, ◌⊎◌, inl, inr, Ok, Err}
use Rattle.std.specs.Prelude.{Option, Some, None, Result, nat_lt}
use Rattle.std.proofs.lemmas.Bool.{lt-ltb, le-ltb}
use Rattle.ftpp_outside.specs.Files.{NamedBytes, bytes_of}
use Rattle.config_table.specs.Table.{TableValue, IsValid}
use Rattle.built_in_tables.proofs.Valid.{four_valid}
use Rattle.config_text.specs.declared.errors.TextError.{TextError}
use Rattle.config_text.specs.Reading.{config_of}
use Rattle.script_text.specs.Reading.{Plan, Refusal, script_of}
use Rattle.script_text.specs.Playable.{IsPlayable, IsThere}
use Rattle.script_text.proofs.Playable.{read_plays}
use Rattle.report_text.specs.PlayedRun.{trace_text}
use Rattle.command_words.specs.Commands.{Trace, Audit}
use Rattle.command_steps.specs.declared.status.Status.{Status}
use Rattle.command_steps.specs.Ends.{Outcome, Output, Exactly, WithTable, Anything, Ends, done_with, too_long}
use Rattle.command_steps.specs.Known.{Known, Untold, Ending, Given, ◌>>=◌, IsHalt}
use Rattle.command_steps.specs.Loading.{Run, file_limit, script_limit, table_or, table_of_file, table_if_there, table_named, table_for, bytes_within, bytes_told, plan_or, plan_of_bytes, plan_told, if_has, run_on, run_for}
use Rattle.ftpp_top.specs.Audited.{Audited, Judged}
use Rattle.ftpp_top.specs.Commands.{ends_of, audited_of}
use Rattle.audited_runs.specs.Audited.{IsCalmRun, audit_of, following, LoadsPlayable, AuditsOfTraces}
use Rattle.audited_runs.proofs.ReadTables.{read_valid}
use Rattle.audited_runs.proofs.AuditedTraces.{ends_following}

-- ---- steps

-- where two steps give a value, the first one gave one
record GaveBoth {A B : Type 0} (first : Known A) (second : A → Known B) (y : B) : Type 0 where
  x : A
  one : first ≡ Given x
  two : second x ≡ Given y

gave_both : {A B : Type 0} (first : Known A) (second : A → Known B) (y : B) → (first >>= second) ≡ Given y → GaveBoth first second y
gave_both Untold second y e = absurd cc
gave_both (Ending o) second y e = absurd cc
gave_both (Given x) second y e = record { x = x; one = refl; two = e }

given_same : {A : Type 0} (known : Known A) (x y : A) → known ≡ Given x → known ≡ Given y → x ≡ y
given_same known x y e g = cc

-- ---- what is loaded

table_by : (read : Result TableValue TextError) (table : TableValue) → table_or read ≡ Given table → read ≡ Ok table
table_by (Ok t) table e = cc
table_by (Err error) table e = absurd cc

file_by : (bytes : List ℕ) (table : TableValue) (long : Bool) → (cond long (Ending too_long) (table_or (config_of bytes))) ≡ Given table → IsValid table
file_by bytes table true e = absurd cc
file_by bytes table false e = read_valid bytes table (table_by (config_of bytes) table e)

there_by : (o : Option (List ℕ)) (table : TableValue) → table_if_there o ≡ Given table → IsValid table
unfolding table_of_file
there_by None table e = absurd cc
there_by (Some bytes) table e = file_by bytes table (nat_lt file_limit (length bytes)) e

named_by : (files : Option (List NamedBytes)) (name : List ℕ) (table : TableValue) → table_named files name ≡ Given table → IsValid table
named_by None name table e = absurd cc
named_by (Some files) name table e = there_by (bytes_of files name) table e

table_valid : (files : Option (List NamedBytes)) (config : Option (List ℕ)) (table : TableValue) → table_for files config ≡ Given table → IsValid table
table_valid files None table e = subst IsValid (given_same (table_for files None) _ table refl e) four_valid
table_valid files (Some name) table e = named_by files name table e

plan_by : (read : Result Plan Refusal) (plan : Plan) → plan_or read ≡ Given plan → read ≡ Ok plan
plan_by (Ok p) plan e = cc
plan_by (Err refusal) plan e = absurd cc

-- a run that is loaded, by its steps
record IsLoaded (files : Option (List NamedBytes)) (config : Option (List ℕ)) (r : Run) : Type 0 where
  table : table_for files config ≡ Given r.table
  valid : IsValid r.table
  playable : IsPlayable r.table.n r.plan

loaded : (files : Option (List NamedBytes)) (left config : Option (List ℕ)) (r : Run) → run_for files left config ≡ Given r → IsLoaded files config r
loaded files left config r e =
    let outer = gave_both (table_for files config) (run_on left) r e in
    let table = outer.x in
    let inner = gave_both (plan_told table.n left) (λ plan. Given (record { table = table; plan = plan })) r outer.two in
    let bytes = gave_both (bytes_told left) (plan_of_bytes table.n) inner.x inner.one in
    let same : record { table = table; plan = inner.x } ≡ r = given_same (Given (record { table = table; plan = inner.x })) (record { table = table; plan = inner.x }) r refl inner.two in
    subst (IsLoaded files config) same (record {
      table = outer.one;
      valid = table_valid files config table outer.one;
      playable = read_plays table.n bytes.x inner.x (plan_by (script_of table.n bytes.x) inner.x bytes.two);
    })

pub loads_playable : LoadsPlayable
loads_playable files left config r e = let h = loaded files left config r e in (h.valid, h.playable)

-- ---- the audit of what was written

-- the table of the audit, for the script's faulty element
has_named : (named : Option ℕ) (table : TableValue) → IsThere table.n named → if_has named table ≡ Given table
has_named None table is = refl
has_named (Some ne) table is = rw (lt-ltb ne table.n is) refl

within : (bytes : List ℕ) → length bytes ≤ script_limit → bytes_within bytes ≡ Given bytes
unfolding bytes_within
within bytes l = rw (le-ltb script_limit (length bytes) l) refl

audited_so : (files : Option (List NamedBytes)) (config : Option (List ℕ)) (who : Option ℕ) (table : TableValue) (bytes : List ℕ) → table_for files config ≡ Given table → IsThere table.n who → length bytes ≤ script_limit
    → audited_of files (Some bytes) (Audit who config) ≡ Given (record { table = table; named = who; bytes = bytes })
unfolding audited_of
audited_so files config who table bytes loads there short = rw (loads, has_named who table there, within bytes short) refl

-- the text that a call is to write
abbrev written : Output → List ℕ
written (Exactly text) = text
written (WithTable front table) = front
written Anything = []

abbrev to_write : Known Outcome → List ℕ
to_write Untold = []
to_write (Ending o) = []
to_write (Given o) = written o.output

text_is : (files : Option (List NamedBytes)) (left config : Option (List ℕ)) (r : Run) (text : List ℕ) → run_for files left config ≡ Given r → ends_of true files left (Trace config) ≡ Given (done_with (Exactly text)) → text ≡ trace_text r.table r.plan
unfolding ends_of
text_is files left config r text loads ends = ap to_write (sym (rw loads at ends))

audit_by : (r : Run) (status : Status) (old new : Option (List ℕ)) → IsCalmRun r → Judged (Given (audit_of r)) status old new → (IsHalt status × (new ≡ old)) ⊎ Ends (following r) status old new
audit_by r status old new calm (inl halt) = inl halt
audit_by r status old new calm (inr ends) = inr (ends_following r status old new calm ends)

pub audits_of_traces : AuditsOfTraces
audits_of_traces files left config r text status old new loads none ends short judged =
    let h = loaded files left config r loads in
    let same = text_is files left config r text loads ends in
    let known = audited_so files config r.plan.faulty r.table text h.table h.playable.first short
    ∙ ap (λ (bytes : List ℕ). let a : Audited = record { table = r.table; named = r.plan.faulty; bytes = bytes } in Given a) same in
    audit_by r status old new (record { valid = h.valid; playable = h.playable; calm = none }) (subst (λ (known : Known Audited). Judged known status old new) known judged)
