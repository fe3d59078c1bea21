-- The table that a configuration file gives, and the script that a source gives.
use Rattle.std.specs.Prelude.{ℕ, nat_lt, List, length, Option, Some, None, Result, Ok, Err, if◌then◌else◌}
use Rattle.ftpp_outside.specs.Files.{NamedBytes, bytes_of, IsLonger}
use Rattle.config_table.specs.Table.{TableValue}
use Rattle.config_text.specs.declared.errors.TextError.{TextError}
use Rattle.config_text.specs.Fields.{text_code}
use Rattle.config_text.specs.Reading.{config_of}
use Rattle.script_text.specs.declared.Script.{Script}
use Rattle.script_text.specs.Reading.{Plan, Refusal, plan_of, script_of}
use Rattle.command_steps.specs.Ends.{Outcome, too_long, refused_script, refused_config, not_read}
use Rattle.script_text.specs.declared.TheConstants.{MOST_SCRIPT_BYTES}
use Rattle.built_in_tables.specs.Tables.{c4}
use Rattle.command_steps.specs.declared.files.TheConstants.{MOST_FILE_BYTES}
use Rattle.command_steps.specs.Known.{Known, Untold, Ending, Given, ◌>>=◌}

-- the most bytes of a configuration file, and of a script
abbrev pub file_limit : ℕ
file_limit = MOST_FILE_BYTES

abbrev pub script_limit : ℕ
script_limit = MOST_SCRIPT_BYTES

-- ---- a file

abbrev pub by_code : Option ℕ → Outcome
by_code (Some code) = refused_config code
by_code None = not_read

abbrev pub table_or : Result TableValue TextError → Known TableValue
table_or (Ok table) = Given table
table_or (Err error) = Ending (by_code (text_code error))

-- the table of a file's bytes
unfoldable pub table_of_file : List ℕ → Known TableValue
table_of_file bytes = if nat_lt file_limit (length bytes) then Ending too_long else table_or (config_of bytes)

abbrev pub table_if_there : Option (List ℕ) → Known TableValue
table_if_there None = Ending not_read
table_if_there (Some bytes) = table_of_file bytes

-- the table of the file of this name
abbrev pub table_named : Option (List NamedBytes) → List ℕ → Known TableValue
table_named None name = Untold
table_named (Some files) name = table_if_there (bytes_of files name)

-- ---- a script, or a trace

-- the bytes of a source, if they are no more than a script may have
unfoldable pub bytes_within : List ℕ → Known (List ℕ)
bytes_within bytes = if nat_lt script_limit (length bytes) then Ending too_long else Given bytes

abbrev pub bytes_told : Option (List ℕ) → Known (List ℕ)
bytes_told None = Untold
bytes_told (Some bytes) = bytes_within bytes

abbrev pub plan_or : Result Plan Refusal → Known Plan
plan_or (Ok plan) = Given plan
plan_or (Err r) = Ending (refused_script r.line r.code)

-- the script of a source's bytes, for n elements
abbrev pub plan_of_bytes : ℕ → List ℕ → Known Plan
plan_of_bytes n bytes = plan_or (script_of n bytes)

abbrev pub plan_told : ℕ → Option (List ℕ) → Known Plan
plan_told n left = bytes_told left >>= plan_of_bytes n

-- ---- a run

-- a table, and a script that is played on it
pub record Run : Type 0 where
  pub table : TableValue
  pub plan : Plan

-- the table that is used: without the name of a file the built-in one of four elements
abbrev pub table_for : Option (List NamedBytes) → Option (List ℕ) → Known TableValue
table_for files None = Given c4
table_for files (Some name) = table_named files name

-- the element of a number among n
abbrev pub element_in : ℕ → ℕ → Known ℕ
element_in n number = if nat_lt number n then Given number else Ending (refused_config 18)

-- the same table, where the element that is named, if one is, is one of its elements
abbrev pub if_has : Option ℕ → TableValue → Known TableValue
if_has None table = Given table
if_has (Some number) table = element_in table.n number >>= λ ne. Given table

-- the table of a command that names an element, or none
abbrev pub table_with : Option (List NamedBytes) → Option ℕ → Option (List ℕ) → Known TableValue
table_with files named config = table_for files config >>= if_has named

-- with the script of the source's bytes
abbrev pub run_on : Option (List ℕ) → TableValue → Known Run
run_on left table = plan_told table.n left >>= λ plan. Given (record { table = table; plan = plan })

abbrev pub run_for : Option (List NamedBytes) → Option (List ℕ) → Option (List ℕ) → Known Run
run_for files left config = table_for files config >>= run_on left

-- the file that is named is longer than a file may be
abbrev pub IsLongFile : Option (List NamedBytes) → Option (List ℕ) → Type 0
IsLongFile files None = ⊥
IsLongFile files (Some name) = IsLonger files name file_limit

-- a table and a script as they are loaded
abbrev pub loaded : TableValue × Script → Run
loaded parts = record { table = parts.0; plan = plan_of parts.1 }
