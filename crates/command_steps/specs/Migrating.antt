-- What `check`, `migrate` and `make` write, and the law of migration.
use Rattle.std.specs.Prelude.{◌≡◌, List, ℕ, [], Ok, Option, Some}
use Rattle.config_table.specs.Table.{TableValue}
use Rattle.config_text.specs.Reading.{config_of}
use Rattle.script_text.specs.Reading.{Plan}
use Rattle.script_text.specs.Printing.{text_of, canonical}
use Rattle.command_steps.specs.declared.status.Status.{Status}
use Rattle.command_steps.specs.declared.status.Status.TheVariants.{Done, Usage, Script, Config, Read, Write, Memory, TooLong, Stream}
use Rattle.command_steps.specs.Ends.{Outcome, Exactly, WithTable, Writes, done_with}
use Rattle.command_steps.specs.Lines.{valid_line}

abbrev pub checked : TableValue → Outcome
checked table = done_with (WithTable (valid_line table) table)

abbrev pub migrated : TableValue → Outcome
migrated table = done_with (WithTable [] table)

abbrev pub made : Plan → Outcome
made plan = done_with (Exactly (text_of (canonical plan)))

-- A file and what `migrate` writes of it read to one table.
abbrev pub MigratesToSame : Type 0
MigratesToSame = (bytes : List ℕ) (table : TableValue) (new : Option (List ℕ)) → config_of bytes ≡ Ok table → Writes (migrated table).output (Some []) new
    → (written : List ℕ) × (new ≡ Some written) × (config_of written ≡ config_of bytes)

-- what comes where the output is all that is left to do
abbrev pub IsOfOutput : Status → Type 0
IsOfOutput Done = Unit {0}
IsOfOutput Write = Unit {0}
IsOfOutput Memory = Unit {0}
IsOfOutput Read = ⊥
IsOfOutput Usage = ⊥
IsOfOutput TooLong = ⊥
IsOfOutput (Script line code) = ⊥
IsOfOutput (Config code) = ⊥
IsOfOutput (Stream cycle code) = ⊥
