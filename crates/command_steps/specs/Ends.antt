-- How a call of `top` ends: its status, and what is written.
use Rattle.std.specs.Prelude.{◌≡◌, ℕ, ◌≤◌, ◌⊎◌, List, [], ◌++◌, take, length, codes, Option, Some, Ok}
use Rattle.ftpp_outside.specs.Told.{Adds}
use Rattle.config_table.specs.Table.{TableValue}
use Rattle.config_text.specs.Printing.{printed_table}
use Rattle.config_text.specs.Reading.{document_of, config_of}
use Rattle.command_steps.specs.declared.status.Status.{Status}
use Rattle.command_steps.specs.declared.status.Status.TheVariants.{Done, Usage, Script, Config, Read, Write, Memory, TooLong, Stream}
use Rattle.command_steps.specs.Lines.{script_line, config_line}

-- the exit of the program for each status
abbrev pub exit_of : Status → ℕ
exit_of Done = 0
exit_of Usage = 1
exit_of (Script line code) = 2
exit_of (Config code) = 3
exit_of Read = 4
exit_of Write = 5
exit_of Memory = 6
exit_of TooLong = 7
exit_of (Stream cycle code) = 8

-- a text of version 2, which reads as a table: its document is that of the table
abbrev pub Prints : List ℕ → TableValue → Type 0
Prints text table = (document_of text ≡ Some (printed_table table)) × (config_of text ≡ Ok table)

-- What a call may write: this text, a front and then the printed text of a table, or any text.
pub data Output : Type 0 where
  Exactly : List ℕ → Output
  WithTable : List ℕ → TableValue → Output
  Anything : Output

-- Some of the text was added, from its start.
abbrev pub AddsPrefix : Option (List ℕ) → List ℕ → Option (List ℕ) → Type 0
AddsPrefix old text new = (n : ℕ) × (n ≤ length text) × Adds old (take n text) new

-- Such a text was added, or some of one from its start.
abbrev pub Writes : Output → Option (List ℕ) → Option (List ℕ) → Type 0
Writes (Exactly text) old new = Adds old text new
Writes (WithTable front table) old new = (text : List ℕ) × Prints text table × Adds old (front ++ text) new
Writes Anything old new = Unit {0}

abbrev pub WritesPart : Output → Option (List ℕ) → Option (List ℕ) → Type 0
WritesPart (Exactly text) old new = AddsPrefix old text new
WritesPart (WithTable front table) old new = (text : List ℕ) × Prints text table × AddsPrefix old (front ++ text) new
WritesPart Anything old new = Unit {0}

-- How a call ends where nothing fails.
pub record Outcome : Type 0 where
  pub status : Status
  pub output : Output

abbrev pub done_with : Output → Outcome
done_with output = record { status = Done; output = output }

abbrev pub not_lawful : Outcome
not_lawful = record { status = Usage; output = Exactly (codes "usage\n") }

abbrev pub too_long : Outcome
too_long = record { status = TooLong; output = Exactly (codes "too long\n") }

abbrev pub refused_script : ℕ → ℕ → Outcome
refused_script line code = record { status = Script line code; output = Exactly (script_line line code) }

abbrev pub refused_config : ℕ → Outcome
refused_config code = record { status = Config code; output = Exactly (config_line code) }

-- a file that is not there
abbrev pub not_read : Outcome
not_read = record { status = Read; output = Exactly [] }

-- What is answered and what is written, where this was to be the outcome: that outcome, or a fault or want of memory.
abbrev pub Ends : Outcome → Status → Option (List ℕ) → Option (List ℕ) → Type 0
Ends o Read old new = new ≡ old
Ends o Memory old new = new ≡ old
Ends o Write old new = WritesPart o.output old new
Ends o Done old new = (o.status ≡ Done) × Writes o.output old new
Ends o Usage old new = (o.status ≡ Usage) × Writes o.output old new
Ends o TooLong old new = (o.status ≡ TooLong) × Writes o.output old new
Ends o (Script line code) old new = (o.status ≡ Script line code) × Writes o.output old new
Ends o (Config code) old new = (o.status ≡ Config code) × Writes o.output old new
Ends o (Stream cycle code) old new = (o.status ≡ Stream cycle code) × Writes o.output old new

-- what comes where a refusal with this status is to be written
abbrev pub IsOr : Status → Status → Type 0
IsOr wanted status = (status ≡ wanted) ⊎ (status ≡ Write)
