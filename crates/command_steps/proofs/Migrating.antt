-- The law of migration.
use Rattle.std.proofs.Common.{refl, ap, sym, ◌∙◌, Some, None}
use Rattle.config_text.specs.Reading.{config_of}
use Rattle.command_steps.specs.Migrating.{MigratesToSame}

pub migrates : MigratesToSame
migrates bytes table None e (text, prints, added) = absurd added
migrates bytes table (Some written) e (text, prints, added) = (written, refl, ap config_of added ∙ (prints.1 ∙ sym e))
