-- The lines, piece after piece.
use Rattle.std.proofs.Common.{◌≡◌, ℕ, List, ◌++◌, length, append_assoc}
use Rattle.std.specs.Prelude.{codes}
use Rattle.std.specs.Fmt.{decimal}
use Rattle.config_table.specs.Table.{TableValue}
use Rattle.command_steps.specs.Lines.{script_line, config_line, valid_line}

pub script_pieces : (text : List ℕ) (line code : ℕ) → text ++ script_line line code ≡ text ++ codes "script " ++ decimal line ++ codes " " ++ decimal code ++ codes "\n"
unfolding script_line
script_pieces text line code = simp append_assoc

pub config_pieces : (text : List ℕ) (code : ℕ) → text ++ config_line code ≡ text ++ codes "config " ++ decimal code ++ codes "\n"
unfolding config_line
config_pieces text code = simp append_assoc

pub valid_pieces : (text : List ℕ) (table : TableValue) → text ++ valid_line table ≡ text ++ codes "valid elements " ++ decimal table.n ++ codes " groups " ++ decimal (length table.groups) ++ codes " manager " ++ decimal table.manager ++ codes "\n"
unfolding valid_line
valid_pieces text table = simp append_assoc
