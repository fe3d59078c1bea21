-- The built-in table of four elements, as a user writes it and as a value.
use Rattle.std.specs.Prelude.{ℕ, List, [], ◌∷◌, codes}
use Rattle.ftpp_base.specs.declared.element.Proc.{Proc}
use Rattle.config_table.specs.Groups.{usual_group}
use Rattle.config_table.specs.Table.{TableValue}

-- the processor at an element and a port
abbrev proc : ℕ → ℕ → Proc
proc ne port = record { ne = ne; port = port }

-- the file
abbrev pub four_text : List ℕ
four_text = codes "# four elements\nversion = 1\nelements = 4\nmanager = 1\n\n[[group]]\nvid = 1\nmembers = [\"0.0\", \"1.0\", \"2.0\", \"3.0\"]\nts = 3\ntr = 2\n\n[[group]]\nvid = 2\nmembers = [\"0.1\", \"1.1\", \"2.1\"]\nts = 3\ntr = 2\n\n[[group]]\nvid = 3\nmembers = [\"1.2\", \"2.2\", \"3.2\"]\nts = 3\ntr = 2\n\n[[group]]\nvid = 4\nmembers = [\"3.1\"]\nts = 3\ntr = 2\n\n[[group]]\nvid = 5\nmembers = [\"0.3\"]\nts = 3\ntr = 2\nmasked = []\n"

-- the table
abbrev pub four_table : TableValue
four_table = record { n = 4; manager = 1; groups = usual_group 1 (proc 0 0 ∷ proc 1 0 ∷ proc 2 0 ∷ proc 3 0 ∷ []) ∷ usual_group 2 (proc 0 1 ∷ proc 1 1 ∷ proc 2 1 ∷ []) ∷ usual_group 3 (proc 1 2 ∷ proc 2 2 ∷ proc 3 2 ∷ []) ∷ usual_group 4 (proc 3 1 ∷ []) ∷ usual_group 5 (proc 0 3 ∷ []) ∷ [] }
