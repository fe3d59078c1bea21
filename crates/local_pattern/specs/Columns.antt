-- The patterns of all elements together.
use Rattle.std.specs.Prelude.{Bool, List}
use Rattle.ftpp_base.specs.declared.element.Proc.{Proc}
use Rattle.local_pattern.specs.declared.Entry.{Entry}
use Rattle.local_pattern.specs.Pattern.{entry_of}

-- the agreed pattern: the columns of the elements, each with an entry for each port
abbrev pub Pattern : Type 0
Pattern = List (List Entry)

-- whether a member says not full
abbrev pub has_space : Pattern → Proc → Bool
has_space pattern proc = (entry_of pattern proc).not_full
