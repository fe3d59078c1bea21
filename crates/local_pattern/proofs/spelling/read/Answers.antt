use Rattle.std.proofs.Common.{sym, refl}
use Rattle.local_pattern.proofs.Entries.{read_entry-shown, read_entry-none}
use Rattle.local_pattern.proofs.spelling.read.Goals as goal

pub returns-in-Some : goal.returns-in-Some
returns-in-Some c = sym (read_entry-shown _ c.in-Some.entry c.in-Some.ensures.found.0 c.in-Some.ensures.found.1)

pub returns-in-None : goal.returns-in-None
returns-in-None c = sym (read_entry-none _ (c.in-None.ensures.only refl))
