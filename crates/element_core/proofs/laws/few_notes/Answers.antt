use Rattle.element_core.proofs.FewNotes.{few_notes}
use Rattle.element_core.proofs.laws.few_notes.Goals as goal

pub returns : goal.returns
returns c = few_notes
