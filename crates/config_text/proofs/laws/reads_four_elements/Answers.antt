use Rattle.config_text.proofs.Literals.{four_read}
use Rattle.config_text.proofs.laws.reads_four_elements.Goals as goal

pub returns : goal.returns
returns c = four_read
