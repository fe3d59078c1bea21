use Rattle.script_text.proofs.InTurn.{playable_is_script}
use Rattle.script_text.proofs.laws.what_can_be_played_is_a_script.Goals as goal

pub returns : goal.returns
returns c = playable_is_script
