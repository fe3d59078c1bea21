use Rattle.script_text.proofs.Playable.{read_plays}
use Rattle.script_text.proofs.laws.what_is_read_can_be_played.Goals as goal

pub returns : goal.returns
returns c = read_plays
