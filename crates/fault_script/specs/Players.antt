-- What a player tells.
use Rattle.std.specs.Prelude.{List}
use Rattle.ftpp_base.specs.declared.element.Round.{Round}
use Rattle.fault_script.specs.declared.Edit.{Edit}
use Rattle.fault_script.specs.declared.players.Player.{Player}
use Rattle.fault_script.specs.Kept.{KeptFrames}
use Rattle.fault_script.specs.Held.{kept_by_round}

abbrev pub edits_of : Player → List Edit
edits_of p = p.edits.now

abbrev pub kept_of : Player → Round → KeptFrames
kept_of p = kept_by_round p.kept
