-- The kept frames of a player.
use Rattle.std.specs.Prelude.{Option, Some, None, if◌then◌else◌}
use Rattle.ftpp_base.specs.declared.element.Round.{Round}
use Rattle.ftpp_base.specs.declared.element.Round.TheVariants.{A1, A2, B1, B2}
use Rattle.fault_script.specs.Kept.{KeptFrame, KeptFrames}
use Rattle.fault_script.specs.declared.kept.OwnFrame.{OwnFrame}
use Rattle.fault_script.specs.declared.kept.RoundFrames.{RoundFrames}
use Rattle.fault_script.specs.declared.kept.KeptByRound.{KeptByRound}

abbrev pub kept_frame : OwnFrame → Option KeptFrame
kept_frame own = if own.held then Some (record { cycle = own.cycle; bytes = own.frame.items }) else None

abbrev pub kept_frames : RoundFrames → KeptFrames
kept_frames frames = record { now = kept_frame frames.current; before = kept_frame frames.earlier }

abbrev pub kept_by_round : KeptByRound → Round → KeptFrames
kept_by_round kept A1 = kept_frames kept.a1
kept_by_round kept A2 = kept_frames kept.a2
kept_by_round kept B1 = kept_frames kept.b1
kept_by_round kept B2 = kept_frames kept.b2
