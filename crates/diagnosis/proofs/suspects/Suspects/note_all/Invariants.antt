use Rattle.std.proofs.Common.{◌≡◌, filter, take}
use Rattle.diagnosis.specs.Suspects.{is_suspect}
use Rattle.diagnosis.proofs.suspects.Suspects.note_all.Given as goal

abbrev pub invariant-loop-s : goal.invariant-loop-s
invariant-loop-s l = l.self ≡ filter (is_suspect (take l.s-index l.noted)) l.initial.self
