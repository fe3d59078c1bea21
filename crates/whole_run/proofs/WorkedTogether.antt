-- A run that meets the premises of the laws of each cycle and of all elements together, and these laws used on it.
use Rattle.std.proofs.Common.{ℕ, ◌<◌, [], ◌∷◌, arith}
use Rattle.packet_format.specs.declared.acts.Act.TheVariants.{Post}
use Rattle.element_core.specs.Cycle.{Input, start, step}
use Rattle.element_core.specs.Alone.{IsSound, part_of, before_rounds, HoldsItsPart}
use Rattle.whole_run.specs.Laws.{IsLawfulCycle}
use Rattle.element_core.specs.Together.{Carried, IsCarried, frames_by, heard_of, said_to}
use Rattle.whole_run.proofs.RunsLawful.{each_cycle_lawful}
use Rattle.element_core.proofs.SentTaken.{some_is_carried}
use Rattle.element_core.proofs.Sound.{start_sound}
use Rattle.element_core.proofs.Together.{together}
use Rattle.element_core.proofs.WorkedParts.{proc, four_elements, four_elements_valid, packet_41, to_three}
use Rattle.whole_run.proofs.WorkedSkew.{beside, late_second, in_shape}

-- the first cycle
abbrev first : Input
first = beside (Post (proc 0 1) to_three packet_41 ∷ [])

-- its third cycle is lawful
pub third_lawful : IsLawfulCycle four_elements late_second 2
third_lawful = each_cycle_lawful four_elements late_second 2 four_elements_valid in_shape (omega arith)

-- its start is sound
begins_sound : IsSound (start four_elements)
begins_sound = start_sound four_elements four_elements_valid

-- an honest fabric carries what the elements make in the first cycle
pub carried_first : (carried : Carried) × IsCarried 4 (frames_by (part_of (before_rounds (start four_elements) first)) 4 carried) first carried
carried_first = some_is_carried (start four_elements) first begins_sound in_shape.0

-- over it each element holds its part of that cycle
pub first_held : (me : ℕ) → me < 4
    → HoldsItsPart (step (start four_elements) first) (said_to carried_first.0 first.faulty me) me (part_of (before_rounds (start four_elements) first) me) (heard_of carried_first.0 4 me)
first_held me l = together (start four_elements) first carried_first.0 me begins_sound in_shape.0 carried_first.1 l
