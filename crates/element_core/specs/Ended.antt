-- What an element tells of a cycle as it ends.
use Rattle.std.specs.Prelude.{ℕ, List}
use Rattle.syndrome_log.specs.declared.Syndrome.{Syndrome}
use Rattle.element_core.specs.declared.ending.Ended.{Ended}
use Rattle.element_core.specs.declared.pending.Pending.{Pending}
use Rattle.element_core.specs.ElementValue.{CycleTold}

-- the record of a cycle, with these notes
abbrev pub told_in : {n : ℕ} → Pending n → Ended → List Syndrome → CycleTold
told_in pending ended notes = record {
  cycle = ended.cycle;
  pattern = pending.pattern;
  decision = pending.decision;
  packet = ended.packet;
  handed = ended.handed;
  update = ended.update;
  syndromes = notes;
}
