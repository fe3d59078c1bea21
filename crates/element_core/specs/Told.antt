-- What the record of a cycle tells, and what an element tells of a cycle of the run.
use Rattle.std.specs.Prelude.{ℕ}
use Rattle.ftpp_base.specs.Lists.{cell_at}
use Rattle.element_core.specs.declared.records.CycleRecord.{CycleRecord}
use Rattle.element_core.specs.ElementValue.{CycleTold}
use Rattle.element_core.specs.Cycle.{Shown}
use Rattle.element_core.specs.Syndromes.{Relays, syndromes_at}

abbrev pub told_of : {n : ℕ} → CycleRecord n → CycleTold
told_of r = record {
  cycle = r.cycle;
  pattern = r.pattern;
  decision = r.decision;
  packet = r.packet;
  handed = r.handed;
  update = r.update;
  syndromes = r.syndromes.items;
}

-- what an element tells of a cycle that showed this, where it was told this by the faulty one
abbrev pub told_at : Shown → Relays → ℕ → CycleTold
told_at shown said me = record {
  cycle = shown.cycle;
  pattern = shown.pattern;
  decision = shown.decision;
  packet = cell_at shown.entries me;
  handed = cell_at shown.handed me;
  update = shown.update;
  syndromes = syndromes_at shown said me;
}
