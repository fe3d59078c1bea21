-- The workload of a number: a script for the built-in table of five elements.
use Rattle.std.specs.Prelude.{ℕ, zero, suc, ◌+◌, List, [], ◌++◌, Some}
use Rattle.std.specs.Option.{option_to_list}
use Rattle.packet_format.specs.declared.acts.Act.{Act}
use Rattle.fault_script.specs.declared.Edit.{Edit}
use Rattle.script_text.specs.Reading.{Plan}
use Rattle.built_in_tables.specs.Tables.{c5}
use Rattle.workload.specs.Draws.{pick, draws}
use Rattle.workload.specs.Acts.{acts_at}
use Rattle.workload.specs.Edits.{edit_of}

-- the acts of n cycles, from a cycle and a state of the stream on
unfoldable pub acts_from : ℕ → ℕ → ℕ → List (ℕ × Act)
acts_from c zero s = []
acts_from c (suc n) s = acts_at c5 c (draws s).0 ++ acts_from (c + 1) n (draws s).1

-- the edits of n cycles, where f is the faulty element
unfoldable pub edits_from : ℕ → ℕ → ℕ → ℕ → List Edit
edits_from f c zero s = []
edits_from f c (suc n) s = option_to_list (edit_of c f (draws s).0) ++ edits_from f (c + 1) n (draws s).1

-- the script: the faulty element is drawn first, then cycle by cycle what is drawn for it
abbrev pub workload_of : ℕ × ℕ → ℕ → Plan
workload_of first cycles = record {
  cycles = cycles;
  faulty = Some first.0;
  acts = acts_from 0 cycles first.1;
  edits = edits_from first.0 0 cycles first.1;
  rejoins = [];
}

unfoldable pub workload : ℕ → ℕ → Plan
workload start cycles = workload_of (pick 5 start) cycles
