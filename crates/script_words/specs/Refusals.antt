-- The number of each test that a line of a script can fail.
use Rattle.std.specs.Prelude.{ℕ}
use Rattle.script_words.specs.declared.refusals.Refused.{Refused}
use Rattle.script_words.specs.declared.refusals.Refused.TheVariants.{NoForm, CyclesLine, Number, Cycle, Processor, Bytes, FaultyLine, RoundOrReceiver, TooManyActs, NoCycles, Rejoin}

abbrev pub refused_code : Refused → ℕ
refused_code NoForm = 1
refused_code CyclesLine = 2
refused_code Number = 3
refused_code Cycle = 4
refused_code Processor = 5
refused_code Bytes = 6
refused_code FaultyLine = 7
refused_code RoundOrReceiver = 8
refused_code TooManyActs = 9
refused_code NoCycles = 10
refused_code Rejoin = 15
