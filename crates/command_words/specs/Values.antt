-- Commands without where their words lie in memory.
use Rattle.std.specs.Prelude.{◌+◌, ◌^◌, ◌<◌, ◌≤◌, option_copied}
use Rattle.ftpp_base.specs.declared.limits.TheConstants.{MOST_CYCLES}
use Rattle.command_words.specs.declared.reading.TheConstants.{MOST_MADE, MOST_STARTS}
use Rattle.command_words.specs.declared.commands.Command.{Command}
use Rattle.command_words.specs.declared.commands.Command.TheVariants as C
use Rattle.command_words.specs.Commands.{CommandValue, Run, Trace, Check, Migrate, Soak, Sweep, Make, Node, Audit, Diagnose}

abbrev pub command_value : Command → CommandValue
command_value (C.Run config) = Run (option_copied config)
command_value (C.Trace config) = Trace (option_copied config)
command_value (C.Check config) = Check config.now
command_value (C.Migrate config) = Migrate config.now
command_value (C.Soak start cycles) = Soak start cycles
command_value (C.Sweep start count cycles) = Sweep start count cycles
command_value (C.Make start cycles) = Make start cycles
command_value (C.Node element cycles config) = Node element cycles (option_copied config)
command_value (C.Audit named config) = Audit named (option_copied config)
command_value (C.Diagnose config) = Diagnose (option_copied config)

-- its numbers are in their ranges
abbrev pub IsInRange : Command → Type 0
IsInRange (C.Run config) = Unit {0}
IsInRange (C.Trace config) = Unit {0}
IsInRange (C.Check config) = Unit {0}
IsInRange (C.Migrate config) = Unit {0}
IsInRange (C.Soak start cycles) = (1 ≤ cycles) × (cycles ≤ MOST_CYCLES)
IsInRange (C.Sweep start count cycles) = (start + count ≤ 2 ^ 64) × (1 ≤ count) × (count ≤ MOST_STARTS) × (1 ≤ cycles) × (cycles ≤ MOST_CYCLES)
IsInRange (C.Make start cycles) = (1 ≤ cycles) × (cycles ≤ MOST_MADE)
IsInRange (C.Node element cycles config) = (element < 5) × (1 ≤ cycles) × (cycles ≤ MOST_CYCLES)
IsInRange (C.Audit named config) = Unit {0}
IsInRange (C.Diagnose config) = Unit {0}
