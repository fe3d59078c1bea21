use Rattle.std.proofs.Common.{◌≡◌, drop, filter}
use Rattle.std.specs.List.{list_all, enumerate_from}
use Rattle.config_table.specs.Groups.{is_unmasked}
use Rattle.scoreboard.specs.Choice.{takes_at, all_take}
use Rattle.scoreboard.proofs.choice.all_take.Given as goal

-- each live member so far takes
abbrev pub invariant-loop-seat : goal.invariant-loop-seat
invariant-loop-seat l = list_all (takes_at l.group l.one l.line) (filter (is_unmasked l.group) (enumerate_from l.seat (drop l.seat l.members))) ≡ all_take l.group l.one l.line
