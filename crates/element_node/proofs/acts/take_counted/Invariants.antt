use Rattle.std.proofs.Common.{◌≡◌, ℕ, ◌≤◌, ◌-◌, List, Option, [], length}
use Rattle.std.specs.List.{All}
use Rattle.element_node.specs.Progress.{Between}
use Rattle.element_node.specs.Input.{IsOwnAct, read_acts_from}
use Rattle.element_node.proofs.acts.take_counted.Given as goal

abbrev pub invariant-loop : goal.invariant-loop
invariant-loop g l =
    (length l.acts.items ≡ l.counter)
    × All (IsOwnAct l.me) l.acts.items
    × ((w : Option (List ℕ)) → Between (read_acts_from l.me l.count []) (read_acts_from l.me (l.count - l.counter) l.acts.items) (g.S.Source.left l.fn.input) (g.S.Source.left l.input) w w)
    × (g.S.Source.faults l.fn.input ≤ g.S.Source.faults l.input)
