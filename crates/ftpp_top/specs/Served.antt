-- What `node` reads and writes: the node stream of one element.
use Rattle.std.specs.Prelude.{◌≡◌, ℕ, List, Option}
use Rattle.config_table.specs.Table.{TableValue}
use Rattle.element_node.specs.declared.NodeEnd.{NodeEnd}
use Rattle.element_node.specs.declared.NodeEnd.TheVariants as end
use Rattle.element_node.specs.Node.{node}
use Rattle.element_node.specs.Progress.{Serves}
use Rattle.command_steps.specs.declared.status.Status.{Status}
use Rattle.command_steps.specs.declared.status.Status.TheVariants.{Done, Usage, Script, Config, Read, Write, Memory, TooLong, Stream}
use Rattle.command_steps.specs.Ends.{Ends}
use Rattle.command_steps.specs.Known.{Known, Untold, Ending, Given}

-- one of a table's elements, for so many cycles
pub record NodeRun : Type 0 where
  pub table : TableValue
  pub element : ℕ
  pub cycles : ℕ

-- the end of a node is the status of the call
abbrev pub status_of : NodeEnd → Status
status_of end.Done = Done
status_of (end.Stream cycle code) = Stream cycle code
status_of end.Read = Read
status_of end.Write = Write
status_of end.Memory = Memory

-- The node promise: what was read, and what was written, fit the end. Done read a whole input and wrote the node text of it; with Memory
-- nothing was read or written; every other end wrote a front of the node text of what was read, Stream and Read all of it.
abbrev pub ServesNode : NodeRun → Status → Option (List ℕ) → Option (List ℕ) → Option (List ℕ) → Option (List ℕ) → Type 0
ServesNode r status left left_after written written_after =
    (ended : NodeEnd) × (status ≡ status_of ended) × Serves (node r.element r.table r.cycles) r.cycles ended left left_after written written_after

-- where it is known which element runs on which table
abbrev pub Served : Known NodeRun → Status → Option (List ℕ) → Option (List ℕ) → Option (List ℕ) → Option (List ℕ) → Type 0
Served Untold status left left_after written written_after = Unit {0}
Served (Ending o) status left left_after written written_after = Ends o status written written_after
Served (Given r) status left left_after written written_after = ServesNode r status left left_after written written_after

-- what a node ends with
abbrev pub IsOfNode : Status → Type 0
IsOfNode Done = Unit {0}
IsOfNode Read = Unit {0}
IsOfNode Write = Unit {0}
IsOfNode Memory = Unit {0}
IsOfNode (Stream cycle code) = Unit {0}
IsOfNode Usage = ⊥
IsOfNode TooLong = ⊥
IsOfNode (Script line code) = ⊥
IsOfNode (Config code) = ⊥
