-- The laws over whole runs, of a cluster: its journal is that of a run, so they speak of its cycles.
use Rattle.std.specs.Prelude.{ℕ, ◌<◌, length, Option}
use Rattle.config_table.specs.declared.groups.Group.{Group}
use Rattle.element_core.specs.Run.{IsJournal}
use Rattle.element_core.specs.Premises.{IsSkewAlike}
use Rattle.element_core.specs.Claims.{ServiceBound, NothingLost}
use Rattle.whole_run.specs.Laws.{IsLawfulCycle}
use Rattle.whole_run.specs.LogOrder.{HandsLogInOrder}
use Rattle.cluster.specs.ClusterValue.{ClusterValue}

-- Each of its cycles is lawful: what fault-free elements note is accurate, entries are equal unless split and unchanged where held alike,
-- and overruns come only at full inputs. A request that is held alike is served within its longest wait, while its receiver keeps
-- space. A group whose members post alike loses nothing. It hands its members the log in order.
pub record IsLawfulCluster (c : ClusterValue) : Type 0 where
  pub cycles : (k : ℕ) → k < length c.journal → IsLawfulCycle c.first c.journal k
  pub served : ServiceBound c.first c.journal
  pub kept : (faulty : Option ℕ) (g : Group) → IsJournal faulty c.journal → IsSkewAlike c.first c.journal faulty g → NothingLost c.first c.journal faulty g
  pub ordered : HandsLogInOrder c.first c.journal
