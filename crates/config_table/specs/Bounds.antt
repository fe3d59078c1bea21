-- What the type of a table gives: a group whose numbers are in their ranges, with processors that are there.
use Rattle.std.specs.Prelude.{ℕ, ◌<◌, ◌≤◌, length, All}
use Rattle.ftpp_base.specs.declared.element.Proc.{Proc}
use Rattle.ftpp_base.specs.declared.limits.TheConstants.{PORTS}
use Rattle.config_table.specs.declared.limits.TheConstants.{LONGEST_WAIT, MOST_SLOTS}
use Rattle.config_table.specs.declared.groups.Group.{Group}
use Rattle.config_table.specs.Groups.{members_of, live_count}

-- A processor that is there among n elements of eight ports.
pub record InRange (n : ℕ) (p : Proc) : Type 0 where
  pub ne : p.ne < n
  pub port : p.port < PORTS

-- A group of a valid table for n elements.
pub record IsBounded (n : ℕ) (g : Group) : Type 0 where
  pub vid_low : 1 ≤ g.vid
  pub vid_high : g.vid ≤ 254
  pub some_member : 1 ≤ length (members_of g)
  pub few_members : length (members_of g) ≤ 4
  pub members : All (InRange n) (members_of g)
  pub masked : g.masked.bits < 16
  pub some_live : 1 ≤ live_count g
  pub ts_low : 1 ≤ g.ts
  pub ts_high : g.ts ≤ LONGEST_WAIT
  pub tr_low : 1 ≤ g.tr
  pub tr_high : g.tr ≤ LONGEST_WAIT
  pub tx_high : g.tx ≤ LONGEST_WAIT
  pub outs_low : 1 ≤ g.outs
  pub outs_high : g.outs ≤ MOST_SLOTS
  pub ins_low : 1 ≤ g.ins
  pub ins_high : g.ins ≤ MOST_SLOTS
