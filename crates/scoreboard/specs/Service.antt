-- How long a request can wait that is voted in each cycle, while its receiver takes packets.
use Rattle.std.specs.Prelude.{◌≡◌, ◌≢◌, ℕ, suc, ◌+◌, ◌*◌, ◌<◌, ◌≤◌, Bool, true, false, ◌==◌, List, length, Option, Some, None, option_map, unwrap_or, Contains, if◌then◌else◌}
use Rattle.ftpp_base.specs.Lists.{is_this}
use Rattle.ftpp_base.specs.Sets.{has}
use Rattle.ftpp_base.specs.declared.element.Proc.{Proc}
use Rattle.packet_format.specs.declared.Descriptor.{Descriptor}
use Rattle.config_table.specs.declared.groups.Group.{Group}
use Rattle.config_table.specs.declared.decisions.GroupFlags.{GroupFlags}
use Rattle.config_table.specs.declared.decisions.Decision.{Decision}
use Rattle.config_table.specs.declared.decisions.Decision.TheVariants.{Idle, Discard, Exchange}
use Rattle.config_table.specs.Groups.{live_seats}
use Rattle.config_table.specs.Table.{TableValue, IsValid, group_named}
use Rattle.scoreboard.specs.Board.{Scoreboard, Waiting, line_of, flags_named}
use Rattle.scoreboard.specs.Choice.{reason, scoreboard_decision, scoreboard_after}

-- whether a decision takes a request of a group
abbrev pub takes_of : ℕ → Decision → Bool
takes_of vid Idle = false
takes_of vid (Discard v desc number admitted waited) = v == vid
takes_of vid (Exchange service) = service.vid == vid

-- whether a decision serves that request of that group
abbrev pub Serves : Decision → ℕ → Descriptor → Type 0
Serves Idle vid desc = ⊥
Serves (Discard v d number admitted waited) vid desc = ⊥
Serves (Exchange service) vid desc = (service.vid ≡ vid) × (service.desc ≡ desc)

-- how many cycles a request can wait: the timeout of its sender, and for each group a cycle and the lag timeout of its receiver
abbrev pub longest_wait : TableValue → Group → Descriptor → ℕ
longest_wait table sender desc =
    if desc.class == 3
    then sender.ts + length table.groups
    else sender.ts + length table.groups * (unwrap_or (option_map (λ g. g.tr) (group_named table desc.dest)) 0 + 1)

-- A group has most space, and only live members at one element may say full.
pub record TakesBut (faulty : Option ℕ) (g : Group) (one : GroupFlags) : Type 0 where
  pub most : one.most_space ≡ true
  pub others : (seat : ℕ × Proc) → Contains (live_seats g) seat → is_this faulty seat.1.ne ≡ false → has one.space seat.1.ne ≡ true

-- In one pattern a request is the voted one of its group, and its receiver takes but at one element. Class 3 has no receiver.
pub record IsAsked (table : TableValue) (g : Group) (desc : Descriptor) (faulty : Option ℕ) (flags : List GroupFlags) : Type 0 where
  pub voted : (one : GroupFlags) × (flags_named flags g.vid ≡ Some one) × (one.desc ≡ Some desc)
  pub room : desc.class ≢ 3 → (d : Group) → group_named table desc.dest ≡ Some d → (one : GroupFlags) × (flags_named flags desc.dest ≡ Some one) × TakesBut faulty d one

-- no cycle of some has taken a request of the group
abbrev pub IsUntaken : (ℕ → Decision) → ℕ → ℕ → ℕ → Type 0
IsUntaken decision vid from upto = (k : ℕ) → from ≤ k → k < upto → takes_of vid (decision k) ≡ false

-- A request is asked for in each cycle until its group is taken, each decision is that of the scoreboard, and each scoreboard is that after the cycle before.
pub record AwaitsFrom (table : TableValue) (g : Group) (desc : Descriptor) (faulty : Option ℕ) (from : ℕ) (flags : ℕ → List GroupFlags) (board : ℕ → Scoreboard) (decision : ℕ → Decision) : Type 0 where
  pub asked : (k : ℕ) → from ≤ k → k < from + longest_wait table g desc → IsUntaken decision g.vid from k → IsAsked table g desc faulty (flags k)
  pub decides : (k : ℕ) → from ≤ k → k < from + longest_wait table g desc → IsUntaken decision g.vid from k → decision k ≡ scoreboard_decision table k (flags k) (board k)
  pub follows : (k : ℕ) → from ≤ k → suc k < from + longest_wait table g desc → IsUntaken decision g.vid from (suc k) → board (suc k) ≡ scoreboard_after table k (flags k) (board k)

-- A lawful request that is awaited is served within its longest wait, if it did not wait since a later cycle.
abbrev pub ServedInTime : Type 0
ServedInTime = (table : TableValue) (g : Group) (desc : Descriptor) (faulty : Option ℕ) (from : ℕ) (flags : ℕ → List GroupFlags) (board : ℕ → Scoreboard) (decision : ℕ → Decision)
    → IsValid table
    → group_named table g.vid ≡ Some g
    → reason table g desc ≡ None
    → ((w : Waiting) → (line_of (board from) g.vid).request ≡ Some w → w.1 ≤ from)
    → AwaitsFrom table g desc faulty from flags board decision
    → (k : ℕ) × (from ≤ k) × (k < from + longest_wait table g desc) × Serves (decision k) g.vid desc
