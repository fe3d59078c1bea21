-- What one step of a run leaves, and what stands at the beginning of each cycle.
use Rattle.std.proofs.Common.{◌≡◌, ℕ, suc, zero, ◌+◌, ◌≤◌, Bool, true, false, cond, List, [], ◌∷◌, length, refl, ap, map, sym, ◌∙◌, arith, subst}
use Rattle.std.specs.Prelude.{Option, Some, None, find, unwrap_or, is_none}
use Rattle.std.specs.List.{AllByRecursion}
use Rattle.ftpp_base.proofs.Items.{item_all, find_item}
use Rattle.packet_format.specs.declared.Descriptor.{Descriptor}
use Rattle.packet_format.specs.Packets.{same_descriptor}
use Rattle.config_table.specs.declared.groups.Group.{Group}
use Rattle.config_table.specs.declared.decisions.GroupFlags.{GroupFlags}
use Rattle.config_table.specs.declared.decisions.StateRow.{StateRow}
use Rattle.config_table.specs.declared.errors.ConfigError.{ConfigError}
use Rattle.config_table.specs.declared.decisions.Decision.{Decision}
use Rattle.config_table.specs.declared.decisions.Decision.TheVariants.{Idle, Discard, Exchange}
use Rattle.config_table.specs.Table.{TableValue, IsValid, table_error}
use Rattle.flag_vote.specs.Flags.{voted_flags}
use Rattle.scoreboard.specs.Board.{Scoreboard, Waiting, blank_line, line_of, is_line_of, line_after, marked, marked_line, request_after, flags_named, ended, without_request, updated_line, after_update}
use Rattle.scoreboard.specs.Choice.{scoreboard_decision, scoreboard_after, after_decision}
use Rattle.table_update.specs.declared.Update.{Update}
use Rattle.table_update.specs.declared.Applied.{Applied}
use Rattle.table_update.specs.declared.Applied.TheVariants.{Done, Refused, Absent}
use Rattle.table_update.specs.Updates.{applied, updated, if_valid, table_after, named_group}
use Rattle.element_core.specs.Processors.{emptied_at, after_acts}
use Rattle.element_core.specs.Cycle.{State, Input, start, step, shown_by, served, after_rejoin, with_update, changed_by, group_changed, if_done, update_in, update_packet, pattern_round, agreed_pattern, after_service, after_deliveries}
use Rattle.element_core.specs.Run.{Journal, run, state_at, input_at}
use Rattle.element_core.proofs.RunLaws.{state_at-suc}
use Rattle.element_core.proofs.ShownFields.{shown-fields}

-- ---- an update that does not change

-- an update that is not done leaves the state
kept_by : (a : Applied) (update : Update) (s : State) (vid : ℕ) → if_done a vid ≡ None → changed_by a update s ≡ s
kept_by (Done ports) update s vid e = cc
kept_by (Refused error) update s vid e = refl
kept_by Absent update s vid e = refl

-- where no group was changed the state stays
no_change : (o : Option Update) (s : State) → group_changed s.table o ≡ None → with_update o s ≡ s
no_change None s e = refl
no_change (Some update) s e = kept_by (applied s.table update) update s (named_group update) e

-- ---- what a cycle shows, by the state before it

-- What a cycle shows and, where no update changes the table, leaves.
pub record IsStep (s : State) (input : Input) : Type 0 where
  pub table : (step s input).shown.table ≡ s.table
  pub queues : (step s input).shown.queues ≡ after_acts s.table (emptied_at s.queues input.rejoined) input.acts
  pub patterns : (step s input).shown.patterns ≡ pattern_round s.table (step s input).shown.queues input
  pub pattern : (step s input).shown.pattern ≡ agreed_pattern s.table (pattern_round s.table (step s input).shown.queues input)
  pub decision : (step s input).shown.decision ≡ scoreboard_decision s.table s.cycle (voted_flags s.table (step s input).shown.pattern) s.scoreboard
  pub unchanged : (step s input).shown.changed ≡ None → (step s input).state ≡ served (after_rejoin s input.rejoined) (step s input).shown

-- each step is so
pub is_step : (s : State) (input : Input) → IsStep s input
unfolding step served
is_step s input =
    let f = shown-fields (after_rejoin s input.rejoined) input in
    record {
      table = f.table;
      queues = f.queues;
      patterns = f.patterns;
      pattern = f.pattern;
      decision = f.decision;
      unchanged = λ e. no_change (update_in (update_packet s.table (step s input).shown.decision (step s input).shown.packets)) (served (after_rejoin s input.rejoined) (step s input).shown) (sym f.changed ∙ e);
    }

-- What a cycle without a change leaves.
pub record Leaves (s : State) (input : Input) : Type 0 where
  pub table : (step s input).state.table ≡ s.table
  pub scoreboard : (step s input).state.scoreboard ≡ scoreboard_after s.table s.cycle (voted_flags s.table (step s input).shown.pattern) s.scoreboard
  pub queues : (step s input).state.queues
      ≡ after_deliveries s.table s.cycle (step s input).shown.decision (step s input).shown.entries (after_service s.table (step s input).shown.decision (step s input).shown.queues)

-- a cycle that changes no group leaves this
pub leaves : (s : State) (input : Input) → (step s input).shown.changed ≡ None → Leaves s input
unfolding served
leaves s input e =
    let same = (is_step s input).unchanged e in
    record {
      table = ap (λ x. x.table) same;
      scoreboard = ap (λ x. x.scoreboard) same;
      queues = ap (λ x. x.queues) same;
    }

-- ---- no request waits since a later cycle

-- whether a request waits since a cycle that is not later
abbrev pub IsOld : ℕ → Option Waiting → Type 0
IsOld now None = Unit {0}
IsOld now (Some w) = w.1 ≤ now

-- whether all requests of a scoreboard are old
abbrev pub AreOld : ℕ → Scoreboard → Type 0
AreOld now board = AllByRecursion (λ line. IsOld now line.request) board

-- the line that is found, or the blank one, is old
old_by : (now vid : ℕ) (board : Scoreboard) (o : Option StateRow) → find (is_line_of vid) board ≡ o → AreOld now board → IsOld now (unwrap_or o (blank_line vid)).request
old_by now vid board None e h = tt
old_by now vid board (Some line) e h = item_all (λ l. IsOld now l.request) board line h (find_item (is_line_of vid) board line e).0

-- the request of a group does not, either
pub old_line : (now vid : ℕ) (board : Scoreboard) → AreOld now board → IsOld now (line_of board vid).request
old_line now vid board h = old_by now vid board (find (is_line_of vid) board) refl h

-- what holds of all that is made
all_map : {A B : Type 0} (P : B → Type 0) (f : A → B) (xs : List A) → ((x : A) → P (f x)) → AllByRecursion P (map f xs)
all_map P f [] h = tt
all_map P f (x ∷ xs) h = (h x, all_map P f xs h)

-- what is kept as each is made
all_through : {A B : Type 0} (P : A → Type 0) (Q : B → Type 0) (f : A → B) (xs : List A) → ((x : A) → P x → Q (f x)) → AllByRecursion P xs → AllByRecursion Q (map f xs)
all_through P Q f [] h a = tt
all_through P Q f (x ∷ xs) h a = (h x a.0, all_through P Q f xs h a.1)

-- a request that goes on waiting, or begins now, is old
old_cond : (b : Bool) (now : ℕ) (desc : Descriptor) (m n : ℕ) (w : Waiting) → w.1 ≤ now → IsOld (now + 1) (Some (cond b (desc, w.1, m) (desc, now, n)))
old_cond true now desc m n w l = omega arith
old_cond false now desc m n w l = omega arith

-- a request is old after a pattern
old_request : (flags : List GroupFlags) (now : ℕ) (before : Option Waiting) (desc : Option Descriptor) → IsOld now before → IsOld (now + 1) (request_after flags now before desc)
old_request flags now before None h = tt
old_request flags now None (Some desc) h = omega arith
old_request flags now (Some w) (Some desc) h = old_cond (same_descriptor w.0 desc) now desc _ _ w h

-- so is that of a line
old_after : (flags : List GroupFlags) (now : ℕ) (g : Group) (line : StateRow) (one : Option GroupFlags) → IsOld now line.request → IsOld (now + 1) (line_after flags now g line one).request
old_after flags now g line None h = tt
old_after flags now g line (Some one) h = old_request flags now line.request one.desc h

-- and those of the scoreboard
old_marked : (table : TableValue) (flags : List GroupFlags) (now : ℕ) (board : Scoreboard) → AreOld now board → AreOld (now + 1) (marked table flags now board)
unfolding marked
old_marked table flags now board h =
    all_map (λ line. IsOld (now + 1) line.request) (marked_line flags now board) table.groups
    (λ g. old_after flags now g (line_of board g.vid) (flags_named flags g.vid) (old_line now g.vid board h))

-- a line that may lose its request stays old
old_ended : (b : Bool) (now : ℕ) (line : StateRow) → IsOld now line.request → IsOld now (cond b (record line { request = None }) line).request
old_ended true now line h = tt
old_ended false now line h = h

-- so does a scoreboard
old_without : (now vid : ℕ) (board : Scoreboard) → AreOld now board → AreOld now (without_request vid board)
old_without now vid board h =
    all_through (λ line. IsOld now line.request) (λ line. IsOld now line.request) (ended vid) board (λ line k. old_ended (is_line_of vid line) now line k) h

-- and after a decision
old_decision : (now : ℕ) (decision : Decision) (board : Scoreboard) → AreOld now board → AreOld now (after_decision decision board)
old_decision now Idle board h = h
old_decision now (Discard vid desc number admitted waited) board h = old_without now vid board h
old_decision now (Exchange service) board h = old_without now service.vid board h

-- a line that may be blank stays old
old_updated : (b : Bool) (now vid : ℕ) (line : StateRow) → IsOld now line.request → IsOld now (cond b (blank_line vid) line).request
old_updated true now vid line h = tt
old_updated false now vid line h = h

-- and a scoreboard after an update
old_update : (table : TableValue) (now vid : ℕ) (board : Scoreboard) → AreOld now board → AreOld now (after_update table vid board)
old_update table now vid board h =
    all_map (λ line. IsOld now line.request) (updated_line vid board) table.groups (λ g. old_updated _ now vid (line_of board g.vid) (old_line now g.vid board h))

-- ---- what stands in each state

-- A valid table, and no request that waits since a later cycle.
pub record IsDated (s : State) : Type 0 where
  pub valid : IsValid s.table
  pub old : AreOld s.cycle s.scoreboard

-- the new table is taken only where it is valid
valid_cond : (b : Bool) (old new : TableValue) → is_none (table_error new) ≡ b → IsValid old → IsValid (cond b new old)
valid_cond true old new e h = none_is (table_error new) e where
  none_is : (o : Option ConfigError) → is_none o ≡ true → o ≡ None
  none_is None f = refl
  none_is (Some x) f = cc
valid_cond false old new e h = h

-- a table stays valid after an update
pub valid_after : (old : TableValue) (o : Option TableValue) → IsValid old → IsValid (if_valid old o)
valid_after old None h = h
valid_after old (Some new) h = valid_cond (is_none (table_error new)) old new refl h

-- an update that is done or not leaves such a state
dated_by : (a : Applied) (update : Update) (s : State) → IsDated s → IsDated (changed_by a update s)
dated_by (Done ports) update s h = record {
  valid = valid_after s.table (updated s.table update) h.valid;
  old = old_update (table_after s.table update) s.cycle (named_group update) s.scoreboard h.old;
}
dated_by (Refused error) update s h = h
dated_by Absent update s h = h

-- so does an update that may be there
dated_update : (o : Option Update) (s : State) → IsDated s → IsDated (with_update o s)
dated_update None s h = h
dated_update (Some update) s h = dated_by (applied s.table update) update s h

-- and a step
pub dated_step : (s : State) (input : Input) → IsDated s → IsDated (step s input).state
unfolding step shown_by served
dated_step s input h =
    dated_update (update_in (update_packet s.table (step s input).shown.decision (step s input).shown.packets)) (served (after_rejoin s input.rejoined) (step s input).shown)
    (record {
      valid = h.valid;
      old = old_decision (s.cycle + 1) (scoreboard_decision s.table s.cycle (voted_flags s.table (step s input).shown.pattern) s.scoreboard) _
          (old_marked s.table (voted_flags s.table (step s input).shown.pattern) s.cycle s.scoreboard h.old);
    })

-- a scoreboard without requests is old
old_start : (gs : List Group) → AreOld 0 (map (λ g. blank_line g.vid) gs)
old_start gs = all_map (λ line. IsOld 0 line.request) (λ g. blank_line g.vid) gs (λ g. tt)

-- the first state is the start
state_at-zero : (table : TableValue) (journal : Journal) → state_at table journal 0 ≡ start table
unfolding run
state_at-zero table [] = refl
state_at-zero table (input ∷ journal) = refl

-- at the beginning of each cycle of a run from a valid table
pub dated_at : (table : TableValue) (journal : Journal) (k : ℕ) → IsValid table → k ≤ length journal → IsDated (state_at table journal k)
dated_at table journal zero valid l = subst IsDated (sym (state_at-zero table journal)) (record { valid = valid; old = old_start table.groups })
dated_at table journal (suc k) valid l =
    subst IsDated (sym (state_at-suc table journal k (omega arith))) (dated_step (state_at table journal k) (input_at journal k) (dated_at table journal k valid (omega arith)))
