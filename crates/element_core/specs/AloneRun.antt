-- One element over a whole run: it starts from its part of the table, and then takes only what is its own.
use Rattle.std.specs.Prelude.{◌≡◌, ℕ, ◌<◌, Bool, ◌==◌, List, [], ◌∷◌, filter, Some, if◌then◌else◌}
use Rattle.std.specs.List.{AllByRecursion, fold}
use Rattle.ftpp_base.specs.Lists.{is_this}
use Rattle.ftpp_base.specs.declared.element.Proc.{Proc}
use Rattle.packet_format.specs.declared.acts.Act.{Act}
use Rattle.packet_format.specs.declared.acts.Act.TheVariants.{Post, Read}
use Rattle.packet_format.specs.declared.acts.ActAnswer.{ActAnswer}
use Rattle.config_table.specs.Table.{TableValue, IsValid}
use Rattle.processor_buffers.specs.Queues.{Queues}
pub use Rattle.element_ports.specs.PortQueues.{own_act, own_answer}
use Rattle.element_core.specs.Processors.{empty_ports, ports_of}
use Rattle.element_core.specs.Cycle.{State, Input, start, after_rejoin, step}
use Rattle.element_core.specs.Run.{Journal, run}
use Rattle.element_core.specs.Syndromes.{Relays}
use Rattle.element_core.specs.Element.{Kept, Heard, made, kept_after}
use Rattle.element_core.specs.Alone.{IsSound, IsInput, AreRelays, Takes, HoldsItsPart, part_of, before_rounds}

-- What one element takes from outside in a cycle: whether it rejoined just before, the acts of its processors, and what it hears.
pub record OwnInput : Type 0 where
  pub rejoined : Bool
  pub acts : List Act
  pub heard : Heard

-- the processor that acts
abbrev pub actor : Act → Proc
actor (Post proc desc packet) = proc
actor (Read proc) = proc

-- whether an act is of a processor of an element, and those that are
abbrev pub is_act_at : ℕ → Act → Bool
is_act_at me act = (actor act).ne == me

abbrev pub acts_at : ℕ → List Act → List Act
acts_at me acts = filter (is_act_at me) acts

abbrev pub own_answers : TableValue → List Queues → List Act → List ActAnswer
own_answers table ports [] = []
own_answers table ports (act ∷ acts) = own_answer table ports act ∷ own_answers table (own_act table ports act) acts

-- of the answers to some acts, those to the acts at an element
abbrev pub answers_at : ℕ → List Act → List ActAnswer → List ActAnswer
answers_at me [] answers = []
answers_at me (act ∷ acts) [] = []
answers_at me (act ∷ acts) (answer ∷ answers) = if is_act_at me act then answer ∷ answers_at me acts answers else answers_at me acts answers

-- its ports after a rejoin
abbrev pub own_rejoin : Bool → List Queues → List Queues
own_rejoin rejoined ports = if rejoined then empty_ports else ports

-- what it keeps just before the rounds: after a rejoin, and the acts of its processors
abbrev pub begun : Kept → Bool → List Act → Kept
begun kept rejoined acts = record {
  me = kept.me;
  cycle = kept.cycle;
  table = kept.table;
  scoreboard = kept.scoreboard;
  ports = fold (own_act kept.table) (own_rejoin rejoined kept.ports) acts;
}

abbrev pub kept_before : Kept → OwnInput → Kept
kept_before kept own = begun kept own.rejoined own.acts

-- what it keeps after the cycle
abbrev pub kept_next : Kept → OwnInput → Kept
kept_next kept own = kept_after (kept_before kept own) (made (kept_before kept own) own.heard)

-- its own fold over the cycles
abbrev pub alone_from : Kept → List OwnInput → Kept
alone_from kept [] = kept
alone_from kept (own ∷ owns) = alone_from (kept_next kept own) owns

-- What it takes in a cycle is its own part of what comes from outside.
pub record IsOwnInput (s : State) (input : Input) (said : Relays) (me : ℕ) (own : OwnInput) : Type 0 where
  pub rejoined : own.rejoined ≡ is_this input.rejoined me
  pub acts : own.acts ≡ acts_at me input.acts
  pub relays : AreRelays said
  pub heard : Takes (step s input).shown said me own.heard

-- so it is in each cycle
abbrev pub TakesItsPart : State → ℕ → Journal → List Relays → List OwnInput → Type 0
TakesItsPart s me [] saids [] = Unit {0}
TakesItsPart s me [] saids (own ∷ owns) = ⊥
TakesItsPart s me (input ∷ journal) [] owns = ⊥
TakesItsPart s me (input ∷ journal) (said ∷ saids) [] = ⊥
TakesItsPart s me (input ∷ journal) (said ∷ saids) (own ∷ owns) = IsOwnInput s input said me own × TakesItsPart (step s input).state me journal saids owns

-- It holds its part of each cycle, and answers the acts of its processors as the run does.
abbrev pub HoldsItsRun : State → ℕ → Journal → List Relays → Kept → List OwnInput → Type 0
HoldsItsRun s me [] saids kept [] = kept ≡ part_of s me
HoldsItsRun s me [] saids kept (own ∷ owns) = ⊥
HoldsItsRun s me (input ∷ journal) [] kept owns = ⊥
HoldsItsRun s me (input ∷ journal) (said ∷ saids) kept [] = ⊥
HoldsItsRun s me (input ∷ journal) (said ∷ saids) kept (own ∷ owns) =
    HoldsItsPart (step s input) said me (kept_before kept own) own.heard
    × (own_answers kept.table (own_rejoin own.rejoined kept.ports) own.acts ≡ answers_at me input.acts (step s input).shown.answers)
    × HoldsItsRun (step s input).state me journal saids (kept_next kept own) owns

-- What each keeps after a rejoin and its own acts is its part of the state there, and its answers are those of the run.
abbrev pub EachBeginsAlone : Type 0
EachBeginsAlone = (s : State) (input : Input) (me : ℕ) → IsSound s → me < s.table.n
    → (begun (part_of s me) (is_this input.rejoined me) (acts_at me input.acts) ≡ part_of (before_rounds s input) me)
    × (own_answers s.table (own_rejoin (is_this input.rejoined me) (ports_of s.queues me)) (acts_at me input.acts) ≡ answers_at me input.acts (step s input).shown.answers)

-- Whatever it kept before, with the agreed state and empty ports an element keeps its part of the state after its rejoin.
abbrev pub RejoinGivesPart : Type 0
RejoinGivesPart = (s : State) (me : ℕ) → IsSound s → me < s.table.n
    → record { me = me; cycle = s.cycle; table = s.table; scoreboard = s.scoreboard; ports = empty_ports } ≡ part_of (after_rejoin s (Some me)) me

-- Each element alone, from its part of the start on, holds its part of each cycle of a run.
abbrev pub EachRunAlone : Type 0
EachRunAlone = (table : TableValue) (journal : Journal) (saids : List Relays) (me : ℕ) (owns : List OwnInput)
    → IsValid table → me < table.n → AllByRecursion (IsInput table.n) journal
    → TakesItsPart (start table) me journal saids owns
    → HoldsItsRun (start table) me journal saids (part_of (start table) me) owns

-- Its own fold over what it takes ends with its part of the run.
abbrev pub EachFoldAlone : Type 0
EachFoldAlone = (table : TableValue) (journal : Journal) (saids : List Relays) (me : ℕ) (owns : List OwnInput)
    → IsValid table → me < table.n → AllByRecursion (IsInput table.n) journal
    → TakesItsPart (start table) me journal saids owns
    → alone_from (part_of (start table) me) owns ≡ part_of (run table journal) me
