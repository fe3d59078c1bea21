-- An exchange of one source that is fault-free and admitted has that source's head as its entry at each element.
use Rattle.std.proofs.Common.{◌≡◌, ℕ, ◌<◌, true, false, ap, sym, ◌∙◌, subst}
use Rattle.std.specs.Prelude.{Some}
use Rattle.ftpp_base.specs.Lists.{is_this}
use Rattle.ftpp_base.specs.Sets.{has}
use Rattle.config_table.specs.declared.decisions.Kind.TheVariants.{Source}
use Rattle.config_table.specs.declared.decisions.Decision.{Decision}
use Rattle.config_table.specs.declared.decisions.Decision.TheVariants.{Exchange}
use Rattle.config_table.specs.declared.decisions.Service.{Service}
use Rattle.data_exchange.proofs.HeldEntries.{source_entries}
use Rattle.data_exchange.specs.Entries.{entry_at, packet_in}
use Rattle.element_core.specs.Processors.{head_at}
use Rattle.element_core.specs.Cycle.{State, Input, packet_round, step, shown_by}
use Rattle.element_core.specs.Alone.{before_rounds}
use Rattle.whole_run.specs.Laws.{AlwaysSourced}
use Rattle.element_core.proofs.Sound.{before_sound}
use Rattle.element_core.proofs.AdmittedMembers.{Admitted, admitted_has}
use Rattle.whole_run.proofs.Equal.{entry_there}
use Rattle.element_core.proofs.AloneLaws.{decision_in, packets_in}

-- ---- the entry

-- the entry is the head of its source
sourced_entry : (t : State) (input : Input) (service : Service) (source me : ℕ) (a : Admitted t service source) → decision_in t input ≡ Exchange service → service.kind ≡ Source source → source < t.table.n
    → is_this input.faulty source ≡ false → has service.admitted source ≡ true
    → entry_at t.table service (packets_in t input) me ≡ Some a.head.1.bytes
sourced_entry t input service source me a decided kind l good admitted =
    let Entry : Decision → Type 0 = λ d. entry_at t.table service (packet_round t.table t.queues d input) me ≡ Some a.head.1.bytes in
    subst Entry (sym decided)
    (source_entries t.table service (head_at t.queues) input.faulty input.packets source a.head me
    (record { kind = kind; among = l; fault_free = good; admitted = admitted; proc = a.proc; member = a.live; waits = a.held; carried = a.carries }))

-- So it is in each cycle.
pub always_sourced : AlwaysSourced
unfolding step shown_by
always_sourced s input sound is service source decided kind l good admitted =
    let t = before_rounds s input in
    let here = before_sound s input sound is.acts in
    let a = admitted_has t input service source here decided l good admitted in (
      record { proc = a.proc; live = a.live; head = a.head; held = a.held },
      (λ me m. entry_there t input service me m decided ∙ ap packet_in (sourced_entry t input service source me a decided kind l good admitted)),
    )
