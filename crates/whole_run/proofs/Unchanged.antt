-- In each cycle an exchange that is held alike has the common packet as its entry.
use Rattle.std.proofs.Common.{ap, ◌∙◌}
use Rattle.data_exchange.specs.Entries.{packet_in}
use Rattle.element_core.specs.Cycle.{step, shown_by}
use Rattle.element_core.specs.Alone.{before_rounds}
use Rattle.whole_run.specs.Laws.{AlwaysUnchanged}
use Rattle.element_core.proofs.Sound.{before_sound}
use Rattle.whole_run.proofs.Equal.{entry_there}
use Rattle.whole_run.proofs.HeldAlike.{entry_alike}

-- An exchange that is held alike has the common packet as its entry.
pub always_unchanged : AlwaysUnchanged
unfolding step shown_by
always_unchanged s input sound is service g head me decided named alike many l =
    let t = before_rounds s input in
    let here = before_sound s input sound is.acts in
    entry_there t input service me l decided ∙ ap packet_in (entry_alike t input service g head me here is decided many named alike)
