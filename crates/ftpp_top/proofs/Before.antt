-- A call that ends before its audit, or before its node, begins.
use Rattle.std.proofs.Common.{◌≡◌, ℕ, ◌≤◌, List, [], Option, Some, None, inl, refl, sym, ◌∙◌, append-nil, arith}
use Rattle.ftpp_outside.specs.Told.{Gives, Adds}
use Rattle.config_table.specs.Table.{TableValue}
use Rattle.element_node.specs.declared.NodeEnd.TheVariants as end
use Rattle.element_node.specs.Dialog.{and_then, piece, byte}
use Rattle.element_node.specs.Input.{read_acts}
use Rattle.element_node.specs.Node.{node, cycles_from, cycle_dialog}
use Rattle.element_node.specs.Node.Stopped.{WaitsIn}
use Rattle.command_steps.specs.declared.status.Status.{Status}
use Rattle.command_steps.specs.declared.status.Status.TheVariants.{Done, Usage, Script, Config, Read, Write, Memory, TooLong, Stream}
use Rattle.command_steps.specs.Known.{Known, Untold, Ending, Given, ◌>>=◌, IsHalt, Stops}
use Rattle.ftpp_top.specs.Audited.{Audited, Judged}
use Rattle.ftpp_top.specs.Served.{ServesNode, Served}

pub judged_stopped : (known : Known Audited) (status : Status) (old new : Option (List ℕ)) → Stops known status old new → Judged known status old new
judged_stopped Untold status old new h = tt
judged_stopped (Ending o) status old new h = h
judged_stopped (Given a) status old new h = inl h

-- ---- a node that read and wrote nothing

gives_nothing : (left : Option (List ℕ)) → Gives left [] left
gives_nothing None = tt
gives_nothing (Some bytes) = refl

adds_nothing : (old new : Option (List ℕ)) → new ≡ old → Adds old [] new
adds_nothing None new e = tt
adds_nothing (Some bytes) None e = none_some e where
  none_some : None ≡ Some bytes → ⊥
  none_some e = cc
adds_nothing (Some bytes) (Some more) e = let same : more ≡ bytes = cc in same ∙ sym (append-nil bytes)

-- it waits for the first byte of the first cycle
waits_first : (me : ℕ) (table : TableValue) (count : ℕ) → node me table (ℕ.suc count) [] ≡ WaitsIn 0 []
unfolding cycles_from cycle_dialog read_acts and_then byte piece
waits_first me table count = refl

halts_serve : (table : TableValue) (element cycles : ℕ) (status : Status) (left old new : Option (List ℕ)) → 1 ≤ cycles → IsHalt status → new ≡ old
    → ServesNode (record { table = table; element = element; cycles = cycles }) status left left old new
halts_serve table element ℕ.zero status left old new one halt e = let none : ⊥ = omega (arith, one) in absurd none
halts_serve table element (ℕ.suc count) Read left old new one halt e =
    (end.Read, refl, record { read = []; wrote = []; given = gives_nothing left; added = adds_nothing old new e; fits = (0, waits_first element table count) })
halts_serve table element (ℕ.suc count) Memory left old new one halt e =
    (end.Memory, refl, record { read = []; wrote = []; given = gives_nothing left; added = adds_nothing old new e; fits = (refl, refl) })
halts_serve table element (ℕ.suc count) Write left old new one halt e = absurd halt
halts_serve table element (ℕ.suc count) Done left old new one halt e = absurd halt
halts_serve table element (ℕ.suc count) Usage left old new one halt e = absurd halt
halts_serve table element (ℕ.suc count) TooLong left old new one halt e = absurd halt
halts_serve table element (ℕ.suc count) (Script line code) left old new one halt e = absurd halt
halts_serve table element (ℕ.suc count) (Config code) left old new one halt e = absurd halt
halts_serve table element (ℕ.suc count) (Stream cycle code) left old new one halt e = absurd halt

pub served_stopped : (known : Known TableValue) (element cycles : ℕ) (status : Status) (left old new : Option (List ℕ)) → 1 ≤ cycles → Stops known status old new
    → Served (known >>= λ table. Given (record { table = table; element = element; cycles = cycles })) status left left old new
served_stopped Untold element cycles status left old new one h = tt
served_stopped (Ending o) element cycles status left old new one h = h
served_stopped (Given table) element cycles status left old new one h = halts_serve table element cycles status left old new one h.0 h.1
