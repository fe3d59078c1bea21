-- The frames that the elements of a run send are in the grammar, and read as the cells that the run says.
use Rattle.std.proofs.Common.{◌≡◌, ℕ, Bool, true, false, cond, List, [], ◌∷◌, map, refl}
use Rattle.std.specs.Prelude.{Some, None, not, ◌&&◌, ◌==◌}
use Rattle.std.specs.List.{AllByRecursion}
use Rattle.std.proofs.lemmas.List.FromFn.{length-map-range_with_len}
use Rattle.ftpp_base.specs.Lists.{below, cell_at, is_this}
use Rattle.ftpp_base.specs.declared.element.Round.{Round}
use Rattle.ftpp_base.specs.declared.element.Round.TheVariants.{A1, A2, B1, B2}
use Rattle.ftpp_base.proofs.Among.{either}
use Rattle.bit_vote.specs.Vote.{Cell, IsCell}
use Rattle.bit_vote.specs.Agreed.{FirstRound, copy_at}
use Rattle.frame_format.specs.Frames.{IsWide, IsFrame, reads_as}
use Rattle.config_table.specs.Kinds.{is_relayed}
use Rattle.element_core.specs.Cycle.{State, Input, Shown, step, shown_by}
use Rattle.element_core.specs.Sent.{relayed_packet, cells_sent, frame_sent}
use Rattle.element_core.specs.Alone.{IsSound, IsInput, before_rounds}
use Rattle.element_core.proofs.AloneLaws.{decision_in}
use Rattle.element_core.proofs.RoundShapes.{pattern_shape, packet_shape}
use Rattle.element_core.proofs.Sound.{before_sound}
use Rattle.cluster.proofs.Reading.{written_read}

-- Both first rounds of a cycle have cells of their widths.
pub record HasCells (shown : Shown) : Type 0 where
  pub pattern : (s : ℕ) → IsCell 32 (cell_at shown.patterns.own s)
  pub pattern_heard : (s : ℕ) → IsCell 32 (cell_at shown.patterns.heard s)
  pub packet : (s : ℕ) → IsCell 64 (cell_at shown.packets.own s)
  pub packet_heard : (s : ℕ) → IsCell 64 (cell_at shown.packets.heard s)

-- so it is in each cycle of a run
pub has_cells : (s : State) (input : Input) → IsSound s → IsInput s.table.n input → HasCells (step s input).shown
unfolding step shown_by
has_cells s input sound is =
    let t = before_rounds s input in
    let here = before_sound s input sound is.acts in
    record {
      pattern = (pattern_shape t.table t.queues input here.waiting is).own;
      pattern_heard = is.pattern_cells;
      packet = (packet_shape t.table t.queues (decision_in t input) input here.waiting is).own;
      packet_heard = is.packet_cells;
    }

-- a cell of a width has a row of that width
pub wide_cell : (wide : ℕ) (cell : Cell) → IsCell wide cell → IsWide wide cell
wide_cell wide None is = tt
wide_cell wide (Some row) is = is.long

-- a copy is one, too
pub copy_cell : (wide : ℕ) (round : FirstRound) (me s : ℕ) → IsCell wide (cell_at round.heard me) → IsCell wide (cell_at round.own s) → IsCell wide (copy_at round me s)
unfolding copy_at
copy_cell wide round me s heard own = either (IsCell wide) (is_this round.faulty s && not (me == s)) (cell_at round.heard me) (cell_at round.own s) heard own

-- also where it may be absent
chosen_cell : (wide : ℕ) (b : Bool) (cell : Cell) → IsWide wide cell → IsWide wide (cond b cell None)
chosen_cell wide true cell is = is
chosen_cell wide false cell is = tt

-- one for each element
each_wide : (wide : ℕ) (f : ℕ → Cell) (ks : List ℕ) → ((k : ℕ) → IsWide wide (f k)) → AllByRecursion (IsWide wide) (map f ks)
each_wide wide f [] is = tt
each_wide wide f (k ∷ ks) is = (is k, each_wide wide f ks is)

-- a frame that an element sends is in the grammar
sent_fits : (shown : Shown) (round : Round) (me : ℕ) → HasCells shown → IsFrame shown.table.n (record { cycle = shown.cycle; round = round }) me (frame_sent shown round me) (cells_sent shown round me)
sent_fits shown A1 me is = record { spelled = refl; count = refl; wide = (wide_cell 32 (cell_at shown.patterns.own me) (is.pattern me), tt) }
sent_fits shown A2 me is = record {
  spelled = refl;
  count = length-map-range_with_len (copy_at shown.patterns me) 0 shown.table.n;
  wide = each_wide 32 (copy_at shown.patterns me) (below shown.table.n) (λ k. wide_cell 32 (copy_at shown.patterns me k) (copy_cell 32 shown.patterns me k (is.pattern_heard me) (is.pattern k)));
}
sent_fits shown B1 me is = record { spelled = refl; count = refl; wide = (wide_cell 64 (cell_at shown.packets.own me) (is.packet me), tt) }
sent_fits shown B2 me is = record {
  spelled = refl;
  count = length-map-range_with_len (relayed_packet shown me) 0 shown.table.n;
  wide = each_wide 64 (relayed_packet shown me) (below shown.table.n)
      (λ k. chosen_cell 64 (is_relayed shown.decision k) (copy_at shown.packets me k) (wide_cell 64 (copy_at shown.packets me k) (copy_cell 64 shown.packets me k (is.packet_heard me) (is.packet k))));
}

-- what a cycle shows has the number and the table of its state
pub shown_cycle : (s : State) (input : Input) → (step s input).shown.cycle ≡ s.cycle
unfolding step shown_by
shown_cycle s input = refl

pub shown_table : (s : State) (input : Input) → (step s input).shown.table ≡ s.table
unfolding step shown_by
shown_table s input = refl

-- A frame of a run is in the grammar.
pub frame_fits : (s : State) (input : Input) (round : Round) (me : ℕ) → IsSound s → IsInput s.table.n input
    → IsFrame s.table.n (record { cycle = s.cycle; round = round }) me (frame_sent (step s input).shown round me) (cells_sent (step s input).shown round me)
unfolding step shown_by
frame_fits s input round me sound is = sent_fits (step s input).shown round me (has_cells s input sound is)

-- It reads as its cells.
pub sent_read : (s : State) (input : Input) (round : Round) (me : ℕ) → IsSound s → IsInput s.table.n input
    → reads_as s.table.n (record { cycle = s.cycle; round = round }) me (frame_sent (step s input).shown round me) ≡ cells_sent (step s input).shown round me
unfolding step shown_by
sent_read s input round me sound is =
    written_read s.table.n (record { cycle = s.cycle; round = round }) me (cells_sent (step s input).shown round me) (frame_fits s input round me sound is)
