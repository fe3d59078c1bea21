-- The frames that an element sends have as many cells as the round, each of its width.
use Rattle.std.proofs.Common.{map, ◌≡◌, ℕ, suc, ◌<◌, Bool, true, false, cond, List, [], ◌∷◌, length, refl, ap, arith, sym, ◌∙◌, subst, ◌⊎◌, inl, inr}
use Rattle.std.specs.Prelude.{Option, Some, None, IfSome, option_map, unwrap_or, slice_set}
use Rattle.std.specs.List.{AllByRecursion}
use Rattle.std.proofs.lemmas.Bool.{cases_eq}
use Rattle.std.proofs.lemmas.List.{length-set, get_or-set_same, get_or-set_other}
use Rattle.std.proofs.lemmas.List.FromFn.{length-map-range_with_len}
use Rattle.ftpp_base.specs.Lists.{below, cell_at}
use Rattle.ftpp_base.specs.declared.element.Proc.{Proc}
use Rattle.ftpp_base.specs.declared.element.Round.TheVariants.{A1, A2, B1, B2}
use Rattle.packet_format.specs.declared.Descriptor.{Descriptor}
use Rattle.bit_vote.specs.Vote.{Cell}
use Rattle.frame_format.specs.Frames.{IsWide}
use Rattle.config_table.specs.declared.decisions.Decision.{Decision}
use Rattle.config_table.specs.declared.decisions.Decision.TheVariants.{Idle, Discard, Exchange}
use Rattle.processor_buffers.specs.Queues.{Posted, carries, head_of}
use Rattle.data_exchange.specs.Entries.{contributes, senders, packet_of_head, member_at}
use Rattle.element_core.specs.Processors.{port_queues}
use Rattle.element_core.specs.Element.{Kept, own_packet}
use Rattle.element_core.specs.Noted.{own_pattern, decided_by, echo_of, where_relayed}
use Rattle.element_core.specs.Phases.{FramesFit}
use Rattle.element_core.specs.Sent.{is_relayed}

-- a cell that is chosen or absent
chosen_width : (wide : ℕ) (b : Bool) (cell : Cell) → IsWide wide cell → IsWide wide (cond b cell None)
chosen_width wide true cell is = is
chosen_width wide false cell is = tt

-- all cells, where each at its place has the width
all_wide : (wide : ℕ) (cells : List Cell) → ((s : ℕ) → IsWide wide (cell_at cells s)) → AllByRecursion (IsWide wide) cells
all_wide wide [] is = tt
all_wide wide (cell ∷ cells) is = (is 0, all_wide wide cells (λ s. is (suc s)))

-- ---- its own cells

-- the packet of a head that carries the request
head_width : (desc : Descriptor) (head : Option Posted) → IfSome head (λ posted. length posted.1.bytes ≡ 64) → IsWide 64 (packet_of_head desc head)
head_width desc None is = tt
head_width desc (Some posted) is = chosen_width 64 (carries (Some posted) desc) (Some posted.1.bytes) is

-- that of the member that is found
found_width : (f : Proc → Cell) (found : Option Proc) → ((proc : Proc) → IsWide 64 (f proc)) → IsWide 64 (unwrap_or (option_map f found) None)
found_width f None is = tt
found_width f (Some proc) is = is proc

-- what it sends in B1
packet_width : (kept : Kept) (decision : Decision) → ((port : ℕ) → IfSome (head_of (port_queues kept.ports port)) (λ posted. length posted.1.bytes ≡ 64)) → IsWide 64 (own_packet kept decision)
packet_width kept Idle is = tt
packet_width kept (Discard vid desc number admitted waited) is = tt
packet_width kept (Exchange service) is =
    let f : Proc → Cell = λ proc. packet_of_head service.desc (head_of (port_queues kept.ports proc.port)) in
    chosen_width 64 (contributes service kept.me) (unwrap_or (option_map f (member_at (senders kept.table service.vid) kept.me)) None)
    (found_width f (member_at (senders kept.table service.vid) kept.me) (λ proc. head_width service.desc (head_of (port_queues kept.ports proc.port)) (is proc.port)))

-- ---- copies with its own in its place

placed_by : (wide me : ℕ) (own : Cell) (cells : List Cell) (s : ℕ) → me < length cells → IsWide wide own → ((k : ℕ) → IsWide wide (cell_at cells k)) → (s ≡ me) ⊎ (s ≡ me → ⊥)
    → IsWide wide (cell_at (slice_set cells me own) s)
placed_by wide me own cells s l mine is (inl e) = subst (IsWide wide) (sym (ap (cell_at (slice_set cells me own)) e ∙ get_or-set_same cells me own None l)) mine
placed_by wide me own cells s l mine is (inr away) = subst (IsWide wide) (sym (get_or-set_other cells me s own None away)) (is s)

placed : (wide me : ℕ) (own : Cell) (cells : List Cell) → me < length cells → IsWide wide own → ((k : ℕ) → IsWide wide (cell_at cells k)) → (s : ℕ) → IsWide wide (cell_at (echo_of me own cells) s)
placed wide me own cells l mine is s = placed_by wide me own cells s l mine is (cases_eq s me)

-- cells that are chosen one by one
each_wide : (f : ℕ → Cell) (ks : List ℕ) → ((k : ℕ) → IsWide 64 (f k)) → AllByRecursion (IsWide 64) (map f ks)
each_wide f [] is = tt
each_wide f (k ∷ ks) is = (is k, each_wide f ks is)

-- The frame of each round has as many cells as the round, each of its width.
pub frames_fit : FramesFit
frames_fit kept heard A1 is = record { spelled = refl; count = refl; wide = (refl, tt) }
frames_fit kept heard A2 is =
    let there : kept.me < length heard.patterns = let l = is.me in let long = is.pattern_count in omega arith in
    record {
      spelled = refl;
      count = length-set heard.patterns kept.me (own_pattern kept) ∙ is.pattern_count;
      wide = all_wide 32 (echo_of kept.me (own_pattern kept) heard.patterns) (placed 32 kept.me (own_pattern kept) heard.patterns there refl is.patterns);
    }
frames_fit kept heard B1 is =
    record { spelled = refl; count = refl; wide = (packet_width kept (decided_by kept heard.patterns heard.relayed_patterns) is.heads, tt) }
frames_fit kept heard B2 is =
    let decision : Decision = decided_by kept heard.patterns heard.relayed_patterns in
    let copies : List Cell = echo_of kept.me (own_packet kept decision) heard.packets in
    let there : kept.me < length heard.packets = let l = is.me in let long = is.packet_count in omega arith in
    let each : (s : ℕ) → IsWide 64 (cell_at copies s) = placed 64 kept.me (own_packet kept decision) heard.packets there (packet_width kept decision is.heads) is.packets in
    record {
      spelled = refl;
      count = length-map-range_with_len (where_relayed decision copies) 0 kept.table.n;
      wide = each_wide (where_relayed decision copies) (below kept.table.n) (λ k. chosen_width 64 (is_relayed decision k) (cell_at copies k) (each k));
    }
