-- What an auditor has taken of a trace, and what the next frame makes of it.
use Rattle.std.specs.Prelude.{ℕ, ◌+◌, Bool, ◌||◌, ◌==◌, List, [], ◌∷◌, ◌++◌, length, Option, Some, None, if◌then◌else◌}
use Rattle.std.specs.List.{fold}
use Rattle.ftpp_base.specs.Lists.{is_this}
use Rattle.config_table.specs.Table.{TableValue}
use Rattle.trace_audit.specs.declared.links.Link.{Link}
use Rattle.trace_audit.specs.Known.{Known, Frames, known_first, known_after, is_expected}
use Rattle.trace_audit.specs.Trace.{per_cycle, frames_in}
use Rattle.trace_audit.specs.Links.{link_at}

-- What is known at the beginning of a cycle, the element whose frames may be any, and the frames of the cycle so far.
pub record Progress : Type 0 where
  pub known : Known
  pub named : Option ℕ
  pub so_far : List (List ℕ)

-- before the first frame
abbrev pub progress_first : TableValue → Option ℕ → Progress
progress_first table named = record { known = known_first table; named = named; so_far = [] }

-- the link of the next frame
abbrev pub next_link : Progress → Link
next_link p = link_at p.known.table.n (length p.so_far)

-- the frames of the cycle with one more
abbrev pub frames_with : Progress → List ℕ → List (List ℕ)
frames_with p frame = p.so_far ++ frame ∷ []

-- whether the frame of a link is expected, or is of the named element
abbrev pub passes_at : Known → Option ℕ → Frames → Link → Bool
passes_at known named frames link = is_this named link.from || is_expected known named frames link.round link.from link.to

-- whether the next frame is expected, or is of the named element
unfoldable pub is_awaited : Progress → List ℕ → Bool
is_awaited p frame = passes_at p.known p.named (frames_in p.known.table.n (frames_with p frame)) (next_link p)

-- the frames of a cycle, if they are not yet all, or else what is known after it
abbrev pub progress_with : Known → Option ℕ → List (List ℕ) → Progress
progress_with known named frames =
    if length frames == per_cycle known.table.n
    then record { known = known_after known named (frames_in known.table.n frames); named = named; so_far = [] }
    else record { known = known; named = named; so_far = frames }

-- after the next frame
unfoldable pub progress_after : Progress → List ℕ → Progress
progress_after p frame = progress_with p.known p.named (frames_with p frame)

-- after some frames
abbrev pub progress_through : Progress → List (List ℕ) → Progress
progress_through p frames = fold progress_after p frames

-- the place of the first frame that is not awaited, counted from a number
abbrev pub first_break : Progress → ℕ → List (List ℕ) → Option ℕ
first_break p place [] = None
first_break p place (frame ∷ frames) = if is_awaited p frame then first_break (progress_after p frame) (place + 1) frames else Some place
