-- The link of each frame of a cycle, by its place in the order of a trace.
use Rattle.std.specs.Prelude.{ℕ, ◌+◌, ◌-◌, ◌*◌, ◌/◌, ◌%◌, nat_lt, List, map, if◌then◌else◌}
use Rattle.arrayvec.specs.ArrayVec.{ArrayVec}
use Rattle.ftpp_base.specs.declared.element.Round.{Round}
use Rattle.ftpp_base.specs.declared.element.Round.TheVariants.{A1, A2, B1, B2}
use Rattle.trace_audit.specs.declared.links.Link.{Link}

-- how many frames a round has among n elements
abbrev pub per_round : ℕ → ℕ
per_round n = n * (n - 1)

abbrev pub round_of_number : ℕ → Round
round_of_number ℕ.zero = A1
round_of_number (ℕ.suc ℕ.zero) = A2
round_of_number (ℕ.suc (ℕ.suc ℕ.zero)) = B1
round_of_number _ = B2

-- the receiver at a place among the others of a sender
abbrev pub receiver_of : ℕ → ℕ → ℕ
receiver_of sender seat = if nat_lt seat sender then seat else seat + 1

-- the link at a place of a cycle
unfoldable pub link_at : ℕ → ℕ → Link
link_at n place = record {
  round = round_of_number (place / per_round n);
  from = place % per_round n / (n - 1);
  to = receiver_of (place % per_round n / (n - 1)) (place % per_round n % (n - 1));
}

-- the bytes of frames
abbrev pub bytes_of : ArrayVec ℕ → List ℕ
bytes_of frame = frame.items

abbrev pub all_bytes : List (ArrayVec ℕ) → List (List ℕ)
all_bytes frames = map bytes_of frames
