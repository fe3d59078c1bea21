-- One place for each group number.
use Rattle.std.specs.Prelude.{ℕ, nat_le, List, Option, Some, None, slice_index_or, if◌then◌else◌}
use Rattle.sender_choice.specs.Sinces.{Sinces}

-- what the places say of each group
abbrev pub scanned : List (Option ℕ) → Sinces
scanned places vid = slice_index_or places vid None

-- the older of the best so far and a group with a greater number, if that is held
abbrev pub older_with : Option (ℕ × ℕ) → ℕ → Option ℕ → Option (ℕ × ℕ)
older_with best vid None = best
older_with None vid (Some since) = Some (vid, since)
older_with (Some best) vid (Some since) = if nat_le best.1 since then Some best else Some (vid, since)
