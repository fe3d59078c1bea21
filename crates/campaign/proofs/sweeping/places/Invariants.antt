use Rattle.std.proofs.Common.{◌≡◌, ℕ, ◌<◌, slice_index_or, vec_len, vec_capacity}
use Rattle.campaign.proofs.sweeping.places.Given as goal

abbrev pub invariant-loop-place : goal.invariant-loop-place
invariant-loop-place l =
    (vec_capacity l.places ≡ l.count)
    × (vec_len l.places ≡ l.place)
    × ((k d : ℕ) → k < l.place → slice_index_or l.places.items k d ≡ k)
