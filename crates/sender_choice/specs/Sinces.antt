-- What a chooser is seen as: since when each group waits, if it is held.
use Rattle.std.specs.Prelude.{◌≡◌, ℕ, ◌<◌, ◌≤◌, ◌⊎◌, Bool, true, ◌==◌, List, count_by, Option, Some, None, is_some, if◌then◌else◌}
use Rattle.ftpp_base.specs.Lists.{below}
use Rattle.ftpp_base.specs.declared.limits.TheConstants.{MOST_GROUPS}
use Rattle.ftpp_base.specs.Vids.{has_vid}

-- for each group number the cycle since which it waits
abbrev pub Sinces : Type 0
Sinces = ℕ → Option ℕ

-- no group is held
abbrev pub nothing_held : Sinces
nothing_held vid = None

-- one group is held since a cycle
abbrev pub with_since : Sinces → ℕ → ℕ → Sinces
with_since held vid since other = if other == vid then Some since else held other

-- one group is not held
abbrev pub without_since : Sinces → ℕ → Sinces
without_since held vid other = if other == vid then None else held other

abbrev pub is_held : Sinces → ℕ → Bool
is_held held vid = is_some (held vid)

-- how many groups are held
unfoldable pub held_count : Sinces → ℕ
held_count held = count_by (is_held held) (below 256)

-- there is room for a group: it is held, or fewer than 40 groups are
abbrev pub HasRoomFor : Sinces → ℕ → Type 0
HasRoomFor held vid = (is_held held vid ≡ true) ⊎ (held_count held < MOST_GROUPS)

-- A held eligible group, with the least pair of since and number of all of these.
pub record IsOldest (held : Sinces) (eligible : List Bool) (vid since : ℕ) : Type 0 where
  pub held_since : held vid ≡ Some since
  pub may_be_chosen : has_vid eligible vid ≡ true
  pub least : (other later : ℕ) → held other ≡ Some later → has_vid eligible other ≡ true → (since < later) ⊎ ((since ≡ later) × (vid ≤ other))

-- the oldest of the eligible groups, or none where no eligible group is held
abbrev pub IsChoice : Sinces → List Bool → Option (ℕ × ℕ) → Type 0
IsChoice held eligible None = (vid : ℕ) → has_vid eligible vid ≡ true → held vid ≡ None
IsChoice held eligible (Some p) = IsOldest held eligible p.0 p.1
