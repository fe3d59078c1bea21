-- The stream of draws.
use Rattle.std.specs.Prelude.{ℕ, ◌+◌, ◌*◌, ◌/◌, ◌%◌, ◌^◌}
use Rattle.workload.specs.declared.draws.Draws.{Draws}

-- the state of the stream after the next draw
unfoldable pub next_state : ℕ → ℕ
next_state s = (s * 6364136223846793005 + 1442695040888963407) % 2 ^ 64

-- a draw below n: what it gives, and the state after it
abbrev pub pick : ℕ → ℕ → ℕ × ℕ
pick n s = (next_state s / 2 ^ 33 % n, next_state s)

-- a value that comes without a draw, and a step after a draw
abbrev pub give : {A : Type 0} → A → ℕ → A × ℕ
give x s = (x, s)

infixl 10 ◌>>=◌
abbrev pub ◌>>=◌ : {A B : Type 0} → (ℕ → A × ℕ) → (A → ℕ → B × ℕ) → ℕ → B × ℕ
(m >>= f) s = f (m s).0 (m s).1

-- what is drawn for a cycle, always all of it
unfoldable pub draws : ℕ → Draws × ℕ
draws = do
  group ← pick 6
  dest ← pick 6
  byte ← pick 256
  kind ← pick 4
  edit ← pick 8
  to ← pick 4
  place ← pick 8
  give (record { group = 1 + group; dest = 1 + dest; byte = byte; kind = kind; edit = edit; to = to; place = place })
