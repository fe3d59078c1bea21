-- What a source in memory shows.
use Rattle.std.specs.Prelude.{ℕ, ◌+◌, ◌-◌, ◌^◌, min, List, drop}
use Rattle.ftpp_outside.specs.declared.mem_source.MemSource.{MemSource}

-- the bytes that are left
abbrev pub unread : MemSource → List ℕ
unread s = drop s.at s.bytes.items

-- the number of the next call, which stays at 2^64 - 1
abbrev pub next_call : MemSource → ℕ
next_call s = min (s.calls + 1) (2 ^ 64 - 1)

-- the calls that fail
abbrev pub failing_calls : MemSource → List ℕ
failing_calls s = s.failing.items

-- the most bytes that a call gives
abbrev pub most_at_once : MemSource → ℕ
most_at_once s = s.piece
