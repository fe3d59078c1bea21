-- What a sink in memory shows.
use Rattle.std.specs.Prelude.{ℕ, ◌+◌, ◌-◌, ◌^◌, min, List}
use Rattle.ftpp_outside.specs.declared.mem_sink.MemSink.{MemSink}

-- the bytes that were written
abbrev pub kept : MemSink → List ℕ
kept s = s.bytes.items

-- how many bytes it may keep
abbrev pub whole_room : MemSink → ℕ
whole_room s = s.room

-- the number of the next call, which stays at 2^64 - 1
abbrev pub next_call : MemSink → ℕ
next_call s = min (s.calls + 1) (2 ^ 64 - 1)

-- the calls that fail
abbrev pub failing_calls : MemSink → List ℕ
failing_calls s = s.failing.items

-- the most bytes that a call takes
abbrev pub most_at_once : MemSink → ℕ
most_at_once s = s.piece
