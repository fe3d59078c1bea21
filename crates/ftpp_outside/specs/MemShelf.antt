-- What a shelf in memory shows.
use Rattle.std.specs.Prelude.{◌≡◌, ℕ, ◌+◌, ◌-◌, ◌^◌, min, List, map, None, Contains}
use Rattle.ftpp_outside.specs.declared.mem_shelf.MemShelf.{MemShelf}
use Rattle.ftpp_outside.specs.Files.{NamedBytes, bytes_of, named_bytes}

-- its files, in the order in which they were given
abbrev pub shelved : MemShelf → List NamedBytes
shelved s = map named_bytes s.files.items

-- the number of the next call, which stays at 2^64 - 1
abbrev pub next_call : MemShelf → ℕ
next_call s = min (s.calls + 1) (2 ^ 64 - 1)

-- the calls that fail
abbrev pub failing_calls : MemShelf → List ℕ
failing_calls s = s.failing.items

-- the next call is not one that fails, and there is a file of this name
abbrev pub IsSureOf : MemShelf → List ℕ → Type 0
IsSureOf s name = (Contains (failing_calls s) (next_call s) → ⊥) × (bytes_of (shelved s) name ≡ None → ⊥)
