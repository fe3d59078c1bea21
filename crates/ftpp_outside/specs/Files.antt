-- Files by their names, as a shelf may tell them.
use Rattle.std.specs.Prelude.{◌≡◌, ℕ, ◌<◌, List, length, String, Vec, string_bytes, Option, Some, None, find, option_map, bytes_eq, IsSomeAnd}
use Rattle.std.specs.Global.{Global}

-- a file: its name and its bytes
pub record NamedBytes : Type 0 where
  pub name : List ℕ
  pub bytes : List ℕ

-- a pair of a name and its bytes as a file
abbrev pub named_bytes : String Global × Vec ℕ Global → NamedBytes
named_bytes f = record { name = string_bytes f.0; bytes = f.1.items }

-- the bytes of the first file of this name
abbrev pub bytes_of : List NamedBytes → List ℕ → Option (List ℕ)
bytes_of files name = option_map (λ f. f.bytes) (find (λ f. bytes_eq f.name name) files)

-- where the files are told, there is one of this name, and its first one has these bytes
abbrev pub Loads : Option (List NamedBytes) → List ℕ → List ℕ → Type 0
Loads None name bytes = Unit {0}
Loads (Some files) name bytes = bytes_of files name ≡ Some bytes

-- where the files are told, there is one of this name, and its first one has more bytes than the limit
abbrev pub IsLonger : Option (List NamedBytes) → List ℕ → ℕ → Type 0
IsLonger None name limit = Unit {0}
IsLonger (Some files) name limit = IsSomeAnd (bytes_of files name) (λ bytes. limit < length bytes)

-- the files are told, and none has this name
abbrev pub IsMissing : Option (List NamedBytes) → List ℕ → Type 0
IsMissing None name = ⊥
IsMissing (Some files) name = bytes_of files name ≡ None
