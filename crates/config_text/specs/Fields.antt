-- The keys of a table, and what is wrong with one.
use Rattle.std.specs.Prelude.{ℕ, Bool, ◌&&◌, List, Option, Some, None, Result, Ok, Err}
use Rattle.std.specs.List.{list_any}
use Rattle.packet_format.specs.Packets.{same_bytes}
use Rattle.toml.specs.Data.{Data, Members, no_members, member}
use Rattle.config_text.specs.declared.errors.ConfigKey.{ConfigKey}
use Rattle.config_text.specs.declared.errors.ConfigKey.TheVariants.{Other}
use Rattle.config_text.specs.declared.errors.Place.{Place}
use Rattle.config_text.specs.declared.errors.TextError.{TextError}
use Rattle.config_text.specs.declared.errors.TextError.TheVariants.{NotToml, Key, Kind, Table, Memory}
use Rattle.config_table.specs.Table.{error_code}

-- a step after what did not fail
infixl 10 ◌>>=◌
abbrev pub ◌>>=◌ : {A B E : Type 0} → Result A E → (A → Result B E) → Result B E
(Ok x) >>= f = f x
(Err e) >>= f = Err e

abbrev pub place : Option ℕ → ConfigKey → Place
place group key = record { group = group; key = key }

-- what is of a kind, or the error that it is of another one
abbrev pub of_kind : {A : Type 0} → Place → Option A → Result A TextError
of_kind p (Some x) = Ok x
of_kind p None = Err (Kind p)

-- a value that must stand, and one that may be absent
abbrev pub required : {A : Type 0} → Place → (Data → Option A) → Option Data → Result A TextError
required p read None = Err (Key p)
required p read (Some d) = of_kind p (read d)

abbrev pub optional : {A : Type 0} → Place → (Data → Option A) → A → Option Data → Result A TextError
optional p read absent None = Ok absent
optional p read absent (Some d) = of_kind p (read d)

-- whether the key is one of these
abbrev pub is_one_of : List (List ℕ) → List ℕ → Bool
is_one_of names key = list_any (same_bytes key) names

-- whether each key is listed
abbrev pub are_listed : (List ℕ → Bool) → Members → Bool
are_listed listed no_members = Bool.true
are_listed listed (member key d ms) = listed key && are_listed listed ms

-- nothing, or the error that a key is not listed
abbrev pub only : Option ℕ → Bool → Result (Unit {0}) TextError
only group Bool.true = Ok tt
only group Bool.false = Err (Key (place group Other))

-- the number of each test
abbrev pub text_code : TextError → Option ℕ
text_code NotToml = Some 13
text_code (Key p) = Some 14
text_code (Kind p) = Some 15
text_code (Table e) = Some (error_code e)
text_code Memory = None
