-- The table of commands: what the words of a command line ask for, if they are lawful.
use Rattle.std.specs.Prelude.{ℕ, ◌+◌, ◌-◌, ◌*◌, ◌^◌, Bool, ◌&&◌, ◌==◌, nat_le, List, [], ◌∷◌, length, take, drop, codes, Option, Some, None, option_map, if◌then◌else◌}
use Rattle.ftpp_base.specs.declared.limits.TheConstants.{MOST_CYCLES}
use Rattle.command_words.specs.declared.reading.TheConstants.{MOST_MADE, MOST_SWEPT, MOST_STARTS}
use Rattle.std.specs.Str.{bytes_eq}
use Rattle.command_words.specs.Numbers.{number_within, element_of}

-- a step after what is there
infixl 10 ◌>>=◌
abbrev pub ◌>>=◌ : {A B : Type 0} → Option A → (A → Option B) → Option B
(Some x) >>= f = f x
None >>= f = None

-- A command. A configuration is named by its file's bytes.
pub data CommandValue : Type 0 where
  Run : (config : Option (List ℕ)) → CommandValue
  Trace : (config : Option (List ℕ)) → CommandValue
  Check : (config : List ℕ) → CommandValue
  Migrate : (config : List ℕ) → CommandValue
  Soak : (start cycles : ℕ) → CommandValue
  Sweep : (start count cycles : ℕ) → CommandValue
  Make : (start cycles : ℕ) → CommandValue
  Node : (element cycles : ℕ) (config : Option (List ℕ)) → CommandValue
  Audit : (named : Option ℕ) (config : Option (List ℕ)) → CommandValue
  Diagnose : (config : Option (List ℕ)) → CommandValue

-- whether the word is this one
abbrev pub is_word : List ℕ → List ℕ → Bool
is_word word name = bytes_eq word name

-- ---- options

-- a file's name: not empty, and not beginning with a dash
unfoldable pub name_of : List ℕ → Option (List ℕ)
name_of [] = None
name_of (b ∷ bytes) = if b == 45 then None else Some (b ∷ bytes)

-- what follows some bytes at the front of a word
abbrev pub behind : List ℕ → List ℕ → Option (List ℕ)
behind front word = if bytes_eq (take (length front) word) front then Some (drop (length front) word) else None

-- `--config NAME` or `--config=NAME`
unfoldable pub config_of : List (List ℕ) → Option (List ℕ)
config_of (word ∷ []) = behind (codes "--config=") word >>= name_of
config_of (option ∷ name ∷ []) = if is_word option (codes "--config") then name_of name else None
config_of _ = None

-- the same, or no words
unfoldable pub optional_config : List (List ℕ) → Option (Option (List ℕ))
optional_config [] = Some None
optional_config (word ∷ words) = option_map Some (config_of (word ∷ words))

-- ---- numbers

abbrev pub last_start : ℕ
last_start = 2 ^ 64 - 1

abbrev pub start_of : List ℕ → Option ℕ
start_of word = number_within 0 last_start word

abbrev pub cycles_of : List ℕ → Option ℕ
cycles_of word = number_within 1 MOST_CYCLES word

-- ---- the commands, by the words behind their name

unfoldable pub soak_of : List (List ℕ) → Option CommandValue
soak_of (start ∷ cycles ∷ []) = do
  s ← start_of start
  c ← cycles_of cycles
  Some (Soak s c)
soak_of _ = None

-- the last start is in range, too, and there are at most 1,000,000 cycles in all
abbrev pub swept : ℕ → ℕ → ℕ → Option CommandValue
swept s k c = if nat_le (s + k - 1) last_start && nat_le (k * c) MOST_SWEPT then Some (Sweep s k c) else None

unfoldable pub sweep_of : List (List ℕ) → Option CommandValue
sweep_of (start ∷ count ∷ cycles ∷ []) = do
  s ← start_of start
  k ← number_within 1 MOST_STARTS count
  c ← cycles_of cycles
  swept s k c
sweep_of _ = None

unfoldable pub make_of : List (List ℕ) → Option CommandValue
make_of (start ∷ cycles ∷ []) = do
  s ← start_of start
  c ← number_within 1 MOST_MADE cycles
  Some (Make s c)
make_of _ = None

unfoldable pub node_of : List (List ℕ) → Option CommandValue
node_of (element ∷ cycles ∷ options) = do
  e ← element_of element
  c ← cycles_of cycles
  config ← optional_config options
  Some (Node e c config)
node_of _ = None

-- an element, or none
unfoldable pub named_of : List ℕ → Option (Option ℕ)
named_of word = if is_word word (codes "none") then Some None else option_map Some (element_of word)

unfoldable pub audit_of : List (List ℕ) → Option CommandValue
audit_of (named ∷ options) = do
  e ← named_of named
  config ← optional_config options
  Some (Audit e config)
audit_of [] = None

-- what the words ask for, None exactly where they are not lawful
unfoldable pub command_of : List (List ℕ) → Option CommandValue
command_of [] = None
command_of (name ∷ words) =
    if is_word name (codes "run") then option_map Run (optional_config words)
    else if is_word name (codes "trace") then option_map Trace (optional_config words)
    else if is_word name (codes "check") then option_map Check (config_of words)
    else if is_word name (codes "migrate") then option_map Migrate (config_of words)
    else if is_word name (codes "soak") then soak_of words
    else if is_word name (codes "sweep") then sweep_of words
    else if is_word name (codes "make") then make_of words
    else if is_word name (codes "node") then node_of words
    else if is_word name (codes "audit") then audit_of words
    else if is_word name (codes "diagnose") then option_map Diagnose (optional_config words)
    else None
