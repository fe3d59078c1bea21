-- What a step reads, where it is told, decides what it does.
use Rattle.std.proofs.Common.{◌≡◌, ℕ, ◌<◌, ◌≤◌, List, length, Option, Some, None, Result, Ok, Err, refl, sym, subst, ap, ◌∙◌}
use Rattle.std.specs.Prelude.{IfSome, IsSomeAnd}
use Rattle.std.proofs.lemmas.Bool.{lt-ltb, le-ltb}
use Rattle.ftpp_outside.specs.Files.{NamedBytes, bytes_of, Loads, IsLonger}
use Rattle.config_table.specs.Table.{TableValue}
use Rattle.config_text.specs.Reading.{config_of}
use Rattle.command_steps.specs.declared.status.Status.{Status}
use Rattle.command_steps.specs.declared.status.Status.TheVariants.{Done, Usage, Script, Config, Read, Write, Memory, TooLong, Stream}
use Rattle.command_steps.specs.Ends.{Outcome, Ends, too_long}
use Rattle.command_steps.specs.Known.{Known, Untold, Ending, Given, ◌>>=◌, IsKnown, IsHalt, Stops, Steps, EndsAs}
use Rattle.command_steps.specs.Loading.{file_limit, script_limit, table_or, table_of_file, table_if_there, table_named, bytes_within, bytes_told}

-- ---- a fault or want of memory before anything is written

pub stops_read : {A : Type 0} (known : Known A) (old new : Option (List ℕ)) → new ≡ old → Stops known Read old new
stops_read Untold old new e = tt
stops_read (Ending o) old new e = e
stops_read (Given x) old new e = (tt, e)

pub stops_memory : {A : Type 0} (known : Known A) (old new : Option (List ℕ)) → new ≡ old → Stops known Memory old new
stops_memory Untold old new e = tt
stops_memory (Ending o) old new e = e
stops_memory (Given x) old new e = (tt, e)

-- ---- a file

file_short : (bytes : List ℕ) → length bytes ≤ file_limit → table_of_file bytes ≡ table_or (config_of bytes)
unfolding table_of_file
file_short bytes l = rw (le-ltb file_limit (length bytes) l) refl

file_long : (bytes : List ℕ) → file_limit < length bytes → table_of_file bytes ≡ Ending too_long
unfolding table_of_file
file_long bytes l = rw (lt-ltb file_limit (length bytes) l) refl

-- a step of what is not told
unknown : {A B : Type 0} (view : B → A) (known : Known A) (r : Result B Status) (old new : Option (List ℕ)) → Steps view known r old new → Steps view Untold r old new
unknown view known (Ok x) old new h = (tt, h.1)
unknown view known (Err status) old new h = tt

pub loads_short : (view : TableValue → TableValue) (files : Option (List NamedBytes)) (name bytes : List ℕ) (r : Result TableValue Status) (old new : Option (List ℕ)) → Loads files name bytes → length bytes ≤ file_limit
    → Steps view (table_or (config_of bytes)) r old new → Steps view (table_named files name) r old new
loads_short view None name bytes r old new e l h = unknown view (table_or (config_of bytes)) r old new h
loads_short view (Some files) name bytes r old new e l h = subst (λ (k : Known TableValue). Steps view k r old new) (sym (ap table_if_there e ∙ file_short bytes l)) h

long_there : (bytes : Option (List ℕ)) (status : Status) (old new : Option (List ℕ)) → IsSomeAnd bytes (λ bs. file_limit < length bs) → Ends too_long status old new → Stops (table_if_there bytes) status old new
long_there None status old new l h = absurd l
long_there (Some bytes) status old new l h = subst (λ (k : Known TableValue). Stops k status old new) (sym (file_long bytes l)) h

pub loads_long : (files : Option (List NamedBytes)) (name : List ℕ) (status : Status) (old new : Option (List ℕ)) → IsLonger files name file_limit → Ends too_long status old new → Stops (table_named files name) status old new
loads_long None name status old new l h = tt
loads_long (Some files) name status old new l h = long_there (bytes_of files name) status old new l h

-- ---- a script, or a trace

bytes_short : (xs bytes : List ℕ) → bytes ≡ xs → length bytes ≤ script_limit → bytes_within xs ≡ Given bytes
unfolding bytes_within
bytes_short xs bytes e l = rw (← e, le-ltb script_limit (length bytes) l) refl

bytes_long : (bytes : List ℕ) → script_limit < length bytes → bytes_within bytes ≡ Ending too_long
unfolding bytes_within
bytes_long bytes l = rw (lt-ltb script_limit (length bytes) l) refl

pub reads_short : (told : Option (List ℕ)) (bytes : List ℕ) → IfSome told (λ xs. bytes ≡ xs) → length bytes ≤ script_limit → IsKnown (bytes_told told) bytes
reads_short None bytes e l = tt
reads_short (Some xs) bytes e l = subst (λ (k : Known (List ℕ)). IsKnown k bytes) (sym (bytes_short xs bytes e l)) refl

pub reads_long : (told : Option (List ℕ)) (status : Status) (old new : Option (List ℕ)) → IfSome told (λ xs. script_limit < length xs) → Ends too_long status old new → Stops (bytes_told told) status old new
reads_long None status old new l h = tt
reads_long (Some xs) status old new l h = subst (λ (k : Known (List ℕ)). Stops k status old new) (sym (bytes_long xs l)) h

-- ---- one step after another

halted : (o : Outcome) (status : Status) (old new : Option (List ℕ)) → IsHalt status → new ≡ old → Ends o status old new
halted o Read old new i e = e
halted o Memory old new i e = e
halted o Write old new i e = absurd i
halted o Done old new i e = absurd i
halted o Usage old new i e = absurd i
halted o TooLong old new i e = absurd i
halted o (Script line code) old new i e = absurd i
halted o (Config code) old new i e = absurd i
halted o (Stream cycle code) old new i e = absurd i

halts : {A : Type 0} (known : Known A) (status : Status) (old new : Option (List ℕ)) → IsHalt status → new ≡ old → Stops known status old new
halts Untold status old new i e = tt
halts (Ending o) status old new i e = halted o status old new i e
halts (Given o) status old new i e = (i, e)

-- the first step ends the call, or gives a value with which it goes on
pub stops_there : {A B : Type 0} (known : Known A) (more : A → Known B) (status : Status) (old new : Option (List ℕ)) → Stops known status old new → Stops (known >>= more) status old new
stops_there Untold more status old new h = tt
stops_there (Ending o) more status old new h = h
stops_there (Given x) more status old new h = halts (more x) status old new h.0 h.1

pub stops_then : {A B : Type 0} (known : Known A) (x : A) (more : A → Known B) (status : Status) (old mid new : Option (List ℕ)) → IsKnown known x → mid ≡ old → Stops (more x) status mid new → Stops (known >>= more) status old new
stops_then Untold x more status old mid new i e h = tt
stops_then (Ending o) x more status old mid new i e h = absurd i
stops_then (Given y) x more status old mid new i e h = rw (← e, ← i) h

pub known_then : {A B : Type 0} (known : Known A) (x : A) (more : A → Known B) (y : B) → IsKnown known x → IsKnown (more x) y → IsKnown (known >>= more) y
known_then Untold x more y i h = tt
known_then (Ending o) x more y i h = absurd i
known_then (Given z) x more y i h = rw (← i) h

-- the call ends at the first step, or goes on with what it gives
pub ends_there : {A : Type 0} (known : Known A) (more : A → Known Outcome) (status : Status) (old new : Option (List ℕ)) → Stops known status old new → EndsAs (known >>= more) status old new
ends_there known more status old new h = ends_stopped (known >>= more) status old new (stops_there known more status old new h) where
  ends_stopped : (known : Known Outcome) (status : Status) (old new : Option (List ℕ)) → Stops known status old new → EndsAs known status old new
  ends_stopped Untold status old new h = tt
  ends_stopped (Ending o) status old new h = h
  ends_stopped (Given o) status old new h = halted o status old new h.0 h.1

pub ends_then : {A : Type 0} (known : Known A) (x : A) (more : A → Known Outcome) (status : Status) (old mid new : Option (List ℕ)) → IsKnown known x → mid ≡ old → EndsAs (more x) status mid new → EndsAs (known >>= more) status old new
ends_then Untold x more status old mid new i e h = tt
ends_then (Ending o) x more status old mid new i e h = absurd i
ends_then (Given y) x more status old mid new i e h = rw (← e, ← i) h
