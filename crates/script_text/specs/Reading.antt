-- A script as its lines say, or its first refused line with its first code.
use Rattle.std.specs.Prelude.{◌≡◌, ℕ, ◌+◌, ◌<◌, ◌++◌, ◌⊎◌, length, List, [], ◌∷◌, count_by, Option, Some, None, Result, Ok, Err}
use Rattle.packet_format.specs.declared.acts.Act.{Act}
use Rattle.script_text.specs.declared.items.Item.{Item}
use Rattle.fault_script.specs.declared.Edit.{Edit}
use Rattle.script_text.specs.declared.Script.{Script}
use Rattle.script_text.specs.declared.ScriptError.{ScriptError}
use Rattle.script_text.specs.declared.ScriptError.TheVariants.{At, Memory}
use Rattle.script_words.specs.declared.refusals.Refused.{Refused}
use Rattle.script_words.specs.declared.refusals.Refused.TheVariants.{NoCycles}
use Rattle.script_words.specs.Refusals.{refused_code}
use Rattle.script_words.specs.Lines.{is_newline, words_of, lines_of}
use Rattle.script_words.specs.Fields.{◌>>=◌}
use Rattle.script_text.specs.Items.{cycles_in, named_in, last_in, asked_in, acts_of, acts_in, edits_of, edits_in, rejoins_of, rejoins_in, before}
use Rattle.script_text.specs.Judged.{line_read, after, InOrder}
use Rattle.script_text.specs.declared.reading.Reader.{Reader}

-- a refused line and its code
pub record Refusal : Type 0 where
  pub line : ℕ
  pub code : ℕ

-- a script without where it lies in memory
pub record Plan : Type 0 where
  pub cycles : ℕ
  pub faulty : Option ℕ
  pub acts : List (ℕ × Act)
  pub edits : List Edit
  pub rejoins : List (ℕ × Option ℕ)

abbrev pub plan_of : Script → Plan
plan_of s = record { cycles = s.cycles; faulty = s.faulty; acts = s.acts.items; edits = s.edits.items; rejoins = s.rejoins.items }

-- the code is that of this line
abbrev pub at_line : {A : Type 0} → ℕ → Result A Refused → Result A Refusal
at_line line (Ok x) = Ok x
at_line line (Err why) = Err (record { line = line; code = refused_code why })

-- with the item of one line more
abbrev pub onto : Option Item → List Item → List Item
onto None items = items
onto (Some item) items = item ∷ items

-- the items of the lines from a number on, behind those of the lines before
unfoldable pub items_from : ℕ → List Item → ℕ → List (List ℕ) → Result (List Item) Refusal
items_from n items line [] = Ok items
items_from n items line (bytes ∷ lines) = do
  item ← at_line line (line_read (before n items) (words_of bytes))
  items_from n (onto item items) (line + 1) lines

abbrev pub plan_with_items : ℕ → List Item → Plan
plan_with_items cycles items = record { cycles = cycles; faulty = named_in items; acts = acts_in items; edits = edits_in items; rejoins = rejoins_in items }

abbrev pub plan_from : ℕ → List Item → Option ℕ → Result Plan Refusal
plan_from last items None = Err (record { line = last; code = refused_code NoCycles })
plan_from last items (Some cycles) = Ok (plan_with_items cycles items)

-- the script of a text for n elements
unfoldable pub script_of : ℕ → List ℕ → Result Plan Refusal
script_of n bytes = do
  items ← items_from n [] 1 (lines_of bytes)
  plan_from (1 + count_by is_newline bytes) items (cycles_in items)

-- the lines in front are accepted, and this one is the first that is not
pub record IsFirstRefused (n : ℕ) (lines : List (List ℕ)) (r : Refusal) : Type 0 where
  pub front : List (List ℕ)
  pub words : List ℕ
  pub back : List (List ℕ)
  pub items : List Item
  pub parts : lines ≡ front ++ words ∷ back
  pub place : r.line ≡ 1 + length front
  pub accepted : items_from n [] 1 front ≡ Ok items
  pub why : Refused
  pub refused : line_read (before n items) (words_of words) ≡ Err why
  pub code : r.code ≡ refused_code why

-- a refusal is that of the first refused line, or of the end without a line of cycles
abbrev pub TellsFirst : ℕ → List ℕ → Refusal → Type 0
TellsFirst n bytes r = IsFirstRefused n (lines_of bytes) r ⊎ ((r.line ≡ 1 + count_by is_newline bytes) × (r.code ≡ refused_code NoCycles))

abbrev pub RefusesFirst : ℕ → List ℕ → Result Script ScriptError → Type 0
RefusesFirst n bytes (Ok script) = Unit {0}
RefusesFirst n bytes (Err Memory) = Unit {0}
RefusesFirst n bytes (Err (At line code)) = TellsFirst n bytes (record { line = line; code = code })

-- what was answered is what the definition gives, unless memory ran out
abbrev pub Reads : Result Script ScriptError → Result Plan Refusal → Type 0
Reads (Ok script) read = read ≡ Ok (plan_of script)
Reads (Err Memory) read = Unit {0}
Reads (Err (At line code)) read = read ≡ Err (record { line = line; code = code })

-- later than the last line with a cycle
abbrev pub IsLater : Option ℕ → ℕ → Type 0
IsLater None c = Unit {0}
IsLater (Some last) c = last < c

-- what a reader holds after the lines of these items
pub record Stands (n : ℕ) (items : List Item) (r : Reader) : Type 0 where
  pub so_far : r.so_far ≡ before n items
  pub acts : r.acts.items ≡ acts_in items
  pub edits : r.edits.items ≡ edits_in items
  pub rejoins : r.rejoins.items ≡ rejoins_in items
  pub later : (c : ℕ) → IsLater (last_in items) c → asked_in c items ≡ 0

-- a reader with one item more
pub record Keeps (old : Reader) (item : Item) (new : Reader) : Type 0 where
  pub so_far : new.so_far ≡ after old.so_far item
  pub acts : new.acts.items ≡ old.acts.items ++ acts_of item
  pub edits : new.edits.items ≡ old.edits.items ++ edits_of item
  pub rejoins : new.rejoins.items ≡ old.rejoins.items ++ rejoins_of item

-- what became of an item: kept, or no memory was left
abbrev pub KeepsIfRoom : Reader → Item → Result Unit ScriptError → Reader → Type 0
KeepsIfRoom old item (Ok u) new = Keeps old item new
KeepsIfRoom old item (Err e) new = e ≡ Memory

-- what a line does to a reader
abbrev pub Takes : Reader → Result (Option Item) Refused → ℕ → Result Unit ScriptError → Reader → Type 0
Takes old (Err why) line r new = r ≡ Err (At line (refused_code why))
Takes old (Ok None) line r new = (r ≡ Ok tt) × (new ≡ old)
Takes old (Ok (Some item)) line r new = InOrder old.so_far item × KeepsIfRoom old item r new

-- what reading all lines leaves
abbrev pub TakesAll : ℕ → List ℕ → Result ℕ ScriptError → Reader → Type 0
TakesAll n bytes (Ok last) new = (last ≡ 1 + count_by is_newline bytes) × ((items : List Item) × (items_from n [] 1 (lines_of bytes) ≡ Ok items) × Stands n items new)
TakesAll n bytes (Err Memory) new = Unit {0}
TakesAll n bytes (Err (At line code)) new = items_from n [] 1 (lines_of bytes) ≡ Err (record { line = line; code = code })

-- the script that a reader holds after the last line
abbrev pub plan_with : ℕ → Option ℕ → Option ℕ → List (ℕ × Act) → List Edit → List (ℕ × Option ℕ) → Result Plan Refusal
plan_with last None named acts edits rejoins = Err (record { line = last; code = refused_code NoCycles })
plan_with last (Some cycles) named acts edits rejoins = Ok (record { cycles = cycles; faulty = named; acts = acts; edits = edits; rejoins = rejoins })

abbrev pub plan_held : ℕ → Reader → Result Plan Refusal
plan_held last r = plan_with last r.so_far.cycles r.so_far.named r.acts.items r.edits.items r.rejoins.items
