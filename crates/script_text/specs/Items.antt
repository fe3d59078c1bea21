-- What the lines before a line say, the last line first.
use Rattle.std.specs.Prelude.{ℕ, ◌+◌, ◌==◌, List, [], ◌∷◌, ◌++◌, Option, Some, None, if◌then◌else◌}
use Rattle.packet_format.specs.declared.acts.Act.{Act}
use Rattle.script_text.specs.declared.items.Item.{Item}
use Rattle.script_text.specs.declared.items.Item.TheVariants.{Cycles, Faulty, Asked, Edited, Rejoined}
use Rattle.fault_script.specs.declared.Edit.{Edit}
use Rattle.script_text.specs.declared.items.SoFar.{SoFar}

-- the length of the run, where it was said
abbrev pub cycles_in : List Item → Option ℕ
cycles_in [] = None
cycles_in (Cycles c ∷ items) = Some c
cycles_in (Faulty e ∷ items) = cycles_in items
cycles_in (Asked c a ∷ items) = cycles_in items
cycles_in (Edited e ∷ items) = cycles_in items
cycles_in (Rejoined c next ∷ items) = cycles_in items

-- the element that is faulty from the start on
abbrev pub named_in : List Item → Option ℕ
named_in [] = None
named_in (Cycles c ∷ items) = named_in items
named_in (Faulty e ∷ items) = Some e
named_in (Asked c a ∷ items) = named_in items
named_in (Edited e ∷ items) = named_in items
named_in (Rejoined c next ∷ items) = named_in items

-- the cycle of the last line with one
abbrev pub last_in : List Item → Option ℕ
last_in [] = None
last_in (Cycles c ∷ items) = last_in items
last_in (Faulty e ∷ items) = last_in items
last_in (Asked c a ∷ items) = Some c
last_in (Edited e ∷ items) = Some e.cycle
last_in (Rejoined c next ∷ items) = Some c

-- how many posts and reads there are of a cycle
abbrev pub asked_in : ℕ → List Item → ℕ
asked_in at [] = 0
asked_in at (Cycles c ∷ items) = asked_in at items
asked_in at (Faulty e ∷ items) = asked_in at items
asked_in at (Asked c a ∷ items) = (if c == at then 1 else 0) + asked_in at items
asked_in at (Edited e ∷ items) = asked_in at items
asked_in at (Rejoined c next ∷ items) = asked_in at items

-- what an item adds to the acts
abbrev pub acts_of : Item → List (ℕ × Act)
acts_of (Cycles c) = []
acts_of (Faulty e) = []
acts_of (Asked c a) = (c, a) ∷ []
acts_of (Edited e) = []
acts_of (Rejoined c next) = []

-- what is asked of each cycle, in order
abbrev pub acts_in : List Item → List (ℕ × Act)
acts_in [] = []
acts_in (item ∷ items) = acts_in items ++ acts_of item

abbrev pub edits_of : Item → List Edit
edits_of (Cycles c) = []
edits_of (Faulty e) = []
edits_of (Asked c a) = []
edits_of (Edited e) = e ∷ []
edits_of (Rejoined c next) = []

-- how frames are changed, in order
abbrev pub edits_in : List Item → List Edit
edits_in [] = []
edits_in (item ∷ items) = edits_in items ++ edits_of item

abbrev pub rejoins_of : Item → List (ℕ × Option ℕ)
rejoins_of (Cycles c) = []
rejoins_of (Faulty e) = []
rejoins_of (Asked c a) = []
rejoins_of (Edited e) = []
rejoins_of (Rejoined c next) = (c, next) ∷ []

-- the cycles of rejoins, with who is faulty from then on
abbrev pub rejoins_in : List Item → List (ℕ × Option ℕ)
rejoins_in [] = []
rejoins_in (item ∷ items) = rejoins_in items ++ rejoins_of item

-- the element that is faulty after these lines
abbrev pub faulty_in : List Item → Option ℕ
faulty_in [] = None
faulty_in (Cycles c ∷ items) = faulty_in items
faulty_in (Faulty e ∷ items) = Some e
faulty_in (Asked c a ∷ items) = faulty_in items
faulty_in (Edited e ∷ items) = faulty_in items
faulty_in (Rejoined c next ∷ items) = next

abbrev pub asked_of : Option ℕ → List Item → ℕ
asked_of None items = 0
asked_of (Some c) items = asked_in c items

-- what the next line has to know of these
unfoldable pub before : ℕ → List Item → SoFar
before n items = record {
  n = n;
  cycles = cycles_in items;
  named = named_in items;
  faulty = faulty_in items;
  last = last_in items;
  asked = asked_of (last_in items) items;
}
