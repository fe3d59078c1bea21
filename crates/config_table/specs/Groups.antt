-- A group and its live members.
use Rattle.std.specs.Prelude.{ℕ, Bool, not, ◌&&◌, ◌==◌, nat_lt, ◌+◌, List, [], ◌∷◌, Option, Some, None, if◌then◌else◌, map, filter, length}
use Rattle.std.specs.List.{list_any, enumerate_from}
use Rattle.ftpp_base.specs.Sets.{has}
use Rattle.ftpp_base.specs.declared.element.Proc.{Proc}
use Rattle.config_table.specs.declared.groups.Group.{Group}
use Rattle.config_table.specs.declared.limits.TheConstants.{USUAL_OUTS, USUAL_INS}

-- whether two processors are one
abbrev pub same_proc : Proc → Proc → Bool
same_proc a b = a.ne == b.ne && a.port == b.port

-- the members in the order of the table
abbrev pub members_of : Group → List Proc
members_of g = g.members.items

-- whether the processor is a member
abbrev pub is_member : Group → Proc → Bool
is_member g proc = list_any (same_proc proc) (members_of g)

-- whether there is a member of that index and it is not masked
abbrev pub is_live : Group → ℕ → Bool
is_live g index = nat_lt index (length (members_of g)) && not (has g.masked index)

-- whether the member of a seat is not masked
abbrev pub is_unmasked : Group → ℕ × Proc → Bool
is_unmasked g seat = not (has g.masked seat.0)

-- the live members, each with its index
abbrev pub live_seats : Group → List (ℕ × Proc)
live_seats g = filter (is_unmasked g) (enumerate_from 0 (members_of g))

-- the live members in the order of the table
abbrev pub live_members : Group → List Proc
live_members g = map (λ seat. seat.1) (live_seats g)

-- the elements of some processors
abbrev pub elements_of : List Proc → List ℕ
elements_of procs = map (λ proc. proc.ne) procs

-- the elements of the live members
abbrev pub live_elements : Group → List ℕ
live_elements g = elements_of (live_members g)

-- how many live members there are
abbrev pub live_count : Group → ℕ
live_count g = length (live_seats g)

-- the index of a processor among some members, counted from a number
abbrev pub index_from : Proc → ℕ → List Proc → Option ℕ
index_from proc i [] = None
index_from proc i (p ∷ ps) = if same_proc proc p then Some i else index_from proc (i + 1) ps

-- the processor at an element and a port
abbrev pub proc_at : ℕ × ℕ → Proc
proc_at seat = record { ne = seat.0; port = seat.1 }

-- the group of a number with these members, none of them masked, and with the usual timeouts and limits
abbrev pub usual_group : ℕ → List Proc → Group
usual_group vid procs = record {
  vid = vid;
  members = record { items = procs };
  masked = record { bits = 0 };
  ts = 3;
  tr = 2;
  tx = 0;
  outs = USUAL_OUTS;
  ins = USUAL_INS;
}
