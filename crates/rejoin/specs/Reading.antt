-- What bytes can be at most: the parts of a state by their places.
use Rattle.std.specs.Prelude.{ℕ, ◌+◌, ◌*◌, ◌==◌, min, List, [], ◌∷◌, slice_index, slice_range, Option, Some, None, if◌then◌else◌}
use Rattle.ftpp_base.specs.Lists.{each_below}
use Rattle.ftpp_base.specs.declared.element.Proc.{Proc}
use Rattle.packet_format.specs.Numbers.{number_from}
use Rattle.packet_format.specs.declared.Descriptor.{Descriptor}
use Rattle.config_table.specs.declared.groups.Group.{Group}
use Rattle.config_table.specs.declared.decisions.StateRow.{StateRow}
use Rattle.config_table.specs.Table.{TableValue}

-- the number in the bytes from one place to another
abbrev pub number_at : List ℕ → ℕ → ℕ → ℕ
number_at bytes from to = number_from (slice_range bytes from to)

-- the member of an index, in the 19 bytes of a group
abbrev pub member_from : List ℕ → ℕ → Proc
member_from bytes i = record { ne = slice_index bytes (2 + 2 * i); port = slice_index bytes (3 + 2 * i) }

-- the group of 19 bytes
unfoldable pub group_from : List ℕ → Group
group_from bytes = record {
  vid = slice_index bytes 0;
  members = record { items = each_below (min (slice_index bytes 1) 4) (member_from bytes) };
  masked = record { bits = slice_index bytes 10 };
  ts = number_at bytes 11 13;
  tr = number_at bytes 13 15;
  tx = number_at bytes 15 17;
  outs = slice_index bytes 17;
  ins = slice_index bytes 18;
}

-- the request of 28 bytes
unfoldable pub request_from : List ℕ → Option (Descriptor × ℕ × ℕ)
request_from bytes =
    if slice_index bytes 0 == 0 then None
    else Some (record { dest = slice_index bytes 1; class = slice_index bytes 2; source = slice_index bytes 3 }, number_at bytes 4 8, number_at bytes 8 12)

-- the row of 28 bytes, of a group
unfoldable pub row_from : ℕ → List ℕ → StateRow
row_from vid bytes = record {
  vid = vid;
  request = request_from bytes;
  lags = number_at bytes 12 16 ∷ number_at bytes 16 20 ∷ number_at bytes 20 24 ∷ number_at bytes 24 28 ∷ [];
}

-- the group of an index, and its row
abbrev pub group_at : List ℕ → ℕ → Group
group_at bytes i = group_from (slice_range bytes (7 + 47 * i) (26 + 47 * i))

abbrev pub row_at : List ℕ → ℕ → StateRow
row_at bytes i = row_from (slice_index bytes (7 + 47 * i)) (slice_range bytes (26 + 47 * i) (54 + 47 * i))

-- how many groups there are
abbrev pub count_from : List ℕ → ℕ
count_from bytes = min (slice_index bytes 6) 40

-- the groups and the rows of a state
abbrev pub groups_from : List ℕ → List Group
groups_from bytes = each_below (count_from bytes) (group_at bytes)

abbrev pub rows_from : List ℕ → List StateRow
rows_from bytes = each_below (count_from bytes) (row_at bytes)

-- its table
abbrev pub table_from : List ℕ → TableValue
table_from bytes = record { n = slice_index bytes 4; manager = slice_index bytes 5; groups = groups_from bytes }
