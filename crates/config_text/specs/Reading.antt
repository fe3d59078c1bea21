-- What a document reads as: a table, or the first test that it fails.
use Rattle.std.specs.Prelude.{ℕ, Bool, ◌||◌, ◌==◌, List, [], ◌∷◌, ◌++◌, length, codes, Option, Some, None, Result, Ok, Err, if◌then◌else◌}
use Rattle.toml.specs.Data.{Data, as_table, as_array, Items, no_items, item, Members, get_member}
use Rattle.std.specs.Str.{is_utf8}
use Rattle.toml.specs.Parse.{parse_document}
use Rattle.ftpp_base.specs.declared.element.Proc.{Proc}
use Rattle.ftpp_base.specs.declared.sets.Set8.{Set8}
use Rattle.arrayvec.specs.ArrayVec.{ArrayVec}
use Rattle.config_table.specs.declared.groups.Group.{Group}
use Rattle.config_table.specs.declared.errors.ConfigError.{ConfigError}
use Rattle.config_table.specs.declared.limits.TheConstants.{USUAL_OUTS, USUAL_INS}
use Rattle.config_table.specs.Table.{TableValue, table_error}
use Rattle.config_text.specs.declared.errors.ConfigKey.TheVariants.{Version, Elements, Manager, Groups, Vid, Members as MembersKey, Ts, Tr, Masked, Tx, Outs, Ins}
use Rattle.config_text.specs.declared.errors.TextError.{TextError}
use Rattle.config_text.specs.declared.errors.TextError.TheVariants.{NotToml, Table}
use Rattle.config_text.specs.Fields.{◌>>=◌, place, of_kind, required, optional, is_one_of, are_listed, only}
use Rattle.config_text.specs.Values.{number_of, version_of, procs_of, set_of}

-- the keys at the top, and those of a group
unfoldable pub is_top_key : List ℕ → Bool
is_top_key = is_one_of (codes "version" ∷ codes "elements" ∷ codes "manager" ∷ codes "group" ∷ [])

unfoldable pub is_group_key : ℕ → List ℕ → Bool
is_group_key version key =
    is_one_of (codes "vid" ∷ codes "members" ∷ codes "ts" ∷ codes "tr" ∷ codes "masked" ∷ []) key
    || (if version == 2 then is_one_of (codes "tx" ∷ codes "outs" ∷ codes "ins" ∷ []) key else Bool.false)

-- the tests at the top
unfoldable pub top_only : Members → Result (Unit {0}) TextError
top_only ms = only None (are_listed is_top_key ms)

unfoldable pub version_in : Members → Result ℕ TextError
version_in ms = required (place None Version) version_of (get_member (codes "version") ms)

unfoldable pub elements_in : Members → Result ℕ TextError
elements_in ms = required (place None Elements) (number_of 255) (get_member (codes "elements") ms)

unfoldable pub manager_in : Members → Result ℕ TextError
manager_in ms = required (place None Manager) (number_of 255) (get_member (codes "manager") ms)

unfoldable pub groups_in : Members → Result Items TextError
groups_in ms = required (place None Groups) as_array (get_member (codes "group") ms)

-- the tests of the group at a place
unfoldable pub table_at : ℕ → Data → Result Members TextError
table_at at d = of_kind (place (Some at) Groups) (as_table d)

unfoldable pub group_only : ℕ → ℕ → Members → Result (Unit {0}) TextError
group_only version at ms = only (Some at) (are_listed (is_group_key version) ms)

unfoldable pub vid_in : ℕ → Members → Result ℕ TextError
vid_in at ms = required (place (Some at) Vid) (number_of 255) (get_member (codes "vid") ms)

unfoldable pub members_in : ℕ → Members → Result (ArrayVec Proc) TextError
members_in at ms = required (place (Some at) MembersKey) procs_of (get_member (codes "members") ms)

unfoldable pub ts_in : ℕ → Members → Result ℕ TextError
ts_in at ms = required (place (Some at) Ts) (number_of 65535) (get_member (codes "ts") ms)

unfoldable pub tr_in : ℕ → Members → Result ℕ TextError
tr_in at ms = required (place (Some at) Tr) (number_of 65535) (get_member (codes "tr") ms)

unfoldable pub masked_in : ℕ → Members → Result Set8 TextError
masked_in at ms = optional (place (Some at) Masked) set_of (record { bits = 0 }) (get_member (codes "masked") ms)

unfoldable pub tx_in : ℕ → Members → Result ℕ TextError
tx_in at ms = optional (place (Some at) Tx) (number_of 65535) 0 (get_member (codes "tx") ms)

unfoldable pub outs_in : ℕ → Members → Result ℕ TextError
outs_in at ms = optional (place (Some at) Outs) (number_of 255) USUAL_OUTS (get_member (codes "outs") ms)

unfoldable pub ins_in : ℕ → Members → Result ℕ TextError
ins_in at ms = optional (place (Some at) Ins) (number_of 255) USUAL_INS (get_member (codes "ins") ms)

-- the group that an entry at a place is
unfoldable pub group_from : ℕ → ℕ → Data → Result Group TextError
group_from version at d = do
  ms ← table_at at d
  listed ← group_only version at ms
  vid ← vid_in at ms
  procs ← members_in at ms
  ts ← ts_in at ms
  tr ← tr_in at ms
  masked ← masked_in at ms
  tx ← tx_in at ms
  outs ← outs_in at ms
  ins ← ins_in at ms
  Ok (record { vid = vid; members = procs; masked = masked; ts = ts; tr = tr; tx = tx; outs = outs; ins = ins })

-- the groups of some entries, after those found
abbrev pub groups_from : ℕ → List Group → Items → Result (List Group) TextError
groups_from version found no_items = Ok found
groups_from version found (item d ds) = do
  g ← group_from version (length found) d
  groups_from version (found ++ g ∷ []) ds

-- a table that breaks no clause
abbrev pub valid_or : TableValue → Option ConfigError → Result TableValue TextError
valid_or table None = Ok table
valid_or table (Some e) = Err (Table e)

unfoldable pub checked : TableValue → Result TableValue TextError
checked table = valid_or table (table_error table)

-- the table that a document is
unfoldable pub table_from : Members → Result TableValue TextError
table_from ms = do
  listed ← top_only ms
  version ← version_in ms
  n ← elements_in ms
  manager ← manager_in ms
  entries ← groups_in ms
  groups ← groups_from version [] entries
  checked (record { n = n; manager = manager; groups = groups })

-- what is read of what may be a document
abbrev pub read_of : Option Members → Result TableValue TextError
read_of None = Err NotToml
read_of (Some ms) = table_from ms

-- the document that a text is
unfoldable pub document_of : List ℕ → Option Members
document_of bytes = if is_utf8 bytes then parse_document bytes else None

-- what a text reads as
unfoldable pub config_of : List ℕ → Result TableValue TextError
config_of bytes = read_of (document_of bytes)
