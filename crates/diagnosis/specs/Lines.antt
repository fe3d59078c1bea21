-- The lines of a diagnosis.
use Rattle.std.specs.Prelude.{ℕ, suc, List, [], ◌∷◌, ◌++◌, codes, slice_index_or, Option, Some, None, if◌then◌else◌}
use Rattle.std.specs.List.{flat_map}
use Rattle.std.specs.Fmt.{decimal}
use Rattle.ftpp_base.specs.Lists.{is_this}
use Rattle.config_table.specs.Table.{TableValue}
use Rattle.table_update.specs.declared.Update.{Update}
use Rattle.table_update.specs.declared.Update.TheVariants.{Mask, Admit, Timeouts, Dissolve, Form}
use Rattle.diagnosis.specs.Suspects.{only_one}
use Rattle.diagnosis.specs.Proposals.{proposals}

-- a number behind a blank
abbrev pub behind_blank : ℕ → List ℕ
behind_blank n = codes " " ++ decimal n

-- an element and its suspects
unfoldable pub suspects_line : ℕ → List ℕ → List ℕ
suspects_line ne left = codes "suspects " ++ decimal ne ++ flat_map behind_blank left ++ codes "\n"

-- the line of an element, where it is not the faulty one
abbrev pub line_of : Option ℕ → ℕ → List ℕ → List ℕ
line_of faulty ne left = if is_this faulty ne then [] else suspects_line ne left

-- the lines of all elements that are not faulty, whose numbers count from one on
abbrev pub suspects_lines : Option ℕ → ℕ → List (List ℕ) → List ℕ
suspects_lines faulty ne [] = []
suspects_lines faulty ne (left ∷ more) = line_of faulty ne left ++ suspects_lines faulty (suc ne) more

-- a member to mask
unfoldable pub member_line : ℕ → ℕ → List ℕ
member_line vid member = codes "mask " ++ decimal vid ++ codes " " ++ decimal member ++ codes "\n"

-- a proposal, which is a mask
abbrev pub mask_line : Update → List ℕ
mask_line (Mask vid member) = member_line vid member
mask_line (Admit vid member) = []
mask_line (Timeouts vid ts tr) = []
mask_line (Dissolve vid) = []
mask_line (Form vid members ts tr) = []

-- the proposals where an element is the only suspect
abbrev pub mask_lines : TableValue → Option ℕ → List ℕ
mask_lines table None = []
mask_lines table (Some ne) = flat_map mask_line (proposals table ne)

-- the least element that is not faulty
abbrev pub least : Option ℕ → ℕ
least faulty = if is_this faulty 0 then 1 else 0

-- The lines of a diagnosis: of each element that is not faulty its suspects, by element; then the proposals, where the least of
-- them has one suspect.
unfoldable pub diagnosis_lines : TableValue → Option ℕ → List (List ℕ) → List ℕ
diagnosis_lines table faulty suspects =
    suspects_lines faulty 0 suspects ++ mask_lines table (only_one (slice_index_or suspects (least faulty) []))
