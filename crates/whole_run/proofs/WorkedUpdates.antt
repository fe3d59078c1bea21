-- Worked runs with updates of the table and with a rejoin, and the clauses of a table.
use Rattle.std.proofs.Common.{◌≡◌, ℕ, List, [], ◌∷◌, replicate, refl, map}
use Rattle.std.specs.Prelude.{Option, Some, None, ◌++◌, option_map, slice_index_or, take}
use Rattle.packet_format.specs.declared.acts.ActAnswer.TheVariants.{Posted, PostFull}
use Rattle.config_table.specs.declared.decisions.Decision.TheVariants.{Idle}
use Rattle.config_table.specs.declared.decisions.Kind.TheVariants.{Voted, Every, Source}
use Rattle.config_table.specs.declared.decisions.StateRow.{StateRow}
use Rattle.config_table.specs.declared.groups.Group.{Group}
use Rattle.config_table.specs.Table.{TableValue, table_error, error_code, in_limit, out_limit}
use Rattle.processor_buffers.specs.declared.Handed.TheVariants.{Stored}
use Rattle.syndrome_log.specs.declared.SyndromeKind.TheVariants as kind
use Rattle.syndrome_log.specs.Log.{noted}
use Rattle.element_core.specs.declared.Outcome3.TheVariants as outcome
use Rattle.element_core.specs.Cycle.{State}
use Rattle.element_core.proofs.WorkedParts.{worked, Planned, plain, obeyed, flipped, to_two, played, end_of, proc, to, to_three, packet, post, posts_at, updates_by, four_elements, with_third, table_of, first_group, second_group, third_group, fourth_group, fifth_group, serves, discards, decisions, updates, results_at, handed_at, notes_of, patterns, has_room, roomy, asks, with_entry, totals, answers}

abbrev all_four : List ℕ
all_four = 0 ∷ 1 ∷ 2 ∷ 3 ∷ []

-- the masked sets of the groups, as bits
abbrev masked_in : State → List ℕ
masked_in s = map (λ (g : Group). g.masked.bits) s.table.groups

-- ---- a two-faced update: two members post another update, and the one at element 3 sends two elements that of the others

abbrev pub two_faced_update : List Planned
two_faced_update =
    record (obeyed (Some 3) (updates_by (0 ∷ 1 ∷ []) (1 ∷ 2 ∷ []) ++ updates_by (2 ∷ 3 ∷ []) (1 ∷ 2 ∷ 1 ∷ []))) { packets = to_two 1 (flipped 2 1) 2 (flipped 2 1) }
    ∷ []

two_faced_update_served : decisions (played four_elements two_faced_update) ≡ serves 1 (to 0 3 0) Every 0 all_four ∷ []
unfolding worked
two_faced_update_served = refl

two_faced_update_results : results_at (0 ∷ 1 ∷ 2 ∷ []) (played four_elements two_faced_update) ≡ replicate 3 (Some (packet (1 ∷ 2 ∷ []))) ∷ []
unfolding worked
two_faced_update_results = refl

two_faced_update_done : updates (played four_elements two_faced_update) ≡ Some outcome.Done ∷ []
unfolding worked
two_faced_update_done = refl

two_faced_update_masked : masked_in (end_of four_elements two_faced_update) ≡ 0 ∷ 1 ∷ 0 ∷ 0 ∷ 0 ∷ []
unfolding worked
two_faced_update_masked = refl

two_faced_update_notes : notes_of (0 ∷ 1 ∷ 2 ∷ []) (played four_elements two_faced_update) ≡
    (noted 0 kind.D1 3 3 ∷ noted 0 kind.V 2 2 ∷ [])
    ∷ (noted 0 kind.D2 0 3 ∷ noted 0 kind.V 2 2 ∷ [])
    ∷ (noted 0 kind.D2 0 3 ∷ noted 0 kind.V 2 2 ∷ [])
    ∷ []
unfolding worked
two_faced_update_notes = refl

-- ---- a member is masked, and admitted again

abbrev mask_and_admit : List Planned
mask_and_admit =
    plain (updates_by all_four (1 ∷ 2 ∷ 2 ∷ []))
    ∷ plain (posts_at (0 ∷ 1 ∷ []) 1 to_three (0x55 ∷ []) ++ post 2 1 to_three (0x77 ∷ []) ∷ [])
    ∷ plain (updates_by all_four (2 ∷ 2 ∷ 2 ∷ []))
    ∷ plain []
    ∷ []

mask_and_admit_served : decisions (played four_elements mask_and_admit)
    ≡ serves 1 (to 0 3 0) Every 0 all_four ∷ serves 2 to_three Every 0 (0 ∷ 1 ∷ []) ∷ serves 1 (to 0 3 0) Every 0 all_four ∷ Idle ∷ []
unfolding worked
mask_and_admit_served = refl

mask_and_admit_done : updates (played four_elements mask_and_admit) ≡ Some outcome.Done ∷ None ∷ Some outcome.Done ∷ None ∷ []
unfolding worked
mask_and_admit_done = refl

mask_and_admit_results : results_at all_four (played four_elements mask_and_admit)
    ≡ replicate 4 (Some (packet (1 ∷ 2 ∷ 2 ∷ []))) ∷ replicate 4 (Some (packet (0x55 ∷ []))) ∷ replicate 4 (Some (packet (2 ∷ 2 ∷ 2 ∷ []))) ∷ replicate 4 None ∷ []
unfolding worked
mask_and_admit_results = refl

-- the masked member's head stays until it is admitted
mask_and_admit_pattern : map (λ pattern. slice_index_or pattern 2 []) (patterns (played four_elements mask_and_admit))
    ≡ with_entry 0 (asks (to 0 3 0))
    ∷ with_entry 1 (asks to_three)
    ∷ (asks (to 0 3 0) ∷ asks to_three ∷ replicate 6 has_room)
    ∷ roomy
    ∷ []
unfolding worked
mask_and_admit_pattern = refl

mask_and_admit_totals : totals (played four_elements mask_and_admit) ≡ record { served = 3; discarded = 0; idle = 1; stored = 3; overrun = 0; noted = 0 }
unfolding worked
mask_and_admit_totals = refl

-- ---- a refused update: the manager would lose its third live member; and one that is not the manager's

abbrev refused_update : List Planned
refused_update =
    plain (updates_by all_four (1 ∷ 1 ∷ []))
    ∷ plain (updates_by (1 ∷ 2 ∷ 3 ∷ []) (1 ∷ 1 ∷ 1 ∷ []))
    ∷ plain (posts_at (0 ∷ 1 ∷ 2 ∷ []) 1 (to 0 3 0) [])
    ∷ []

refused_update_decisions : decisions (played four_elements refused_update)
    ≡ serves 1 (to 0 3 0) Every 0 all_four ∷ serves 1 (to 0 3 0) Every 0 (1 ∷ 2 ∷ 3 ∷ []) ∷ discards 2 (to 0 3 0) 4 0 (0 ∷ 1 ∷ 2 ∷ []) ∷ []
unfolding worked
refused_update_decisions = refl

refused_update_outcomes : updates (played four_elements refused_update) ≡ Some outcome.Done ∷ Some (outcome.Refused 12) ∷ None ∷ []
unfolding worked
refused_update_outcomes = refl

refused_update_totals : totals (played four_elements refused_update) ≡ record { served = 2; discarded = 1; idle = 0; stored = 0; overrun = 0; noted = 0 }
unfolding worked
refused_update_totals = refl

-- ---- packets that are no update, and an update of a group that is not there

unread_update : updates (played four_elements (plain (updates_by all_four (9 ∷ [])) ∷ [])) ≡ Some outcome.Unread ∷ []
unfolding worked
unread_update = refl

unread_update_results : results_at all_four (played four_elements (plain (updates_by all_four (9 ∷ [])) ∷ [])) ≡ replicate 4 (Some (packet (9 ∷ []))) ∷ []
unfolding worked
unread_update_results = refl

absent_update : updates (played four_elements (plain (updates_by all_four (1 ∷ 9 ∷ [])) ∷ [])) ≡ Some outcome.Absent ∷ []
unfolding worked
absent_update = refl

-- ---- a missing update: three of four members hold the request, and the one at element 3 sends no packet

abbrev missing_update : List Planned
missing_update =
    obeyed (Some 3) (updates_by (0 ∷ 1 ∷ 3 ∷ []) (1 ∷ 2 ∷ []))
    ∷ replicate 2 (obeyed (Some 3) []) ++ record (obeyed (Some 3) []) { packets = λ to cell. None } ∷ []

missing_update_served : decisions (played four_elements missing_update) ≡ replicate 3 Idle ++ serves 1 (to 0 3 0) Every 3 (0 ∷ 1 ∷ 3 ∷ []) ∷ []
unfolding worked
missing_update_served = refl

missing_update_outcome : updates (played four_elements missing_update) ≡ replicate 3 None ++ Some outcome.Missing ∷ []
unfolding worked
missing_update_outcome = refl

-- ---- a rejoined element: after an update element 3 rejoins, and element 2 is faulty from then on

abbrev rejoined_element : List Planned
rejoined_element =
    obeyed (Some 3) (updates_by all_four (1 ∷ 2 ∷ []))
    ∷ record (obeyed (Some 2) (posts_at (1 ∷ 2 ∷ []) 1 to_three (0x55 ∷ []))) { rejoined = Some 3 }
    ∷ obeyed (Some 2) []
    ∷ []

rejoined_element_served : decisions (played four_elements rejoined_element) ≡ serves 1 (to 0 3 0) Every 0 all_four ∷ serves 2 to_three Every 0 (1 ∷ 2 ∷ []) ∷ Idle ∷ []
unfolding worked
rejoined_element_served = refl

rejoined_element_results : results_at (0 ∷ 1 ∷ 3 ∷ []) (played four_elements rejoined_element)
    ≡ replicate 3 (Some (packet (1 ∷ 2 ∷ []))) ∷ replicate 3 (Some (packet (0x55 ∷ []))) ∷ replicate 3 None ∷ []
unfolding worked
rejoined_element_results = refl

rejoined_element_handed : handed_at (0 ∷ 1 ∷ 3 ∷ []) (played four_elements rejoined_element)
    ≡ replicate 3 None ∷ (None ∷ Some (proc 1 2, Stored) ∷ Some (proc 3 2, Stored) ∷ []) ∷ replicate 3 None ∷ []
unfolding worked
rejoined_element_handed = refl

rejoined_element_totals : totals (played four_elements rejoined_element) ≡ record { served = 2; discarded = 0; idle = 1; stored = 2; overrun = 0; noted = 0 }
unfolding worked
rejoined_element_totals = refl

-- its outputs are emptied: what it posted before is not asked for
abbrev emptied_by_rejoin : List Planned
emptied_by_rejoin = obeyed (Some 3) (post 3 2 (to 2 1 0) (7 ∷ []) ∷ []) ∷ record (obeyed None []) { rejoined = Some 3 } ∷ []

emptied_by_rejoin_pattern : patterns (played four_elements emptied_by_rejoin) ≡ (replicate 3 roomy ++ with_entry 2 (asks (to 2 1 0)) ∷ []) ∷ replicate 4 roomy ∷ []
unfolding worked
emptied_by_rejoin_pattern = refl

-- ---- a group is dissolved, and another formed on its ports

abbrev dissolved_and_formed : List Planned
dissolved_and_formed =
    plain (updates_by all_four (4 ∷ 5 ∷ []))
    ∷ plain (post 0 3 (to 3 2 0) (1 ∷ []) ∷ [])
    ∷ plain (updates_by all_four (5 ∷ 9 ∷ 1 ∷ 0 ∷ 3 ∷ 0 ∷ 2 ∷ 0 ∷ 3 ∷ []))
    ∷ plain (post 0 3 (to 3 2 0) (1 ∷ []) ∷ [])
    ∷ []

-- what was posted between is gone, and the next post is served
dissolved_and_formed_served : decisions (played four_elements dissolved_and_formed)
    ≡ serves 1 (to 0 3 0) Every 0 all_four ∷ Idle ∷ serves 1 (to 0 3 0) Every 0 all_four ∷ serves 9 (to 3 2 0) (Source 0) 0 (0 ∷ []) ∷ []
unfolding worked
dissolved_and_formed_served = refl

dissolved_and_formed_done : updates (played four_elements dissolved_and_formed) ≡ Some outcome.Done ∷ None ∷ Some outcome.Done ∷ None ∷ []
unfolding worked
dissolved_and_formed_done = refl

dissolved_and_formed_groups : map (λ (g : Group). g.vid) (end_of four_elements dissolved_and_formed).table.groups ≡ 1 ∷ 2 ∷ 3 ∷ 4 ∷ 9 ∷ []
unfolding worked
dissolved_and_formed_groups = refl

dissolved_and_formed_lines : map (λ (line : StateRow). line.vid) (end_of four_elements dissolved_and_formed).scoreboard ≡ 1 ∷ 2 ∷ 3 ∷ 4 ∷ 9 ∷ []
unfolding worked
dissolved_and_formed_lines = refl

-- the ports of a dissolved group and those of a formed one have the usual limits
abbrev five_small : TableValue
five_small = table_of (first_group ∷ second_group ∷ third_group ∷ fourth_group ∷ record fifth_group { outs = 1; ins = 2 } ∷ [])

abbrev limits_of : State → ℕ × ℕ
limits_of s = (out_limit s.table (proc 0 3), in_limit s.table (proc 0 3))

limits_after_form : map (λ k. limits_of (end_of five_small (take k dissolved_and_formed))) (0 ∷ 1 ∷ 2 ∷ 3 ∷ [])
    ≡ (1, 2) ∷ (16, 32) ∷ (16, 32) ∷ (16, 32) ∷ []
unfolding worked
limits_after_form = refl

-- it stands after that group, so that its place is refused before its size
formed_twice : updates (played four_elements (plain (updates_by all_four (5 ∷ 4 ∷ 2 ∷ 0 ∷ 3 ∷ 0 ∷ 2 ∷ 0 ∷ 7 ∷ 1 ∷ 7 ∷ [])) ∷ [])) ≡ Some (outcome.Refused 4) ∷ []
unfolding worked
formed_twice = refl

formed_of_two : updates (played four_elements (plain (updates_by all_four (5 ∷ 9 ∷ 2 ∷ 0 ∷ 3 ∷ 0 ∷ 2 ∷ 0 ∷ 7 ∷ 1 ∷ 7 ∷ [])) ∷ [])) ≡ Some (outcome.Refused 5) ∷ []
unfolding worked
formed_of_two = refl

-- posts are within the limits of the cycle's table, not of the next one
limits_of_this_cycle : answers (played five_small (plain (updates_by all_four (4 ∷ 5 ∷ []) ++ replicate 2 (post 0 3 (to 3 2 0) (1 ∷ []))) ∷ []))
    ≡ (replicate 5 Posted ++ PostFull ∷ []) ∷ []
unfolding worked
limits_of_this_cycle = refl

-- an applied update ends the row of its group: a request that waited begins anew
abbrev timeouts_of_waiting : List Planned
timeouts_of_waiting =
    plain (posts_at (0 ∷ 1 ∷ []) 1 to_three (0x41 ∷ []) ++ updates_by all_four (3 ∷ 2 ∷ 0 ∷ 2 ∷ 0 ∷ 2 ∷ []))
    ∷ replicate 3 (plain [])

timeouts_of_waiting_served : decisions (played four_elements timeouts_of_waiting)
    ≡ serves 1 (to 0 3 0) Every 0 all_four ∷ Idle ∷ Idle ∷ serves 2 to_three Voted 2 (0 ∷ 1 ∷ []) ∷ []
unfolding worked
timeouts_of_waiting_served = refl

-- ---- the clauses of a table, by their codes

abbrev code_of : TableValue → Option ℕ
code_of table = option_map error_code (table_error table)

abbrev three_at : ℕ → ℕ → ℕ → Group
three_at a b c = record third_group { members = record { items = proc a 2 ∷ proc b 2 ∷ proc c 2 ∷ [] } }

-- the clauses of a group, each in the order of the clauses
codes_of_a_group : map (λ g. code_of (with_third g)) (
    third_group
    ∷ record third_group { vid = 0 }
    ∷ record third_group { vid = 2 }
    ∷ record third_group { members = record { items = proc 1 2 ∷ proc 2 2 ∷ [] } }
    ∷ three_at 1 2 4
    ∷ record third_group { members = record { items = proc 1 2 ∷ proc 2 2 ∷ proc 3 8 ∷ [] } }
    ∷ three_at 1 2 1
    ∷ record third_group { members = record { items = proc 1 2 ∷ proc 2 2 ∷ proc 3 0 ∷ [] } }
    ∷ record third_group { masked = record { bits = 8 } }
    ∷ record third_group { masked = record { bits = 7 } }
    ∷ record third_group { ts = 0 }
    ∷ record third_group { ts = 1001 }
    ∷ record third_group { tr = 0 }
    ∷ record third_group { tr = 1001 }
    ∷ record third_group { tx = 1001 }
    ∷ record third_group { outs = 0 }
    ∷ record third_group { outs = 65 }
    ∷ record third_group { ins = 0 }
    ∷ record third_group { ins = 65 }
    ∷ [])
    ≡ None
    ∷ Some 3 ∷ Some 4 ∷ Some 5 ∷ Some 6 ∷ Some 6 ∷ Some 7 ∷ Some 8 ∷ Some 9 ∷ Some 9
    ∷ Some 10 ∷ Some 10 ∷ Some 10 ∷ Some 10 ∷ Some 16 ∷ Some 17 ∷ Some 17 ∷ Some 17 ∷ Some 17 ∷ []
unfolding worked
codes_of_a_group = refl

-- the clauses of the whole table
codes_of_a_table : map code_of (
    record four_elements { n = 6 }
    ∷ record four_elements { groups = [] }
    ∷ record four_elements { groups = replicate 41 first_group }
    ∷ record four_elements { manager = 6 }
    ∷ record four_elements { manager = 4 }
    ∷ [])
    ≡ Some 1 ∷ Some 2 ∷ Some 2 ∷ Some 11 ∷ Some 12 ∷ []
unfolding worked
codes_of_a_table = refl

-- the first broken clause is the answer
first_of_two_codes : code_of (with_third (record third_group { vid = 0; ts = 0 })) ≡ Some 3
unfolding worked
first_of_two_codes = refl
