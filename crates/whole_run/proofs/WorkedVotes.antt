-- Worked runs without a fault: requests are voted and served, the oldest first.
use Rattle.std.proofs.Common.{◌≡◌, ℕ, List, [], ◌∷◌, replicate, refl, map}
use Rattle.std.specs.Prelude.{Option, Some, None, ◌++◌}
use Rattle.packet_format.specs.declared.Descriptor.{Descriptor}
use Rattle.config_table.specs.declared.groups.Group.{Group}
use Rattle.scoreboard.specs.Choice.{reason}
use Rattle.packet_format.specs.declared.acts.Act.TheVariants.{Read}
use Rattle.packet_format.specs.declared.acts.ActAnswer.TheVariants.{Nothing}
use Rattle.config_table.specs.declared.decisions.Decision.TheVariants.{Idle}
use Rattle.config_table.specs.declared.decisions.Kind.TheVariants.{Voted, Source}
use Rattle.processor_buffers.specs.declared.Handed.TheVariants.{Stored}
use Rattle.syndrome_log.specs.declared.SyndromeKind.TheVariants as kind
use Rattle.syndrome_log.specs.Log.{noted}
use Rattle.element_core.proofs.WorkedParts.{worked, Planned, plain, played, proc, to, to_three, packet_41, post, posts_at, four_elements, first_group, second_group, serves, discards, decisions, results_at, handed_at, notes_at, patterns, roomy, asks, with_entry, totals, answers}

-- ---- voted posts: three members of a triplex post alike

abbrev pub voted_posts : List Planned
voted_posts = plain (posts_at (0 ∷ 1 ∷ 2 ∷ []) 1 to_three (0x41 ∷ [])) ∷ []

voted_posts_pattern : patterns (played four_elements voted_posts) ≡ (replicate 3 (with_entry 1 (asks to_three)) ++ roomy ∷ []) ∷ []
unfolding worked
voted_posts_pattern = refl

voted_posts_served : decisions (played four_elements voted_posts) ≡ serves 2 to_three Voted 0 (0 ∷ 1 ∷ 2 ∷ []) ∷ []
unfolding worked
voted_posts_served = refl

voted_posts_results : results_at (0 ∷ 1 ∷ 2 ∷ 3 ∷ []) (played four_elements voted_posts) ≡ replicate 4 (Some packet_41) ∷ []
unfolding worked
voted_posts_results = refl

voted_posts_handed : handed_at (0 ∷ 1 ∷ 2 ∷ 3 ∷ []) (played four_elements voted_posts)
    ≡ (None ∷ Some (proc 1 2, Stored) ∷ Some (proc 2 2, Stored) ∷ Some (proc 3 2, Stored) ∷ []) ∷ []
unfolding worked
voted_posts_handed = refl

voted_posts_totals : totals (played four_elements voted_posts) ≡ record { served = 1; discarded = 0; idle = 0; stored = 3; overrun = 0; noted = 0 }
unfolding worked
voted_posts_totals = refl

-- ---- an idle cycle, and a read of nothing

abbrev idle_cycle : List Planned
idle_cycle = plain (Read (proc 1 2) ∷ []) ∷ []

idle_cycle_pattern : patterns (played four_elements idle_cycle) ≡ replicate 4 roomy ∷ []
unfolding worked
idle_cycle_pattern = refl

idle_cycle_answers : answers (played four_elements idle_cycle) ≡ (Nothing ∷ []) ∷ []
unfolding worked
idle_cycle_answers = refl

idle_cycle_totals : totals (played four_elements idle_cycle) ≡ record { served = 0; discarded = 0; idle = 1; stored = 0; overrun = 0; noted = 0 }
unfolding worked
idle_cycle_totals = refl

-- ---- two of three members post

abbrev two_of_three : List Planned
two_of_three = plain (posts_at (0 ∷ 1 ∷ []) 1 to_three (0x41 ∷ [])) ∷ replicate 3 (plain [])

two_of_three_served : decisions (played four_elements two_of_three) ≡ replicate 3 Idle ++ serves 2 to_three Voted 3 (0 ∷ 1 ∷ []) ∷ []
unfolding worked
two_of_three_served = refl

two_of_three_results : results_at (0 ∷ 1 ∷ 2 ∷ 3 ∷ []) (played four_elements two_of_three) ≡ replicate 3 (replicate 4 None) ++ replicate 4 (Some packet_41) ∷ []
unfolding worked
two_of_three_results = refl

two_of_three_notes : notes_at 2 (played four_elements two_of_three) ≡ replicate 3 [] ++ (noted 3 kind.R 2 2 ∷ []) ∷ []
unfolding worked
two_of_three_notes = refl

two_of_three_totals : totals (played four_elements two_of_three) ≡ record { served = 1; discarded = 0; idle = 3; stored = 3; overrun = 0; noted = 4 }
unfolding worked
two_of_three_totals = refl

-- ---- two of four members post: half is no majority

abbrev two_of_four : List Planned
two_of_four = plain (posts_at (0 ∷ 1 ∷ []) 0 to_three (0x41 ∷ [])) ∷ replicate 4 (plain [])

two_of_four_idle : decisions (played four_elements two_of_four) ≡ replicate 5 Idle
unfolding worked
two_of_four_idle = refl

-- ---- a late member: the third one posts some cycles later

-- it posts after so many cycles, before so many others
abbrev late_member : ℕ → ℕ → List Planned
late_member before after =
    plain (posts_at (0 ∷ 1 ∷ []) 1 to_three (0x41 ∷ [])) ∷ replicate before (plain []) ++ plain (post 2 1 to_three (0x41 ∷ []) ∷ []) ∷ replicate after (plain [])

late_member_served : decisions (played four_elements (late_member 1 2)) ≡ replicate 2 Idle ++ serves 2 to_three Voted 2 (0 ∷ 1 ∷ 2 ∷ []) ∷ replicate 2 Idle
unfolding worked
late_member_served = refl

late_member_in_last_cycle : decisions (played four_elements (late_member 2 1)) ≡ replicate 3 Idle ++ serves 2 to_three Voted 3 (0 ∷ 1 ∷ 2 ∷ []) ∷ Idle ∷ []
unfolding worked
late_member_in_last_cycle = refl

late_member_too_late : decisions (played four_elements (late_member 3 0)) ≡ replicate 3 Idle ++ serves 2 to_three Voted 3 (0 ∷ 1 ∷ []) ∷ Idle ∷ []
unfolding worked
late_member_too_late = refl

-- its head stays
late_member_keeps_head : patterns (played four_elements (late_member 3 1))
    ≡ replicate 4 (replicate 2 (with_entry 1 (asks to_three)) ++ replicate 2 roomy) ++ replicate 2 (replicate 2 roomy ++ with_entry 1 (asks to_three) ∷ roomy ∷ [])
unfolding worked
late_member_keeps_head = refl

late_member_noted : notes_at 0 (played four_elements (late_member 3 0)) ≡ replicate 3 [] ++ (noted 3 kind.R 2 2 ∷ []) ∷ [] ∷ []
unfolding worked
late_member_noted = refl

-- ---- the oldest first

abbrev oldest_first : List Planned
oldest_first =
    plain (
    post 3 1 (to 3 2 0) (1 ∷ []) ∷ post 3 1 (to 3 2 0) (2 ∷ []) ∷ post 3 1 (to 3 2 0) (3 ∷ [])
    ∷ post 0 3 (to 3 2 0) (4 ∷ []) ∷ post 0 3 (to 3 2 0) (5 ∷ []) ∷ [])
    ∷ plain (posts_at (0 ∷ 1 ∷ []) 1 to_three (0xc1 ∷ []))
    ∷ replicate 3 (plain [])

oldest_first_served : decisions (played four_elements oldest_first) ≡
    serves 4 (to 3 2 0) (Source 3) 0 (3 ∷ [])
    ∷ serves 5 (to 3 2 0) (Source 0) 1 (0 ∷ [])
    ∷ serves 4 (to 3 2 0) (Source 3) 1 (3 ∷ [])
    ∷ serves 5 (to 3 2 0) (Source 0) 1 (0 ∷ [])
    ∷ serves 2 to_three Voted 3 (0 ∷ 1 ∷ [])
    ∷ []
unfolding worked
oldest_first_served = refl

oldest_first_totals : totals (played four_elements oldest_first) ≡ record { served = 5; discarded = 0; idle = 0; stored = 15; overrun = 0; noted = 4 }
unfolding worked
oldest_first_totals = refl

-- ---- requests that are not lawful: the reasons, each before the next

abbrev reasons_of : Group → List Descriptor → List (Option ℕ)
reasons_of g requests = map (reason four_elements g) requests

reasons_in_order : reasons_of second_group (to 9 4 7 ∷ to 9 2 7 ∷ to 3 2 3 ∷ to 9 3 7 ∷ to 3 1 7 ∷ to 3 2 2 ∷ []) ≡ Some 1 ∷ Some 2 ∷ Some 3 ∷ Some 4 ∷ None ∷ None ∷ []
unfolding worked
reasons_in_order = refl

reasons_of_the_manager : reasons_of first_group (to 3 3 0 ∷ to 0 3 7 ∷ to 0 1 0 ∷ to 0 0 0 ∷ []) ≡ Some 5 ∷ None ∷ Some 2 ∷ Some 1 ∷ []
unfolding worked
reasons_of_the_manager = refl

-- an unlawful request waits like any other, and needs no space
abbrev unlawful_request : List Planned
unlawful_request = plain (posts_at (0 ∷ 1 ∷ []) 1 (to 9 1 0) (0x41 ∷ [])) ∷ replicate 3 (plain [])

unlawful_request_discarded : decisions (played four_elements unlawful_request) ≡ replicate 3 Idle ++ discards 2 (to 9 1 0) 2 3 (0 ∷ 1 ∷ []) ∷ []
unfolding worked
unlawful_request_discarded = refl

unlawful_request_notes : notes_at 3 (played four_elements unlawful_request) ≡ replicate 3 [] ++ (noted 3 kind.R 2 2 ∷ []) ∷ []
unfolding worked
unlawful_request_notes = refl
