-- Worked runs with a faulty element: what it sends to one receiver and another, and what is noted of it.
use Rattle.std.proofs.Common.{◌≡◌, ℕ, List, [], ◌∷◌, replicate, refl}
use Rattle.std.specs.Prelude.{Some, None, ◌==◌, ◌++◌, if◌then◌else◌}
use Rattle.ftpp_base.specs.Lists.{change_at}
use Rattle.packet_format.specs.Packets.{filled_up}
use Rattle.local_pattern.specs.Pattern.{quiet_column}
use Rattle.config_table.specs.declared.decisions.Decision.TheVariants.{Idle}
use Rattle.config_table.specs.declared.decisions.Kind.TheVariants.{Voted, Source}
use Rattle.processor_buffers.specs.declared.Handed.TheVariants.{Stored}
use Rattle.syndrome_log.specs.declared.Syndrome.{Syndrome}
use Rattle.syndrome_log.specs.declared.SyndromeKind.TheVariants as kind
use Rattle.syndrome_log.specs.Log.{noted}
use Rattle.element_core.proofs.WorkedParts.{worked, Planned, obeyed, silent, flipped, to_two, played, proc, to, to_three, packet, packet_41, post, posts_at, four_elements, five_elements, serves, decisions, results_at, handed_at, notes_at, notes_of, patterns, roomy, asks, with_entry, totals}

-- ---- a silent element: element 2 sends nothing for four cycles

abbrev silent_element : List Planned
silent_element = silent 2 (posts_at (0 ∷ 1 ∷ []) 1 to_three (0x41 ∷ [])) ∷ replicate 3 (silent 2 [])

-- the relayed cells of it differ from what is agreed of the others
abbrev silent_relays : ℕ → List Syndrome
silent_relays cycle = noted cycle kind.P2 2 0 ∷ noted cycle kind.P2 2 1 ∷ noted cycle kind.P2 2 3 ∷ []

silent_element_pattern : patterns (played four_elements silent_element)
    ≡ replicate 4 (replicate 2 (with_entry 1 (asks to_three)) ++ quiet_column ∷ roomy ∷ [])
unfolding worked
silent_element_pattern = refl

silent_element_served : decisions (played four_elements silent_element) ≡ replicate 3 Idle ++ serves 2 to_three Voted 3 (0 ∷ 1 ∷ []) ∷ []
unfolding worked
silent_element_served = refl

silent_element_results : results_at (0 ∷ 1 ∷ 3 ∷ []) (played four_elements silent_element) ≡ replicate 3 (replicate 3 None) ++ replicate 3 (Some packet_41) ∷ []
unfolding worked
silent_element_results = refl

silent_element_notes : notes_at 0 (played four_elements silent_element) ≡
    silent_relays 0 ∷ silent_relays 1 ∷ silent_relays 2 ∷ (silent_relays 3 ++ noted 3 kind.R 2 2 ∷ noted 3 kind.O 2 2 ∷ []) ∷ []
unfolding worked
silent_element_notes = refl

silent_element_totals : totals (played four_elements silent_element) ≡ record { served = 1; discarded = 0; idle = 3; stored = 2; overrun = 0; noted = 42 }
unfolding worked
silent_element_totals = refl

-- ---- a two-faced pattern: element 3 shows three elements three things at port 0

abbrev two_faced_pattern : List Planned
two_faced_pattern = record (obeyed (Some 3) []) { patterns = to_two 0 (flipped 0 1) 1 (flipped 0 2) } ∷ []

two_faced_pattern_agreed : patterns (played four_elements two_faced_pattern) ≡ replicate 4 roomy ∷ []
unfolding worked
two_faced_pattern_agreed = refl

two_faced_pattern_notes : notes_of (0 ∷ 1 ∷ 2 ∷ []) (played four_elements two_faced_pattern) ≡
    (noted 0 kind.P1 3 3 ∷ noted 0 kind.P2 1 3 ∷ [])
    ∷ (noted 0 kind.P1 3 3 ∷ noted 0 kind.P2 0 3 ∷ [])
    ∷ (noted 0 kind.P2 0 3 ∷ noted 0 kind.P2 1 3 ∷ [])
    ∷ []
unfolding worked
two_faced_pattern_notes = refl

-- ---- a tied pattern: of five elements the last shows two of the others a request, which counts as none

abbrev tied_pattern : List Planned
tied_pattern = record (obeyed (Some 4) []) { patterns = to_two 0 (flipped 0 1) 1 (flipped 0 1) } ∷ []

tied_pattern_agreed : patterns (played five_elements tied_pattern) ≡ replicate 5 roomy ∷ []
unfolding worked
tied_pattern_agreed = refl

tied_pattern_notes : notes_of (0 ∷ 1 ∷ 2 ∷ 3 ∷ []) (played five_elements tied_pattern) ≡
    (noted 0 kind.P1 4 4 ∷ noted 0 kind.P2 1 4 ∷ [])
    ∷ (noted 0 kind.P1 4 4 ∷ noted 0 kind.P2 0 4 ∷ [])
    ∷ replicate 2 (noted 0 kind.P2 0 4 ∷ noted 0 kind.P2 1 4 ∷ [])
unfolding worked
tied_pattern_notes = refl

-- ---- a false echo: element 3 tells element 1 another pattern of element 0

abbrev false_echo : List Planned
false_echo = record (obeyed (Some 3) []) { pattern_echoes = λ to cells. if to == 1 then change_at (flipped 0 1) cells 0 else cells } ∷ []

false_echo_agreed : patterns (played four_elements false_echo) ≡ replicate 4 roomy ∷ []
unfolding worked
false_echo_agreed = refl

false_echo_notes : notes_of (0 ∷ 1 ∷ 2 ∷ []) (played four_elements false_echo) ≡ [] ∷ (noted 0 kind.P2 3 0 ∷ []) ∷ [] ∷ []
unfolding worked
false_echo_notes = refl

-- ---- a two-faced source: a simplex at element 3 sends three elements three packets

abbrev two_faced_source : List Planned
two_faced_source = record (obeyed (Some 3) (post 3 1 (to 3 2 0) (0x0f ∷ []) ∷ [])) { packets = to_two 1 (flipped 0 0x3c) 2 (flipped 0 0x5a) } ∷ []

two_faced_source_served : decisions (played four_elements two_faced_source) ≡ serves 4 (to 3 2 0) (Source 3) 0 (3 ∷ []) ∷ []
unfolding worked
two_faced_source_served = refl

two_faced_source_results : results_at (0 ∷ 1 ∷ 2 ∷ []) (played four_elements two_faced_source) ≡ replicate 3 (Some (packet (0x17 ∷ []))) ∷ []
unfolding worked
two_faced_source_results = refl

two_faced_source_handed : handed_at (0 ∷ 1 ∷ 2 ∷ []) (played four_elements two_faced_source) ≡ (None ∷ Some (proc 1 2, Stored) ∷ Some (proc 2 2, Stored) ∷ []) ∷ []
unfolding worked
two_faced_source_handed = refl

two_faced_source_notes : notes_of (0 ∷ 1 ∷ 2 ∷ []) (played four_elements two_faced_source) ≡
    (noted 0 kind.D1 3 3 ∷ noted 0 kind.D2 1 3 ∷ noted 0 kind.D2 2 3 ∷ [])
    ∷ (noted 0 kind.D1 3 3 ∷ noted 0 kind.D2 0 3 ∷ noted 0 kind.D2 2 3 ∷ [])
    ∷ (noted 0 kind.D1 3 3 ∷ noted 0 kind.D2 0 3 ∷ noted 0 kind.D2 1 3 ∷ [])
    ∷ []
unfolding worked
two_faced_source_notes = refl

two_faced_source_totals : totals (played four_elements two_faced_source) ≡ record { served = 1; discarded = 0; idle = 0; stored = 2; overrun = 0; noted = 9 }
unfolding worked
two_faced_source_totals = refl

-- ---- split votes: two members post differently, and the third, at element 3, sends element 2 another packet

abbrev split_votes : List Planned
split_votes =
    record (obeyed (Some 3) (post 1 2 (to 2 1 0) (0xff ∷ []) ∷ post 2 2 (to 2 1 0) [] ∷ post 3 2 (to 2 1 0) (0xff ∷ []) ∷ [])) { packets = to_two 2 (flipped 0 0xff) 3 (λ cell. cell) }
    ∷ []

split_votes_served : decisions (played four_elements split_votes) ≡ serves 3 (to 2 1 0) Voted 0 (1 ∷ 2 ∷ 3 ∷ []) ∷ []
unfolding worked
split_votes_served = refl

split_votes_results : results_at (0 ∷ 1 ∷ 2 ∷ []) (played four_elements split_votes) ≡ (Some (packet (0xff ∷ [])) ∷ Some (packet (0xff ∷ [])) ∷ Some (packet []) ∷ []) ∷ []
unfolding worked
split_votes_results = refl

split_votes_handed : handed_at (0 ∷ 1 ∷ 2 ∷ []) (played four_elements split_votes) ≡ (Some (proc 0 1, Stored) ∷ Some (proc 1 1, Stored) ∷ Some (proc 2 1, Stored) ∷ []) ∷ []
unfolding worked
split_votes_handed = refl

split_votes_notes : notes_of (0 ∷ 1 ∷ 2 ∷ []) (played four_elements split_votes) ≡ (noted 0 kind.V 2 2 ∷ []) ∷ (noted 0 kind.V 2 2 ∷ []) ∷ (noted 0 kind.V 1 1 ∷ []) ∷ []
unfolding worked
split_votes_notes = refl

-- ---- a flickering member: what element 2 shows at port 1 is outside the pattern format for two cycles, or for all

abbrev flickers : List Planned → List Planned
flickers [] = []
flickers (c ∷ cs) = record c { patterns = λ to. flipped 4 1 } ∷ flickers cs

abbrev flickering_member : List Planned
flickering_member = flickers (obeyed (Some 2) (posts_at (0 ∷ 1 ∷ 2 ∷ []) 1 to_three (0x41 ∷ [])) ∷ obeyed (Some 2) [] ∷ []) ++ replicate 2 (obeyed (Some 2) [])

flickering_member_served : decisions (played four_elements flickering_member) ≡ replicate 2 Idle ++ serves 2 to_three Voted 2 (0 ∷ 1 ∷ 2 ∷ []) ∷ Idle ∷ []
unfolding worked
flickering_member_served = refl

abbrev never_settled : List Planned
never_settled = flickers (obeyed (Some 2) (posts_at (0 ∷ 1 ∷ 2 ∷ []) 1 to_three (0x41 ∷ [])) ∷ replicate 3 (obeyed (Some 2) []))

never_settled_served : decisions (played four_elements never_settled) ≡ replicate 3 Idle ++ serves 2 to_three Voted 3 (0 ∷ 1 ∷ []) ∷ []
unfolding worked
never_settled_served = refl

never_settled_notes : notes_at 3 (played four_elements never_settled) ≡ replicate 3 [] ++ (noted 3 kind.R 2 2 ∷ []) ∷ []
unfolding worked
never_settled_notes = refl

never_settled_totals : totals (played four_elements never_settled) ≡ record { served = 1; discarded = 0; idle = 3; stored = 2; overrun = 0; noted = 3 }
unfolding worked
never_settled_totals = refl

-- ---- an uninvited packet: element 2 has no request, but sends a packet where two others, who differ, are served

abbrev uninvited_packet : List Planned
uninvited_packet =
    obeyed (Some 2) (post 0 1 to_three (0x0f ∷ []) ∷ post 1 1 to_three (0xf0 ∷ []) ∷ [])
    ∷ replicate 2 (obeyed (Some 2) []) ++ record (obeyed (Some 2) []) { packets = λ to cell. Some (filled_up 64 (0x0f ∷ [])) } ∷ []

uninvited_packet_results : results_at (0 ∷ 1 ∷ 3 ∷ []) (played four_elements uninvited_packet) ≡ replicate 3 (replicate 3 None) ++ replicate 3 (Some (packet [])) ∷ []
unfolding worked
uninvited_packet_results = refl
