-- Worked runs of receivers without space: lags, overruns, expiry and small buffers.
use Rattle.std.proofs.Common.{◌≡◌, ℕ, List, [], ◌∷◌, length, replicate, refl, map}
use Rattle.std.specs.Prelude.{Some, None, ◌++◌, drop, take}
use Rattle.packet_format.specs.declared.acts.Act.TheVariants.{Read}
use Rattle.packet_format.specs.declared.acts.ActAnswer.TheVariants.{Posted, PostFull, Got}
use Rattle.config_table.specs.declared.decisions.Decision.TheVariants.{Idle}
use Rattle.config_table.specs.declared.decisions.Kind.TheVariants.{Voted, Source}
use Rattle.config_table.specs.Table.{TableValue}
use Rattle.processor_buffers.specs.declared.Handed.TheVariants.{Stored, Overrun}
use Rattle.scoreboard.specs.Board.{starved_of, lag_of}
use Rattle.syndrome_log.specs.declared.SyndromeKind.TheVariants as kind
use Rattle.syndrome_log.specs.Log.{noted}
use Rattle.element_core.specs.Processors.{queues_of}
use Rattle.element_core.proofs.WorkedParts.{worked, Planned, plain, obeyed, flipped, played, end_of, proc, to, to_three, packet, post, posts_at, four_elements, with_third, table_of, first_group, second_group, third_group, fourth_group, fifth_group, serves, discards, decisions, handed_at, notes_at, totals, answers}

-- ---- a full receiver: element 3 says full at port 2 in some cycles

-- a cycle in which it says so
abbrev says_full : Planned → Planned
says_full c = record c { patterns = λ to. flipped 8 2 }

abbrev pub full_for_two : List Planned
full_for_two = says_full (obeyed (Some 3) (posts_at (0 ∷ 1 ∷ 2 ∷ []) 1 to_three (0x41 ∷ []))) ∷ says_full (obeyed (Some 3) []) ∷ obeyed (Some 3) [] ∷ []

abbrev full_for_three : List Planned
full_for_three = says_full (obeyed (Some 3) (posts_at (0 ∷ 1 ∷ 2 ∷ []) 1 to_three (0x41 ∷ []))) ∷ replicate 2 (says_full (obeyed (Some 3) []))

full_receiver_served : decisions (played four_elements full_for_two) ≡ replicate 2 Idle ++ serves 2 to_three Voted 2 (0 ∷ 1 ∷ 2 ∷ []) ∷ []
unfolding worked
full_receiver_served = refl

full_receiver_lags : map (λ k. lag_of (end_of four_elements (take k full_for_three)).scoreboard 3 2) (1 ∷ 2 ∷ 3 ∷ []) ≡ 1 ∷ 2 ∷ 3 ∷ []
unfolding worked
full_receiver_lags = refl

full_receiver_totals : totals (played four_elements full_for_two) ≡ record { served = 1; discarded = 0; idle = 2; stored = 2; overrun = 0; noted = 0 }
unfolding worked
full_receiver_totals = refl

full_receiver_overridden : decisions (played four_elements full_for_three) ≡ replicate 2 Idle ++ serves 2 to_three Voted 2 (0 ∷ 1 ∷ 2 ∷ []) ∷ []
unfolding worked
full_receiver_overridden = refl

full_receiver_notes : notes_at 1 (played four_elements full_for_three) ≡ replicate 2 [] ++ (noted 2 kind.O 3 3 ∷ []) ∷ []
unfolding worked
full_receiver_notes = refl

-- the lag of a member that says not full in between begins anew
lag_begins_anew : map (λ k. lag_of (end_of four_elements (take k (says_full (obeyed (Some 3) []) ∷ obeyed (Some 3) [] ∷ says_full (obeyed (Some 3) []) ∷ []))).scoreboard 3 2) (1 ∷ 2 ∷ 3 ∷ []) ≡ 1 ∷ 0 ∷ 1 ∷ []
unfolding worked
lag_begins_anew = refl

-- ---- an overrun at last: one receiver never reads

abbrev posts_five : Planned
posts_five = plain (post 0 3 (to 3 2 0) (5 ∷ []) ∷ [])

abbrev posts_and_reads : Planned
posts_and_reads = plain (post 0 3 (to 3 2 0) (5 ∷ []) ∷ Read (proc 2 2) ∷ Read (proc 3 2) ∷ [])

abbrev overrun_at_last : List Planned
overrun_at_last = posts_five ∷ replicate 32 posts_and_reads ++ replicate 2 (plain [])

overrun_at_last_served : decisions (played four_elements overrun_at_last)
    ≡ replicate 32 (serves 5 (to 3 2 0) (Source 0) 0 (0 ∷ [])) ++ Idle ∷ Idle ∷ serves 5 (to 3 2 0) (Source 0) 2 (0 ∷ []) ∷ []
unfolding worked
overrun_at_last_served = refl

overrun_at_last_handed : drop 34 (handed_at (0 ∷ 1 ∷ 2 ∷ 3 ∷ []) (played four_elements overrun_at_last))
    ≡ (None ∷ Some (proc 1 2, Overrun) ∷ Some (proc 2 2, Stored) ∷ Some (proc 3 2, Stored) ∷ []) ∷ []
unfolding worked
overrun_at_last_handed = refl

overrun_at_last_held : map (λ proc. length (queues_of (end_of four_elements overrun_at_last).queues proc).input) (proc 1 2 ∷ proc 2 2 ∷ proc 3 2 ∷ []) ≡ 32 ∷ 1 ∷ 1 ∷ []
unfolding worked
overrun_at_last_held = refl

overrun_at_last_read : take 2 (answers (played four_elements overrun_at_last))
    ≡ (Posted ∷ []) ∷ (Posted ∷ replicate 2 (Got (record { cycle = 0; from = 5; class = 2; dest = 3; packet = packet (5 ∷ []) }))) ∷ []
unfolding worked
overrun_at_last_read = refl

overrun_at_last_notes : drop 33 (notes_at 2 (played four_elements overrun_at_last)) ≡ [] ∷ (noted 34 kind.O 1 1 ∷ []) ∷ []
unfolding worked
overrun_at_last_notes = refl

overrun_at_last_totals : totals (played four_elements overrun_at_last) ≡ record { served = 33; discarded = 0; idle = 2; stored = 98; overrun = 1; noted = 4 }
unfolding worked
overrun_at_last_totals = refl

-- ---- a full output: the seventeenth post is refused

full_output : answers (played four_elements (plain (replicate 17 (post 0 0 to_three (0x41 ∷ []))) ∷ [])) ≡ (replicate 16 Posted ++ PostFull ∷ []) ∷ []
unfolding worked
full_output = refl

-- ---- an expired request: nobody reads, and group 3 has an expiry

abbrev nobody_reads : List Planned
nobody_reads = replicate 33 posts_five ++ replicate 4 (plain [])

abbrev expiring : ℕ → TableValue
expiring tx = with_third (record third_group { tx = tx })

expired_request : decisions (played (expiring 4) nobody_reads)
    ≡ replicate 32 (serves 5 (to 3 2 0) (Source 0) 0 (0 ∷ [])) ++ replicate 4 Idle ++ discards 5 (to 3 2 0) 6 4 (0 ∷ []) ∷ []
unfolding worked
expired_request = refl

expired_request_starved : map (λ k. starved_of (end_of (expiring 4) (take k nobody_reads)).scoreboard 5) (33 ∷ 34 ∷ 35 ∷ 36 ∷ 37 ∷ [])
    ≡ Some 1 ∷ Some 2 ∷ Some 3 ∷ Some 4 ∷ None ∷ []
unfolding worked
expired_request_starved = refl

expired_request_totals : totals (played (expiring 4) nobody_reads) ≡ record { served = 32; discarded = 1; idle = 4; stored = 96; overrun = 0; noted = 0 }
unfolding worked
expired_request_totals = refl

never_expired : totals (played four_elements nobody_reads) ≡ record { served = 32; discarded = 0; idle = 5; stored = 96; overrun = 0; noted = 0 }
unfolding worked
never_expired = refl

-- cycles without grant do not count, only those without most space
full_receiver_with_expiry : decisions (played (expiring 1) full_for_three) ≡ replicate 2 Idle ++ serves 2 to_three Voted 2 (0 ∷ 1 ∷ 2 ∷ []) ∷ []
unfolding worked
full_receiver_with_expiry = refl

-- ---- small buffers: two packets in at group 3, and one out at group 5

abbrev small : ℕ → TableValue
small tx = table_of (first_group ∷ second_group ∷ record third_group { ins = 2; tx = tx } ∷ fourth_group ∷ record fifth_group { outs = 1 } ∷ [])

abbrev small_buffers : List Planned
small_buffers = plain (replicate 2 (post 0 3 (to 3 2 0) (5 ∷ []))) ∷ replicate 2 posts_five ++ plain [] ∷ []

small_buffers_answers : answers (played (small 0) small_buffers) ≡ (Posted ∷ PostFull ∷ []) ∷ (Posted ∷ []) ∷ (Posted ∷ []) ∷ [] ∷ []
unfolding worked
small_buffers_answers = refl

small_buffers_served : decisions (played (small 0) small_buffers) ≡ replicate 2 (serves 5 (to 3 2 0) (Source 0) 0 (0 ∷ [])) ++ replicate 2 Idle
unfolding worked
small_buffers_served = refl

small_buffers_totals : totals (played (small 0) small_buffers) ≡ record { served = 2; discarded = 0; idle = 2; stored = 6; overrun = 0; noted = 0 }
unfolding worked
small_buffers_totals = refl

small_buffers_with_expiry : decisions (played (small 1) small_buffers)
    ≡ replicate 2 (serves 5 (to 3 2 0) (Source 0) 0 (0 ∷ [])) ++ Idle ∷ discards 5 (to 3 2 0) 6 1 (0 ∷ []) ∷ []
unfolding worked
small_buffers_with_expiry = refl

-- a request with a reason is discarded with that, also where it is expired
abbrev tight : TableValue
tight = with_third (record third_group { ins = 1; tx = 1 })

abbrev unlawful_and_expired : List Planned
unlawful_and_expired = posts_five ∷ plain (posts_at (0 ∷ 1 ∷ []) 1 (to 3 2 7) []) ∷ replicate 3 (plain [])

unlawful_before_expired : decisions (played tight unlawful_and_expired) ≡ serves 5 (to 3 2 0) (Source 0) 0 (0 ∷ []) ∷ replicate 3 Idle ++ discards 2 (to 3 2 7) 3 3 (0 ∷ 1 ∷ []) ∷ []
unfolding worked
unlawful_before_expired = refl
