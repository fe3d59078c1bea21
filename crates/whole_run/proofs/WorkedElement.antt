-- One element by itself makes of a cycle what the run shows of it: two worked cycles.
use Rattle.std.proofs.Common.{◌≡◌, ℕ, List, [], ◌∷◌, refl, map}
use Rattle.ftpp_base.specs.Lists.{each_below}
use Rattle.ftpp_base.specs.declared.element.Round.TheVariants.{A2, B2}
use Rattle.bit_vote.specs.Agreed.{copy_at}
use Rattle.two_round.specs.Echoes.{result_for}
use Rattle.element_core.specs.Processors.{ports_of}
use Rattle.element_core.specs.Cycle.{State, Shown, Cycle, start, step}
use Rattle.element_core.specs.Sent.{cells_sent}
use Rattle.element_core.specs.Element.{Kept, Heard, made, kept_after}
use Rattle.element_core.proofs.WorkedParts.{worked, Planned, four_elements, input_by}
use Rattle.whole_run.proofs.WorkedVotes.{voted_posts}
use Rattle.whole_run.proofs.WorkedUpdates.{two_faced_update}

-- what an element keeps before a cycle, after its acts
abbrev kept_in : State → Shown → ℕ → Kept
kept_in s shown ne = record { me = ne; cycle = s.cycle; table = s.table; scoreboard = s.scoreboard; ports = ports_of shown.queues ne }

-- what it hears where each sends what the run says, the faulty one too in A2 and B2
abbrev heard_in : Shown → ℕ → Heard
heard_in shown ne = record {
  patterns = each_below shown.table.n (copy_at shown.patterns ne);
  relayed_patterns = each_below shown.table.n (cells_sent shown A2);
  packets = each_below shown.table.n (copy_at shown.packets ne);
  relayed_packets = each_below shown.table.n (cells_sent shown B2);
}

-- what it keeps in the run after a cycle
abbrev kept_of : State → ℕ → Kept
kept_of s ne = record { me = ne; cycle = s.cycle; table = s.table; scoreboard = s.scoreboard; ports = ports_of s.queues ne }

abbrev alone : State → Cycle → ℕ → Kept
alone s c ne = kept_after (kept_in s c.shown ne) (made (kept_in s c.shown ne) (heard_in c.shown ne))

-- what all elements by themselves keep after the first cycle of a script, and what they keep in the run
abbrev alone_after : List Planned → List Kept
alone_after [] = []
alone_after (c ∷ cs) = map (alone (start four_elements) (step (start four_elements) (input_by (start four_elements) c))) (0 ∷ 1 ∷ 2 ∷ 3 ∷ [])

abbrev in_run : List Planned → List Kept
in_run [] = []
in_run (c ∷ cs) = map (kept_of (step (start four_elements) (input_by (start four_elements) c)).state) (0 ∷ 1 ∷ 2 ∷ 3 ∷ [])

voted_posts_alone : alone_after voted_posts ≡ in_run voted_posts
unfolding worked made kept_after result_for
voted_posts_alone = refl

two_faced_update_alone : alone_after two_faced_update ≡ in_run two_faced_update
unfolding worked made kept_after result_for
two_faced_update_alone = refl
