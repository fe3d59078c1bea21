-- The state that a cycle of a group whose members post alike leaves: one head more is gone of each, or of none.
use Rattle.std.proofs.Common.{◌≡◌, ℕ, suc, Bool, true, false, cond, List, map, drop, refl, ap, sym, ◌∙◌, subst, Contains, Option, Some, None}
use Rattle.std.specs.List.{AllByRecursion}
use Rattle.ftpp_base.specs.declared.element.Proc.{Proc}
use Rattle.packet_format.specs.declared.Descriptor.{Descriptor}
use Rattle.packet_format.specs.Packets.{same_descriptor}
use Rattle.config_table.specs.declared.groups.Group.{Group}
use Rattle.config_table.specs.declared.decisions.StateRow.{StateRow}
use Rattle.config_table.specs.Groups.{live_members}
use Rattle.flag_vote.specs.Flags.{voted_flags}
use Rattle.scoreboard.specs.Board.{Scoreboard, Waiting, line_of, marked}
use Rattle.scoreboard.specs.Choice.{after_decision, scoreboard_decision}
use Rattle.processor_buffers.specs.Queues.{Queues, Posted, after_pop, head_of, rest, carries}
use Rattle.data_exchange.specs.Entries.{fault_free_members}
use Rattle.element_core.specs.Processors.{queues_of}
use Rattle.element_core.specs.Cycle.{State, Shown, served, after_service}
use Rattle.scoreboard.specs.Service.{takes_of}
use Rattle.element_core.proofs.Places.{IsPlace}
use Rattle.config_table.proofs.ValidTable.{members-apart, named-there}
use Rattle.config_table.proofs.LiveMembers.{live-member}
use Rattle.data_exchange.proofs.FaultFree.{fault_free-live}
use Rattle.element_core.specs.Premises.{posted_of}
use Rattle.element_core.proofs.Accepted.{output_of, rest-drop, HasRow}
use Rattle.scoreboard.proofs.NextLine.{after_decision-own, after_decision-other}
use Rattle.element_core.proofs.Outputs.{deliveries-output}
use Rattle.whole_run.proofs.NextQueues.{HasRows, service-own, service-other, service-place, service-rows, deliveries-place}
use Rattle.element_core.proofs.NextTable.{Leaves}
use Rattle.packet_format.proofs.Descriptors.{same_descriptor-refl}
use Rattle.element_core.proofs.Chosen.{request-marked}
use Rattle.whole_run.proofs.SkewCycle.{FirstPost, IsReady, IsTaken, marked-first, taken, taken-admitted, taken-request}

-- What a state keeps of a group, after c heads of each fault-free live member went.
pub record Stands (faulty : Option ℕ) (g : Group) (posts : Proc → List (ℕ × Posted)) (c : ℕ) (s : State) : Type 0 where
  pub places : (p : Proc) → Contains (live_members g) p → IsPlace s.queues p
  pub rows : (p : Proc) → Contains (live_members g) p → HasRows (queues_of s.queues p)
  pub outputs : (p : Proc) → Contains (fault_free_members faulty g) p → output_of s.queues p ≡ map posted_of (drop c (posts p))
  pub line : (w : Waiting) → (line_of s.scoreboard g.vid).request ≡ Some w → FirstPost faulty g posts c w

-- an update that leaves the group leaves that
pub stands-left : (faulty : Option ℕ) (g : Group) (posts : Proc → List (ℕ × Posted)) (c : ℕ) (before after : State) → Stands faulty g posts c before → Leaves g before after → Stands faulty g posts c after
stands-left faulty g posts c before after s l = record {
  places = λ p m. l.places p (live-member g p m) (s.places p m);
  rows = λ p m. subst HasRows (sym (l.queues p (live-member g p m) (s.places p m))) (s.rows p m);
  outputs = λ p m. let live = (fault_free-live faulty g p m).0 in ap (λ (q : Queues). q.output) (l.queues p (live-member g p live) (s.places p live)) ∙ s.outputs p m;
  line = λ w e. s.line w (sym (ap (λ (x : StateRow). x.request) l.line) ∙ e);
}

-- ---- a head that goes

-- a head that carries the request goes
pop_by : (desc : Descriptor) (q : Queues) (posted : Posted) → head_of q ≡ Some posted → posted.0 ≡ desc → (after_pop desc q).output ≡ rest q.output
pop_by desc q posted e d =
    let yes_carries : carries (head_of q) desc ≡ true =
    ap (λ (o : Option Posted). carries o desc) e ∙ ap (λ (x : Descriptor). same_descriptor x desc) d ∙ same_descriptor-refl desc in
    ap (λ (b : Bool). (cond b (record q { output = rest q.output }) q).output) yes_carries

module _ (s : State) (shown : Shown) (faulty : Option ℕ) (g : Group) (posts : Proc → List (ℕ × Posted)) (c : ℕ) where
  -- what is known before the decision
  pub record Before : Type 0 where
    pub ready : IsReady s.table s.cycle s.scoreboard shown.pattern shown.queues faulty g posts c
    pub places : (p : Proc) → Contains (live_members g) p → IsPlace shown.queues p
    pub rows : (p : Proc) → Contains (live_members g) p → HasRows (queues_of shown.queues p)
    pub decision : shown.decision ≡ scoreboard_decision s.table s.cycle (voted_flags s.table shown.pattern) s.scoreboard

  -- the places and the rows after the cycle's service and deliveries
  place_then : Before → (p : Proc) → Contains (live_members g) p → IsPlace (served s shown).queues p
  unfolding served
  place_then b p m = deliveries-place s.table s.cycle shown.decision shown.entries (after_service s.table shown.decision shown.queues) p (service-place s.table shown.decision shown.queues p (b.places p m))

  -- deliveries leave the outputs of the service
  output_then : (p : Proc) → output_of (served s shown).queues p ≡ output_of (after_service s.table shown.decision shown.queues) p
  unfolding served
  output_then p = deliveries-output s.table s.cycle shown.decision shown.entries (after_service s.table shown.decision shown.queues) p

  -- the packets still have 64 bytes
  rows_then : Before → (p : Proc) → Contains (live_members g) p → HasRows (queues_of (served s shown).queues p)
  rows_then b p m = subst (AllByRecursion HasRow) (sym (output_then p)) (service-rows s.table shown.decision shown.queues p (b.rows p m))

  -- where the decision takes the group's request, each fault-free live member loses its next post
  output_taken : Before → takes_of g.vid shown.decision ≡ true → IsTaken s.table s.cycle s.scoreboard shown.pattern shown.queues faulty g posts c shown.decision
      → (p : Proc) → Contains (fault_free_members faulty g) p → output_of (served s shown).queues p ≡ map posted_of (drop (suc c) (posts p))
  output_taken b e t p m =
      let live = (fault_free-live faulty g p m).0 in
      output_then p
      ∙ ap (λ (q : Queues). q.output) (service-own s.table shown.decision shown.queues g p t.posted.0 b.ready.named (members-apart s.table b.ready.valid g (named-there s.table g.vid g b.ready.named).0) (b.places p live) live e
      (taken-admitted shown.decision t p m) (taken-request shown.decision t))
      ∙ pop_by t.posted.0 (queues_of shown.queues p) t.posted (t.head p m) refl
      ∙ ap (λ (xs : List Posted). rest xs) (b.ready.outputs p m)
      ∙ rest-drop posted_of c (posts p)

  -- otherwise none of them loses any
  output_left : Before → takes_of g.vid shown.decision ≡ false → (p : Proc) → Contains (fault_free_members faulty g) p → output_of (served s shown).queues p ≡ map posted_of (drop c (posts p))
  output_left b e p m =
      let live = (fault_free-live faulty g p m).0 in
      output_then p
      ∙ ap (λ (q : Queues). q.output) (service-other s.table shown.decision shown.queues g p b.ready.valid b.ready.named (live-member g p live) e)
      ∙ b.ready.outputs p m

  -- the scoreboard after the decision
  board_then : (served s shown).scoreboard ≡ after_decision (scoreboard_decision s.table s.cycle (voted_flags s.table shown.pattern) s.scoreboard) (marked s.table (voted_flags s.table shown.pattern) s.cycle s.scoreboard)
  unfolding served
  board_then = refl

  -- the state after a cycle that takes the group's request
  pub served-taken : Before → takes_of g.vid shown.decision ≡ true → IsTaken s.table s.cycle s.scoreboard shown.pattern shown.queues faulty g posts c shown.decision → Stands faulty g posts (suc c) (served s shown)
  served-taken b e t = record {
    places = place_then b;
    rows = rows_then b;
    outputs = output_taken b e t;
    line = λ w h.
        let gone : (line_of (served s shown).scoreboard g.vid).request ≡ None =
        ap (λ (x : Scoreboard). (line_of x g.vid).request) board_then
        ∙ after_decision-own (scoreboard_decision s.table s.cycle (voted_flags s.table shown.pattern) s.scoreboard) (marked s.table (voted_flags s.table shown.pattern) s.cycle s.scoreboard) g.vid
        (ap (takes_of g.vid) (sym b.decision) ∙ e) in cc;
  }

  -- the state after a cycle that does not
  pub served-left : Before → takes_of g.vid shown.decision ≡ false → Stands faulty g posts c (served s shown)
  served-left b e = record {
    places = place_then b;
    rows = rows_then b;
    outputs = output_left b e;
    line = λ w h.
        marked-first s.table s.cycle s.scoreboard shown.pattern shown.queues faulty g posts c b.ready w
        (sym (request-marked s.table shown.pattern s.cycle s.scoreboard g b.ready.named)
        ∙ sym (ap (λ (x : StateRow). x.request) (after_decision-other (scoreboard_decision s.table s.cycle (voted_flags s.table shown.pattern) s.scoreboard)
        (marked s.table (voted_flags s.table shown.pattern) s.cycle s.scoreboard) g.vid (ap (takes_of g.vid) (sym b.decision) ∙ e)))
        ∙ sym (ap (λ (x : Scoreboard). (line_of x g.vid).request) board_then)
        ∙ h);
  }

  -- a decision that takes the group's request
  pub before-taken : Before → takes_of g.vid shown.decision ≡ true → IsTaken s.table s.cycle s.scoreboard shown.pattern shown.queues faulty g posts c shown.decision
  before-taken b e =
      subst (IsTaken s.table s.cycle s.scoreboard shown.pattern shown.queues faulty g posts c) (sym b.decision)
      (taken s.table s.cycle s.scoreboard shown.pattern shown.queues faulty g posts c b.ready (ap (takes_of g.vid) (sym b.decision) ∙ e))
