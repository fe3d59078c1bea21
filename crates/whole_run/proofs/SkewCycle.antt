-- One cycle of a group whose fault-free live members post alike: the request that is taken is the next post of each of them.
use Rattle.std.proofs.Common.{◌≡◌, ℕ, ◌+◌, ◌-◌, ◌≤◌, true, List, map, drop, refl, ap, arith, sym, ◌∙◌, Contains, Option, Some, None, option_map, slice_get, ◌⊎◌, inl, inr}
use Rattle.std.specs.Prelude.{nat_le}
use Rattle.std.proofs.lemmas.Bool.{leb-true, cases_eq, or_cases}
use Rattle.ftpp_base.specs.Sets.{has}
use Rattle.ftpp_base.specs.declared.element.Proc.{Proc}
use Rattle.packet_format.specs.declared.Descriptor.{Descriptor}
use Rattle.packet_format.specs.Packets.{same_descriptor}
use Rattle.packet_format.proofs.Descriptors.{same_descriptor-true}
use Rattle.config_table.specs.declared.groups.Group.{Group}
use Rattle.config_table.specs.declared.decisions.Decision.{Decision}
use Rattle.config_table.specs.Table.{TableValue, group_named, IsValid}
use Rattle.flag_vote.specs.Flags.{Pattern, flags_of, voted_flags, voted_descriptor, holds}
use Rattle.local_pattern.specs.Pattern.{entry_of}
use Rattle.scoreboard.specs.Board.{Scoreboard, Waiting, line_of}
use Rattle.scoreboard.specs.Choice.{Request, discard_reason, done_with, scoreboard_decision}
use Rattle.processor_buffers.specs.Queues.{Posted, first}
use Rattle.data_exchange.specs.Entries.{fault_free_members, fault_free_majority, held_alike}
use Rattle.element_core.specs.Processors.{AllQueues, head_at, entry_shown}
use Rattle.scoreboard.specs.Service.{takes_of}
use Rattle.element_core.specs.Claims.{admitted_set, taken_request}
use Rattle.config_table.proofs.ValidTable.{members-range, named-there, valid-n}
use Rattle.config_table.proofs.LiveMembers.{live-member}
use Rattle.data_exchange.proofs.FaultFree.{fault_free-live}
use Rattle.element_core.specs.Premises.{posted_of}
use Rattle.element_core.proofs.Accepted.{output_of, first-drop}
use Rattle.whole_run.proofs.Heads.{holds-head, head-holds, voted-holder, unanimous-holds, holder-admitted, held_alike-all}
use Rattle.element_core.proofs.Chosen.{marked_request, request_for, Takes, takes-chosen, waits-voted}

-- A fault-free live member has the post of that number, of that request, and made it no later than since.
abbrev pub FirstPost : Option ℕ → Group → (Proc → List (ℕ × Posted)) → ℕ → Waiting → Type 0
FirstPost faulty g posts c w = (p : Proc) × (post : ℕ × Posted) × (Contains (fault_free_members faulty g) p) × (slice_get (posts p) c ≡ Some post) × (post.1.0 ≡ w.0) × (post.0 ≤ w.1)

-- What stands in a cycle after its acts and its pattern: c heads of each fault-free live member went before.
pub record IsReady (table : TableValue) (now : ℕ) (board : Scoreboard) (pattern : Pattern) (all : AllQueues) (faulty : Option ℕ) (g : Group) (posts : Proc → List (ℕ × Posted)) (c : ℕ) : Type 0 where
  pub valid : IsValid table
  pub named : group_named table g.vid ≡ Some g
  pub majority : fault_free_majority faulty g ≡ true
  pub shows : (p : Proc) → Contains (fault_free_members faulty g) p → entry_of pattern p ≡ entry_shown table all p
  pub outputs : (p : Proc) → Contains (fault_free_members faulty g) p → output_of all p ≡ map posted_of (drop c (posts p))
  pub dated : (p : Proc) (post : ℕ × Posted) → Contains (fault_free_members faulty g) p → slice_get (posts p) c ≡ Some post → post.0 ≤ now
  pub line : (w : Waiting) → (line_of board g.vid).request ≡ Some w → FirstPost faulty g posts c w
  pub equal : (p q : Proc) (a b : ℕ × Posted) → Contains (fault_free_members faulty g) p → Contains (fault_free_members faulty g) q → slice_get (posts p) c ≡ Some a → slice_get (posts q) c ≡ Some b → a.1 ≡ b.1
  pub follows : (p q : Proc) (a : ℕ × Posted) → Contains (fault_free_members faulty g) p → Contains (fault_free_members faulty g) q → slice_get (posts p) c ≡ Some a → a.0 + g.ts ≤ now
      → (b : ℕ × Posted) × (slice_get (posts q) c ≡ Some b)

-- what is there after a map was there before
some_mapped : {A B : Type 0} (f : A → B) (o : Option A) (y : B) → option_map f o ≡ Some y → (x : A) × (o ≡ Some x) × (f x ≡ y)
some_mapped f None y e = cc
some_mapped f (Some x) y e = let same : f x ≡ y = cc in (x, refl, same)

module _ (table : TableValue) (now : ℕ) (board : Scoreboard) (pattern : Pattern) (all : AllQueues) (faulty : Option ℕ) (g : Group) (posts : Proc → List (ℕ × Posted)) (c : ℕ) where
  -- a fault-free live member's head is its next post
  pub head_is : IsReady table now board pattern all faulty g posts c → (p : Proc) → Contains (fault_free_members faulty g) p → head_at all p ≡ option_map posted_of (slice_get (posts p) c)
  head_is r p m = ap (λ (xs : List Posted). first xs) (r.outputs p m) ∙ first-drop posted_of c (posts p)

  -- a fault-free live member that holds a request has a next post of it
  post_held : IsReady table now board pattern all faulty g posts c → (p : Proc) (desc : Descriptor) → Contains (fault_free_members faulty g) p → holds pattern desc p ≡ true
      → (post : ℕ × Posted) × (slice_get (posts p) c ≡ Some post) × (post.1.0 ≡ desc)
  post_held r p desc m h =
      let head = holds-head pattern table all p desc (r.shows p m) h in
      let some = some_mapped posted_of (slice_get (posts p) c) head.0 (sym (head_is r p m) ∙ head.1) in
      (some.0, some.1, ap (λ (x : Posted). x.0) some.2 ∙ head.2)

  -- a request that waits since now, or since its line had it
  since_cases : IsReady table now board pattern all faulty g posts c → (w : Waiting) → voted_descriptor pattern g ≡ Some w.0
      → ((w.1 ≡ now → ⊥) → (old : Waiting) × ((line_of board g.vid).request ≡ Some old) × (same_descriptor old.0 w.0 ≡ true) × (old.1 ≡ w.1))
      → (w.1 ≡ now) ⊎ (w.1 ≡ now → ⊥) → FirstPost faulty g posts c w
  since_cases r w voted since (inl is_now) =
      let holder = voted-holder pattern faulty g w.0 voted r.majority in
      let post = post_held r holder.0 w.0 holder.1 holder.2 in
      let soon = r.dated holder.0 post.0 holder.1 post.1 in
      (holder.0, post.0, holder.1, post.1, post.2, (omega arith))
  since_cases r w voted since (inr wrong) =
      let old = since wrong in
      let before = r.line old.0 old.1 in
      let far = before.5 in
      let far_too = old.3 in
      (before.0, before.1, before.2, before.3, before.4 ∙ same_descriptor-true old.0.0 w.0 old.2, (omega arith))

  -- the request that waits after the pattern is the next post of a fault-free live member
  pub marked-first : IsReady table now board pattern all faulty g posts c → (w : Waiting) → marked_request table pattern now board g ≡ Some w → FirstPost faulty g posts c w
  marked-first r w e =
      let v = waits-voted (voted_flags table pattern) now (line_of board g.vid).request (voted_descriptor pattern g) w e in
      since_cases r w v.0 v.1.since (cases_eq w.1 now)

  -- each fault-free live member has a next post: all hold the request, or the timeout has passed
  has_post : IsReady table now board pattern all faulty g posts c → (w : Waiting) → voted_descriptor pattern g ≡ Some w.0 → FirstPost faulty g posts c w
      → ((flags_of pattern g).unanimous ≡ true) ⊎ (nat_le g.ts (now - w.1) ≡ true)
      → (q : Proc) → Contains (fault_free_members faulty g) q → (post : ℕ × Posted) × (slice_get (posts q) c ≡ Some post)
  has_post r w voted one (inl unanimous) q m =
      let post = post_held r q w.0 m (unanimous-holds pattern g w.0 q voted unanimous (fault_free-live faulty g q m).0) in (post.0, post.1)
  has_post r w voted one (inr late) q m =
      let far = leb-true g.ts (now - w.1) late in
      let early = one.5 in
      let soon = r.dated one.0 one.1 one.2 one.3 in
      r.follows one.0 q one.1 one.2 m one.3 (omega arith)

  -- What is known of a decision that takes the group's request: it is the next post of each fault-free live member.
  pub record IsTaken (decision : Decision) : Type 0 where
    pub waiting : Waiting
    pub posted : Posted
    pub marked : marked_request table pattern now board g ≡ Some waiting
    pub voted : voted_descriptor pattern g ≡ Some waiting.0
    pub request : posted.0 ≡ waiting.0
    pub post : (p : Proc) → Contains (fault_free_members faulty g) p → option_map posted_of (slice_get (posts p) c) ≡ Some posted
    pub head : (p : Proc) → Contains (fault_free_members faulty g) p → head_at all p ≡ Some posted
    pub admitted : (p : Proc) → Contains (fault_free_members faulty g) p → has (flags_of pattern g).holds p.ne ≡ true
    pub done : decision ≡ done_with now (request_for pattern g waiting) (discard_reason table (request_for pattern g waiting))

  -- so a request that is taken is the next post of all
  taken_from : IsReady table now board pattern all faulty g posts c → (decision : Decision) → Takes table pattern now board g decision → IsTaken decision
  taken_from r decision t =
      let w : Waiting = t.waiting in
      let voted = (waits-voted (voted_flags table pattern) now (line_of board g.vid).request (voted_descriptor pattern g) w t.marked).0 in
      let one = marked-first r w t.marked in
      let posted : Posted = one.1.1 in
      let post : (q : Proc) → Contains (fault_free_members faulty g) q → option_map posted_of (slice_get (posts q) c) ≡ Some posted = λ q m.
      let b = has_post r w voted one (or_cases (flags_of pattern g).unanimous (nat_le g.ts (now - w.1)) t.ready) q m in
      ap (option_map posted_of) b.1 ∙ ap (λ (x : Posted). Some x) (sym (r.equal one.0 q one.1 b.0 one.2 m one.3 b.1)) in
      let head : (q : Proc) → Contains (fault_free_members faulty g) q → head_at all q ≡ Some posted = λ q m. head_is r q m ∙ post q m in
      record {
        waiting = w;
        posted = posted;
        marked = t.marked;
        voted = voted;
        request = one.4;
        post = post;
        head = head;
        admitted = λ q m.
            let live = (fault_free-live faulty g q m).0 in
            let ne_low = (members-range table r.valid g (named-there table g.vid g r.named).0 q (live-member g q live)).0 in
            let few = valid-n table r.valid in
            holder-admitted pattern g w.0 q voted live (head-holds pattern table all q w.0 posted (r.shows q m) (head q m) one.4) (omega arith);
        done = t.done;
      }

  -- a decision that takes the group's request
  pub taken : IsReady table now board pattern all faulty g posts c → takes_of g.vid (scoreboard_decision table now (voted_flags table pattern) board) ≡ true
      → IsTaken (scoreboard_decision table now (voted_flags table pattern) board)
  taken r e = taken_from r (scoreboard_decision table now (voted_flags table pattern) board) (takes-chosen table pattern now board g r.valid r.named e)

  -- it is held alike
  pub taken-held : IsReady table now board pattern all faulty g posts c → (decision : Decision) (t : IsTaken decision) → held_alike faulty (head_at all) g ≡ Some t.posted
  taken-held r decision t = held_alike-all faulty (head_at all) g t.posted r.majority t.head

-- ---- what such a decision says

-- the admitted set of a decision is that of its request
done_admitted : (now : ℕ) (r : Request) (o : Option ℕ) (ne : ℕ) → admitted_set (done_with now r o) ne ≡ has r.flags.holds ne
done_admitted now r None ne = refl
done_admitted now r (Some number) ne = refl

-- the request of a decision
done_request : (now : ℕ) (r : Request) (o : Option ℕ) → taken_request (done_with now r o) ≡ Some r.desc
done_request now r None = refl
done_request now r (Some number) = refl

module _ {table : TableValue} {now : ℕ} {board : Scoreboard} {pattern : Pattern} {all : AllQueues} {faulty : Option ℕ} {g : Group} {posts : Proc → List (ℕ × Posted)} {c : ℕ} where
  -- each fault-free live member is admitted
  pub taken-admitted : (decision : Decision) → IsTaken table now board pattern all faulty g posts c decision → (p : Proc) → Contains (fault_free_members faulty g) p → admitted_set decision p.ne ≡ true
  taken-admitted decision t p m =
      ap (λ (d : Decision). admitted_set d p.ne) t.done
      ∙ done_admitted now (request_for pattern g t.waiting) (discard_reason table (request_for pattern g t.waiting)) p.ne
      ∙ t.admitted p m

  -- it takes the request of the post
  pub taken-request : (decision : Decision) (t : IsTaken table now board pattern all faulty g posts c decision) → taken_request decision ≡ Some t.posted.0
  taken-request decision t =
      ap taken_request t.done ∙ done_request now (request_for pattern g t.waiting) (discard_reason table (request_for pattern g t.waiting)) ∙ ap (λ (d : Descriptor). Some d) (sym t.request)
