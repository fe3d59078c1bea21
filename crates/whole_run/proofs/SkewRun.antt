-- A whole run of a group whose members post alike: nothing is lost.
use Rattle.std.proofs.Common.{◌≡◌, ℕ, zero, suc, ◌+◌, ◌<◌, ◌≤◌, Bool, true, false, cond, List, [], ◌∷◌, ◌++◌, length, map, drop, refl, ap, arith, sym, ◌∙◌, subst, Contains, Option, Some, None, option_map, slice_get, unwrap_or, IsSomeAnd, ◌⊎◌}
use Rattle.std.specs.List.{AllByRecursion}
use Rattle.std.proofs.lemmas.List.{map-append, drop-append-le, length-append, get_or-replicate, length-replicate}
use Rattle.std.proofs.lemmas.List.Elements.{All-from_recursion}
use Rattle.ftpp_base.specs.Lists.{is_this, cell_at}
use Rattle.ftpp_base.specs.declared.element.Proc.{Proc}
use Rattle.packet_format.specs.declared.Packet.{Packet}
use Rattle.bit_vote.specs.Vote.{Cell, IsCell}
use Rattle.bit_vote.proofs.Majority.{AreCells}
use Rattle.local_pattern.specs.Pattern.{entry_of}
use Rattle.config_table.specs.declared.groups.Group.{Group}
use Rattle.config_table.specs.declared.decisions.StateRow.{StateRow}
use Rattle.config_table.specs.Groups.{live_members}
use Rattle.config_table.specs.Table.{TableValue, group_named, is_named, IsValid}
use Rattle.flag_vote.specs.Flags.{Pattern, voted_flags}
use Rattle.scoreboard.specs.Board.{line_of, empty_scoreboard, blank_line, is_line_of, marked}
use Rattle.scoreboard.specs.Choice.{reason}
use Rattle.processor_buffers.specs.Queues.{Queues, Posted, no_queues}
use Rattle.data_exchange.specs.Entries.{fault_free_members, held_alike}
use Rattle.element_core.specs.Processors.{AllQueues, queues_of, ports_of, port_queues, answers_to, empty_queues, empty_ports, head_at}
use Rattle.element_core.specs.Cycle.{State, Input, Shown, served, state_after, update_in, update_packet, group_changed}
use Rattle.element_core.specs.Run.{Journal, IsJournal, run, state_at, input_at, shown_at, no_input}
use Rattle.element_core.specs.Alone.{IsInput}
use Rattle.element_core.specs.Premises.{IsSkewAlike, accepted_among, posted_of}
use Rattle.scoreboard.specs.Service.{takes_of}
use Rattle.element_core.specs.Claims.{times_taken, TakesPost, NothingLost, NoLossWithinSkew, IsPastExpiry}
use Rattle.element_core.proofs.RunLaws.{state_at-suc}
use Rattle.ftpp_base.proofs.Items.{find-map}
use Rattle.element_core.proofs.Places.{IsPlace}
use Rattle.config_table.proofs.ValidTable.{members-range, named-there}
use Rattle.config_table.proofs.LiveMembers.{live-member}
use Rattle.data_exchange.proofs.FaultFree.{fault_free-live}
use Rattle.ftpp_base.proofs.Among.{all-append}
use Rattle.element_core.proofs.Accepted.{output_of, acts-place, acts-output, accepted-rows, slice_get-left, slice_get-long, HasRow}
use Rattle.element_core.proofs.Calm.{shown-calm, state-calm, state_at-cycle, all_posts, posts_before, posts_before-suc, posts_before-all, posts_before-dated, posts_before-early}
use Rattle.bit_vote.proofs.Widths.{cells-from}
use Rattle.element_core.proofs.PatternLaws.{entry-own}
use Rattle.element_core.proofs.NextTable.{with_update-leaves, Leaves}
use Rattle.whole_run.proofs.NextQueues.{HasRows}
use Rattle.element_core.proofs.ShownFields.{IsShownBy, shown-fields, none-taken, times_taken-suc, service-counted, journal-faulty, history-all}
use Rattle.whole_run.proofs.SkewCycle.{taken-held, taken-admitted, taken-request}
use Rattle.whole_run.proofs.SkewTaken.{taken-discard, taken-entry}
use Rattle.whole_run.proofs.SkewStep.{Stands, stands-left, Before, served-taken, served-left, before-taken}

-- ---- at the start

-- the queues of a processor are empty
empty_at : (n : ℕ) (p : Proc) → p.ne < n → p.port < 8 → queues_of (empty_queues n) p ≡ no_queues
empty_at n p l w =
    ap (λ (ports : List Queues). port_queues ports p.port) (get_or-replicate n p.ne empty_ports [] l) ∙ get_or-replicate 8 p.port no_queues no_queues w

-- it has a place among them
empty_place : (n : ℕ) (p : Proc) → p.ne < n → p.port < 8 → IsPlace (empty_queues n) p
empty_place n p l w =
    let long = length-replicate n empty_ports in
    let wide : length (ports_of (empty_queues n) p.ne) ≡ 8 = ap length (get_or-replicate n p.ne empty_ports [] l) in
    record { element = omega arith; port = omega arith }

-- the blank line of a group
abbrev blank_for : Group → StateRow
blank_for g = blank_line g.vid

-- no request waits
empty_line : (table : TableValue) (g : Group) → group_named table g.vid ≡ Some g → (line_of (empty_scoreboard table) g.vid).request ≡ None
empty_line table g named =
    ap (λ (o : Option StateRow). (unwrap_or o (blank_line g.vid)).request) (find-map (is_line_of g.vid) (is_named g.vid) blank_for table.groups (λ h. refl) ∙ ap (option_map blank_for) named)

-- an entry with a bound, of which another one comes
some_early : (o found : Option (ℕ × Posted)) (bound : ℕ) → IsSomeAnd o (λ b. b.0 ≤ bound) → ((b : ℕ × Posted) → o ≡ Some b → b.0 ≤ bound → found ≡ Some b) → (b : ℕ × Posted) × (found ≡ Some b)
some_early None found bound h keeps = absurd h
some_early (Some b) found bound h keeps = (b, keeps b refl h)

-- a packet that is there comes of a post
some_post : (o : Option (ℕ × Posted)) (posted : Posted) → option_map posted_of o ≡ Some posted → (post : ℕ × Posted) × (o ≡ Some post) × (post.1 ≡ posted)
some_post None posted e = cc
some_post (Some post) posted e = let same : post.1 ≡ posted = cc in (post, refl, same)

-- a service keeps the table
served_table : (s : State) (shown : Shown) → (served s shown).table ≡ s.table
unfolding served
served_table s shown = refl

-- all cells of a list, where each at its place is one
cells_here : (wide : ℕ) (cells : List Cell) → ((s : ℕ) → IsCell wide (cell_at cells s)) → AllByRecursion (IsCell wide) cells
cells_here wide [] here = tt
cells_here wide (cell ∷ cells) here = (here 0, cells_here wide cells (λ s. here (suc s)))

-- ---- the premises of a run

module _ (table : TableValue) (journal : Journal) (faulty : Option ℕ) (g : Group) (begins : IsValid table) (follows : IsJournal faulty journal) (are : AllByRecursion (IsInput table.n) journal)
    (skew : IsSkewAlike table journal faulty g) where
  -- what comes from outside in each cycle is in shape
  inputs_at : (t : ℕ) → t < length journal → IsInput table.n (input_at journal t)
  inputs_at t l = All-from_recursion (IsInput table.n) journal are t no_input l

  -- no rejoin was taken before a cycle
  calm_at : (t : ℕ) → t < length journal → (input_at journal t).rejoined ≡ None
  calm_at t l = skew.no_rejoin t no_input l

  -- the faulty element is the same in each cycle
  faulty_at : (t : ℕ) → t < length journal → (input_at journal t).faulty ≡ faulty
  faulty_at t l = journal-faulty faulty journal t follows calm_at l

  -- what each cycle shows
  fields_at : (t : ℕ) → t < length journal → IsShownBy (state_at table journal t) (input_at journal t) (shown_at table journal t)
  fields_at t l =
      subst (IsShownBy (state_at table journal t) (input_at journal t)) (sym (shown-calm (state_at table journal t) (input_at journal t) (calm_at t l))) (shown-fields (state_at table journal t) (input_at journal t))

  -- What the state at the beginning of a cycle keeps, after c heads of each fault-free live member went.
  record Kept (t c : ℕ) : Type 0 where
    valid : IsValid (state_at table journal t).table
    named : group_named (state_at table journal t).table g.vid ≡ Some g
    stands : Stands faulty g (posts_before table journal t) c (state_at table journal t)
    lost : (p : Proc) → Contains (fault_free_members faulty g) p → c ≤ length (posts_before table journal t p)

  -- the live members of the group are in range
  range : (p : Proc) → Contains (live_members g) p → (p.ne < table.n) × (p.port < 8)
  range p m = members-range table begins g (named-there table g.vid g skew.listed).0 p (live-member g p m)

  -- at the start no head went
  kept_start : Kept 0 0
  unfolding run
  kept_start = record {
    valid = begins;
    named = skew.listed;
    stands = record {
      places = λ p m. empty_place table.n p (range p m).0 (range p m).1;
      rows = λ p m. subst HasRows (sym (empty_at table.n p (range p m).0 (range p m).1)) tt;
      outputs = λ p m. let live = (fault_free-live faulty g p m).0 in ap (λ (q : Queues). q.output) (empty_at table.n p (range p live).0 (range p live).1);
      line = λ w e. let none = empty_line table g skew.listed in cc;
    };
    lost = λ p m. omega arith;
  }

  -- ---- within a cycle

  -- the posts before the next cycle are those before this one and those of it
  grown : (t : ℕ) → t < length journal → (p : Proc)
      → posts_before table journal (suc t) p ≡ posts_before table journal t p ++ accepted_among (state_at table journal t).cycle p (input_at journal t).acts (shown_at table journal t).answers
  grown t l p = posts_before-suc table journal t p l

  -- a post before a cycle is one before the next
  still : (t : ℕ) → t < length journal → (p : Proc) (k : ℕ) (post : ℕ × Posted) → slice_get (posts_before table journal t p) k ≡ Some post → slice_get (posts_before table journal (suc t) p) k ≡ Some post
  still t l p k post e =
      ap (λ (xs : List (ℕ × Posted)). slice_get xs k) (grown t l p)
      ∙ slice_get-left (posts_before table journal t p) (accepted_among (state_at table journal t).cycle p (input_at journal t).acts (shown_at table journal t).answers) k post e

  -- the outputs after the acts of a cycle
  shown_output : (t c : ℕ) → t < length journal → Kept t c → (p : Proc) → Contains (fault_free_members faulty g) p
      → output_of (shown_at table journal t).queues p ≡ map posted_of (drop c (posts_before table journal (suc t) p))
  shown_output t c l k p m =
      let s : State = state_at table journal t in
      let f = fields_at t l in
      let live = (fault_free-live faulty g p m).0 in
      let new : List (ℕ × Posted) = accepted_among s.cycle p (input_at journal t).acts (answers_to s.table s.queues (input_at journal t).acts) in
      let old : List (ℕ × Posted) = posts_before table journal t p in
      let all_of : posts_before table journal (suc t) p ≡ old ++ new = grown t l p ∙ ap (λ answers. old ++ accepted_among s.cycle p (input_at journal t).acts answers) f.answers in
      ap (λ (all : AllQueues). output_of all p) f.queues
      ∙ acts-output s.table s.cycle s.queues p (input_at journal t).acts (k.stands.places p live)
      ∙ ap (λ (xs : List Posted). xs ++ map posted_of new) (k.stands.outputs p m)
      ∙ sym (map-append posted_of (drop c old) new)
      ∙ ap (map posted_of) (sym (drop-append-le c old new (k.lost p m)))
      ∙ ap (λ (xs : List (ℕ × Posted)). map posted_of (drop c xs)) (sym all_of)

  -- what is known of a cycle before its decision
  before_at : (t c : ℕ) → t < length journal → Kept t c → Before (state_at table journal t) (shown_at table journal t) faulty g (posts_before table journal (suc t)) c
  before_at t c l k =
      let s : State = state_at table journal t in
      let shown : Shown = shown_at table journal t in
      let input : Input = input_at journal t in
      let f = fields_at t l in
      let here_range : (p : Proc) → Contains (live_members g) p → (p.ne < s.table.n) × (p.port < 8) = λ p m. members-range s.table k.valid g (named-there s.table g.vid g k.named).0 p (live-member g p m) in
      record {
        ready = record {
          valid = k.valid;
          named = k.named;
          majority = skew.majority;
          shows = λ p m.
              let live = fault_free-live faulty g p m in
              ap (λ (pattern : Pattern). entry_of pattern p) f.pattern
              ∙ entry-own s.table shown.queues input p (here_range p live.0).0 (here_range p live.0).1 (ap (λ (o : Option ℕ). is_this o p.ne) (faulty_at t l) ∙ live.1);
          outputs = shown_output t c l k;
          dated = λ p post m e.
              let soon = posts_before-dated table journal (suc t) p c post (omega arith) e in
              let now = state_at-cycle table journal t (omega arith) in omega arith;
          line = λ w e. let one = k.stands.line w e in (one.0, one.1, one.2, still t l one.0 c one.1 one.3, one.4, one.5);
          equal = λ p q a b m n e h.
              ((skew.alike p q m n).equal c a b (posts_before-all table journal (suc t) p c a e) (posts_before-all table journal (suc t) q c b h)).0;
          follows = λ p q a m n e late.
              let now = state_at-cycle table journal t (omega arith) in
              let there_is = (skew.alike p q m n).follows c a (posts_before-all table journal (suc t) p c a e) (omega arith) in
              some_early (slice_get (all_posts table journal q) c) (slice_get (posts_before table journal (suc t) q) c) (a.0 + g.ts) there_is (λ b h low. posts_before-early table journal (suc t) q c b (omega arith) h (omega arith));
        };
        places = λ p m. subst (λ (all : AllQueues). IsPlace all p) (sym f.queues) (acts-place s.table s.queues p input.acts (k.stands.places p m));
        rows = λ p m.
            subst (λ (all : AllQueues). HasRows (queues_of all p)) (sym f.queues)
            (subst (AllByRecursion HasRow) (sym (acts-output s.table s.cycle s.queues p input.acts (k.stands.places p m)))
            (all-append HasRow (output_of s.queues p) (map posted_of (accepted_among s.cycle p input.acts (answers_to s.table s.queues input.acts))) (k.stands.rows p m)
            (accepted-rows s.cycle p input.acts (answers_to s.table s.queues input.acts) (inputs_at t l).acts)));
        decision = f.decision;
      }

  -- ---- from one cycle to the next

  -- the state at the next cycle
  next_state : (t : ℕ) → t < length journal → state_at table journal (suc t) ≡ state_after (state_at table journal t) (shown_at table journal t)
  next_state t l =
      state_at-suc table journal t l
      ∙ state-calm (state_at table journal t) (input_at journal t) (calm_at t l)
      ∙ ap (state_after (state_at table journal t)) (sym (shown-calm (state_at table journal t) (input_at journal t) (calm_at t l)))

  -- its update leaves the group
  left : (t c : ℕ) → t < length journal → Kept t c → Leaves g (served (state_at table journal t) (shown_at table journal t)) (state_after (state_at table journal t) (shown_at table journal t))
  left t c l k =
      let s : State = state_at table journal t in
      let shown : Shown = shown_at table journal t in
      let f = fields_at t l in
      let same = served_table s shown in
      let other = history-all (λ (x : Shown). x.changed ≡ Some g.vid → ⊥) table journal t skew.not_named l in
      with_update-leaves g (served s shown) (update_in (update_packet s.table shown.decision shown.packets)) (subst IsValid (sym same) k.valid)
      (subst (λ (x : TableValue). group_named x g.vid ≡ Some g) (sym same) k.named)
      (λ e. other (f.changed ∙ ap (λ (x : TableValue). group_changed x (update_in (update_packet s.table shown.decision shown.packets))) (sym same) ∙ e))

  -- the next state keeps what the service left
  kept_from : (t c d : ℕ) → t < length journal → Kept t c → Stands faulty g (posts_before table journal (suc t)) d (served (state_at table journal t) (shown_at table journal t))
      → ((p : Proc) → Contains (fault_free_members faulty g) p → d ≤ length (posts_before table journal (suc t) p)) → Kept (suc t) d
  kept_from t c d l k stands lost =
      let s : State = state_at table journal t in
      let shown : Shown = shown_at table journal t in
      let leaves = left t c l k in
      let next = sym (next_state t l) in
      record {
        valid = subst (λ (x : State). IsValid x.table) next leaves.valid;
        named = subst (λ (x : State). group_named x.table g.vid ≡ Some g) next leaves.named;
        stands = subst (Stands faulty g (posts_before table journal (suc t)) d) next (stands-left faulty g (posts_before table journal (suc t)) d (served s shown) (state_after s shown) stands leaves);
        lost = lost;
      }

  -- one head more went, or none
  kept_by : (t c : ℕ) (b : Bool) → t < length journal → Kept t c → takes_of g.vid (shown_at table journal t).decision ≡ b → Kept (suc t) (cond b (suc c) c)
  kept_by t c true l k e =
      let b = before_at t c l k in
      let taken = before-taken (state_at table journal t) (shown_at table journal t) faulty g (posts_before table journal (suc t)) c b e in
      kept_from t c (suc c) l k (served-taken (state_at table journal t) (shown_at table journal t) faulty g (posts_before table journal (suc t)) c b e taken)
      (λ p m. let some = some_post (slice_get (posts_before table journal (suc t) p) c) taken.posted (taken.post p m) in
      let l = slice_get-long (posts_before table journal (suc t) p) c some.0 some.1 in omega arith)
  kept_by t c false l k e =
      let b = before_at t c l k in
      kept_from t c c l k (served-left (state_at table journal t) (shown_at table journal t) faulty g (posts_before table journal (suc t)) c b e)
      (λ p m.
      let new : List (ℕ × Posted) = accepted_among (state_at table journal t).cycle p (input_at journal t).acts (shown_at table journal t).answers in
      let long : length (posts_before table journal (suc t) p) ≡ length (posts_before table journal t p) + length new = ap length (grown t l p) ∙ length-append (posts_before table journal t p) new in
      let low = k.lost p m in omega arith)

  -- at each cycle as many heads went as requests were taken
  kept_at : (t : ℕ) → t ≤ length journal → Kept t (times_taken table journal g.vid t)
  kept_at zero l = subst (Kept 0) (ap length (sym (none-taken table journal g.vid))) kept_start
  kept_at (suc t) l =
      let below : t < length journal = omega arith in
      subst (Kept (suc t)) (sym (times_taken-suc table journal g.vid t below))
      (kept_by t (times_taken table journal g.vid t) (takes_of g.vid (shown_at table journal t).decision) below (kept_at t (omega arith)) refl)

  -- ---- a cycle that takes a request of the group

  -- a cycle that takes a request takes the next post
  takes_post : (t c : ℕ) → t < length journal → Kept t c → takes_of g.vid (shown_at table journal t).decision ≡ true → TakesPost table journal faulty g t c
  takes_post t c l k e =
      let s : State = state_at table journal t in
      let shown : Shown = shown_at table journal t in
      let f = fields_at t l in
      let b = before_at t c l k in
      let taken = before-taken s shown faulty g (posts_before table journal (suc t)) c b e in
      let cells : AreCells 64 (input_at journal t).packets = cells-from 64 (input_at journal t).packets (cells_here 64 (input_at journal t).packets (inputs_at t l).packet_cells) in
      record {
        posted = taken.posted;
        held = ap (λ (o : Option ℕ). held_alike o (head_at shown.queues) g) (f.faulty ∙ faulty_at t l)
            ∙ taken-held s.table s.cycle s.scoreboard shown.pattern shown.queues faulty g (posts_before table journal (suc t)) c b.ready shown.decision taken;
        request = taken-request shown.decision taken;
        admitted = taken-admitted shown.decision taken;
        post = λ p m.
            let some = some_post (slice_get (posts_before table journal (suc t) p) c) taken.posted (taken.post p m) in
            ap (option_map posted_of) (posts_before-all table journal (suc t) p c some.0 some.1) ∙ ap (λ (x : Posted). Some x) some.2;
        entry = λ service exchange good ne low.
            ap (λ (entries : List (Option Packet)). cell_at entries ne) f.entries
            ∙ taken-entry b.ready shown.decision taken b.rows (input_at journal t) (faulty_at t l) cells service exchange good ne (subst (λ (x : TableValue). ne < x.n) f.table low);
        discard = λ vid number waited desc admitted is.
            let P : TableValue → ℕ → Type 0 = λ x cycle.
            (reason x g desc ≡ Some number) ⊎ ((reason x g desc ≡ None) × (number ≡ 6) × IsPastExpiry x (marked x (voted_flags x shown.pattern) cycle s.scoreboard) g.vid desc) in
            subst (λ (x : TableValue). P x shown.cycle) (sym f.table) (subst (P s.table) (sym f.cycle) (taken-discard b.ready shown.decision taken vid number waited desc admitted is));
      }

  -- so nothing is lost
  pub nothing-lost : NothingLost table journal faulty g
  nothing-lost = record {
    takes = λ t l e. takes_post t (times_taken table journal g.vid t) l (kept_at t (omega arith)) e;
    counted = service-counted table journal g.vid;
    waits = λ t p l m. (kept_at t l).stands.outputs p m;
  }

-- nothing is lost within the skew
pub no-loss : NoLossWithinSkew
no-loss table journal faulty g valid follows are skew = nothing-lost table journal faulty g valid follows are skew
