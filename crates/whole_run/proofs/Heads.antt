-- What the agreed pattern says of fault-free members: exactly what their heads are.
use Rattle.std.proofs.Common.{◌≡◌, ℕ, ◌<◌, Bool, true, cond, List, [], ◌∷◌, length, map, refl, ap, arith, sym, ◌∙◌, Contains, Option, Some, None, is_some, option_map, unwrap_or}
use Rattle.std.specs.Prelude.{◌&&◌}
use Rattle.std.specs.List.{AllByRecursion, list_all}
use Rattle.std.proofs.lemmas.Bool.{ltb-true, and_from}
use Rattle.std.proofs.lemmas.List.Sums.{length-filter}
use Rattle.ftpp_base.specs.Lists.{is_in}
use Rattle.ftpp_base.specs.Sets.{has, set_where}
use Rattle.ftpp_base.specs.declared.element.Proc.{Proc}
use Rattle.ftpp_base.proofs.SetLaws.{has-set_where}
use Rattle.packet_format.specs.declared.Descriptor.{Descriptor}
use Rattle.packet_format.specs.Packets.{same_descriptor, no_descriptor}
use Rattle.local_pattern.specs.declared.Entry.{Entry}
use Rattle.local_pattern.specs.Pattern.{entry_of}
use Rattle.config_table.specs.declared.groups.Group.{Group}
use Rattle.config_table.specs.Groups.{live_members, elements_of}
use Rattle.config_table.specs.Table.{TableValue}
use Rattle.processor_buffers.specs.Queues.{Posted}
use Rattle.flag_vote.specs.Flags.{Pattern, holds, flags_of, voted_descriptor, is_held_by_most, all_hold, holders, descriptor_of}
use Rattle.packet_format.proofs.Descriptors.{same_descriptor-true, same_descriptor-refl}
use Rattle.data_exchange.specs.Entries.{fault_free_members, fault_free_majority, is_fault_free, held_alike, common_head, is_head}
use Rattle.element_core.specs.Processors.{AllQueues, head_at, entry_shown}
use Rattle.ftpp_base.proofs.Among.{each, shared, contains-filter, find-passes}
use Rattle.ftpp_base.proofs.Items.{item_pass, contains_item}
use Rattle.config_table.proofs.Procs.{element_in}
use Rattle.bit_vote.proofs.Majority.{same_cell-refl}

-- ---- holding a request is having a head that carries it

-- an entry that holds a request comes of a head that carries it
head_by : (head : Option Posted) (desc : Descriptor) → (is_some head && same_descriptor (unwrap_or (option_map (λ (posted : Posted). posted.0) head) no_descriptor) desc) ≡ true
    → (posted : Posted) × (head ≡ Some posted) × (posted.0 ≡ desc)
head_by None desc e = cc
head_by (Some posted) desc e = (posted, refl, same_descriptor-true posted.0 desc e)

-- a member that holds a request by its entry has a head that carries it
pub holds-head : (pattern : Pattern) (table : TableValue) (all : AllQueues) (p : Proc) (desc : Descriptor) → entry_of pattern p ≡ entry_shown table all p → holds pattern desc p ≡ true
    → (posted : Posted) × (head_at all p ≡ Some posted) × (posted.0 ≡ desc)
holds-head pattern table all p desc e h =
    head_by (head_at all p) desc (sym (ap (λ (x : Entry). x.not_empty && same_descriptor x.desc desc) e) ∙ h)

-- and the other way round
pub head-holds : (pattern : Pattern) (table : TableValue) (all : AllQueues) (p : Proc) (desc : Descriptor) (posted : Posted) → entry_of pattern p ≡ entry_shown table all p
    → head_at all p ≡ Some posted → posted.0 ≡ desc → holds pattern desc p ≡ true
head-holds pattern table all p desc posted e h d =
    ap (λ (x : Entry). x.not_empty && same_descriptor x.desc desc) e
    ∙ ap (λ (o : Option Posted). is_some o && same_descriptor (unwrap_or (option_map (λ (x : Posted). x.0) o) no_descriptor) desc) h
    ∙ ap (λ (x : Descriptor). same_descriptor x desc) d ∙ same_descriptor-refl desc

-- ---- the voted request is held by a fault-free member

-- what is voted for is held by more than half of the live members
voted_most : (pattern : Pattern) (g : Group) (desc : Descriptor) → voted_descriptor pattern g ≡ Some desc → is_held_by_most pattern g desc ≡ true
unfolding voted_descriptor
voted_most pattern g desc e = (find-passes (is_held_by_most pattern g) (map (descriptor_of pattern) (live_members g)) desc e).1

-- so a fault-free live member holds it, where these are more than half of the live ones
pub voted-holder : (pattern : Pattern) (faulty : Option ℕ) (g : Group) (desc : Descriptor) → voted_descriptor pattern g ≡ Some desc → fault_free_majority faulty g ≡ true
    → (p : Proc) × (Contains (fault_free_members faulty g) p) × (holds pattern desc p ≡ true)
voted-holder pattern faulty g desc e majority =
    let many = ltb-true _ _ (voted_most pattern g desc e) in
    let half = ltb-true _ _ majority in
    let long = length-filter (is_fault_free faulty) (live_members g) in
    let h = shared (holds pattern desc) (is_fault_free faulty) (live_members g) (omega arith) in
    (h.0, contains-filter (is_fault_free faulty) (live_members g) h.0 h.1 h.3, h.2)

-- what unanimous is in the flags
unanimous_of : (pattern : Pattern) (g : Group) → (flags_of pattern g).unanimous ≡ all_hold pattern g (voted_descriptor pattern g)
unfolding flags_of
unanimous_of pattern g = refl

-- a unanimous request is held by each live member
pub unanimous-holds : (pattern : Pattern) (g : Group) (desc : Descriptor) (p : Proc) → voted_descriptor pattern g ≡ Some desc → (flags_of pattern g).unanimous ≡ true → Contains (live_members g) p
    → holds pattern desc p ≡ true
unanimous-holds pattern g desc p voted e c =
    item_pass (holds pattern desc) (live_members g) p (sym (unanimous_of pattern g ∙ ap (all_hold pattern g) voted) ∙ e) (contains_item (live_members g) p c)

-- ---- who is admitted

-- what the set of holders is in the flags
holds_of : (pattern : Pattern) (g : Group) → (flags_of pattern g).holds ≡ set_where (is_in (elements_of (holders pattern g (voted_descriptor pattern g))))
unfolding flags_of
holds_of pattern g = refl

-- a live member that holds the voted request is in the admitted set
pub holder-admitted : (pattern : Pattern) (g : Group) (desc : Descriptor) (p : Proc) → voted_descriptor pattern g ≡ Some desc → Contains (live_members g) p → holds pattern desc p ≡ true → p.ne < 8
    → has (flags_of pattern g).holds p.ne ≡ true
holder-admitted pattern g desc p voted c h l =
    ap (λ s. has s p.ne) (holds_of pattern g)
    ∙ has-set_where (is_in (elements_of (holders pattern g (voted_descriptor pattern g)))) p.ne l
    ∙ ap (λ (o : Option Descriptor). is_in (elements_of (holders pattern g o)) p.ne) voted
    ∙ element_in (holders pattern g (Some desc)) p (contains_item (holders pattern g (Some desc)) p (contains-filter (holds pattern desc) (live_members g) p c h))

-- ---- one head of all

-- a head is this head
is_head-refl : (posted : Posted) → is_head posted (Some posted) ≡ true
is_head-refl posted = and_from (same_descriptor posted.0 posted.0) _ (same_descriptor-refl posted.0) (same_cell-refl (Some posted.1.bytes))

-- all have this head
all_heads : (heads : Proc → Option Posted) (posted : Posted) (procs : List Proc) → AllByRecursion (λ q. heads q ≡ Some posted) procs → list_all (is_head posted) (map heads procs) ≡ true
all_heads heads posted [] a = refl
all_heads heads posted (q ∷ qs) a = and_from (is_head posted (heads q)) (list_all (is_head posted) (map heads qs)) (ap (is_head posted) a.0 ∙ is_head-refl posted) (all_heads heads posted qs a.1)

-- so it is the one that all have
common_all : (heads : Proc → Option Posted) (posted : Posted) (procs : List Proc) → 0 < length procs → AllByRecursion (λ q. heads q ≡ Some posted) procs → common_head (map heads procs) ≡ Some posted
common_all heads posted [] l a = let never : ⊥ = omega arith in absurd never
common_all heads posted (q ∷ qs) l a =
    ap (λ (o : Option Posted). common_head (o ∷ map heads qs)) a.0 ∙ ap (λ (b : Bool). cond b (Some posted) None) (all_heads heads posted qs a.1)

-- a request is held alike where each fault-free live member has that head
pub held_alike-all : (faulty : Option ℕ) (heads : Proc → Option Posted) (g : Group) (posted : Posted) → fault_free_majority faulty g ≡ true
    → ((p : Proc) → Contains (fault_free_members faulty g) p → heads p ≡ Some posted) → held_alike faulty heads g ≡ Some posted
unfolding held_alike
held_alike-all faulty heads g posted majority h =
    ap (λ (b : Bool). cond b (common_head (map heads (fault_free_members faulty g))) None) majority
    ∙ common_all heads posted (fault_free_members faulty g) (let half = ltb-true _ _ majority in omega arith) (each (λ q. heads q ≡ Some posted) (fault_free_members faulty g) h)
