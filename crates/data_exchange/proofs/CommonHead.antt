-- What a request that is held alike has: a fault-free majority, and one head that all of these have.
use Rattle.std.proofs.Common.{◌≡◌, Bool, true, false, cond, List, [], ◌∷◌, refl, ap, map, sym, ◌∙◌, Option, Some, None, ℕ}
use Rattle.std.specs.List.{AllByRecursion, list_all}
use Rattle.std.proofs.lemmas.Bool.{and_parts}
use Rattle.ftpp_base.specs.declared.element.Proc.{Proc}
use Rattle.packet_format.specs.Packets.{same_descriptor, same_bytes}
use Rattle.packet_format.proofs.Descriptors.{same_descriptor-true}
use Rattle.bit_vote.proofs.Majority.{same_row-true}
use Rattle.config_table.specs.declared.groups.Group.{Group}
use Rattle.processor_buffers.specs.Queues.{Posted}
use Rattle.data_exchange.specs.Entries.{fault_free_members, fault_free_majority, is_head, common_head, held_alike}

-- a head that the test finds equal is the same
is_head-true : (head : Posted) (o : Option Posted) → is_head head o ≡ true → o ≡ Some head
is_head-true head None e = cc
is_head-true head (Some other) e =
    let both = and_parts (same_descriptor head.0 other.0) (same_bytes head.1.bytes other.1.bytes) e in
    let desc = same_descriptor-true head.0 other.0 both.0 in
    let bytes = same_row-true head.1.bytes other.1.bytes both.1 in
    sym (λ i. let whole : Option Posted = Some (desc i, record { bytes = bytes i }) in whole)

-- so are all of them
heads_same : (heads : Proc → Option Posted) (head : Posted) (ps : List Proc) → list_all (is_head head) (map heads ps) ≡ true → AllByRecursion (λ p. heads p ≡ Some head) ps
heads_same heads head [] e = tt
heads_same heads head (p ∷ ps) e =
    let both = and_parts (is_head head (heads p)) (list_all (is_head head) (map heads ps)) e in
    (is_head-true head (heads p) both.0, heads_same heads head ps both.1)

-- where all others have the first
common_by : (b : Bool) (heads : Proc → Option Posted) (first head : Posted) (p : Proc) (ps : List Proc) → heads p ≡ Some first → list_all (is_head first) (map heads ps) ≡ b
    → cond b (Some first) None ≡ Some head → AllByRecursion (λ q. heads q ≡ Some head) (p ∷ ps)
common_by true heads first head p ps h all e =
    let same : first ≡ head = cc in
    (h ∙ ap (λ x. Some x) same, heads_same heads head ps (ap (λ x. list_all (is_head x) (map heads ps)) (sym same) ∙ all))
common_by false heads first head p ps h all e = cc

-- where the first has one
common_from : (heads : Proc → Option Posted) (o : Option Posted) (head : Posted) (p : Proc) (ps : List Proc) → heads p ≡ o
    → common_head (o ∷ map heads ps) ≡ Some head → AllByRecursion (λ q. heads q ≡ Some head) (p ∷ ps)
common_from heads None head p ps h e = cc
common_from heads (Some first) head p ps h e = common_by (list_all (is_head first) (map heads ps)) heads first head p ps h refl e

-- each has the common head
pub common-all : (heads : Proc → Option Posted) (head : Posted) (ps : List Proc) → common_head (map heads ps) ≡ Some head → AllByRecursion (λ q. heads q ≡ Some head) ps
common-all heads head [] e = cc
common-all heads head (p ∷ ps) e = common_from heads (heads p) head p ps refl e

-- by whether the fault-free are most
alike_by : (b : Bool) (o : Option Posted) (head : Posted) → cond b o None ≡ Some head → (b ≡ true) × (o ≡ Some head)
alike_by true o head e = (refl, e)
alike_by false o head e = cc

-- what held alike means
pub alike_parts : (faulty : Option ℕ) (heads : Proc → Option Posted) (g : Group) (head : Posted) → held_alike faulty heads g ≡ Some head
    → (fault_free_majority faulty g ≡ true) × (common_head (map heads (fault_free_members faulty g)) ≡ Some head)
unfolding held_alike
alike_parts faulty heads g head e = alike_by (fault_free_majority faulty g) (common_head (map heads (fault_free_members faulty g))) head e
