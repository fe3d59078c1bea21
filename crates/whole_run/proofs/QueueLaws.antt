-- What the acts, the pops and the deliveries of a cycle leave of one processor's queues.
use Rattle.std.proofs.Common.{◌≡◌, ℕ, Bool, true, false, cond, List, [], ◌∷◌, ◌++◌, ap, ◌∙◌}
use Rattle.std.specs.Prelude.{Option, Some}
use Rattle.ftpp_base.specs.declared.element.Proc.{Proc}
use Rattle.ftpp_base.proofs.Items.{IsItem, item_contains, contains_item}
use Rattle.ftpp_base.proofs.Changed.{fold-keeps}
use Rattle.packet_format.specs.declared.Packet.{Packet}
use Rattle.packet_format.specs.declared.acts.Act.{Act}
use Rattle.packet_format.specs.declared.acts.Act.TheVariants.{Post, Read}
use Rattle.config_table.specs.declared.groups.Group.{Group}
use Rattle.config_table.specs.declared.decisions.Decision.{Decision}
use Rattle.config_table.specs.Groups.{live_members, members_of}
use Rattle.config_table.specs.Table.{TableValue, IsValid, out_limit}
use Rattle.config_table.proofs.LiveMembers.{live-member}
use Rattle.config_table.proofs.Validity.{valid_named}
use Rattle.element_core.proofs.Places.{with_queues-keeps}
use Rattle.element_core.proofs.Outputs.{deliveries-output}
use Rattle.whole_run.proofs.NextQueues.{service-other}
use Rattle.processor_buffers.specs.Queues.{Queues, Posted, first, has_out_room, after_post, after_read}
use Rattle.scoreboard.specs.Service.{takes_of}
use Rattle.element_core.specs.Processors.{AllQueues, queues_of, after_act, after_acts}
use Rattle.element_core.specs.Cycle.{after_service, after_deliveries}

-- ---- the head of a processor

-- the queues of a processor begin with this packet
abbrev pub BeginsWith : Posted → Queues → Type 0
BeginsWith head q = first q.output ≡ Some head

-- the first stays where more is put behind
first_append : (xs ys : List Posted) (head : Posted) → first xs ≡ Some head → first (xs ++ ys) ≡ Some head
first_append [] ys head e = cc
first_append (x ∷ xs) ys head e = e

-- a post that is stored or not leaves a head
post_kept : (b : Bool) (posted head : Posted) (q : Queues) → BeginsWith head q → BeginsWith head (cond b (record q { output = q.output ++ posted ∷ [] }) q)
post_kept true posted head q h = first_append q.output (posted ∷ []) head h
post_kept false posted head q h = h

-- one act leaves a head
act_kept : (table : TableValue) (all : AllQueues) (act : Act) (p : Proc) (head : Posted) → BeginsWith head (queues_of all p) → BeginsWith head (queues_of (after_act table all act) p)
act_kept table all (Post q desc packet) p head h =
    with_queues-keeps (BeginsWith head) (after_post (out_limit table q) (desc, packet)) all q p (λ x k. post_kept (has_out_room (out_limit table q) x) (desc, packet) head x k) h
act_kept table all (Read q) p head h = with_queues-keeps (BeginsWith head) after_read all q p (λ x k. k) h

-- acts leave a head
pub acts_kept : (table : TableValue) (all : AllQueues) (acts : List Act) (p : Proc) (head : Posted) → BeginsWith head (queues_of all p) → BeginsWith head (queues_of (after_acts table all acts) p)
acts_kept table all acts p head h = fold-keeps (λ a. BeginsWith head (queues_of a p)) (after_act table) acts all (λ a act i k. act_kept table a act p head k) h

-- deliveries leave a head
pub deliveries_kept : (table : TableValue) (cycle : ℕ) (decision : Decision) (entries : List (Option Packet)) (all : AllQueues) (p : Proc) (head : Posted)
    → BeginsWith head (queues_of all p) → BeginsWith head (queues_of (after_deliveries table cycle decision entries all) p)
deliveries_kept table cycle decision entries all p head h = ap first (deliveries-output table cycle decision entries all p) ∙ h

-- ---- a group that is not taken

-- a live member is a member
pub live_member : (g : Group) (p : Proc) → IsItem (live_members g) p → IsItem (members_of g) p
live_member g p i = contains_item (members_of g) p (live-member g p (item_contains (live_members g) p i))

-- a decision that does not take a group leaves its members' queues
pub service_other : (table : TableValue) (decision : Decision) (all : AllQueues) (p : Proc) (g : Group) → IsValid table → IsItem table.groups g → IsItem (members_of g) p → takes_of g.vid decision ≡ false
    → queues_of (after_service table decision all) p ≡ queues_of all p
service_other table decision all p g valid listed member other = service-other table decision all g p valid (valid_named table valid g listed) (item_contains (members_of g) p member) other
