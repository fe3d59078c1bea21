-- Who holds a request by the agreed pattern, and so is admitted.
use Rattle.std.proofs.Common.{◌≡◌, ◌<◌, false, List, [], ◌∷◌, ap, map, ◌∙◌, subst}
use Rattle.std.specs.Prelude.{Option, Some, is_some, option_map, unwrap_or, ◌&&◌, filter}
use Rattle.std.specs.List.{AllByRecursion}
use Rattle.ftpp_base.specs.Lists.{is_this, is_in}
use Rattle.ftpp_base.specs.Sets.{has}
use Rattle.ftpp_base.specs.declared.element.Proc.{Proc}
use Rattle.ftpp_base.proofs.SetLaws.{has-set_where}
use Rattle.packet_format.specs.declared.Descriptor.{Descriptor}
use Rattle.packet_format.specs.Packets.{same_descriptor, no_descriptor}
use Rattle.config_table.specs.declared.groups.Group.{Group}
use Rattle.config_table.specs.declared.decisions.Service.{Service}
use Rattle.config_table.specs.Groups.{live_members, elements_of}
use Rattle.config_table.specs.Table.{TableValue, IsValid, group_named}
use Rattle.flag_vote.specs.Flags.{Pattern, holds, voted_descriptor, flags_of}
use Rattle.processor_buffers.specs.Queues.{Posted}
use Rattle.data_exchange.specs.Entries.{member_at, common_head}
use Rattle.element_core.specs.Processors.{AllQueues, head_at}
use Rattle.element_core.specs.Cycle.{Input, pattern_round, agreed_pattern}
use Rattle.element_core.proofs.RoundShapes.{IsHead}
use Rattle.config_table.proofs.ValidTable.{AreApart}
use Rattle.config_table.proofs.NamedGroups.{AreApart-named, InRange, InRange-named, elements-kept}
use Rattle.ftpp_base.proofs.Among.{all-both, each}
use Rattle.element_core.proofs.AdmittedMembers.{holds_set, below_eight}
use Rattle.element_core.proofs.PatternLaws.{entry-own}
use Rattle.data_exchange.proofs.AlikeEntry.{member_at-apart}
use Rattle.data_exchange.proofs.CommonHead.{common-all}

-- ---- what the pattern says of a fault-free processor

-- it holds a request where its head carries it
pub holds_head : (table : TableValue) (queues : AllQueues) (input : Input) (proc : Proc) (head : Posted) (desc : Descriptor) → InRange table.n proc → is_this input.faulty proc.ne ≡ false
    → head_at queues proc ≡ Some head → holds (agreed_pattern table (pattern_round table queues input)) desc proc ≡ same_descriptor head.0 desc
holds_head table queues input proc head desc is good e =
    ap (λ entry. entry.not_empty && same_descriptor entry.desc desc) (entry-own table queues input proc is.ne is.port good)
    ∙ (λ i. is_some (e i) && same_descriptor (unwrap_or (option_map (λ posted. posted.0) (e i)) no_descriptor) desc)

-- ---- the members that an exchange admits

-- a live member is admitted where it holds the request
pub admitted_holds : (table : TableValue) (pattern : Pattern) (service : Service) (g : Group) → IsValid table → table.n < 6
    → group_named table service.vid ≡ Some g → voted_descriptor pattern g ≡ Some service.desc → service.admitted ≡ (flags_of pattern g).holds
    → AllByRecursion (λ proc. has service.admitted proc.ne ≡ holds pattern service.desc proc) (live_members g)
admitted_holds table pattern service g valid small named voted admitted =
    let kept = elements_of (filter (holds pattern service.desc) (live_members g)) in
    all-both (InRange table.n) (λ proc. is_in kept proc.ne ≡ holds pattern service.desc proc) (λ proc. has service.admitted proc.ne ≡ holds pattern service.desc proc) (live_members g)
    (λ proc is e. ap (λ set. has set proc.ne) (admitted ∙ holds_set pattern g service.desc voted) ∙ has-set_where (is_in kept) proc.ne (below_eight table.n proc.ne small is.ne) ∙ e)
    (InRange-named table service.vid g valid named)
    (elements-kept (holds pattern service.desc) (live_members g) (AreApart-named table service.vid g valid named))

-- of members that stand apart, each is the one at its element
pub member_at-own : (ps : List Proc) → AreApart ps → AllByRecursion (λ p. member_at ps p.ne ≡ Some p) ps
member_at-own ps a = each (λ p. member_at ps p.ne ≡ Some p) ps (λ p c. member_at-apart ps p a c)

-- ---- one head that all have

-- the one head that all have is a whole packet
pub common-posted : (heads : Proc → Option Posted) (head : Posted) (ps : List Proc) → ((p : Proc) → IsHead (heads p)) → common_head (map heads ps) ≡ Some head → IsHead (Some head)
common-posted heads head [] is e = cc
common-posted heads head (p ∷ ps) is e = subst IsHead (common-all heads head (p ∷ ps) e).0 (is p)
