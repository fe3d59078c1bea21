-- An admitted member at a fault-free element has a head that carries the request.
use Rattle.std.proofs.Common.{◌≡◌, ℕ, ◌<◌, Bool, true, false, cond, List, [], ◌∷◌, refl, ap, arith, sym, ◌∙◌, ◌⊎◌, inl, inr, subst, Option, Some, None, is_some, option_map, unwrap_or, filter}
use Rattle.std.specs.Prelude.{◌&&◌, ◌==◌}
use Rattle.std.proofs.lemmas.Bool.{or_cases}
use Rattle.ftpp_base.specs.Lists.{is_this, is_in}
use Rattle.ftpp_base.specs.Sets.{has, set_of}
use Rattle.ftpp_base.specs.declared.element.Proc.{Proc}
use Rattle.ftpp_base.proofs.SetLaws.{has-set_where}
use Rattle.ftpp_base.proofs.Among.{all-found}
use Rattle.packet_format.specs.declared.Descriptor.{Descriptor}
use Rattle.packet_format.specs.Packets.{same_descriptor, no_descriptor}
use Rattle.two_round.proofs.Others.{IsSize}
use Rattle.config_table.specs.declared.groups.Group.{Group}
use Rattle.config_table.specs.declared.decisions.Decision.TheVariants.{Exchange}
use Rattle.config_table.specs.declared.decisions.Service.{Service}
use Rattle.config_table.specs.Groups.{live_members, elements_of}
use Rattle.config_table.proofs.NamedGroups.{AreApart-named, InRange, InRange-named, elements-kept}
use Rattle.flag_vote.specs.Flags.{Pattern, holds, holders, voted_descriptor, flags_of}
use Rattle.processor_buffers.specs.Queues.{Posted}
use Rattle.data_exchange.specs.Entries.{senders, member_at}
use Rattle.element_core.specs.Processors.{head_at}
use Rattle.element_core.specs.Cycle.{State, Input}
use Rattle.element_core.specs.Alone.{IsSound}
use Rattle.element_core.proofs.PortLaws.{IsAt, IsAt-member_at}
use Rattle.element_core.proofs.DecisionLaws.{Serves, IfExchange, decision_serves}
use Rattle.element_core.proofs.AloneLaws.{pattern_in, decision_in, size_of}
use Rattle.element_core.proofs.PatternLaws.{entry-own}

-- ---- who is admitted

-- the elements of those that hold the voted request
pub holds_set : (pattern : Pattern) (g : Group) (desc : Descriptor) → voted_descriptor pattern g ≡ Some desc
    → (flags_of pattern g).holds ≡ set_of (elements_of (filter (holds pattern desc) (live_members g)))
unfolding flags_of
holds_set pattern g desc e = ap (λ o. set_of (elements_of (holders pattern g o))) e

-- four or five are fewer than six
pub small_by : (n : ℕ) → IsSize n → n < 6
small_by n (inl e) = omega arith
small_by n (inr e) = omega arith

-- an element is below eight
pub below_eight : (n ne : ℕ) → n < 6 → ne < n → ne < 8
below_eight n ne l m = omega arith

-- ---- an admitted member

-- whether there is one
abbrev pub There : Option Proc → Type 0
There o = (p : Proc) × (o ≡ Some p)

-- this one is there
there_first : (b : Bool) (p : Proc) (o : Option Proc) → b ≡ true → There (cond b (Some p) o)
there_first true p o e = (p, refl)
there_first false p o e = cc

-- one more makes no difference
there_later : (b : Bool) (p : Proc) (o : Option Proc) → There o → There (cond b (Some p) o)
there_later true p o t = (p, refl)
there_later false p o t = t

-- one more that is kept, or not
in_if : (b : Bool) (p : Proc) (ps : List Proc) (ne : ℕ) → is_in (elements_of (cond b (p ∷ ps) ps)) ne ≡ true → ((p.ne == ne) ≡ true) ⊎ (is_in (elements_of ps) ne ≡ true)
in_if true p ps ne e = or_cases (p.ne == ne) (is_in (elements_of ps) ne) e
in_if false p ps ne e = inr e

-- this one, or a later one
pub there_by : (p : Proc) (ps : List Proc) (ne : ℕ) (found : Bool) → ((p.ne == ne) ≡ true) ⊎ (found ≡ true) → (found ≡ true → There (member_at ps ne)) → There (member_at (p ∷ ps) ne)
there_by p ps ne found (inl e) more = there_first (p.ne == ne) p (member_at ps ne) e
there_by p ps ne found (inr e) more = there_later (p.ne == ne) p (member_at ps ne) (more e)

-- where an element is among those kept, a member is there
member_there : (test : Proc → Bool) (ps : List Proc) (ne : ℕ) → is_in (elements_of (filter test ps)) ne ≡ true → There (member_at ps ne)
member_there test [] ne e = cc
member_there test (p ∷ ps) ne e =
    there_by p ps ne (is_in (elements_of (filter test ps)) ne) (in_if (test p) p (filter test ps) ne e) (member_there test ps ne)

-- ---- its head

-- a port that shows the request has a head that carries it
head_by : (head : Option Posted) (desc : Descriptor) → (is_some head && same_descriptor (unwrap_or (option_map (λ posted. posted.0) head) no_descriptor) desc) ≡ true
    → (posted : Posted) × (head ≡ Some posted) × (same_descriptor posted.0 desc ≡ true)
head_by None desc e = cc
head_by (Some posted) desc e = (posted, refl, e)

-- What an admitted, fault-free member has.
pub record Admitted (t : State) (service : Service) (ne : ℕ) : Type 0 where
  pub proc : Proc
  pub live : member_at (senders t.table service.vid) ne ≡ Some proc
  pub head : Posted
  pub held : head_at t.queues proc ≡ Some head
  pub carries : same_descriptor head.0 service.desc ≡ true

-- an admitted, fault-free element has such a member
pub admitted_has : (t : State) (input : Input) (service : Service) (ne : ℕ) → IsSound t → decision_in t input ≡ Exchange service → ne < t.table.n
    → is_this input.faulty ne ≡ false → has service.admitted ne ≡ true → Admitted t service ne
admitted_has t input service ne sound decided l good admitted =
    let pattern = pattern_in t input in
    let serves : Serves t.table pattern service = subst (IfExchange (Serves t.table pattern)) decided (decision_serves t.table pattern t.cycle t.scoreboard) in
    let g = serves.group in
    let test = holds pattern service.desc in
    let kept = elements_of (filter test (live_members g)) in
    let small = small_by t.table.n (size_of t sound) in
    let inside : is_in kept ne ≡ true =
    sym (has-set_where (is_in kept) ne (below_eight t.table.n ne small l)) ∙ ap (λ set. has set ne) (sym (serves.admitted ∙ holds_set pattern g service.desc serves.voted)) ∙ admitted in
    let there = member_there test (live_members g) ne inside in
    let proc = there.0 in
    let at : proc.ne ≡ ne = subst (IsAt ne) there.1 (IsAt-member_at ne (live_members g)) in
    let Kept : Proc → Type 0 = λ p. is_in kept p.ne ≡ test p in
    let same = all-found Kept (λ p. p.ne == ne) (live_members g) proc (elements-kept test (live_members g) (AreApart-named t.table service.vid g sound.valid serves.named)) there.1 in
    let range = all-found (InRange t.table.n) (λ p. p.ne == ne) (live_members g) proc (InRange-named t.table service.vid g sound.valid serves.named) there.1 in
    let held : test proc ≡ true = sym same ∙ ap (is_in kept) at ∙ inside in
    let shown = entry-own t.table t.queues input proc range.ne range.port (ap (is_this input.faulty) at ∙ good) in
    let own = head_by (head_at t.queues proc) service.desc (sym (ap (λ entry. entry.not_empty && same_descriptor entry.desc service.desc) shown) ∙ held) in
    record {
      proc = proc;
      live = ap (λ o. member_at (unwrap_or (option_map live_members o) []) ne) serves.named ∙ there.1;
      head = own.0;
      held = own.1;
      carries = own.2;
    }
