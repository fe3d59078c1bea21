-- The entry and the update of a cycle, by the results of the senders that are relayed.
use Rattle.std.proofs.Common.{◌≡◌, ℕ, true, false, cond, not, List, refl, ap, sym, ◌∙◌, subst, Option, Some, None}
use Rattle.std.specs.Prelude.{◌&&◌, ◌==◌}
use Rattle.ftpp_base.specs.Lists.{cell_at}
use Rattle.packet_format.specs.declared.Packet.{Packet}
use Rattle.bit_vote.specs.Vote.{Cell}
use Rattle.two_round.specs.Echoes.{Echoes, result_for}
use Rattle.config_table.specs.declared.decisions.Kind.{Kind}
use Rattle.config_table.specs.declared.decisions.Kind.TheVariants.{Voted, Source, Every}
use Rattle.config_table.specs.declared.decisions.Service.{Service}
use Rattle.config_table.specs.declared.decisions.Decision.TheVariants.{Exchange}
use Rattle.config_table.specs.Table.{TableValue}
use Rattle.data_exchange.specs.Entries.{CountsAlike, contributes, is_voted, entry_by, members_vote, packet_in}
use Rattle.element_notes.specs.AtHand.{AreResults}
use Rattle.element_core.specs.Sent.{is_relayed}
use Rattle.element_core.specs.Element.{own_entry, own_update}

-- in two rounds the results at hand are those of all that contribute
alike : (n : ℕ) (service : Service) (x : Echoes) (results : List Cell) → AreResults n x (is_relayed (Exchange service)) results → is_voted service.kind ≡ false
    → CountsAlike n service (result_for x) (cell_at results)
alike n service x results are two = λ ne l counts. sym (are ne l (ap (λ b. not b && contributes service ne) two ∙ counts))

-- What a clause on an entry says of all values that are alike.
abbrev pub SaysEntry : ℕ → TableValue → Service → List Cell → List Cell → Option Packet → Type 0
SaysEntry n table service copies results entry =
    (value : ℕ → Cell) → CountsAlike n service value (cell_at results) → entry ≡ packet_in (entry_by service.kind table service (cell_at copies) value)

-- by the kind
entry_in : (n : ℕ) (table : TableValue) (service : Service) (x : Echoes) (results : List Cell) (entry : Option Packet) (kind : Kind) → service.kind ≡ kind
    → AreResults n x (is_relayed (Exchange service)) results → SaysEntry n table service x.copies results entry
    → entry ≡ own_entry table (Exchange service) x
entry_in n table service x results entry Voted e are says =
    says (cell_at results) (λ ne l counts. refl)
    ∙ ap (λ k. packet_in (entry_by k table service (cell_at x.copies) (cell_at results))) e
    ∙ sym (ap (λ k. packet_in (entry_by k table service (cell_at x.copies) (result_for x))) e)
entry_in n table service x results entry (Source s) e are says = says (result_for x) (alike n service x results are (ap is_voted e))
entry_in n table service x results entry Every e are says = says (result_for x) (alike n service x results are (ap is_voted e))

-- the entry of an exchange
pub entry_own : (n : ℕ) (table : TableValue) (service : Service) (x : Echoes) (copies results : List Cell) (entry : Option Packet) → copies ≡ x.copies
    → AreResults n x (is_relayed (Exchange service)) results → SaysEntry n table service copies results entry
    → entry ≡ own_entry table (Exchange service) x
entry_own n table service x copies results entry same are says =
    entry_in n table service x results entry service.kind refl are (subst (λ (cs : List Cell). SaysEntry n table service cs results entry) same says)

-- the update of an exchange of class 3
pub update_own : (n : ℕ) (table : TableValue) (service : Service) (x : Echoes) (results : List Cell) (packet : Option Packet) → (service.desc.class == 3) ≡ true
    → is_voted service.kind ≡ false → AreResults n x (is_relayed (Exchange service)) results
    → ((value : ℕ → Cell) → CountsAlike n service value (cell_at results) → packet ≡ packet_in (members_vote table service value))
    → Some packet ≡ own_update table (Exchange service) x
update_own n table service x results packet three two are says =
    ap (λ p. Some p) (says (result_for x) (alike n service x results are two))
    ∙ sym (ap (λ b. cond b (Some (packet_in (members_vote table service (result_for x)))) None) three)
