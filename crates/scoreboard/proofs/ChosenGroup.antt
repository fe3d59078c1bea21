-- The oldest of the choosable groups is the group of the oldest request.
use Rattle.std.proofs.Common.{◌≡◌, ℕ, ◌≤◌, Bool, true, false, List, [], ◌∷◌, refl, ap, sym, ◌∙◌, arith, inl, inr, subst, Contains}
use Rattle.std.specs.Prelude.{Option, Some, None, option_map, option_and_then, unwrap_or}
use Rattle.ftpp_base.specs.Vids.{has_vid}
use Rattle.ftpp_base.proofs.Items.{IsItem, item_all, item_filter, filter_item, item_filter_map, filter_map_item, item_contains, contains_item}
use Rattle.sender_choice.specs.Sinces.{Sinces, IsOldest, IsChoice}
use Rattle.config_table.specs.declared.groups.Group.{Group}
use Rattle.config_table.specs.declared.decisions.GroupFlags.{GroupFlags}
use Rattle.config_table.specs.Table.{TableValue, IsValid, group_named}
use Rattle.config_table.proofs.ValidTable.{named-itself, named-there}
use Rattle.scoreboard.specs.Board.{Scoreboard, line_of, flags_named}
use Rattle.scoreboard.specs.Choice.{Request, is_eligible, request_in, waiting_requests, eligible_requests, oldest, older, decided, decision_of}
use Rattle.scoreboard.specs.Steps.{may_be_chosen, request_named, is_choosable, sinces_in}
use Rattle.scoreboard.proofs.Oldest.{IsNotBefore, oldest-least}
use Rattle.scoreboard.proofs.Chosen.{of_by, oldest_item}

-- A request that may be chosen is the one of its group.
record IsOwn (table : TableValue) (flags : List GroupFlags) (board : Scoreboard) (now : ℕ) (r : Request) : Type 0 where
  named : request_named table flags board r.sender.vid ≡ Some r
  choosable : is_choosable table flags now board r.sender.vid ≡ true
  waits : sinces_in board r.sender.vid ≡ Some r.since

-- by the group that the request is made of
own_by : (table : TableValue) (flags : List GroupFlags) (board : Scoreboard) (now : ℕ) (r : Request) (h : Group) → IsValid table → Contains table.groups h
    → request_in flags board h ≡ Some r → is_eligible table flags board now r ≡ true → IsOwn table flags board now r
own_by table flags board now r h valid there made fits =
    let is = of_by board h (flags_named flags h.vid) (line_of board h.vid).request r refl made in
    let number : h.vid ≡ r.sender.vid = sym (ap (λ (g : Group). g.vid) is.sender) in
    let found : group_named table h.vid ≡ Some h = named-itself table valid h there in
    let Own : ℕ → Type 0 = λ vid. (request_named table flags board vid ≡ Some r) × (is_choosable table flags now board vid ≡ true) × (sinces_in board vid ≡ Some r.since) in
    let own = subst Own number (
      ap (option_and_then (request_in flags board)) found ∙ made,
      ap (λ (o : Option Group). unwrap_or (option_map (may_be_chosen table flags now board) o) false) found
          ∙ ap (λ (o : Option Request). unwrap_or (option_map (is_eligible table flags board now) o) false) made ∙ fits,
      ap (option_map (λ w. w.1)) is.waiting,
    ) in
    record { named = own.0; choosable = own.1; waits = own.2 }

-- each request that may be chosen
own_item : (table : TableValue) (flags : List GroupFlags) (board : Scoreboard) (now : ℕ) (r : Request) → IsValid table → IsItem (eligible_requests table flags board now) r → IsOwn table flags board now r
own_item table flags board now r valid i =
    let kept = item_filter (is_eligible table flags board now) (waiting_requests table flags board) r i in
    let made = item_filter_map (request_in flags board) table.groups r kept.0 in
    own_by table flags board now r made.0 valid (item_contains table.groups made.0 made.1) made.2 kept.1

-- the set of the groups that may be chosen
abbrev pub AreChoosable : List Bool → TableValue → List GroupFlags → ℕ → Scoreboard → Type 0
AreChoosable eligible table flags now board = (vid : ℕ) → has_vid eligible vid ≡ is_choosable table flags now board vid

-- ---- no group

-- a list without items has no oldest
none_oldest : (rs : List Request) → ((r : Request) → IsItem rs r → ⊥) → oldest rs ≡ None
none_oldest [] h = refl
none_oldest (r ∷ rs) h = absurd (h r (inl refl))

-- where no choosable group waits, no request may be chosen
none_chosen : (eligible : List Bool) (table : TableValue) (flags : List GroupFlags) (now : ℕ) (board : Scoreboard) → IsValid table → AreChoosable eligible table flags now board
    → IsChoice (sinces_in board) eligible None → oldest (eligible_requests table flags board now) ≡ None
none_chosen eligible table flags now board valid fits none =
    none_oldest (eligible_requests table flags board now) (λ r i.
    let own = own_item table flags board now r valid i in
    let gone = none r.sender.vid (fits r.sender.vid ∙ own.choosable) in
    let waits = own.waits in cc)

-- ---- some group

-- A request of the group of that number may be chosen.
record HasChoice (table : TableValue) (flags : List GroupFlags) (board : Scoreboard) (now vid : ℕ) : Type 0 where
  request : Request
  of_group : request.sender.vid ≡ vid
  listed : IsItem (eligible_requests table flags board now) request

-- by the request of the group
choice_in : (o : Option Request) (table : TableValue) (flags : List GroupFlags) (board : Scoreboard) (now vid : ℕ) (g : Group) → group_named table vid ≡ Some g → request_in flags board g ≡ o
    → unwrap_or (option_map (is_eligible table flags board now) o) false ≡ true → HasChoice table flags board now vid
choice_in None table flags board now vid g named made e = cc
choice_in (Some r) table flags board now vid g named made e =
    let there = named-there table vid g named in
    let is = of_by board g (flags_named flags g.vid) (line_of board g.vid).request r refl made in
    record {
      request = r;
      of_group = ap (λ (h : Group). h.vid) is.sender ∙ there.1;
      listed = filter_item (is_eligible table flags board now) (waiting_requests table flags board) r
          (filter_map_item (request_in flags board) table.groups g r (contains_item table.groups g there.0) made) e;
    }

-- by the group of the number
choice_of : (o : Option Group) (table : TableValue) (flags : List GroupFlags) (board : Scoreboard) (now vid : ℕ) → group_named table vid ≡ o
    → unwrap_or (option_map (may_be_chosen table flags now board) o) false ≡ true → HasChoice table flags board now vid
choice_of None table flags board now vid named e = cc
choice_of (Some g) table flags board now vid named e = choice_in (request_in flags board g) table flags board now vid g named refl e

-- a list with an item has an oldest
some_oldest : (rs : List Request) (r : Request) → IsItem rs r → (q : Request) × (oldest rs ≡ Some q)
some_oldest [] r i = absurd i
some_oldest (x ∷ rs) r i = (older x (oldest rs), refl)

-- the oldest request is that of the oldest choosable group
some_chosen : (eligible : List Bool) (table : TableValue) (flags : List GroupFlags) (now : ℕ) (board : Scoreboard) (vid since : ℕ) → IsValid table → AreChoosable eligible table flags now board
    → IsOldest (sinces_in board) eligible vid since → oldest (eligible_requests table flags board now) ≡ request_named table flags board vid
some_chosen eligible table flags now board vid since valid fits is =
    let rs = eligible_requests table flags board now in
    let choice = choice_of (group_named table vid) table flags board now vid refl (sym (fits vid) ∙ is.may_be_chosen) in
    let r : Request = choice.request in
    let own = own_item table flags board now r valid choice.listed in
    let found = some_oldest rs r choice.listed in
    let q : Request = found.0 in
    let first = item_all (λ (s : Request). IsNotBefore s q) rs r (oldest-least rs q found.1) choice.listed in
    let mine = own_item table flags board now q valid (oldest_item rs q found.1) in
    let waits = own.waits in
    let held = is.held_since in
    let number : r.sender.vid ≡ vid = choice.of_group in
    let both : Some r.since ≡ Some since = sym own.waits ∙ ap (sinces_in board) number ∙ is.held_since in
    let begun : r.since ≡ since = cc in
    let low : q.since ≤ since = let l = first.since in omega arith in
    let one : q.sender.vid ≡ vid = elim (is.least q.sender.vid q.since mine.waits (fits q.sender.vid ∙ mine.choosable)) [
      | inl less ↦ let never : ⊥ = omega arith in absurd never
      | inr more ↦ let same = more.0 in let high = more.1 in let least = first.number (begun ∙ same) in omega arith
    ] in
    found.1 ∙ sym mine.named ∙ ap (request_named table flags board) one

-- ---- the choice of a chooser

-- A chooser that holds each choosable group since its request waits makes the same choice as one that holds them all.
pub choice_of_held : (eligible : List Bool) (held all : Sinces) (choice : Option (ℕ × ℕ)) → ((vid : ℕ) → has_vid eligible vid ≡ true → held vid ≡ all vid)
    → IsChoice held eligible choice → IsChoice all eligible choice
choice_of_held eligible held all None same is = λ vid e. sym (same vid e) ∙ is vid e
choice_of_held eligible held all (Some p) same is = record {
  held_since = sym (same p.0 is.may_be_chosen) ∙ is.held_since;
  may_be_chosen = is.may_be_chosen;
  least = λ other later e h. is.least other later (same other h ∙ e) h;
}

-- ---- the decision

-- what is decided without a choice
pub decision_of-none : (eligible : List Bool) (table : TableValue) (flags : List GroupFlags) (now : ℕ) (board : Scoreboard) → IsValid table → AreChoosable eligible table flags now board
    → IsChoice (sinces_in board) eligible None → decision_of table flags now board ≡ decided table now None
unfolding decision_of
decision_of-none eligible table flags now board valid fits none = ap (decided table now) (none_chosen eligible table flags now board valid fits none)

-- and with one
pub decision_of-some : (eligible : List Bool) (table : TableValue) (flags : List GroupFlags) (now : ℕ) (board : Scoreboard) (p : ℕ × ℕ) → IsValid table → AreChoosable eligible table flags now board
    → IsChoice (sinces_in board) eligible (Some p) → decision_of table flags now board ≡ decided table now (request_named table flags board p.0)
unfolding decision_of
decision_of-some eligible table flags now board p valid fits is = ap (decided table now) (some_chosen eligible table flags now board p.0 p.1 valid fits is)
