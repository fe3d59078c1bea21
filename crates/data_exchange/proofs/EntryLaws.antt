-- Entries that are the same at every element, over values that are the same where they count, and entries that are the common packet.
use Rattle.std.proofs.Common.{◌≡◌, ℕ, ◌+◌, ◌≤◌, Bool, true, false, cond, List, [], ◌∷◌, length, refl, ap, arith, map, ◌∙◌}
use Rattle.std.specs.Prelude.{Option, Some, not, count_by, filter, unwrap_or, option_map, None}
use Rattle.std.specs.List.{AllByRecursion}
use Rattle.std.proofs.lemmas.Bool.{ltb-true}
use Rattle.std.proofs.lemmas.List.{length-map}
use Rattle.ftpp_base.specs.Lists.{is_this}
use Rattle.ftpp_base.specs.declared.element.Proc.{Proc}
use Rattle.bit_vote.specs.Vote.{Cell, vote, same_cell, IsCell}
use Rattle.bit_vote.specs.Agreed.{FirstRound, agreed, copy_at}
use Rattle.ftpp_base.proofs.Counts.{count_by-cons}
use Rattle.bit_vote.proofs.Majority.{vote-same, AreCells, same_cell-refl}
use Rattle.config_table.specs.declared.groups.Group.{Group}
use Rattle.config_table.specs.declared.decisions.Kind.{Kind}
use Rattle.config_table.specs.declared.decisions.Kind.TheVariants.{Voted, Source, Every}
use Rattle.config_table.specs.declared.decisions.Service.{Service}
use Rattle.config_table.specs.Groups.{live_members}
use Rattle.config_table.specs.Table.{TableValue, group_named}
use Rattle.data_exchange.specs.Entries.{contribution, members_vote, entry_by, entry_at, is_voted, fault_free_members, fault_free_majority, contributes, senders}

-- an entry of two rounds does not look at the copies of one receiver
entry_of_kind : (kind : Kind) (table : TableValue) (service : Service) (copies others results : ℕ → Cell) → is_voted kind ≡ false → entry_by kind table service copies results ≡ entry_by kind table service others results
entry_of_kind Voted table service copies others results e = cc
entry_of_kind (Source s) table service copies others results e = refl
entry_of_kind Every table service copies others results e = refl

-- so it is the same at every element
pub entry-same : (table : TableValue) (service : Service) (round : FirstRound) (one other : ℕ) → is_voted service.kind ≡ false → entry_at table service round one ≡ entry_at table service round other
unfolding entry_at
entry-same table service round one other e = entry_of_kind service.kind table service (copy_at round one) (copy_at round other) (agreed round) e

-- ---- entries look at values only where they count

-- a value matters only where the test passes
pub cond_same : {A : Type 0} (b : Bool) (x y z : A) → (b ≡ true → x ≡ y) → cond b x z ≡ cond b y z
cond_same true x y z e = e refl
cond_same false x y z e = refl

-- what an element counts as looks at its value only where it contributes
pub contribution-same : (service : Service) (f g : ℕ → Cell) (ne : ℕ) → (contributes service ne ≡ true → f ne ≡ g ne) → contribution service f ne ≡ contribution service g ne
contribution-same service f g ne e = cond_same (contributes service ne) (f ne) (g ne) None e

-- so does the vote over the members
pub members_vote-same : (table : TableValue) (service : Service) (f g : ℕ → Cell) → ((ne : ℕ) → contributes service ne ≡ true → f ne ≡ g ne) → members_vote table service f ≡ members_vote table service g
unfolding members_vote
members_vote-same table service f g e = λ i. vote (map (λ proc. contribution-same service f g proc.ne (e proc.ne) i) (senders table service.vid))

-- an entry looks at the copies only in a round alone, and at the results only in two rounds
pub entry_by-same : (kind : Kind) (table : TableValue) (service : Service) (copies others results values : ℕ → Cell)
    → ((ne : ℕ) → copies ne ≡ others ne) → (is_voted kind ≡ false → (ne : ℕ) → contributes service ne ≡ true → results ne ≡ values ne)
    → entry_by kind table service copies results ≡ entry_by kind table service others values
entry_by-same Voted table service copies others results values c r = members_vote-same table service copies others (λ ne e. c ne)
entry_by-same (Source s) table service copies others results values c r = contribution-same service results values s (r refl s)
entry_by-same Every table service copies others results values c r = members_vote-same table service results values (r refl)

-- ---- what a fault-free majority has alike is the vote

-- the fault-free ones of some processors
abbrev kept : Option ℕ → List Proc → List Proc
kept faulty procs = filter (λ proc. not (is_this faulty proc.ne)) procs

kept_by : (b : Bool) (faulty : Option ℕ) (value : ℕ → Cell) (cell : Cell) (p : Proc) (ps : List Proc)
    → (AllByRecursion (λ proc. value proc.ne ≡ cell) (kept faulty ps) → length (kept faulty ps) ≤ count_by (same_cell cell) (map (λ proc. value proc.ne) ps))
    → AllByRecursion (λ proc. value proc.ne ≡ cell) (cond (not b) (p ∷ kept faulty ps) (kept faulty ps))
    → length (cond (not b) (p ∷ kept faulty ps) (kept faulty ps)) ≤ cond (same_cell cell (value p.ne)) 1 0 + count_by (same_cell cell) (map (λ proc. value proc.ne) ps)
kept_by true faulty value cell p ps more h = let l = more h in omega arith
kept_by false faulty value cell p ps more h =
    let l = more h.1 in
    let one : same_cell cell (value p.ne) ≡ true = ap (same_cell cell) h.0 ∙ same_cell-refl cell in
    rw one (omega arith)

count_kept : (faulty : Option ℕ) (value : ℕ → Cell) (cell : Cell) (procs : List Proc)
    → AllByRecursion (λ proc. value proc.ne ≡ cell) (kept faulty procs)
    → length (kept faulty procs) ≤ count_by (same_cell cell) (map (λ proc. value proc.ne) procs)
count_kept faulty value cell [] a = omega arith
count_kept faulty value cell (p ∷ ps) a =
    rw (count_by-cons (same_cell cell) (value p.ne) (map (λ proc. value proc.ne) ps))
    (kept_by (is_this faulty p.ne) faulty value cell p ps (λ h. count_kept faulty value cell ps h) a)

-- where the fault-free live members are more than half of the live ones, and each of them has this cell, it is the vote
pub members_vote-alike : (wide : ℕ) (table : TableValue) (service : Service) (value : ℕ → Cell) (faulty : Option ℕ) (g : Group) (cell : Cell)
    → group_named table service.vid ≡ Some g
    → IsCell wide cell → AreCells wide (map (λ proc. contribution service value proc.ne) (live_members g))
    → fault_free_majority faulty g ≡ true
    → AllByRecursion (λ proc. contribution service value proc.ne ≡ cell) (fault_free_members faulty g)
    → members_vote table service value ≡ cell
unfolding members_vote
members_vote-alike wide table service value faulty g cell named is are most alike =
    let cells = map (λ proc. contribution service value proc.ne) (live_members g) in
    let many = count_kept faulty (contribution service value) cell (live_members g) alike in
    let half = ltb-true _ _ most in
    let long : length cells ≡ length (live_members g) = length-map (live_members g) (λ proc. contribution service value proc.ne) in
    ap (λ o. vote (map (λ proc. contribution service value proc.ne) (unwrap_or (option_map live_members o) []))) named
    ∙ vote-same wide cell cells is are (omega arith)
