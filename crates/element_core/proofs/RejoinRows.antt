-- An element's scoreboard as the rows of a state, and back.
use Rattle.std.proofs.Common.{◌≡◌, ℕ, zero, suc, ◌+◌, ◌-◌, ◌<◌, ◌≤◌, Bool, true, false, cond, List, [], ◌∷◌, length, drop, refl, ap, sym, ◌∙◌, subst, arith, get_or-drop, Option, Some, None, unwrap_or, find, map}
use Rattle.std.specs.Prelude.{All, slice_index, ◌==◌}
use Rattle.std.specs.List.{zip, AllByRecursion}
use Rattle.std.proofs.lemmas.List.Elements.{All-from_get_or, recursion_from_All, All-from_recursion}
use Rattle.std.proofs.lemmas.Option.{same_Some}
use Rattle.ftpp_base.proofs.Items.{all_items, item_contains, item_all, find_item}
use Rattle.config_table.specs.declared.groups.Group.{Group}
use Rattle.config_table.specs.declared.decisions.StateRow.{StateRow}
use Rattle.config_table.specs.Groups.{members_of}
use Rattle.config_table.specs.Table.{TableValue, IsValid, is_named}
use Rattle.config_table.proofs.ValidTable.{named-itself}
use Rattle.scoreboard.specs.Board.{Scoreboard, Waiting, line_of, blank_line, is_line_of}
use Rattle.scoreboard.specs.Times.{IsBefore, AreBefore, AreLinesOf, FitsGroup, OnlyMembersLag, line_for, lines_for}
use Rattle.scoreboard.proofs.Rows.{line_vid}
use Rattle.scoreboard.proofs.Kept.{before_blank, lines_for-same}
use Rattle.ftpp_base.specs.Lists.{cell_at, others}
use Rattle.bit_vote.specs.Vote.{Cell, vote}
use Rattle.element_ports.specs.Ports.{PortsValue, HasLimits}
use Rattle.element_core.specs.Rejoins.{others_vote, IsVotedState}
use Rattle.element_core.proofs.KeptStates.{Stands}
use Rattle.rejoin.specs.declared.AgreedState.{AgreedState}
use Rattle.element_core.specs.Run.{AgreedState as Agreed}
use Rattle.rejoin.specs.State.{RequestFits, LagsFit, RowFits, IsInRange, IsState, state_bytes}
use Rattle.rejoin.proofs.Spelled.{one_state}
use Rattle.rejoin.proofs.Rows.{made_in_range, numbered, requests, lags}

-- ---- the rows of a scoreboard

-- a request of before a cycle
request_fits : (now : ℕ) (o : Option Waiting) → ((w : Waiting) → o ≡ Some w → w.1 < now) → ((w : Waiting) → o ≡ Some w → w.2 ≤ now) → RequestFits now o
request_fits now None since starved = tt
request_fits now (Some w) since starved = (since w refl, starved w refl)

-- a line of before a cycle that fits its group
row_fits : (now : ℕ) (g : Group) (line : StateRow) → line.vid ≡ g.vid → IsBefore now line → FitsGroup g line → RowFits now (g, line)
row_fits now g line number before fits = record {
  number = number;
  request = request_fits now line.request before.since before.starved;
  four = fits.four;
  lags = All-from_get_or (λ lag. lag ≤ now) line.lags 0 (λ k l. before.lags k);
  past = All-from_get_or (λ lag. lag ≡ 0) (drop (length (members_of g)) line.lags) 0 (λ k l. get_or-drop (length (members_of g)) line.lags k 0 ∙ fits.past (length (members_of g) + k) (omega arith));
}

-- the lines of a table's groups are the rows of a state
pub in_range : (now : ℕ) (table : TableValue) (board : Scoreboard) → now ≤ 100000 → IsValid table → AreBefore now board → OnlyMembersLag table board
    → IsInRange now table (lines_for table board)
in_range now table board few valid before members =
    let P : Group → Type 0 = λ g. RowFits now (g, line_for board g) in
    made_in_range now table (line_for board) few valid
    (All-from_recursion P table.groups
    (all_items P table.groups (λ g i. row_fits now g (line_of board g.vid) (line_vid board g.vid) (before g.vid) (members g (named-itself table valid g (item_contains table.groups g i))))))

-- so their bytes are those of the scoreboard's state
pub state_is : (now : ℕ) (table : TableValue) (board : Scoreboard) (bytes : List ℕ) (rows : List StateRow) → now ≤ 100000 → IsValid table → AreLinesOf table board → AreBefore now board → OnlyMembersLag table board
    → rows ≡ board → bytes ≡ state_bytes now table rows → IsState bytes now table board
state_is now table board bytes rows few valid lines before members same e =
    let P : List StateRow → Type 0 = λ xs. IsInRange now table xs in record {
      in_range = subst P (lines_for-same table board valid lines) (in_range now table board few valid before members);
      spelled = e ∙ ap (state_bytes now table) same;
    }

-- ---- the rows of a state as a scoreboard

numbers_of : (now : ℕ) (o : Option Waiting) (w : Waiting) → o ≡ Some w → RequestFits now o → (w.1 < now) × (w.2 ≤ now)
numbers_of now None w e fits = cc
numbers_of now (Some v) w e fits = let P : Waiting → Type 0 = λ x. (x.1 < now) × (x.2 ≤ now) in subst P (same_Some v w e) fits

-- a bound of all numbers holds at any place
any_lag : (now : ℕ) (lags : List ℕ) (index : ℕ) → AllByRecursion (λ lag. lag ≤ now) lags → slice_index lags index ≤ now
any_lag now [] index all = omega arith
any_lag now (lag ∷ lags) zero all = all.0
any_lag now (lag ∷ lags) (suc index) all = any_lag now lags index all.1

any_zero : (lags : List ℕ) (index : ℕ) → AllByRecursion (λ lag. lag ≡ 0) lags → slice_index lags index ≡ 0
any_zero [] index all = refl
any_zero (lag ∷ lags) zero all = all.0
any_zero (lag ∷ lags) (suc index) all = any_zero lags index all.1

past_zero : (n : ℕ) (lags : List ℕ) (index : ℕ) → All (λ lag. lag ≡ 0) (drop n lags) → n ≤ index → slice_index lags index ≡ 0
past_zero n lags index all l =
    let back : n + (index - n) ≡ index = omega arith in
    ap (λ k. slice_index lags k) (sym back) ∙ sym (get_or-drop n lags (index - n) 0) ∙ any_zero (drop n lags) (index - n) (recursion_from_All (λ lag. lag ≡ 0) (drop n lags) all)

-- a line that is there, or else a blank one
line_before : (now vid : ℕ) (rows : List StateRow) (o : Option StateRow) → find (is_line_of vid) rows ≡ o → AllByRecursion (λ row. RequestFits now row.request) rows → AllByRecursion (λ row. LagsFit now row.lags) rows
    → IsBefore now (unwrap_or o (blank_line vid))
line_before now vid rows None e requests lags = before_blank now vid
line_before now vid rows (Some row) e requests lags =
    let item = (find_item (is_line_of vid) rows row e).0 in
    let request : RequestFits now row.request = item_all (λ x. RequestFits now x.request) rows row requests item in
    let lag : LagsFit now row.lags = item_all (λ x. LagsFit now x.lags) rows row lags item in
    record {
      since = λ w is. (numbers_of now row.request w is request).0;
      starved = λ w is. (numbers_of now row.request w is request).1;
      lags = λ index. any_lag now row.lags index (recursion_from_All (λ lag. lag ≤ now) row.lags lag);
    }

pub rows_before : (now : ℕ) (table : TableValue) (rows : List StateRow) → IsInRange now table rows → AreBefore now rows
rows_before now table rows right vid =
    line_before now vid rows (find (is_line_of vid) rows) refl
    (recursion_from_All (λ row. RequestFits now row.request) rows (requests now table rows right))
    (recursion_from_All (λ row. LagsFit now row.lags) rows (lags now table rows right))

pub rows_lines : (now : ℕ) (table : TableValue) (rows : List StateRow) → IsInRange now table rows → AreLinesOf table rows
rows_lines now table rows right = numbered now table rows right

-- a row beside its group
fits_row : (now : ℕ) (g : Group) (row : StateRow) → RowFits now (g, row) → FitsGroup g row
fits_row now g row fits = record { four = fits.four; past = λ index l. past_zero (length (members_of g)) row.lags index fits.past l }

-- the row of a group that is found
found_row : (now : ℕ) (groups : List Group) (rows : List StateRow) (vid : ℕ) (g : Group) → length rows ≡ length groups → AllByRecursion (RowFits now) (zip groups rows)
    → find (is_named vid) groups ≡ Some g → FitsGroup g (unwrap_or (find (is_line_of vid) rows) (blank_line vid))
found_row now [] [] vid g long fit e = cc
found_row now [] (row ∷ rows) vid g long fit e = let never : ⊥ = omega arith in absurd never
found_row now (h ∷ hs) [] vid g long fit e = let never : ⊥ = omega arith in absurd never
found_row now (h ∷ hs) (row ∷ rows) vid g long fit e =
    by (h.vid == vid) (row.vid == vid) (ap (λ n. n == vid) fit.0.number) (λ is. found_row now hs rows vid g (omega arith) fit.1 is) e
  where
    by : (b c : Bool) → c ≡ b → (find (is_named vid) hs ≡ Some g → FitsGroup g (unwrap_or (find (is_line_of vid) rows) (blank_line vid))) → cond b (Some h) (find (is_named vid) hs) ≡ Some g → FitsGroup g (unwrap_or (cond c (Some row) (find (is_line_of vid) rows)) (blank_line vid))
    by true true same more is = subst (λ (x : Group). FitsGroup x row) (same_Some h g is) (fits_row now h row fit.0)
    by true false same more is = cc
    by false true same more is = cc
    by false false same more is = more is

pub rows_members : (now : ℕ) (table : TableValue) (rows : List StateRow) → IsInRange now table rows → OnlyMembersLag table rows
rows_members now table rows right g named =
    found_row now table.groups rows g.vid g right.one_each (recursion_from_All (RowFits now) (zip table.groups rows) right.fit) named

-- so an element can stand on it, with the limits of its table
pub stands_taken : (now : ℕ) (table : TableValue) (rows : List StateRow) (other : TableValue) (board : Scoreboard) (ports : PortsValue) (me : ℕ)
    → IsInRange now table rows → me < table.n → other ≡ table → board ≡ rows → ports.me ≡ me → HasLimits table ports → Stands now other board ports
stands_taken now table rows other board ports me right below t b m limits =
    let P : TableValue × List StateRow → Type 0 = λ x. Stands now x.0 x.1 ports in
    subst P (λ i. (sym t i, sym b i)) (
      record {
        me = rw m below;
        cycle = right.cycle;
        lines = rows_lines now table rows right;
        earlier = rows_before now table rows right;
        members = rows_members now table rows right;
      },
      limits,
    )

-- ---- the vote

pub voted_by : (n k me : ℕ) (states cells words : List Cell) (result : Cell) → result ≡ vote cells → cells ≡ words → words ≡ map (cell_at states) (others k me) → k ≡ n
    → result ≡ others_vote n me states
unfolding others_vote
voted_by n k me states cells words result e same are all = e ∙ ap vote (same ∙ are ∙ ap (λ m. map (cell_at states) (others m me)) all)

-- a state as its table with its rows
abbrev with_rows : Agreed → AgreedState
with_rows s = record { cycle = s.cycle; table = s.table; rows = record { items = s.scoreboard } }

-- the bytes that are voted spell the voted state
spelled_by : (n me : ℕ) (states : List Cell) (bytes : List ℕ) → ◌≡◌ {A = Cell} (Some bytes) (others_vote n me states) → (s : Agreed) (h : IsVotedState n me states s)
    → IsState bytes s.cycle s.table s.scoreboard
spelled_by n me states bytes e s h =
    let same : h.bytes ≡ bytes = same_Some h.bytes bytes (sym (e ∙ h.voted)) in
    subst (λ (xs : List ℕ). IsState xs s.cycle s.table s.scoreboard) same h.is_state

-- where the vote is none there is no voted state
pub none_voted : (n me : ℕ) (states : List Cell) → ◌≡◌ {A = Cell} None (others_vote n me states) → (s : Agreed) → IsVotedState n me states s → ⊥
none_voted n me states e s h = let wrong : ◌≡◌ {A = Cell} None (Some h.bytes) = e ∙ h.voted in cc

-- nor where it spells none
pub none_spelled : (n me : ℕ) (states : List Cell) (bytes : List ℕ) → ◌≡◌ {A = Cell} (Some bytes) (others_vote n me states)
    → ((s : AgreedState) → IsState bytes s.cycle s.table s.rows.items → ◌≡◌ {A = Option AgreedState} None (Some s)) → (s : Agreed) → IsVotedState n me states s → ⊥
none_spelled n me states bytes e only s h = let wrong = only (with_rows s) (spelled_by n me states bytes e s h) in cc

-- nor where it spells one among another number of elements
pub other_size : (n me : ℕ) (states : List Cell) (bytes : List ℕ) (state : AgreedState) → ◌≡◌ {A = Cell} (Some bytes) (others_vote n me states)
    → ((s : AgreedState) → IsState bytes s.cycle s.table s.rows.items → ◌≡◌ {A = Option AgreedState} (Some state) (Some s)) → (state.table.n ≡ n → ⊥) → (s : Agreed) → IsVotedState n me states s → ⊥
other_size n me states bytes state e only wrong s h =
    let same = same_Some state (with_rows s) (only (with_rows s) (spelled_by n me states bytes e s h)) in
    wrong (ap (λ (x : AgreedState). x.table.n) same ∙ h.size)

-- there is one voted state at most
pub same_state : (n me : ℕ) (states : List Cell) (s t : Agreed) → IsVotedState n me states s → IsVotedState n me states t → s ≡ t
same_state n me states s t h k =
    let is = spelled_by n me states k.bytes (sym k.voted) s h in
    ap (λ (x : AgreedState). record { cycle = x.cycle; table = x.table; scoreboard = x.rows.items }) (one_state k.bytes (with_rows s) (with_rows t) is k.is_state)
