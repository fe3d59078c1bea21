-- A slot's bytes are read to the group and the row that they are of.
use Rattle.std.proofs.Common.{◌≡◌, ℕ, ◌*◌, ◌<◌, ◌≤◌, ◌^◌, List, [], ◌∷◌, Option, Some, None, length, refl, arith, length-append}
use Rattle.std.specs.Prelude.{IfSome, All}
use Rattle.std.specs.List.{flat_map, AllByRecursion}
use Rattle.std.proofs.lemmas.List.Elements.{recursion_from_All}
use Rattle.ftpp_base.specs.declared.element.Proc.{Proc}
use Rattle.packet_format.specs.Numbers.{two_bytes, four_bytes, number_from}
use Rattle.packet_format.specs.declared.Descriptor.{Descriptor}
use Rattle.config_table.specs.declared.groups.Group.{Group}
use Rattle.config_table.specs.declared.decisions.StateRow.{StateRow}
use Rattle.config_table.specs.Groups.{members_of}
use Rattle.rejoin.specs.State.{group_bytes, request_bytes, row_bytes}
use Rattle.rejoin.specs.Reading.{group_from, request_from, row_from}

pub number-two : (n : ℕ) → n < 2 ^ 16 → number_from (two_bytes n) ≡ n
number-two n small = omega arith

pub number-four : (n : ℕ) → n < 2 ^ 32 → number_from (four_bytes n) ≡ n
number-four n small = omega arith

-- ---- a group

-- a group of its parts
abbrev pub group_with : ℕ → List Proc → ℕ → ℕ → ℕ → ℕ → ℕ → ℕ → Group
group_with vid members masked ts tr tx outs ins = record {
  vid = vid;
  members = record { items = members };
  masked = record { bits = masked };
  ts = ts;
  tr = tr;
  tx = tx;
  outs = outs;
  ins = ins;
}

group_back : (vid : ℕ) (ms : List Proc) (masked ts tr tx outs ins : ℕ) → length ms ≤ 4 → ts < 2 ^ 16 → tr < 2 ^ 16 → tx < 2 ^ 16
    → group_from (group_bytes (group_with vid ms masked ts tr tx outs ins)) ≡ group_with vid ms masked ts tr tx outs ins
unfolding group_from
group_back vid [] masked ts tr tx outs ins few a b c = λ i. group_with vid [] masked (number-two ts a i) (number-two tr b i) (number-two tx c i) outs ins
group_back vid (p ∷ []) masked ts tr tx outs ins few a b c =
    λ i. group_with vid (p ∷ []) masked (number-two ts a i) (number-two tr b i) (number-two tx c i) outs ins
group_back vid (p ∷ q ∷ []) masked ts tr tx outs ins few a b c =
    λ i. group_with vid (p ∷ q ∷ []) masked (number-two ts a i) (number-two tr b i) (number-two tx c i) outs ins
group_back vid (p ∷ q ∷ r ∷ []) masked ts tr tx outs ins few a b c =
    λ i. group_with vid (p ∷ q ∷ r ∷ []) masked (number-two ts a i) (number-two tr b i) (number-two tx c i) outs ins
group_back vid (p ∷ q ∷ r ∷ s ∷ []) masked ts tr tx outs ins few a b c =
    λ i. group_with vid (p ∷ q ∷ r ∷ s ∷ []) masked (number-two ts a i) (number-two tr b i) (number-two tx c i) outs ins
group_back vid (p ∷ q ∷ r ∷ s ∷ t ∷ more) masked ts tr tx outs ins few a b c = let no_such : ⊥ = omega arith in absurd no_such

pub group_read : (g : Group) → length (members_of g) ≤ 4 → g.ts < 2 ^ 16 → g.tr < 2 ^ 16 → g.tx < 2 ^ 16 → group_from (group_bytes g) ≡ g
group_read g few ts tr tx = group_back g.vid (members_of g) g.masked.bits g.ts g.tr g.tx g.outs g.ins few ts tr tx

length_of : (vid : ℕ) (ms : List Proc) (masked ts tr tx outs ins : ℕ) → length ms ≤ 4 → length (group_bytes (group_with vid ms masked ts tr tx outs ins)) ≡ 19
length_of vid [] masked ts tr tx outs ins few = refl
length_of vid (p ∷ []) masked ts tr tx outs ins few = refl
length_of vid (p ∷ q ∷ []) masked ts tr tx outs ins few = refl
length_of vid (p ∷ q ∷ r ∷ []) masked ts tr tx outs ins few = refl
length_of vid (p ∷ q ∷ r ∷ s ∷ []) masked ts tr tx outs ins few = refl
length_of vid (p ∷ q ∷ r ∷ s ∷ t ∷ more) masked ts tr tx outs ins few = let no_such : ⊥ = omega arith in absurd no_such

pub length-group : (g : Group) → length (members_of g) ≤ 4 → length (group_bytes g) ≡ 19
length-group g few = length_of g.vid (members_of g) g.masked.bits g.ts g.tr g.tx g.outs g.ins few

-- ---- a row

-- the numbers of a request are small
abbrev pub IsSmall : Option (Descriptor × ℕ × ℕ) → Type 0
IsSmall request = IfSome request (λ waiting. (waiting.1 < 2 ^ 32) × (waiting.2 < 2 ^ 32))

abbrev pub row_with : ℕ → Option (Descriptor × ℕ × ℕ) → List ℕ → StateRow
row_with vid request lags = record { vid = vid; request = request; lags = lags }

-- four lags
row_of : (vid : ℕ) (request : Option (Descriptor × ℕ × ℕ)) (a b c d : ℕ) → IsSmall request → a < 2 ^ 32 → b < 2 ^ 32 → c < 2 ^ 32 → d < 2 ^ 32
    → row_from vid (row_bytes (row_with vid request (a ∷ b ∷ c ∷ d ∷ []))) ≡ row_with vid request (a ∷ b ∷ c ∷ d ∷ [])
unfolding row_from request_from
row_of vid None a b c d small ha hb hc hd = λ i. row_with vid None (number-four a ha i ∷ number-four b hb i ∷ number-four c hc i ∷ number-four d hd i ∷ [])
row_of vid (Some (desc, since, starved)) a b c d small ha hb hc hd =
    λ i. row_with vid (Some (desc, number-four since small.0 i, number-four starved small.1 i))
    (number-four a ha i ∷ number-four b hb i ∷ number-four c hc i ∷ number-four d hd i ∷ [])

row_back : (vid : ℕ) (request : Option (Descriptor × ℕ × ℕ)) (lags : List ℕ) → IsSmall request → length lags ≡ 4 → AllByRecursion (λ lag. lag < 2 ^ 32) lags
    → row_from vid (row_bytes (row_with vid request lags)) ≡ row_with vid request lags
row_back vid request [] small four lags = let no_such : ⊥ = omega arith in absurd no_such
row_back vid request (a ∷ []) small four lags = let no_such : ⊥ = omega arith in absurd no_such
row_back vid request (a ∷ b ∷ []) small four lags = let no_such : ⊥ = omega arith in absurd no_such
row_back vid request (a ∷ b ∷ c ∷ []) small four lags = let no_such : ⊥ = omega arith in absurd no_such
row_back vid request (a ∷ b ∷ c ∷ d ∷ []) small four lags = row_of vid request a b c d small lags.0 lags.1.0 lags.1.1.0 lags.1.1.1.0
row_back vid request (a ∷ b ∷ c ∷ d ∷ e ∷ more) small four lags = let no_such : ⊥ = omega arith in absurd no_such

pub row_read : (row : StateRow) → IsSmall row.request → length row.lags ≡ 4 → All (λ lag. lag < 2 ^ 32) row.lags → row_from row.vid (row_bytes row) ≡ row
row_read row small four lags = row_back row.vid row.request row.lags small four (recursion_from_All (λ lag. lag < 2 ^ 32) row.lags lags)

length-request : (request : Option (Descriptor × ℕ × ℕ)) → length (request_bytes request) ≡ 12
length-request None = refl
length-request (Some (desc, since, starved)) = refl

length-lags : (lags : List ℕ) → length (flat_map four_bytes lags) ≡ 4 * length lags
length-lags [] = refl
length-lags (lag ∷ lags) = let more = length-lags lags in omega arith

pub length-row : (row : StateRow) → length row.lags ≡ 4 → length (row_bytes row) ≡ 28
length-row row four =
    let request = length-request row.request in
    let lags = length-lags row.lags in
    let both = length-append (request_bytes row.request) (flat_map four_bytes row.lags) in
    omega arith
