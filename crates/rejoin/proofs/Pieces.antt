-- The pieces that are written, one after another.
use Rattle.std.proofs.Common.{◌≡◌, ℕ, ◌-◌, ◌*◌, ◌≤◌, List, [], ◌∷◌, ◌++◌, length, take, drop, replicate, refl, ap, sym, ◌∙◌, arith, append_assoc, Some}
use Rattle.std.specs.List.{flat_map}
use Rattle.std.proofs.lemmas.List.{take-replicate, drop-replicate}
use Rattle.ftpp_base.specs.declared.element.Proc.{Proc}
use Rattle.packet_format.specs.Numbers.{two_bytes, four_bytes}
use Rattle.packet_format.specs.Packets.{filled_up}
use Rattle.packet_format.specs.declared.Descriptor.{Descriptor}
use Rattle.config_table.specs.declared.groups.Group.{Group}
use Rattle.config_table.specs.declared.decisions.StateRow.{StateRow}
use Rattle.config_table.specs.Groups.{members_of}
use Rattle.rejoin.specs.State.{member_bytes, group_bytes, request_bytes, row_bytes, slot_bytes}

pub three_pieces : (text a b c : List ℕ) → text ++ (a ++ b ++ c) ≡ ((text ++ a) ++ b) ++ c
three_pieces text a b c = simp append_assoc

pub seven_pieces : (text a b c d e f g : List ℕ) → text ++ (a ++ b ++ c ++ d ++ e ++ f ++ g) ≡ ((((((text ++ a) ++ b) ++ c) ++ d) ++ e) ++ f) ++ g
seven_pieces text a b c d e f g = simp append_assoc

pub request_pieces : (text : List ℕ) (desc : Descriptor) (since starved : ℕ)
    → text ++ request_bytes (Some (desc, since, starved)) ≡ ((text ++ (1 ∷ desc.dest ∷ desc.class ∷ desc.source ∷ [])) ++ four_bytes since) ++ four_bytes starved
request_pieces text desc since starved = three_pieces text (1 ∷ desc.dest ∷ desc.class ∷ desc.source ∷ []) (four_bytes since) (four_bytes starved)

pub group_pieces : (text : List ℕ) (g : Group)
    → text ++ group_bytes g
    ≡ ((((((text ++ (g.vid ∷ length (members_of g) ∷ [])) ++ filled_up 8 (flat_map member_bytes (members_of g))) ++ (g.masked.bits ∷ []))
    ++ two_bytes g.ts) ++ two_bytes g.tr) ++ two_bytes g.tx) ++ (g.outs ∷ g.ins ∷ [])
group_pieces text g =
    seven_pieces text (g.vid ∷ length (members_of g) ∷ []) (filled_up 8 (flat_map member_bytes (members_of g)))
    (g.masked.bits ∷ []) (two_bytes g.ts) (two_bytes g.tr) (two_bytes g.tx) (g.outs ∷ g.ins ∷ [])

pub slot_pieces : (text : List ℕ) (g : Group) (row : StateRow) → text ++ slot_bytes (g, row) ≡ (text ++ group_bytes g) ++ row_bytes row
unfolding slot_bytes
slot_pieces text g row = sym (append_assoc text (group_bytes g) (row_bytes row))

pub row_pieces : (text : List ℕ) (row : StateRow) → text ++ row_bytes row ≡ (text ++ request_bytes row.request) ++ flat_map four_bytes row.lags
row_pieces text row = sym (append_assoc text (request_bytes row.request) (flat_map four_bytes row.lags))

-- the bytes of members, two each
pub length-members : (members : List Proc) → length (flat_map member_bytes members) ≡ 2 * length members
length-members [] = refl
length-members (m ∷ ms) = let more = length-members ms in omega arith

-- zeros for the members that are missing
pub members_pieces : (text : List ℕ) (members : List Proc) → length members ≤ 4
    → text ++ filled_up 8 (flat_map member_bytes members) ≡ (text ++ flat_map member_bytes members) ++ take (8 - 2 * length members) (replicate 8 0)
members_pieces text members few =
    sym (append_assoc text (flat_map member_bytes members) (replicate (8 - length (flat_map member_bytes members)) 0))
    ∙ ap (λ n. (text ++ flat_map member_bytes members) ++ replicate (8 - n) 0) (length-members members)
    ∙ ap (λ l. (text ++ flat_map member_bytes members) ++ l) (sym (take-replicate (8 - 2 * length members) 8 0 (omega arith)))

-- a buffer of zeros with a text at its front
pub filled_pieces : (text bytes : List ℕ) → bytes ≡ text ++ drop (length text) (replicate 1887 0) → bytes ≡ filled_up 1887 text
filled_pieces text bytes e = e ∙ ap (λ l. text ++ l) (drop-replicate (length text) 1887 0)
