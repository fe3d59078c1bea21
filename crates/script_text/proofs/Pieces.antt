-- Words behind a text, one after another: what the writers leave.
use Rattle.std.proofs.Common.{◌≡◌, ℕ, ◌+◌, ◌/◌, ◌%◌, ◌<◌, List, [], ◌∷◌, ◌++◌, length, take, get_or, refl, ap, sym, ◌∙◌, Option, append_assoc}
use Rattle.std.specs.Prelude.{slice_index, codes}
use Rattle.std.specs.Fmt.{decimal}
use Rattle.std.proofs.lemmas.List.{append-nil, take_more}
use Rattle.hex.specs.Hex.{encode_with, encode_lower, lower_digits}
use Rattle.ftpp_base.specs.declared.element.Proc.{Proc}
use Rattle.packet_format.specs.declared.Packet.{Packet}
use Rattle.packet_format.specs.declared.Descriptor.{Descriptor}
use Rattle.packet_format.specs.declared.acts.Act.{Act}
use Rattle.packet_format.specs.declared.acts.Act.TheVariants.{Post, Read}
use Rattle.fault_script.specs.declared.Edit.{Edit}
use Rattle.script_text.specs.declared.items.Item.TheVariants.{Cycles, Faulty, Asked, Edited, Rejoined}
use Rattle.script_text.specs.Printing.{joined, behind, proc_word, packet_word, round_word, element_word, act_words, edit_words, item_line}

pub proc_pieces : (text : List ℕ) (p : Proc) → text ++ 32 ∷ proc_word p ≡ (((text ++ 32 ∷ []) ++ decimal p.ne) ++ 46 ∷ []) ++ decimal p.port
unfolding proc_word
proc_pieces text p = simp append_assoc

pub pair_of : (text : List ℕ) (b : ℕ) → text ++ encode_lower (b ∷ []) ≡ (text ++ slice_index lower_digits (b / 16) ∷ []) ++ slice_index lower_digits (b % 16) ∷ []
unfolding encode_with
pair_of text b = sym (append_assoc text _ _)

encode-append : (t xs ys : List ℕ) → encode_with t (xs ++ ys) ≡ encode_with t xs ++ encode_with t ys
unfolding encode_with
encode-append t [] ys = refl
encode-append t (x ∷ xs) ys = rw (encode-append t xs ys) refl

pub encode_more : (text xs : List ℕ) (i : ℕ) → i < length xs → text ++ encode_lower (take (i + 1) xs) ≡ (text ++ encode_lower (take i xs)) ++ encode_lower (get_or xs i 0 ∷ [])
encode_more text xs i l = rw (take_more xs i 0 l, encode-append lower_digits (take i xs) (get_or xs i 0 ∷ [])) (sym (append_assoc text _ _))

pub encode_none : (text : List ℕ) → text ++ encode_lower [] ≡ text
unfolding encode_with
encode_none text = append-nil text

-- one word more
pub behind_more : (text w : List ℕ) (ws : List (List ℕ)) → text ++ behind (w ∷ ws) ≡ (text ++ 32 ∷ w) ++ behind ws
behind_more text w ws = sym (append_assoc text (32 ∷ w) (behind ws))

pub behind_last : (text w : List ℕ) → text ++ behind (w ∷ []) ≡ text ++ 32 ∷ w
behind_last text w = behind_more text w [] ∙ append-nil (text ++ 32 ∷ w)

pub read_pieces : (text : List ℕ) (p : Proc) → text ++ behind (act_words (Read p)) ≡ (text ++ 32 ∷ codes "read") ++ 32 ∷ proc_word p
read_pieces text p = behind_more text (codes "read") (proc_word p ∷ []) ∙ behind_last (text ++ 32 ∷ codes "read") (proc_word p)

three_words : (text a b c : List ℕ) (ws : List (List ℕ)) → text ++ behind (a ∷ b ∷ c ∷ ws) ≡ (((text ++ 32 ∷ a) ++ 32 ∷ b) ++ 32 ∷ c) ++ behind ws
three_words text a b c ws = behind_more text a (b ∷ c ∷ ws) ∙ behind_more (text ++ 32 ∷ a) b (c ∷ ws) ∙ behind_more ((text ++ 32 ∷ a) ++ 32 ∷ b) c ws

pub three_last : (text a b c : List ℕ) → text ++ behind (a ∷ b ∷ c ∷ []) ≡ ((text ++ 32 ∷ a) ++ 32 ∷ b) ++ 32 ∷ c
three_last text a b c = three_words text a b c [] ∙ append-nil (((text ++ 32 ∷ a) ++ 32 ∷ b) ++ 32 ∷ c)

pub four_last : (text a b c d : List ℕ) → text ++ behind (a ∷ b ∷ c ∷ d ∷ []) ≡ (((text ++ 32 ∷ a) ++ 32 ∷ b) ++ 32 ∷ c) ++ 32 ∷ d
four_last text a b c d = three_words text a b c (d ∷ []) ∙ behind_last (((text ++ 32 ∷ a) ++ 32 ∷ b) ++ 32 ∷ c) d

pub five_last : (text a b c d e : List ℕ) → text ++ behind (a ∷ b ∷ c ∷ d ∷ e ∷ []) ≡ ((((text ++ 32 ∷ a) ++ 32 ∷ b) ++ 32 ∷ c) ++ 32 ∷ d) ++ 32 ∷ e
five_last text a b c d e = three_words text a b c (d ∷ e ∷ []) ∙ behind_more (((text ++ 32 ∷ a) ++ 32 ∷ b) ++ 32 ∷ c) d (e ∷ []) ∙ behind_last ((((text ++ 32 ∷ a) ++ 32 ∷ b) ++ 32 ∷ c) ++ 32 ∷ d) e

pub post_pieces : (text : List ℕ) (p : Proc) (d : Descriptor) (x : Packet) → text ++ behind (act_words (Post p d x)) ≡ (((((text ++ 32 ∷ codes "post") ++ 32 ∷ proc_word p) ++ 32 ∷ decimal d.dest) ++ 32 ∷ decimal d.class) ++ 32 ∷ decimal d.source) ++ 32 ∷ packet_word x.bytes
post_pieces text p d x =
    behind_more text (codes "post") (proc_word p ∷ decimal d.dest ∷ decimal d.class ∷ decimal d.source ∷ packet_word x.bytes ∷ [])
    ∙ five_last (text ++ 32 ∷ codes "post") (proc_word p) (decimal d.dest) (decimal d.class) (decimal d.source) (packet_word x.bytes)

-- a line is its first word, the words behind it, and the end
joined_behind : (w : List ℕ) (ws : List (List ℕ)) → joined (w ∷ ws) ≡ w ++ behind ws
joined_behind w [] = sym (append-nil w)
joined_behind w (v ∷ ws) = ap (λ (t : List ℕ). w ++ 32 ∷ t) (joined_behind v ws)

line_pieces : (text w : List ℕ) (ws : List (List ℕ)) → text ++ (joined (w ∷ ws) ++ 10 ∷ []) ≡ ((text ++ w) ++ behind ws) ++ 10 ∷ []
line_pieces text w ws = rw (joined_behind w ws) (sym (append_assoc text (w ++ behind ws) (10 ∷ [])) ∙ ap (λ (t : List ℕ). t ++ 10 ∷ []) (sym (append_assoc text w (behind ws))))

pub cycles_pieces : (text : List ℕ) (c : ℕ) → text ++ item_line (Cycles c) ≡ ((text ++ codes "cycles") ++ 32 ∷ decimal c) ++ 10 ∷ []
cycles_pieces text c = line_pieces text (codes "cycles") (decimal c ∷ []) ∙ ap (λ (t : List ℕ). t ++ 10 ∷ []) (behind_last (text ++ codes "cycles") (decimal c))

pub faulty_pieces : (text : List ℕ) (e : ℕ) → text ++ item_line (Faulty e) ≡ ((text ++ codes "faulty") ++ 32 ∷ decimal e) ++ 10 ∷ []
faulty_pieces text e = line_pieces text (codes "faulty") (decimal e ∷ []) ∙ ap (λ (t : List ℕ). t ++ 10 ∷ []) (behind_last (text ++ codes "faulty") (decimal e))

at_pieces : (text : List ℕ) (c : ℕ) (ws : List (List ℕ)) → text ++ (joined (codes "at" ∷ decimal c ∷ ws) ++ 10 ∷ []) ≡ (((text ++ codes "at") ++ 32 ∷ decimal c) ++ behind ws) ++ 10 ∷ []
at_pieces text c ws = line_pieces text (codes "at") (decimal c ∷ ws) ∙ ap (λ (t : List ℕ). t ++ 10 ∷ []) (behind_more (text ++ codes "at") (decimal c) ws)

pub asked_pieces : (text : List ℕ) (c : ℕ) (a : Act) → text ++ item_line (Asked c a) ≡ (((text ++ codes "at") ++ 32 ∷ decimal c) ++ behind (act_words a)) ++ 10 ∷ []
asked_pieces text c a = at_pieces text c (act_words a)

pub edited_pieces : (text : List ℕ) (e : Edit) → text ++ item_line (Edited e) ≡ (((text ++ codes "at") ++ 32 ∷ decimal e.cycle) ++ behind (edit_words (round_word e.round) (element_word (codes "all") e.to) e.what)) ++ 10 ∷ []
edited_pieces text e = at_pieces text e.cycle (edit_words (round_word e.round) (element_word (codes "all") e.to) e.what)

pub rejoined_pieces : (text : List ℕ) (c : ℕ) (next : Option ℕ) → text ++ item_line (Rejoined c next) ≡ ((((text ++ codes "at") ++ 32 ∷ decimal c) ++ 32 ∷ codes "rejoin") ++ 32 ∷ element_word (codes "none") next) ++ 10 ∷ []
rejoined_pieces text c next =
    at_pieces text c (codes "rejoin" ∷ element_word (codes "none") next ∷ [])
    ∙ ap (λ (t : List ℕ). t ++ 10 ∷ []) (behind_more ((text ++ codes "at") ++ 32 ∷ decimal c) (codes "rejoin") (element_word (codes "none") next ∷ []) ∙ behind_last (((text ++ codes "at") ++ 32 ∷ decimal c) ++ 32 ∷ codes "rejoin") (element_word (codes "none") next))
