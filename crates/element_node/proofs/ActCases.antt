-- Which case of an act it is.
use Rattle.std.proofs.Common.{◌≡◌, ℕ, ◌+◌, ◌<◌, ◌≤◌, Bool, true, false, ◌==◌, nat_lt, nat_le, List, [], ◌++◌, ◌∷◌, refl, ap, sym, ◌∙◌, arith}
use Rattle.std.proofs.lemmas.Bool.{le-leb, lt-leb}
use Rattle.packet_format.specs.declared.acts.Act.{Act}
use Rattle.ftpp_base.specs.declared.element.Proc.{Proc}
use Rattle.packet_format.specs.declared.Packet.{Packet}
use Rattle.packet_format.specs.declared.Descriptor.{Descriptor}
use Rattle.packet_format.specs.declared.acts.Act.TheVariants.{Post, Read}
use Rattle.element_core.specs.AloneRun.{actor}
use Rattle.element_node.specs.Dialog.{and_then, ready, breaks, piece, byte}
use Rattle.element_node.specs.Input.{IsOwnAct, own, posted, read_act_at, read_act_of, is_kind, read_counted, read_acts_from, read_act}

pub bad_port : (me kind port : ℕ) → 8 ≤ port → read_act_at me kind port ≡ breaks 4
unfolding read_act_at
bad_port me kind port past =
    let e : nat_lt port 8 ≡ false = lt-leb _ _ (omega arith) in
    rw e refl

pub post_here : (me kind port : ℕ) → port < 8 → kind ≡ 1 → read_act_at me kind port ≡ and_then (piece 67) (posted me port)
unfolding read_act_at
post_here me kind port below one =
    let e : nat_lt port 8 ≡ true = le-leb _ _ (omega arith) in
    rw (e, one) refl

pub read_here : (me kind port : ℕ) → port < 8 → (kind == 1) ≡ false → read_act_at me kind port ≡ ready (Read (own me port))
unfolding read_act_at
read_here me kind port below other =
    let e : nat_lt port 8 ≡ true = le-leb _ _ (omega arith) in
    rw (e, other) refl

pub bad_kind : (me kind : ℕ) (b : Bool) → b ≡ is_kind kind → b ≡ false → read_act_of me kind ≡ breaks 3
unfolding read_act_of
bad_kind me kind b e f =
    let h : is_kind kind ≡ false = sym e ∙ f in
    rw h refl

pub good_kind : (me kind : ℕ) (b : Bool) → b ≡ is_kind kind → b ≡ true → read_act_of me kind ≡ and_then byte (read_act_at me kind)
unfolding read_act_of
good_kind me kind b e f =
    let h : is_kind kind ≡ true = sym e ∙ f in
    rw h refl

pub too_many : (me count : ℕ) → 80 < count → read_counted me count ≡ breaks 2
unfolding read_counted
too_many me count past =
    let e : nat_le count 80 ≡ false = lt-leb _ _ past in
    rw e refl

pub not_too_many : (me count : ℕ) → count ≤ 80 → read_counted me count ≡ read_acts_from me count []
unfolding read_counted
not_too_many me count few =
    let e : nat_le count 80 ≡ true = le-leb _ _ few in
    rw e refl

-- one act more
pub acts_step : (me n m : ℕ) (before : List Act) → n ≡ m + 1 → read_acts_from me n before ≡ and_then (read_act me) (λ act. read_acts_from me m (before ++ act ∷ []))
unfolding read_acts_from
acts_step me n m before e =
    let f : n ≡ ℕ.suc m = omega arith in
    rw f refl

-- no act more
pub acts_none : (me n : ℕ) (before : List Act) → n ≡ 0 → read_acts_from me n before ≡ ready before
unfolding read_acts_from
acts_none me n before e = rw e refl

-- a post of a processor of the element
pub own_post : (me : ℕ) (act : Act) (proc : Proc) (desc : Descriptor) (packet : Packet) → act ≡ Post proc desc packet → IsOwnAct me act → act ≡ Post (own me proc.port) desc packet
own_post me act proc desc packet is (mine, below) =
    let same : proc.ne ≡ me = ap (λ a. (actor a).ne) (sym is) ∙ mine in
    is ∙ ap (λ ne. Post (record { ne = ne; port = proc.port }) desc packet) same
