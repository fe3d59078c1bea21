-- The ports after the queues of one of them changed.
use Rattle.std.proofs.Common.{◌≡◌, ℕ, zero, suc, ◌<◌, List, [], ◌∷◌, length, get_or, refl, ap, sym, ◌∙◌, arith, map, subst}
use Rattle.std.proofs.Math.ListN.{set}
use Rattle.std.proofs.Math.Seq.{map-set_same}
use Rattle.std.proofs.lemmas.List.{get_or-map}
use Rattle.ftpp_base.specs.Lists.{change_at}
use Rattle.ftpp_base.specs.declared.element.Proc.{Proc}
use Rattle.config_table.specs.Table.{TableValue, in_limit}
use Rattle.processor_buffers.specs.Queues.{Queues, no_queues}
use Rattle.processor_buffers.specs.Buffers.{Buffers, buffers_after}
use Rattle.element_ports.specs.Ports.{PortsValue, HasLimits, proc_at, seen}

-- what stands past the eighth port
abbrev pub no_buffers : Buffers
no_buffers = record { queues = no_queues; outs = 0; ins = 0 }

-- a part of each item of a list, where that of one item changed
map-changed : {A B : Type 0} (part : A → B) (f : B → B) (xs : List A) (i : ℕ) (x y : A)
    → i < length xs → x ≡ get_or xs i x → part y ≡ f (part x)
    → map part (set xs i y) ≡ change_at f (map part xs) i
map-changed part f [] i x y l is e = let no : ⊥ = omega arith in absurd no
map-changed part f (z ∷ zs) zero x y l is e = ap (λ w. w ∷ map part zs) (e ∙ ap (λ w. f (part w)) is)
map-changed part f (z ∷ zs) (suc i) x y l is e = ap (λ ws. part z ∷ ws) (map-changed part f zs i x y (omega arith) is e)

-- the ports by their parts
by_parts : (me : ℕ) (q r : List Queues) (o p i j : List ℕ) → q ≡ r → o ≡ p → i ≡ j
    → (let a : PortsValue = record { me = me; queues = q; outs = o; ins = i } in a) ≡ record { me = me; queues = r; outs = p; ins = j }
by_parts me q r o p i j e f g = cc

-- the ports where the queues of one changed
pub seen-changed : (f : Queues → Queues) (me : ℕ) (items : List Buffers) (i port : ℕ) (old : PortsValue) (b c : Buffers)
    → seen me items ≡ old → i < length items → i ≡ port → b ≡ get_or items i b → c ≡ buffers_after f b
    → seen me (set items i c) ≡ record old { queues = change_at f old.queues port }
seen-changed f me items i port old b c is l place at e =
    by_parts me _ _ _ _ _ _
    (map-changed (λ x. x.queues) f items i b c l at (ap (λ x. x.queues) e))
    (map-set_same (λ x. x.outs) items i c b (ap (λ x. x.outs) e ∙ ap (λ x. x.outs) at))
    (map-set_same (λ x. x.ins) items i c b (ap (λ x. x.ins) e ∙ ap (λ x. x.ins) at))
    ∙ ap (λ (v : PortsValue). record v { queues = change_at f v.queues i }) is
    ∙ ap (λ k. record old { queues = change_at f old.queues k }) place

-- the queues at a port, and its limits, are those of its buffers
pub queues_seen : (me : ℕ) (items : List Buffers) (i port : ℕ) (ports : PortsValue) (b : Buffers) (none : Queues)
    → seen me items ≡ ports → i < length items → i ≡ port → b ≡ get_or items i b → get_or ports.queues port none ≡ b.queues
queues_seen me items i port ports b none is l place at =
    ap (λ k. get_or ports.queues k none) (sym place)
    ∙ ap (λ (v : PortsValue). get_or v.queues i none) (sym is)
    ∙ get_or-map (λ x. x.queues) items i b none l
    ∙ ap (λ x. x.queues) (sym at)

pub outs_seen : (me : ℕ) (items : List Buffers) (i port : ℕ) (ports : PortsValue) (b : Buffers)
    → seen me items ≡ ports → i < length items → i ≡ port → b ≡ get_or items i b → get_or ports.outs port 0 ≡ b.outs
outs_seen me items i port ports b is l place at =
    ap (λ k. get_or ports.outs k 0) (sym place)
    ∙ ap (λ (v : PortsValue). get_or v.outs i 0) (sym is)
    ∙ get_or-map (λ x. x.outs) items i b 0 l
    ∙ ap (λ x. x.outs) (sym at)

pub ins_seen : (me : ℕ) (items : List Buffers) (i port : ℕ) (ports : PortsValue) (b : Buffers)
    → seen me items ≡ ports → i < length items → i ≡ port → b ≡ get_or items i b → get_or ports.ins port 0 ≡ b.ins
ins_seen me items i port ports b is l place at =
    ap (λ k. get_or ports.ins k 0) (sym place)
    ∙ ap (λ (v : PortsValue). get_or v.ins i 0) (sym is)
    ∙ get_or-map (λ x. x.ins) items i b 0 l
    ∙ ap (λ x. x.ins) (sym at)

-- a change that changes nothing
pub change_at-none : {A : Type 0} (f : A → A) (xs : List A) (i : ℕ) → ((x : A) → f x ≡ x) → change_at f xs i ≡ xs
change_at-none f [] i same = refl
change_at-none f (x ∷ xs) zero same = ap (λ y. y ∷ xs) (same x)
change_at-none f (x ∷ xs) (suc i) same = ap (λ ys. x ∷ ys) (change_at-none f xs i same)

-- the input of a processor that stands here has the limit of the table
pub ins_by_table : (table : TableValue) (me : ℕ) (items : List Buffers) (i : ℕ) (proc : Proc) (ports : PortsValue) (b : Buffers)
    → HasLimits table ports → seen me items ≡ ports → i < length items → i ≡ proc.port → b ≡ get_or items i b
    → proc.ne ≡ me → proc.port < 8 → b.ins ≡ in_limit table proc
ins_by_table table me items i proc ports b limits is l place at here small =
    sym (ins_seen me items i proc.port ports b is l place at)
    ∙ (limits proc.port small).input
    ∙ ap (λ ne. in_limit table (proc_at ne proc.port)) (sym (here ∙ ap (λ (v : PortsValue). v.me) is))

-- with other queues the limits stay
pub limits_stay : (table : TableValue) (ports other : PortsValue) (queues : List Queues)
    → HasLimits table ports → other ≡ record ports { queues = queues } → HasLimits table other
limits_stay table ports other queues limits e =
    subst (λ (v : PortsValue). HasLimits table v) (sym e) (λ port l. record { output = (limits port l).output; input = (limits port l).input })
