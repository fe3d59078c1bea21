-- The ports as they go over to another table, one cleared processor after another.
use Rattle.std.proofs.Common.{◌≡◌, ℕ, ◌<◌, Bool, true, false, cond, List, [], ◌∷◌, length, get_or, drop, ◌+◌, ap, sym, ◌∙◌, arith, subst, ◌⊎◌, inl, inr, map, refl, zero, suc}
use Rattle.std.specs.Prelude.{filter, ◌==◌, ◌&&◌, ◌||◌}
use Rattle.std.specs.List.{list_any, fold}
use Rattle.std.proofs.Math.ListN.{set}
use Rattle.std.proofs.lemmas.Bool.{eqb-true, eqb-false, eq-eqb, ne_eqb}
use Rattle.std.proofs.lemmas.List.{drop_more, map-set, length-set, get_or-map, get_or-set_same, get_or-set_other}
use Rattle.ftpp_base.specs.Lists.{change_at}
use Rattle.ftpp_base.specs.declared.element.Proc.{Proc}
use Rattle.config_table.specs.Groups.{same_proc}
use Rattle.config_table.specs.Table.{TableValue, out_limit, in_limit}
use Rattle.processor_buffers.specs.Queues.{Queues, no_queues}
use Rattle.processor_buffers.specs.Buffers.{Buffers}
use Rattle.element_ports.specs.PortQueues.{own_cleared}
use Rattle.element_ports.specs.Ports.{PortsValue, HasLimits, HasLimitsAt, CanGoOver, fresh, proc_at, seen}
use Rattle.element_ports.proofs.PortChanges.{no_buffers}

-- The queues are as after the processors so far, and each port is to be cleared yet or has its limits.
pub record Goes (table : TableValue) (me : ℕ) (rest : List Proc) (last : List Queues) (items : List Buffers) : Type 0 where
  pub long : length items ≡ 8
  pub queues : own_cleared me rest (map (λ b. b.queues) items) ≡ last
  pub limits : (port : ℕ) → port < 8 → (list_any (same_proc (proc_at me port)) rest ≡ true) ⊎ HasLimitsAt table (seen me items) port

-- ---- before the first, and after the last

pub goes-first : (table : TableValue) (cleared : List Proc) (ports : PortsValue) (me : ℕ) (items : List Buffers)
    → seen me items ≡ ports → length items ≡ 8 → CanGoOver table cleared ports → Goes table me cleared (own_cleared ports.me cleared ports.queues) items
goes-first table cleared ports me items is long can = record {
  long = long;
  queues = ap (λ (v : PortsValue). own_cleared v.me cleared v.queues) is;
  limits =
      subst (λ (v : PortsValue). (port : ℕ) → port < 8 → (list_any (same_proc (proc_at v.me port)) cleared ≡ true) ⊎ HasLimitsAt table v port)
      (sym is) can.others;
}

-- none is left to be cleared
settled_by : (table : TableValue) (ports : PortsValue) (port : ℕ) → (false ≡ true) ⊎ HasLimitsAt table ports port → HasLimitsAt table ports port
settled_by table ports port (inl e) = cc
settled_by table ports port (inr h) = h

pub goes-last : (table : TableValue) (me : ℕ) (last : List Queues) (items : List Buffers) → Goes table me [] last items → HasLimits table (seen me items)
goes-last table me last items g port l = settled_by table (seen me items) port (g.limits port l)

-- ---- one processor more

and_false : (b : Bool) → (b && false) ≡ false
and_false true = refl
and_false false = refl

-- processors of different elements, and at different ports
other_element : (p q : Proc) → (q.ne ≡ p.ne → ⊥) → same_proc q p ≡ false
other_element p q away = ap (λ b. b && (q.port == p.port)) (ne_eqb q.ne p.ne away)

other_port : (p q : Proc) → (q.port ≡ p.port → ⊥) → same_proc q p ≡ false
other_port p q away = ap (λ b. (q.ne == p.ne) && b) (ne_eqb q.port p.port away) ∙ and_false (q.ne == p.ne)

-- one that is listed, and is not the first, is a later one
listed_later : (p q : Proc) (rest : List Proc) → same_proc q p ≡ false → list_any (same_proc q) (p ∷ rest) ≡ true
    → list_any (same_proc q) rest ≡ true
listed_later p q rest other e = sym (ap (λ b. b || list_any (same_proc q) rest) other) ∙ e

-- a port that waits for a later one, or has its limits in the ports as they are now
still : (table : TableValue) (p q : Proc) (rest : List Proc) (port : ℕ) (old new : PortsValue)
    → same_proc q p ≡ false → (HasLimitsAt table old port → HasLimitsAt table new port)
    → (list_any (same_proc q) (p ∷ rest) ≡ true) ⊎ HasLimitsAt table old port
    → (list_any (same_proc q) rest ≡ true) ⊎ HasLimitsAt table new port
still table p q rest port old new other keeps (inl e) = inl (listed_later p q rest other e)
still table p q rest port old new other keeps (inr h) = inr (keeps h)

-- the queues that the next one leaves, by whether it is of this element
next_cleared : (b : Bool) (me : ℕ) (p : Proc) (rest : List Proc) (queues : List Queues) → (p.ne == me) ≡ b
    → own_cleared me (p ∷ rest) queues ≡ own_cleared me rest (cond b (change_at (λ q. no_queues) queues p.port) queues)
next_cleared b me p rest queues e =
    ap (λ c. fold clear queues (cond c (p ∷ here) here)) e ∙ by_case b where
      clear : List Queues → Proc → List Queues
      clear kept proc = change_at (λ q. no_queues) kept proc.port

      here : List Proc
      here = filter (λ proc. proc.ne == me) rest

      by_case : (c : Bool) → fold clear queues (cond c (p ∷ here) here) ≡ fold clear (cond c (change_at (λ q. no_queues) queues p.port) queues) here
      by_case true = refl
      by_case false = refl

-- a processor of another element is passed over
pub goes-other : (table : TableValue) (me : ℕ) (p : Proc) (rest : List Proc) (last : List Queues) (items : List Buffers)
    → (p.ne ≡ me → ⊥) → Goes table me (p ∷ rest) last items → Goes table me rest last items
goes-other table me p rest last items away g = record {
  long = g.long;
  queues =
      sym (next_cleared false me p rest (map (λ x. x.queues) items) (ne_eqb p.ne me away))
      ∙ g.queues;
  limits = λ port l.
      still table p (proc_at me port) rest port (seen me items) (seen me items) (other_element p (proc_at me port) (λ e. away (sym e))) (λ h. h) (g.limits port l);
}

-- a part of each item, where one item was replaced
map-put : {A B : Type 0} (part : A → B) (xs : List A) (i : ℕ) (y : A) (v : B) → part y ≡ v
    → map part (set xs i y) ≡ change_at (λ w. v) (map part xs) i
map-put part [] i y v e = refl
map-put part (x ∷ xs) zero y v e = ap (λ w. w ∷ map part xs) e
map-put part (x ∷ xs) (suc i) y v e = ap (λ ws. part x ∷ ws) (map-put part xs i y v e)

-- a number of the item that was put in, and one of another item
put_here : (part : Buffers → ℕ) (items : List Buffers) (i port : ℕ) (b : Buffers) → i < length items → port ≡ i
    → get_or (map part (set items i b)) port 0 ≡ part b
put_here part items i port b l e =
    ap (λ k. get_or (map part (set items i b)) k 0) e
    ∙ get_or-map part (set items i b) i no_buffers 0 (let long = length-set items i b in omega arith)
    ∙ ap part (get_or-set_same items i b no_buffers l)

put_elsewhere : (part : Buffers → ℕ) (items : List Buffers) (i port : ℕ) (b : Buffers) → (port ≡ i → ⊥)
    → get_or (map part (set items i b)) port 0 ≡ get_or (map part items) port 0
put_elsewhere part items i port b away =
    ap (λ ns. get_or ns port 0) (map-set part items i b) ∙ get_or-set_other (map part items) i port (part b) 0 away

-- a processor of this element: its port is renewed
own_by : (same : Bool) (table : TableValue) (me : ℕ) (p : Proc) (rest : List Proc) (items : List Buffers) (i port : ℕ) (b : Buffers)
    → (port == i) ≡ same → p.ne ≡ me → i < length items → i ≡ p.port → b ≡ fresh table p
    → (list_any (same_proc (proc_at me port)) (p ∷ rest) ≡ true) ⊎ HasLimitsAt table (seen me items) port
    → (list_any (same_proc (proc_at me port)) rest ≡ true) ⊎ HasLimitsAt table (seen me (set items i b)) port
own_by true table me p rest items i port b same here l place new h =
    let at = eqb-true port i same in
    let this : p ≡ proc_at me port = ap (λ ne. proc_at ne p.port) here ∙ ap (λ k. proc_at me k) (sym (at ∙ place)) in
    inr record {
      output = put_here (λ x. x.outs) items i port b l at ∙ ap (λ x. x.outs) new ∙ ap (out_limit table) this;
      input = put_here (λ x. x.ins) items i port b l at ∙ ap (λ x. x.ins) new ∙ ap (in_limit table) this;
    }
own_by false table me p rest items i port b same here l place new h =
    let away = eqb-false port i same in
    still table p (proc_at me port) rest port (seen me items) (seen me (set items i b)) (other_port p (proc_at me port) (λ e. away (e ∙ sym place)))
    (λ old. record {
      output = put_elsewhere (λ x. x.outs) items i port b away ∙ old.output;
      input = put_elsewhere (λ x. x.ins) items i port b away ∙ old.input;
    }) h

pub goes-own : (table : TableValue) (me : ℕ) (p : Proc) (rest : List Proc) (last : List Queues) (items : List Buffers) (i : ℕ) (b : Buffers)
    → p.ne ≡ me → i < length items → i ≡ p.port → b ≡ fresh table p → Goes table me (p ∷ rest) last items → Goes table me rest last (set items i b)
goes-own table me p rest last items i b here l place new g = record {
  long = length-set items i b ∙ g.long;
  queues =
      ap (own_cleared me rest)
      (map-put (λ x. x.queues) items i b no_queues (ap (λ x. x.queues) new) ∙ ap (change_at (λ q. no_queues) (map (λ x. x.queues) items)) place)
      ∙ sym (next_cleared true me p rest (map (λ x. x.queues) items) (eq-eqb p.ne me here))
      ∙ g.queues;
  limits = λ port small. own_by (port == i) table me p rest items i port b refl here l place new (g.limits port small);
}

-- ---- the next of all processors

-- the next one is of another element
pub goes-past : (table : TableValue) (me : ℕ) (cleared : List Proc) (k : ℕ) (d : Proc) (last : List Queues) (items : List Buffers)
    → k < length cleared → ((get_or cleared k d).ne ≡ me → ⊥) → Goes table me (drop k cleared) last items → Goes table me (drop (k + 1) cleared) last items
goes-past table me cleared k d last items l away g =
    goes-other table me (get_or cleared k d) (drop (k + 1) cleared) last items away
    (subst (λ procs. Goes table me procs last items) (drop_more cleared k d l) g)

-- the next one is of this element
pub goes-through : (table : TableValue) (me : ℕ) (cleared : List Proc) (k : ℕ) (d : Proc) (last : List Queues) (items : List Buffers)
    → (i : ℕ) (b : Buffers) → k < length cleared → (get_or cleared k d).ne ≡ me → (get_or cleared k d).port < 8 → i ≡ (get_or cleared k d).port → b ≡ fresh table (get_or cleared k d)
    → Goes table me (drop k cleared) last items → Goes table me (drop (k + 1) cleared) last (set items i b)
goes-through table me cleared k d last items i b l here small place new g =
    let long = g.long in
    goes-own table me (get_or cleared k d) (drop (k + 1) cleared) last items i b here (omega arith) place new
    (subst (λ procs. Goes table me procs last items) (drop_more cleared k d l) g)
