-- Cycles one after another, and how a node ends.
use Rattle.std.proofs.Common.{◌≡◌, ◌≢◌, ℕ, ◌+◌, ◌<◌, List, [], ◌∷◌, ◌++◌, Option, Some, None, refl, ap, sym, ◌∙◌, append_assoc, append-nil, subst, arith, IfSome, inl, inr}
use Rattle.std.specs.Prelude.{slice_index_or, replicate}
use Rattle.std.proofs.lemmas.List.{get_or-replicate}
use Rattle.ftpp_outside.specs.Told.{Gives, Adds}
use Rattle.ftpp_outside.proofs.Told.{gives_none, gives_both, adds_none, adds_both}
use Rattle.ftpp_base.specs.declared.element.Round.{Round}
use Rattle.ftpp_base.specs.declared.element.Round.TheVariants.{A1, A2, B1, B2}
use Rattle.table_update.specs.declared.Update.{Update}
use Rattle.table_update.specs.declared.Applied.{Applied}
use Rattle.table_update.specs.declared.Applied.TheVariants.{Done, Refused, Absent}
use Rattle.table_update.specs.Updates.{applied}
use Rattle.element_core.specs.declared.Due.TheVariants.{Emit}
use Rattle.element_core.specs.Element.{Kept, Heard, made, kept_by, kept_with, kept_after, own_update, own_delivery, own_service}
use Rattle.element_core.proofs.Sound.{size-table_after}
use Rattle.config_table.specs.Table.{TableValue}
use Rattle.element_core.specs.ElementValue.{ElementValue, fresh, after_emit, after_absorb, ended_with, heard_with}
use Rattle.element_node.specs.Dialog.{Outcome, Dialog, after_text, ready}
use Rattle.element_node.specs.Dialog.Outcome.{Whole, Waits, Breaks}
use Rattle.element_node.specs.Node.{Stopped, node, text_in, after_text_in, then_cycles, at_the_end, cycle_dialog, cycles_from}
use Rattle.element_node.specs.Node.Stopped.{WaitsIn, BreaksIn}
use Rattle.element_node.specs.Progress.{Between, EndsStream, FitsEnd, Halts, IsNoStream, IsWholeInput, Serves, cycle_after, end_in, round_after}
use Rattle.element_node.specs.declared.Halt.{Halt}
use Rattle.element_node.specs.declared.Halt.TheVariants as halt_is
use Rattle.element_node.specs.declared.NodeEnd.{NodeEnd}
use Rattle.element_node.specs.declared.NodeEnd.TheVariants as end_is

-- ---- the element that begins the next cycle

same_if_applied : (a : Applied) (update : Update) (kept : Kept) → ((kept_by a update kept).me ≡ kept.me) × ((kept_by a update kept).cycle ≡ kept.cycle)
same_if_applied (Done procs) update kept = (refl, refl)
same_if_applied (Refused error) update kept = (refl, refl)
same_if_applied Absent update kept = (refl, refl)

same_with_update : (u : Option Update) (kept : Kept) → ((kept_with u kept).me ≡ kept.me) × ((kept_with u kept).cycle ≡ kept.cycle)
same_with_update None kept = (refl, refl)
same_with_update (Some update) kept = same_if_applied (applied kept.table update) update kept

-- among as many elements
size_if_applied : (a : Applied) (update : Update) (kept : Kept) → a ≡ applied kept.table update → (kept_by a update kept).table.n ≡ kept.table.n
size_if_applied (Done procs) update kept e = size-table_after kept.table update
size_if_applied (Refused error) update kept e = refl
size_if_applied Absent update kept e = refl

size_with_update : (u : Option Update) (kept : Kept) → (kept_with u kept).table.n ≡ kept.table.n
size_with_update None kept = refl
size_with_update (Some update) kept = size_if_applied (applied kept.table update) update kept refl

pub same_after_end : (e : ElementValue) (heard : Heard) → ((ended_with e heard).kept.me ≡ e.kept.me) × ((ended_with e heard).kept.table.n ≡ e.kept.table.n) × ((ended_with e heard).kept.cycle ≡ e.kept.cycle + 1)
unfolding ended_with kept_after
same_after_end e heard = ((same_with_update _ _).0, size_with_update _ _, (same_with_update _ _).1)

-- what is due after a round, and in which cycle it is then
pub moved_on : (round : Round) (e b d : ElementValue) (frames : ℕ → List ℕ) → b ≡ after_emit round e → d ≡ after_absorb round frames b
    → (d.due ≡ Emit (round_after round)) × (d.kept.cycle ≡ cycle_after round e.kept.cycle) × (d.kept.me ≡ e.kept.me)
unfolding ended_with
moved_on A1 e b d frames f g = rw (g, f) (refl, refl, refl)
moved_on A2 e b d frames f g = rw (g, f) (refl, refl, refl)
moved_on B1 e b d frames f g = rw (g, f) (refl, refl, refl)
moved_on B2 e b d frames f g =
    let same : ((after_absorb B2 frames b).kept.me ≡ b.kept.me) × ((after_absorb B2 frames b).kept.table.n ≡ b.kept.table.n) × ((after_absorb B2 frames b).kept.cycle ≡ b.kept.cycle + 1) = same_after_end b (heard_with b B2 frames) in (
      ap (λ z. z.due) g,
      ap (λ z. z.kept.cycle) g ∙ (same.2 ∙ ap (λ z. z.kept.cycle + 1) f),
      ap (λ z. z.kept.me) g ∙ (same.0 ∙ ap (λ z. z.kept.me) f),
    )

-- ---- cycles

pub after_no_text : (s : Stopped) → after_text_in [] s ≡ s
after_no_text (WaitsIn cycle text) = refl
after_no_text (BreaksIn cycle code text rest) = refl

after_two_texts : (t u : List ℕ) (s : Stopped) → after_text_in t (after_text_in u s) ≡ after_text_in (t ++ u) s
after_two_texts t u (WaitsIn cycle text) = ap (λ x. WaitsIn cycle x) (sym (append_assoc t u text))
after_two_texts t u (BreaksIn cycle code text rest) = ap (λ x. BreaksIn cycle code x rest) (sym (append_assoc t u text))

cycles_after_text : (t : List ℕ) (cycle : ℕ) (o : Outcome ElementValue) (k : ElementValue → List ℕ → Stopped) → then_cycles cycle (after_text t o) k ≡ after_text_in t (then_cycles cycle o k)
cycles_after_text t cycle (Whole e text rest) k = sym (after_two_texts t text (k e rest))
cycles_after_text t cycle (Waits text) k = refl
cycles_after_text t cycle (Breaks code text rest) k = refl

-- Bytes were read and bytes were written, and the node goes on as `last`.
pub record Reaches (node last : List ℕ → Stopped) (left left_after written written_after : Option (List ℕ)) : Type 0 where
  pub read : List ℕ
  pub wrote : List ℕ
  pub given : Gives left read left_after
  pub added : Adds written wrote written_after
  pub leads : (bytes : List ℕ) → node (read ++ bytes) ≡ after_text_in wrote (last bytes)

pub reaches_itself : (node : List ℕ → Stopped) (l w : Option (List ℕ)) → Reaches node node l l w w
reaches_itself node l w = record { read = []; wrote = []; given = gives_none l; added = adds_none w; leads = λ bytes. sym (after_no_text (node bytes)) }

-- a part of a cycle more
reaches_within : (node : List ℕ → Stopped) (count : ℕ) (e : ElementValue) (last : Dialog ElementValue) (l m n w x y : Option (List ℕ))
    → Reaches node (cycles_from (ℕ.suc count) e) l m w x → Between (cycle_dialog e) last m n x y
    → Reaches node (λ bytes. then_cycles e.kept.cycle (last bytes) (cycles_from count)) l n w y
unfolding cycles_from
reaches_within node count e last l m n w x y a b = record {
  read = a.read ++ b.read;
  wrote = a.wrote ++ b.wrote;
  given = gives_both l m n a.read b.read _ a.given b.given refl;
  added = adds_both w x y a.wrote b.wrote _ a.added b.added refl;
  leads = λ bytes.
      ap node (append_assoc a.read b.read bytes)
      ∙ (a.leads (b.read ++ bytes)
      ∙ (ap (λ o. after_text_in a.wrote (then_cycles e.kept.cycle o (cycles_from count))) (b.leads bytes)
      ∙ (ap (after_text_in a.wrote) (cycles_after_text b.wrote e.kept.cycle (last bytes) (cycles_from count))
      ∙ after_two_texts a.wrote b.wrote (then_cycles e.kept.cycle (last bytes) (cycles_from count)))));
}

-- a cycle more
pub reaches_next : (node : List ℕ → Stopped) (count : ℕ) (e after : ElementValue) (l m n w x y : Option (List ℕ))
    → Reaches node (cycles_from (ℕ.suc count) e) l m w x → Between (cycle_dialog e) (ready after) m n x y
    → Reaches node (cycles_from count after) l n w y
reaches_next node count e after l m n w x y a b =
    let c : Reaches node (λ bytes. then_cycles e.kept.cycle (ready after bytes) (cycles_from count)) l n w y = reaches_within node count e (ready after) l m n w x y a b in
    record { read = c.read; wrote = c.wrote; given = c.given; added = c.added; leads = λ bytes. c.leads bytes ∙ ap (after_text_in c.wrote) (after_no_text (cycles_from count after bytes)) }

-- ---- ends

text_after : (t : List ℕ) (s : Stopped) → text_in (after_text_in t s) ≡ t ++ text_in s
text_after t (WaitsIn cycle text) = refl
text_after t (BreaksIn cycle code text rest) = refl

-- where it waits there, the node waits with what was written
pub waits_there : (node last : List ℕ → Stopped) (l m w x : Option (List ℕ)) (cycle : ℕ) (a : Reaches node last l m w x) → last [] ≡ WaitsIn cycle [] → node a.read ≡ WaitsIn cycle a.wrote
waits_there node last l m w x cycle a e = ap node (sym (append-nil a.read)) ∙ (a.leads [] ∙ (ap (after_text_in a.wrote) e ∙ ap (λ t. WaitsIn cycle t) (append-nil a.wrote)))

breaks_there : (node last : List ℕ → Stopped) (l m w x : Option (List ℕ)) (cycle code : ℕ) (a : Reaches node last l m w x) → ((bytes : List ℕ) → last bytes ≡ BreaksIn cycle code [] bytes)
    → (bytes : List ℕ) → node (a.read ++ bytes) ≡ BreaksIn cycle code a.wrote bytes
breaks_there node last l m w x cycle code a e bytes = a.leads bytes ∙ (ap (after_text_in a.wrote) (e bytes) ∙ ap (λ t. BreaksIn cycle code t bytes) (append-nil a.wrote))

prefix_there : (node last : List ℕ → Stopped) (l m w x : Option (List ℕ)) (a : Reaches node last l m w x) → text_in (node a.read) ≡ a.wrote ++ text_in (last [])
prefix_there node last l m w x a = ap (λ b. text_in (node b)) (sym (append-nil a.read)) ∙ (ap text_in (a.leads []) ∙ text_after a.wrote (last []))

-- a node that halts in a cycle
pub ends_in_cycle : (node : List ℕ → Stopped) (cycles count cycle : ℕ) (e : ElementValue) (halt : Halt) (l m n w x y : Option (List ℕ))
    → Reaches node (cycles_from (ℕ.suc count) e) l m w x → e.kept.cycle ≡ cycle → cycle < cycles → Halts (cycle_dialog e) halt m n x y
    → Serves node cycles (end_in cycle halt) l n w y
ends_in_cycle node cycles count cycle e halt_is.Ended l m n w x y a same below (last, b, (waits, empty)) =
    let c : Reaches node (λ bytes. then_cycles e.kept.cycle (last bytes) (cycles_from count)) l n w y = reaches_within node count e last l m n w x y a b in
    let d : then_cycles e.kept.cycle (last []) (cycles_from count) ≡ WaitsIn cycle [] = rw (waits, same) refl in
    record { read = c.read; wrote = c.wrote; given = c.given; added = c.added; fits = inl (refl, below, waits_there node _ l n w y cycle c d, empty) }
ends_in_cycle node cycles count cycle e (halt_is.Broken code) l m n w x y a same below (last, b, breaks) =
    let c : Reaches node (λ bytes. then_cycles e.kept.cycle (last bytes) (cycles_from count)) l n w y = reaches_within node count e last l m n w x y a b in
    record { read = c.read; wrote = c.wrote; given = c.given; added = c.added; fits = inr (breaks_there node _ l n w y cycle code c (λ bytes. rw (breaks bytes, same) refl)) }
ends_in_cycle node cycles count cycle e halt_is.Read l m n w x y a same below (last, b, waits) =
    let c : Reaches node (λ bytes. then_cycles e.kept.cycle (last bytes) (cycles_from count)) l n w y = reaches_within node count e last l m n w x y a b in
    let d : then_cycles e.kept.cycle (last []) (cycles_from count) ≡ WaitsIn cycle [] = rw (waits, same) refl in
    record { read = c.read; wrote = c.wrote; given = c.given; added = c.added; fits = (cycle, waits_there node _ l n w y cycle c d) }
ends_in_cycle node cycles count cycle e halt_is.Write l m n w x y a same below (last, b, any) =
    let c : Reaches node (λ bytes. then_cycles e.kept.cycle (last bytes) (cycles_from count)) l n w y = reaches_within node count e last l m n w x y a b in
    record { read = c.read; wrote = c.wrote; given = c.given; added = c.added; fits = (_, prefix_there node _ l n w y c) }

-- ---- behind the last cycle

-- the end of the input
pub done_there : (cycles : ℕ) (read : List ℕ) (l m w : Option (List ℕ)) → read ≡ [] → Gives l read m → IfSome m (λ bytes. bytes ≡ []) → Serves (at_the_end cycles) cycles end_is.Done l m w w
done_there cycles read l m w none given empty = record { read = read; wrote = []; given = given; added = adds_none w; fits = (rw none refl, empty) }

-- a byte too many
pub too_many_there : (cycles byte : ℕ) (read : List ℕ) (l m w : Option (List ℕ)) → read ≡ byte ∷ [] → Gives l read m → Serves (at_the_end cycles) cycles (end_is.Stream cycles 6) l m w w
too_many_there cycles byte read l m w one given = record { read = read; wrote = []; given = given; added = adds_none w; fits = inr (λ bytes. rw one refl) }

-- a read failed
pub unread_there : (cycles : ℕ) (l m w : Option (List ℕ)) → m ≡ l → Serves (at_the_end cycles) cycles end_is.Read l m w w
unread_there cycles l m w same = record { read = []; wrote = []; given = rw same (gives_none l); added = adds_none w; fits = (cycles, refl) }

-- what fits an end behind the last cycle fits it on the whole
fits_behind : (node last : List ℕ → Stopped) (cycles : ℕ) (l m w x : Option (List ℕ)) (a : Reaches node last l m w x) (end : NodeEnd) (read wrote : List ℕ) (left : Option (List ℕ))
    → FitsEnd last cycles read wrote end left → end ≢ end_is.Memory → FitsEnd node cycles (a.read ++ read) (a.wrote ++ wrote) end left
fits_behind node last cycles l m w x a end_is.Done read wrote left (e, empty) other = (ap node refl ∙ (a.leads read ∙ ap (after_text_in a.wrote) e), empty)
fits_behind node last cycles l m w x a (end_is.Stream cycle code) read wrote left (inl (one, below, e, empty)) other = inl (one, below, a.leads read ∙ ap (after_text_in a.wrote) e, empty)
fits_behind node last cycles l m w x a (end_is.Stream cycle code) read wrote left (inr e) other = inr (λ bytes. ap node (append_assoc a.read read bytes) ∙ (a.leads (read ++ bytes) ∙ ap (after_text_in a.wrote) (e bytes)))
fits_behind node last cycles l m w x a end_is.Read read wrote left (cycle, e) other = (cycle, a.leads read ∙ ap (after_text_in a.wrote) e)
fits_behind node last cycles l m w x a end_is.Write read wrote left (rest, e) other = (rest, ap text_in (a.leads read) ∙ (text_after a.wrote (last read) ∙ (ap (λ t. a.wrote ++ t) e ∙ sym (append_assoc a.wrote wrote rest))))
fits_behind node last cycles l m w x a end_is.Memory read wrote left e other = absurd (other refl)

pub ends_behind : (node : List ℕ → Stopped) (cycles count : ℕ) (e : ElementValue) (end : NodeEnd) (l m n w x y : Option (List ℕ))
    → Reaches node (cycles_from count e) l m w x → count ≡ 0 → e.kept.cycle ≡ cycles → Serves (at_the_end cycles) cycles end m n x y → end ≢ end_is.Memory
    → Serves node cycles end l n w y
unfolding cycles_from
ends_behind node cycles count e end l m n w x y a none same b other =
    let c : Reaches node (at_the_end cycles) l m w x = subst (λ k. Reaches node (at_the_end k) l m w x) same (subst (λ k. Reaches node (cycles_from k e) l m w x) none a) in
    record {
      read = c.read ++ b.read;
      wrote = c.wrote ++ b.wrote;
      given = gives_both l m n c.read b.read _ c.given b.given refl;
      added = adds_both w x y c.wrote b.wrote _ c.added b.added refl;
      fits = fits_behind node (at_the_end cycles) cycles l m w x c end b.read b.wrote n b.fits other;
    }

-- ---- a whole input

abbrev cycle_of : Stopped → ℕ
cycle_of (WaitsIn cycle text) = cycle
cycle_of (BreaksIn cycle code text rest) = cycle

abbrev is_broken : Stopped → ℕ
is_broken (WaitsIn cycle text) = 0
is_broken (BreaksIn cycle code text rest) = 1

-- of a whole input no Stream is answered
no_stream : (node : List ℕ → Stopped) (cycles : ℕ) (end : NodeEnd) (bytes read wrote : List ℕ) (left : Option (List ℕ))
    → Gives (Some bytes) read left → FitsEnd node cycles read wrote end left → IsWholeInput node cycles bytes → IsNoStream end
no_stream node cycles end_is.Done bytes read wrote left g f v = tt
no_stream node cycles (end_is.Stream cycle code) bytes read wrote None g f v = g
no_stream node cycles (end_is.Stream cycle code) bytes read wrote (Some after) g (inl (one, below, e, empty)) (text, v) =
    let all : bytes ≡ read = g ∙ (ap (λ b. read ++ b) empty ∙ append-nil read) in
    let same : cycle ≡ cycles = ap cycle_of (sym e ∙ (ap node (sym all) ∙ v)) in
    omega (arith, same, below)
no_stream node cycles (end_is.Stream cycle code) bytes read wrote (Some after) g (inr e) (text, v) =
    let same : 1 ≡ 0 = ap is_broken (sym (e after) ∙ (ap node (sym g) ∙ v)) in
    omega (arith, same)
no_stream node cycles end_is.Read bytes read wrote left g f v = tt
no_stream node cycles end_is.Write bytes read wrote left g f v = tt
no_stream node cycles end_is.Memory bytes read wrote left g f v = tt

pub whole_is_no_stream : (node : List ℕ → Stopped) (cycles : ℕ) (end : NodeEnd) (l m w x : Option (List ℕ)) → Serves node cycles end l m w x → IfSome l (λ bytes. IsWholeInput node cycles bytes → IsNoStream end)
whole_is_no_stream node cycles end None m w x s = tt
whole_is_no_stream node cycles end (Some bytes) m w x s = λ v. no_stream node cycles end bytes s.read s.wrote m s.given s.fits v

-- nothing was read or written
pub nothing_served : (node : List ℕ → Stopped) (cycles : ℕ) (l w : Option (List ℕ)) → Serves node cycles end_is.Memory l l w w
nothing_served node cycles l w = record { read = []; wrote = []; given = gives_none l; added = adds_none w; fits = (refl, refl) }

-- ---- the loop over the cycles

pub starts : (cycles n : ℕ) (e : ElementValue) (l w : Option (List ℕ)) → n ≡ cycles → Reaches (cycles_from cycles e) (cycles_from n e) l l w w
starts cycles n e l w same = rw same (reaches_itself (cycles_from cycles e) l w)

pub goes_on_to : (node : List ℕ → Stopped) (n m : ℕ) (e after : ElementValue) (l k r w x y : Option (List ℕ)) → n ≡ m + 1
    → Reaches node (cycles_from n e) l k w x → Between (cycle_dialog e) (ready after) k r x y → Reaches node (cycles_from m after) l r w y
goes_on_to node n m e after l k r w x y same a b =
    let f : n ≡ ℕ.suc m = omega arith in
    reaches_next node m e after l k r w x y (subst (λ j. Reaches node (cycles_from j e) l k w x) f a) b

pub ends_in : (node : List ℕ → Stopped) (cycles n m cycle : ℕ) (e : ElementValue) (halt : Halt) (l k r w x y : Option (List ℕ)) → n ≡ m + 1
    → Reaches node (cycles_from n e) l k w x → e.kept.cycle ≡ cycle → cycle < cycles → Halts (cycle_dialog e) halt k r x y → Serves node cycles (end_in cycle halt) l r w y
ends_in node cycles n m cycle e halt l k r w x y same a at below b =
    let f : n ≡ ℕ.suc m = omega arith in
    ends_in_cycle node cycles m cycle e halt l k r w x y (subst (λ j. Reaches node (cycles_from j e) l k w x) f a) at below b

-- no row came yet
pub no_rows : (rows : List (List ℕ)) (n k : ℕ) → k < n → rows ≡ replicate n [] → slice_index_or rows k [] ≡ []
no_rows rows n k below e = rw e (get_or-replicate n k [] [] below)

-- ---- a whole call

pub as_fresh : (me cycles : ℕ) (table : TableValue) (e : ElementValue) (end : NodeEnd) (l m w x : Option (List ℕ)) → e ≡ fresh me table
    → Serves (cycles_from cycles e) cycles end l m w x → Serves (node me table cycles) cycles end l m w x
as_fresh me cycles table e end l m w x same a = subst (λ z. Serves (cycles_from cycles z) cycles end l m w x) same a

pub ends_in_as : (node : List ℕ → Stopped) (cycles n m cycle : ℕ) (e : ElementValue) (halt : Halt) (end : NodeEnd) (l k r w x y : Option (List ℕ)) → end ≡ end_in cycle halt → n ≡ m + 1
    → Reaches node (cycles_from n e) l k w x → e.kept.cycle ≡ cycle → cycle < cycles → Halts (cycle_dialog e) halt k r x y → Serves node cycles end l r w y
ends_in_as node cycles n m cycle e halt end l k r w x y is same a at below b =
    subst (λ z. Serves node cycles z l r w y) (sym is) (ends_in node cycles n m cycle e halt l k r w x y same a at below b)
