-- Pieces that are read whole, or in part.
use Rattle.std.proofs.Common.{◌≡◌, ℕ, ◌+◌, ◌-◌, ◌<◌, ◌≤◌, true, false, nat_le, List, [], ◌++◌, take, drop, length, Option, refl, ap, sym, subst, ◌∙◌, append-nil, arith, length-drop}
use Rattle.std.proofs.lemmas.Bool.{le-leb, lt-leb}
use Rattle.std.proofs.lemmas.List.{take_all, length-take-le, take_at, drop_at, take-append-le, length-append}
use Rattle.std.proofs.Math.Seq.{take-add}
use borrow.Rule.Slice.PartMut.{put_mid, post_of, same_len_mid}
use Rattle.ftpp_outside.specs.Told.{Gives}
use Rattle.ftpp_outside.proofs.Told.{gives_both, adds_none}
use Rattle.element_node.specs.Dialog.{Dialog, ready, piece}
use Rattle.element_node.specs.Dialog.Outcome.{Whole, Waits}
use Rattle.element_node.specs.Progress.{Between, Halts}
use Rattle.element_node.specs.declared.Halt.{Halt}
use Rattle.element_node.proofs.Dialogs.{said_none}

-- n more items at the front of what was not yet filled
pub partly : (into part : List ℕ) (i k n : ℕ) → i ≤ length into → n ≤ length part → take (i + n) (put_mid i k into part) ≡ take i into ++ take n part
partly into part i k n front few =
    let wide : length (take i into) ≡ i = omega (arith, length-take-le i into front) in
    take-add i n (put_mid i k into part)
    ∙ (ap (λ x. x ++ take n (drop i (put_mid i k into part))) (take_at (take i into) (part ++ post_of i k into) i wide)
    ∙ (ap (λ x. take i into ++ take n x) (drop_at (take i into) (part ++ post_of i k into) i wide)
    ∙ ap (λ x. take i into ++ x) (take-append-le n part (post_of i k into) few)))

-- all bytes came
pub whole : (n : ℕ) (into : List ℕ) (l m w : Option (List ℕ)) → length into ≡ n → Gives l into m → Between (piece n) (ready into) l m w w
unfolding piece
whole n into l m w e g = record {
  read = into;
  wrote = [];
  given = g;
  added = adds_none w;
  leads = λ bytes. goes bytes;
} where
  goes : (bytes : List ℕ) → piece n (into ++ bytes) ≡ Whole into [] bytes
  goes bytes =
      let fits : nat_le n (length (into ++ bytes)) ≡ true = le-leb _ _ (omega (arith, length-append into bytes)) in
      rw (fits, take_at into bytes n e, drop_at into bytes n e) refl

-- more bytes are due
pub short : (n : ℕ) (read : List ℕ) → length read < n → piece n (read ++ []) ≡ Waits []
unfolding piece
short n read less =
    let below : nat_le n (length (read ++ [])) ≡ false = lt-leb _ _ (omega (arith, length-append read [])) in
    rw below refl

pub so_far : {A : Type 0} (p : Dialog A) (read : List ℕ) (l m w : Option (List ℕ)) → Gives l read m → Between p (λ bytes. p (read ++ bytes)) l m w w
so_far p read l m w g = record {
  read = read;
  wrote = [];
  given = g;
  added = adds_none w;
  leads = λ bytes. sym (said_none (p (read ++ bytes)));
}

-- a failed read took nothing
pub same_gift : (l m n : Option (List ℕ)) (read : List ℕ) → n ≡ m → Gives l read m → Gives l read n
same_gift l m n read e g = rw e g

-- a read that gave no bytes took nothing
pub no_more : (l m n : Option (List ℕ)) (read part : List ℕ) (count : ℕ) → count ≡ 0 → Gives l read m → Gives m (take count part) n → Gives l read n
no_more l m n read part count e a b = gives_both l m n read (take count part) read a b (rw e (sym (append-nil read)))

-- a part of the list is shorter
pub less_taken : (n k : ℕ) (into : List ℕ) → n < length into → length into ≡ k → length (take n into) < k
less_taken n k into less e = omega (arith, length-take-le n into (omega arith))

-- there is room behind what was filled
pub room_behind : (n : ℕ) (into : List ℕ) → n < length into → 0 < length (take (length into - n) (drop n into))
room_behind n into less = omega (arith, length-take-le (length into - n) (drop n into) (omega (arith, length-drop n into)), length-drop n into)

-- as long as before
pub same_length : (into part : List ℕ) (i : ℕ) → length part ≡ length (take (length into - i) (drop i into)) → length (put_mid i (length into - i) into part) ≡ length into
same_length into part i e = same_len_mid i (length into - i) into part e

-- filled to its end
pub to_the_end : (l m : Option (List ℕ)) (into : List ℕ) (n : ℕ) → length into ≤ n → Gives l (take n into) m → Gives l into m
to_the_end l m into n past g = subst (λ xs. Gives l xs m) (take_all n into past) g

pub fits_behind : (n : ℕ) (into : List ℕ) → n ≤ length into → n + length (take (length into - n) (drop n into)) ≡ length into
fits_behind n into front = omega (arith, length-take-le (length into - n) (drop n into) (omega (arith, length-drop n into)), length-drop n into)

-- a piece of as many bytes
pub as_many : (n m : ℕ) (h : Halt) (l k : Option (List ℕ)) → n ≡ m → ((w : Option (List ℕ)) → Halts (piece n) h l k w w) → (w : Option (List ℕ)) → Halts (piece m) h l k w w
as_many n m h l k e a w = subst (λ x. Halts (piece x) h l k w w) e (a w)
