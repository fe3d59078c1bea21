-- What a packet spells is read, and what is read is spelled.
use Rattle.std.proofs.Common.{◌≡◌, ℕ, ◌+◌, ◌<◌, ◌≤◌, ◌^◌, Bool, true, false, cond, List, [], ◌∷◌, length, take, drop, refl, ap, sym, ◌∙◌, subst, arith}
use Rattle.std.specs.Prelude.{◌&&◌, ◌==◌, slice_index, Option, Some, None}
use Rattle.std.proofs.lemmas.Bool.{lt-ltb, ltb-true, and_parts}
use Rattle.arrayvec.specs.ArrayVec.{ArrayVec}
use lib.Pointwise.{bytes_decides}
use Rattle.ftpp_base.specs.declared.element.Proc.{Proc}
use Rattle.packet_format.specs.Numbers.{AreBytes, two_bytes, number_from}
use Rattle.packet_format.specs.Packets.{same_bytes}
use Rattle.packet_format.specs.declared.Packet.{Packet}
use Rattle.table_update.specs.declared.Update.{Update}
use Rattle.table_update.specs.declared.Update.TheVariants.{Mask, Admit, Timeouts, Dissolve, Form}
use Rattle.table_update.specs.Updates.{update_bytes, update_from, has_index, if_spelled, members_from, read_update}
use Rattle.table_update.specs.Grammar.{IsInRange}
use Rattle.table_update.proofs.Spelled.{items, take-items, timeouts_from, form_from, length-members}

-- These bytes are those of that update, one after another.
pub record IsWritten (bytes : List ℕ) (update : Update) : Type 0 where
  pub in_range : IsInRange update
  pub spelled : bytes ≡ update_bytes update

-- ---- each update is read back from its bytes

number-two : (n : ℕ) → n < 2 ^ 16 → number_from (two_bytes n) ≡ n
number-two n small = omega arith

-- a form, by its size
form_back : (vid ts tr : ℕ) (procs : List Proc) → length procs ≤ 4 → ts < 2 ^ 16 → tr < 2 ^ 16
    → (let members : ArrayVec Proc = record { items = procs } in update_from (update_bytes (Form vid members ts tr)) ≡ Some (Form vid members ts tr))
unfolding update_from
form_back vid ts tr [] few small fits = λ i. Some (Form vid (record { items = [] }) (number-two ts small i) (number-two tr fits i))
form_back vid ts tr (a ∷ []) few small fits = λ i. Some (Form vid (record { items = a ∷ [] }) (number-two ts small i) (number-two tr fits i))
form_back vid ts tr (a ∷ b ∷ []) few small fits = λ i. Some (Form vid (record { items = a ∷ b ∷ [] }) (number-two ts small i) (number-two tr fits i))
form_back vid ts tr (a ∷ b ∷ d ∷ []) few small fits = λ i. Some (Form vid (record { items = a ∷ b ∷ d ∷ [] }) (number-two ts small i) (number-two tr fits i))
form_back vid ts tr (a ∷ b ∷ d ∷ e ∷ []) few small fits = λ i. Some (Form vid (record { items = a ∷ b ∷ d ∷ e ∷ [] }) (number-two ts small i) (number-two tr fits i))
form_back vid ts tr (a ∷ b ∷ d ∷ e ∷ f ∷ more) few small fits = let no_such : ⊥ = omega arith in absurd no_such

update_back : (update : Update) → IsInRange update → update_from (update_bytes update) ≡ Some update
unfolding update_from
update_back (Mask vid member) small = refl
update_back (Admit vid member) small = refl
update_back (Timeouts vid ts tr) small = λ i. Some (Timeouts vid (number-two ts small.0 i) (number-two tr small.1 i))
update_back (Dissolve vid) small = refl
update_back (Form vid members ts tr) small = form_back vid ts tr members.items small.0 small.1 small.2

index_in_range : (update : Update) → IsInRange update → has_index update ≡ true
index_in_range (Mask vid member) small = lt-ltb member 4 small
index_in_range (Admit vid member) small = lt-ltb member 4 small
index_in_range (Timeouts vid ts tr) small = refl
index_in_range (Dissolve vid) small = refl
index_in_range (Form vid members ts tr) small = refl

same-refl : (bytes : List ℕ) → same_bytes bytes bytes ≡ true
same-refl bytes = (bytes_decides bytes bytes).1 refl

pub written_read : (packet : Packet) (update : Update) → IsWritten packet.bytes update → read_update packet ≡ Some update
written_read packet update h =
    ap (λ bytes. if_spelled bytes (update_from bytes)) h.spelled
    ∙ ap (if_spelled (update_bytes update)) (update_back update h.in_range)
    ∙ ap (λ b. cond (b && has_index update) (Some update) None) (same-refl (update_bytes update))
    ∙ ap (λ b. cond b (Some update) None) (index_in_range update h.in_range)

-- ---- what is read is in range

-- two bytes make a small number
pub two_small : (bytes : List ℕ) (i : ℕ) → AreBytes bytes → i + 2 ≤ length bytes → number_from (take 2 (drop i bytes)) < 2 ^ 16
two_small bytes i are fits =
    let first = are i in
    let second = are (i + 1) in
    let small : number_from (items bytes i 2) < 2 ^ 16 = omega arith in
    subst (λ l. number_from l < 2 ^ 16) (sym (take-items bytes 2 i fits)) small

-- an update that some bytes may be, and the one that they are
in_range_as : (v u : Update) → IsInRange v → Some v ≡ Some u → IsInRange u
in_range_as v u small same = let e : v ≡ u = cc in subst IsInRange e small

-- by the first byte
in_range_by : (bytes : List ℕ) (u : Update) (b1 b2 b3 b4 b5 : Bool) → length bytes ≡ 64 → AreBytes bytes → has_index u ≡ true
    → cond b1 (Some (Mask (slice_index bytes 1) (slice_index bytes 2)))
    (cond b2 (Some (Admit (slice_index bytes 1) (slice_index bytes 2)))
    (cond b3 (Some (timeouts_from bytes))
    (cond b4 (Some (Dissolve (slice_index bytes 1))) (cond b5 (Some (form_from bytes)) None)))) ≡ Some u
    → IsInRange u
in_range_by bytes u true b2 b3 b4 b5 long are index e =
    let v = Mask (slice_index bytes 1) (slice_index bytes 2) in
    let same : u ≡ v = cc in
    in_range_as v u (ltb-true (slice_index bytes 2) 4 (ap has_index (sym same) ∙ index)) e
in_range_by bytes u false true b3 b4 b5 long are index e =
    let v = Admit (slice_index bytes 1) (slice_index bytes 2) in
    let same : u ≡ v = cc in
    in_range_as v u (ltb-true (slice_index bytes 2) 4 (ap has_index (sym same) ∙ index)) e
in_range_by bytes u false false true b4 b5 long are index e =
    in_range_as (timeouts_from bytes) u (two_small bytes 2 are (omega arith), two_small bytes 4 are (omega arith)) e
in_range_by bytes u false false false true b5 long are index e = in_range_as (Dissolve (slice_index bytes 1)) u tt e
in_range_by bytes u false false false false true long are index e =
    let few : length (members_from bytes) ≤ 4 = let count = length-members bytes in omega arith in
    in_range_as (form_from bytes) u (few, two_small bytes 3 are (omega arith), two_small bytes 5 are (omega arith)) e
in_range_by bytes u false false false false false long are index e = cc

in_range_from : (bytes : List ℕ) (u : Update) → length bytes ≡ 64 → AreBytes bytes → has_index u ≡ true → update_from bytes ≡ Some u → IsInRange u
unfolding update_from
in_range_from bytes u long are index e =
    in_range_by bytes u (slice_index bytes 0 == 1) (slice_index bytes 0 == 2) (slice_index bytes 0 == 3) (slice_index bytes 0 == 4) (slice_index bytes 0 == 5) long are index e

-- what is read passed the test
taken : (b : Bool) (v u : Update) → cond b (Some v) None ≡ Some u → (b ≡ true) × (v ≡ u)
taken true v u e = (refl, cc)
taken false v u e = cc

spelled_by_update : (bytes : List ℕ) (u v : Update) → length bytes ≡ 64 → AreBytes bytes → update_from bytes ≡ Some v → if_spelled bytes (Some v) ≡ Some u → IsWritten bytes u
spelled_by_update bytes u v long are from e =
    let passed = taken (same_bytes bytes (update_bytes v) && has_index v) v u e in
    let both = and_parts (same_bytes bytes (update_bytes v)) (has_index v) passed.0 in
    let v_spelled : IsWritten bytes v = record {
      in_range = in_range_from bytes v long are both.1 from;
      spelled = (bytes_decides bytes (update_bytes v)).0 both.0;
    } in
    subst (IsWritten bytes) passed.1 v_spelled

spelled_where : (bytes : List ℕ) (u : Update) (o : Option Update) → length bytes ≡ 64 → AreBytes bytes → update_from bytes ≡ o → if_spelled bytes o ≡ Some u → IsWritten bytes u
spelled_where bytes u None long are from e = cc
spelled_where bytes u (Some v) long are from e = spelled_by_update bytes u v long are from e

pub read_written : (packet : Packet) (update : Update) → length packet.bytes ≡ 64 → AreBytes packet.bytes → read_update packet ≡ Some update → IsWritten packet.bytes update
read_written packet update long are e = spelled_where packet.bytes update (update_from packet.bytes) long are refl e
