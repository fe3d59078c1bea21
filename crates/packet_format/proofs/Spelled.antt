-- The bytes of a delivered packet tell which packet it is.
use Rattle.std.proofs.Common.{◌≡◌, ℕ, ◌/◌, ◌%◌, ◌^◌, ◌<◌, List, sym, ◌∙◌, ap, arith, drop, get_or}
use Rattle.packet_format.specs.declared.Delivered.{Delivered}
use Rattle.packet_format.specs.Packets.{IsDelivered, delivered_bytes}

-- four bytes are those of one number
pub one_number : (m n : ℕ) → m < 2 ^ 32 → n < 2 ^ 32 → m / 16777216 % 256 ≡ n / 16777216 % 256 → m / 65536 % 256 ≡ n / 65536 % 256 → m / 256 % 256 ≡ n / 256 % 256 → m % 256 ≡ n % 256 → m ≡ n
one_number m n small fits a b c d = omega arith

at_place : (xs ys : List ℕ) (i : ℕ) → xs ≡ ys → get_or xs i 0 ≡ get_or ys i 0
at_place xs ys i e = ap (λ l. get_or l i 0) e

-- bytes are one delivered packet at most
pub one_packet : (xs : List ℕ) (d e : Delivered) → IsDelivered xs d → IsDelivered xs e → d ≡ e
one_packet xs d e h k =
    let same : delivered_bytes d ≡ delivered_bytes e = sym h.spelled ∙ k.spelled in
    let cycle : d.cycle ≡ e.cycle = one_number d.cycle e.cycle h.cycle k.cycle (at_place _ _ 0 same) (at_place _ _ 1 same) (at_place _ _ 2 same) (at_place _ _ 3 same) in
    let from : d.from ≡ e.from = at_place _ _ 4 same in
    let class : d.class ≡ e.class = at_place _ _ 5 same in
    let dest : d.dest ≡ e.dest = at_place _ _ 6 same in
    let bytes : d.packet.bytes ≡ e.packet.bytes = ap (drop 7) same in
    λ i. record { cycle = cycle i; from = from i; class = class i; dest = dest i; packet = record { bytes = bytes i } }
