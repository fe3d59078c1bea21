use Rattle.std.proofs.Common.{◌≡◌, ◌<◌, List, length, filter, sym, ◌∙◌, ap, subst, arith}
use Rattle.sender_choice.specs.declared.index.Pair.{Pair}
use Rattle.sender_choice.specs.Sinces.{with_since, HasRoomFor}
use Rattle.sender_choice.specs.Pairs.{InOrder, sinces_of, is_other, put_in_order}
use Rattle.sender_choice.proofs.PairLaws.{InOrder-filter, InOrder-put, IsNew-filter, sinces_of-set}
use Rattle.sender_choice.proofs.PairCounts.{room_for}
use Rattle.sender_choice.proofs.index.IndexChooserChooser.set.Goals as goal

pub put_in-requires : goal.put_in-requires
put_in-requires c =
    let HasRoom : List Pair → Type 0 = λ some. HasRoomFor (sinces_of some) c.args.vid in
    let IsShort : List Pair → Type 0 = λ some. length some < 40 in
    subst IsShort (sym c.take_out.ensures) (room_for c.args.vid c.self.inside.pairs.items c.self.invariant.0 c.self.invariant.1 (subst HasRoom (sym c.self.view_is) c.requires))

pub invariant_of-self : goal.invariant_of-self
invariant_of-self c =
    let x : Pair = record { since = c.args.since; vid = c.args.vid } in
    let left : List Pair = filter (is_other c.args.vid) c.self.inside.pairs.items in
    let same : c.put_in.new.pairs.items ≡ put_in_order x left = c.put_in.ensures.items ∙ ap (put_in_order x) c.take_out.ensures in
    let byte : c.args.vid < 256 = omega arith in
    (c.put_in.ensures.fits, subst InOrder (sym same) (InOrder-put x left byte (InOrder-filter (is_other c.args.vid) c.self.inside.pairs.items c.self.invariant.1) (IsNew-filter x c.self.inside.pairs.items)))

pub returns : goal.returns
returns c =
    let x : Pair = record { since = c.args.since; vid = c.args.vid } in
    let pairs : List Pair = c.self.inside.pairs.items in
    ap sinces_of (c.put_in.ensures.items ∙ ap (put_in_order x) c.take_out.ensures)
    ∙ (λ i other. sinces_of-set x pairs other i)
    ∙ ap (λ (some : List Pair). with_since (sinces_of some) c.args.vid c.args.since) c.self.view_is
