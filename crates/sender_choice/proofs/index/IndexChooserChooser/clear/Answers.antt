use Rattle.std.proofs.Common.{List, length, arith, sym, ◌∙◌, ap, subst}
use Rattle.sender_choice.specs.declared.index.Pair.{Pair}
use Rattle.sender_choice.specs.Sinces.{without_since}
use Rattle.sender_choice.specs.Pairs.{InOrder, sinces_of, is_other}
use Rattle.sender_choice.proofs.PairLaws.{InOrder-filter, sinces_of-filter}
use Rattle.sender_choice.proofs.PairCounts.{fewer}
use Rattle.sender_choice.proofs.index.IndexChooserChooser.clear.Goals as goal

pub invariant_of-self : goal.invariant_of-self
invariant_of-self c =
    let less = fewer (is_other c.args.vid) c.self.inside.pairs.items in
    let same = ap (λ (some : List Pair). length some) c.take_out.ensures in
    (omega arith, subst InOrder (sym c.take_out.ensures) (InOrder-filter (is_other c.args.vid) c.self.inside.pairs.items c.self.invariant.1))

pub returns : goal.returns
returns c =
    ap sinces_of c.take_out.ensures ∙ (λ i other. sinces_of-filter c.args.vid c.self.inside.pairs.items other i)
    ∙ ap (λ (pairs : List Pair). without_since (sinces_of pairs) c.args.vid) c.self.view_is
