use Rattle.std.proofs.Common.{◌≡◌, ◌∙◌, ap}
use Rattle.std.specs.Prelude.{insert}
use Rattle.std.specs.List.{prefix_len}
use Rattle.std.proofs.lemmas.List.Folds.{length-prefix_len}
use Rattle.sender_choice.specs.Pairs.{goes_before}
use Rattle.sender_choice.proofs.PairLaws.{insert-place}
use Rattle.sender_choice.proofs.index.put_in.Goals as goal

pub returns-clause-items : goal.returns-clause-items
returns-clause-items c =
    let counted = length-prefix_len (goes_before c.args.pair) c.args.pairs.now.items in
    let place : c.place_in-place.result ≡ prefix_len (goes_before c.args.pair) c.args.pairs.now.items = cc in
    c.insert.ensures.items ∙ ap (λ n. insert c.args.pairs.now.items n c.args.pair) place ∙ insert-place c.args.pair c.args.pairs.now.items
