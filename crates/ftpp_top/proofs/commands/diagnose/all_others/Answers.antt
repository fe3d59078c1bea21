use Rattle.std.proofs.Common.{◌≡◌, ◌∷◌, ◌++◌, [], length, sym, ap, ◌∙◌, arith}
use Rattle.std.proofs.lemmas.List.FromFn.{length-map-range_with_len, map-range_with_len_more}
use Rattle.ftpp_base.specs.Lists.{others}
use Rattle.ftpp_top.proofs.Diagnosed.{from_zero}
use Rattle.ftpp_top.proofs.commands.diagnose.all_others.Goals as goal

pub push-requires : goal.push-requires
push-requires g c =
    let long : length c.loop-place.suspects.items ≡ c.loop-place.place = ap length c.loop-place.invariant ∙ length-map-range_with_len (others g.row.N) 0 c.loop-place.place in
    (omega arith, omega (arith, long, c.requires, c.loop-place-test.true))

pub loop-place-preserved : goal.loop-place-preserved
loop-place-preserved g c =
    let one : c.all.result ≡ others g.row.N c.loop-place.place = cc in
    c.push.ensures.items
    ∙ (λ i. c.loop-place.invariant i ++ one i ∷ [])
    ∙ sym (map-range_with_len_more (others g.row.N) 0 c.loop-place.place c.loop-place.place (from_zero c.loop-place.place))
