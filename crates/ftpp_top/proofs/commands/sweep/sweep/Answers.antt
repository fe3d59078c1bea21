use Rattle.std.proofs.Common.{◌≡◌, ℕ, List, refl, ◌∙◌, ap, subst}
use Rattle.std.specs.List.{flat_map, range_with_len}
use Rattle.ftpp_outside.specs.Told.{Adds}
use Rattle.command_steps.specs.Ends.{AddsPrefix}
use Rattle.ftpp_top.specs.Commands.{line_of, line_from}
use Rattle.ftpp_top.proofs.Soaks.{swept_lines}
use Rattle.ftpp_top.proofs.commands.sweep.sweep.Goals as goal

pub returns-in-Ok-write_lines-clause-ends : goal.returns-in-Ok-write_lines-clause-ends
returns-in-Ok-write_lines-clause-ends g c =
    let same : flat_map line_of c.as_slice.result.now ≡ flat_map (line_from c.args.cycles) (range_with_len c.args.start c.args.count) = ap (flat_map line_of) (c.as_slice.ensures.value ∙ c.in-Ok.ensures.outcomes) ∙ swept_lines c.args.cycles (range_with_len c.args.start c.args.count) in
    (refl, subst (λ (xs : List ℕ). Adds (g.K.Sink.written c.args.out.now) xs (g.K.Sink.written c.write_lines.new.out)) same c.in-Ok-write_lines.ensures.ok)

pub returns-clause-ends : goal.returns-clause-ends
returns-clause-ends g c =
    let same : flat_map line_of c.as_slice.result.now ≡ flat_map (line_from c.args.cycles) (range_with_len c.args.start c.args.count) = ap (flat_map line_of) (c.as_slice.ensures.value ∙ c.in-Ok.ensures.outcomes) ∙ swept_lines c.args.cycles (range_with_len c.args.start c.args.count) in
    subst (λ (xs : List ℕ). AddsPrefix (g.K.Sink.written c.args.out.now) xs (g.K.Sink.written c.write_lines.new.out)) same c.in-Err.ensures.prefix
