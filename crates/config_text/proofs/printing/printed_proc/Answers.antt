use Rattle.std.proofs.Common.{ap, ◌∙◌, ◌∷◌, ◌++◌}
use Rattle.std.proofs.lemmas.Fmt.{decimal_digit}
use Rattle.toml.specs.Data.{string}
use Rattle.config_text.proofs.printing.printed_proc.Goals as goal

pub returns-in-Ok : goal.returns-in-Ok
returns-in-Ok c =
    let ne = decimal_digit c.args.p.ne c.requires.0 in
    let port = decimal_digit c.args.p.port c.requires.1 in
    c.from.ensures ∙ ap string (c.in-Ok.ensures.ok ∙ (λ i. ne i ++ (46 ∷ port i)))
