use Rattle.std.proofs.Common.{◌≡◌, ◌++◌, length, map}
use Rattle.script_words.specs.Lines.{words_of}
use Rattle.script_words.proofs.lines.words.Given as goal

abbrev pub invariant-loop : goal.invariant-loop
invariant-loop l = (
    (map (λ w. w.now) l.words.items ++ words_of l.rest ≡ words_of l.line) ×
    (length (map (λ w. w.now) l.words.items) ≡ l.counter)
    )
