-- The last 1,024 of a list with more behind it.
use Rattle.std.proofs.Common.{◌≡◌, ◌+◌, ◌-◌, List, [], ◌∷◌, ◌++◌, length, drop, ap, sym, ◌∙◌, arith, append-nil, append_assoc, length-append, length-drop, drop-drop}
use Rattle.std.proofs.lemmas.List.{drop-append-le}
use Rattle.syndrome_log.specs.declared.Syndrome.{Syndrome}
use Rattle.syndrome_log.specs.Log.{last_kept, after_pushes, KeepsLastOfBoth}

-- the last of what is held, with more behind it, are the last of all
pub last_kept-append : KeepsLastOfBoth
last_kept-append all more =
    let gone = length all - 1024 in
    let both = all ++ more in
    let together : gone + (length (drop gone both) - 1024) ≡ length both - 1024 =
    let cut = length-drop gone both in let whole = length-append all more in omega arith in
    ap last_kept (sym (drop-append-le gone all more (omega arith)))
    ∙ drop-drop (length (drop gone both) - 1024) gone both
    ∙ ap (λ n. drop n both) together

-- entries one by one leave the last of all of them, with what was there before them
pub after_pushes-last_kept : (log pushed : List Syndrome) → after_pushes (last_kept log) pushed ≡ last_kept (log ++ pushed)
after_pushes-last_kept log [] = ap last_kept (sym (append-nil log))
after_pushes-last_kept log (s ∷ pushed) =
    ap (λ held. after_pushes held pushed) (last_kept-append log (s ∷ []))
    ∙ after_pushes-last_kept (log ++ s ∷ []) pushed
    ∙ ap last_kept (append_assoc log (s ∷ []) pushed)
