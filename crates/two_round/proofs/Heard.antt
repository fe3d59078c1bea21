-- What one element heard of a sender, word by word: so its result is the agreed value.
use Rattle.std.proofs.Common.{◌≡◌, ◌≢◌, ℕ, ◌<◌, Bool, true, false, cond, refl, ap, sym, ◌∙◌}
use Rattle.std.specs.Prelude.{◌==◌}
use Rattle.std.proofs.lemmas.Bool.{eqb-true, eqb-false}
use Rattle.ftpp_base.specs.Lists.{cell_at}
use Rattle.bit_vote.specs.Vote.{Cell}
use Rattle.bit_vote.specs.Agreed.{FirstRound, agreed}
use Rattle.two_round.specs.Echoes.{Echoes, relayed_at, relay_to, result_for}
use Rattle.two_round.specs.Agreement.{IsExchange, HasHeard}
use Rattle.two_round.proofs.Agreement.{own_word, said_by, agreement-words}

-- its own word, or that of another
word_by : (b : Bool) (wide n : ℕ) (round : FirstRound) (said : ℕ → ℕ → Cell) (x : Echoes) (sender k : ℕ)
    → IsExchange wide n round said x.me sender → HasHeard n round said sender x → k < n → k ≢ sender → (k == x.me) ≡ b
    → cond b (cell_at x.copies sender) (relayed_at x k sender) ≡ said_by round (said x.me sender) sender k
word_by true wide n round said x sender k is heard l apart e =
    heard.copy ∙ sym (own_word round said x.me sender is.fault_free) ∙ ap (λ j. relay_to round said x.me j sender) (sym (eqb-true k x.me e))
word_by false wide n round said x sender k is heard l apart e = heard.relays k l (eqb-false k x.me e) apart

pub agreement-heard : (wide n : ℕ) (round : FirstRound) (said : ℕ → ℕ → Cell) (x : Echoes) (sender : ℕ)
    → IsExchange wide n round said x.me sender → HasHeard n round said sender x → result_for x sender ≡ agreed round sender
agreement-heard wide n round said x sender is heard =
    agreement-words wide n round x (said x.me sender) sender is.size is.among heard.count is.heard is.own is.rogue
    (λ k l apart. word_by (k == x.me) wide n round said x sender k is heard l apart refl)
