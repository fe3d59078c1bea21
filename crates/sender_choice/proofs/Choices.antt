-- The choice among held groups depends on the eligible groups alone.
use Rattle.std.proofs.Common.{◌≡◌, ℕ, true, List, Bool, sym, ◌∙◌}
use Rattle.std.specs.Prelude.{Option, Some, None}
use Rattle.ftpp_base.specs.Vids.{has_vid}
use Rattle.sender_choice.specs.Sinces.{Sinces, IsChoice}

-- maps that agree at each eligible group have one choice
pub choice_alike : (held other : Sinces) (eligible : List Bool) (o : Option (ℕ × ℕ)) → ((vid : ℕ) → has_vid eligible vid ≡ true → other vid ≡ held vid)
    → IsChoice held eligible o → IsChoice other eligible o
choice_alike held other eligible None same c = λ vid h. same vid h ∙ c vid h
choice_alike held other eligible (Some p) same c = record {
  held_since = same p.0 c.may_be_chosen ∙ c.held_since;
  may_be_chosen = c.may_be_chosen;
  least = λ vid later e h. c.least vid later (sym (same vid h) ∙ e) h;
}
