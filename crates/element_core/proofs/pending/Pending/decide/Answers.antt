use Rattle.std.proofs.Common.{refl}
use Rattle.element_core.proofs.pending.Pending.decide.Goals as goal

pub returns-clause-differing : goal.returns-clause-differing
returns-clause-differing g c = record { count = λ s l e. refl; rest = λ s l count out. c.settle_all-self.ensures.alike s l out }
