use Rattle.bit_vote.specs.Agreed.{agreed}
use Rattle.trace_audit.specs.Trace.{frames_in}
use Rattle.trace_audit.specs.Links.{all_bytes}
use Rattle.trace_audit.specs.Told.{first_round}
use Rattle.trace_audit.proofs.Echoes.{holds_patterns}
use Rattle.trace_audit.proofs.told.Told.take_patterns.Goals as goal

pub returns : goal.returns
returns g c =
    holds_patterns g.row.N c.args.watched.now c.args.named.now (frames_in g.row.N (all_bytes c.args.frames.now)) _ c.requires.elements c.round_told-self.ensures
    (c.pattern_of-self.ensures (agreed (first_round c.args.named.now c.round_told-self.result)) c.all_agreed-rows.ensures) c.decide-self.ensures.decision c.decide-self.ensures.after c.decide-self.ensures.lines c.decide-self.ensures.earlier
