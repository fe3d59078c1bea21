use Rattle.packet_format.proofs.Spelled.{one_packet}
use Rattle.packet_format.proofs.laws.one_spelling.Goals as goal

pub returns-clause-packet : goal.returns-clause-packet
returns-clause-packet c = one_packet
