use Rattle.packet_format.proofs.NumberLaws.{two_back, four_back}
use Rattle.packet_format.proofs.laws.numbers_as_bytes.Goals as goal

pub returns-clause-two_back : goal.returns-clause-two_back
returns-clause-two_back c = two_back

pub returns-clause-four_back : goal.returns-clause-four_back
returns-clause-four_back c = four_back
