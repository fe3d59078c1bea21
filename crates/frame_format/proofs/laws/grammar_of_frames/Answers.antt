use Rattle.frame_format.proofs.ByField.{grammar_decoded, spelled_decoded, encoded_spelled}
use Rattle.frame_format.proofs.laws.grammar_of_frames.Goals as goal

pub returns-clause-grammar : goal.returns-clause-grammar
returns-clause-grammar c = grammar_decoded

pub returns-clause-decoded : goal.returns-clause-decoded
returns-clause-decoded c = spelled_decoded

pub returns-clause-encoded : goal.returns-clause-encoded
returns-clause-encoded c = encoded_spelled
