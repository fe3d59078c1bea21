use Rattle.sender_choice.proofs.Scanned.{empty_places}
use Rattle.sender_choice.proofs.scan.ScanChooser.new.Goals as goal

pub returns : goal.returns
returns c = λ i vid. empty_places 256 vid i
