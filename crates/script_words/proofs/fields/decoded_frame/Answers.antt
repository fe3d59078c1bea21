use Rattle.std.proofs.Common.{◌≡◌, ◌/◌, ◌++◌, length, take, refl}
use Rattle.std.proofs.lemmas.Result.{IfOk-at_ok}
use Rattle.hex.specs.Hex.{decode_of}
use Rattle.script_words.proofs.Numbers.{frame_decoded}
use Rattle.script_words.proofs.fields.decoded_frame.Goals as goal

pub returns-in-Ok : goal.returns-in-Ok
returns-in-Ok c =
    let written : c.try_extend_from_slice.new.self.items ≡ c.new-frame.result.items ++ take (length c.args.word.now / 2) c.decode_frame.new.bytes = IfOk-at_ok (λ _. c.try_extend_from_slice.new.self.items ≡ c.new-frame.result.items ++ take (length c.args.word.now / 2) c.decode_frame.new.bytes) c.unwrap.ensures c.try_extend_from_slice.ensures.ok in
    frame_decoded c.args.word.now (decode_of c.args.word.now) _ c.decode_frame.new.bytes c.try_extend_from_slice.new.self refl c.in-Ok.ensures (rw c.new-frame.ensures at written)
