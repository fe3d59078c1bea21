use Rattle.std.proofs.Common.{◌≡◌, ℕ, [], ◌∷◌, arith}
use Rattle.std.proofs.lemmas.Bool.{eqb-true}
use Rattle.local_pattern.specs.Pattern.{read_entry, room}
use Rattle.local_pattern.proofs.spelling.is_room.Goals as goal

only_two : (a b c d : ℕ) → a ≡ 2 → b ≡ 0 → c ≡ 0 → d ≡ 0 → read_entry (a ∷ b ∷ c ∷ d ∷ []) ≡ room
unfolding read_entry
only_two a b c d two zero none nought = λ i. read_entry (two i ∷ zero i ∷ none i ∷ nought i ∷ [])

-- the bytes of the number are those of room
pub returns : goal.returns
returns c e =
    let word : c.from_le_bytes.result ≡ 2 = eqb-true c.from_le_bytes.result 2 e in
    let sum = c.from_le_bytes.ensures in
    only_two c.args.flags c.args.dest c.args.class c.args.source (omega arith) (omega arith) (omega arith) (omega arith)
