use Rattle.std.proofs.Common.{◌≡◌, length, map, ◌∙◌, ap}
use Rattle.std.proofs.lemmas.List.{length-map}
use Rattle.scoreboard.specs.Board.{Scoreboard, ended, without_request}
use Rattle.scoreboard.specs.Steps.{ascend}
use Rattle.scoreboard.specs.Times.{line_number}
use Rattle.scoreboard.proofs.Kept.{numbers_without}
use Rattle.scoreboard.proofs.Ending.{refill_whole}
use Rattle.scoreboard.proofs.board.Scoreboard.end.Goals as goal

pub invariant_of-self : goal.invariant_of-self
invariant_of-self c =
    let vid = c.in-Some.vid in
    let board : Scoreboard = c.self.inside.lines.items in
    let without : c.end_request.new.lines ≡ without_request vid board = c.end_request.ensures ∙ ap (without_request vid) c.as_mut_slice.ensures.value in
    let width : length c.end_request.new.lines ≡ length board = ap (λ (lines : Scoreboard). length lines) without ∙ length-map board (ended vid) in
    ap (λ (lines : Scoreboard). ascend 0 (map line_number lines)) (refill_whole (length board) board c.end_request.new.lines width ∙ without)
    ∙ ap (ascend 0) (numbers_without vid board) ∙ c.self.invariant
