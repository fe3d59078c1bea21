use Rattle.std.proofs.Common.{◌-◌, length, take, drop, ap, ◌∙◌, sym}
use Rattle.fault_script.specs.Players.{edits_of, kept_of}
use Rattle.fault_script.specs.Held.{kept_by_round}
use Rattle.fault_script.specs.Edited.{edited_frame, all_before}
use Rattle.fault_script.proofs.Played.{unplayed, played, cut_in_order}
use Rattle.fault_script.proofs.players.PlayerAdversary.frame.Goals as goal

pub returns-then-is_empty : goal.returns-then-is_empty
returns-then-is_empty c =
    unplayed (edits_of c.args.self.now) (kept_of c.args.self.now) c.args.at c.args.to c.args.own.now.items c.copy_frame.new.into.items
    (sym c.is_empty.ensures ∙ c.if-is_empty.true) (ap (λ f. f.items) c.copy_frame.ensures)

pub play-requires-clause-in_order : goal.play-requires-clause-in_order
play-requires-clause-in_order c = cut_in_order c.seek.new.self.edits.now c.seek.new.self.first c.seek.new.self.in_order

pub returns : goal.returns
returns c =
    let player = c.seek.new.self in
    let at = c.args.at in
    played (edits_of c.args.self.now) player.edits.now (kept_of c.args.self.now) (kept_by_round player.kept) at c.args.to player.first
    c.args.own.now.items c.play.new.frame.items c.repeated-earlier.result.now
    (sym c.is_empty.ensures ∙ c.if-is_empty.false) (ap (λ b. b.now) c.seek.ensures.edits)
    (ap (λ k. kept_by_round k at.round) c.seek.ensures.kept ∙ c.keep.ensures.kept)
    (λ other h. ap (λ k. kept_by_round k other) c.seek.ensures.kept ∙ c.keep.ensures.others other h)
    c.repeated-earlier.ensures.bytes
    (ap (λ n. all_before n (take player.first player.edits.now)) (sym c.seek.ensures.cycle) ∙ player.behind)
    (c.play.ensures ∙ ap (λ f. edited_frame (take (length player.edits.now - player.first) (drop player.first player.edits.now)) at c.args.to c.repeated-earlier.result.now f.items) c.copy_frame.ensures)
