use Rattle.std.proofs.Common.{◌≡◌, ◌⊎◌, ◌<◌, ◌+◌, ◌*◌, ℕ, inl, inr, sym, ap, subst, arith}
use Rattle.script_text.specs.Reading.{Plan, plan_of}
use Rattle.command_steps.specs.Loading.{Run}
use Rattle.ftpp_top.specs.Playing.{IsReady}
use Rattle.ftpp_top.proofs.trials.played_totals.Goals as goal
use prog.Memory.{up}

-- a playing of four or five elements fits in memory: it holds a report, whose rows are as long as there are elements
playing_fits : (N : ℕ) → (N ≡ 4) ⊎ (N ≡ 5)
    → up 8 (10304 + up 8 (6096 + up 8 (up 1 (up 8 (0 + up 8 (0 + 5 * up 8 (up 8 (up 1 (up 1 (up 1 (up 4 (4 + up 1 (0 + N * 40)) + 16) + 65) + 4) + 3) + 520))) + 8) + 0))) < 9223372036854775808
playing_fits N few = elim few [ inl e ↦ rw e (omega arith) | inr e ↦ rw e (omega arith) ]

pub sum_up-requires : goal.sum_up-requires
sum_up-requires g c =
    let p = c.in_ok-playing.playing in
    let same = ap (λ s. plan_of s) c.in_ok-playing.ensures.script in (
      playing_fits g.row.N c.requires.size,
      (
        c.requires.size,
        (
          c.in_ok-playing.ensures.start,
          subst (λ (plan : Plan). IsReady g.row.N plan p.cluster p.acts.now p.rejoins.now) (sym same) c.in_ok-playing.ensures.ready,
        ),
      ),
    )

pub returns : goal.returns
returns g c honest =
    let r : Run = record { table = c.args.table.now; plan = plan_of c.args.script.now } in
    c.sum_up.ensures honest r (sym (ap (λ s. plan_of s) c.in_ok-playing.ensures.script)) c.in_ok-playing.ensures.stands
