use Rattle.std.proofs.Common.{◌≡◌, ◌++◌, take, map}
use Rattle.packet_format.specs.declared.acts.Act.TheVariants.{Post}
use Rattle.workload.proofs.acts.push_posts.Given as goal

-- the posts so far
abbrev pub invariant-loop-proc : goal.invariant-loop-proc
invariant-loop-proc l = l.acts.items ≡ l.initial.acts.items ++ map (λ p. (l.cycle, Post p l.desc l.packet)) (take l.proc-index l.posting)
