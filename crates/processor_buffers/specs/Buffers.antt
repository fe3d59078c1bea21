-- The two queues of a port with their limits.
use Rattle.std.specs.Prelude.{ℕ, ◌≤◌}
use Rattle.processor_buffers.specs.Queues.{Queues}

-- The queues, and how many packets the output and the input hold at most.
pub record Buffers : Type 0 where
  pub queues : Queues
  pub outs : ℕ
  pub ins : ℕ

-- a limit of a buffer that holds so many
pub record IsLimit (limit held : ℕ) : Type 0 where
  pub positive : 1 ≤ limit
  pub most : limit ≤ 64
  pub enough : held ≤ limit

-- the buffers after a change of their queues
abbrev pub buffers_after : (Queues → Queues) → Buffers → Buffers
buffers_after change b = record b { queues = change b.queues }
