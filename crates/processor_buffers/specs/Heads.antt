-- The packet of an output's head, as it is sent.
use Rattle.std.specs.Prelude.{ℕ, List, Option, Some, None, if◌then◌else◌}
use Rattle.packet_format.specs.declared.Descriptor.{Descriptor}
use Rattle.processor_buffers.specs.Queues.{Posted, carries}

-- the bytes of a head that carries the request
abbrev pub packet_of_head : Descriptor → Option Posted → Option (List ℕ)
packet_of_head desc None = None
packet_of_head desc (Some posted) = if carries (Some posted) desc then Some posted.1.bytes else None
