use Rattle.std.proofs.Common.{◌≡◌, drop, map}
use Rattle.ftpp_outside.specs.Files.{named_bytes, bytes_of}
use Rattle.ftpp_outside.proofs.mem_shelf.named.Given as goal

abbrev pub invariant-loop-it : goal.invariant-loop-it
invariant-loop-it l = bytes_of (map named_bytes (drop l.it-index l.files)) l.name ≡ bytes_of (map named_bytes l.files) l.name
