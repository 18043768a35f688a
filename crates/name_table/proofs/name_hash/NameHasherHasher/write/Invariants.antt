use Rattle.std.proofs.Common.{◌≡◌, take, fold}
use Rattle.name_table.specs.NameHash.{step}
use Rattle.name_table.proofs.name_hash.NameHasherHasher.write.Given as goal

abbrev pub invariant-loop-byte : goal.invariant-loop-byte
invariant-loop-byte l = l.state ≡ fold step l.fn.self.state (take l.byte-index l.bytes)
