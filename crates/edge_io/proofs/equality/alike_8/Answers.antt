-- One number has one list of bytes.
use Rattle.std.proofs.Common.{rules}
use Rattle.edge_io.proofs.Words.{same_number_8}
use Rattle.edge_io.proofs.equality.alike_8.Goals as goal

pub returns : goal.returns
returns c =
    same_number_8 c.args.one.now c.args.other.now _ _ (search rules) (search rules) (search rules) (search rules) c.from_le_bytes.ensures c.from_le_bytes-2.ensures
