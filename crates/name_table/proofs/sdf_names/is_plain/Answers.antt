-- The table is held against the definition at each of the 256 bytes, by computing.
use Rattle.std.proofs.Common.{refl, arith}
use Rattle.edge_io.specs.ByteTables.{agree_below, from_table}
use Rattle.name_table.specs.declared.sdf_names.TheConstants.{PLAIN_BYTES}
use Rattle.name_table.specs.SdfNames.{is_plain}
use Rattle.name_table.proofs.sdf_names.is_plain.Goals as goal

pub returns : goal.returns
unfolding agree_below
returns c = from_table PLAIN_BYTES is_plain c.args.byte (omega arith) refl
