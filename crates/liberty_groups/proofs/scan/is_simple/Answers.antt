-- The table is held against the definition at each of the 256 bytes, by computing.
use Rattle.std.proofs.Common.{refl, arith}
use Rattle.edge_io.specs.ByteTables.{agree_below, from_table}
use Rattle.liberty_groups.specs.declared.scan.TheConstants.{SIMPLE_BYTES}
use Rattle.liberty_groups.specs.Cuts.{is_simple}
use Rattle.liberty_groups.proofs.scan.is_simple.Goals as goal

pub returns : goal.returns
unfolding agree_below
returns c = from_table SIMPLE_BYTES is_simple c.args.byte (omega arith) refl
