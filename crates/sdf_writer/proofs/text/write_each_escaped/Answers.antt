use Rattle.std.proofs.Common.{◌<◌, length, arith}
use Rattle.std.proofs.lemmas.Result.{err_from_is_err_and}
use Rattle.sdf_writer.specs.SdfText.{escaped}
use Rattle.edge_io.specs.Pushing.{items_then, items_cut}
use Rattle.sdf_writer.proofs.text.write_each_escaped.Goals as goal

pub returns-in_err-write_escaped_byte : goal.returns-in_err-write_escaped_byte
returns-in_err-write_escaped_byte g c =
    let p = err_from_is_err_and c.from_residual.result c.from_residual.ensures.1 in
    let below : c.loop-byte.byte-index < length c.args.text.now = omega arith in
    rw (p.1) record {
      pushes = items_cut escaped c.args.buffer.now c.args.text.now c.loop-byte.byte-index 0 below c.loop-byte.invariant c.in_err-write_escaped_byte.ensures.pushes;
    }

pub loop-byte-preserved : goal.loop-byte-preserved
loop-byte-preserved g c =
    let below : c.loop-byte.byte-index < length c.args.text.now = omega arith in
    items_then escaped c.args.buffer.now c.args.text.now c.loop-byte.byte-index 0 below c.loop-byte.invariant c.in_ok-write_escaped_byte.ensures.pushes
