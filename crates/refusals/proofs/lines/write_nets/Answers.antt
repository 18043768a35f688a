-- One name after another.
use Rattle.std.proofs.lemmas.Result.{err_from_is_err_and}
use Rattle.edge_io.specs.Writing.{items_cut}
use Rattle.refusals.specs.RefusalLine.{spaced}
use Rattle.refusals.proofs.lines.write_nets.Goals as goal

pub returns-in_err-write_2 : goal.returns-in_err-write_2
returns-in_err-write_2 g c =
    let p = err_from_is_err_and c.from_residual.result c.from_residual.ensures.1 in
    rw (p.1) record {
      writes = items_cut spaced c.args.nets.now c.loop-net.net-index c.net-item.result c.loop-net-test.true c.net-item.is c.loop-net.invariant (rw (c.bytes.ensures) at c.in_err-write_2.ensures.writes);
    }
