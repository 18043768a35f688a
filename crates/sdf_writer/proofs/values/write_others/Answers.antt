use Rattle.std.proofs.Common.{◌<◌, ◌∷◌, length, pos, arith}
use Rattle.std.proofs.lemmas.Result.{err_from_is_err_and}
use Rattle.delay_units.specs.Printing.{femto_text}
use Rattle.edge_io.specs.Pushing.{items_then, items_cut}
use Rattle.sdf_writer.proofs.Within.{within_at}
use Rattle.sdf_writer.proofs.values.write_others.Goals as goal

pub write_next-requires : goal.write_next-requires
write_next-requires g c = record { within = within_at c.args.others.now c.loop-time.time-index _ c.requires.within (omega arith) }

pub returns-in_err-write_next : goal.returns-in_err-write_next
returns-in_err-write_next g c =
    let p = err_from_is_err_and c.from_residual.result c.from_residual.ensures.1 in
    let below : c.loop-time.time-index < length c.args.others.now = omega arith in
    rw (p.1) record {
      pushes = items_cut (λ time. 58 ∷ femto_text time) c.args.buffer.now c.args.others.now c.loop-time.time-index (record { 0 = pos 0 }) below c.loop-time.invariant c.in_err-write_next.ensures.pushes;
    }

pub loop-time-preserved : goal.loop-time-preserved
loop-time-preserved g c =
    let below : c.loop-time.time-index < length c.args.others.now = omega arith in
    items_then (λ time. 58 ∷ femto_text time) c.args.buffer.now c.args.others.now c.loop-time.time-index (record { 0 = pos 0 }) below c.loop-time.invariant c.in_ok-write_next.ensures.pushes
