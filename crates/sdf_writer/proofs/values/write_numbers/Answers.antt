use Rattle.std.proofs.Common.{Ok, Err}
use Rattle.std.proofs.lemmas.Result.{err_from_is_err_and}
use Rattle.sdf_writer.proofs.Lines.{first_text, others_text, numbers_of_slice}
use Rattle.edge_io.specs.Pushing.{pushes_stop, pushes_then}
use Rattle.sdf_writer.proofs.values.write_numbers.Goals as goal

pub returns-in_err-write_number : goal.returns-in_err-write_number
returns-in_err-write_number g c =
    let p = err_from_is_err_and c.from_residual.result c.from_residual.ensures.1 in
    rw (p.1, numbers_of_slice c.args.delay.now c.in-len1-up.len_at_least)
    (record { pushes = pushes_stop c.args.buffer.now (first_text c.args.delay.now) (others_text c.args.delay.now) c.in_err-write_number.ensures.pushes })

pub returns-in_err-write_others : goal.returns-in_err-write_others
returns-in_err-write_others g c =
    let p = err_from_is_err_and c.from_residual-in_err-write_others.result c.from_residual-in_err-write_others.ensures.1 in
    rw (p.1, numbers_of_slice c.args.delay.now c.in-len1-up.len_at_least)
    (record {
      pushes = pushes_then c.args.buffer.now (first_text c.args.delay.now) (others_text c.args.delay.now) {result = Err _} c.in_ok-write_number.ensures.pushes c.in_err-write_others.ensures.pushes;
    })

pub returns-in_ok-write_others : goal.returns-in_ok-write_others
returns-in_ok-write_others g c =
    rw (numbers_of_slice c.args.delay.now c.in-len1-up.len_at_least)
    (record {
      pushes = pushes_then c.args.buffer.now (first_text c.args.delay.now) (others_text c.args.delay.now) {result = Ok tt} c.in_ok-write_number.ensures.pushes c.in_ok-write_others.ensures.pushes;
    })
