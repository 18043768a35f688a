-- The times of an edge are within the bound.
use Rattle.std.proofs.Common.{drop}
use Rattle.sdf_writer.proofs.Within.{within_take, within_drop}
use Rattle.sdf_writer.proofs.cells.write_times.Goals as goal

pub write_numbers-requires : goal.write_numbers-requires
write_numbers-requires g c = record { within = within_take _ (drop c.in-Some.place c.args.times.now) (within_drop c.in-Some.place c.args.times.now c.requires.within) }
