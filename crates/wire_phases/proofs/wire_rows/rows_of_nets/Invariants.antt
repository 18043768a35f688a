use Rattle.std.proofs.Common.{◌+◌, ◌≤◌, take, Ok}
use Rattle.wire_phases.specs.WireNets.{RowsOf}
use Rattle.wire_phases.specs.SpefWork.{total_steps}
use Rattle.wire_phases.proofs.wire_rows.rows_of_nets.Given as goal

abbrev pub invariant-loop-s : goal.invariant-loop-s
invariant-loop-s g l = RowsOf 1 (record { design = l.fn.head.design; nets = take l.s l.fn.nets }) (Ok l.rows) × (l.steps ≤ l.initial.steps + total_steps 1 (take l.s l.fn.nets))
