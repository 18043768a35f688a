-- The row of a module goes behind those before.
use Rattle.hierarchy.proofs.Numbers.{rows_more}
use Rattle.hierarchy.proofs.instance_cells.number_all.Goals as goal

pub loop-m-preserved : goal.loop-m-preserved
loop-m-preserved c = rows_more c.args.modules.now (λ row. row.items) c.loop-m.numbering.names c.number_instances.new.numbering.names c.loop-m.m
    c.loop-m.rows.items c.push.new.items.items c.in_ok-row.row c.loop-m.invariant c.number_instances.ensures.grows c.in_ok-row.ensures.numbers
    c.in_ok-push.ensures.ok
