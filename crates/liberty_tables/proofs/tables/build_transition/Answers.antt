use Rattle.liberty_groups.specs.Tables.{tree_of, group_at}
use Rattle.liberty_tables.specs.TableModel.{TransitionMeans, no_transition, below_zero, settled}
use Rattle.liberty_tables.proofs.HandingOn.{answered}
use Rattle.liberty_tables.proofs.tables.build_transition.Goals as goal

pub returns-in_err-built : goal.returns-in_err-built
returns-in_err-built c =
    record {
      means = answered c.from_residual.result c.in_err-built.field-0.0 (TransitionMeans c.args.called.now (tree_of c.args.tree.now) (group_at c.args.tree.now c.args.group.0) c.args.units.now) c.from_residual.ensures.1
          (no_transition c.in_err-built.field-0.0 c.in_err-built.ensures.fault);
    }

pub returns-then-built : goal.returns-then-built
returns-then-built c = record { means = settled c.in_ok-built.built.table c.in_ok-built.ensures.table (c.in_ok-built.ensures.settled.0 c.if-built.true) }

pub returns-else-built : goal.returns-else-built
returns-else-built c = record { means = below_zero c.in_ok-built.built.table c.in_ok-built.ensures.table (λ all. let holds = c.in_ok-built.ensures.settled.1 all in let not_so = c.if-built.false in cc) }
