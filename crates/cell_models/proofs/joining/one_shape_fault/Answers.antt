use Rattle.cell_models.proofs.OneFault.{one_shape_fault_lem}
use Rattle.cell_models.proofs.joining.one_shape_fault.Goals as goal

-- src/joining.rt
pub returns : goal.returns
returns c = record { law = one_shape_fault_lem }
