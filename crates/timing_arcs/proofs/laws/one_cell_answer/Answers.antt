use Rattle.timing_arcs.proofs.OneModel.{one_model_lem}
use Rattle.timing_arcs.proofs.OneAnswer.{no_fault_beside_lem, one_fault_lem}
use Rattle.timing_arcs.proofs.laws.one_cell_answer.Goals as goal

pub returns-clause-beside : goal.returns-clause-beside
returns-clause-beside c = no_fault_beside_lem

pub returns-clause-one : goal.returns-clause-one
returns-clause-one c = one_fault_lem

pub returns-clause-model : goal.returns-clause-model
returns-clause-model c = one_model_lem
