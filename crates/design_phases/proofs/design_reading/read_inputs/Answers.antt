-- The walk through the design stops the phases.
use Rattle.std.proofs.Common.{ℕ, List}
use Rattle.design_phases.specs.DesignReading.{at_uses}
use Rattle.design_phases.specs.UsePhase.{UsesCells}
use Rattle.design_phases.specs.declared.design_reading.Inputs.{Inputs}
use Rattle.design_phases.proofs.LibraryLemmas.{lifted_stop}
use Rattle.design_phases.proofs.design_reading.read_inputs.Goals as goal

pub returns-in_err-used-clause-stops : goal.returns-in_err-used-clause-stops
returns-in_err-used-clause-stops g c =
    lifted_stop (List (List ℕ)) Inputs c.from_residual-in_err-used.result c.in_err-used.field-0.0 (UsesCells c.in_ok-modules.modules c.args.top.now) _ c.from_residual-in_err-used.ensures.1 c.in_err-used.ensures.follows
    (λ refusal uses. at_uses c.in_ok-modules.modules refusal c.in_ok-modules.ensures.follows uses)
