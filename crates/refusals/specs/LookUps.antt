-- The refusal of a look-up in a table of an arc's edge.
use Rattle.std.specs.Prelude.{ℕ}
use Rattle.cell_models.specs.declared.edge.Edge.{Edge}
use Rattle.cell_models.specs.declared.edge.Part.{Part}
use Rattle.nldm_lookup.specs.declared.faults.LookupEnd.{LookupEnd}
use Rattle.nldm_lookup.specs.declared.faults.LookupEnd.TheVariants as end
use Rattle.refusals.specs.declared.look_ups.ArcNames.{ArcNames}
use Rattle.refusals.specs.declared.refusal.Refusal.{Refusal}
use Rattle.refusals.specs.declared.refusal.Refusal.TheVariants as refusal

-- at a corner, a table of a part has no value: it does not reach a quantity, or the value is past time
abbrev pub look_up_refusal : ArcNames → Edge → ℕ → Part → LookupEnd → Refusal
look_up_refusal names edge corner part (end.Outside past) =
    refusal.Outside names.instance names.from names.to edge corner part past.axis past.value
look_up_refusal names edge corner part end.PastTime = refusal.PastTime names.instance names.from names.to edge corner part
