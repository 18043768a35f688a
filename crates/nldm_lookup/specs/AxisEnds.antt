-- Why one axis refuses a quantity.
use Rattle.std.specs.Prelude.{ℕ, ◌<◌, List}
use Rattle.nldm_lookup.specs.Axes.{most}
use Rattle.nldm_lookup.specs.Betweens.{IsPassed}
use Rattle.corner_set.specs.declared.choices.Beyond.{Beyond}
use Rattle.corner_set.specs.declared.choices.Beyond.TheVariants.{Refuse, Extend}
use Rattle.nldm_lookup.specs.declared.faults.LookupEnd.{LookupEnd}
use Rattle.nldm_lookup.specs.declared.faults.LookupEnd.TheVariants.{Outside, PastTime}
use Rattle.nldm_lookup.specs.declared.faults.Which.{Which}

pub data IsAxisEnd (points : List ℕ) (axis : Which) (quantity : ℕ) : Beyond → LookupEnd → Type 0 where
  refused : IsPassed points quantity → IsAxisEnd points axis quantity Refuse (Outside (record { axis = axis; value = quantity }))
  far : IsPassed points quantity → most < quantity → IsAxisEnd points axis quantity Extend PastTime
