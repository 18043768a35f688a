-- What the code keeps of where a quantity lies on an axis.
use Rattle.nldm_lookup.specs.Betweens.{Between}
use Rattle.nldm_lookup.specs.declared.between.Between.{Between as Kept}

abbrev pub between_of : Kept → Between
between_of kept = record { place = kept.place; low = kept.low; high = kept.high }
