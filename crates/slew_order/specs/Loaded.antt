-- What the slews of a loaded netlist come from.
use Rattle.std.specs.Prelude.{ℕ}
use Rattle.corner_set.specs.declared.corner.CornerSet.{Ghosts}
use Rattle.corner_set.specs.declared.choices.Beyond.{Beyond}
use Rattle.corner_set.specs.declared.choices.WireSlew.{WireSlew}
use Rattle.slew_order.specs.Timings.{SlewSource, source_of}
use Rattle.slew_order.specs.declared.loaded.LoadedNetlist.{LoadedNetlist}

abbrev pub source_in : {X Y : Type 0} {G : Ghosts X Y} → LoadedNetlist X Y G → ℕ → Beyond → WireSlew → ℕ → SlewSource
source_in loaded count beyond mode slew =
    source_of loaded.linked.now.netlist loaded.linked.now.cells count loaded.nets.now beyond mode slew
