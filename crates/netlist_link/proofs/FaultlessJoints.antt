-- Joints are held only where no connection has a fault.
use Rattle.std.proofs.Common.{ℕ, List, length, sym, ap, ◌∙◌, arith}
use Rattle.std.specs.Prelude.{flat_map}
use Rattle.std.proofs.lemmas.List.{take_all}
use Rattle.netlist_link.specs.Designs.{OverCells, HoldsJoints, walk_of, faults_in}
use Rattle.netlist_link.specs.FlatBitTables.{IsFaultless}
use Rattle.netlist_link.specs.declared.checking.Design.{Design}

pub faultless_joints : (d : Design) (starts numbers places : List ℕ)
    → OverCells d (HoldsJoints d (length (walk_of d)) starts numbers places) → IsFaultless d
faultless_joints d starts numbers places joints = λ cells is distinct.
    ap (flat_map (faults_in cells d)) (sym (take_all (length (walk_of d)) (walk_of d) (omega arith))) ∙ (joints cells is distinct).faultless
