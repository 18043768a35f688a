-- The definitions at a small design of two levels: an inverter in a module that stands twice in the top, one behind the other.
use Rattle.std.proofs.Common.{◌≡◌, ℕ, List, [], ◌∷◌, map, None, refl}
use Rattle.std.specs.Prelude.{codes}
use Rattle.verilog_netlist.specs.NetModules.{NetModule, NetConnection}
use Rattle.verilog_netlist.specs.declared.net_names.Way.TheVariants as way
use Rattle.verilog_netlist.specs.declared.runs.Bit.TheVariants.{Wire}
use Rattle.verilog_netlist.specs.declared.runs.Run.{Run}
use Rattle.hierarchy.specs.Walks.{walk, visits, cells_met}
use Rattle.netlist_link.specs.FlatBits.{OnNet, flat_bit, nets}
use Rattle.netlist_link.specs.FlatNames.{path_text, net_text, instance_text}

abbrev whole : ℕ → List Run
whole name = record { first = Wire name 0; count = 1 } ∷ []

abbrev joined : List ℕ → ℕ → NetConnection
joined port name = record { port = port; runs = whole name }

abbrev inner : NetModule
inner = record {
  name = codes "s";
  names = record { text = codes "i"; way = way.In; range = None } ∷ record { text = codes "o"; way = way.Out; range = None } ∷ [];
  instances = record { cell = codes "INV"; name = codes "g"; connections = joined (codes "A") 0 ∷ joined (codes "Z") 1 ∷ [] } ∷ [];
}

abbrev outer : NetModule
outer = record {
  name = codes "top";
  names = record { text = codes "a"; way = way.In; range = None } ∷ record { text = codes "z"; way = way.Out; range = None }
      ∷ record { text = codes "m"; way = way.Inner; range = None } ∷ [];
  instances = record { cell = codes "s"; name = codes "u"; connections = joined (codes "i") 0 ∷ joined (codes "o") 2 ∷ [] }
      ∷ record { cell = codes "s"; name = codes "v"; connections = joined (codes "i") 2 ∷ joined (codes "o") 1 ∷ [] } ∷ [];
}

abbrev design : List NetModule
design = inner ∷ outer ∷ []

visited : visits design 1 ≡ [] ∷ (0 ∷ []) ∷ (1 ∷ []) ∷ []
unfolding walk
visited = refl

instances : map (instance_text design 1) (cells_met design 1) ≡ codes "u/g" ∷ codes "v/g" ∷ []
unfolding walk path_text
instances = refl

net_names : map (net_text design 1) (nets design 1) ≡ codes "a" ∷ codes "z" ∷ codes "m" ∷ []
unfolding walk path_text
net_names = refl

-- the output of the first inverter is on the wire of the top
on_wire : flat_bit design 1 (0 ∷ []) 1 0 ≡ OnNet (record { path = []; name = 2; bit = 0 })
unfolding flat_bit
on_wire = refl
