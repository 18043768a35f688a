-- A layout as lists.
use Rattle.rc_tree.specs.declared.layout.NodeLayout.{NodeLayout}
use Rattle.rc_tree.specs.Filling.{Layout}

abbrev pub layout_of : NodeLayout → Layout
layout_of layout = record { parents = layout.parents.now; vias = layout.vias.now; spots = layout.spots.now; sinks = layout.sinks.now }
