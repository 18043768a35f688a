-- The text of the delays of a cell's arcs.
use Rattle.std.specs.Prelude.{ℕ, List, [], ◌∷◌, ◌++◌, codes, flat_map}
use Rattle.delay_units.specs.Printing.{signed_fixed_text, atto_text}
use Rattle.refusals.specs.RefusalLine.{edge_text}
use Rattle.command_rows.specs.declared.arc_rows.ArcRow.{ArcRow}

-- the names of the pins of an arc, and the edge
abbrev pub names_text : ArcRow → List ℕ
names_text row = row.from ++ (codes " " ++ (row.to ++ (codes " " ++ edge_text row.edge)))

-- the delay in picoseconds with three decimals, and the transition with six
abbrev pub times_text : ArcRow → List ℕ
times_text row = codes " " ++ (signed_fixed_text 3 row.delay ++ (codes " " ++ (atto_text row.slew ++ 10 ∷ [])))

-- the line of an edge of an arc
abbrev pub arc_line : ArcRow → List ℕ
arc_line row = names_text row ++ times_text row

-- the lines of a cell's arcs
abbrev pub arcs_text : List ArcRow → List ℕ
arcs_text rows = flat_map arc_line rows
