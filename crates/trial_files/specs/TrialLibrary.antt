-- The library of a trial, in Liberty: an inverter whose input is 1 fF. Its delays grow with the load alone, and its transitions are fixed.
use Rattle.std.specs.Prelude.{ℕ, List, ◌++◌, codes}

-- the units, and the axes: slews from 1 to 100 ps, loads from 1 to 500,001 fF
abbrev pub library_opening : List ℕ
library_opening =
    codes "library (L) {\n"
    ++ (codes "  time_unit : \"1ps\";\n"
    ++ (codes "  capacitive_load_unit (1, ff);\n"
    ++ (codes "  lu_table_template (t22) {\n"
    ++ (codes "    variable_1 : input_net_transition;\n"
    ++ (codes "    variable_2 : total_output_net_capacitance;\n"
    ++ codes "    index_1 (\"1, 100\"); index_2 (\"1, 500001\"); }\n")))))

-- the inverter, and the end of the library
abbrev pub library_cell : List ℕ
library_cell =
    codes "  cell (INV) {\n"
    ++ (codes "    pin (A) { direction : input; capacitance : 1; }\n"
    ++ (codes "    pin (Z) { direction : output;\n"
    ++ (codes "      timing () { related_pin : \"A\"; timing_sense : negative_unate;\n"
    ++ (codes "        cell_rise (t22) { values (\"10, 20\", \"10, 20\"); }\n"
    ++ (codes "        cell_fall (t22) { values (\"12, 22\", \"12, 22\"); }\n"
    ++ (codes "        rise_transition (t22) { values (\"5, 5\", \"5, 5\"); }\n"
    ++ (codes "        fall_transition (t22) { values (\"6, 6\", \"6, 6\"); } } } }\n"
    ++ codes "}\n")))))))

unfoldable pub trial_library : List ℕ
trial_library = library_opening ++ library_cell
