-- The head of the SPEF files of a trial.
use Rattle.std.specs.Prelude.{ℕ, List, ◌++◌, codes}

-- capacitances are in femtofarads, and resistances in ohms
abbrev pub spef_head : List ℕ
spef_head =
    codes "*SPEF \"IEEE 1481-1998\"\n"
    ++ (codes "*DIVIDER /\n"
    ++ (codes "*DELIMITER :\n"
    ++ (codes "*C_UNIT 1 FF\n"
    ++ codes "*R_UNIT 1 OHM\n")))
