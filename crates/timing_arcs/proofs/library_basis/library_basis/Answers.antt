use Rattle.std.proofs.Common.{◌∷◌, []}
use Rattle.timing_arcs.specs.CellFaults.{load_unit, time_unit, no_time_unit, no_load_unit, time_known}
use Rattle.timing_arcs.proofs.Refusals.{refused_at_once, refused_behind, sound_one}
use Rattle.timing_arcs.proofs.library_basis.library_basis.Goals as goal

pub returns-in_default-clause-refused : goal.returns-in_default-clause-refused
returns-in_default-clause-refused c = refused_at_once (load_unit ∷ []) (no_time_unit c.in_default.ensures.none)

pub returns-in_default-load_unit-clause-refused : goal.returns-in_default-load_unit-clause-refused
returns-in_default-load_unit-clause-refused c =
    refused_behind (time_unit ∷ []) (load_unit ∷ []) (sound_one (time_known c.in-Some.ensures.some)) (refused_at_once [] (no_load_unit c.in_default-load_unit.ensures.none))
