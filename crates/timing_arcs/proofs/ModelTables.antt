-- The tables of a cell's model are tables: their axes rise, and each pair of points has its value.
use Rattle.std.proofs.Common.{◌≡◌, ℕ, zero, suc, ◌≤◌, List, [], ◌∷◌, Option, Some, None, ℤ, pos, Ok, arith}
use Rattle.std.specs.Prelude.{◌+◌, All, IfSome, slice_get}
use Rattle.std.specs.List.{AllByRecursion, AllZip}
use Rattle.std.proofs.lemmas.List.Elements.{All-cons, All-nil, All-from_recursion}
use Rattle.delay_units.specs.declared.numbers.Unit.{Unit}
use Rattle.liberty_groups.specs.Groups.{Attribute, Group}
use Rattle.nldm_lookup.specs.Axes.{most, IsAxis}
use Rattle.nldm_lookup.specs.Tables.{TimingTable, IsTable, IsSmall}
use Rattle.nldm_lookup.specs.declared.faults.Which.{Which}
use Rattle.nldm_lookup.specs.declared.faults.Which.TheVariants.{Slew, Load}
use Rattle.cell_models.specs.declared.cell.Arc.{Arc}
use Rattle.cell_models.specs.declared.cell.EdgeTables.{EdgeTables}
use Rattle.liberty_tables.specs.declared.library_units.LibraryUnits.{LibraryUnits}
use Rattle.timing_arcs.specs.CellModel.{IsModel}
use Rattle.cell_models.specs.Cells.{TimedCell}
use Rattle.timing_arcs.specs.DelayGroups.{ArcEntry, arcs_of, AreEdgeTables, no_edge, edge, IsArc}
use Rattle.timing_arcs.specs.DelayTables.{delay_names}
pub use Rattle.timing_arcs.specs.WholeTables.{AreTables, HasTables}
use Rattle.timing_arcs.specs.WholeTables.{WholeTables}
use Rattle.liberty_tables.specs.TableModel.{IsAxisOf, are_points, AxisMeans, of_readings, PointsMean, of_variable, of_none, ValuesMean, are_values, table_over, IsFull, TableMeans, is_table, TransitionMeans, settled}

axis_of : (readings : List ℤ) (points : List ℕ) → IsAxisOf readings (Ok points) → IsAxis points
axis_of readings points (are_points _ same is) = is

index_axis : (unit : Unit) (pieces : List (List ℕ)) (points : List ℕ) → AxisMeans unit pieces (Ok points) → IsAxis points
index_axis unit pieces points (of_readings readings _ are is) = axis_of readings points is

-- one point alone
sole_axis : IsAxis (0 ∷ [])
sole_axis = record {
  some = omega arith;
  few = omega arith;
  rising = λ place falls. no_next falls.before place falls.next falls.other falls.here;
  small = All-cons (λ point. point ≤ most) 0 [] (omega arith) (All-nil (λ point. point ≤ most));
}
  where
    no_next : (before place : ℕ) → place ≡ before + 1 → (other : ℤ) → slice_get (pos 0 ∷ []) place ≡ Some other → ⊥
    no_next before zero next other here = omega (arith, next)
    no_next before (suc place) next other here = cc

points_axis : (units : LibraryUnits) (key : List ℕ) (table template : List Attribute) (variable : Option Which) (points : List ℕ) → PointsMean delay_names units key table template variable (Ok points) → IsAxis points
points_axis units key table template _ points (of_variable which _ means) = index_axis _ _ points means
points_axis units key table template _ _ of_none = sole_axis

small_values : (unit : Unit) (pieces : List (List ℕ)) (values : List ℤ) → ValuesMean unit pieces (Ok values) → All IsSmall values
small_values unit pieces values (are_values _ are small) = small

over_axes : (which : Option Which) (first second : List ℕ) (values : List ℤ) → IsAxis first → IsAxis second → All IsSmall values
    → IsFull (table_over which first second values) → IsTable (table_over which first second values)
over_axes (Some Load) first second values one other small is = record { slew = other; load = one; count = is; small = small }
over_axes (Some Slew) first second values one other small is = record { slew = one; load = other; count = is; small = small }
over_axes None first second values one other small is = record { slew = one; load = other; count = is; small = small }

made_is_table : (library table : Group) (units : LibraryUnits) (made : TimingTable) → TableMeans delay_names library table units (Ok made) → IsTable made
made_is_table library table units _ (is_table template variables first second values axes means is) =
    over_axes variables.first first second values
    (points_axis _ _ _ _ variables.first first axes.begun.first_axis)
    (points_axis _ _ _ _ variables.second second axes.second_axis)
    (small_values _ _ values means) is

transition_is_table : (library table : Group) (units : LibraryUnits) (made : TimingTable) → TransitionMeans delay_names library table units (Ok made) → IsTable made
transition_is_table library table units made (settled _ means all) = made_is_table library table units made means

edge_tables : (library : Group) (delay slew : Option Group) (tables : Option EdgeTables) → AreEdgeTables library delay slew tables → IfSome tables AreTables
edge_tables library _ _ _ no_edge = tt
edge_tables library _ _ _ (edge {delay = d} {slew = s} {tables = t} {units = u} known means shows) =
    record { delay = made_is_table library d u t.delay means; slew = transition_is_table library s u t.slew shows }

arcs_have : (library : Group) (names : List (List ℕ)) (entries : List ArcEntry) (arcs : List Arc) → AllZip (IsArc library names) entries arcs → AllByRecursion HasTables arcs
arcs_have library names [] [] all = tt
arcs_have library names [] (arc ∷ arcs) all = absurd all
arcs_have library names (entry ∷ entries) [] all = tt
arcs_have library names (entry ∷ entries) (arc ∷ arcs) all =
    (record { rise = edge_tables library _ _ arc.rise all.0.rise; fall = edge_tables library _ _ arc.fall all.0.fall }, arcs_have library names entries arcs all.1)

pub model_tables : (library : Group) (name : List ℕ) (cell : TimedCell) → IsModel library name cell → AllByRecursion HasTables cell.arcs
model_tables library name cell is = arcs_have library _ (arcs_of is.group) cell.arcs is.arcs

pub whole_tables : WholeTables
whole_tables library name cell is = All-from_recursion HasTables cell.arcs (model_tables library name cell is)
