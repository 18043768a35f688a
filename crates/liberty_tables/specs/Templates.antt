-- The templates of a library (Liberty, lu_table_template), and the variables of a table's axes.
use Rattle.std.specs.Prelude.{ℕ, List, [], Option, Some, None, codes, slice_get, if◌then◌else◌}
use Rattle.std.specs.Str.{bytes_eq}
use Rattle.std.specs.Option.{option_map, option_and_then}
use Rattle.liberty_groups.specs.Groups.{Attribute, Group, args_of, attributes_of}
use Rattle.nldm_lookup.specs.declared.faults.Which.{Which}
use Rattle.nldm_lookup.specs.declared.faults.Which.TheVariants.{Slew, Load}
use Rattle.liberty_tables.specs.Attributes.{simple_of}
use Rattle.liberty_tables.specs.Library.{group_for}
use Rattle.liberty_tables.specs.declared.table_names.TableNames.{TableNames}
use Rattle.liberty_tables.specs.declared.templates.Variables.{Variables}

-- the attributes of the template of a name in a library: of the first one, and none of `scalar`, which is built in
abbrev pub template_named : Group → List ℕ → Option (List Attribute)
template_named library name =
    if bytes_eq name (codes "scalar") then Some [] else option_map attributes_of (group_for (codes "lu_table_template") name library)

-- the attributes of the template that a table names by its first argument
abbrev pub template_of : Group → Group → Option (List Attribute)
template_of library table = option_and_then (template_named library) (slice_get (args_of table) 0)

-- the axis of a variable, by what the variables are called; the other one has the load's place
abbrev pub axis_of : TableNames → List ℕ → Option Which
axis_of called name = if bytes_eq name called.slew then Some Slew else (if bytes_eq name called.other then Some Load else None)

abbrev pub sole : Option Which → Option Variables
sole None = None
sole (Some which) = Some (record { first = Some which; second = None })

-- two variables, which are not the same
abbrev pub both : Option Which → Option Which → Option Variables
both (Some Slew) (Some Load) = Some (record { first = Some Slew; second = Some Load })
both (Some Load) (Some Slew) = Some (record { first = Some Load; second = Some Slew })
both _ _ = None

-- The variables by `variable_1`, `variable_2` and `variable_3`. The two may stand in either order, one alone, or neither. All else
-- is unknown: another variable, the same twice, a second one alone, and any third.
abbrev pub variables_by : TableNames → Option (List ℕ) → Option (List ℕ) → Option (List ℕ) → Option Variables
variables_by called None None None = Some (record { first = None; second = None })
variables_by called (Some one) None None = sole (axis_of called one)
variables_by called (Some one) (Some two) None = both (axis_of called one) (axis_of called two)
variables_by _ _ _ _ = None

-- the variables of a template
abbrev pub variables_of : TableNames → List Attribute → Option Variables
variables_of called template = variables_by called (simple_of (codes "variable_1") template) (simple_of (codes "variable_2") template)
    (simple_of (codes "variable_3") template)
