-- What the variables of the tables of delays are called (Liberty, variable_1 and variable_2 of a template).
use Rattle.std.specs.Prelude.{false, codes}
use Rattle.liberty_tables.specs.declared.table_names.TableNames.{TableNames}

-- the slew of an input, and the load of an output
abbrev pub delay_names : TableNames
delay_names = record { slew = codes "input_net_transition"; other = codes "total_output_net_capacitance"; other_is_time = false }
