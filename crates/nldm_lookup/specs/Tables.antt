-- Tables over two axes (Liberty, values of a lu_table): a value for each pair of their points.
use Rattle.std.specs.Prelude.{◌≡◌, ℕ, ◌+◌, ◌*◌, ◌≤◌, ◌≢◌, ℤ, pos, List, length, All, slice_index_or, unsigned_abs}
use Rattle.nldm_lookup.specs.Axes.{IsAxis, most}
use Rattle.nldm_lookup.specs.declared.table.Order.{Order}
use Rattle.nldm_lookup.specs.declared.table.Order.TheVariants.{SlewFirst, LoadFirst}
use Rattle.nldm_lookup.specs.declared.faults.TableFault.{TableFault}
use Rattle.nldm_lookup.specs.declared.faults.TableFault.TheVariants.{ValueCount, OutOfMemory}

-- the points of the axes, the variable whose index changes slowest, and the values in the order of the file
pub record TimingTable : Type 0 where
  pub slew : List ℕ
  pub load : List ℕ
  pub order : Order
  pub values : List ℤ

-- the place of the value at a point of the slew and one of the load
abbrev pub place_in : Order → TimingTable → ℕ → ℕ → ℕ
place_in SlewFirst table slew load = slew * length table.load + load
place_in LoadFirst table slew load = load * length table.slew + slew

-- the value there
abbrev pub value_at : TimingTable → ℕ → ℕ → ℤ
value_at table slew load = slice_index_or table.values (place_in table.order table slew load) (pos 0)

-- a value is a microsecond in size at most
abbrev pub IsSmall : ℤ → Type 0
IsSmall value = unsigned_abs value ≤ most

pub record IsTable (table : TimingTable) : Type 0 where
  pub slew : IsAxis table.slew
  pub load : IsAxis table.load
  pub count : length table.values ≡ length table.slew * length table.load
  pub small : All IsSmall table.values

-- Why some values are no table over two axes. Want of memory alone may come at any time.
pub data IsTableFault (slew load : List ℕ) (values : List ℤ) : TableFault → Type 0 where
  value_count : length values ≢ length slew * length load
      → IsTableFault slew load values (ValueCount (length slew * length load) (length values))
  no_memory : IsTableFault slew load values OutOfMemory
