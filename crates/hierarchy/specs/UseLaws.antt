-- What two answers on the cells of one design have in common.
use Rattle.std.specs.Prelude.{◌≡◌, List, length, ⊤}
use Rattle.verilog_netlist.specs.NetModules.{NetModule, module_at}
use Rattle.verilog_netlist.specs.SoundModules.{Differ}
use Rattle.hierarchy.specs.declared.uses.UseEnd.{UseEnd}
use Rattle.hierarchy.specs.declared.uses.UseEnd.TheVariants.{NoTop, Recursive, TooMany, OutOfMemory}

-- the names of the modules differ, as those of each file do
abbrev pub NamesDiffer : List NetModule → Type 0
NamesDiffer modules = Differ (length modules) (λ m. (module_at modules m).name)

-- the same end, but for which module is named as one that contains itself, and where memory is short
abbrev pub IsSameEnd : UseEnd → UseEnd → Type 0
IsSameEnd NoTop NoTop = ⊤
IsSameEnd NoTop (Recursive other) = ⊥
IsSameEnd NoTop (TooMany other) = ⊥
IsSameEnd NoTop OutOfMemory = ⊤
IsSameEnd (Recursive one) NoTop = ⊥
IsSameEnd (Recursive one) (Recursive other) = ⊤
IsSameEnd (Recursive one) (TooMany other) = ⊥
IsSameEnd (Recursive one) OutOfMemory = ⊤
IsSameEnd (TooMany one) NoTop = ⊥
IsSameEnd (TooMany one) (Recursive other) = ⊥
IsSameEnd (TooMany one) (TooMany other) = one ≡ other
IsSameEnd (TooMany one) OutOfMemory = ⊤
IsSameEnd OutOfMemory other = ⊤
