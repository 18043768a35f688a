-- The phase that walks through a design, for the cells that it uses (IEEE 1364).
use Rattle.std.specs.Prelude.{ℕ, List, Result, Ok, Err}
use Rattle.verilog_netlist.specs.NetModules.{NetModule}
use Rattle.hierarchy.specs.Uses.{AreCellsUsed, IsUseEnd}
use Rattle.hierarchy.specs.declared.uses.Count.{Count}
use Rattle.hierarchy.specs.declared.uses.Count.TheVariants as count
use Rattle.hierarchy.specs.declared.uses.UseEnd.TheVariants as end
use Rattle.refusals.specs.declared.refusal.LimitKind.{LimitKind}
use Rattle.refusals.specs.declared.refusal.LimitKind.TheVariants as limit
use Rattle.refusals.specs.declared.refusal.Refusal.{Refusal}
use Rattle.refusals.specs.declared.refusal.Refusal.TheVariants.{NoTop, Recursive, Limit}

-- the limit of what is counted
abbrev pub limit_of : Count → LimitKind
limit_of count.Depth = limit.Depth
limit_of count.Instances = limit.Instances
limit_of count.Names = limit.Names
limit_of count.Pins = limit.Pins

-- the module of this name uses these cells; or the file has no such module, or a module that it leads to contains itself, or a limit is
-- passed
pub data UsesCells (modules : List NetModule) (top : List ℕ) : Result (List (List ℕ)) Refusal → Type 0 where
  are_used : (cells : List (List ℕ)) → AreCellsUsed modules top cells → UsesCells modules top (Ok cells)
  no_top : IsUseEnd modules top end.NoTop → UsesCells modules top (Err (NoTop top))
  recursive : (name : List ℕ) → IsUseEnd modules top (end.Recursive name) → UsesCells modules top (Err (Recursive name))
  too_many : (counted : Count) → IsUseEnd modules top (end.TooMany counted) → UsesCells modules top (Err (Limit (limit_of counted)))
