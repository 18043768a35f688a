-- A round trail is a module that contains itself.
use Rattle.std.proofs.Common.{sym, ◌∙◌, subst}
use Rattle.verilog_netlist.specs.NetModules.{module_at}
use Rattle.hierarchy.specs.Orders.{IsOrderEnd}
use Rattle.std.proofs.lemmas.Result.{err_from_is_err_and}
use Rattle.hierarchy.specs.Uses.{IsUseEnd}
use Rattle.hierarchy.specs.declared.uses.UseEnd.TheVariants.{Recursive}
use Rattle.hierarchy.proofs.Paths.{are_below}
use Rattle.hierarchy.proofs.Limiting.{memory_end, recursive_end, round_within}
use Rattle.hierarchy.proofs.uses.order_below.Goals as goal

pub lower_first-requires-clause-below : goal.lower_first-requires-clause-below
lower_first-requires-clause-below c = are_below c.args.modules.now c.args.lowers.now c.requires.lowers

pub module_name-requires : goal.module_name-requires
module_name-requires c =
    round_within c.args.modules.now c.args.top c.requires.within c.args.lowers.now c.requires.lowers c.in-Err-Recursive.m
    (subst (IsOrderEnd c.args.lowers.now c.args.top) c.in-Err-Recursive.field-0-is c.in-Err-Recursive.ensures.refused)

pub returns-in_err-name-in-Err-Recursive-clause-refused : goal.returns-in_err-name-in-Err-Recursive-clause-refused
returns-in_err-name-in-Err-Recursive-clause-refused c =
    let p = err_from_is_err_and c.from_residual.result c.from_residual.ensures.1 in
    rw (p.1, p.2) (memory_end c.args.modules.now c.args.top c.requires.within)

pub returns-in_ok-name-in-Err-Recursive-clause-refused : goal.returns-in_ok-name-in-Err-Recursive-clause-refused
returns-in_ok-name-in-Err-Recursive-clause-refused c =
    let modules = c.args.modules.now in
    let m = c.in-Err-Recursive.m in
    let same = c.in_ok-name-in-Err-Recursive.ensures ∙ c.module_name.ensures in
    subst (λ name. IsUseEnd modules (module_at modules c.args.top).name (Recursive name)) (sym same)
    (recursive_end modules c.args.top c.requires.within c.args.lowers.now c.requires.lowers m
    (subst (IsOrderEnd c.args.lowers.now c.args.top) c.in-Err-Recursive.field-0-is c.in-Err-Recursive.ensures.refused))

pub returns-in-Err-OutOfMemory-clause-refused : goal.returns-in-Err-OutOfMemory-clause-refused
returns-in-Err-OutOfMemory-clause-refused c = memory_end c.args.modules.now c.args.top c.requires.within
