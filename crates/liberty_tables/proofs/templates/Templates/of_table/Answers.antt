use Rattle.std.proofs.Common.{rules, ◌≡◌, Some, None, false, codes, Contains}
use Rattle.std.specs.Prelude.{slice_get}
use Rattle.std.specs.Str.{bytes_eq}
use Rattle.liberty_groups.specs.Groups.{args_of}
use Rattle.liberty_groups.specs.Tables.{tree_of, group_at}
use Rattle.liberty_tables.specs.Templates.{template_of}
use Rattle.liberty_tables.specs.TemplateIndex.{IsNamedBy, IsUnder}
use Rattle.liberty_tables.proofs.HandingOn.{some_weaker, none_weaker}
use Rattle.liberty_tables.proofs.TemplateLemmas.{named_scalar, named_held, named_none}
use Rattle.liberty_tables.proofs.templates.Templates.of_table.Goals as goal

pub returns-then-eq-clause-named : goal.returns-then-eq-clause-named
returns-then-eq-clause-named c =
    let table = group_at c.args.tree.now c.args.table.0 in
    let at : slice_get (args_of table) 0 ≡ Some (codes "scalar") = search rules in
    λ called units are. named_scalar c.args.tree.now called units table c.args.self.now.built_in at are.built_in

pub returns-clause-named : goal.returns-clause-named
returns-clause-named c =
    let table = group_at c.args.tree.now c.args.table.0 in
    let name = c.bytes-name.result.now in
    let at : slice_get (args_of table) 0 ≡ Some c.bytes-name.result.now = search rules in
    let other : bytes_eq c.bytes-name.result.now (codes "scalar") ≡ false = search rules in
    λ called units are.
    some_weaker c.find.result (λ t. IsUnder c.args.self.now.index.args c.args.self.now.read.items name t.now) (λ t. IsNamedBy called units (tree_of c.args.tree.now) table t.now)
    (λ t under. named_held c.args.tree.now called units c.args.self.now table name t.now are at other under) c.find.ensures.found

pub returns-clause-absent : goal.returns-clause-absent
returns-clause-absent c =
    let table = group_at c.args.tree.now c.args.table.0 in
    let name = c.bytes-name.result.now in
    let at : slice_get (args_of table) 0 ≡ Some c.bytes-name.result.now = search rules in
    let other : bytes_eq c.bytes-name.result.now (codes "scalar") ≡ false = search rules in
    λ called units are.
    none_weaker c.find.result (¬ Contains c.args.self.now.index.args name) (template_of (tree_of c.args.tree.now) table ≡ None)
    (λ out. named_none c.args.tree.now called units c.args.self.now table name are at other out) c.find.ensures.absent
