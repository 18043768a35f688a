use Rattle.std.proofs.Common.{codes, refl, subst}
use Rattle.std.specs.Prelude.{IfOk, IfErr}
use Rattle.liberty_groups.specs.Groups.{groups_of}
use Rattle.liberty_groups.specs.Tables.{tree_of, group_at}
use Rattle.liberty_tables.proofs.HandingOn.{ok_weaker, err_weaker}
use Rattle.liberty_tables.specs.declared.faults.CellFault.TheVariants.{NoSuchCell}
use Rattle.timing_arcs.specs.BuiltParts.{IsModelOf}
use Rattle.timing_arcs.specs.CellFaults.{no_such_cell, unit_questions, cell_questions, IsRefusal, IsCellFault}
use Rattle.timing_arcs.specs.CellModel.{IsModel}
use Rattle.timing_arcs.specs.LibraryBasis.{IsBasis}
use Rattle.timing_arcs.proofs.ModelLemmas.{model_is, refused_units, refused_group, units_sound, found_group}
use Rattle.timing_arcs.proofs.library.Library.build_cell.Goals as goal

pub returns-in_default-clause-refused : goal.returns-in_default-clause-refused
returns-in_default-clause-refused c =
    let tree = c.self.inside.tree in
    let library = tree_of tree in
    subst (λ t. IsCellFault (tree_of t) c.args.name.now NoSuchCell) c.self.view_is
    (no_such_cell (found_group library library c.args.name.now c.bytes.result.now _ refl c.bytes.ensures (c.in_default.ensures.first tree (codes "cell") library c.self.invariant.cells)))

pub build_group-requires-clause-group : goal.build_group-requires-clause-group
build_group-requires-clause-group c = c.in-Some.ensures.within c.self.inside.tree (codes "cell") (groups_of (tree_of c.self.inside.tree)) c.self.invariant.cells

pub build_group-requires-clause-basis : goal.build_group-requires-clause-basis
build_group-requires-clause-basis c = subst (λ b. IfOk b (IsBasis c.self.inside.tree)) c.in-Ok.is c.self.invariant.known

pub returns-in-Ok-clause-ok : goal.returns-in-Ok-clause-ok
returns-in-Ok-clause-ok c =
    let tree = c.self.inside.tree in
    let library = tree_of tree in
    let group = group_at tree c.in-Some.group.0 in
    let found = found_group library library c.args.name.now c.bytes.result.now _ refl c.bytes.ensures (c.in-Some.ensures.first tree (codes "cell") library c.self.invariant.cells) in
    let basis = subst (λ b. IfOk b (IsBasis tree)) c.in-Ok.is c.self.invariant.known in
    subst (λ t. IfOk c.build_group.result (IsModel (tree_of t) c.args.name.now)) c.self.view_is
    (ok_weaker c.build_group.result (IsModelOf library group) (IsModel library c.args.name.now)
    (λ model is. model_is library c.args.name.now group model found (units_sound library c.in-Ok.basis.units basis.known) is) c.build_group.ensures.ok)

pub returns-in-Ok-clause-refused : goal.returns-in-Ok-clause-refused
returns-in-Ok-clause-refused c =
    let tree = c.self.inside.tree in
    let library = tree_of tree in
    let group = group_at tree c.in-Some.group.0 in
    let found = found_group library library c.args.name.now c.bytes.result.now _ refl c.bytes.ensures (c.in-Some.ensures.first tree (codes "cell") library c.self.invariant.cells) in
    let basis = subst (λ b. IfOk b (IsBasis tree)) c.in-Ok.is c.self.invariant.known in
    subst (λ t. IfErr c.build_group.result (IsCellFault (tree_of t) c.args.name.now)) c.self.view_is
    (err_weaker c.build_group.result (IsRefusal library (cell_questions group)) (IsCellFault library c.args.name.now)
    (λ fault refused. refused_group library c.args.name.now group fault found (units_sound library c.in-Ok.basis.units basis.known) refused) c.build_group.ensures.refused)

pub returns-in-Err-clause-refused : goal.returns-in-Err-clause-refused
returns-in-Err-clause-refused c =
    let tree = c.self.inside.tree in
    let library = tree_of tree in
    let group = group_at tree c.in-Some.group.0 in
    let found = found_group library library c.args.name.now c.bytes.result.now _ refl c.bytes.ensures (c.in-Some.ensures.first tree (codes "cell") library c.self.invariant.cells) in
    subst (λ t. IsCellFault (tree_of t) c.args.name.now c.in-Err.fault) c.self.view_is
    (refused_units library c.args.name.now group c.in-Err.fault found (subst (λ b. IfErr b (IsRefusal library unit_questions)) c.in-Err.is c.self.invariant.refused))
