use Rattle.std.proofs.Common.{Ok, Err, sym, subst, ◌∙◌}
use Rattle.liberty_groups.specs.Tables.{tree_of, group_at}
use Rattle.liberty_tables.specs.TableModel.{TableMeans, table_over, no_template, no_variables, no_first_axis, no_second_axis, no_values}
use Rattle.liberty_tables.specs.FullTables.{IsFullTable}
use Rattle.liberty_tables.specs.TemplateIndex.{IsReadAt}
use Rattle.liberty_tables.proofs.Fronts.{zip_length}
use Rattle.liberty_tables.proofs.HandingOn.{handed_on}
use Rattle.liberty_tables.proofs.TableLemmas.{filled}
use Rattle.liberty_tables.proofs.TemplateLemmas.{no_known, laid_out, first_of, second_of}
use Rattle.liberty_tables.proofs.tables.build.Goals as goal

pub of_table-requires-clause-even : goal.of_table-requires-clause-even
of_table-requires-clause-even c =
    let are = c.requires.templates in
    sym (zip_length (IsReadAt c.args.tree.now c.args.called.now c.args.units.now) c.args.templates.now.index.groups.items c.args.templates.now.read.items are.read) ∙ are.indexed.even

pub returns-in_default-clause-fault : goal.returns-in_default-clause-fault
returns-in_default-clause-fault c = no_template (c.in_default.ensures.absent c.args.called.now c.args.units.now c.requires.templates)

pub returns-in_default-read-clause-fault : goal.returns-in_default-read-clause-fault
returns-in_default-read-clause-fault c =
    let called = c.args.called.now in
    let units = c.args.units.now in
    let library = tree_of c.args.tree.now in
    let table = group_at c.args.tree.now c.args.group.0 in
    let by = c.in-Some.ensures.named called units c.requires.templates in
    no_variables by.attributes by.named (no_known called units library table c.in-Some.read.now by c.in_default-read.is)

pub returns-in_err-first-clause-fault : goal.returns-in_err-first-clause-fault
returns-in_err-first-clause-fault c =
    let called = c.args.called.now in
    let units = c.args.units.now in
    let library = tree_of c.args.tree.now in
    let table = group_at c.args.tree.now c.args.group.0 in
    let by = c.in-Some.ensures.named called units c.requires.templates in
    handed_on c.from_residual.result c.in_err-first.field-0.0 (λ fault. TableMeans called library table units (Err fault)) c.from_residual.ensures.1
    (no_first_axis by.attributes c.in-Some-read.template.variables c.in_err-first.field-0.0 (laid_out called units library table c.in-Some.read.now by c.in-Some-read.template c.in-Some-read.is) (c.in_err-first.ensures by.attributes (first_of called units library table c.in-Some.read.now by c.in-Some-read.template c.in-Some-read.is)))

pub returns-in_err-second-clause-fault : goal.returns-in_err-second-clause-fault
returns-in_err-second-clause-fault c =
    let called = c.args.called.now in
    let units = c.args.units.now in
    let library = tree_of c.args.tree.now in
    let table = group_at c.args.tree.now c.args.group.0 in
    let by = c.in-Some.ensures.named called units c.requires.templates in
    handed_on c.from_residual-in_err-second.result c.in_err-second.field-0.0 (λ fault. TableMeans called library table units (Err fault)) c.from_residual-in_err-second.ensures.1
    (no_second_axis by.attributes c.in-Some-read.template.variables c.in_ok-first.first c.in_err-second.field-0.0
    (record { laid_out = laid_out called units library table c.in-Some.read.now by c.in-Some-read.template c.in-Some-read.is; first_axis = c.in_ok-first.ensures by.attributes (first_of called units library table c.in-Some.read.now by c.in-Some-read.template c.in-Some-read.is) })
    (c.in_err-second.ensures by.attributes (second_of called units library table c.in-Some.read.now by c.in-Some-read.template c.in-Some-read.is)))

pub returns-in_err-values-clause-fault : goal.returns-in_err-values-clause-fault
returns-in_err-values-clause-fault c =
    let called = c.args.called.now in
    let units = c.args.units.now in
    let library = tree_of c.args.tree.now in
    let table = group_at c.args.tree.now c.args.group.0 in
    let by = c.in-Some.ensures.named called units c.requires.templates in
    handed_on c.from_residual-in_err-values.result c.in_err-values.field-0.0 (λ fault. TableMeans called library table units (Err fault)) c.from_residual-in_err-values.ensures.1
    (no_values by.attributes c.in-Some-read.template.variables c.in_ok-first.first c.in_ok-second.second c.in_err-values.field-0.0
    (record { begun = record { laid_out = laid_out called units library table c.in-Some.read.now by c.in-Some-read.template c.in-Some-read.is; first_axis = c.in_ok-first.ensures by.attributes (first_of called units library table c.in-Some.read.now by c.in-Some-read.template c.in-Some-read.is) }; second_axis = c.in_ok-second.ensures by.attributes (second_of called units library table c.in-Some.read.now by c.in-Some-read.template c.in-Some-read.is) })
    c.in_err-values.ensures.fault)

pub returns-in_err-table-clause-fault : goal.returns-in_err-table-clause-fault
returns-in_err-table-clause-fault c =
    let called = c.args.called.now in
    let units = c.args.units.now in
    let library = tree_of c.args.tree.now in
    let table = group_at c.args.tree.now c.args.group.0 in
    let by = c.in-Some.ensures.named called units c.requires.templates in
    handed_on c.from_residual-in_err-table.result c.in_err-table.field-0.0 (λ fault. TableMeans called library table units (Err fault)) c.from_residual-in_err-table.ensures.1
    (filled called library table units by.attributes c.in-Some-read.template.variables c.in_ok-first.first c.in_ok-second.second c.in_ok-values.values.items (Err c.in_err-table.field-0.0)
    (record { begun = record { laid_out = laid_out called units library table c.in-Some.read.now by c.in-Some-read.template c.in-Some-read.is; first_axis = c.in_ok-first.ensures by.attributes (first_of called units library table c.in-Some.read.now by c.in-Some-read.template c.in-Some-read.is) }; second_axis = c.in_ok-second.ensures by.attributes (second_of called units library table c.in-Some.read.now by c.in-Some-read.template c.in-Some-read.is) })
    c.in_ok-values.ensures.means
    (subst (λ values. IsFullTable (table_over c.in-Some-read.template.variables.first c.in_ok-first.first c.in_ok-second.second values) (Err c.in_err-table.field-0.0)) c.as_slice.ensures.value c.in_err-table.ensures.table))

pub returns-clause-table : goal.returns-clause-table
returns-clause-table c =
    let called = c.args.called.now in
    let units = c.args.units.now in
    let library = tree_of c.args.tree.now in
    let table = group_at c.args.tree.now c.args.group.0 in
    let by = c.in-Some.ensures.named called units c.requires.templates in
    filled called library table units by.attributes c.in-Some-read.template.variables c.in_ok-first.first c.in_ok-second.second c.in_ok-values.values.items (Ok c.in_ok-table.table)
    (record { begun = record { laid_out = laid_out called units library table c.in-Some.read.now by c.in-Some-read.template c.in-Some-read.is; first_axis = c.in_ok-first.ensures by.attributes (first_of called units library table c.in-Some.read.now by c.in-Some-read.template c.in-Some-read.is) }; second_axis = c.in_ok-second.ensures by.attributes (second_of called units library table c.in-Some.read.now by c.in-Some-read.template c.in-Some-read.is) })
    c.in_ok-values.ensures.means
    (subst (λ values. IsFullTable (table_over c.in-Some-read.template.variables.first c.in_ok-first.first c.in_ok-second.second values) (Ok c.in_ok-table.table)) c.as_slice.ensures.value c.in_ok-table.ensures.table)
