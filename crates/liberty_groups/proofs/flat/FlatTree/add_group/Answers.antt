-- A group more, behind those before it.
use Rattle.std.proofs.Common.{◌++◌, ◌∷◌, [], ℕ, List, length, map, sym, ap, ◌∙◌, subst, arith}
use Rattle.liberty_groups.specs.TableRows.{row_of, attributes_in, AreTables}
use Rattle.liberty_groups.specs.declared.rows.GroupId.{GroupId}
use Rattle.liberty_groups.specs.declared.rows.GroupRow.{GroupRow}
use Rattle.liberty_groups.specs.declared.rows.AttributeRow.{AttributeRow}
use Rattle.liberty_groups.proofs.Pushing.{are_more, rows_are_more}
use Rattle.liberty_groups.proofs.flat.FlatTree.add_group.Goals as goal

pub returns-in-Ok-clause-sound : goal.returns-in-Ok-clause-sound
returns-in-Ok-clause-sound c =
    let names : List (List ℕ) = c.args.self.now.names in
    let texts : List (List ℕ) = c.args.self.now.texts.items in
    let row : GroupRow = record { name = c.args.group.name; args = c.args.group.args; attributes = c.in_ok-add_all.field-0; children = c.in_ok-add_all-2.field-0 } in
    subst (λ (groups : List GroupRow). AreTables names texts c.add_all.new.table.items c.add_all-2.new.table.items groups) (sym c.in-Ok.ensures.items)
    (subst (λ (children : List GroupId). AreTables names texts c.add_all.new.table.items children (c.args.self.now.groups.items ++ row ∷ [])) (sym c.in_ok-add_all-2.ensures.items)
    (subst (λ (attributes : List AttributeRow). AreTables names texts attributes (c.args.self.now.children.items ++ c.args.group.children.items) (c.args.self.now.groups.items ++ row ∷ [])) (sym c.in_ok-add_all.ensures.items)
    (are_more names texts c.args.self.now.attributes.items c.args.group.attributes.items c.args.self.now.children.items c.args.group.children.items c.args.self.now.groups.items row
    c.requires.sound c.requires.group.args c.requires.group.own
    c.in_ok-add_all.ensures.from (c.in_ok-add_all.ensures.end ∙ ap length c.in_ok-add_all.ensures.items)
    c.in_ok-add_all-2.ensures.from (c.in_ok-add_all-2.ensures.end ∙ ap length c.in_ok-add_all-2.ensures.items)
    c.requires.group.inner (let few = c.in_ok-id.ensures.few in let e = c.len.ensures in omega arith))))

pub returns-in-Ok-clause-rows : goal.returns-in-Ok-clause-rows
returns-in-Ok-clause-rows c =
    let names : List (List ℕ) = c.args.self.now.names in
    let texts : List (List ℕ) = c.args.self.now.texts.items in
    let row : GroupRow = record { name = c.args.group.name; args = c.args.group.args; attributes = c.in_ok-add_all.field-0; children = c.in_ok-add_all-2.field-0 } in
    ap (λ (groups : List GroupRow). map (row_of texts (attributes_in names texts c.add_all.new.table.items) c.add_all-2.new.table.items) groups) c.in-Ok.ensures.items
    ∙ ap (λ (children : List GroupId). map (row_of texts (attributes_in names texts c.add_all.new.table.items) children) (c.args.self.now.groups.items ++ row ∷ [])) c.in_ok-add_all-2.ensures.items
    ∙ ap (λ (attributes : List AttributeRow). map (row_of texts (attributes_in names texts attributes) (c.args.self.now.children.items ++ c.args.group.children.items)) (c.args.self.now.groups.items ++ row ∷ [])) c.in_ok-add_all.ensures.items
    ∙ rows_are_more names texts c.args.self.now.attributes.items c.args.group.attributes.items c.args.self.now.children.items c.args.group.children.items c.args.self.now.groups.items row
    c.requires.sound c.requires.group.args c.requires.group.own
    c.in_ok-add_all.ensures.from (c.in_ok-add_all.ensures.end ∙ ap length c.in_ok-add_all.ensures.items)
    c.in_ok-add_all-2.ensures.from (c.in_ok-add_all-2.ensures.end ∙ ap length c.in_ok-add_all-2.ensures.items)
    c.requires.group.inner (let few = c.in_ok-id.ensures.few in let e = c.len.ensures in omega arith)
