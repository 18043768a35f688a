-- The statement is an attribute of the innermost group, or of none.
use Rattle.std.proofs.Common.{◌≡◌, ℕ, List, ◌++◌, length, refl, sym, ap, ap₂, ◌∙◌, subst, append-nil}
use Rattle.std.specs.List.{All}
use Rattle.liberty_groups.specs.Modes.{add_attribute}
use Rattle.liberty_groups.specs.Tables.{trees_of}
use Rattle.liberty_groups.specs.TableRows.{tables_of, AreTables}
use Rattle.liberty_groups.specs.Opened.{frames_of, IsOpenIn}
use Rattle.liberty_groups.specs.declared.rows.AttributeRow.{AttributeRow}
use Rattle.liberty_groups.specs.declared.rows.OpenGroup.{OpenGroup}
use Rattle.liberty_groups.specs.declared.flat.FlatTree.{FlatTree}
use Rattle.liberty_groups.proofs.Pushing.{name_lies, name_here, still_are}
use Rattle.liberty_groups.proofs.Ending.{same_built, all_grow, attribute_frames, attribute_opens}
use Rattle.liberty_groups.proofs.builder.Builder.attribute.Goals as goal

pub returns-clause-built : goal.returns-clause-built
returns-clause-built c =
    let f : FlatTree = c.args.self.now.flat in
    let row : AttributeRow = record { name = c.in_ok-add_name.field-0; values = c.in_ok-add_all.field-0 } in
    let group : OpenGroup = c.in-Some.group in
    let next : OpenGroup = record { name = group.name; args = group.args; attributes = c.push.new.self; children = group.children } in
    let rest : List OpenGroup = c.pop.new.self.items in
    let name : List ℕ = c.args.self.now.name.items in
    let values : List (List ℕ) = c.args.self.now.parts.items in
    let more : List (List ℕ) = c.in_ok-add_name.ensures.grown.0 in
    let grown : c.add_name.new.names ≡ f.names ++ more = c.in_ok-add_name.ensures.grown.1 in
    let named = c.in_ok-add_name.ensures.named in
    same_built _ _ _ _ c.clear.ensures.items c.in_ok-add_all.ensures.moved
    (ap₂ (λ (names texts : List (List ℕ)). frames_of names texts (trees_of (tables_of names texts f.attributes.items f.children.items f.groups.items).rows) c.push-2.new.self.items) grown c.in_ok-add_all.ensures.items
    ∙ ap (frames_of (f.names ++ more) (f.texts.items ++ values) (trees_of (tables_of (f.names ++ more) (f.texts.items ++ values) f.attributes.items f.children.items f.groups.items).rows)) c.in-Ok-push.ensures.items
    ∙ attribute_frames f.names more f.texts.items values f.attributes.items f.children.items f.groups.items rest group next row
    c.requires.sound.tables (subst (All (IsOpenIn (length f.names) (length f.texts.items) (length f.groups.items))) c.in-Some.ensures.items c.requires.sound.opened)
    name (name_lies f.names more c.add_name.new.names _ row.name.0 grown named) (name_here f.names more c.add_name.new.names _ row.name.0 grown named ∙ c.as_slice.ensures.value) c.in_ok-add_all.ensures.from (c.in_ok-add_all.ensures.end ∙ ap length c.in_ok-add_all.ensures.items)
    refl refl refl c.in-Ok.ensures.items
    ∙ ap (λ (groups : List OpenGroup). add_attribute name values (frames_of f.names f.texts.items (trees_of (tables_of f.names f.texts.items f.attributes.items f.children.items f.groups.items).rows) groups)) (sym c.in-Some.ensures.items))

pub returns-clause-sound : goal.returns-clause-sound
returns-clause-sound c =
    let f : FlatTree = c.args.self.now.flat in
    let row : AttributeRow = record { name = c.in_ok-add_name.field-0; values = c.in_ok-add_all.field-0 } in
    let group : OpenGroup = c.in-Some.group in
    let next : OpenGroup = record { name = group.name; args = group.args; attributes = c.push.new.self; children = group.children } in
    let rest : List OpenGroup = c.pop.new.self.items in
    let name : List ℕ = c.args.self.now.name.items in
    let values : List (List ℕ) = c.args.self.now.parts.items in
    let more : List (List ℕ) = c.in_ok-add_name.ensures.grown.0 in
    let grown : c.add_name.new.names ≡ f.names ++ more = c.in_ok-add_name.ensures.grown.1 in
    let named = c.in_ok-add_name.ensures.named in
    record {
      tables = subst (λ (names : List (List ℕ)). AreTables names c.add_all.new.table.items f.attributes.items f.children.items f.groups.items) (sym grown)
          (subst (λ (texts : List (List ℕ)). AreTables (f.names ++ more) texts f.attributes.items f.children.items f.groups.items) (sym c.in_ok-add_all.ensures.items)
          (still_are f.names more f.texts.items values f.attributes.items f.children.items f.groups.items c.requires.sound.tables));
      opened = subst (λ (names : List (List ℕ)). All (IsOpenIn (length names) (length c.add_all.new.table.items) (length f.groups.items)) c.push-2.new.self.items) (sym grown)
          (subst (λ (texts : List (List ℕ)). All (IsOpenIn (length (f.names ++ more)) (length texts) (length f.groups.items)) c.push-2.new.self.items) (sym c.in_ok-add_all.ensures.items)
          (subst (All (IsOpenIn (length (f.names ++ more)) (length (f.texts.items ++ values)) (length f.groups.items))) (sym c.in-Ok-push.ensures.items)
          (attribute_opens f.names more f.texts.items values f.attributes.items f.children.items f.groups.items rest group next row
          c.requires.sound.tables (subst (All (IsOpenIn (length f.names) (length f.texts.items) (length f.groups.items))) c.in-Some.ensures.items c.requires.sound.opened)
          name (name_lies f.names more c.add_name.new.names _ row.name.0 grown named) (name_here f.names more c.add_name.new.names _ row.name.0 grown named ∙ c.as_slice.ensures.value) c.in_ok-add_all.ensures.from (c.in_ok-add_all.ensures.end ∙ ap length c.in_ok-add_all.ensures.items)
          refl refl refl c.in-Ok.ensures.items)));
    }

pub returns-in_default-clause-sound : goal.returns-in_default-clause-sound
returns-in_default-clause-sound c =
    let f : FlatTree = c.args.self.now.flat in
    let values : List (List ℕ) = c.args.self.now.parts.items in
    let more : List (List ℕ) = c.in_ok-add_name.ensures.grown.0 in
    let grown : c.add_name.new.names ≡ f.names ++ more = c.in_ok-add_name.ensures.grown.1 in
    let same : c.args.self.now.open_groups.items ≡ c.pop.new.self.items = c.in_default.ensures.items ∙ append-nil c.pop.new.self.items in
    record {
      tables = subst (λ (names : List (List ℕ)). AreTables names c.add_all.new.table.items f.attributes.items f.children.items f.groups.items) (sym grown)
          (subst (λ (texts : List (List ℕ)). AreTables (f.names ++ more) texts f.attributes.items f.children.items f.groups.items) (sym c.in_ok-add_all.ensures.items)
          (still_are f.names more f.texts.items values f.attributes.items f.children.items f.groups.items c.requires.sound.tables));
      opened = subst (λ (names : List (List ℕ)). All (IsOpenIn (length names) (length c.add_all.new.table.items) (length f.groups.items)) c.pop.new.self.items) (sym grown)
          (subst (λ (texts : List (List ℕ)). All (IsOpenIn (length (f.names ++ more)) (length texts) (length f.groups.items)) c.pop.new.self.items) (sym c.in_ok-add_all.ensures.items)
          (subst (All (IsOpenIn (length (f.names ++ more)) (length (f.texts.items ++ values)) (length f.groups.items))) same
          (all_grow f.names more f.texts.items values f.attributes.items f.children.items f.groups.items c.args.self.now.open_groups.items c.requires.sound.tables c.requires.sound.opened)));
    }
