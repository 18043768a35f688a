-- The statement opens a group, the innermost.
use Rattle.std.proofs.Common.{ℕ, List, ◌∷◌, ◌++◌, [], length, sym, ap, ap₂, ◌∙◌, subst}
use Rattle.std.specs.List.{All}
use Rattle.liberty_groups.specs.Groups.{no_group}
use Rattle.liberty_groups.specs.Tables.{trees_of}
use Rattle.liberty_groups.specs.TableRows.{tables_of, AreTables}
use Rattle.liberty_groups.specs.Opened.{frames_of, IsOpenIn}
use Rattle.liberty_groups.specs.declared.rows.OpenGroup.{OpenGroup}
use Rattle.liberty_groups.specs.declared.flat.FlatTree.{FlatTree}
use Rattle.liberty_groups.proofs.Ending.{same_built, opened_frames, opened_tables, opened_all}
use Rattle.liberty_groups.proofs.builder.Builder.open_group.Goals as goal

pub returns-clause-built : goal.returns-clause-built
returns-clause-built c =
    let f : FlatTree = c.args.self.now.flat in
    let last : OpenGroup = record { name = c.in_ok-from_bytes.field-0; args = c.in_ok-args.args; attributes = c.new.result; children = c.new-2.result } in
    same_built _ _ _ _ (c.clear.ensures.items) c.in_ok-args.ensures.moved
    (ap₂ (λ (texts : List (List ℕ)) (groups : List OpenGroup). frames_of f.names texts (trees_of (tables_of f.names texts f.attributes.items f.children.items f.groups.items).rows) groups) c.in_ok-args.ensures.items c.in-Ok.ensures.items
    ∙ opened_frames f.names f.texts.items c.args.self.now.parts.items f.attributes.items f.children.items f.groups.items c.args.self.now.open_groups.items last
    c.requires.sound.tables c.requires.sound.opened c.in_ok-args.ensures.from (c.in_ok-args.ensures.end ∙ ap length c.in_ok-args.ensures.items) c.new.ensures.items c.new-2.ensures.items
    ∙ ap (λ (name : List ℕ). record { name = name; args = c.args.self.now.parts.items; attributes = []; groups = no_group } ∷ frames_of f.names f.texts.items (trees_of (tables_of f.names f.texts.items f.attributes.items f.children.items f.groups.items).rows) c.args.self.now.open_groups.items) (c.in_ok-from_bytes.ensures ∙ c.as_slice.ensures.value))

pub returns-clause-sound : goal.returns-clause-sound
returns-clause-sound c =
    let f : FlatTree = c.args.self.now.flat in
    let last : OpenGroup = record { name = c.in_ok-from_bytes.field-0; args = c.in_ok-args.args; attributes = c.new.result; children = c.new-2.result } in
    let end = c.in_ok-args.ensures.end ∙ ap length c.in_ok-args.ensures.items in
    record {
      tables = subst (λ (texts : List (List ℕ)). AreTables f.names texts f.attributes.items f.children.items f.groups.items) (sym c.in_ok-args.ensures.items)
          (opened_tables f.names f.texts.items c.args.self.now.parts.items f.attributes.items f.children.items f.groups.items c.args.self.now.open_groups.items last
          c.requires.sound.tables c.requires.sound.opened c.in_ok-args.ensures.from end c.new.ensures.items c.new-2.ensures.items);
      opened = subst (λ (texts : List (List ℕ)). All (IsOpenIn (length f.names) (length texts) (length f.groups.items)) c.push.new.self.items) (sym c.in_ok-args.ensures.items)
          (subst (All (IsOpenIn (length f.names) (length (f.texts.items ++ c.args.self.now.parts.items)) (length f.groups.items))) (sym c.in-Ok.ensures.items)
          (opened_all f.names f.texts.items c.args.self.now.parts.items f.attributes.items f.children.items f.groups.items c.args.self.now.open_groups.items last
          c.requires.sound.tables c.requires.sound.opened c.in_ok-args.ensures.from end c.new.ensures.items c.new-2.ensures.items));
    }
