-- The innermost group ends inside the one before it.
use Rattle.std.proofs.Common.{◌≡◌, ℕ, List, ◌∷◌, ◌++◌, [], ◌+◌, length, refl, sym, ap, ap₂, ◌∙◌, subst, arith}
use Rattle.std.specs.List.{All}
use Rattle.std.proofs.lemmas.List.{length-map, length-append}
use Rattle.liberty_groups.specs.Modes.{closed}
use Rattle.liberty_groups.specs.Tables.{Row, trees_of}
use Rattle.liberty_groups.specs.TableRows.{row_of, attributes_in}
use Rattle.liberty_groups.specs.Built.{tables_in}
use Rattle.liberty_groups.specs.Opened.{frames_of, row_of_open, IsOpenIn}
use Rattle.liberty_groups.specs.declared.rows.OpenGroup.{OpenGroup}
use Rattle.liberty_groups.specs.declared.flat.FlatTree.{FlatTree}
use Rattle.liberty_groups.proofs.Opening.{last_is}
use Rattle.liberty_groups.proofs.Ending.{same_built, few_frames, ended_frames, ended_all}
use Rattle.liberty_groups.proofs.builder.Builder.close.Goals as goal

pub returns-then-len-lt2-clause-built : goal.returns-then-len-lt2-clause-built
returns-then-len-lt2-clause-built c =
    same_built _ _ _ _ c.clear.ensures.items c.clear-2.ensures.items
    (few_frames _ _ _ c.args.self.now.open_groups.items (let e = c.len.ensures in let lt = c.if-len-lt2.true in let o = c.args.self.now.open_groups.ok.0 in omega arith))

pub add_group-requires-clause-group : goal.add_group-requires-clause-group
add_group-requires-clause-group c =
    let f : FlatTree = c.args.self.now.flat in
    last_is (length f.names) (length f.texts.items) (length f.groups.items) c.pop.new.self.items c.in-Some-Some.inner
    (subst (All (IsOpenIn (length f.names) (length f.texts.items) (length f.groups.items))) c.in-Some-Some.ensures.items c.requires.sound.opened)

pub returns-clause-built : goal.returns-clause-built
returns-clause-built c =
    let f : FlatTree = c.args.self.now.flat in
    let outer : OpenGroup = c.in-Some-Some.outer in
    let inner : OpenGroup = c.in-Some-Some.inner in
    let next : OpenGroup = record { name = outer.name; args = outer.args; attributes = outer.attributes; children = c.push.new.self } in
    let rows : List Row = (tables_in f).rows in
    let count : length rows ≡ length f.groups.items = length-map f.groups.items (row_of f.texts.items (attributes_in f.names f.texts.items f.attributes.items) f.children.items) in
    let opens : c.args.self.now.open_groups.items ≡ (c.pop-2.new.self.items ++ outer ∷ []) ++ inner ∷ [] = c.in-Some-Some.ensures.items ∙ ap (λ (l : List OpenGroup). l ++ inner ∷ []) c.in-Some-Some.ensures'.items in
    same_built _ _ _ _ c.clear.ensures.items c.clear-2.ensures.items
    (ap₂ (λ (names texts : List (List ℕ)). frames_of names texts (trees_of (tables_in c.add_group.new.self).rows) c.push-2.new.self.items) c.in_ok-id.ensures.names c.in_ok-id.ensures.texts
    ∙ ap₂ (λ (more : List Row) (groups : List OpenGroup). frames_of f.names f.texts.items (trees_of more) groups) c.in_ok-id.ensures.rows c.in-Ok-push.ensures.items
    ∙ ended_frames f.names f.texts.items rows c.pop-2.new.self.items outer next inner c.in_ok-id.id
    (subst (λ (n : ℕ). All (IsOpenIn (length f.names) (length f.texts.items) n) ((c.pop-2.new.self.items ++ outer ∷ []) ++ inner ∷ [])) (sym count)
    (subst (All (IsOpenIn (length f.names) (length f.texts.items) (length f.groups.items))) opens c.requires.sound.opened))
    (c.in_ok-id.ensures.number ∙ sym count) refl refl refl c.in-Ok.ensures.items
    ∙ ap (λ (groups : List OpenGroup). (closed (frames_of f.names f.texts.items (trees_of rows) groups)).frames) (sym opens))

pub returns-clause-sound : goal.returns-clause-sound
returns-clause-sound c =
    let f : FlatTree = c.args.self.now.flat in
    let outer : OpenGroup = c.in-Some-Some.outer in
    let inner : OpenGroup = c.in-Some-Some.inner in
    let next : OpenGroup = record { name = outer.name; args = outer.args; attributes = outer.attributes; children = c.push.new.self } in
    let rows : List Row = (tables_in f).rows in
    let after : FlatTree = c.add_group.new.self in
    let count : length rows ≡ length f.groups.items = length-map f.groups.items (row_of f.texts.items (attributes_in f.names f.texts.items f.attributes.items) f.children.items) in
    let count_after : length (tables_in after).rows ≡ length after.groups.items = length-map after.groups.items (row_of after.texts.items (attributes_in after.names after.texts.items after.attributes.items) after.children.items) in
    let more : length rows + 1 ≡ length after.groups.items = sym (length-append rows (row_of_open f.names f.texts.items inner ∷ [])) ∙ sym (ap length c.in_ok-id.ensures.rows) ∙ count_after in
    let opens : c.args.self.now.open_groups.items ≡ (c.pop-2.new.self.items ++ outer ∷ []) ++ inner ∷ [] = c.in-Some-Some.ensures.items ∙ ap (λ (l : List OpenGroup). l ++ inner ∷ []) c.in-Some-Some.ensures'.items in
    record {
      tables = c.in_ok-id.ensures.sound;
      opened =
          subst (λ (l : List (List ℕ)). All (IsOpenIn (length l) (length after.texts.items) (length after.groups.items)) c.push-2.new.self.items) (sym c.in_ok-id.ensures.names)
          (subst (λ (l : List (List ℕ)). All (IsOpenIn (length f.names) (length l) (length after.groups.items)) c.push-2.new.self.items) (sym c.in_ok-id.ensures.texts)
          (subst (λ (n : ℕ). All (IsOpenIn (length f.names) (length f.texts.items) n) c.push-2.new.self.items) more
          (subst (All (IsOpenIn (length f.names) (length f.texts.items) (length rows + 1))) (sym c.in-Ok-push.ensures.items)
          (ended_all f.names f.texts.items rows c.pop-2.new.self.items outer next inner c.in_ok-id.id
          (subst (λ (n : ℕ). All (IsOpenIn (length f.names) (length f.texts.items) n) ((c.pop-2.new.self.items ++ outer ∷ []) ++ inner ∷ [])) (sym count)
          (subst (All (IsOpenIn (length f.names) (length f.texts.items) (length f.groups.items))) opens c.requires.sound.opened))
          (c.in_ok-id.ensures.number ∙ sym count) refl refl refl c.in-Ok.ensures.items))));
    }
