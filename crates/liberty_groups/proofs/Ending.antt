-- What a token does to the groups that are open, and to those that have ended.
use Rattle.std.proofs.Common.{◌≡◌, ℕ, ◌+◌, ◌-◌, ◌<◌, List, [], ◌∷◌, ◌++◌, length, map, get_or, refl, sym, ap, ap₂, ◌∙◌, subst, arith, append-nil}
use Rattle.std.specs.List.{All}
use Rattle.std.proofs.lemmas.List.{length-append, map-append, get_or_at}
use Rattle.std.proofs.lemmas.List.Elements.{All-append, All-cons}
use Rattle.liberty_groups.specs.Groups.{Attribute, Group, no_group, and_group}
use Rattle.liberty_groups.specs.Modes.{Frame, add_attribute, closed, root_of}
use Rattle.liberty_groups.specs.Building.{with_frames}
use Rattle.liberty_groups.specs.Tables.{Row, nothing, gathered, tree_in, trees_of, tree_of}
use Rattle.liberty_groups.specs.TableRows.{part_of, number_of, attribute_of, attributes_in, tables_of, AreTables}
use Rattle.liberty_groups.specs.Opened.{row_of_open, frame_of_open, frames_of, IsOpenIn}
use Rattle.liberty_groups.specs.declared.rows.AttributeRow.{AttributeRow}
use Rattle.liberty_groups.specs.declared.rows.GroupId.{GroupId}
use Rattle.liberty_groups.specs.declared.rows.GroupRow.{GroupRow}
use Rattle.liberty_groups.specs.declared.rows.OpenGroup.{OpenGroup}
use Rattle.liberty_groups.proofs.Pushing.{new_part, new_lies, rows_same, still_are, attribute_more, lies_more}
use Rattle.liberty_groups.proofs.Opening.{frames_push, frames_stay, all_wider, all_more, all_front, last_is, trees_stay, gathered_last}
use Rattle.liberty_groups.proofs.Trees.{one_more_tree, tree_count}

pub same_built : (name : List ℕ) (parts : List (List ℕ)) (some other : List Frame) → name ≡ [] → parts ≡ [] → some ≡ other
    → record { name = name; parts = parts; frames = some } ≡ with_frames other
same_built name parts some other e p f = ap₂ (λ (n : List ℕ) (ps : List (List ℕ)). record { name = n; parts = ps; frames = some }) e p ∙ ap with_frames f

-- names and texts are put behind those that are there
module _ (names more_names texts more : List (List ℕ)) (attributes : List AttributeRow) (children : List GroupId) (groups : List GroupRow) (opens : List OpenGroup)
    (are : AreTables names texts attributes children groups)
    (all : All (IsOpenIn (length names) (length texts) (length groups)) opens) where
  abbrev trees : List Group
  trees = trees_of (tables_of names texts attributes children groups).rows

  abbrev trees_after : List Group
  trees_after = trees_of (tables_of (names ++ more_names) (texts ++ more) attributes children groups).rows

  pub frames_grow : frames_of (names ++ more_names) (texts ++ more) trees_after opens ≡ frames_of names texts trees opens
  frames_grow =
      ap (λ (rows : List Row). frames_of (names ++ more_names) (texts ++ more) (trees_of rows) opens) (rows_same names more_names texts more attributes children groups are)
      ∙ frames_stay names more_names texts more (length groups) trees opens all

  pub all_grow : All (IsOpenIn (length (names ++ more_names)) (length (texts ++ more)) (length groups)) opens
  all_grow =
      let n = length-append names more_names in let t = length-append texts more in
      all_wider (length names) (length (names ++ more_names)) (length texts) (length (texts ++ more)) (length groups) (length groups) opens (omega arith) (omega arith) (omega arith) all

-- an attribute ends
module _ (names more_names texts more : List (List ℕ)) (attributes : List AttributeRow) (children : List GroupId) (groups : List GroupRow) (rest : List OpenGroup) (last next : OpenGroup) (row : AttributeRow)
    (are : AreTables names texts attributes children groups)
    (all : All (IsOpenIn (length names) (length texts) (length groups)) (rest ++ last ∷ []))
    (name : List ℕ) (name_in : row.name.0 < length (names ++ more_names)) (name_is : get_or (names ++ more_names) row.name.0 [] ≡ name)
    (values_from : row.values.from ≡ length texts) (values_end : row.values.end ≡ length (texts ++ more))
    (same_name : next.name ≡ last.name) (same_args : next.args ≡ last.args) (same_children : next.children.items ≡ last.children.items)
    (own : next.attributes.items ≡ last.attributes.items ++ row ∷ []) where
  grown : All (IsOpenIn (length (names ++ more_names)) (length (texts ++ more)) (length groups)) (rest ++ last ∷ [])
  grown = all_grow names more_names texts more attributes children groups (rest ++ last ∷ []) are all

  row_says : attribute_of (names ++ more_names) (texts ++ more) row ≡ record { name = name; values = more }
  row_says = ap₂ (λ (n : List ℕ) (values : List (List ℕ)). record { name = n; values = values }) name_is (new_part texts more row.values values_from values_end)

  frame_more : (trees : List Group) → frame_of_open (names ++ more_names) (texts ++ more) trees next
      ≡ record { name = last.name; args = part_of (texts ++ more) last.args; attributes = attributes_in (names ++ more_names) (texts ++ more) last.attributes.items ++ record { name = name; values = more } ∷ []; groups = gathered trees no_group (map number_of last.children.items) }
  frame_more trees = rw (same_name, same_args, same_children, own, attribute_more (names ++ more_names) (texts ++ more) last.attributes.items row, row_says) refl

  pub attribute_frames : frames_of (names ++ more_names) (texts ++ more) (trees_of (tables_of (names ++ more_names) (texts ++ more) attributes children groups).rows) (rest ++ next ∷ [])
      ≡ add_attribute name more (frames_of names texts (trees_of (tables_of names texts attributes children groups).rows) (rest ++ last ∷ []))
  attribute_frames =
      let trees : List Group = trees_of (tables_of (names ++ more_names) (texts ++ more) attributes children groups).rows in
      frames_push (names ++ more_names) (texts ++ more) trees rest next
      ∙ ap (λ (frame : Frame). frame ∷ frames_of (names ++ more_names) (texts ++ more) trees rest) (frame_more trees)
      ∙ ap (add_attribute name more) (sym (frames_push (names ++ more_names) (texts ++ more) trees rest last))
      ∙ ap (add_attribute name more) (frames_grow names more_names texts more attributes children groups (rest ++ last ∷ []) are all)

  pub attribute_opens : All (IsOpenIn (length (names ++ more_names)) (length (texts ++ more)) (length groups)) (rest ++ next ∷ [])
  attribute_opens =
      let front = all_front (length (names ++ more_names)) (length (texts ++ more)) (length groups) rest last grown in
      let one = last_is (length (names ++ more_names)) (length (texts ++ more)) (length groups) rest last grown in
      all_more (length (names ++ more_names)) (length (texts ++ more)) (length groups) rest next front (record {
        args = rw same_args one.args;
        own = rw own (lies_more (names ++ more_names) (texts ++ more) last.attributes.items row one.own (record { name = name_in; values = new_lies texts more row.values values_from values_end }));
        inner = rw same_children one.inner;
      })

-- a group opens
module _ (names texts more : List (List ℕ)) (attributes : List AttributeRow) (children : List GroupId) (groups : List GroupRow) (opens : List OpenGroup) (last : OpenGroup)
    (are : AreTables names texts attributes children groups)
    (all : All (IsOpenIn (length names) (length texts) (length groups)) opens)
    (args_from : last.args.from ≡ length texts) (args_end : last.args.end ≡ length (texts ++ more))
    (no_own : last.attributes.items ≡ []) (no_inner : last.children.items ≡ []) where
  tables_grow : AreTables names (texts ++ more) attributes children groups
  tables_grow = subst (λ (l : List (List ℕ)). AreTables l (texts ++ more) attributes children groups) (append-nil names) (still_are names [] texts more attributes children groups are)

  opens_grow : All (IsOpenIn (length names) (length (texts ++ more)) (length groups)) opens
  opens_grow = subst (λ (l : List (List ℕ)). All (IsOpenIn (length l) (length (texts ++ more)) (length groups)) opens) (append-nil names) (all_grow names [] texts more attributes children groups opens are all)

  same_frames : frames_of names (texts ++ more) (trees_of (tables_of names (texts ++ more) attributes children groups).rows) opens
      ≡ frames_of names texts (trees_of (tables_of names texts attributes children groups).rows) opens
  same_frames = subst (λ (l : List (List ℕ)). frames_of l (texts ++ more) (trees_of (tables_of l (texts ++ more) attributes children groups).rows) opens ≡ frames_of names texts (trees_of (tables_of names texts attributes children groups).rows) opens)
      (append-nil names) (frames_grow names [] texts more attributes children groups opens are all)

  pub opened_frames : frames_of names (texts ++ more) (trees_of (tables_of names (texts ++ more) attributes children groups).rows) (opens ++ last ∷ [])
      ≡ record { name = last.name; args = more; attributes = []; groups = no_group } ∷ frames_of names texts (trees_of (tables_of names texts attributes children groups).rows) opens
  opened_frames =
      frames_push names (texts ++ more) (trees_of (tables_of names (texts ++ more) attributes children groups).rows) opens last
      ∙ ap₂ (λ (frame : Frame) (frames : List Frame). frame ∷ frames) (rw (no_own, no_inner, new_part texts more last.args args_from args_end) refl) same_frames

  pub opened_tables : AreTables names (texts ++ more) attributes children groups
  opened_tables = tables_grow

  pub opened_all : All (IsOpenIn (length names) (length (texts ++ more)) (length groups)) (opens ++ last ∷ [])
  opened_all = all_more (length names) (length (texts ++ more)) (length groups) opens last opens_grow (record {
    args = new_lies texts more last.args args_from args_end;
    own = rw no_own (λ k d lt. absurd (omega arith));
    inner = rw no_inner (λ k d lt. absurd (omega arith));
  })

-- the innermost group ends inside the one before it
module _ (names texts : List (List ℕ)) (rows : List Row) (rest : List OpenGroup) (outer next inner : OpenGroup) (id : GroupId)
    (all : All (IsOpenIn (length names) (length texts) (length rows)) ((rest ++ outer ∷ []) ++ inner ∷ []))
    (number : id.0 ≡ length rows)
    (same_name : next.name ≡ outer.name) (same_args : next.args ≡ outer.args) (same_own : next.attributes.items ≡ outer.attributes.items)
    (inside : next.children.items ≡ outer.children.items ++ id ∷ []) where
  abbrev tree : Group
  tree = tree_in (trees_of rows) (row_of_open names texts inner)

  count : length (trees_of rows) ≡ length rows
  count = let e = tree_count [] rows in omega arith

  front : All (IsOpenIn (length names) (length texts) (length rows)) (rest ++ outer ∷ [])
  front = all_front (length names) (length texts) (length rows) (rest ++ outer ∷ []) inner all

  outer_is : IsOpenIn (length names) (length texts) (length rows) outer
  outer_is = last_is (length names) (length texts) (length rows) rest outer front

  rest_are : All (IsOpenIn (length names) (length texts) (length (trees_of rows))) rest
  rest_are = subst (λ (n : ℕ). All (IsOpenIn (length names) (length texts) n) rest) (sym count) (all_front (length names) (length texts) (length rows) rest outer front)

  numbers : map number_of next.children.items ≡ map number_of outer.children.items ++ id.0 ∷ []
  numbers = ap (map number_of) inside ∙ map-append number_of outer.children.items (id ∷ [])

  gathered_next : gathered (trees_of rows ++ tree ∷ []) no_group (map number_of next.children.items) ≡ and_group (gathered (trees_of rows) no_group (map number_of outer.children.items)) tree
  gathered_next =
      ap (gathered (trees_of rows ++ tree ∷ []) no_group) numbers
      ∙ gathered_last (trees_of rows) tree (map number_of outer.children.items) id.0 (number ∙ sym count) (subst (λ (n : ℕ). All (λ (m : ℕ). m < n) (map number_of outer.children.items)) (sym count) outer_is.inner)

  pub ended_frames : frames_of names texts (trees_of (rows ++ row_of_open names texts inner ∷ [])) (rest ++ next ∷ [])
      ≡ (closed (frames_of names texts (trees_of rows) ((rest ++ outer ∷ []) ++ inner ∷ []))).frames
  ended_frames =
      ap (λ (trees : List Group). frames_of names texts trees (rest ++ next ∷ [])) (one_more_tree [] rows (row_of_open names texts inner))
      ∙ frames_push names texts (trees_of rows ++ tree ∷ []) rest next
      ∙ ap₂ (λ (frame : Frame) (frames : List Frame). frame ∷ frames)
      (rw (same_name, same_args, same_own, gathered_next) refl)
      (trees_stay (trees_of rows) tree names texts rest rest_are)
      ∙ ap (λ (frames : List Frame). (closed frames).frames)
      (sym (frames_push names texts (trees_of rows) (rest ++ outer ∷ []) inner ∙ ap (λ (frames : List Frame). frame_of_open names texts (trees_of rows) inner ∷ frames) (frames_push names texts (trees_of rows) rest outer)))

  pub ended_all : All (IsOpenIn (length names) (length texts) (length rows + 1)) (rest ++ next ∷ [])
  ended_all = all_more (length names) (length texts) (length rows + 1) rest next
      (all_wider (length names) (length names) (length texts) (length texts) (length rows) (length rows + 1) rest (omega arith) (omega arith) (omega arith) (all_front (length names) (length texts) (length rows) rest outer front))
      (record {
        args = rw same_args outer_is.args;
        own = rw same_own outer_is.own;
        inner = rw numbers (All-append (λ (n : ℕ). n < length rows + 1) (map number_of outer.children.items) (id.0 ∷ [])
            (λ k d lt. let before = outer_is.inner k d lt in omega arith)
            (All-cons (λ (n : ℕ). n < length rows + 1) id.0 [] (omega arith) (λ k d lt. absurd (omega arith))));
      })

-- where no more than the library is open, nothing ends
pub few_frames : (names texts : List (List ℕ)) (trees : List Group) (opens : List OpenGroup) → length opens < 2
    → frames_of names texts trees opens ≡ (closed (frames_of names texts trees opens)).frames
few_frames names texts trees [] lt = refl
few_frames names texts trees (only ∷ []) lt = refl
few_frames names texts trees (outer ∷ inner ∷ more) lt = absurd (omega arith)

-- the last row is the root
pub last_tree : (rows : List Row) (row : Row) (attributes : List Attribute) → tree_of (record { rows = rows ++ row ∷ []; attributes = attributes }) ≡ tree_in (trees_of rows) row
last_tree rows row attributes =
    let long = length-append rows (row ∷ []) in let count = tree_count [] rows in
    ap (λ (trees : List Group). get_or trees (length (rows ++ row ∷ []) - 1) nothing) (one_more_tree [] rows row)
    ∙ get_or_at (trees_of rows) (tree_in (trees_of rows) row) [] nothing (length (rows ++ row ∷ []) - 1) (omega arith)

pub root_last : (names texts : List (List ℕ)) (trees : List Group) (opens rest : List OpenGroup) (last : OpenGroup) → opens ≡ rest ++ last ∷ []
    → tree_in trees (row_of_open names texts last) ≡ root_of (frames_of names texts trees opens)
root_last names texts trees opens rest last e = sym (ap (λ (groups : List OpenGroup). root_of (frames_of names texts trees groups)) e ∙ ap root_of (frames_push names texts trees rest last))

pub root_none : (names texts : List (List ℕ)) (trees : List Group) (opens : List OpenGroup) → length opens ≡ 0 → nothing ≡ root_of (frames_of names texts trees opens)
root_none names texts trees [] e = refl
root_none names texts trees (first ∷ more) e = absurd (omega arith)

pub empty_tree : (names texts : List (List ℕ)) (trees : List Group) (last : OpenGroup) → last.name ≡ [] → last.args ≡ record { from = 0; end = 0 } → last.attributes.items ≡ [] → last.children.items ≡ []
    → tree_in trees (row_of_open names texts last) ≡ nothing
empty_tree names texts trees last no_name no_args no_own no_inner = rw (no_name, no_args, no_own, no_inner) refl
