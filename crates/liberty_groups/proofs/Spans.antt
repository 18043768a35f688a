-- The rows of tables, read from their fields.
use Rattle.std.proofs.Common.{◌≡◌, ℕ, ◌+◌, ◌-◌, ◌<◌, ◌≤◌, List, ◌++◌, length, map, get_or, take, drop, sym, ap, ◌∙◌, subst, arith}
use Rattle.std.specs.Prelude.{slice_get, Some}
use Rattle.std.specs.List.{All}
use Rattle.std.proofs.lemmas.List.{get_or-map, length-map, length-take-le, length-drop, get_or-take, get_or-drop, take-append-le, drop-append-le, drop-take, take-map, drop-map}
use Rattle.std.proofs.lemmas.List.Elements.{All-get_or}
use Rattle.std.specs.Option.{option_map}
use Rattle.std.proofs.lemmas.Option.{slice_get-get_or, slice_get-map}
use Rattle.liberty_groups.specs.Groups.{Attribute, Group, name_of, args_of, attributes_of, groups_of}
use Rattle.liberty_groups.specs.Tables.{Row, Tables, no_attribute, group_at, attribute_at, tree_in, trees_of}
use Rattle.liberty_groups.specs.TableRows.{part_of, number_of, attribute_of, row_of, attributes_in, tables_of, IsSpanIn, LiesIn, IsRowIn, AreTables}
use Rattle.liberty_groups.specs.declared.rows.Span.{Span}
use Rattle.liberty_groups.specs.declared.rows.AttributeRow.{AttributeRow}
use Rattle.liberty_groups.specs.declared.rows.GroupRow.{GroupRow}
use Rattle.liberty_groups.specs.declared.rows.GroupId.{GroupId}
use Rattle.liberty_groups.proofs.Trees.{no_row, group_here, groups_here, children_before}

-- as long as its span
pub part_length : {A : Type 0} (items : List A) (span : Span) → IsSpanIn (length items) span → length (part_of items span) ≡ span.end - span.from
part_length items span (order, within) =
    let long = length-drop span.from items in
    length-take-le (span.end - span.from) (drop span.from items) (omega arith)

-- an entry of a part
pub part_entry : {A : Type 0} (items : List A) (span : Span) (i : ℕ) (d : A) → IsSpanIn (length items) span → i < length (part_of items span)
    → get_or (part_of items span) i d ≡ get_or items (span.from + i) d
part_entry items span i d is lt =
    let long = part_length items span is in
    get_or-take (span.end - span.from) (drop span.from items) i d (omega arith) ∙ get_or-drop span.from items i d

pub part_within : {A : Type 0} (items : List A) (span : Span) (i : ℕ) → IsSpanIn (length items) span → i < length (part_of items span) → span.from + i < length items
part_within items span i (order, within) lt = let long = part_length items span (order, within) in omega arith

-- what is added behind changes no part
pub part_stays : {A : Type 0} (items more : List A) (span : Span) → IsSpanIn (length items) span → part_of (items ++ more) span ≡ part_of items span
part_stays items more span (order, within) =
    let long = length-drop span.from items in
    ap (take (span.end - span.from)) (drop-append-le span.from items more (omega arith))
    ∙ take-append-le (span.end - span.from) (drop span.from items) more (omega arith)

module _ (names texts : List (List ℕ)) (attributes : List AttributeRow) (children : List GroupId) (groups : List GroupRow) (are : AreTables names texts attributes children groups) (all : Tables) (is : tables_of names texts attributes children groups ≡ all) where
  abbrev pub all_attributes : List Attribute
  all_attributes = attributes_in names texts attributes

  module _ (i : ℕ) (lt : i < length all.rows) (row : GroupRow) (here : row ≡ get_or groups i row) where
    pub in_groups : i < length groups
    in_groups = subst (λ (n : ℕ). i < n) (ap (λ (t : Tables). length t.rows) (sym is) ∙ length-map groups (row_of texts all_attributes children)) lt

    pub row_in : IsRowIn (length texts) (length attributes) (length children) row
    row_in = subst (IsRowIn (length texts) (length attributes) (length children)) (sym here) (All-get_or (IsRowIn (length texts) (length attributes) (length children)) groups i row in_groups are.spans)

    row_is : get_or (tables_of names texts attributes children groups).rows i no_row ≡ row_of texts all_attributes children row
    row_is = get_or-map (row_of texts all_attributes children) groups i row no_row in_groups ∙ ap (row_of texts all_attributes children) (sym here)

    pub tree_is : group_at all i ≡ tree_in (trees_of all.rows) (row_of texts all_attributes children row)
    tree_is = subst (λ (t : Tables). group_at t i ≡ tree_in (trees_of t.rows) (row_of texts all_attributes children row)) is
        (group_here (tables_of names texts attributes children groups) i are.order (subst (λ (t : Tables). i < length t.rows) (sym is) lt)
        ∙ ap (tree_in (trees_of (tables_of names texts attributes children groups).rows)) row_is)

    pub name_is : row.name ≡ name_of (group_at all i)
    name_is = sym (ap name_of tree_is)

    pub args_are : args_of (group_at all i) ≡ part_of texts row.args
    args_are = ap args_of tree_is

    pub attributes_are : attributes_of (group_at all i) ≡ part_of all_attributes row.attributes
    attributes_are = ap attributes_of tree_is

    pub groups_are : groups_of (group_at all i) ≡ map (λ (n : ℕ). group_at all n) (map number_of (part_of children row.children))
    groups_are = ap groups_of tree_is ∙ groups_here (trees_of all.rows) (row_of texts all_attributes children row)

    pub arg_count_is : row.args.end - row.args.from ≡ length (args_of (group_at all i))
    arg_count_is = sym (ap length args_are ∙ part_length texts row.args row_in.args)

    pub child_count_is : row.children.end - row.children.from ≡ length (groups_of (group_at all i))
    child_count_is = sym (ap length groups_are ∙ length-map (map number_of (part_of children row.children)) (λ (n : ℕ). group_at all n) ∙ length-map (part_of children row.children) number_of ∙ part_length children row.children row_in.inner)

    module _ (place : ℕ) (below : place < length (args_of (group_at all i))) where
      below_args : place < length (part_of texts row.args)
      below_args = subst (λ (args : List (List ℕ)). place < length args) args_are below

      pub arg_in : row.args.from + place < length texts
      arg_in = part_within texts row.args place row_in.args below_args

      pub arg_read : (text : List ℕ) → text ≡ get_or texts (row.args.from + place) text → slice_get (args_of (group_at all i)) place ≡ Some text
      arg_read text e =
          ap (λ (args : List (List ℕ)). slice_get args place) args_are
          ∙ slice_get-get_or (part_of texts row.args) place text below_args
          ∙ ap Some (part_entry texts row.args place text row_in.args below_args ∙ sym e)

    module _ (place : ℕ) (below : place < length (groups_of (group_at all i))) where
      below_groups : place < length (part_of children row.children)
      below_groups = let e = part_length children row.children row_in.inner in let f = child_count_is in omega arith

      pub child_in : row.children.from + place < length children
      child_in = part_within children row.children place row_in.inner below_groups

      module _ (id : GroupId) (e : id ≡ get_or children (row.children.from + place) id) where
        id_here : slice_get (part_of children row.children) place ≡ Some id
        id_here = slice_get-get_or (part_of children row.children) place id below_groups ∙ ap Some (part_entry children row.children place id row_in.inner below_groups ∙ sym e)

        pub child_read : slice_get (groups_of (group_at all i)) place ≡ Some (group_at all id.0)
        child_read =
            ap (λ (groups : List Group). slice_get groups place) groups_are
            ∙ slice_get-map (λ (n : ℕ). group_at all n) (map number_of (part_of children row.children)) place
            ∙ ap (option_map (λ (n : ℕ). group_at all n)) (slice_get-map number_of (part_of children row.children) place ∙ ap (option_map number_of) id_here)

        own_children : All (λ (n : ℕ). n < 0 + i) (map number_of (part_of children row.children))
        own_children = subst (λ (r : Row). All (λ (n : ℕ). n < 0 + i) r.children) row_is
            (children_before 0 (tables_of names texts attributes children groups).rows i are.order (subst (λ (t : Tables). i < length t.rows) (sym is) lt))

        pub child_within : id.0 < length all.rows
        child_within =
            let here_is : get_or (map number_of (part_of children row.children)) place id.0 ≡ id.0 = get_or-map number_of (part_of children row.children) place id id.0 below_groups ∙ ap number_of (part_entry children row.children place id row_in.inner below_groups ∙ sym e) in
            let smaller = own_children place id.0 (let l = length-map (part_of children row.children) number_of in let b = below_groups in omega arith) in
            omega arith

  module _ (a : ℕ) (lt : a < length all.attributes) (row : AttributeRow) (here : row ≡ get_or attributes a row) where
    pub in_attributes : a < length attributes
    in_attributes = subst (λ (n : ℕ). a < n) (ap (λ (t : Tables). length t.attributes) (sym is) ∙ length-map attributes (attribute_of names texts)) lt

    pub values_in : IsSpanIn (length texts) row.values
    values_in = subst (λ (r : AttributeRow). IsSpanIn (length texts) r.values) (sym here) (All-get_or (LiesIn (length names) (length texts)) attributes a row in_attributes are.values).values

    pub values_are : (attribute_at all a).values ≡ part_of texts row.values
    values_are = subst (λ (t : Tables). (attribute_at t a).values ≡ part_of texts row.values) is
        (ap (λ (x : Attribute). x.values) (get_or-map (attribute_of names texts) attributes a row no_attribute in_attributes ∙ ap (attribute_of names texts) (sym here)))

    pub value_count_is : row.values.end - row.values.from ≡ length (attribute_at all a).values
    value_count_is = sym (ap length values_are ∙ part_length texts row.values values_in)

    module _ (place : ℕ) (below : place < length (attribute_at all a).values) where
      below_values : place < length (part_of texts row.values)
      below_values = subst (λ (values : List (List ℕ)). place < length values) values_are below

      pub value_in : row.values.from + place < length texts
      value_in = part_within texts row.values place values_in below_values

      pub value_read : (text : List ℕ) → text ≡ get_or texts (row.values.from + place) text → slice_get (attribute_at all a).values place ≡ Some text
      value_read text e =
          ap (λ (values : List (List ℕ)). slice_get values place) values_are
          ∙ slice_get-get_or (part_of texts row.values) place text below_values
          ∙ ap Some (part_entry texts row.values place text values_in below_values ∙ sym e)

-- a part, as the code cuts it out
pub cut_out : {A : Type 0} (items : List A) (span : Span) → span.from ≤ span.end → drop span.from (take span.end items) ≡ part_of items span
cut_out items span le =
    subst (λ (n : ℕ). drop span.from (take n items) ≡ part_of items span) (omega arith) (drop-take span.from (span.end - span.from) items)

pub part_of_map : {A B : Type 0} (f : A → B) (items : List A) (span : Span) → part_of (map f items) span ≡ map f (part_of items span)
part_of_map f items span = ap (take (span.end - span.from)) (drop-map f span.from items) ∙ take-map f (span.end - span.from) (drop span.from items)
