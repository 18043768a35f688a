-- More in the tables.
use Rattle.std.proofs.Common.{◌≡◌, ℕ, ◌+◌, ◌-◌, ◌<◌, ◌≤◌, ◌^◌, List, [], ◌∷◌, ◌++◌, length, map, get_or, take, refl, sym, ap, ap₂, ◌∙◌, subst, arith, append-nil}
use Rattle.std.specs.Prelude.{slice_get, Some}
use Rattle.std.specs.List.{All}
use Rattle.std.proofs.lemmas.List.{length-append, length-map, map-append, get_or_append_left, drop_at, take_all}
use Rattle.std.proofs.lemmas.List.Elements.{All-head, All-tail, All-append, All-cons}
use Rattle.std.proofs.lemmas.Option.{slice_get_within, get_or_from_slice_get}
use Rattle.liberty_groups.specs.Groups.{Attribute}
use Rattle.liberty_groups.specs.Tables.{Row, AreBehind}
use Rattle.liberty_groups.specs.TableRows.{part_of, number_of, attribute_of, row_of, attributes_in, tables_of, IsSpanIn, LiesIn, IsRowIn, AreTables}
use Rattle.liberty_groups.specs.declared.rows.Span.{Span}
use Rattle.liberty_groups.specs.declared.rows.AttributeRow.{AttributeRow}
use Rattle.liberty_groups.specs.declared.rows.GroupRow.{GroupRow}
use Rattle.liberty_groups.specs.declared.rows.GroupId.{GroupId}
use Rattle.liberty_groups.proofs.Spans.{part_stays}
use Rattle.liberty_groups.proofs.Trees.{one_more_behind}

-- a span over all that was added
pub new_part : {A : Type 0} (items more : List A) (span : Span) → span.from ≡ length items → span.end ≡ length (items ++ more) → part_of (items ++ more) span ≡ more
new_part items more span from end =
    let long = length-append items more in
    ap (take (span.end - span.from)) (drop_at items more span.from (sym from)) ∙ take_all (span.end - span.from) more (omega arith)

pub new_lies : {A : Type 0} (items more : List A) (span : Span) → span.from ≡ length items → span.end ≡ length (items ++ more) → IsSpanIn (length (items ++ more)) span
new_lies items more span from end = let long = length-append items more in (omega arith, omega arith)

pub span_wider : (few many : ℕ) (span : Span) → few ≤ many → IsSpanIn few span → IsSpanIn many span
span_wider few many span le (order, within) = (order, omega arith)

pub wider : (few_names names few_texts texts : ℕ) (rows : List AttributeRow) → few_names ≤ names → few_texts ≤ texts → All (LiesIn few_names few_texts) rows → All (LiesIn names texts) rows
wider few_names names few_texts texts rows le_names le_texts all = λ k d lt. let is = all k d lt in record {
  name = let below = is.name in omega arith;
  values = span_wider few_texts texts (get_or rows k d).values le_texts is.values;
}

-- the name of a number in a table that has grown
module _ (names more now : List (List ℕ)) (name : List ℕ) (n : ℕ) (grown : now ≡ names ++ more) (named : slice_get now n ≡ Some name) where
  pub name_lies : n < length (names ++ more)
  name_lies = subst (λ (l : List (List ℕ)). n < length l) grown (slice_get_within now n name named)

  pub name_here : get_or (names ++ more) n [] ≡ name
  name_here = ap (λ (l : List (List ℕ)). get_or l n []) (sym grown) ∙ get_or_from_slice_get now n name [] named

-- more names and texts change no attribute that stands
pub stays : (names more_names texts more : List (List ℕ)) (rows : List AttributeRow) → All (LiesIn (length names) (length texts)) rows → attributes_in (names ++ more_names) (texts ++ more) rows ≡ attributes_in names texts rows
stays names more_names texts more [] all = refl
stays names more_names texts more (row ∷ rows) all =
    let here = All-head (LiesIn (length names) (length texts)) row rows all in
    ap₂ (λ (one : Attribute) (others : List Attribute). one ∷ others)
    (ap₂ (λ (name : List ℕ) (values : List (List ℕ)). record { name = name; values = values }) (get_or_append_left names more_names [] row.name.0 here.name) (part_stays texts more row.values here.values))
    (stays names more_names texts more rows (All-tail (LiesIn (length names) (length texts)) row rows all))

-- an attribute behind others
module _ (names texts : List (List ℕ)) (rows : List AttributeRow) (row : AttributeRow) where
  pub attribute_more : attributes_in names texts (rows ++ row ∷ []) ≡ attributes_in names texts rows ++ attribute_of names texts row ∷ []
  attribute_more = map-append (attribute_of names texts) rows (row ∷ [])

  pub lies_more : All (LiesIn (length names) (length texts)) rows → LiesIn (length names) (length texts) row → All (LiesIn (length names) (length texts)) (rows ++ row ∷ [])
  lies_more all one = All-append (LiesIn (length names) (length texts)) rows (row ∷ []) all (All-cons (LiesIn (length names) (length texts)) row [] one (λ k d lt. absurd (omega arith)))

pub rows_stay : (texts texts_more : List (List ℕ)) (attributes attributes_more : List Attribute) (children children_more : List GroupId) (groups : List GroupRow)
    → All (IsRowIn (length texts) (length attributes) (length children)) groups
    → map (row_of (texts ++ texts_more) (attributes ++ attributes_more) (children ++ children_more)) groups ≡ map (row_of texts attributes children) groups
rows_stay texts texts_more attributes attributes_more children children_more [] all = refl
rows_stay texts texts_more attributes attributes_more children children_more (row ∷ rows) all =
    let here = All-head (IsRowIn (length texts) (length attributes) (length children)) row rows all in
    ap₂ (λ (one : Row) (others : List Row). one ∷ others)
    (ap (λ (args : List (List ℕ)). record { name = row.name; args = args; attributes = part_of (attributes ++ attributes_more) row.attributes; children = map number_of (part_of (children ++ children_more) row.children) }) (part_stays texts texts_more row.args here.args)
    ∙ ap (λ (own : List Attribute). record { name = row.name; args = part_of texts row.args; attributes = own; children = map number_of (part_of (children ++ children_more) row.children) }) (part_stays attributes attributes_more row.attributes here.own)
    ∙ ap (λ (inner : List GroupId). record { name = row.name; args = part_of texts row.args; attributes = part_of attributes row.attributes; children = map number_of inner }) (part_stays children children_more row.children here.inner))
    (rows_stay texts texts_more attributes attributes_more children children_more rows (All-tail (IsRowIn (length texts) (length attributes) (length children)) row rows all))

abbrev pub row_more : GroupRow → List (List ℕ) → List Attribute → List GroupId → Row
row_more row args own inner = record { name = row.name; args = args; attributes = own; children = map number_of inner }

-- more names and texts change no table
module _ (names more_names texts more : List (List ℕ)) (attributes : List AttributeRow) (children : List GroupId) (groups : List GroupRow)
    (are : AreTables names texts attributes children groups) where
  counts : length (attributes_in names texts attributes) ≡ length attributes
  counts = length-map attributes (attribute_of names texts)

  pub rows_same : (tables_of (names ++ more_names) (texts ++ more) attributes children groups).rows ≡ (tables_of names texts attributes children groups).rows
  rows_same =
      ap (λ (own : List Attribute). map (row_of (texts ++ more) own children) groups) (stays names more_names texts more attributes are.values)
      ∙ ap₂ (λ (own : List Attribute) (inner : List GroupId). map (row_of (texts ++ more) own inner) groups) (sym (append-nil (attributes_in names texts attributes))) (sym (append-nil children))
      ∙ rows_stay texts more (attributes_in names texts attributes) [] children [] groups
      (subst (λ (n : ℕ). All (IsRowIn (length texts) n (length children)) groups) (sym counts) are.spans)

  pub still_are : AreTables (names ++ more_names) (texts ++ more) attributes children groups
  still_are = let n = length-append names more_names in let t = length-append texts more in record {
    values = wider (length names) (length (names ++ more_names)) (length texts) (length (texts ++ more)) attributes (omega arith) (omega arith) are.values;
    spans = λ k d lt. let is = are.spans k d lt in record {
      args = span_wider (length texts) (length (texts ++ more)) (get_or groups k d).args (omega arith) is.args;
      own = is.own;
      inner = is.inner;
    };
    order = subst AreBehind (sym rows_same) are.order;
    many = are.many;
  }

-- a group more, whose attributes and inner groups are put behind those that are there
module _ (names texts : List (List ℕ)) (old own : List AttributeRow) (children inner : List GroupId) (groups : List GroupRow) (row : GroupRow)
    (are : AreTables names texts old children groups)
    (args : IsSpanIn (length texts) row.args)
    (lies : All (LiesIn (length names) (length texts)) own)
    (own_from : row.attributes.from ≡ length old) (own_end : row.attributes.end ≡ length (old ++ own))
    (inner_from : row.children.from ≡ length children) (inner_end : row.children.end ≡ length (children ++ inner))
    (before : All (λ (n : ℕ). n < length groups) (map number_of inner))
    (few : length groups < 2 ^ 32) where
  abbrev known : List Attribute
  known = attributes_in names texts old

  abbrev news : List Attribute
  news = attributes_in names texts own

  count : (rows : List AttributeRow) → length (attributes_in names texts rows) ≡ length rows
  count rows = length-map rows (attribute_of names texts)

  split : attributes_in names texts (old ++ own) ≡ known ++ news
  split = map-append (attribute_of names texts) old own

  own_here : part_of (attributes_in names texts (old ++ own)) row.attributes ≡ news
  own_here =
      ap (λ (l : List Attribute). part_of l row.attributes) split
      ∙ new_part known news row.attributes (own_from ∙ sym (count old)) (own_end ∙ sym (count (old ++ own)) ∙ ap length split)

  inner_here : part_of (children ++ inner) row.children ≡ inner
  inner_here = new_part children inner row.children inner_from inner_end

  spans_before : All (IsRowIn (length texts) (length known) (length children)) groups
  spans_before = subst (λ (n : ℕ). All (IsRowIn (length texts) n (length children)) groups) (sym (count old)) are.spans

  pub rows_are_more : (tables_of names texts (old ++ own) (children ++ inner) (groups ++ row ∷ [])).rows
      ≡ (tables_of names texts old children groups).rows ++ row_more row (part_of texts row.args) news inner ∷ []
  rows_are_more =
      map-append (row_of texts (attributes_in names texts (old ++ own)) (children ++ inner)) groups (row ∷ [])
      ∙ ap₂ (λ (first : List Row) (last : Row). first ++ last ∷ [])
      (ap₂ (λ (ts : List (List ℕ)) (all : List Attribute). map (row_of ts all (children ++ inner)) groups) (sym (append-nil texts)) split
      ∙ rows_stay texts [] known news children inner groups spans_before)
      (ap₂ (λ (l : List Attribute) (i : List GroupId). record { name = row.name; args = part_of texts row.args; attributes = l; children = map number_of i }) own_here inner_here)

  abbrev Fits_in : GroupRow → Type 0
  Fits_in = IsRowIn (length texts) (length (old ++ own)) (length (children ++ inner))

  still : (r : GroupRow) → IsRowIn (length texts) (length old) (length children) r → Fits_in r
  still r is = let o = length-append old own in let c = length-append children inner in record {
    args = is.args;
    own = span_wider (length old) (length (old ++ own)) r.attributes (omega arith) is.own;
    inner = span_wider (length children) (length (children ++ inner)) r.children (omega arith) is.inner;
  }

  pub are_more : AreTables names texts (old ++ own) (children ++ inner) (groups ++ row ∷ [])
  are_more = record {
    values = All-append (LiesIn (length names) (length texts)) old own are.values lies;
    spans = All-append Fits_in groups (row ∷ []) (λ k d lt. still (get_or groups k d) (are.spans k d lt))
        (All-cons Fits_in row [] (record { args = args; own = new_lies old own row.attributes own_from own_end; inner = new_lies children inner row.children inner_from inner_end }) (λ k d lt. absurd (omega arith)));
    order = subst AreBehind (sym rows_are_more)
        (one_more_behind 0 (tables_of names texts old children groups).rows (row_more row (part_of texts row.args) news inner) are.order
        (subst (λ (n : ℕ). All (λ (m : ℕ). m < 0 + n) (map number_of inner)) (sym (length-map groups (row_of texts known children))) (subst (λ (n : ℕ). All (λ (m : ℕ). m < n) (map number_of inner)) (omega arith) before)));
    many = let e = length-append groups (row ∷ []) in omega arith;
  }
