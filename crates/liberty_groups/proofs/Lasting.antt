-- The last attribute of a name.
use Rattle.std.proofs.Common.{◌≡◌, ◌≢◌, ℕ, ◌+◌, ◌<◌, ◌≤◌, List, [], ◌∷◌, ◌++◌, length, get_or, take, drop, Option, Some, None, inl, inr, sym, ap, ◌∙◌, subst, arith}
use Rattle.std.specs.Prelude.{IfSome, IfNone, Contains, slice_get}
use Rattle.std.specs.List.{All}
use Rattle.std.proofs.lemmas.Bool.{cases_eq, cases_lt}
use Rattle.std.proofs.lemmas.List.{get_or-map, get_or-drop, get_or_default, length-drop, drop_more, take-append-drop, map-append}
use Rattle.std.proofs.lemmas.List.Elements.{All-map, Contains-get_or}
use Rattle.std.proofs.lemmas.Option.{slice_get_within, get_or_from_slice_get}
use Rattle.name_table.specs.Names.{AreDistinct}
use Rattle.liberty_groups.specs.Groups.{Attribute}
use Rattle.liberty_groups.specs.Tables.{no_attribute, IsLastOf, HasNone}
use Rattle.liberty_groups.specs.TableRows.{name_in, attribute_of, attributes_in}
use Rattle.liberty_groups.specs.declared.rows.AttributeRow.{AttributeRow}

abbrev pub no_row : AttributeRow
no_row = record { name = record { 0 = 0 }; values = record { from = 0; end = 0 } }

abbrev pub IsOther : List (List ℕ) → List ℕ → AttributeRow → Type 0
IsOther names key row = name_in names row ≢ key

-- a name has one number, and where it has none no row has the name
pub other_name : (names : List (List ℕ)) (key : List ℕ) (number other : ℕ) → AreDistinct names → slice_get names number ≡ Some key → other < length names
    → other ≢ number → get_or names other [] ≢ key
other_name names key number other apart named lt differs same =
    let is = get_or_from_slice_get names number key [] named in
    elim (cases_lt other number) [
      | inl less ↦ apart other number [] less (slice_get_within names number key named) (same ∙ sym is)
      | inr more ↦ elim (cases_eq other number) [
        | inl equal ↦ differs equal
        | inr apart_by ↦ apart number other [] (omega arith) lt (is ∙ sym same)
      ]
    ]

pub none_named : (names : List (List ℕ)) (key : List ℕ) (rows : List AttributeRow) → ¬ Contains names key → All (λ (row : AttributeRow). row.name.0 < length names) rows
    → (texts : List (List ℕ)) → HasNone key (attributes_in names texts rows)
none_named names key rows absent lie texts = All-map (λ (a : Attribute). a.name ≢ key) (attribute_of names texts) rows
    (λ k d lt same. absent (subst (Contains names) same (Contains-get_or names (get_or rows k d).name.0 [] (lie k d lt))))

-- no row from the first of these places up to the second has the name
abbrev pub OthersIn : List (List ℕ) → List ℕ → List AttributeRow → ℕ → ℕ → Type 0
OthersIn names key rows from end = (k : ℕ) (d : AttributeRow) → from ≤ k → k < end → IsOther names key (get_or rows k d)

-- the last row of the name among the first so many
abbrev pub LastSoFar : List (List ℕ) → List ℕ → List AttributeRow → ℕ → Option ℕ → Type 0
LastSoFar names key rows end None = OthersIn names key rows 0 end
LastSoFar names key rows end (Some place) = (place < end) × (name_in names (get_or rows place no_row) ≡ key) × OthersIn names key rows (place + 1) end

others_more : (names : List (List ℕ)) (key : List ℕ) (rows : List AttributeRow) (from end : ℕ) → end < length rows → OthersIn names key rows from end → IsOther names key (get_or rows end no_row) → OthersIn names key rows from (end + 1)
others_more names key rows from end lt others one = λ k d le below. elim (cases_eq k end) [
  | inl same ↦ subst (IsOther names key) (get_or_default rows end no_row d lt ∙ ap (λ (n : ℕ). get_or rows n d) (sym same)) one
  | inr other ↦ others k d le (omega arith)
]

pub goes_on : (names : List (List ℕ)) (key : List ℕ) (rows : List AttributeRow) (end : ℕ) (found : Option ℕ) → end < length rows → LastSoFar names key rows end found → IsOther names key (get_or rows end no_row) → LastSoFar names key rows (end + 1) found
goes_on names key rows end None lt so_far one = others_more names key rows 0 end lt so_far one
goes_on names key rows end (Some place) lt so_far one = (let below = so_far.0 in omega arith, so_far.1, others_more names key rows (place + 1) end lt so_far.2 one)

pub found_here : (names : List (List ℕ)) (key : List ℕ) (rows : List AttributeRow) (end : ℕ) → name_in names (get_or rows end no_row) ≡ key → LastSoFar names key rows (end + 1) (Some end)
found_here names key rows end named = (omega arith, named, λ k d le below. absurd (omega arith))

pub absent : (names : List (List ℕ)) (key : List ℕ) (rows : List AttributeRow) (end : ℕ) (found : Option ℕ) → length rows ≤ end → LastSoFar names key rows end found → (texts : List (List ℕ)) → IfNone found (HasNone key (attributes_in names texts rows))
absent names key rows end None le so_far texts = All-map (λ (a : Attribute). a.name ≢ key) (attribute_of names texts) rows (λ k d lt. so_far k d (omega arith) (omega arith))
absent names key rows end (Some place) le so_far texts = _

pub last : (names : List (List ℕ)) (key : List ℕ) (rows : List AttributeRow) (end : ℕ) (found : Option ℕ) → end ≡ length rows → LastSoFar names key rows end found → (texts : List (List ℕ))
    → IfSome found (λ place. IsLastOf key (attributes_in names texts rows) (get_or (attributes_in names texts rows) place no_attribute))
last names key rows end None e so_far texts = _
last names key rows end (Some place) e so_far texts =
    let below = so_far.0 in
    let row : AttributeRow = get_or rows place no_row in
    let cut : drop place rows ≡ row ∷ drop (place + 1) rows = drop_more rows place no_row (omega arith) in
    let one = get_or-map (attribute_of names texts) rows place no_row no_attribute (omega arith) in
    subst (IsLastOf key (attributes_in names texts rows)) (sym one) (record {
      before = attributes_in names texts (take place rows);
      behind = attributes_in names texts (drop (place + 1) rows);
      split = ap (attributes_in names texts) (sym (take-append-drop place rows) ∙ ap (λ (more : List AttributeRow). take place rows ++ more) cut) ∙ map-append (attribute_of names texts) (take place rows) (row ∷ drop (place + 1) rows);
      named = so_far.1;
      last = All-map (λ (other : Attribute). other.name ≢ key) (attribute_of names texts) (drop (place + 1) rows)
          (λ k d lt. subst (IsOther names key) (sym (get_or-drop (place + 1) rows k d)) (so_far.2 (place + 1 + k) d (omega arith) (let l = length-drop (place + 1) rows in omega arith)));
    })

pub within : (names : List (List ℕ)) (key : List ℕ) (rows : List AttributeRow) (end : ℕ) (found : Option ℕ) → end ≤ length rows → LastSoFar names key rows end found → IfSome found (λ place. place < length rows)
within names key rows end None le so_far = _
within names key rows end (Some place) le so_far = let below = so_far.0 in omega arith
