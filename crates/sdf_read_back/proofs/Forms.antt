-- The tokens of a text, as forms of the grammar.
use Rattle.std.proofs.Common.{◌≡◌, ℕ, ◌+◌, Bool, true, false, cond, ◌&&◌, List, [], ◌∷◌, ◌++◌, map, Option, Some, None, refl, sym, ap, ap₂, ◌∙◌, subst, append_assoc, codes}
use Rattle.std.specs.List.{flat_map}
use Rattle.std.specs.Str.{bytes_eq}
use Rattle.std.proofs.lemmas.List.{append-nil}
use Rattle.std.proofs.lemmas.Slice.Eq.{bytes_eq-Decides}
use Rattle.delay_units.specs.declared.quantities.Femto.{Femto}
use Rattle.name_table.specs.SdfNames.{canonical}
use Rattle.token_fronts.specs.Tokens.{numbered}
use Rattle.sdf_reader.specs.Tokens.{Lexeme, meaning}
use Rattle.sdf_reader.specs.Keywords.{same_word, keyword_of}
use Rattle.sdf_reader.specs.Timescales.{timescale_of}
use Rattle.sdf_reader.specs.Grammar.{Tok, own_in_heads, holds_of, nothing_more, and_piece, is_over, IsHead, with_design, with_divider, with_timescale, head_over, AreHeads, no_head, and_head, is_retain, instance_of, IsValueForm, is_empty, is_number, named, and_value, IsEntry, is_entry, is_absolute, IsSpec, is_delay, IsCell, is_cell, unnamed, with_instance, Many, none, more, IsSdf, is_sdf}
use Rattle.sdf_reader.specs.Numbers.{IsValue}
use Rattle.sdf_reader.specs.Rows.{Head, plain_head, Place, rows_of}
use Rattle.sdf_reader.specs.declared.modes.Shape.{Shape}
use Rattle.sdf_reader.specs.declared.modes.Shape.TheVariants.{Path, Wire}
use Rattle.sdf_reader.specs.declared.rows.SdfRow.{SdfRow}
use Rattle.sdf_reader.specs.declared.rows.SdfRow.TheVariants as kind
use Rattle.sdf_reader.specs.declared.words.Keyword.TheVariants as key
use Rattle.sdf_writer.specs.SdfText.{WireRow, PathRow, SdfRows, quoted, before_cells, cells_of}
use Rattle.sdf_read_back.specs.Names.{IsSettled}
use Rattle.sdf_read_back.specs.Rows.{value_of, edge_value, wire_back, path_back, read_back_rows}
use Rattle.sdf_read_back.proofs.Fit.{Each, IsWire, IsPath, IsEdgeDelay}
use Rattle.sdf_read_back.proofs.Lines.{path_tokens_shape}
use Rattle.sdf_read_back.proofs.Quotes.{quoted_means}
use Rattle.sdf_read_back.proofs.TokenLists.{left, right, word, text_token, numbers, edge_tokens, wire_tokens, path_tokens, delay_tokens, cell_tokens, wires_tokens, head_tokens, type_tokens, instance_tokens, design_tokens, sdf_tokens}
use Rattle.sdf_read_back.proofs.Values.{IsDelay as FewTimes, picoseconds, numbers_are_word, numbers_say, low_is_no_keyword}
use Rattle.sdf_reader.proofs.Clashes.{never_empty, same_others}

-- what the heads of the text set
abbrev pub head : Head
head = record { divider = 47; scale = picoseconds }

-- the number of the token behind four
abbrev pub four : ℕ → ℕ
four number = number + 1 + 1 + 1 + 1

-- wherever the tokens stand, they are such a form, and others follow it
abbrev pub Forms : (List Tok → List SdfRow → List Tok → Type 0) → List Lexeme → List SdfRow → Type 0
Forms Part tokens rows = (number : ℕ) (others : List Lexeme) → (next : ℕ) × Part (numbered number (tokens ++ others)) rows (numbered next others)

-- ---- keywords

is_delayfile : keyword_of (codes "DELAYFILE") ≡ Some key.DelayFile
unfolding keyword_of same_word
is_delayfile = refl

is_design : keyword_of (codes "DESIGN") ≡ Some key.Design
unfolding keyword_of same_word
is_design = refl

is_divider_word : keyword_of (codes "DIVIDER") ≡ Some key.Divider
unfolding keyword_of same_word
is_divider_word = refl

is_timescale : keyword_of (codes "TIMESCALE") ≡ Some key.Timescale
unfolding keyword_of same_word
is_timescale = refl

is_cell_word : keyword_of (codes "CELL") ≡ Some key.Cell
unfolding keyword_of same_word
is_cell_word = refl

is_celltype : keyword_of (codes "CELLTYPE") ≡ Some key.CellType
unfolding keyword_of same_word
is_celltype = refl

is_instance : keyword_of (codes "INSTANCE") ≡ Some key.Instance
unfolding keyword_of same_word
is_instance = refl

is_delay_word : keyword_of (codes "DELAY") ≡ Some key.Delay
unfolding keyword_of same_word
is_delay_word = refl

is_absolute_word : keyword_of (codes "ABSOLUTE") ≡ Some key.Absolute
unfolding keyword_of same_word
is_absolute_word = refl

is_iopath : keyword_of (codes "IOPATH") ≡ Some key.IoPath
unfolding keyword_of same_word
is_iopath = refl

is_interconnect : keyword_of (codes "INTERCONNECT") ≡ Some key.Interconnect
unfolding keyword_of same_word
is_interconnect = refl

no_sdfversion : keyword_of (codes "SDFVERSION") ≡ None
unfolding keyword_of same_word
no_sdfversion = refl

no_program : keyword_of (codes "PROGRAM") ≡ None
unfolding keyword_of same_word
no_program = refl

no_version : keyword_of (codes "VERSION") ≡ None
unfolding keyword_of same_word
no_version = refl

is_1ps : timescale_of (codes "1ps") ≡ Some picoseconds
unfolding timescale_of
is_1ps = refl

-- ---- parts one after another

nothing : (Part : List Tok → List SdfRow → List Tok → Type 0) → Forms (Many Part) [] []
nothing Part number others = (number, none)

-- a part before others
before : (Part : List Tok → List SdfRow → List Tok → Type 0) (from middle rest : List Tok) (rows others : List SdfRow) → Part from rows middle → Many Part middle others rest → Many Part from (rows ++ others) rest
before Part from middle rest rows others first none = subst (λ (l : List SdfRow). Many Part from l rest) (sym (append-nil rows)) (more none first)
before Part from middle rest rows others first (more {rows = some} {others = last} many part) =
    subst (λ (l : List SdfRow). Many Part from l rest) (append_assoc rows some last) (more (before Part from middle _ rows some first many) part)

together : (Part : List Tok → List SdfRow → List Tok → Type 0) (one other : List Lexeme) (rows others : List SdfRow) → Forms Part one rows → Forms (Many Part) other others → Forms (Many Part) (one ++ other) (rows ++ others)
together Part one other rows others first many number behind =
    let some = first number (other ++ behind) in
    let last = many some.0 behind in (
      last.0,
      subst (λ (l : List Lexeme). Many Part (numbered number l) (rows ++ others) (numbered last.0 behind)) (sym (append_assoc one other behind))
          (before Part (numbered number (one ++ (other ++ behind))) (numbered some.0 (other ++ behind)) (numbered last.0 behind) rows others some.1 last.1),
    )

-- ---- entries

not_retained : (shape : Shape) (text : List ℕ) → keyword_of text ≡ None → is_retain shape (keyword_of text) ≡ false
not_retained Path text e = ap (is_retain Path) e
not_retained Wire text e = refl

number_is : (shape : Shape) (delay : List Femto) → FewTimes delay → (number : ℕ) (others : List Lexeme)
    → IsValueForm IsValue shape picoseconds (numbered number (left ∷ word (numbers delay) ∷ right ∷ others)) (value_of delay) (numbered (number + 1 + 1 + 1) others)
number_is shape delay is number others =
    is_number refl refl (not_retained shape (numbers delay) (low_is_no_keyword (numbers delay) (numbers_are_word delay is).1)) (numbers_say delay is) refl

wire_row_is : (cell : List ℕ) (row : WireRow) → IsWire row → rows_of 47 (record { cell = cell; instance = Some [] }) Wire row.from row.to (value_of row.delay ∷ []) ≡ wire_back row ∷ []
wire_row_is cell row is = λ i. kind.Wire (is.from.stays i) (is.to.stays i) (value_of row.delay) (value_of row.delay) ∷ []

wire_forms : (cell : List ℕ) (row : WireRow) → IsWire row → Forms (IsEntry IsValue head (record { cell = cell; instance = Some [] })) (wire_tokens row) (wire_back row ∷ [])
wire_forms cell row is number others = (
  four (four number),
  subst (λ (rows : List SdfRow). IsEntry IsValue head (record { cell = cell; instance = Some [] }) (numbered number (wire_tokens row ++ others)) rows (numbered (four (four number)) others))
      (wire_row_is cell row is)
      (is_entry (and_value (named refl is_interconnect refl refl) (number_is Wire row.delay is.delay (four number) (right ∷ others))) refl),
)

wires_forms : (cell : List ℕ) (rows : List WireRow) → Each IsWire rows → Forms (Many (IsEntry IsValue head (record { cell = cell; instance = Some [] }))) (flat_map wire_tokens rows) (map wire_back rows)
wires_forms cell [] each = nothing (IsEntry IsValue head (record { cell = cell; instance = Some [] }))
wires_forms cell (row ∷ rows) each =
    together (IsEntry IsValue head (record { cell = cell; instance = Some [] })) (wire_tokens row) (flat_map wire_tokens rows) (wire_back row ∷ []) (map wire_back rows) (wire_forms cell row each.0) (wires_forms cell rows each.1)

edge_forms : (edge : Option (List Femto)) → IsEdgeDelay edge → (number : ℕ) (others : List Lexeme)
    → (next : ℕ) × IsValueForm IsValue Path picoseconds (numbered number (edge_tokens edge ++ others)) (edge_value edge) (numbered next others)
edge_forms None is number others = (number + 1 + 1, is_empty refl refl)
edge_forms (Some delay) is number others = (number + 1 + 1 + 1, number_is Path delay is number others)

-- a path in a cell
abbrev pub path_in : List ℕ → List ℕ → PathRow → SdfRow
path_in cell instance row = kind.Path cell instance row.from row.to (edge_value row.rise) (edge_value row.fall)

abbrev place_in : List ℕ → List ℕ → Place
place_in cell instance = record { cell = cell; instance = Some instance }

path_row_is : (cell instance : List ℕ) (row : PathRow) → IsPath row → rows_of 47 (place_in cell instance) Path row.from row.to (edge_value row.rise ∷ edge_value row.fall ∷ []) ≡ path_in cell instance row ∷ []
path_row_is cell instance row is = λ i. kind.Path cell instance (is.from.stays i) (is.to.stays i) (edge_value row.rise) (edge_value row.fall) ∷ []

path_forms : (cell instance : List ℕ) (row : PathRow) → IsPath row → Forms (IsEntry IsValue head (place_in cell instance)) (path_tokens row) (path_in cell instance row ∷ [])
path_forms cell instance row is number others =
    let first = edge_forms row.rise is.rise (four number) (edge_tokens row.fall ++ right ∷ others) in
    let second = edge_forms row.fall is.fall first.0 (right ∷ others) in (
      second.0 + 1,
      subst (λ (l : List Lexeme). IsEntry IsValue head (place_in cell instance) (numbered number l) (path_in cell instance row ∷ []) (numbered (second.0 + 1) others)) (sym (path_tokens_shape row others))
          (subst (λ (rows : List SdfRow). IsEntry IsValue head (place_in cell instance) (numbered number (left ∷ word (codes "IOPATH") ∷ word row.from ∷ word row.to ∷ (edge_tokens row.rise ++ (edge_tokens row.fall ++ right ∷ others)))) rows (numbered (second.0 + 1) others))
          (path_row_is cell instance row is)
          (is_entry (and_value (and_value (named refl is_iopath refl refl) first.1) second.1) refl)),
    )

paths_forms : (cell instance : List ℕ) (rows : List PathRow) → Each IsPath rows → Forms (Many (IsEntry IsValue head (place_in cell instance))) (flat_map path_tokens rows) (map (path_in cell instance) rows)
paths_forms cell instance [] each = nothing (IsEntry IsValue head (place_in cell instance))
paths_forms cell instance (row ∷ rows) each =
    together (IsEntry IsValue head (place_in cell instance)) (path_tokens row) (flat_map path_tokens rows) (path_in cell instance row ∷ []) (map (path_in cell instance) rows) (path_forms cell instance row each.0) (paths_forms cell instance rows each.1)

-- ---- cells

delay_forms : (place : Place) (entries : List Lexeme) (rows : List SdfRow) → Forms (Many (IsEntry IsValue head place)) entries rows → Forms (IsSpec IsValue head place) (delay_tokens entries) rows
delay_forms place entries rows forms number others =
    let inside = forms (four number) (right ∷ right ∷ others) in (
      inside.0 + 1 + 1,
      subst (λ (l : List Lexeme). IsSpec IsValue head place (numbered number (left ∷ word (codes "DELAY") ∷ left ∷ word (codes "ABSOLUTE") ∷ l)) rows (numbered (inside.0 + 1 + 1) others)) (sym (append_assoc entries (right ∷ right ∷ []) others))
          (is_delay refl is_delay_word (more none (is_absolute refl is_absolute_word inside.1 refl)) refl),
    )

one_forms : (Part : List Tok → List SdfRow → List Tok → Type 0) (tokens : List Lexeme) (rows : List SdfRow) → Forms Part tokens rows → Forms (Many Part) tokens rows
one_forms Part tokens rows forms number others = let part = forms number others in (part.0, more none part.1)

-- a settled name is no `*`
no_star : (name : List ℕ) → IsSettled name → bytes_eq name (codes "*") ≡ false
no_star name is = by (bytes_eq name (codes "*")) refl
  where
    by : (same : Bool) → bytes_eq name (codes "*") ≡ same → same ≡ false
    by true e =
        let star : name ≡ codes "*" = (bytes_eq-Decides name (codes "*")).0 e in
        let spelled : canonical 47 (codes "*") ≡ codes "*" = subst (λ (n : List ℕ). canonical 47 n ≡ n) star is.stays in
        never_empty (same_others spelled)
    by false e = refl

named_place : (cell instance : List ℕ) → IsSettled instance → record { cell = meaning (quoted cell); instance = instance_of 47 instance } ≡ place_in cell instance
named_place cell instance is = λ i. record {
  cell = quoted_means cell i;
  instance = (ap (λ t. elim t as (λ _. Option (List ℕ)) [ true ↦ None | false ↦ Some (canonical 47 instance) ]) (no_star instance is) ∙ ap (λ n. Some n) is.stays) i;
}

cell_forms : (cell instance : List ℕ) (specs : List Lexeme) (rows : List SdfRow) → IsSettled instance → Forms (Many (IsSpec IsValue head (place_in cell instance))) specs rows
    → Forms (IsCell IsValue head) (type_tokens cell ++ (instance_tokens instance ++ (specs ++ right ∷ []))) rows
cell_forms cell instance specs rows is forms number others =
    let inside = forms (four (four number) + 1 + 1) (right ∷ others) in (
      inside.0 + 1,
      subst (λ (l : List Lexeme). IsCell IsValue head (numbered number (type_tokens cell ++ (instance_tokens instance ++ l))) rows (numbered (inside.0 + 1) others)) (sym (append_assoc specs (right ∷ []) others))
          (is_cell refl is_cell_word refl is_celltype refl refl (with_instance refl is_instance refl refl)
          (subst (λ (place : Place). Many (IsSpec IsValue head place) (numbered (four (four number) + 1 + 1) (specs ++ right ∷ others)) rows (numbered inside.0 (right ∷ others))) (sym (named_place cell instance is)) inside.1)
          refl),
    )

-- the rows of the paths of a cell, and of a cell
abbrev pub said : List PathRow → List SdfRow
said [] = []
said (row ∷ rows) = map (path_in row.cell row.instance) (row ∷ rows)

paths_cell : (row : PathRow) (rows : List PathRow) → Each IsPath (row ∷ rows) → Forms (IsCell IsValue head) (cell_tokens (row ∷ rows)) (said (row ∷ rows))
paths_cell row rows each =
    cell_forms row.cell row.instance (delay_tokens (flat_map path_tokens (row ∷ rows))) (said (row ∷ rows)) each.0.instance
    (one_forms (IsSpec IsValue head (place_in row.cell row.instance)) (delay_tokens (flat_map path_tokens (row ∷ rows))) (said (row ∷ rows))
    (delay_forms (place_in row.cell row.instance) (flat_map path_tokens (row ∷ rows)) (said (row ∷ rows)) (paths_forms row.cell row.instance (row ∷ rows) each)))

cells_forms : (cells : List (List PathRow)) → Each (Each IsPath) cells → Forms (Many (IsCell IsValue head)) (flat_map cell_tokens cells) (flat_map said cells)
cells_forms [] each = nothing (IsCell IsValue head)
cells_forms ([] ∷ cells) each = cells_forms cells each.1
cells_forms ((row ∷ rows) ∷ cells) each =
    together (IsCell IsValue head) (cell_tokens (row ∷ rows)) (flat_map cell_tokens cells) (said (row ∷ rows)) (flat_map said cells) (paths_cell row rows each.0) (cells_forms cells each.1)

-- a path before cells, of which the first is its own or is not
before_said : (row : PathRow) (cells : List (List PathRow)) → flat_map said (before_cells row cells) ≡ path_back row ∷ flat_map said cells
before_said row [] = refl
before_said row ([] ∷ cells) = refl
before_said row ((next ∷ rows) ∷ cells) = by (bytes_eq row.cell next.cell) refl (bytes_eq row.instance next.instance) refl
  where
    apart : path_back row ∷ flat_map said ((next ∷ rows) ∷ cells) ≡ path_back row ∷ flat_map said ((next ∷ rows) ∷ cells)
    apart = refl

    by : (kinds : Bool) → bytes_eq row.cell next.cell ≡ kinds → (instances : Bool) → bytes_eq row.instance next.instance ≡ instances
        → flat_map said (cond (kinds && instances) ((row ∷ next ∷ rows) ∷ cells) ((row ∷ []) ∷ (next ∷ rows) ∷ cells)) ≡ path_back row ∷ flat_map said ((next ∷ rows) ∷ cells)
    by true e true f =
        ap₂ (λ c i. path_back row ∷ (map (path_in c i) (next ∷ rows) ++ flat_map said cells)) ((bytes_eq-Decides row.cell next.cell).0 e) ((bytes_eq-Decides row.instance next.instance).0 f)
    by true e false f = apart
    by false e instances f = apart

cells_said : (rows : List PathRow) → flat_map said (cells_of rows) ≡ map path_back rows
cells_said [] = refl
cells_said (row ∷ rows) = before_said row (cells_of rows) ∙ ap (λ l. path_back row ∷ l) (cells_said rows)

-- ---- the cell of the design

wires_cell : (design : List ℕ) (wires : List WireRow) → Each IsWire wires → Forms (Many (IsSpec IsValue head (record { cell = meaning (quoted design); instance = Some [] }))) (wires_tokens wires) (map wire_back wires)
wires_cell design [] each = nothing (IsSpec IsValue head (record { cell = meaning (quoted design); instance = Some [] }))
wires_cell design (row ∷ rows) each =
    one_forms (IsSpec IsValue head (record { cell = meaning (quoted design); instance = Some [] })) (delay_tokens (flat_map wire_tokens (row ∷ rows))) (map wire_back (row ∷ rows))
    (delay_forms (record { cell = meaning (quoted design); instance = Some [] }) (flat_map wire_tokens (row ∷ rows)) (map wire_back (row ∷ rows)) (wires_forms (meaning (quoted design)) (row ∷ rows) each))

design_forms : (design : List ℕ) (wires : List WireRow) → Each IsWire wires → Forms (IsCell IsValue head) (design_tokens design wires) (map wire_back wires)
design_forms design wires each number others =
    let inside = wires_cell design wires each (four (four number) + 1) (right ∷ others) in (
      inside.0 + 1,
      subst (λ (l : List Lexeme). IsCell IsValue head (numbered number (type_tokens design ++ (left ∷ word (codes "INSTANCE") ∷ right ∷ l))) (map wire_back wires) (numbered (inside.0 + 1) others)) (sym (append_assoc (wires_tokens wires) (right ∷ []) others))
          (is_cell refl is_cell_word refl is_celltype refl refl (unnamed refl is_instance refl) inside.1 refl),
    )

-- ---- the heads

over_is : (bytes text : List ℕ) (others : List Lexeme) (number : ℕ) (set : Head) → keyword_of bytes ≡ None
    → IsHead (numbered number (left ∷ word bytes ∷ text_token text ∷ right ∷ others)) set set (numbered (four number) others)
over_is bytes text others number set e = head_over (is_over refl (refl, ap (holds_of own_in_heads) e) (and_piece nothing_more refl) refl)

design_is : (text : List ℕ) (others : List Lexeme) (number : ℕ) (set : Head) → IsHead (numbered number (left ∷ word (codes "DESIGN") ∷ text_token text ∷ right ∷ others)) set set (numbered (four number) others)
design_is text others number set = with_design refl is_design refl refl

divider_is : (others : List Lexeme) (number : ℕ) (set : Head) → IsHead (numbered number (left ∷ word (codes "DIVIDER") ∷ word (47 ∷ []) ∷ right ∷ others)) set (record { divider = 47; scale = set.scale }) (numbered (four number) others)
divider_is others number set = with_divider refl is_divider_word refl refl refl refl

timescale_is : (others : List Lexeme) (number : ℕ) (set : Head) → IsHead (numbered number (left ∷ word (codes "TIMESCALE") ∷ word (codes "1ps") ∷ right ∷ others)) set (record { divider = set.divider; scale = picoseconds }) (numbered (four number) others)
timescale_is others number set = with_timescale refl is_timescale refl is_1ps refl

heads_are : (design : List ℕ) (number : ℕ) (others : List Lexeme) → (next : ℕ) × AreHeads (numbered number (head_tokens design ++ others)) head (numbered next others)
heads_are design number others =
    let scale : List Lexeme = left ∷ word (codes "TIMESCALE") ∷ word (codes "1ps") ∷ right ∷ others in
    let divider : List Lexeme = left ∷ word (codes "DIVIDER") ∷ word (47 ∷ []) ∷ right ∷ scale in
    let version : List Lexeme = left ∷ word (codes "VERSION") ∷ text_token (codes "1") ∷ right ∷ divider in
    let program : List Lexeme = left ∷ word (codes "PROGRAM") ∷ text_token (codes "gdc") ∷ right ∷ version in
    let name : List Lexeme = left ∷ word (codes "DESIGN") ∷ text_token design ∷ right ∷ program in (
      four (four (four (four (four (four number))))),
      and_head (and_head (and_head (and_head (and_head (and_head no_head
          (over_is (codes "SDFVERSION") (codes "3.0") name number plain_head no_sdfversion))
          (design_is design program (four number) plain_head))
          (over_is (codes "PROGRAM") (codes "gdc") version (four (four number)) plain_head no_program))
          (over_is (codes "VERSION") (codes "1") divider (four (four (four number))) plain_head no_version))
          (divider_is scale (four (four (four (four number)))) plain_head))
          (timescale_is others (four (four (four (four (four number))))) (record { divider = 47; scale = plain_head.scale })),
    )

-- ---- the file

all_cells : (rows : SdfRows) → Each IsWire rows.wires → Each (Each IsPath) (cells_of rows.paths) → Forms (Many (IsCell IsValue head)) (design_tokens rows.design rows.wires ++ flat_map cell_tokens (cells_of rows.paths)) (map wire_back rows.wires ++ flat_map said (cells_of rows.paths))
all_cells rows wires cells =
    together (IsCell IsValue head) (design_tokens rows.design rows.wires) (flat_map cell_tokens (cells_of rows.paths)) (map wire_back rows.wires) (flat_map said (cells_of rows.paths))
    (design_forms rows.design rows.wires wires) (cells_forms (cells_of rows.paths) cells)

pub tokens_formed : (rows : SdfRows) → Each IsWire rows.wires → Each (Each IsPath) (cells_of rows.paths) → IsSdf (numbered 1 (sdf_tokens rows)) (read_back_rows rows)
tokens_formed rows wires cells =
    let behind : List Lexeme = design_tokens rows.design rows.wires ++ (flat_map cell_tokens (cells_of rows.paths) ++ right ∷ []) in
    let heads = heads_are rows.design 3 behind in
    let all = all_cells rows wires cells heads.0 (right ∷ []) in
    let shape : (design_tokens rows.design rows.wires ++ flat_map cell_tokens (cells_of rows.paths)) ++ right ∷ [] ≡ behind = append_assoc (design_tokens rows.design rows.wires) (flat_map cell_tokens (cells_of rows.paths)) (right ∷ []) in
    let many : Many (IsCell IsValue head) (numbered heads.0 behind) (map wire_back rows.wires ++ map path_back rows.paths) (numbered all.0 (right ∷ [])) =
    subst (λ (l : List SdfRow). Many (IsCell IsValue head) (numbered heads.0 behind) (map wire_back rows.wires ++ l) (numbered all.0 (right ∷ []))) (cells_said rows.paths)
    (subst (λ (l : List Lexeme). Many (IsCell IsValue head) (numbered heads.0 l) (map wire_back rows.wires ++ flat_map said (cells_of rows.paths)) (numbered all.0 (right ∷ []))) shape all.1) in
    is_sdf refl is_delayfile heads.1 many refl
