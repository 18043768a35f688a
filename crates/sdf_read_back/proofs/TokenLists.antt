-- The tokens of a text that is written.
use Rattle.std.specs.Prelude.{ℕ, List, [], ◌∷◌, ◌++◌, map, Option, Some, None, codes}
use Rattle.std.specs.List.{flat_map, join_with_byte}
use Rattle.delay_units.specs.declared.quantities.Femto.{Femto}
use Rattle.delay_units.specs.Printing.{femto_text}
use Rattle.sdf_reader.specs.Tokens.{Lexeme}
use Rattle.sdf_reader.specs.declared.scan.Kind.TheVariants.{LeftParen, RightParen, Word, Quoted}
use Rattle.sdf_writer.specs.SdfText.{WireRow, PathRow, SdfRows, quoted, cells_of}

abbrev pub left : Lexeme
left = record { kind = LeftParen; bytes = 40 ∷ [] }

abbrev pub right : Lexeme
right = record { kind = RightParen; bytes = 41 ∷ [] }

abbrev pub word : List ℕ → Lexeme
word bytes = record { kind = Word; bytes = bytes }

abbrev pub text_token : List ℕ → Lexeme
text_token text = record { kind = Quoted; bytes = quoted text }

-- the numbers of a value
abbrev pub numbers : List Femto → List ℕ
numbers delay = join_with_byte 58 (map femto_text delay)

abbrev pub edge_tokens : Option (List Femto) → List Lexeme
edge_tokens None = left ∷ right ∷ []
edge_tokens (Some delay) = left ∷ word (numbers delay) ∷ right ∷ []

abbrev pub wire_tokens : WireRow → List Lexeme
wire_tokens row = left ∷ word (codes "INTERCONNECT") ∷ word row.from ∷ word row.to ∷ left ∷ word (numbers row.delay) ∷ right ∷ right ∷ []

abbrev pub path_tokens : PathRow → List Lexeme
path_tokens row = left ∷ word (codes "IOPATH") ∷ word row.from ∷ word row.to ∷ (edge_tokens row.rise ++ (edge_tokens row.fall ++ right ∷ []))

-- entries in an ABSOLUTE in a DELAY
abbrev pub delay_tokens : List Lexeme → List Lexeme
delay_tokens entries = left ∷ word (codes "DELAY") ∷ left ∷ word (codes "ABSOLUTE") ∷ (entries ++ right ∷ right ∷ [])

abbrev pub type_tokens : List ℕ → List Lexeme
type_tokens cell = left ∷ word (codes "CELL") ∷ left ∷ word (codes "CELLTYPE") ∷ text_token cell ∷ right ∷ []

abbrev pub instance_tokens : List ℕ → List Lexeme
instance_tokens instance = left ∷ word (codes "INSTANCE") ∷ word instance ∷ right ∷ []

-- the cell of some paths
abbrev pub cell_tokens : List PathRow → List Lexeme
cell_tokens [] = []
cell_tokens (row ∷ rows) = type_tokens row.cell ++ (instance_tokens row.instance ++ (delay_tokens (flat_map path_tokens (row ∷ rows)) ++ right ∷ []))

-- the cell of the design, and its DELAY, which stands there if there is a wire
abbrev pub wires_tokens : List WireRow → List Lexeme
wires_tokens [] = []
wires_tokens (row ∷ rows) = delay_tokens (flat_map wire_tokens (row ∷ rows))

abbrev pub design_tokens : List ℕ → List WireRow → List Lexeme
design_tokens design wires = type_tokens design ++ (left ∷ word (codes "INSTANCE") ∷ right ∷ (wires_tokens wires ++ right ∷ []))

abbrev pub head_tokens : List ℕ → List Lexeme
head_tokens design =
    left ∷ word (codes "SDFVERSION") ∷ text_token (codes "3.0") ∷ right
    ∷ left ∷ word (codes "DESIGN") ∷ text_token design ∷ right
    ∷ left ∷ word (codes "PROGRAM") ∷ text_token (codes "gdc") ∷ right
    ∷ left ∷ word (codes "VERSION") ∷ text_token (codes "1") ∷ right
    ∷ left ∷ word (codes "DIVIDER") ∷ word (47 ∷ []) ∷ right
    ∷ left ∷ word (codes "TIMESCALE") ∷ word (codes "1ps") ∷ right
    ∷ []

abbrev pub sdf_tokens : SdfRows → List Lexeme
sdf_tokens rows = left ∷ word (codes "DELAYFILE") ∷ (head_tokens rows.design ++ (design_tokens rows.design rows.wires ++ (flat_map cell_tokens (cells_of rows.paths) ++ right ∷ [])))
