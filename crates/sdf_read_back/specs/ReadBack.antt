-- The read-back law: what was written is what is read.
use Rattle.std.specs.Prelude.{◌≡◌, ℕ, ◌⊎◌, List, length}
use Rattle.std.specs.List.{All}
use Rattle.sdf_reader.specs.Answers.{SaysRows}
use Rattle.sdf_reader.specs.declared.rows.SdfRow.{SdfRow}
use Rattle.sdf_writer.specs.Bounds.{AreWithin}
use Rattle.sdf_writer.specs.PathRows.{IsEdge}
use Rattle.sdf_writer.specs.SdfText.{WireRow, PathRow, SdfRows, sdf_text}
use Rattle.sdf_read_back.specs.Rows.{read_back_rows}

-- a wire that may be added for so many corners, and whose names are such
pub record IsWireFit (IsName : List ℕ → Type 0) (count : ℕ) (row : WireRow) : Type 0 where
  pub from : IsName row.from
  pub to : IsName row.to
  pub one_row : length row.delay ≡ count
  pub within : AreWithin row.delay

-- The same of a path. The type of its cell is a plain text, which may be any.
pub record IsPathFit (IsName : List ℕ → Type 0) (count : ℕ) (row : PathRow) : Type 0 where
  pub instance : IsName row.instance
  pub from : IsName row.from
  pub to : IsName row.to
  pub rise : IsEdge count row.rise
  pub fall : IsEdge count row.fall

-- the name of the design may be any text
pub record AreFit (IsName : List ℕ → Type 0) (count : ℕ) (rows : SdfRows) : Type 0 where
  pub wires : All (IsWireFit IsName count) rows.wires
  pub paths : All (IsPathFit IsName count) rows.paths

-- the text of rows for one corner or for three, with such names, says the rows that are read back
abbrev pub ReadBack : (List ℕ → Type 0) → Type 0
ReadBack IsName = (count : ℕ) → (count ≡ 1) ⊎ (count ≡ 3) → (rows : SdfRows) → AreFit IsName count rows
    → SaysRows (sdf_text rows) (read_back_rows rows)

-- and no others
abbrev pub OnlyReadBack : (List ℕ → Type 0) → Type 0
OnlyReadBack IsName =
    (count : ℕ) → (count ≡ 1) ⊎ (count ≡ 3) → (rows : SdfRows) → AreFit IsName count rows → (others : List SdfRow)
    → SaysRows (sdf_text rows) others → others ≡ read_back_rows rows
