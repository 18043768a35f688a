-- What is answered for a file.
use Rattle.std.specs.Prelude.{◌≡◌, ℕ, List, Result, Ok, Err, ⊤}
use Rattle.token_fronts.specs.Reading.{Says}
use Rattle.sdf_reader.specs.Tokens.{AreTokens, IsToken}
use Rattle.sdf_reader.specs.Grammar.{IsSdf}
use Rattle.sdf_reader.specs.declared.rows.SdfRow.{SdfRow}
use Rattle.sdf_reader.specs.declared.ends.SdfCause.{SdfCause}
use Rattle.sdf_reader.specs.declared.ends.SdfEnd.{SdfEnd}
use Rattle.sdf_reader.specs.declared.ends.SdfEnd.TheVariants.{Syntax, OutOfMemory}

-- the bytes are an SDF file, and it says these rows
abbrev pub SaysRows : List ℕ → List SdfRow → Type 0
SaysRows bytes rows = Says AreTokens IsToken IsSdf bytes rows

-- where a fault is answered, it is so
abbrev pub IfSyntax : {A : Type 0} → Result A SdfEnd → (ℕ → SdfCause → Type 0) → Type 0
IfSyntax (Ok answer) holds = ⊤
IfSyntax (Err (Syntax token cause)) holds = holds token cause
IfSyntax (Err OutOfMemory) holds = ⊤

-- these rows are answered, unless memory ran out
abbrev pub Gives : List SdfRow → Result (List SdfRow) SdfEnd → Type 0
Gives rows (Ok answer) = answer ≡ rows
Gives rows (Err (Syntax token cause)) = ⊥
Gives rows (Err OutOfMemory) = ⊤
