-- The phase that reads a file of at most so many bytes.
use Rattle.std.specs.Prelude.{◌≡◌, ℕ, ◌≤◌, List, length, Option}
use Rattle.edge_io.specs.Holding.{Held, TellsMissing, HoldsFile, HoldsMore}
use Rattle.verdict_phases.specs.Phases.{Step, Go, Halt, RefusedBy, Unread, Reads}

-- the file's bytes, or why they are not read: it is too long, or it is not held. A fault may come in any case
abbrev pub ReadsFile : {R K : Type 0} → ℕ → Option Held → K → R → List ℕ → Step R K (List ℕ) → Type 0
ReadsFile limit held key too_long name (Go bytes) = HoldsFile held name bytes × (length bytes ≤ limit)
ReadsFile limit held key too_long name (Halt (RefusedBy refusal)) = HoldsMore held name limit × (refusal ≡ too_long)
ReadsFile limit held key too_long name (Halt (Unread missing)) = TellsMissing held name × (missing ≡ key)
ReadsFile limit held key too_long name (Halt (Reads reading)) = reading ≡ key
