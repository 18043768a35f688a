-- The libraries of a run are read, one for each corner, in the order of the corners.
use Rattle.std.specs.Prelude.{◌≡◌, ℕ, ◌+◌, ◌<◌, ◌⊎◌, ◌==◌, if◌then◌else◌, List, length, slice_get, Option, Some, Ok, Err}
use Rattle.edge_io.specs.Counts.{Rose, RoseBy}
use Rattle.edge_io.specs.Holding.{Held, TellsMissing}
use Rattle.liberty_groups.specs.Groups.{Group}
use Rattle.verdict_phases.specs.Phases.{Stop, RefusedBy, Step, Go, Halt}
use Rattle.refusals.specs.InputFiles.{ReadsInput}
use Rattle.design_phases.specs.LibraryPhases.{ParsesLibrary}
use Rattle.refusals.specs.declared.refusal.FileKey.{FileKey}
use Rattle.refusals.specs.declared.refusal.FileKey.TheVariants.{Lib, LibMin, LibTyp, LibMax}
use Rattle.refusals.specs.declared.refusal.Refusal.{Refusal}

-- the key of the library of a corner, in a run with so many corners
abbrev pub library_key : ℕ → ℕ → FileKey
library_key corners corner =
    if corners == 1 then Lib else if corner == 0 then LibMin else if corner == 1 then LibTyp else LibMax

-- the library of a corner is read: its file, and then its grammar
pub data ReadsLibrary (held : Option Held) (corners corner : ℕ) (name : List ℕ) : Step Refusal FileKey Group → Type 0 where
  at_file : (why : Stop Refusal FileKey) → ReadsInput held (library_key corners corner) name (Halt why)
      → ReadsLibrary held corners corner name (Halt why)
  at_tree : (bytes : List ℕ) (refusal : Refusal) → ReadsInput held (library_key corners corner) name (Go bytes)
      → ParsesLibrary corner bytes (Err refusal) → ReadsLibrary held corners corner name (Halt (RefusedBy refusal))
  with_tree : (bytes : List ℕ) (library : Group) → ReadsInput held (library_key corners corner) name (Go bytes)
      → ParsesLibrary corner bytes (Ok library) → ReadsLibrary held corners corner name (Go library)

-- the library of a corner is the one of its file, by the names of the files in the order of the corners
pub record IsLibrary (held : Option Held) (corners : ℕ) (names : List (List ℕ)) (corner : ℕ) (library : Group) : Type 0 where
  pub name : List ℕ
  pub named : slice_get names corner ≡ Some name
  pub reads : ReadsLibrary held corners corner name (Go library)

-- the libraries of the first corners are read, so many of them
pub record AreFirst (held : Option Held) (corners : ℕ) (names : List (List ℕ)) (count : ℕ) (libraries : List Group) : Type 0 where
  pub counted : length libraries ≡ count
  pub each : (corner : ℕ) (library : Group) → slice_get libraries corner ≡ Some library → IsLibrary held corners names corner library

-- the libraries of all corners are read, or that of the first corner that stops
pub data ReadsLibraries (held : Option Held) (corners : ℕ) (names : List (List ℕ)) : Step Refusal FileKey (List Group) → Type 0 where
  all_read : (libraries : List Group) → AreFirst held corners names corners libraries
      → ReadsLibraries held corners names (Go libraries)
  stops_at : (corner : ℕ) (name : List ℕ) (before : List Group) (why : Stop Refusal FileKey) → corner < corners
      → AreFirst held corners names corner before → slice_get names corner ≡ Some name
      → ReadsLibrary held corners corner name (Halt why) → ReadsLibraries held corners names (Halt why)

-- A fault at the library of a corner has its cause: the count of faults rose, or the shelf tells that it does not hold the file. The
-- files of the corners up to this one were opened.
pub record IsLibraryFault (held : Option Held) (corners : ℕ) (names : List (List ℕ)) (faults faults' opens opens' : ℕ)
    (key : FileKey) : Type 0 where
  pub corner : ℕ
  pub name : List ℕ
  pub within : corner < corners
  pub named : slice_get names corner ≡ Some name
  pub keyed : key ≡ library_key corners corner
  pub cause : Rose faults faults' ⊎ TellsMissing held name
  pub opened : RoseBy (corner + 1) opens opens'
