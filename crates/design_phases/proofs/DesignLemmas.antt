-- The files of a design are read one after another, and a fault at one of them has its cause.
use Rattle.std.proofs.Common.{◌≡◌, ℕ, suc, ◌≤◌, ◌⊎◌, inl, inr, List, ◌∷◌, Option, Some, refl, sym, subst, arith}
use Rattle.std.specs.Prelude.{slice_get}
use Rattle.edge_io.specs.Counts.{Rose, RoseBy}
use Rattle.edge_io.specs.Holding.{Held, TellsMissing}
use Rattle.verdict_phases.specs.Phases.{Unread, Reads, Step, Go, Halt}
use Rattle.design_phases.specs.DesignReading.{ReadsNetlistFile, LinkedDesign, ReadsInputs, at_libraries, ReadsDesign, at_netlist, at_inputs, ReadsDesignOf, input_key, IsInputFault}
use Rattle.design_phases.specs.LibraryReading.{library_key, ReadsLibrary, at_file, ReadsLibraries, stops_at, IsLibraryFault}
use Rattle.refusals.specs.declared.refusal.FileKey.{FileKey}
use Rattle.refusals.specs.declared.refusal.FileKey.TheVariants.{Netlist}
use Rattle.refusals.specs.declared.refusal.Refusal.{Refusal}

-- a fault at the netlist
pub netlist_fault : (held : Option Held) (corners : ℕ) (file : List ℕ) (libraries : List (List ℕ)) (faults faults' opens opens' : ℕ) → Rose faults faults' ⊎ TellsMissing held file → RoseBy 1 opens opens'
    → IsInputFault held corners (file ∷ libraries) faults faults' opens opens' Netlist
netlist_fault held corners file libraries faults faults' opens opens' cause opened = record {
  before = 0;
  name = file;
  named = refl;
  keyed = refl;
  cause = cause;
  opened = opened;
}

-- and at a library, which is read behind it
pub library_fault : (held held' : Option Held) (corners : ℕ) (file : List ℕ) (libraries : List (List ℕ)) (faults faults' faults₂ opens opens' opens₂ : ℕ) (key : FileKey) → held' ≡ held → faults ≤ faults' → RoseBy 1 opens opens'
    → IsLibraryFault held' corners libraries faults' faults₂ opens' opens₂ key → IsInputFault held corners (file ∷ libraries) faults faults₂ opens opens₂ key
library_fault held held' corners file libraries faults faults' faults₂ opens opens' opens₂ key same later opened fault = record {
  before = suc fault.corner;
  name = fault.name;
  named = fault.named;
  keyed = fault.keyed;
  cause = elim fault.cause [
    | inl rose ↦ inl (omega (arith, later, rose))
    | inr missing ↦ inr (subst (λ (h : Option Held). TellsMissing h fault.name) same missing)
  ];
  opened = let more = fault.opened in omega (arith, opened, more);
}

-- the design comes of the bytes of the netlist's file, as they are lent
pub of_bytes : (held held' : Option Held) (corners : ℕ) (file top : List ℕ) (libraries : List (List ℕ)) (text bytes : List ℕ) (step : Step Refusal FileKey LinkedDesign) → held' ≡ held → bytes ≡ text
    → ReadsNetlistFile held file (Go text) → ReadsDesignOf held' corners bytes top libraries step → ReadsDesign held corners file top libraries step
of_bytes held held' corners file top libraries text bytes step same is reads follows =
    subst (λ (h : Option Held). ReadsDesign h corners file top libraries step) same
    (follows file (subst (λ (h : Option Held). ReadsNetlistFile h file (Go bytes)) (sym same) (subst (λ (b : List ℕ). ReadsNetlistFile held file (Go b)) (sym is) reads)))

-- ---- where the phases come to the reading of a file, they come to a file that is not held

-- the file of a key among those that are read, and that it is not held decides
pub record ComesTo (held : Option Held) (corners : ℕ) (file top : List ℕ) (libraries : List (List ℕ)) (key : FileKey) : Type 0 where
  pub before : ℕ
  pub name : List ℕ
  pub named : slice_get (file ∷ libraries) before ≡ Some name
  pub keyed : key ≡ input_key corners before
  pub unread : TellsMissing held name → ReadsDesign held corners file top libraries (Halt (Unread key))

reads_library : (held : Option Held) (corners corner : ℕ) (name : List ℕ) (key : FileKey) → ReadsLibrary held corners corner name (Halt (Reads key)) → key ≡ library_key corners corner
reads_library held corners corner name key (at_file why reads) = reads

unread_library : (held : Option Held) (corners corner : ℕ) (name : List ℕ) (key : FileKey) → key ≡ library_key corners corner → TellsMissing held name → ReadsLibrary held corners corner name (Halt (Unread key))
unread_library held corners corner name key keyed missing = at_file (Unread key) (missing, keyed)

-- the library at which the libraries stop
pub record StopsAt (held : Option Held) (corners : ℕ) (libraries : List (List ℕ)) (key : FileKey) : Type 0 where
  pub corner : ℕ
  pub name : List ℕ
  pub named : slice_get libraries corner ≡ Some name
  pub keyed : key ≡ library_key corners corner
  pub unread : TellsMissing held name → ReadsLibraries held corners libraries (Halt (Unread key))

stop_of : (held : Option Held) (corners : ℕ) (libraries : List (List ℕ)) (key : FileKey) → ReadsLibraries held corners libraries (Halt (Reads key)) → StopsAt held corners libraries key
stop_of held corners libraries key (stops_at corner name before why below first named reads) =
    let keyed = reads_library held corners corner name key reads in
    record {
      corner = corner;
      name = name;
      named = named;
      keyed = keyed;
      unread = λ missing. stops_at corner name before (Unread key) below first named (unread_library held corners corner name key keyed missing);
    }

-- and the inputs
pub record StopsInputs (held : Option Held) (corners : ℕ) (bytes top : List ℕ) (libraries : List (List ℕ)) (key : FileKey) : Type 0 where
  pub stop : StopsAt held corners libraries key
  pub unread : TellsMissing held stop.name → ReadsInputs held corners bytes top libraries (Halt (Unread key))

pub inputs_stop : (held : Option Held) (corners : ℕ) (bytes top : List ℕ) (libraries : List (List ℕ)) (key : FileKey) → ReadsInputs held corners bytes top libraries (Halt (Reads key))
    → StopsInputs held corners bytes top libraries key
inputs_stop held corners bytes top libraries key (at_libraries modules used why parses uses reads) =
    let stop = stop_of held corners libraries key reads in
    record { stop = stop; unread = λ missing. at_libraries modules used (Unread key) parses uses (stop.unread missing) }

pub comes_to : (held : Option Held) (corners : ℕ) (file top : List ℕ) (libraries : List (List ℕ)) (key : FileKey) → ReadsDesign held corners file top libraries (Halt (Reads key)) → ComesTo held corners file top libraries key
comes_to held corners file top libraries key (at_netlist why reads) =
    record { before = 0; name = file; named = refl; keyed = reads; unread = λ missing. at_netlist (Unread key) (missing, reads) }
comes_to held corners file top libraries key (at_inputs bytes why reads inputs) =
    let stops = inputs_stop held corners bytes top libraries key inputs in
    record {
      before = suc stops.stop.corner;
      name = stops.stop.name;
      named = stops.stop.named;
      keyed = stops.stop.keyed;
      unread = λ missing. at_inputs bytes (Unread key) reads (stops.unread missing);
    }
