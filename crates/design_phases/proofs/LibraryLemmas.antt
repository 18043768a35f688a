-- The libraries of the corners are read one after another.
use Rattle.std.proofs.Common.{◌≡◌, ℕ, ◌+◌, ◌<◌, ◌≤◌, ◌⊎◌, inl, inr, List, [], ◌∷◌, ◌++◌, length, map, Option, Some, Result, Ok, Err, refl, sym, ap, ◌∙◌, subst, arith, length-append}
use Rattle.std.specs.Prelude.{slice_get, IsErrAnd}
use Rattle.std.proofs.lemmas.List.{length-map, map-append}
use Rattle.edge_io.specs.Counts.{Rose, RoseBy}
use Rattle.edge_io.specs.Holding.{Held, TellsMissing}
use Rattle.liberty_groups.specs.Groups.{Group}
use Rattle.liberty_groups.specs.Tables.{Tables, tree_of}
use Rattle.verdict_phases.specs.Lifting.{IsLifted}
use Rattle.verdict_phases.specs.Phases.{Stop, RefusedBy, Reads, Step, Go, Halt, Follows, FollowsNoFile}
use Rattle.verdict_phases.specs.declared.ends.NoFileEnd.{NoFileEnd}
use Rattle.verdict_phases.specs.declared.ends.NoFileEnd.TheVariants as no_file
use Rattle.verdict_phases.specs.declared.ends.PhaseEnd.{PhaseEnd}
use Rattle.verdict_phases.specs.declared.ends.PhaseEnd.TheVariants as phase
use Rattle.refusals.specs.declared.refusal.FileKey.{FileKey}
use Rattle.refusals.specs.declared.refusal.Refusal.{Refusal}
use Rattle.design_phases.specs.LibraryReading.{library_key, ReadsLibrary, IsLibrary, AreFirst, ReadsLibraries, all_read, stops_at, IsLibraryFault}
use Rattle.refusals.specs.Refused.{AtReadFault, OnStop}
use Rattle.refusals.proofs.Places.{within, at_end}

-- what is known before a corner: the libraries of those before it are read, and each of their files was opened once
pub record Before (held : Option Held) (corners : ℕ) (names : List (List ℕ)) (faults opens : ℕ) (corner : ℕ) (trees : List Tables) (held' : Option Held) (faults' opens' : ℕ) : Type 0 where
  pub first : AreFirst held corners names corner (map tree_of trees)
  pub same : held' ≡ held
  pub later : faults ≤ faults'
  pub opened : RoseBy corner opens opens'

module _ (held : Option Held) (corners : ℕ) (names : List (List ℕ)) where
  none_first : AreFirst held corners names 0 []
  none_first = record { counted = refl; each = λ corner library at. let past = within [] corner library at in absurd (omega (arith, past)) }

  first_more : (corner : ℕ) (name : List ℕ) (tree : Tables) (trees : List Tables) → AreFirst held corners names corner (map tree_of trees) → slice_get names corner ≡ Some name → ReadsLibrary held corners corner name (Go (tree_of tree))
      → AreFirst held corners names (corner + 1) (map tree_of (trees ++ tree ∷ []))
  first_more corner name tree trees first named reads =
      subst (λ (l : List Group). AreFirst held corners names (corner + 1) l) (sym (map-append tree_of trees (tree ∷ []))) (record {
        counted = length-append (map tree_of trees) (tree_of tree ∷ []) ∙ ap (λ n. n + 1) first.counted;
        each = λ k library at. elim (at_end (map tree_of trees) (tree_of tree) k library at) [
          | inl earlier ↦ first.each k library earlier
          | inr last ↦ subst (λ n. IsLibrary held corners names n library) (sym (last.0 ∙ first.counted)) (subst (λ (l : Group). IsLibrary held corners names corner l) last.1 (record { name = name; named = named; reads = reads }))
        ];
      })

  module _ (faults opens : ℕ) where
    pub before_first : (trees : List Tables) → trees ≡ [] → Before held corners names faults opens 0 trees held faults opens
    before_first trees is = record {
      first = subst (λ (t : List Tables). AreFirst held corners names 0 (map tree_of t)) (sym is) none_first;
      same = refl;
      later = omega arith;
      opened = omega arith;
    }

    -- the library of one corner more
    pub one_more : (corner : ℕ) (name : List ℕ) (tree : Tables) (trees more : List Tables) (held' held₂ : Option Held) (faults' faults₂ opens' opens₂ : ℕ) → Before held corners names faults opens corner trees held' faults' opens' → slice_get names corner ≡ Some name
        → ReadsLibrary held' corners corner name (Go (tree_of tree)) → held₂ ≡ held' → faults' ≤ faults₂ → RoseBy 1 opens' opens₂ → more ≡ trees ++ tree ∷ [] → Before held corners names faults opens (corner + 1) more held₂ faults₂ opens₂
    one_more corner name tree trees more held' held₂ faults' faults₂ opens' opens₂ before named reads same later opened is = record {
      first = subst (λ (t : List Tables). AreFirst held corners names (corner + 1) (map tree_of t)) (sym is) (first_more corner name tree trees before.first named (subst (λ (h : Option Held). ReadsLibrary h corners corner name (Go (tree_of tree))) before.same reads));
      same = same ∙ before.same;
      later = omega (arith, before.later, later);
      opened = omega (arith, before.opened, opened);
    }

    -- the phases stop at the library of a corner
    pub stops_there : (corner : ℕ) (name : List ℕ) (trees : List Tables) (held' : Option Held) (faults' opens' : ℕ) (why : Stop Refusal FileKey) → Before held corners names faults opens corner trees held' faults' opens' → corner < corners
        → slice_get names corner ≡ Some name → ReadsLibrary held' corners corner name (Halt why) → ReadsLibraries held corners names (Halt why)
    stops_there corner name trees held' faults' opens' why before below named reads =
        stops_at corner name (map tree_of trees) why below before.first named (subst (λ (h : Option Held). ReadsLibrary h corners corner name (Halt why)) before.same reads)

    -- and a fault there has its cause
    pub fault_there : (corner : ℕ) (name : List ℕ) (trees : List Tables) (held' : Option Held) (faults' faults₂ opens' opens₂ : ℕ) (key : FileKey) → Before held corners names faults opens corner trees held' faults' opens' → corner < corners
        → slice_get names corner ≡ Some name → key ≡ library_key corners corner → Rose faults' faults₂ ⊎ TellsMissing held' name → RoseBy 1 opens' opens₂ → IsLibraryFault held corners names faults faults₂ opens opens₂ key
    fault_there corner name trees held' faults' faults₂ opens' opens₂ key before below named keyed cause opened = record {
      corner = corner;
      name = name;
      within = below;
      named = named;
      keyed = keyed;
      cause = elim cause [
        | inl rose ↦ inl (omega (arith, before.later, rose))
        | inr missing ↦ inr (subst (λ (h : Option Held). TellsMissing h name) before.same missing)
      ];
      opened = omega (arith, before.opened, opened);
    }

    -- the libraries of all corners
    pub all_there : (corner : ℕ) (trees : List Tables) (held' : Option Held) (faults' opens' : ℕ) → corners ≤ corner → corner ≤ corners → Before held corners names faults opens corner trees held' faults' opens' → ReadsLibraries held corners names (Go (map tree_of trees))
    all_there corner trees held' faults' opens' past up before =
        let all : corner ≡ corners = omega (arith, past, up) in
        all_read (map tree_of trees) (subst (λ (n : ℕ). AreFirst held corners names n (map tree_of trees)) all before.first)

-- why the phases stop, handed on
on_stop : (A B : Type 0) (end : PhaseEnd Refusal FileKey) (P Q : Stop Refusal FileKey → Type 0) → OnStop {A = A} (Err end) P → ((why : Stop Refusal FileKey) → P why → Q why) → OnStop {A = B} (Err end) Q
on_stop A B (phase.Refused refusal) P Q holds more = more (RefusedBy refusal) holds
on_stop A B (phase.ReadFault key) P Q holds more = more (Reads key) holds
on_stop A B phase.OutOfMemory P Q holds more = tt

pub stop_on : (A B : Type 0) (result : Result B (PhaseEnd Refusal FileKey)) (end : PhaseEnd Refusal FileKey) (P Q : Stop Refusal FileKey → Type 0) → IsErrAnd result (λ other. other ≡ end) → OnStop {A = A} (Err end) P
    → ((why : Stop Refusal FileKey) → P why → Q why) → OnStop result Q
stop_on A B (Ok value) end P Q is holds more = tt
stop_on A B (Err other) end P Q is holds more = on_stop A B other P Q (subst (λ (e : PhaseEnd Refusal FileKey). OnStop {A = A} (Err e) P) (sym is) holds) more

-- and the key of a fault
on_fault : (A B : Type 0) (end : PhaseEnd Refusal FileKey) (P Q : FileKey → Type 0) → AtReadFault {A = A} (Err end) P → ((key : FileKey) → P key → Q key) → AtReadFault {A = B} (Err end) Q
on_fault A B (phase.Refused refusal) P Q holds more = tt
on_fault A B (phase.ReadFault key) P Q holds more = more key holds
on_fault A B phase.OutOfMemory P Q holds more = tt

pub fault_on : (A B : Type 0) (result : Result B (PhaseEnd Refusal FileKey)) (end : PhaseEnd Refusal FileKey) (P Q : FileKey → Type 0) → IsErrAnd result (λ other. other ≡ end) → AtReadFault {A = A} (Err end) P
    → ((key : FileKey) → P key → Q key) → AtReadFault result Q
fault_on A B (Ok value) end P Q is holds more = tt
fault_on A B (Err other) end P Q is holds more = on_fault A B other P Q (subst (λ (e : PhaseEnd Refusal FileKey). AtReadFault {A = A} (Err e) P) (sym is) holds) more

-- so is the end of phases
on_halt : (A B : Type 0) (end : PhaseEnd Refusal FileKey) (P : Step Refusal FileKey A → Type 0) (Q : Step Refusal FileKey B → Type 0) → Follows P (Err end) → ((why : Stop Refusal FileKey) → P (Halt why) → Q (Halt why)) → Follows Q (Err end)
on_halt A B (phase.Refused refusal) P Q holds more = more (RefusedBy refusal) holds
on_halt A B (phase.ReadFault key) P Q holds more = more (Reads key) holds
on_halt A B phase.OutOfMemory P Q holds more = tt

pub halted : (A B : Type 0) (result : Result B (PhaseEnd Refusal FileKey)) (end : PhaseEnd Refusal FileKey) (P : Step Refusal FileKey A → Type 0) (Q : Step Refusal FileKey B → Type 0) → IsErrAnd result (λ other. other ≡ end)
    → Follows P (Err end) → ((why : Stop Refusal FileKey) → P (Halt why) → Q (Halt why)) → Follows Q result
halted A B (Ok value) end P Q is holds more = absurd is
halted A B (Err other) end P Q is holds more = on_halt A B other P Q (subst (λ (e : PhaseEnd Refusal FileKey). Follows P (Err e)) (sym is) holds) more

-- and where the phases around them say why they stop
on_stop_follows : (A B : Type 0) (end : PhaseEnd Refusal FileKey) (P : Stop Refusal FileKey → Type 0) (Q : Step Refusal FileKey B → Type 0) → OnStop {A = A} (Err end) P → ((why : Stop Refusal FileKey) → P why → Q (Halt why)) → Follows Q (Err end)
on_stop_follows A B (phase.Refused refusal) P Q holds more = more (RefusedBy refusal) holds
on_stop_follows A B (phase.ReadFault key) P Q holds more = more (Reads key) holds
on_stop_follows A B phase.OutOfMemory P Q holds more = tt

pub stop_follows : (A B : Type 0) (result : Result B (PhaseEnd Refusal FileKey)) (end : PhaseEnd Refusal FileKey) (P : Stop Refusal FileKey → Type 0) (Q : Step Refusal FileKey B → Type 0) → IsErrAnd result (λ other. other ≡ end)
    → OnStop {A = A} (Err end) P → ((why : Stop Refusal FileKey) → P why → Q (Halt why)) → Follows Q result
stop_follows A B (Ok value) end P Q is holds more = absurd is
stop_follows A B (Err other) end P Q is holds more = on_stop_follows A B other P Q (subst (λ (e : PhaseEnd Refusal FileKey). OnStop {A = A} (Err e) P) (sym is) holds) more

-- so many libraries are read as there are corners
pub libraries_counted : (held : Option Held) (corners : ℕ) (names : List (List ℕ)) (trees : List Tables) → ReadsLibraries held corners names (Go (map tree_of trees)) → length trees ≡ corners
libraries_counted held corners names trees (all_read libraries first) = sym (length-map trees tree_of) ∙ first.counted

-- the end of a phase that reads no file, handed on
end_on : (A B : Type 0) (end : NoFileEnd Refusal) (P : Result A Refusal → Type 0) (Q : Result B Refusal → Type 0) → FollowsNoFile P (Err end) → ((refusal : Refusal) → P (Err refusal) → Q (Err refusal)) → FollowsNoFile Q (Err end)
end_on A B (no_file.Refused refusal) P Q holds more = more refusal holds
end_on A B no_file.OutOfMemory P Q holds more = tt

pub no_file_on : (A B : Type 0) (result : Result B (NoFileEnd Refusal)) (end : NoFileEnd Refusal) (P : Result A Refusal → Type 0) (Q : Result B Refusal → Type 0) → IsErrAnd result (λ other. other ≡ end) → FollowsNoFile P (Err end)
    → ((refusal : Refusal) → P (Err refusal) → Q (Err refusal)) → FollowsNoFile Q result
no_file_on A B (Ok value) end P Q is holds more = absurd is
no_file_on A B (Err other) end P Q is holds more = end_on A B other P Q (subst (λ (e : NoFileEnd Refusal). FollowsNoFile P (Err e)) (sym is) holds) more

-- and as one of a phase that may read files
pub lifted_stop : (A B : Type 0) (result : Result B (PhaseEnd Refusal FileKey)) (end : NoFileEnd Refusal) (P : Result A Refusal → Type 0) (Q : Stop Refusal FileKey → Type 0) → IsErrAnd result (λ other. IsLifted end other)
    → FollowsNoFile P (Err end) → ((refusal : Refusal) → P (Err refusal) → Q (RefusedBy refusal)) → OnStop result Q
lifted_stop A B (Ok value) end P Q is holds more = tt
lifted_stop A B (Err other) (no_file.Refused refusal) P Q is holds more = subst (λ (e : PhaseEnd Refusal FileKey). OnStop {A = B} (Err e) Q) (sym is) (more refusal holds)
lifted_stop A B (Err other) no_file.OutOfMemory P Q is holds more = subst (λ (e : PhaseEnd Refusal FileKey). OnStop {A = B} (Err e) Q) (sym is) tt

pub lifted_follows : (A B : Type 0) (result : Result B (PhaseEnd Refusal FileKey)) (end : NoFileEnd Refusal) (P : Result A Refusal → Type 0) (Q : Step Refusal FileKey B → Type 0) → IsErrAnd result (λ other. IsLifted end other)
    → FollowsNoFile P (Err end) → ((refusal : Refusal) → P (Err refusal) → Q (Halt (RefusedBy refusal))) → Follows Q result
lifted_follows A B (Ok value) end P Q is holds more = absurd is
lifted_follows A B (Err other) (no_file.Refused refusal) P Q is holds more = subst (λ (e : PhaseEnd Refusal FileKey). Follows Q (Err e)) (sym is) (more refusal holds)
lifted_follows A B (Err other) no_file.OutOfMemory P Q is holds more = subst (λ (e : PhaseEnd Refusal FileKey). Follows Q (Err e)) (sym is) tt
