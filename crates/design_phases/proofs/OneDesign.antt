-- The reading of a design has one answer, but for which of the modules that contain themselves is named.
use Rattle.std.proofs.Common.{◌≡◌, ℕ, List, Option, Some, Result, Ok, Err, refl, sym, ap, ap₂, ◌∙◌, subst}
use Rattle.std.specs.Prelude.{slice_get}
use Rattle.edge_io.specs.Holding.{Held}
use Rattle.cell_models.specs.NamedSets.{NamedCells}
use Rattle.hierarchy.specs.UseLaws.{NamesDiffer}
use Rattle.liberty_groups.specs.Groups.{Group}
use Rattle.name_table.specs.Names.{AreDistinct}
use Rattle.netlist_link.specs.FlatNetlist.{FlatNetlist}
use Rattle.verdict_phases.specs.Phases.{Stop, RefusedBy, Go, Halt}
use Rattle.verilog_netlist.specs.NetModules.{NetModule}
use Rattle.design_phases.specs.CellPhase.{ModelsCells}
use Rattle.design_phases.specs.DesignReading.{ReadsNetlistFile, ReadInputs, LinkedDesign, ReadsInputs, at_grammar, at_uses, at_libraries, with_inputs, LinksInputs, at_models, at_link, with_netlist, ReadsDesign, at_netlist, at_inputs, at_design, with_design}
use Rattle.design_phases.specs.LibraryPhases.{ParsesLibrary}
use Rattle.design_phases.specs.LibraryReading.{library_key, ReadsLibrary, at_file, at_tree, with_tree, AreFirst, ReadsLibraries, all_read, stops_at}
use Rattle.design_phases.specs.LinkPhase.{LinksDesign}
use Rattle.design_phases.specs.NetlistPhase.{ParsesNetlist, is_netlist}
use Rattle.design_phases.specs.UsePhase.{UsesCells}
use Rattle.refusals.specs.declared.refusal.FileKey.{FileKey}
use Rattle.refusals.specs.declared.refusal.FileKey.TheVariants.{Netlist}
use Rattle.refusals.specs.declared.refusal.Refusal.{Refusal}
use Rattle.design_phases.proofs.CellLemmas.{used_differ, names_used}
use Rattle.design_phases.proofs.InTurn.{AreFirst as AreInTurn, one_front, not_within, one_stopped}
use Rattle.design_phases.proofs.ModuleNames.{names_differ}
use Rattle.design_phases.proofs.OneInputs.{one_use_lem, one_models_lem, one_link_lem}
use Rattle.design_phases.proofs.OneLibrary.{one_library_lem}
use Rattle.design_phases.proofs.OneNetlist.{one_netlist_lem}
use Rattle.refusals.proofs.Places.{some_is}
use Rattle.design_phases.specs.OneDesign.{OneInputs, OneLinking, OneDesign}
use Rattle.refusals.specs.OneStep.{IsFinal, IsDecided, HasOneAnswer}
use Rattle.refusals.specs.Refused.{WithoutFile}
use Rattle.refusals.proofs.OneChain.{Steps, Then, stops, goes, one_plain, same_answers, one_then, one_made, one_by}
use Rattle.refusals.proofs.OneText.{one_file, same_stop, stops_equal, reads_or_stops, reads_alike}
use Rattle.refusals.specs.InputFiles.{ReadsInput}

-- ---- the libraries

-- an answer that decides
abbrev step_of : Result Group (Stop Refusal FileKey) → Steps Group
step_of (Ok library) = Go library
step_of (Err why) = Halt why

abbrev parsed : Group → Result Group Refusal
parsed library = Ok library

abbrev unparsed : Refusal → Result Group Refusal
unparsed refusal = Err refusal

module _ (held : Held) (corners corner : ℕ) (name : List ℕ) where
  abbrev ReadsIt : Steps Group → Type 0
  ReadsIt step = ReadsLibrary (Some held) corners corner name step

  same_parse : (x y : List ℕ) (one other : Result Group Refusal) → ReadsInput (Some held) (library_key corners corner) name (Go x) → ReadsInput (Some held) (library_key corners corner) name (Go y)
      → ParsesLibrary corner x one → ParsesLibrary corner y other → one ≡ other
  same_parse x y one other r s p q =
      one_library_lem corner x one other p (subst (λ (b : List ℕ). ParsesLibrary corner b other) (reads_alike held (library_key corners corner) name y x s r) q)

  one_library_step : (one other : Steps Group) → ReadsIt one → ReadsIt other → IsDecided one → IsDecided other → one ≡ other
  one_library_step _ _ (at_file w r) (at_file v s) d e = ap Halt (stops_equal held (library_key corners corner) name w v r s d e)
  one_library_step _ _ (at_file w r) (at_tree y g s q) d e = absurd (reads_or_stops held (library_key corners corner) name y w s r d)
  one_library_step _ _ (at_file w r) (with_tree y library s q) d e = absurd (reads_or_stops held (library_key corners corner) name y w s r d)
  one_library_step _ _ (at_tree x f r p) (at_file v s) d e = absurd (reads_or_stops held (library_key corners corner) name x v r s e)
  one_library_step _ _ (at_tree x f r p) (at_tree y g s q) d e = let same : unparsed f ≡ unparsed g = same_parse x y (Err f) (Err g) r s p q in let equal : f ≡ g = cc in ap (λ z. Halt (RefusedBy z)) equal
  one_library_step _ _ (at_tree x f r p) (with_tree y library s q) d e = let same : unparsed f ≡ parsed library = same_parse x y (Err f) (Ok library) r s p q in cc
  one_library_step _ _ (with_tree x library r p) (at_file v s) d e = absurd (reads_or_stops held (library_key corners corner) name x v r s e)
  one_library_step _ _ (with_tree x library r p) (at_tree y g s q) d e = let same : parsed library ≡ unparsed g = same_parse x y (Ok library) (Err g) r s p q in cc
  one_library_step _ _ (with_tree x library r p) (with_tree y other s q) d e = let same : parsed library ≡ parsed other = same_parse x y (Ok library) (Ok other) r s p q in let equal : library ≡ other = cc in ap Go equal

module _ (held : Held) (corners : ℕ) (names : List (List ℕ)) where
  -- the library of a corner is read, or stops for good
  record AtCorner (corner : ℕ) (answer : Result Group (Stop Refusal FileKey)) : Type 0 where
    name : List ℕ
    named : slice_get names corner ≡ Some name
    reads : ReadsLibrary (Some held) corners corner name (step_of answer)
    decides : IsDecided (step_of answer)

  one_answer : (one other : Result Group (Stop Refusal FileKey)) → step_of one ≡ step_of other → one ≡ other
  one_answer (Ok x) (Ok y) same = cc
  one_answer (Ok x) (Err v) same = cc
  one_answer (Err w) (Ok y) same = cc
  one_answer (Err w) (Err v) same = cc

  one_corner : (corner : ℕ) (one other : Result Group (Stop Refusal FileKey)) → AtCorner corner one → AtCorner corner other → one ≡ other
  one_corner corner one other r s =
      let same : s.name ≡ r.name = some_is s.name r.name (sym s.named ∙ r.named) in
      one_answer one other (one_library_step held corners corner r.name (step_of one) (step_of other) r.reads (subst (λ (n : List ℕ). ReadsLibrary (Some held) corners corner n (step_of other)) same s.reads) r.decides s.decides)

  in_turn : (count : ℕ) (libraries : List Group) → AreFirst (Some held) corners names count libraries → AreInTurn AtCorner one_corner count libraries
  in_turn count libraries first = record {
    counted = first.counted;
    each = λ k library there. let is = first.each k library there in record { name = is.name; named = is.named; reads = is.reads; decides = tt };
  }

  stops_here : (corner : ℕ) (name : List ℕ) (why : Stop Refusal FileKey) → slice_get names corner ≡ Some name → ReadsLibrary (Some held) corners corner name (Halt why) → IsFinal why → AtCorner corner (Err why)
  stops_here corner name why named reads final = record { name = name; named = named; reads = reads; decides = final }

  pub one_libraries : HasOneAnswer (ReadsLibraries (Some held) corners names)
  one_libraries _ _ (all_read one first) (all_read other also) d e = one_front AtCorner one_corner corners one other (in_turn corners one first) (in_turn corners other also)
  one_libraries _ _ (all_read one first) (stops_at corner name before why below also named reads) d e =
      absurd (not_within AtCorner one_corner corners corner one why (in_turn corners one first) below (stops_here corner name why named reads e))
  one_libraries _ _ (stops_at corner name before why below also named reads) (all_read one first) d e =
      absurd (not_within AtCorner one_corner corners corner one why (in_turn corners one first) below (stops_here corner name why named reads d))
  one_libraries _ _ (stops_at corner name before why below first named reads) (stops_at place text front told short also there tells) d e =
      same_stop why told (one_stopped AtCorner one_corner corner place before front why told (in_turn corner before first) (in_turn place front also) (stops_here corner name why named reads d) (stops_here place text told there tells e)) d

-- ---- the inputs

sound_modules : (bytes : List ℕ) (modules : List NetModule) → ParsesNetlist bytes (Ok modules) → NamesDiffer modules
sound_modules bytes modules (is_netlist _ are) = names_differ bytes modules are

module _ (held : Held) (corners : ℕ) (top : List ℕ) (names : List (List ℕ)) where
  abbrev made : List NetModule → List (List ℕ) → List Group → ReadInputs
  made modules used libraries = record { modules = modules; used = used; libraries = libraries }

  abbrev Libraries : List NetModule → List (List ℕ) → Steps ReadInputs → Type 0
  Libraries modules used step = Then (ReadsLibraries (Some held) corners names) (λ libraries end. end ≡ Go (made modules used libraries)) step

  abbrev Uses : List NetModule → Steps ReadInputs → Type 0
  Uses modules step = Then (WithoutFile (UsesCells modules top)) (Libraries modules) step

  abbrev Inputs : List ℕ → Steps ReadInputs → Type 0
  Inputs bytes step = Then (WithoutFile (ParsesNetlist bytes)) Uses step

  inputs_view : (bytes : List ℕ) (step : Steps ReadInputs) → ReadsInputs (Some held) corners bytes top names step → Inputs bytes step
  inputs_view bytes _ (at_grammar refusal parses) = stops (RefusedBy refusal) parses refl
  inputs_view bytes _ (at_uses modules refusal parses uses) = goes modules parses (stops (RefusedBy refusal) uses refl)
  inputs_view bytes _ (at_libraries modules used why parses uses reads) = goes modules parses (goes used uses (stops why reads refl))
  inputs_view bytes _ (with_inputs modules used trees parses uses reads) = goes modules parses (goes used uses (goes trees reads refl))

  one_uses : (modules : List NetModule) → NamesDiffer modules → HasOneAnswer (Uses modules)
  one_uses modules differ = one_then (WithoutFile (UsesCells modules top)) (Libraries modules) (one_plain (UsesCells modules top) (λ one other r s. one_use_lem modules top one other differ r s))
      (λ used uses. one_then (ReadsLibraries (Some held) corners names) (λ libraries end. end ≡ Go (made modules used libraries)) (one_libraries held corners names) (λ libraries reads. one_made (made modules used libraries)))

  inputs_alike : (bytes : List ℕ) → HasOneAnswer (ReadsInputs (Some held) corners bytes top names)
  inputs_alike bytes = one_by (ReadsInputs (Some held) corners bytes top names) (Inputs bytes) (inputs_view bytes)
      (one_then (WithoutFile (ParsesNetlist bytes)) Uses (one_plain (ParsesNetlist bytes) (λ one other r s. same_answers one other (one_netlist_lem bytes one other r s)))
      (λ modules parses. one_uses modules (sound_modules bytes modules parses)))

-- the inputs of a netlist's bytes have one answer
pub one_inputs : OneInputs
one_inputs held corners bytes top names = inputs_alike held corners top names bytes

-- ---- the flat netlist

-- inputs of which modules and used cells are sound
record AreSound (inputs : ReadInputs) : Type 0 where
  differ : NamesDiffer inputs.modules
  apart : AreDistinct inputs.used

sound_inputs : (held : Option Held) (corners : ℕ) (bytes top : List ℕ) (names : List (List ℕ)) (inputs : ReadInputs) → ReadsInputs held corners bytes top names (Go inputs) → AreSound inputs
sound_inputs held corners bytes top names _ (with_inputs modules used trees parses uses reads) =
    record { differ = sound_modules bytes modules parses; apart = used_differ modules top used uses }

abbrev modelled : List NamedCells → Result (List NamedCells) Refusal
modelled cells = Ok cells

abbrev unmodelled : Refusal → Result (List NamedCells) Refusal
unmodelled refusal = Err refusal

abbrev linked : FlatNetlist → Result FlatNetlist Refusal
linked netlist = Ok netlist

abbrev unlinked : Refusal → Result FlatNetlist Refusal
unlinked refusal = Err refusal

abbrev design_of : List NamedCells → FlatNetlist → LinkedDesign
design_of cells netlist = record { netlist = netlist; cells = cells }

module _ (inputs : ReadInputs) (top : List ℕ) (sound : AreSound inputs) where
  same_cells : (one other : List NamedCells) → ModelsCells inputs.libraries inputs.used (Ok one) → ModelsCells inputs.libraries inputs.used (Ok other) → one ≡ other
  same_cells one other m n = let same : modelled one ≡ modelled other = one_models_lem inputs.libraries inputs.used (Ok one) (Ok other) m n in cc

  cells_or_not : (cells : List NamedCells) (refusal : Refusal) → ModelsCells inputs.libraries inputs.used (Ok cells) → ModelsCells inputs.libraries inputs.used (Err refusal) → ⊥
  cells_or_not cells refusal m n = let same : modelled cells ≡ unmodelled refusal = one_models_lem inputs.libraries inputs.used (Ok cells) (Err refusal) m n in cc

  -- the flat netlists over two lists of models, which are one
  same_link : (one other : List NamedCells) (some more : Result FlatNetlist Refusal) → ModelsCells inputs.libraries inputs.used (Ok one) → ModelsCells inputs.libraries inputs.used (Ok other)
      → LinksDesign inputs.modules top one some → LinksDesign inputs.modules top other more → some ≡ more
  same_link one other some more m n r s =
      one_link_lem inputs.modules top one some more sound.differ (subst AreDistinct (sym (names_used inputs.libraries inputs.used one m)) sound.apart) r
      (subst (λ (cells : List NamedCells). LinksDesign inputs.modules top cells more) (same_cells other one n m) s)

  links_alike : (one other : Result LinkedDesign Refusal) → LinksInputs inputs top one → LinksInputs inputs top other → one ≡ other
  links_alike _ _ (at_models f m) (at_models g n) =
      let same : unmodelled f ≡ unmodelled g = one_models_lem inputs.libraries inputs.used (Err f) (Err g) m n in
      let equal : f ≡ g = cc in ap Err equal
  links_alike _ _ (at_models f m) (at_link cells g n s) = absurd (cells_or_not cells f n m)
  links_alike _ _ (at_models f m) (with_netlist cells netlist n s) = absurd (cells_or_not cells f n m)
  links_alike _ _ (at_link cells g n s) (at_models f m) = absurd (cells_or_not cells f n m)
  links_alike _ _ (with_netlist cells netlist n s) (at_models f m) = absurd (cells_or_not cells f n m)
  links_alike _ _ (at_link cells f m r) (at_link more g n s) =
      let same : unlinked f ≡ unlinked g = same_link cells more (Err f) (Err g) m n r s in
      let equal : f ≡ g = cc in ap Err equal
  links_alike _ _ (at_link cells f m r) (with_netlist more netlist n s) = let same : unlinked f ≡ linked netlist = same_link cells more (Err f) (Ok netlist) m n r s in cc
  links_alike _ _ (with_netlist more netlist n s) (at_link cells f m r) = let same : unlinked f ≡ linked netlist = same_link cells more (Err f) (Ok netlist) m n r s in cc
  links_alike _ _ (with_netlist cells netlist m r) (with_netlist more other n s) =
      let same : linked netlist ≡ linked other = same_link cells more (Ok netlist) (Ok other) m n r s in
      let equal : netlist ≡ other = cc in
      ap₂ (λ c f. Ok (design_of c f)) (same_cells cells more m n) equal

-- inputs that were read have one linked design, or one refusal
pub one_linking : OneLinking
one_linking held corners bytes top names inputs one other are r s = links_alike inputs top (sound_inputs held corners bytes top names inputs are) one other r s

-- and so as phases
pub links_one : (held : Option Held) (corners : ℕ) (bytes top : List ℕ) (names : List (List ℕ)) (inputs : ReadInputs) → ReadsInputs held corners bytes top names (Go inputs) → HasOneAnswer (WithoutFile (LinksInputs inputs top))
links_one held corners bytes top names inputs are =
    one_plain (LinksInputs inputs top) (λ one other r s. same_answers one other (one_linking held corners bytes top names inputs one other are r s))

-- ---- the design

module _ (held : Held) (corners : ℕ) (file top : List ℕ) (names : List (List ℕ)) where
  abbrev AfterFile : List ℕ → Steps LinkedDesign → Type 0
  AfterFile bytes step = Then (ReadsInputs (Some held) corners bytes top names) (λ inputs. WithoutFile (LinksInputs inputs top)) step

  design_view : (step : Steps LinkedDesign) → ReadsDesign (Some held) corners file top names step → Then (ReadsNetlistFile (Some held) file) AfterFile step
  design_view _ (at_netlist why reads) = stops why reads refl
  design_view _ (at_inputs bytes why reads inputs) = goes bytes reads (stops why inputs refl)
  design_view _ (at_design bytes inputs refusal reads are links) = goes bytes reads (goes inputs are links)
  design_view _ (with_design bytes inputs design reads are links) = goes bytes reads (goes inputs are links)

-- a design has one answer
pub one_design : OneDesign
one_design held corners file top names = one_by (ReadsDesign (Some held) corners file top names) (Then (ReadsNetlistFile (Some held) file) (AfterFile held corners file top names)) (design_view held corners file top names)
    (one_then (ReadsNetlistFile (Some held) file) (AfterFile held corners file top names) (one_file held Netlist file)
    (λ bytes reads. one_then (ReadsInputs (Some held) corners bytes top names) (λ inputs. WithoutFile (LinksInputs inputs top)) (one_inputs held corners bytes top names)
    (λ inputs are. links_one (Some held) corners bytes top names inputs are)))
