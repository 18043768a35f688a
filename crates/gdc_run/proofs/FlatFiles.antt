-- The files of `flat`: the netlist, and then the library.
use Rattle.std.proofs.Common.{◌≡◌, ℕ, zero, suc, ◌+◌, ◌⊎◌, inl, inr, List, [], ◌∷◌, Option, Some, refl, sym, ap, ◌∙◌, subst}
use Rattle.std.specs.Prelude.{slice_get}
use Rattle.edge_io.specs.Counts.{Rose, RoseBy}
use Rattle.edge_io.specs.Holding.{Held, TellsMissing}
use Rattle.verdict_phases.specs.Phases.{Unread, Reads, Halt}
use Rattle.gdc_words.specs.CommandLine.{Request, libraries_of, value_of}
use Rattle.gdc_words.specs.declared.commands.Command.{Command}
use Rattle.gdc_words.specs.declared.commands.Command.TheVariants.{Flat}
use Rattle.gdc_words.specs.declared.commands.Key.TheVariants as key
use Rattle.design_phases.specs.DesignReading.{input_key, IsInputFault}
use Rattle.refusals.specs.declared.refusal.FileKey.{FileKey}
use Rattle.design_phases.proofs.DesignLemmas.{comes_to}
use Rattle.refusals.proofs.Places.{some_is}
use Rattle.gdc_run.specs.Outcomes.{name_of, place_at, places_for, HasCause}
use Rattle.command_rows.specs.CommandRows.{FlatGives}

module _ (request : Request) where
  abbrev pub netlist_name : List ℕ
  netlist_name = value_of request.given key.Netlist

  abbrev pub top_name : List ℕ
  top_name = value_of request.given key.Top

  abbrev pub library_name : List ℕ
  library_name = value_of request.given key.Lib

  -- the key of a file has its name, and its place in the order of reading
  file_named : (before : ℕ) (name : List ℕ) (key : FileKey) → slice_get (netlist_name ∷ library_name ∷ []) before ≡ Some name → key ≡ input_key 1 before
      → (name_of request key ≡ name) × (place_at (places_for Flat (libraries_of request.given)) key ≡ before + 1)
  file_named zero name key named keyed = (ap (name_of request) keyed ∙ some_is netlist_name name named, ap (place_at (places_for Flat (libraries_of request.given))) keyed)
  file_named (suc zero) name key named keyed = (ap (name_of request) keyed ∙ some_is library_name name named, ap (place_at (places_for Flat (libraries_of request.given))) keyed)
  file_named (suc (suc before)) name key named keyed = cc

  module _ (held : Option Held) where
    -- a fault at one of them has its cause
    pub flat_cause : (faults faults' opens opens' : ℕ) (key : FileKey) → request.command ≡ Flat → IsInputFault held 1 (netlist_name ∷ library_name ∷ []) faults faults' opens opens' key → HasCause held request faults faults' opens opens' key
    flat_cause faults faults' opens opens' key is fault =
        let names = file_named fault.before fault.name key fault.named fault.keyed in
        record {
          cause = elim fault.cause [
            | inl rose ↦ inl rose
            | inr missing ↦ inr (subst (TellsMissing held) (sym names.0) missing)
          ];
          opened = subst (λ n. RoseBy n opens opens') (sym (ap (λ (c : Command). place_at (places_for c (libraries_of request.given)) key) is ∙ names.1)) fault.opened;
        }

    -- where the phases come to one that is not held, that decides
    pub unread_flat : (key : FileKey) → FlatGives held netlist_name top_name library_name (Halt (Reads key)) → TellsMissing held (name_of request key) → FlatGives held netlist_name top_name library_name (Halt (Unread key))
    unread_flat key reached missing =
        let comes = comes_to held 1 netlist_name top_name (library_name ∷ []) key reached in
        comes.unread (subst (TellsMissing held) (file_named comes.before comes.name key comes.named comes.keyed).0 missing)
