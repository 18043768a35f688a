-- The files of a design are read one after another, and a fault at one of them has its cause.
use Rattle.std.proofs.Common.{◌≡◌, ℕ, zero, suc, ◌+◌, ◌<◌, ◌≤◌, ◌⊎◌, inl, inr, List, [], ◌∷◌, ◌++◌, length, Option, Some, refl, ap, subst, ◌∙◌, arith}
use Rattle.std.specs.Prelude.{slice_get}
use Rattle.std.proofs.lemmas.Bool.Decides.{nat_tests}
use Rattle.std.proofs.lemmas.Option.{slice_get_within}
use Rattle.edge_io.specs.Counts.{Rose, RoseBy}
use Rattle.edge_io.specs.Holding.{Held, TellsMissing}
use Rattle.design_phases.specs.DesignReading.{input_key, IsInputFault}
use Rattle.refusals.specs.declared.refusal.FileKey.{FileKey}
use Rattle.refusals.specs.declared.refusal.FileKey.TheVariants.{Spef}
use Rattle.delay_core.specs.Annotation.{key_of_file, files_read, IsAnnotationFault, IsSpefFault}
use Rattle.delay_core.specs.declared.settings.Files.{Files}

-- the key of a file behind the SPEF file, and of one in front of it
key_at_end : (corners before : ℕ) → before ≡ corners + 1 → Spef ≡ key_of_file corners before
key_at_end corners before same = grind (arith, nat_tests)

key_before : (corners before : ℕ) → before < corners + 1 → input_key corners before ≡ key_of_file corners before
key_before corners before less = grind (arith, nat_tests)

-- a cause is one still where more faults were counted before
cause_later : (held held' : Option Held) (name : List ℕ) (faults faults' now : ℕ) → held' ≡ held → faults ≤ faults' → Rose faults' now ⊎ TellsMissing held' name → Rose faults now ⊎ TellsMissing held name
cause_later held held' name faults faults' now same later (inl rose) = inl (omega (arith, later, rose))
cause_later held held' name faults faults' now same later (inr missing) = inr (subst (λ (h : Option Held). TellsMissing h name) same missing)

-- texts behind others
behind : (texts more : List (List ℕ)) (k : ℕ) → slice_get (texts ++ more) (length texts + k) ≡ slice_get more k
behind [] more k = let same : 0 + k ≡ k = omega arith in ap (slice_get more) same
behind (text ∷ texts) more k =
    let same : length (text ∷ texts) + k ≡ suc (length texts + k) = omega arith in
    ap (slice_get (text ∷ (texts ++ more))) same ∙ behind texts more k

in_front : (texts more : List (List ℕ)) (k : ℕ) (name : List ℕ) → slice_get texts k ≡ Some name → slice_get (texts ++ more) k ≡ Some name
in_front [] more k name at = cc
in_front (text ∷ texts) more zero name at = at
in_front (text ∷ texts) more (suc k) name at = in_front texts more k name at

-- a fault at the netlist or a library
pub input_fault : (held : Option Held) (corners : ℕ) (files : Files) (faults now opens last : ℕ) (key : FileKey) → length files.libraries ≡ corners
    → IsInputFault held corners (files.netlist ∷ files.libraries) faults now opens last key → IsAnnotationFault held corners files faults now opens last key
input_fault held corners files faults now opens last key many fault = record {
  before = fault.before;
  name = fault.name;
  named = in_front (files.netlist ∷ files.libraries) (files.spef ∷ []) fault.before fault.name fault.named;
  keyed =
      let within = slice_get_within (files.netlist ∷ files.libraries) fault.before fault.name fault.named in
      fault.keyed ∙ key_before corners fault.before (omega (arith, within, many));
  cause = fault.cause;
  opened = fault.opened;
}

-- and at the SPEF file, which is read behind all libraries
pub spef_fault : (held held' : Option Held) (corners : ℕ) (files : Files) (faults faults' now opens opens' last : ℕ) (key : FileKey) → length files.libraries ≡ corners → held' ≡ held → faults ≤ faults' → RoseBy (corners + 1) opens opens'
    → IsSpefFault held' files.spef faults' now opens' last key → IsAnnotationFault held corners files faults now opens last key
spef_fault held held' corners files faults faults' now opens opens' last key many same later opened fault = record {
  before = corners + 1;
  name = files.spef;
  named = named;
  keyed = fault.keyed ∙ key_at_end corners (corners + 1) refl;
  cause = cause_later held held' files.spef faults faults' now same later fault.cause;
  opened = let more = fault.opened in omega (arith, opened, more);
}
  where
    named : slice_get (files_read files) (corners + 1) ≡ Some files.spef
    named =
        let place : corners + 1 ≡ suc (length files.libraries + 0) = omega (arith, many) in
        ap (slice_get (files_read files)) place ∙ behind files.libraries (files.spef ∷ []) 0
