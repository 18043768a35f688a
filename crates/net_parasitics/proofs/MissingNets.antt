-- Nets without a section.
use Rattle.std.proofs.Common.{◌≡◌, ℕ, Bool, true, false, not, List, slice_get, Option, Some, None, refl, sym, ap, subst, ◌∙◌, true≢false}
use Rattle.std.specs.Prelude.{IsTrue, IfSome, IfNone, Contains, is_some, option_map}
use Rattle.std.proofs.lemmas.Option.{slice_get_within, get_or_from_slice_get, slice_get-map, same_Some}
use Rattle.netlist_link.specs.FlatNetlist.{net_at}
use Rattle.netlist_link.specs.declared.ends.End.{End}
use Rattle.spef_nets.specs.NetElements.{NetElements, net_names}
use Rattle.net_parasitics.specs.Inputs.{Inputs}
use Rattle.net_parasitics.specs.NetSections.{IsSectionOf, is_written}
use Rattle.net_parasitics.specs.NetTrees.{IsWired, IsUnwired, IsMissing}

-- a list has what stands at a place of it
pub has_at : {X : Type 0} (xs : List X) (k : ℕ) (x : X) → slice_get xs k ≡ Some x → Contains xs x
has_at xs k x at = (k, slice_get_within xs k x at, get_or_from_slice_get xs k x x at)

-- whether the look-up of a wired net finds no section is whether the net has none
pub missing_by : (inputs : Inputs) (net : ℕ) (driver : End) (text : List ℕ) (found : Option ℕ) (none : Bool) → IsWired inputs.netlist net driver → text ≡ (net_at inputs.netlist net).text
    → IfSome found (λ s. slice_get (net_names inputs.sections) s ≡ Some text) → IfNone found (¬ Contains (net_names inputs.sections) text) → is_some found ≡ not none
    → (IsTrue none → IsMissing inputs net) × (IsMissing inputs net → IsTrue none)
missing_by inputs net driver text (Some s) true wired is there absent told = absurd (true≢false told)
missing_by inputs net driver text (Some s) false wired is there absent told = (
  (λ yes. absurd (true≢false (sym yes))),
  (λ missing. absurd (missing.absent (subst (Contains (net_names inputs.sections)) is (has_at (net_names inputs.sections) s text there)))),
)
missing_by inputs net driver text None true wired is there absent told = (
  (λ yes. record { driver = driver; wired = wired; absent = subst (λ t. ¬ Contains (net_names inputs.sections) t) is absent }),
  (λ missing. refl),
)
missing_by inputs net driver text None false wired is there absent told = absurd (true≢false (sym told))

-- a net that is not wired is not missing
pub unwired_stays : (inputs : Inputs) (net : ℕ) → IsUnwired inputs.netlist net → IsMissing inputs net → ⊥
unwired_stays inputs net unwired missing = unwired missing.driver missing.wired

-- the section that was found is that of the net
pub written_there : (sections : List NetElements) (text name : List ℕ) (place : ℕ) (section : NetElements) → text ≡ name → slice_get (net_names sections) place ≡ Some text
    → slice_get sections place ≡ Some section → IsSectionOf sections name section
written_there sections text name place section is named at =
    let mapped : slice_get (net_names sections) place ≡ Some section.net = slice_get-map (λ (s : NetElements). s.net) sections place ∙ ap (λ o. option_map (λ (s : NetElements). s.net) o) at in
    is_written place section at (same_Some section.net text (sym mapped ∙ named) ∙ is)
