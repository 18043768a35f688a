-- The questions of a pin of a known direction.
use Rattle.std.proofs.Common.{◌≡◌, ◌≢◌, ℕ, List, [], ◌∷◌, All, Option, Some, None, IfSome, IfNone, if◌then◌else◌, refl, sym, ap, ◌∙◌, subst}
use Rattle.std.proofs.lemmas.List.Elements.{All-cons}
use Rattle.delay_units.specs.declared.numbers.Unit.{Unit}
use Rattle.liberty_groups.specs.Groups.{Group}
use Rattle.cell_models.specs.declared.cell.Direction.{Direction}
use Rattle.cell_models.specs.declared.cell.Direction.TheVariants.{Input, Output, Inout, Internal}
use Rattle.liberty_tables.specs.declared.faults.CellFault.TheVariants.{BadNumber}
use Rattle.liberty_tables.specs.LibraryUnits.{IsLoadUnit}
use Rattle.timing_arcs.specs.PinModel.{direction_of, is_input, capacitance_texts, IsCapacitance, IsPinCapacitance}
use Rattle.timing_arcs.specs.CellFaults.{direction, capacitance, pin_questions, IsSound, directed, measured, no_capacitance, IsRefusal}
use Rattle.timing_arcs.proofs.Refusals.{refused_at_once, refused_behind, sound_one}

pub input_some : (library pin : Group) (unit : Unit) (way : Direction) (r : Option ℕ) → way ≡ Input → IsLoadUnit library unit → IfSome r (IsCapacitance unit (capacitance_texts library pin)) → IfSome r (IsPinCapacitance way library pin)
input_some library pin unit way None is loads given = search
input_some library pin unit way (Some grains) is loads given =
    subst (λ (d : Direction). IsPinCapacitance d library pin grains) (sym is) (record { unit = unit; of_library = loads; given = given })

pub input_sound : (library pin : Group) (unit : Unit) (way : Direction) (r : Option ℕ) → direction_of pin ≡ Some way → way ≡ Input → IsLoadUnit library unit → IfSome r (IsCapacitance unit (capacitance_texts library pin))
    → IfSome r (λ _. (name : List ℕ) → All (IsSound library) (pin_questions (record { name = name; group = pin })))
input_sound library pin unit way None known is loads given = search
input_sound library pin unit way (Some grains) known is loads given = λ name.
    subst (λ (d : Option Direction). All (IsSound library) (direction pin ∷ (if is_input d then capacitance pin ∷ [] else []))) (sym (known ∙ ap Some is))
    (All-cons (IsSound library) (direction pin) (capacitance pin ∷ []) (directed known) (sound_one (measured loads given)))

pub input_none : (library pin : Group) (unit : Unit) (way : Direction) (r : Option ℕ) → direction_of pin ≡ Some way → way ≡ Input → IsLoadUnit library unit → IfNone r ((grains : ℕ) → ¬ IsCapacitance unit (capacitance_texts library pin) grains)
    → IfNone r ((name : List ℕ) → IsRefusal library (pin_questions (record { name = name; group = pin })) BadNumber)
input_none library pin unit way (Some grains) known is loads none = search
input_none library pin unit way None known is loads none = λ name.
    subst (λ (d : Option Direction). IsRefusal library (direction pin ∷ (if is_input d then capacitance pin ∷ [] else [])) BadNumber) (sym (known ∙ ap Some is))
    (refused_behind (direction pin ∷ []) (capacitance pin ∷ []) (sound_one (directed known)) (refused_at_once [] (no_capacitance loads none)))

pub other_some : (library pin : Group) (way : Direction) → way ≢ Input → IsPinCapacitance way library pin 0
other_some library pin Input other = absurd (other refl)
other_some library pin Output other = refl
other_some library pin Inout other = refl
other_some library pin Internal other = refl

no_input : (way : Direction) → way ≢ Input → is_input (Some way) ≡ is_input None
no_input Input other = absurd (other refl)
no_input Output other = refl
no_input Inout other = refl
no_input Internal other = refl

pub other_sound : (library pin : Group) (way : Direction) → direction_of pin ≡ Some way → way ≢ Input → (name : List ℕ) → All (IsSound library) (pin_questions (record { name = name; group = pin }))
other_sound library pin way known other = λ name.
    subst (λ b. All (IsSound library) (direction pin ∷ (if b then capacitance pin ∷ [] else []))) (sym (ap is_input known ∙ no_input way other)) (sound_one (directed known))
