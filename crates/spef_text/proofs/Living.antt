-- Tokens that complete a file from each state of the reader.
use Rattle.std.proofs.Common.{◌≡◌, ℕ, List, [], ◌∷◌, Ok, refl}
use Rattle.std.specs.Prelude.{codes}
use Rattle.std.specs.List.{AllByRecursion}
use Rattle.token_fronts.specs.Machine.{outcome}
use Rattle.token_fronts.specs.Stopping.{Completes}
use Rattle.token_texts.specs.Runs.{escaped_run_length}
use Rattle.spef_text.specs.Tokens.{IsToken, cut_at, is_broken}
use Rattle.spef_text.specs.Classes.{word_of, is_mark, is_two_marks, is_other, is_map_name, is_name, is_ref, is_value, is_direction, is_loose, is_id}
use Rattle.delay_units.specs.Places.{is_literal}
use Rattle.spef_text.specs.Entries.{Section, Head, Reading}
use Rattle.spef_text.specs.Modes.{State, next, finish}
use Rattle.spef_text.specs.declared.modes.Mode.{Mode}
use Rattle.spef_text.specs.declared.modes.Mode.TheVariants.{Start, Others, DesignName, Items, DividerMark, DelimiterMark, BusLeft, BusRight, CapNumber, CapWord, ResNumber, ResWord, NameMap, MapName, Sections, NetName, NetTotal, AfterTotal, Confidence, AfterConfidence, Conns, ConnNode, ConnDirection, ConnTail, ConnLoad, NodeLine, Caps, CapFirst, CapSecond, CapValue, Ress, ResFirst, ResSecond, ResValue}

module _ (head : Head) (done : List Section) (begun : Section) (number : ℕ) where
  abbrev at : Mode → State
  at mode = record { mode = mode; head = head; done = done; begun = begun }

  completed_by : (mode : Mode) (more : List (List ℕ)) (value : Reading) → AllByRecursion IsToken more → outcome next finish (at mode) number more ≡ Ok value → Completes IsToken next finish (at mode) number []
  completed_by mode more value tokens made = record { more = more; tokens = tokens; value = value; made = made }

  completes : (mode : Mode) → Completes IsToken next finish (at mode) number []
  unfolding cut_at escaped_run_length is_broken word_of is_mark is_two_marks is_literal is_other is_map_name is_name is_ref is_value is_direction is_loose is_id
  completes Start = completed_by Start (codes "*SPEF" ∷ []) _ (refl, tt) refl
  completes Others = completed_by Others [] _ tt refl
  completes DesignName = completed_by DesignName [] _ tt refl
  completes Items = completed_by Items [] _ tt refl
  completes NameMap = completed_by NameMap [] _ tt refl
  completes Sections = completed_by Sections [] _ tt refl
  completes DividerMark = completed_by DividerMark (codes "[" ∷ []) _ (refl, tt) refl
  completes DelimiterMark = completed_by DelimiterMark (codes "[" ∷ []) _ (refl, tt) refl
  completes BusLeft = completed_by BusLeft (codes "[" ∷ codes "]" ∷ []) _ (refl, (refl, tt)) refl
  completes (BusRight left) = completed_by (BusRight left) (codes "]" ∷ []) _ (refl, tt) refl
  completes CapNumber = completed_by CapNumber (codes "1" ∷ codes "PF" ∷ []) _ (refl, (refl, tt)) refl
  completes (CapWord number) = completed_by (CapWord number) (codes "PF" ∷ []) _ (refl, tt) refl
  completes ResNumber = completed_by ResNumber (codes "1" ∷ codes "OHM" ∷ []) _ (refl, (refl, tt)) refl
  completes (ResWord number) = completed_by (ResWord number) (codes "OHM" ∷ []) _ (refl, tt) refl
  completes (MapName index) = completed_by (MapName index) (codes "a" ∷ []) _ (refl, tt) refl
  completes NetName = completed_by NetName (codes "a" ∷ codes "0" ∷ codes "*END" ∷ []) _ (refl, (refl, (refl, tt))) refl
  completes NetTotal = completed_by NetTotal (codes "0" ∷ codes "*END" ∷ []) _ (refl, (refl, tt)) refl
  completes AfterTotal = completed_by AfterTotal (codes "*END" ∷ []) _ (refl, tt) refl
  completes Confidence = completed_by Confidence (codes "0" ∷ codes "*END" ∷ []) _ (refl, (refl, tt)) refl
  completes AfterConfidence = completed_by AfterConfidence (codes "*END" ∷ []) _ (refl, tt) refl
  completes Conns = completed_by Conns (codes "*END" ∷ []) _ (refl, tt) refl
  completes (ConnNode port) = completed_by (ConnNode port) (codes "a" ∷ codes "I" ∷ codes "*END" ∷ []) _ (refl, (refl, (refl, tt))) refl
  completes (ConnDirection port node) = completed_by (ConnDirection port node) (codes "I" ∷ codes "*END" ∷ []) _ (refl, (refl, tt)) refl
  completes (ConnTail conn) = completed_by (ConnTail conn) (codes "*END" ∷ []) _ (refl, tt) refl
  completes (ConnLoad conn) = completed_by (ConnLoad conn) (codes "0" ∷ codes "*END" ∷ []) _ (refl, (refl, tt)) refl
  completes NodeLine = completed_by NodeLine (codes "*END" ∷ []) _ (refl, tt) refl
  completes Caps = completed_by Caps (codes "*END" ∷ []) _ (refl, tt) refl
  completes CapFirst = completed_by CapFirst (codes "a" ∷ codes "0" ∷ codes "*END" ∷ []) _ (refl, (refl, (refl, tt))) refl
  completes (CapSecond first) = completed_by (CapSecond first) (codes "0" ∷ codes "*END" ∷ []) _ (refl, (refl, tt)) refl
  completes (CapValue first second) = completed_by (CapValue first second) (codes "0" ∷ codes "*END" ∷ []) _ (refl, (refl, tt)) refl
  completes Ress = completed_by Ress (codes "*END" ∷ []) _ (refl, tt) refl
  completes ResFirst = completed_by ResFirst (codes "a" ∷ codes "a" ∷ codes "0" ∷ codes "*END" ∷ []) _ (refl, (refl, (refl, (refl, tt)))) refl
  completes (ResSecond first) = completed_by (ResSecond first) (codes "a" ∷ codes "0" ∷ codes "*END" ∷ []) _ (refl, (refl, (refl, tt))) refl
  completes (ResValue first second) = completed_by (ResValue first second) (codes "0" ∷ codes "*END" ∷ []) _ (refl, (refl, tt)) refl

pub lives : (state : State) (number : ℕ) → Completes IsToken next finish state number []
lives state number = completes state.head state.done state.begun number state.mode
