-- From what the reader makes of the tokens to what is told of the bytes.
use Rattle.std.proofs.Common.{◌≡◌, ℕ, ◌+◌, ◌-◌, ◌<◌, ◌≤◌, List, ◌∷◌, length, Ok, Err, refl, sym, ap, ◌∙◌, subst, arith}
use Rattle.std.specs.Prelude.{⊤, ◌^◌, slice_get}
use Rattle.std.proofs.lemmas.List.{length-drop}
use Rattle.token_fronts.specs.Machine.{Stop, outcome}
use Rattle.token_fronts.specs.Stopping.{stopped}
use Rattle.token_fronts.specs.ReadingLaw.{makes_said, leaves_where_stopped, one_reading, one_leaving}
use Rattle.token_texts.specs.Cuts.{Part, AreParts, no_part, and_gap, and_token, IsWithin}
use Rattle.token_texts.specs.Readings.{MakesParts, StopsParts, IfRefused}
use Rattle.token_texts.specs.declared.reading.ReadEnd.{ReadEnd}
use Rattle.token_texts.specs.declared.reading.ReadEnd.TheVariants.{Refused}
use Rattle.spef_text.specs.Tokens.{cut_at, texts_of, AreTokens, IsToken}
use Rattle.spef_text.specs.Starts.{texts, short_lens}
use Rattle.spef_text.specs.Grammar.{IsSpef}
use Rattle.spef_text.specs.Entries.{Reading}
use Rattle.spef_text.specs.Modes.{State, first_state, next, finish}
use Rattle.spef_text.specs.ReaderStates.{reading_of}
use Rattle.spef_text.specs.SpefFiles.{SpefText, SaysSpef, LeavesSpef, IsKept, Reads, IsDead, IsRefusalAt, HasForm}
use Rattle.spef_text.specs.Leading.{Stops, Makes}
use Rattle.spef_text.specs.declared.reader.Reader.{Reader}
use Rattle.spef_text.specs.declared.parsing.SpefEnd.{SpefEnd}
use Rattle.spef_text.specs.declared.parsing.SpefEnd.TheVariants.{Syntax, Form, OutOfMemory}
use Rattle.token_texts.specs.declared.cuts.Cut.{Cut}
use Rattle.token_texts.specs.declared.cuts.Cut.TheVariants.{Take}
use Rattle.spef_text.specs.declared.scan.Kind.{Kind}
use Rattle.spef_text.specs.Within.{cut_within}
use Rattle.spef_text.proofs.Scanning.{one_tokens}
use Rattle.spef_text.proofs.Fitting.{fits}
use Rattle.spef_text.proofs.Starting.{texts_there}

few_parts : {bytes : List ℕ} {parts : List (Part Kind)} → AreParts cut_at bytes parts → length (texts_of parts) ≤ length bytes
few_parts no_part = omega arith
few_parts (and_gap {first = first} {rest = rest} n e later) = omega (arith, few_parts later, length-drop n (first ∷ rest))
few_parts (and_token {first = first} {rest = rest} n kind e later) =
    let within : IsWithin (length rest + 1) (Take n kind) =
    subst (λ (cut : Cut Kind). IsWithin (length rest + 1) cut) e (cut_within first rest) in
    omega (arith, few_parts later, length-drop n (first ∷ rest), within.0)

-- there are no more tokens than bytes
pub few_tokens : {bytes : List ℕ} {texts : List (List ℕ)} → AreTokens bytes texts → length texts ≤ length bytes
few_tokens are = rw are.are (few_parts are.parted)

one_parting : (bytes : List ℕ) (one other : List (List ℕ)) → AreTokens bytes one → AreTokens bytes other → one ≡ other
one_parting bytes one other is is' = one_tokens is is'

module _ (bytes : List ℕ) (texts : List (List ℕ)) (parted : AreTokens bytes texts) where
  pub reads : (reading : Reading) → outcome next finish first_state 1 texts ≡ Ok reading → Reads bytes (record { texts = texts; reading = reading })
  reads reading e = record { parted = parted; formed = fits.means texts reading e }

  said_made : (reading : Reading) → SaysSpef bytes reading → outcome next finish first_state 1 texts ≡ Ok reading
  said_made reading says = makes_said AreTokens IsToken IsSpef next finish first_state fits one_parting bytes texts reading parted says

  pub no_other : (reading other : Reading) → outcome next finish first_state 1 texts ≡ Ok reading → SaysSpef bytes other → reading ≡ other
  no_other reading other e says = let e' = said_made other says in cc

  module _ (number : ℕ) (stops : (stop : Stop State ⊤) × (outcome next finish first_state 1 texts ≡ Err stop) × (number ≡ stop.number)) where
    pub positive : 0 < number
    positive =
        let at = stopped IsToken next finish fits.lives first_state 1 texts stops.0 stops.1 in
        let is = stops.2 in
        omega (arith, at.is)

    pub says_nothing : (reading : Reading) → SaysSpef bytes reading → ⊥
    says_nothing reading says = let e = said_made reading says in let f = stops.1 in cc

    leaves : LeavesSpef bytes number
    leaves = rw stops.2 (leaves_where_stopped AreTokens IsToken IsSpef next finish first_state fits one_parting bytes texts stops.0 parted stops.1)

    pub is_dead : (end : SpefEnd) → IsRefusalAt texts number end → IsDead bytes end
    is_dead (Syntax token) is = subst (λ (n : ℕ). LeavesSpef bytes n) (sym is.0) leaves
    is_dead (Form word token) is = subst (λ (n : ℕ). LeavesSpef bytes n) (sym is.0) leaves
    is_dead OutOfMemory is = tt

    pub has_form : (end : SpefEnd) → IsRefusalAt texts number end → HasForm bytes end
    has_form (Syntax token) is = λ other parted'.
        let same = one_parting bytes texts other parted parted' in
        subst (λ (all : List (List ℕ)). IsRefusalAt all token (Syntax token)) same
        (refl, λ text at. is.1 text (ap (λ n. slice_get texts (n - 1)) (sym is.0) ∙ at))
    has_form (Form word token) is = λ other parted'.
        let same = one_parting bytes texts other parted parted' in
        subst (λ (all : List (List ℕ)). IsRefusalAt all token (Form word token)) same
        (refl, ap (λ n. slice_get texts (n - 1)) is.0 ∙ is.1, is.2)
    has_form OutOfMemory is = tt

-- what bytes say, and where they leave the grammar, is one
pub one_spef : (bytes : List ℕ) (one other : Reading) → SaysSpef bytes one → SaysSpef bytes other → one ≡ other
one_spef = one_reading AreTokens IsToken IsSpef next finish first_state fits one_parting

pub one_dead : (bytes : List ℕ) (one other : ℕ) → LeavesSpef bytes one → LeavesSpef bytes other → one ≡ other
one_dead = one_leaving AreTokens IsToken IsSpef next finish first_state fits one_parting

-- ---- what the loop over the tokens answers

abbrev pub text_of_reader : List ℕ → Reader → SpefText
text_of_reader bytes reader = record { texts = texts bytes reader.starts.items; reading = reading_of reader }

module _ {bytes : List ℕ} {reader : Reader} (h : MakesParts cut_at Makes bytes reader) where
  -- the tokens that begin where the reader says are those of the bytes
  parted_there : AreTokens bytes (texts bytes reader.starts.items)
  parted_there = record { parts = h.parts; parted = h.parted; are = ap (texts bytes) h.made.starts ∙ texts_there bytes 0 h.parted refl }

  made_there : outcome next finish first_state 1 (texts bytes reader.starts.items) ≡ Ok (reading_of reader)
  unfolding parted_there
  made_there = subst (λ (l : List (List ℕ)). outcome next finish first_state 1 l ≡ Ok (reading_of reader)) (sym parted_there.are) h.made.reading

  -- the lengths that it has are theirs
  pub lens_there : reader.lens.items ≡ short_lens (texts bytes reader.starts.items)
  unfolding parted_there
  lens_there = h.made.lens ∙ ap short_lens (sym parted_there.are)

  pub reads_there : Reads bytes (text_of_reader bytes reader)
  reads_there = reads bytes (texts bytes reader.starts.items) parted_there (reading_of reader) made_there

  pub only_there : (other : Reading) → SaysSpef bytes other → reading_of reader ≡ other
  only_there other says = no_other bytes (texts bytes reader.starts.items) parted_there (reading_of reader) other made_there says

  pub kept_there : length bytes < 2 ^ 30 → IsKept (text_of_reader bytes reader)
  kept_there small = record { formed = reads_there.formed; few = let few = few_tokens parted_there in omega (arith, few, small) }

module _ {bytes : List ℕ} {number start : ℕ} {end : SpefEnd} (h : StopsParts cut_at Stops bytes number start end) where
  here : AreTokens bytes (texts_of h.parts)
  here = record { parts = h.parts; parted = h.parted; are = refl }

  stop_there : (stop : Stop State ⊤) × (outcome next finish first_state 1 (texts_of h.parts) ≡ Err stop) × (number ≡ stop.number)
  stop_there = (record { number = number; state = h.stops.stops.0; cause = tt }, h.stops.stops.1, refl)

  pub dead_there : IsDead bytes end
  dead_there = is_dead bytes (texts_of h.parts) here number stop_there end h.stops.refusal

  pub form_there : HasForm bytes end
  form_there = has_form bytes (texts_of h.parts) here number stop_there end h.stops.refusal

  pub nothing_there : (reading : Reading) → SaysSpef bytes reading → ⊥
  nothing_there reading says = says_nothing bytes (texts_of h.parts) here number stop_there reading says

pub if_dead : {bytes : List ℕ} {number start : ℕ} {end : SpefEnd} (answer : ReadEnd SpefEnd) → answer ≡ Refused number start end
    → IfRefused {A = Reader} (Err answer) (StopsParts cut_at Stops bytes) → StopsParts cut_at Stops bytes number start end
if_dead {bytes} answer is h = subst (λ (e : ReadEnd SpefEnd). IfRefused {A = Reader} (Err e) (StopsParts cut_at Stops bytes)) is h
