-- One token more leads the reader on, or stops it.
use Rattle.std.proofs.Common.{◌≡◌, ℕ, ◌+◌, ◌-◌, List, [], ◌∷◌, ◌++◌, length, true, false, Some, None, Ok, Err, refl, sym, ap, ◌∙◌, subst, arith}
use Rattle.std.specs.Prelude.{slice_get}
use Rattle.std.proofs.lemmas.List.{map-append}
use Rattle.token_texts.specs.Cuts.{Part, gap, token, lexemes}
use Rattle.token_texts.specs.Leading as leading
use Rattle.token_texts.specs.Leading.{leads_on, leads_to_stop, leads_to_value, leads_to_end}
use Rattle.token_texts.specs.Readings.{IsNext}
use Rattle.spef_text.specs.Tokens.{texts_of}
use Rattle.spef_text.specs.Starts.{starts_from, short_len, short_lens}
use Rattle.spef_text.specs.Modes.{first_state, next, may_end, finish}
use Rattle.spef_text.specs.ReaderStates.{state_of, reading_of}
use Rattle.spef_text.specs.Leading.{Leads, Stops, Makes}
use Rattle.spef_text.specs.SpefFiles.{IsRefusalAt, IsRefusalOf}
use Rattle.spef_text.specs.declared.scan.Kind.{Kind}
use Rattle.spef_text.specs.declared.reader.Reader.{Reader}
use Rattle.spef_text.specs.declared.parsing.SpefEnd.{SpefEnd}
use Rattle.spef_text.specs.declared.parsing.SpefEnd.TheVariants.{Syntax, Form, OutOfMemory}
use Rattle.spef_text.proofs.Starting.{texts_behind, texts_gap, texts_count, starts_gap, starts_token, starts_count}

-- what is passed over says nothing
pub passed : (before : List (Part Kind)) (bytes : List ℕ) (reader : Reader) → Leads before reader → Leads (before ++ gap bytes ∷ []) reader
passed before bytes reader h = record {
  state = subst (λ (texts : List (List ℕ)). leading.Leads next finish first_state texts (state_of reader)) (sym (texts_gap before bytes)) h.state;
  starts = h.starts ∙ sym (starts_gap 0 before bytes);
  lens = h.lens ∙ ap short_lens (sym (texts_gap before bytes));
}

module _ (before : List (Part Kind)) (number start : ℕ) (kind : Kind) (text : List ℕ) (reader : Reader) (is_next : IsNext before number start)
    (h : Leads before reader) where
  count : number ≡ length (texts_of before) + 1
  count = let e = is_next.count in let f = texts_count before in omega arith

  -- a token is taken
  pub taken : (after : Reader) → next (state_of reader) (record { number = number; text = text }) ≡ Ok (state_of after)
      → after.starts.items ≡ reader.starts.items ++ start ∷ [] → after.lens.items ≡ reader.lens.items ++ short_len text ∷ []
      → Leads (before ++ token (record { kind = kind; bytes = text }) ∷ []) after
  taken after moves pushed measured = record {
    state = subst (λ (texts : List (List ℕ)). leading.Leads next finish first_state texts (state_of after))
        (sym (texts_behind before (token (record { kind = kind; bytes = text }) ∷ [])))
        (leads_on next finish first_state (texts_of before) number (state_of reader) (state_of after) text count h.state moves);
    starts = pushed ∙ ap (λ l. l ++ start ∷ []) h.starts ∙ ap (λ n. starts_from 0 before ++ n ∷ []) (let e = is_next.place in omega arith)
        ∙ sym (starts_token 0 before (record { kind = kind; bytes = text }));
    lens = measured ∙ ap (λ l. l ++ short_len text ∷ []) h.lens ∙ sym (map-append short_len (texts_of before) (text ∷ []))
        ∙ ap short_lens (sym (texts_behind before (token (record { kind = kind; bytes = text }) ∷ [])));
  }

  there : (more : List (List ℕ)) (texts : List (List ℕ)) (n : ℕ) → n ≡ length texts + 1 → slice_get (texts ++ text ∷ more) (n - 1) ≡ Some text
  there more texts n is = ap (slice_get (texts ++ text ∷ more)) (omega arith) ∙ at texts
    where
      at : (texts : List (List ℕ)) → slice_get (texts ++ text ∷ more) (length texts) ≡ Some text
      at [] = refl
      at (first ∷ texts) = at texts

  refusal_there : (end : SpefEnd) (texts : List (List ℕ)) → slice_get texts (number - 1) ≡ Some text → IsRefusalOf text number end → IsRefusalAt texts number end
  refusal_there (Syntax told) texts is refusal = (refusal.0, λ other at. let e : Some other ≡ Some text = sym at ∙ is in cc)
  refusal_there (Form word told) texts is refusal = (refusal.0, is ∙ ap (λ t. Some t) (sym refusal.1), refusal.2)
  refusal_there OutOfMemory texts is refusal = tt

  -- a token is refused
  pub refused : (end : SpefEnd) → next (state_of reader) (record { number = number; text = text }) ≡ Err tt → IsRefusalOf text number end
      → (more : List (Part Kind)) → Stops (before ++ token (record { kind = kind; bytes = text }) ∷ more) number end
  refused end stops refusal more =
      let both = subst (λ (texts : List (List ℕ)). leading.Stops next finish first_state texts number tt × IsRefusalAt texts number end)
      (sym (texts_behind before (token (record { kind = kind; bytes = text }) ∷ more))) (
        leads_to_stop next finish first_state (texts_of before) (texts_of more) number (state_of reader) text tt count h.state stops,
        refusal_there end (texts_of before ++ text ∷ texts_of more) (there (texts_of more) (texts_of before) number count) refusal,
      ) in
      record { stops = both.0; refusal = both.1 }

-- ---- the end

past : (texts : List (List ℕ)) → slice_get texts (length texts + 1 - 1) ≡ None
past texts = ap (slice_get texts) (omega arith) ∙ none texts
  where
    none : (texts : List (List ℕ)) → slice_get texts (length texts) ≡ None
    none [] = refl
    none (first ∷ texts) = none texts

-- the file may end here
pub ended : (parts : List (Part Kind)) (reader : Reader) → Leads parts reader → may_end reader.mode ≡ true → Makes parts reader
ended parts reader h may = record {
  reading = leads_to_value next finish first_state (texts_of parts) (state_of reader) (reading_of reader) h.state (simp may);
  starts = h.starts;
  lens = h.lens;
}

-- it may not
pub cut_off : (parts : List (Part Kind)) (reader : Reader) (told : ℕ) → Leads parts reader → may_end reader.mode ≡ false
    → told ≡ length reader.starts.items + 1 → Stops parts (length (lexemes parts) + 1) (Syntax told)
cut_off parts reader told h may_not is =
    let as_many = texts_count parts in
    let begun = starts_count 0 parts in
    let kept : length reader.starts.items ≡ length (starts_from 0 parts) = ap length h.starts in
    subst (λ (n : ℕ). Stops parts n (Syntax told)) (omega arith)
    (record {
      stops = leads_to_end next finish first_state (texts_of parts) (state_of reader) tt h.state (simp may_not);
      refusal = (omega arith, λ text at. let e : Some text ≡ None = sym at ∙ past (texts_of parts) in absurd (cc));
    })
