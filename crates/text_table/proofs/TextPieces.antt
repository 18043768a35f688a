-- One text more behind those in a table of bytes.
use Rattle.std.proofs.Common.{◌≡◌, ℕ, suc, ◌+◌, ◌-◌, ◌≤◌, List, [], ◌∷◌, ◌++◌, length, take, drop, refl, ap, ap₂, ◌∙◌, arith, length-append, length-drop}
use Rattle.std.proofs.lemmas.List.{take-append-le, drop-append-le, take_all, map-append}
use Rattle.std.proofs.Math.Seq.{drop-append_seam}
use Rattle.token_texts.specs.Spans.{text_at}
use Rattle.token_texts.specs.declared.spans.Span.{Span}
use Rattle.text_table.specs.FlatTexts.{texts_of, AreWithin}
use Rattle.text_table.proofs.Pushing.{each_push}

-- further bytes change no text
pub texts_stay : (bytes more : List ℕ) (pieces : List Span) → AreWithin (length bytes) pieces → texts_of (bytes ++ more) pieces ≡ texts_of bytes pieces
texts_stay bytes more [] within = refl
texts_stay bytes more (piece ∷ pieces) within =
    let fits = within.each 0 piece refl in
    let left = length-drop piece.start bytes in
    let same : text_at (bytes ++ more) piece ≡ text_at bytes piece =
    ap (take piece.len) (drop-append-le piece.start bytes more (omega arith)) ∙ take-append-le piece.len (drop piece.start bytes) more (omega arith) in
    ap₂ (λ (t : List ℕ) (l : List (List ℕ)). t ∷ l) same (texts_stay bytes more pieces (record { each = λ i p at. within.each (suc i) p at }))

-- the texts are as before where further bytes stand behind theirs
pub texts_kept : (bytes : List ℕ) (pieces : List Span) {new : List ℕ} {texts : List (List ℕ)} → (more : List ℕ) × (new ≡ bytes ++ more)
    → AreWithin (length bytes) pieces → texts_of bytes pieces ≡ texts → texts_of new pieces ≡ texts
texts_kept bytes pieces kept within are = ap (λ (b : List ℕ). texts_of b pieces) kept.1 ∙ texts_stay bytes kept.0 pieces within ∙ are

pub within_more : (count more : ℕ) (pieces : List Span) → AreWithin count pieces → count ≤ more → AreWithin more pieces
within_more count more pieces within up = record { each = λ i piece at. let fits = within.each i piece at in omega arith }

module _ (bytes text : List ℕ) (pieces : List Span) (within : AreWithin (length bytes) pieces) (piece : Span) (start : piece.start ≡ length bytes)
    (len : piece.len ≡ length text) where
  pub texts_push : texts_of (bytes ++ text) (pieces ++ piece ∷ []) ≡ texts_of bytes pieces ++ text ∷ []
  texts_push =
      let last : text_at (bytes ++ text) piece ≡ text =
      ap₂ (λ (l s : ℕ). take l (drop s (bytes ++ text))) len start ∙ ap (take (length text)) (drop-append_seam bytes text)
      ∙ take_all (length text) text (omega arith) in
      map-append (text_at (bytes ++ text)) pieces (piece ∷ [])
      ∙ ap₂ (λ (l : List (List ℕ)) (t : List ℕ). l ++ t ∷ []) (texts_stay bytes text pieces within) last

  pub within_push : AreWithin (length (bytes ++ text)) (pieces ++ piece ∷ [])
  within_push =
      let long = length-append bytes text in
      record {
        each = each_push (λ i p. p.start + p.len ≤ length (bytes ++ text)) pieces piece
            (λ i p at. let fits = within.each i p at in omega arith) (omega arith);
      }

-- one text more, whose bytes were put at the end
pub texts_put : (bytes text : List ℕ) (pieces : List Span) {new : List ℕ} {news : List Span} {texts : List (List ℕ)} (start end : ℕ)
    → new ≡ bytes ++ text → news ≡ pieces ++ record { start = start; len = end - start } ∷ [] → start ≡ length bytes → end ≡ length new
    → AreWithin (length bytes) pieces → texts_of bytes pieces ≡ texts → texts_of new news ≡ texts ++ text ∷ []
texts_put bytes text pieces start end put pushed starts ends within are =
    let long = ap length put ∙ length-append bytes text in
    ap₂ texts_of put pushed
    ∙ texts_push bytes text pieces within (record { start = start; len = end - start }) starts (omega (arith, long))
    ∙ ap (λ (l : List (List ℕ)). l ++ text ∷ []) are
