-- What the bytes of a text say, byte by byte.
use Rattle.std.proofs.Common.{◌≡◌, ℕ, zero, suc, ◌+◌, ◌-◌, ◌<◌, ◌≤◌, Bool, true, false, cond, ◌&&◌, ◌||◌, ◌==◌, List, [], ◌∷◌, ◌++◌, length, take, drop, get_or, refl, sym, ap, ◌∙◌, subst, arith, append-nil, append_assoc, nat_lt}
use Rattle.std.proofs.lemmas.List.{drop_more, drop_all, drop-drop}
use Rattle.edge_io.specs.Bytes.{quote, backslash, begins_with}
use Rattle.token_texts.specs.ByteLemmas.{not_byte}
use Rattle.liberty_groups.specs.Tokens.{continuation, is_dropped, meaning_behind, meaning}
use Rattle.liberty_groups.specs.Dropping.{dropped}
use Rattle.liberty_groups.specs.Tokens.{said_by}
use Rattle.liberty_groups.specs.declared.scan.Kind.{Kind}
use Rattle.liberty_groups.specs.declared.scan.Kind.TheVariants.{Quoted}

pub record SaidSoFar (whole text : List ℕ) (place : ℕ) : Type 0 where
  pub within : place ≤ length whole
  pub so_far : meaning whole ≡ text ++ meaning_behind 0 (drop place whole)

pub said_begins : (whole : List ℕ) → SaidSoFar whole [] 0
said_begins whole = record { within = omega arith; so_far = refl }

-- bytes that are still to be dropped
skips : (n : ℕ) (bytes : List ℕ) → meaning_behind n bytes ≡ meaning_behind 0 (drop n bytes)
unfolding meaning_behind
skips zero bytes = refl
skips (suc n) [] = refl
skips (suc n) (b ∷ bytes) = skips n bytes

said_step : (b : ℕ) (rest : List ℕ) → meaning_behind 0 (b ∷ rest) ≡ cond (is_dropped b rest) (meaning_behind (continuation rest) rest) (b ∷ meaning_behind 0 rest)
unfolding meaning_behind
said_step b rest = refl

step_drop : (is : Bool) (b : ℕ) (rest : List ℕ) → is_dropped b rest ≡ is → 0 < cond is (continuation rest + 1) 0 → meaning_behind 0 (b ∷ rest) ≡ meaning_behind 0 (drop (cond is (continuation rest + 1) 0) (b ∷ rest))
step_drop true b rest is some =
    let one : continuation rest + 1 ≡ suc (continuation rest) = omega arith in
    said_step b rest ∙ ap (λ t. cond t (meaning_behind (continuation rest) rest) (b ∷ meaning_behind 0 rest)) is ∙ skips (continuation rest) rest
    ∙ sym (ap (λ n. meaning_behind 0 (drop n (b ∷ rest))) one)
step_drop false b rest is some = absurd (omega arith)

step_keep : (is : Bool) (b : ℕ) (rest : List ℕ) → is_dropped b rest ≡ is → cond is (continuation rest + 1) 0 ≡ 0 → meaning_behind 0 (b ∷ rest) ≡ b ∷ meaning_behind 0 rest
step_keep false b rest is none = said_step b rest ∙ ap (λ t. cond t (meaning_behind (continuation rest) rest) (b ∷ meaning_behind 0 rest)) is
step_keep true b rest is none = absurd (omega arith)

pub said_drops : (whole text : List ℕ) (place count : ℕ) → SaidSoFar whole text place → place < length whole → count ≡ dropped (get_or whole place 0) (drop (place + 1) whole) → 0 < count → place + count ≤ length whole → SaidSoFar whole text (place + count)
said_drops whole text place count h lt e some le =
    let b : ℕ = get_or whole place 0 in
    let rest : List ℕ = drop (place + 1) whole in
    record {
      within = le;
      so_far = h.so_far ∙ ap (λ l. text ++ meaning_behind 0 l) (drop_more whole place 0 lt)
          ∙ ap (λ l. text ++ l) (step_drop (is_dropped b rest) b rest refl (subst (λ (n : ℕ). 0 < n) e some)
          ∙ ap (λ n. meaning_behind 0 (drop n (b ∷ rest))) (sym e)
          ∙ ap (λ l. meaning_behind 0 (drop count l)) (sym (drop_more whole place 0 lt))
          ∙ ap (meaning_behind 0) (drop-drop count place whole));
    }

pub said_keeps : (whole text : List ℕ) (place count : ℕ) → SaidSoFar whole text place → place < length whole → count ≡ dropped (get_or whole place 0) (drop (place + 1) whole) → count ≡ 0 → SaidSoFar whole (text ++ get_or whole place 0 ∷ []) (place + 1)
said_keeps whole text place count h lt e none =
    let b : ℕ = get_or whole place 0 in
    let rest : List ℕ = drop (place + 1) whole in
    record {
      within = omega arith;
      so_far = h.so_far ∙ ap (λ l. text ++ meaning_behind 0 l) (drop_more whole place 0 lt)
          ∙ ap (λ l. text ++ l) (step_keep (is_dropped b rest) b rest refl (sym e ∙ none))
          ∙ sym (append_assoc text (b ∷ []) (meaning_behind 0 rest));
    }

pub said_ends : (whole text : List ℕ) (place : ℕ) → SaidSoFar whole text place → length whole ≤ place → text ≡ meaning whole
unfolding meaning_behind
said_ends whole text place h le = sym (h.so_far ∙ ap (λ l. text ++ meaning_behind 0 l) (drop_all place whole le) ∙ append-nil text)

-- without a backslash each byte stands for itself
pub plain_text : (bytes : List ℕ) → ((i : ℕ) → i < length bytes → get_or bytes i 0 ≡ 92 → ⊥) → bytes ≡ meaning bytes
unfolding meaning_behind
plain_text [] none = refl
plain_text (b ∷ bytes) none =
    let here : (b == backslash) ≡ false = not_byte b backslash (none 0 (omega arith)) in
    let kept : is_dropped b bytes ≡ false = ap (λ t. t && (begins_with quote bytes || nat_lt 0 (continuation bytes))) here in
    let rest = plain_text bytes (λ i lt. none (suc i) (omega arith)) in
    ap (λ l. b ∷ l) rest ∙ sym (ap (λ t. cond t (meaning_behind (continuation bytes) bytes) (b ∷ meaning_behind 0 bytes)) kept)

-- a text has its two quotes
pub short_text : (k : Kind) (bytes : List ℕ) → k ≡ Quoted → length bytes < 2 → said_by k bytes ≡ []
unfolding meaning_behind
short_text k bytes is short =
    let none : length bytes - 2 ≡ 0 = omega arith in
    ap (λ x. said_by x bytes) is ∙ ap (λ n. meaning (take n (drop 1 bytes))) none
