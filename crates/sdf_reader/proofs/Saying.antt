-- What the bytes of a text say, byte by byte.
use Rattle.std.proofs.Common.{◌≡◌, ℕ, suc, ◌+◌, ◌-◌, ◌<◌, ◌≤◌, Bool, true, false, cond, not, ◌&&◌, ◌==◌, List, [], ◌∷◌, ◌++◌, length, take, drop, get_or, refl, sym, ap, ◌∙◌, arith, append-nil, append_assoc}
use Rattle.std.proofs.lemmas.List.{drop_more, drop_all}
use Rattle.sdf_reader.specs.Tokens.{said_behind, meaning}
use Rattle.token_texts.specs.ByteLemmas.{not_byte}
use Rattle.sdf_reader.proofs.Clashes.{never_true, never_false}

-- what the whole says is the text so far, and what the rest says
pub record SaidSoFar (whole text : List ℕ) (taken : Bool) (place : ℕ) : Type 0 where
  pub within : place ≤ length whole
  pub so_far : said_behind false whole ≡ text ++ said_behind taken (drop place whole)

pub said_begins : (whole : List ℕ) → SaidSoFar whole [] false 0
said_begins whole = record { within = omega arith; so_far = refl }

said_step : (taken : Bool) (b : ℕ) (rest : List ℕ) → said_behind taken (b ∷ rest) ≡ cond (b == 92 && not taken) (said_behind true rest) (b ∷ said_behind false rest)
unfolding said_behind
said_step taken b rest = refl

step_on : (whole text : List ℕ) (taken : Bool) (place : ℕ) (takes : Bool) → SaidSoFar whole text taken place → place < length whole → takes ≡ (get_or whole place 0 == 92 && not taken)
    → said_behind false whole ≡ text ++ cond takes (said_behind true (drop (place + 1) whole)) (get_or whole place 0 ∷ said_behind false (drop (place + 1) whole))
step_on whole text taken place takes h lt e =
    h.so_far ∙ ap (λ l. text ++ said_behind taken l) (drop_more whole place 0 lt) ∙ ap (λ l. text ++ l) (said_step taken (get_or whole place 0) (drop (place + 1) whole)
    ∙ ap (λ t. cond t (said_behind true (drop (place + 1) whole)) (get_or whole place 0 ∷ said_behind false (drop (place + 1) whole))) (sym e))

pub said_takes : (whole text : List ℕ) (taken : Bool) (place : ℕ) (takes : Bool) → SaidSoFar whole text taken place → place < length whole → takes ≡ (get_or whole place 0 == 92 && not taken) → takes ≡ true → SaidSoFar whole text takes (place + 1)
said_takes whole text taken place true h lt e is = record { within = omega arith; so_far = step_on whole text taken place true h lt e }
said_takes whole text taken place false h lt e is = never_true is

pub said_keeps : (whole text : List ℕ) (taken : Bool) (place : ℕ) (takes : Bool) → SaidSoFar whole text taken place → place < length whole → takes ≡ (get_or whole place 0 == 92 && not taken) → takes ≡ false → SaidSoFar whole (text ++ get_or whole place 0 ∷ []) takes (place + 1)
said_keeps whole text taken place false h lt e is = record {
  within = omega arith;
  so_far = step_on whole text taken place false h lt e ∙ sym (append_assoc text (get_or whole place 0 ∷ []) (said_behind false (drop (place + 1) whole)));
}
said_keeps whole text taken place true h lt e is = never_false is

pub said_ends : (whole text : List ℕ) (taken : Bool) (place : ℕ) → SaidSoFar whole text taken place → length whole ≤ place → text ≡ said_behind false whole
unfolding said_behind
said_ends whole text taken place h le = sym (h.so_far ∙ ap (λ l. text ++ said_behind taken l) (drop_all place whole le) ∙ append-nil text)

-- without a backslash each byte stands for itself
pub plain_text : (bytes : List ℕ) → ((i : ℕ) → i < length bytes → get_or bytes i 0 ≡ 92 → ⊥) → bytes ≡ said_behind false bytes
unfolding said_behind
plain_text [] none = refl
plain_text (b ∷ bytes) none =
    let here : (b == 92) ≡ false = not_byte b 92 (none 0 (omega arith)) in
    let rest = plain_text bytes (λ i lt. none (suc i) (omega arith)) in
    ap (λ l. b ∷ l) rest ∙ sym (ap (λ t. cond (t && true) (said_behind true bytes) (b ∷ said_behind false bytes)) here)

-- a text has its two quotes
pub short_text : (bytes : List ℕ) → length bytes < 2 → meaning bytes ≡ []
unfolding said_behind
short_text bytes short =
    let none : length bytes - 2 ≡ 0 = omega arith in
    ap (λ n. said_behind false (take n (drop 1 bytes))) none
