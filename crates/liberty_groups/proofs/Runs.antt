-- How far a word goes, byte by byte.
use Rattle.std.proofs.Common.{◌≡◌, ℕ, ◌+◌, ◌-◌, ◌<◌, ◌≤◌, Bool, true, false, cond, not, ◌&&◌, ◌==◌, List, ◌∷◌, length, drop, get_or, refl, ap, ◌∙◌, arith}
use Rattle.std.proofs.lemmas.List.{drop_more, drop_all}
use Rattle.edge_io.specs.Bytes.{slash, left_bracket, right_bracket}
use Rattle.liberty_groups.specs.Tokens.{is_plain, is_mark, word_length, goes_on, opened_behind}
use Rattle.liberty_groups.specs.Cuts.{is_simple}

-- the word of the whole is the bytes so far and the word of the rest
pub record WordSoFar (whole : List ℕ) (opened unclosed place : ℕ) : Type 0 where
  pub within : place ≤ length whole
  pub bound : unclosed ≤ place + 1
  pub so_far : word_length opened whole ≡ place + word_length unclosed (drop place whole)

pub word_begins : (whole : List ℕ) (opened : ℕ) → opened ≤ 1 → WordSoFar whole opened opened 0
word_begins whole opened le = record { within = omega arith; bound = omega arith; so_far = omega arith }

pub word_step : (opened b : ℕ) (rest : List ℕ) → word_length opened (b ∷ rest) ≡ cond (goes_on opened b rest) (word_length (opened_behind opened b) rest + 1) 0
unfolding word_length
word_step opened b rest = refl

opened_bound : (opened b n : ℕ) → opened ≤ n → opened_behind opened b ≤ n + 1
opened_bound opened b n le = elim (b == left_bracket) as (λ t. cond t (opened + 1) (cond (b == right_bracket) (opened - 1) opened) ≤ n + 1) [
  | true ↦ omega arith
  | false ↦ elim (b == right_bracket) as (λ t. cond t (opened - 1) opened ≤ n + 1) [ true ↦ omega arith | false ↦ omega arith ]
]

pub word_goes_on : (whole : List ℕ) (opened unclosed place : ℕ) → WordSoFar whole opened unclosed place → place < length whole → goes_on unclosed (get_or whole place 0) (drop (place + 1) whole) ≡ true → WordSoFar whole opened (opened_behind unclosed (get_or whole place 0)) (place + 1)
word_goes_on whole opened unclosed place h lt on =
    let b : ℕ = get_or whole place 0 in
    let rest : List ℕ = drop (place + 1) whole in
    let step : word_length unclosed (drop place whole) ≡ word_length (opened_behind unclosed b) rest + 1 =
    ap (word_length unclosed) (drop_more whole place 0 lt) ∙ word_step unclosed b rest ∙ ap (λ t. cond t (word_length (opened_behind unclosed b) rest + 1) 0) on in
    let so_far = h.so_far in
    let bound = opened_bound unclosed b (place + 1) h.bound in
    record { within = omega arith; bound = omega arith; so_far = omega arith }

pub word_stops : (whole : List ℕ) (opened unclosed place : ℕ) → WordSoFar whole opened unclosed place → place < length whole → goes_on unclosed (get_or whole place 0) (drop (place + 1) whole) ≡ false → place ≡ word_length opened whole
word_stops whole opened unclosed place h lt on =
    let b : ℕ = get_or whole place 0 in
    let rest : List ℕ = drop (place + 1) whole in
    let step : word_length unclosed (drop place whole) ≡ 0 =
    ap (word_length unclosed) (drop_more whole place 0 lt) ∙ word_step unclosed b rest ∙ ap (λ t. cond t (word_length (opened_behind unclosed b) rest + 1) 0) on in
    let so_far = h.so_far in
    omega arith

pub word_ends : (whole : List ℕ) (opened unclosed place : ℕ) → WordSoFar whole opened unclosed place → length whole ≤ place → place ≡ word_length opened whole
unfolding word_length
word_ends whole opened unclosed place h le =
    let step : word_length unclosed (drop place whole) ≡ 0 = ap (word_length unclosed) (drop_all place whole le) in
    let so_far = h.so_far in
    omega arith

pub all_five : (p m s l r : Bool) → (p && not m && not s && not l && not r) ≡ true → (p ≡ true) × (m ≡ false) × (s ≡ false) × (l ≡ false) × (r ≡ false)
all_five true false false false false e = (refl, refl, refl, refl, refl)
all_five true true s l r e = cc
all_five true false true l r e = cc
all_five true false false true r e = cc
all_five true false false false true e = cc
all_five false m s l r e = cc

-- a simple byte
pub simple_goes_on : (unclosed byte : ℕ) (rest : List ℕ) → is_simple byte ≡ true → goes_on unclosed byte rest ≡ true
simple_goes_on unclosed byte rest e =
    let is = all_five (is_plain byte) (is_mark byte) (byte == slash) (byte == left_bracket) (byte == right_bracket) e in
    rw (is.0, is.1, is.2) refl

pub simple_opens_none : (unclosed byte : ℕ) → is_simple byte ≡ true → opened_behind unclosed byte ≡ unclosed
simple_opens_none unclosed byte e =
    let is = all_five (is_plain byte) (is_mark byte) (byte == slash) (byte == left_bracket) (byte == right_bracket) e in
    rw (is.3, is.4) refl
