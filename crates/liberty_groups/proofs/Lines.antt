-- Line ends are counted one after another.
use Rattle.std.proofs.Common.{◌≡◌, ℕ, zero, suc, ◌+◌, ◌-◌, ◌<◌, ◌≤◌, Bool, true, false, cond, List, length, drop, get_or, Some, None, refl, sym, ap, ◌∙◌, subst, arith, count_by}
use Rattle.std.specs.Prelude.{slice_index}
use lib.ListN.{length-drop}
use lib.Seq.{get_or-drop}
use Rattle.memchr.specs.Find.{IsFirstByte}
use Rattle.std.proofs.lemmas.List.{drop_more, drop_all}
use Rattle.std.proofs.lemmas.List.Sums.{sum_by-cons}
use Rattle.token_texts.specs.Blanks.{is_line_end}

pub record LinesSoFar (bytes : List ℕ) (line index : ℕ) : Type 0 where
  pub within : index ≤ length bytes
  pub bound : line ≤ index + 1
  pub so_far : line + count_by is_line_end (drop index bytes) ≡ count_by is_line_end bytes + 1

pub lines_begin : (bytes : List ℕ) → LinesSoFar bytes 1 0
lines_begin bytes = record { within = omega arith; bound = omega arith; so_far = omega arith }

step : (bytes : List ℕ) (index : ℕ) → index < length bytes → count_by is_line_end (drop index bytes) ≡ cond (is_line_end (get_or bytes index 0)) 1 0 + count_by is_line_end (drop (index + 1) bytes)
step bytes index lt = ap (count_by is_line_end) (drop_more bytes index 0 lt) ∙ sum_by-cons (λ (b : ℕ). cond (is_line_end b) 1 0) (get_or bytes index 0) (drop (index + 1) bytes)

line_passed : (bytes : List ℕ) (line index : ℕ) → LinesSoFar bytes line index → index < length bytes → is_line_end (get_or bytes index 0) ≡ true → LinesSoFar bytes (line + 1) (index + 1)
line_passed bytes line index h lt is =
    let one : count_by is_line_end (drop index bytes) ≡ 1 + count_by is_line_end (drop (index + 1) bytes) = step bytes index lt ∙ ap (λ t. cond t 1 0 + count_by is_line_end (drop (index + 1) bytes)) is in
    let so_far = h.so_far in
    let bound = h.bound in
    record { within = omega arith; bound = omega arith; so_far = omega arith }

byte_passed : (bytes : List ℕ) (line index : ℕ) → LinesSoFar bytes line index → index < length bytes → is_line_end (get_or bytes index 0) ≡ false → LinesSoFar bytes line (index + 1)
byte_passed bytes line index h lt is =
    let none : count_by is_line_end (drop index bytes) ≡ 0 + count_by is_line_end (drop (index + 1) bytes) = step bytes index lt ∙ ap (λ t. cond t 1 0 + count_by is_line_end (drop (index + 1) bytes)) is in
    let so_far = h.so_far in
    let bound = h.bound in
    record { within = omega arith; bound = omega arith; so_far = omega arith }

-- so many bytes of which none is a line end
bytes_passed : (bytes : List ℕ) (line index k : ℕ) → LinesSoFar bytes line index → index + k ≤ length bytes
    → ((j : ℕ) → j < k → is_line_end (slice_index (drop index bytes) j) ≡ false) → LinesSoFar bytes line (index + k)
bytes_passed bytes line index zero h le none = subst (LinesSoFar bytes line) (omega arith) h
bytes_passed bytes line index (suc k) h le none =
    let before = bytes_passed bytes line index k h (omega (arith, le)) (λ j lt. none j (omega (arith, lt))) in
    let same : get_or bytes (index + k) 0 ≡ slice_index (drop index bytes) k = sym (get_or-drop index bytes k 0) in
    subst (LinesSoFar bytes line) (omega arith) (byte_passed bytes line (index + k) before (omega (arith, le)) (ap is_line_end same ∙ none k (omega arith)))

no_line_end : (b : Bool) → (b ≡ true → ⊥) → b ≡ false
no_line_end true h = absurd (h refl)
no_line_end false h = refl

lines_end : (bytes : List ℕ) (line index : ℕ) → LinesSoFar bytes line index → length bytes ≤ index → line ≡ count_by is_line_end bytes + 1
lines_end bytes line index h le =
    let none : count_by is_line_end (drop index bytes) ≡ 0 = ap (count_by is_line_end) (drop_all index bytes le) in
    let so_far = h.so_far in
    omega arith

-- up to the line end that stands first, and behind it
pub first_passed : (bytes rest : List ℕ) (line index end : ℕ) → LinesSoFar bytes line index → rest ≡ drop index bytes → IsFirstByte is_line_end rest (Some end)
    → LinesSoFar bytes (line + 1) (index + (end + 1))
first_passed bytes rest line index end h behind first =
    let here = subst (λ (l : List ℕ). IsFirstByte is_line_end l (Some end)) behind first in
    let within : end < length bytes - index = subst (λ n. end < n) (length-drop index bytes) here.0.high in
    let before = bytes_passed bytes line index end h (omega (arith, within)) (λ j lt. no_line_end _ (here.0.before j (omega arith) lt)) in
    let same : get_or bytes (index + end) 0 ≡ slice_index (drop index bytes) end = sym (get_or-drop index bytes end 0) in
    subst (LinesSoFar bytes (line + 1)) (omega arith) (line_passed bytes line (index + end) before (omega (arith, within)) (ap is_line_end same ∙ here.1))

-- no line end is left
pub none_left : (bytes rest : List ℕ) (line index : ℕ) → LinesSoFar bytes line index → rest ≡ drop index bytes → IsFirstByte is_line_end rest None
    → line ≡ count_by is_line_end bytes + 1
none_left bytes rest line index h behind none =
    let here = subst (λ (l : List ℕ). IsFirstByte is_line_end l None) behind none in
    let size : length (drop index bytes) ≡ length bytes - index = length-drop index bytes in
    let within = h.within in
    let all = bytes_passed bytes line index (length bytes - index) h (omega arith) (λ j lt. no_line_end _ (here j (omega arith) (omega (arith, size, lt)))) in
    lines_end bytes line (index + (length bytes - index)) all (omega arith)
