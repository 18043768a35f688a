-- The last delimiter of a word that is sought from its end.
use Rattle.std.proofs.Common.{◌≡◌, ◌≢◌, ℕ, zero, suc, ◌+◌, ◌-◌, ◌<◌, ◌≤◌, Bool, true, false, List, length, take, get_or, Option, Some, None, refl, sym, subst, ◌∙◌, arith}
use Rattle.std.proofs.lemmas.Bool.Decides.{Decides-eqb}
use Rattle.std.proofs.Math.Seq.{take-length}
use Rattle.memchr.specs.Find.{Nowhere, NoneAfter, Passes, is_byte}
use Rattle.edge_io.specs.Bytes.{backslash}
use Rattle.name_table.proofs.Cutting.{IsLastAt, CutsAt, last_stays, last_here, is_apart}
use Rattle.name_table.proofs.Reading.{ends_inside, goes_inside, not_equal, ends_inside_more}

-- bytes behind a place that are no delimiter leave the last one where it was
stays_behind : (delimiter : ℕ) (word : List ℕ) (last : Option ℕ) (from more : ℕ) → from + more ≤ length word → Nowhere (Passes (is_byte delimiter) word) from (length word)
    → IsLastAt delimiter (take from word) last → IsLastAt delimiter (take (from + more) word) last
stays_behind delimiter word last from zero fits none so_far =
    let same : from ≡ from + zero = omega arith in
    subst (λ n. IsLastAt delimiter (take n word) last) same so_far
stays_behind delimiter word last from (suc more) fits none so_far =
    let before : IsLastAt delimiter (take (from + more) word) last = stays_behind delimiter word last from more (omega arith) none so_far in
    let apart : get_or word (from + more) 0 ≢ delimiter = λ same. none (from + more) (omega arith) (omega arith) ((Decides-eqb (get_or word (from + more) 0) delimiter).1 same) in
    let same : from + more + 1 ≡ from + suc more = omega arith in
    subst (λ n. IsLastAt delimiter (take n word) last) same (last_stays delimiter word (from + more) last last (omega arith) before refl (is_apart apart))

-- the same up to the end of the word
stays_to_end : (delimiter : ℕ) (word : List ℕ) (last : Option ℕ) (from : ℕ) → from ≤ length word → Nowhere (Passes (is_byte delimiter) word) from (length word)
    → IsLastAt delimiter (take from word) last → IsLastAt delimiter word last
stays_to_end delimiter word last from fits none so_far =
    let all : from + (length word - from) ≡ length word = omega arith in
    subst (λ word. IsLastAt delimiter word last) (take-length word)
    (subst (λ n. IsLastAt delimiter (take n word) last) all (stays_behind delimiter word last from (length word - from) (omega arith) none so_far))

-- a word without a delimiter
pub found_nowhere : (delimiter : ℕ) (word : List ℕ) → Nowhere (Passes (is_byte delimiter) word) 0 (length word) → IsLastAt delimiter word None
found_nowhere delimiter word none = stays_to_end delimiter word None 0 (omega arith) none refl

-- behind a byte that is no backslash nothing is taken
not_inside : (within : Bool) (byte : ℕ) → byte ≢ backslash → goes_inside within byte ≡ false
not_inside true byte other = refl
not_inside false byte other = not_equal byte backslash other

outside_behind : (word : List ℕ) (place : ℕ) → place ≤ length word → (0 < place → get_or word (place - 1) 0 ≢ backslash) → ends_inside (take place word) ≡ false
outside_behind word zero fits other = refl
outside_behind word (suc before) fits other =
    let same : suc before - 1 ≡ before = omega arith in
    let next : before + 1 ≡ suc before = omega arith in
    let apart : get_or word before 0 ≢ backslash = subst (λ n. get_or word n 0 ≢ backslash) same (other (omega arith)) in
    subst (λ n. ends_inside (take n word) ≡ false) next (ends_inside_more word before (omega arith) ∙ not_inside (ends_inside (take before word)) (get_or word before 0) apart)

-- the last delimiter, where no backslash stands right before it
pub found_last : (delimiter : ℕ) (word : List ℕ) (place : ℕ) → NoneAfter (Passes (is_byte delimiter) word) 0 (length word) place → Passes (is_byte delimiter) word place
    → delimiter ≢ backslash → (0 < place → get_or word (place - 1) 0 ≢ backslash) → CutsAt delimiter word place
found_last delimiter word place none passes other before =
    let within : place < length word = none.high in
    let is : get_or word place 0 ≡ delimiter = (Decides-eqb (get_or word place 0) delimiter).0 passes in
    let outside = outside_behind word place (omega arith) before in
    let here = last_here delimiter word place (Some place) within outside (λ slash. other (sym is ∙ slash)) is refl in
    stays_to_end delimiter word (Some place) (place + 1) (omega arith) none.after here
