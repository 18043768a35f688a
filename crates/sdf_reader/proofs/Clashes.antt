-- Answers that cannot be equal, and what two equal ones hold: by lemmas, since a tactic reads all that is in scope at each use.
use Rattle.std.proofs.Common.{◌≡◌, true, false, List, [], ◌∷◌, drop, Option, Some, None, Result, Ok, Err, refl, sym, ap}
use Rattle.std.proofs.lemmas.Bool.{true≢false, false≢true}
use Rattle.std.proofs.lemmas.Option.{none-some, same_Some}
use Rattle.std.proofs.lemmas.Result.{IfOk-at_ok, IfErr-at_err}

-- ---- results

pub never : {A T E : Type 0} {cause : E} {value : T} → ◌≡◌ {A = Result T E} (Err cause) (Ok value) → A
never {A} e = IfOk-at_ok (λ _. A) e tt

pub never_refused : {A T E : Type 0} {cause : E} {value : T} → ◌≡◌ {A = Result T E} (Ok value) (Err cause) → A
never_refused {A} e = IfErr-at_err (λ _. A) e tt

pub same_ok : {T E : Type 0} {one other : T} → ◌≡◌ {A = Result T E} (Ok one) (Ok other) → one ≡ other
same_ok {one = one} e = IfOk-at_ok (λ value. one ≡ value) e refl

pub same_err : {T E : Type 0} {one other : E} → ◌≡◌ {A = Result T E} (Err one) (Err other) → one ≡ other
same_err {one = one} e = IfErr-at_err (λ cause. one ≡ cause) e refl

-- ---- options

pub never_some : {A T : Type 0} {value : T} → ◌≡◌ {A = Option T} None (Some value) → A
never_some {value = value} e = absurd (none-some value e)

pub never_none : {A T : Type 0} {value : T} → ◌≡◌ {A = Option T} (Some value) None → A
never_none {value = value} e = absurd (none-some value (sym e))

pub same_some : {T : Type 0} {one other : T} → ◌≡◌ {A = Option T} (Some one) (Some other) → one ≡ other
same_some {one = one} {other = other} e = same_Some one other e

-- ---- tests

pub never_true : {A : Type 0} → false ≡ true → A
never_true e = absurd (false≢true e)

pub never_false : {A : Type 0} → true ≡ false → A
never_false e = absurd (true≢false e)

-- ---- lists

-- the first of a list and the others, if it has one
abbrev first_of : {T : Type 0} → List T → Option T
first_of [] = None
first_of (first ∷ others) = Some first

pub never_more : {A T : Type 0} {first : T} {others : List T} → [] ≡ first ∷ others → A
never_more e = never_some (ap first_of e)

pub never_empty : {A T : Type 0} {first : T} {others : List T} → first ∷ others ≡ [] → A
never_empty e = never_none (ap first_of e)

pub same_first : {T : Type 0} {one other : T} {ones others : List T} → one ∷ ones ≡ other ∷ others → one ≡ other
same_first e = same_some (ap first_of e)

pub same_others : {T : Type 0} {one other : T} {ones others : List T} → one ∷ ones ≡ other ∷ others → ones ≡ others
same_others e = ap (drop 1) e
