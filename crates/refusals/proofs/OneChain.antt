-- Phases one after another have one answer where each has.
use Rattle.std.proofs.Common.{◌≡◌, inl, Result, Ok, Err, refl, sym, subst}
use Rattle.verdict_phases.specs.Phases.{Stop, RefusedBy, Unread, Reads, Step, Go, Halt}
use Rattle.refusals.specs.SameAnswers.{SameAnswer}
use Rattle.refusals.specs.declared.refusal.FileKey.{FileKey}
use Rattle.refusals.specs.declared.refusal.Refusal.{Refusal}
use Rattle.refusals.specs.Refused.{WithoutFile}
use Rattle.refusals.specs.OneStep.{IsFinal, IsDecided, SameStop, SameStep, HasOneAnswer}

abbrev pub Steps : Type 0 → Type 0
Steps A = Step Refusal FileKey A

-- a phase, and then another on its value
pub data Then {A B : Type 0} (first : Steps A → Type 0) (next : A → Steps B → Type 0) (step : Steps B) : Type 0 where
  stops : (why : Stop Refusal FileKey) → first (Halt why) → step ≡ Halt why → Then first next step
  goes : (value : A) → first (Go value) → next value step → Then first next step

pub one_plain : {A : Type 0} (phase : Result A Refusal → Type 0) → ((one other : Result A Refusal) → phase one → phase other → SameAnswer one other) → HasOneAnswer (WithoutFile phase)
one_plain phase law (Go x) (Go y) r s d e = law (Ok x) (Ok y) r s
one_plain phase law (Go x) (Halt (RefusedBy f)) r s d e = law (Ok x) (Err f) r s
one_plain phase law (Go x) (Halt (Unread k)) r s d e = absurd s
one_plain phase law (Go x) (Halt (Reads k)) r s d e = absurd s
one_plain phase law (Halt (RefusedBy f)) (Go y) r s d e = law (Err f) (Ok y) r s
one_plain phase law (Halt (Unread k)) (Go y) r s d e = absurd r
one_plain phase law (Halt (Reads k)) (Go y) r s d e = absurd r
one_plain phase law (Halt (RefusedBy f)) (Halt (RefusedBy g)) r s d e = law (Err f) (Err g) r s
one_plain phase law (Halt (RefusedBy f)) (Halt (Unread k)) r s d e = absurd s
one_plain phase law (Halt (RefusedBy f)) (Halt (Reads k)) r s d e = absurd s
one_plain phase law (Halt (Unread k)) (Halt w) r s d e = absurd r
one_plain phase law (Halt (Reads k)) (Halt w) r s d e = absurd r

-- answers that are one are the same but for what is left free
pub same_answers : {A : Type 0} (one other : Result A Refusal) → one ≡ other → SameAnswer one other
same_answers (Ok x) (Ok y) same = cc
same_answers (Ok x) (Err g) same = cc
same_answers (Err f) (Ok y) same = cc
same_answers (Err f) (Err g) same = let equal : f ≡ g = cc in inl equal

module _ {A B : Type 0} (first : Steps A → Type 0) (next : A → Steps B → Type 0) (one_first : HasOneAnswer first)
    (one_next : (value : A) → first (Go value) → HasOneAnswer (next value)) where
  halts : Stop Refusal FileKey → Steps B
  halts why = Halt why

  stopped : (one other : Steps B) (w v : Stop Refusal FileKey) → one ≡ Halt w → other ≡ Halt v → SameStop w v → SameStep one other
  stopped one other w v is its same = subst (λ (x : Steps B). SameStep x other) (sym is) (subst (λ (x : Steps B). SameStep (Halt w) x) (sym its) same)

  decided : (step : Steps B) (why : Stop Refusal FileKey) → step ≡ Halt why → IsDecided step → IsFinal why
  decided step why is d = subst (λ (x : Steps B). IsDecided x) is d

  pub one_then : HasOneAnswer (Then first next)
  one_then one other (stops w r is) (stops v s its) d e = stopped one other w v is its (one_first (Halt w) (Halt v) r s (decided one w is d) (decided other v its e))
  one_then one other (stops w r is) (goes y s n) d e = absurd (one_first (Halt w) (Go y) r s (decided one w is d) tt)
  one_then one other (goes x r m) (stops v s its) d e = absurd (one_first (Go x) (Halt v) r s tt (decided other v its e))
  one_then one other (goes x r m) (goes y s n) d e =
      let same : x ≡ y = one_first (Go x) (Go y) r s tt tt in
      one_next y s one other (subst (λ (z : A). next z one) same m) n d e

-- a value of a phase is put together
pub one_made : {A : Type 0} (made : A) → HasOneAnswer (λ (step : Steps A). step ≡ Go made)
one_made made one other r s d e = subst (λ (x : Steps _). SameStep x other) (sym r) (subst (λ (x : Steps _). SameStep (Go made) x) (sym s) refl)

-- a phase that is another one
pub one_by : {A : Type 0} (phase other_phase : Steps A → Type 0) → ((step : Steps A) → phase step → other_phase step) → HasOneAnswer other_phase → HasOneAnswer phase
one_by phase other_phase view law one other r s d e = law one other (view one r) (view other s) d e
