-- When two refusals, or two answers, are one.
use Rattle.std.specs.Prelude.{◌≡◌, ℕ, ◌⊎◌, List, Result, Ok, Err}
use Rattle.refusals.specs.declared.refusal.Refusal.{Refusal}
use Rattle.refusals.specs.declared.refusal.Refusal.TheVariants.{Recursive, Mesh, Loop}

-- What a verdict leaves free: which of the resistors that cut no node off is told of a net's mesh, which of the modules that contain
-- themselves, and which of the loops of arcs.
pub data IsFreeChoice : Refusal → Refusal → Type 0 where
  some_resistor : (net : List ℕ) (one other : ℕ) → IsFreeChoice (Mesh net one) (Mesh net other)
  some_module : (one other : List ℕ) → IsFreeChoice (Recursive one) (Recursive other)
  some_loop : (one other : List (List ℕ)) → IsFreeChoice (Loop one) (Loop other)

-- two refusals are one, but for what is left free
abbrev pub SameRefusal : Refusal → Refusal → Type 0
SameRefusal one other = (one ≡ other) ⊎ IsFreeChoice one other

-- two answers are one, but for what is left free
abbrev pub SameAnswer : {A : Type 0} → Result A Refusal → Result A Refusal → Type 0
SameAnswer (Ok one) (Ok other) = one ≡ other
SameAnswer (Err one) (Err other) = SameRefusal one other
SameAnswer _ _ = ⊥
