-- An order of the modules in a design, the lower ones first, and the search for it.
use Rattle.std.specs.Prelude.{◌≡◌, ℕ, ◌+◌, ◌-◌, ◌<◌, ◌≤◌, Bool, true, false, List, length, get_or, All, AllPairs, ⊤}
use Rattle.hierarchy.specs.Lowers.{lowers_at, lower_at, Leads, IsRound}
use Rattle.hierarchy.specs.declared.ordering.Mark.{Mark}
use Rattle.hierarchy.specs.declared.ordering.Mark.TheVariants.{New, Open, Done}
use Rattle.hierarchy.specs.declared.ordering.Step.{Step}
use Rattle.hierarchy.specs.declared.ordering.OrderEnd.{OrderEnd}
use Rattle.hierarchy.specs.declared.ordering.OrderEnd.TheVariants.{Recursive, OutOfMemory}

-- the module stands in the order before this place
pub record StandsBefore (order : List ℕ) (place m : ℕ) : Type 0 where
  pub at : ℕ
  pub before : at < place
  pub is : get_or order at 0 ≡ m

-- how far the search has come with a module
abbrev pub is_new : Mark → Bool
is_new New = true
is_new Open = false
is_new Done = false

abbrev pub mark_at : List Mark → ℕ → Mark
mark_at marks m = get_or marks m New

abbrev pub no_step : Step
no_step = record { «module» = 0; next = 0 }

module _ (lowers : List (List ℕ)) where
  -- each module of the order stands once, behind its lower modules
  pub record IsLowerFirst (order : List ℕ) : Type 0 where
    pub within : (p : ℕ) → p < length order → get_or order p 0 < length lowers
    pub below : (p j : ℕ) → p < length order → j < length (lowers_at lowers (get_or order p 0))
        → StandsBefore order p (lower_at lowers (get_or order p 0) j)
    pub once : (p q : ℕ) → p < q → q < length order → get_or order p 0 ≡ get_or order q 0 → ⊥

  -- such an order that has the top
  pub record IsOrderOf (top : ℕ) (order : List ℕ) : Type 0 where
    pub sorted : IsLowerFirst order
    pub has_top : StandsBefore order (length order) top

  -- a module that can be reached contains itself
  abbrev pub IsOrderEnd : ℕ → OrderEnd → Type 0
  IsOrderEnd top (Recursive m) = Leads lowers top m × IsRound lowers m
  IsOrderEnd top OutOfMemory = ⊤

  -- what is left of an open module
  abbrev pub left_of : Step → ℕ
  left_of step = length (lowers_at lowers step.module) - step.next + 1

  module _ (top : ℕ) where
    -- an open module, of which the first lower modules stand in the order
    pub record IsStep (marks : List Mark) (order : List ℕ) (step : Step) : Type 0 where
      pub within : step.module < length lowers
      pub leads : Leads lowers top step.module
      pub opened : mark_at marks step.module ≡ Open
      pub next : step.next ≤ length (lowers_at lowers step.module)
      pub passed : (j : ℕ) → j < step.next → StandsBefore order (length order) (lower_at lowers step.module j)

    -- an open module leads to each inner one
    pub record LeadsOn (outer inner : Step) : Type 0 where
      pub leads : Leads lowers outer.module inner.module
      pub other : outer.module ≡ inner.module → ⊥

    -- the modules that are done stand in the order, and those that are open lead from the top one to the next
    pub record IsSearch (marks : List Mark) (order : List ℕ) (steps : List Step) : Type 0 where
      pub size : length marks ≡ length lowers
      pub standing : All (IsStep marks order) steps
      pub chain : AllPairs LeadsOn steps
      pub opened : (m : ℕ) → mark_at marks m ≡ Open → (i : ℕ) × (i < length steps) × ((get_or steps i no_step).module ≡ m)
      pub done : (m : ℕ) → mark_at marks m ≡ Done → StandsBefore order (length order) m
      pub begun : mark_at marks top ≡ New → ⊥
      pub sorted : IsLowerFirst order
      pub marked : (p : ℕ) → p < length order → mark_at marks (get_or order p 0) ≡ Done
