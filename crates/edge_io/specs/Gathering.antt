-- What a push into a buffer says: of the text, a front went to the sink and the rest waits.
use Rattle.std.specs.Prelude.{◌≡◌, ℕ, ◌≤◌, List, ◌++◌, Option, Result, OnOk, OnErr}
use Rattle.edge_io.specs.Counts.{Rose}
use Rattle.edge_io.specs.Told.{appended, AppendsFrontOf}
use Rattle.edge_io.specs.declared.failures.Failed.{Failed}

-- a front of the text was put at the end, and the rest waits
pub record Gathered (text waiting : List ℕ) (before after : Option (List ℕ)) : Type 0 where
  pub front : List ℕ
  pub joined : text ≡ front ++ waiting
  pub written : after ≡ appended before front

-- on `Ok` the text is written or waits; on `Err` a front of it was put at the end, and the count of faults rose
pub record Pushes (text waiting : List ℕ) (before after : Option (List ℕ)) (faults faults' : ℕ)
    (result : Result (Unit {0}) Failed) : Type 0 where
  pub ok : OnOk result (Gathered text waiting before after)
  pub cut : OnErr result (AppendsFrontOf text before after)
  pub later : faults ≤ faults'
  pub cause : OnErr result (Rose faults faults')
