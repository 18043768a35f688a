-- The calls of a shelf or a sink in memory, of which some are to fail.
use Rattle.std.specs.Prelude.{ℕ, Bool, if◌then◌else◌, ◌==◌, List, []}
use Rattle.std.specs.List.{list_any}
use Rattle.edge_io.specs.Counts.{raised}

pub record Calls : Type 0 where
  -- the numbers of the calls that are to fail
  pub failing : List ℕ
  -- how many calls were made
  pub count : ℕ
  -- how many of them ended in a fault
  pub faults : ℕ

-- no call so far, and none that is to fail
abbrev pub no_calls : Calls
no_calls = record { failing = []; count = 0; faults = 0 }

-- whether the next call is one that is to fail; the first has the number 1
abbrev pub fails_next : Calls → Bool
fails_next calls = list_any (λ number. number == raised 1 calls.count) calls.failing

-- after a call that ended in a fault or did not
abbrev pub counted_call : Bool → Calls → Calls
counted_call faulty calls = record {
  failing = calls.failing;
  count = raised 1 calls.count;
  faults = if faulty then raised 1 calls.faults else calls.faults;
}
