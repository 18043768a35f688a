-- A sink in memory, as its callers see it.
use Rattle.std.specs.Prelude.{ℕ, Bool, ◌&&◌, ◌||◌, nat_lt, nat_le, List, [], length}
use Rattle.edge_io.specs.Calls.{Calls, no_calls, fails_next}

pub record SinkState : Type 0 where
  -- what was written
  pub written : List ℕ
  -- how many bytes one write takes at most
  pub most : ℕ
  -- how many bytes it can take in all
  pub room : ℕ
  -- its writes
  pub calls : Calls

-- a new sink has taken nothing
abbrev pub empty_sink : ℕ → ℕ → SinkState
empty_sink most room = record { written = []; most = most; room = room; calls = no_calls }

-- whether the next write fails, of so many bytes
abbrev pub fails_write : SinkState → ℕ → Bool
fails_write sink count = nat_lt 0 count && (fails_next sink.calls || nat_le sink.room (length sink.written))
