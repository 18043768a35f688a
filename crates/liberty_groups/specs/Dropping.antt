-- How many bytes of a text are dropped from a byte on.
use Rattle.std.specs.Prelude.{ℕ, ◌+◌, List, if◌then◌else◌}
use Rattle.liberty_groups.specs.Tokens.{continuation, is_dropped}

-- itself and those of a continuation, or none
abbrev pub dropped : ℕ → List ℕ → ℕ
dropped byte rest = if is_dropped byte rest then continuation rest + 1 else 0
