-- The bytes that part tokens.
use Rattle.std.specs.Prelude.{ℕ, Bool, ◌&&◌, ◌||◌, ◌==◌, nat_le}
use Rattle.edge_io.specs.Bytes.{tab, line_end, carriage_return, space}

-- the bytes 9 to 13 and 32
abbrev pub is_blank : ℕ → Bool
is_blank byte = (nat_le tab byte && nat_le byte carriage_return) || byte == space

abbrev pub is_line_end : ℕ → Bool
is_line_end byte = byte == line_end
