-- The bytes that have a backslash before them within quotation marks: the quotation mark, 34, and the backslash, 92.
use Rattle.std.specs.Prelude.{ℕ, Bool, ◌==◌, ◌||◌}

abbrev pub is_escaped : ℕ → Bool
is_escaped byte = (byte == 34) || (byte == 92)
