-- How long a run of bytes of one class is.
use Rattle.std.specs.Prelude.{ℕ, ◌+◌, Bool, ◌==◌, if◌then◌else◌, List, [], ◌∷◌}
use Rattle.edge_io.specs.Bytes.{backslash}

-- how many bytes of the class stand at the front
unfoldable pub run_length : (ℕ → Bool) → List ℕ → ℕ
run_length is_in [] = 0
run_length is_in (byte ∷ rest) = if is_in byte then run_length is_in rest + 1 else 0

-- The same, where a backslash takes the next byte with it, whatever that is. A backslash that has none to take ends the run.
unfoldable pub escaped_run_length : (ℕ → Bool) → List ℕ → ℕ
escaped_run_length is_in [] = 0
escaped_run_length is_in (byte ∷ []) = if byte == backslash then 0 else (if is_in byte then 1 else 0)
escaped_run_length is_in (byte ∷ next ∷ rest) =
    if byte == backslash then escaped_run_length is_in rest + 2
    else (if is_in byte then escaped_run_length is_in (next ∷ rest) + 1 else 0)
