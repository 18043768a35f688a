-- The hash of Fowler, Noll and Vo over 64 bits, in the order in which the product comes before a byte is joined (FNV-1), and what a table
-- takes of it.
use Rattle.std.specs.Prelude.{ℕ, ◌*◌, ◌/◌, ◌%◌, ◌^◌, List, fold, bit_and, bit_or, bit_xor}
use Rattle.name_table.specs.declared.name_hash.NameHasher.{NameHasher}

-- the offset basis
abbrev pub fresh : NameHasher
fresh = record { state = 14695981039346656037 }

-- a byte after those that were written
abbrev pub step : ℕ → ℕ → ℕ
step state byte = bit_xor ((state * 1099511628211) % 2 ^ 64) byte

abbrev pub write : NameHasher → List ℕ → NameHasher
write hasher bytes = record { state = fold step hasher.state bytes }

-- The lower bits tell the place, and the eight above them the tag. The place comes of all but the last eight bits by a product with the odd
-- number next to 2^64 divided by the golden ratio.
abbrev pub mixed : ℕ → ℕ
mixed state = bit_or (bit_xor (((state / 2 ^ 8) * 11400714819323198485) % 2 ^ 64 / 2 ^ 40) (bit_and state 3))
    ((bit_and state 255 * 2 ^ 24) % 2 ^ 64)
