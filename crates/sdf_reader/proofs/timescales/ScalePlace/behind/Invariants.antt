-- The place behind the word is that of the rest of it, from the place so far.
use Rattle.std.proofs.Common.{◌≡◌, drop, Some}
use Rattle.sdf_reader.specs.ScalePlaces.{place_behind, place_on}
use Rattle.sdf_reader.proofs.timescales.ScalePlace.behind.Given as goal

abbrev pub invariant-loop-byte : goal.invariant-loop-byte
invariant-loop-byte l = place_behind l.fn.self l.word ≡ place_on (Some l.place) (drop l.byte-index l.word)
