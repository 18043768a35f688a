-- None of the entries so far has these digits.
use Rattle.std.proofs.Common.{◌≡◌, ◌≢◌, ℕ, ◌<◌, slice_get, Some}
use Rattle.spef_text.specs.Classes.{index_digits}
use Rattle.spef_text.specs.Heads.{digits_of}
use Rattle.spef_text.specs.declared.entries.MapEntry.{MapEntry}
use Rattle.spef_text.proofs.references.name_among.Given as goal

abbrev pub invariant-loop-place : goal.invariant-loop-place
invariant-loop-place l = (k : ℕ) (entry : MapEntry) → k < l.place → slice_get l.file.reading.head.map k ≡ Some entry → digits_of l.file entry ≢ index_digits l.index
