-- The number of the digits so far.
use Rattle.std.proofs.Common.{◌≡◌, take, fold}
use Rattle.spef_text.specs.IndexNumbers.{with_digit}
use Rattle.spef_text.proofs.name_map.number_of.Given as goal

abbrev pub invariant-loop-digit : goal.invariant-loop-digit
invariant-loop-digit l = l.number ≡ fold with_digit 0 (take l.digit-index l.digits)
