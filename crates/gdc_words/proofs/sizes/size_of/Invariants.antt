-- The bytes before this one are digits, and the size is their number.
use Rattle.std.proofs.Common.{take}
use Rattle.gdc_words.proofs.SizeDigits.{HasRead}
use Rattle.gdc_words.proofs.sizes.size_of.Given as goal

abbrev pub invariant-loop-byte : goal.invariant-loop-byte
invariant-loop-byte l = HasRead (take l.byte-index l.value) l.size
