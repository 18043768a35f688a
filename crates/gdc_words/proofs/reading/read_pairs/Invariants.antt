use Rattle.std.proofs.Common.{◌≡◌, ◌+◌, length, List, [], Result}
use Rattle.gdc_words.specs.CommandLine.{PairsFrom}
use Rattle.gdc_words.specs.declared.asked.Given.{Given}
use Rattle.gdc_words.specs.declared.faults.UsageFault.{UsageFault}
use Rattle.gdc_words.proofs.reading.read_pairs.Given as goal

abbrev pub invariant-loop-rest : goal.invariant-loop-rest
invariant-loop-rest l = record {
  later : (answer : Result (List Given) UsageFault) → PairsFrom l.command l.given.items l.place l.rest answer → PairsFrom l.command [] 2 l.words answer;
  places : l.place + length l.rest ≡ 2 + length l.words;
}

abbrev pub decreases-loop-rest : goal.decreases-loop-rest
decreases-loop-rest l = length l.rest
