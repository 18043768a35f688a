-- The value of a needed decimal key is a decimal.
use Rattle.std.proofs.Common.{ℕ}
use Rattle.gdc_words.specs.Decimals.{IsGrains}
use Rattle.gdc_words.proofs.Pairs.{decimal_reads}
use Rattle.gdc_words.proofs.asked.Asked.needed_grains.Goals as goal

pub unreachable-requires : goal.unreachable-requires
unreachable-requires c =
    let reads : (grains : ℕ) × IsGrains c.needed.result.now grains = decimal_reads c.args.key c.needed.result.now c.requires.decimal c.needed.ensures.formed in
    c.in-None.ensures.none reads.0 (rw c.bytes.ensures reads.1)
