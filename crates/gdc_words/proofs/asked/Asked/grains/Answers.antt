-- The value of a decimal key that stands is a decimal.
use Rattle.std.proofs.Common.{◌≡◌, Some, sym, ◌∙◌}
use Rattle.gdc_words.specs.CommandLine.{pair_at, HasNoGrains}
use Rattle.gdc_words.proofs.Pairs.{decimal_found}
use Rattle.gdc_words.proofs.asked.Asked.grains.Goals as goal

pub returns-in-Some-clause-none : goal.returns-in-Some-clause-none
returns-in-Some-clause-none c =
    let stands : pair_at c.self.inside.given.items c.args.key.now ≡ Some c.in-Some.pair.now = sym (rw c.deref.ensures.value at c.in-Some.ensures) in
    decimal_found c.self.inside.given.items c.args.key.now c.in-Some.pair.now c.grains_of.result (HasNoGrains c.args.self.now.given c.args.key.now) c.self.invariant.formed stands
    (sym c.is_decimal.ensures ∙ c.if-is_decimal.true) (rw c.bytes.ensures at c.grains_of.ensures.none)
