use Rattle.std.proofs.Common.{◌≡◌, None, Some, true, sym, arith}
use Rattle.std.specs.List.{find}
use Rattle.std.proofs.lemmas.Grind.{common_steps}
use Rattle.gdc_words.specs.declared.asked.Given.{Given}
use Rattle.gdc_words.specs.CommandLine.{needs_key, same_key}
use Rattle.gdc_words.proofs.NeededKeys.{needed_is_found}
use Rattle.gdc_words.proofs.Pairs.{value_formed}
use Rattle.gdc_words.proofs.asked.Asked.needed.Goals as goal

pub unreachable-requires : goal.unreachable-requires
unreachable-requires c =
    let needed : needs_key c.self.inside.command c.self.inside.given.items c.args.key ≡ true = grind (arith, common_steps) in
    let missing : find (λ (g : Given). same_key g.key c.args.key) c.self.inside.given.items ≡ None = rw (← c.deref.ensures.value) (sym c.in-None.ensures) in
    needed_is_found c.self.inside.command c.self.inside.given.items c.args.key c.self.invariant.complete needed missing

pub returns-clause-formed : goal.returns-clause-formed
returns-clause-formed c =
    let found : find (λ (g : Given). same_key g.key c.args.key) c.self.inside.given.items ≡ Some c.in-Some.pair.now = sym (rw c.deref.ensures.value at c.in-Some.ensures) in
    value_formed c.self.inside.given.items c.args.key c.in-Some.pair.now c.self.invariant.formed found
