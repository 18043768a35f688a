-- The first byte, and then the others.
use Rattle.std.proofs.Common.{◌++◌, sym, ap, ◌∙◌}
use Rattle.liberty_groups.specs.Places.{scanned}
use Rattle.liberty_groups.proofs.Beginning.{begun_is}
use Rattle.liberty_groups.proofs.places.scan_front.Goals as goal

pub returns-clause-value : goal.returns-clause-value
returns-clause-value c = λ more.
    begun_is c.args.first (c.args.behind.now ++ more)
    ∙ ap (λ s. scanned s 1 (c.args.behind.now ++ more)) (sym c.begun.ensures.value)
    ∙ c.scan_on.ensures.value more
