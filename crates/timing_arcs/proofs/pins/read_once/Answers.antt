use Rattle.std.proofs.Common.{rules, ◌≡◌, sym, subst}
use Rattle.timing_arcs.specs.PinReadings.{IsReadingOf}
use Rattle.timing_arcs.proofs.pins.read_once.Goals as goal

pub returns-in-Some-clause-ok : goal.returns-in-Some-clause-ok
returns-in-Some-clause-ok c =
    let same : c.in-Some.reading.group ≡ c.args.group = search rules in
    let here : IsReadingOf c.args.tree.now c.in-Some.reading.group c.in-Some.reading = search rules in
    subst (IsReadingOf c.args.tree.now c.args.group) (sym c.in-Some.reading-is) (subst (λ id. IsReadingOf c.args.tree.now id c.in-Some.reading) same here)
