use Rattle.std.proofs.Common.{refl}
use Rattle.name_table.proofs.FromBehind.{found_nowhere, found_last}
use Rattle.name_table.proofs.spef_names.last_unescaped.Goals as goal

-- src/spef_names.rt
pub returns-in-None-clause-none : goal.returns-in-None-clause-none
returns-in-None-clause-none c = found_nowhere c.args.delimiter c.args.word.now c.in-None.ensures

pub returns-in-Some-clause-some : goal.returns-in-Some-clause-some
returns-in-Some-clause-some c =
    (found_last c.args.delimiter c.args.word.now c.in-Some.place c.in-Some.ensures.0 c.in-Some.ensures.1 (c.if-stands_alone.ensures.delimiter refl) (c.if-stands_alone.ensures.before refl)).cut
