use Rattle.std.proofs.Common.{rules, sym, ◌∙◌, w32}
use Rattle.std.proofs.lemmas.Int.{to_z-of_z}
use mir.Val.{SFits}
use Rattle.liberty_tables.proofs.UnitLemmas.{unit_from, no_unit_from}
use Rattle.liberty_tables.proofs.units.unit_of.Goals as goal

pub returns-in-Ok-clause-some : goal.returns-in-Ok-clause-some
returns-in-Ok-clause-some c =
    let small : SFits w32 c.in-Some.power = search rules in
    unit_from c.args.number.now c.args.word.now c.in-Some.power c.in-Ok.value c.unit.result (sym c.load_power.ensures.power ∙ c.in-Some.is) c.in-Ok.ensures.number c.unit.ensures.mantissa (simp to_z-of_z at c.unit.ensures.exponent)

pub returns-in-Ok-clause-none : goal.returns-in-Ok-clause-none
returns-in-Ok-clause-none c =
    let small : SFits w32 c.in-Some.power = search rules in
    no_unit_from c.args.number.now c.args.word.now c.in-Some.power c.in-Ok.value c.unit.result (sym c.load_power.ensures.power ∙ c.in-Some.is) c.in-Ok.ensures.number (simp to_z-of_z at c.unit.ensures.fits)
