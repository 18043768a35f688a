use Rattle.std.proofs.Common.{◌≤◌, length, arith, decimal, ap}
use Rattle.std.proofs.lemmas.Fmt.{length-decimal-le_wide}
use Rattle.delay_units.proofs.printing.Text32.start.Goals as goal

pub push_all-requires : goal.push_all-requires
push_all-requires c =
    let d : length (decimal c.args.whole) ≤ 25 = length-decimal-le_wide 25 c.args.whole (omega arith) (omega (arith, c.requires)) (omega (arith, c.requires)) in
    omega (arith, d, ap length c.as_bytes.ensures.value, ap length c.format.ensures.text)

pub push-requires : goal.push-requires
push-requires c =
    let d : length (decimal c.args.whole) ≤ 25 = length-decimal-le_wide 25 c.args.whole (omega arith) (omega (arith, c.requires)) (omega (arith, c.requires)) in
    omega (arith, d, ap length c.as_bytes.ensures.value, ap length c.format.ensures.text)

pub returns-clause-length : goal.returns-clause-length
returns-clause-length c =
    omega (arith, ap length c.as_bytes.ensures.value, ap length c.format.ensures.text)

pub returns-clause-short : goal.returns-clause-short
returns-clause-short c = length-decimal-le_wide 25 c.args.whole (omega arith) (omega (arith, c.requires)) (omega (arith, c.requires))
