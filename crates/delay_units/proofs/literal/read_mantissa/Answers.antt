use Rattle.std.proofs.Common.{◌<◌, ◌^◌, [], length, rules}
use Rattle.delay_units.proofs.literal.read_mantissa.Goals as goal

pub mantissa_from-requires : goal.mantissa_from-requires
mantissa_from-requires c =
    let l : length c.args.text.now < 2 ^ 64 = search rules in
    (c.args.text.now, c.take_digits-rest.ensures.split [] c.new-whole.ensures, l)

pub returns : goal.returns
returns c = c.mantissa_from.ensures c.args.text.now (c.take_digits-rest.ensures.split [] c.new-whole.ensures)
