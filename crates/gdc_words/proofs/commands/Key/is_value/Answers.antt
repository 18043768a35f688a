-- A decimal has its form exactly where grains are found, and so has a size where it is found.
use Rattle.gdc_words.proofs.Grains.{some_grains, grains_found}
use Rattle.gdc_words.proofs.SizeDigits.{some_size, size_found}
use Rattle.gdc_words.proofs.commands.Key.is_value.Goals as goal

pub returns-in-Slew : goal.returns-in-Slew
returns-in-Slew c =
    rw (c.in-Slew.is, c.is_some-in-Slew.ensures) (
      some_grains c.args.value.now c.grains_of.result c.grains_of.ensures.some c.grains_of.ensures.none,
      grains_found c.args.value.now c.grains_of.result c.grains_of.ensures.some c.grains_of.ensures.none,
    )

pub returns-in-Load : goal.returns-in-Load
returns-in-Load c =
    rw (c.in-Load.is, c.is_some-in-Load.ensures) (
      some_grains c.args.value.now c.grains_of-in-Load.result c.grains_of-in-Load.ensures.some c.grains_of-in-Load.ensures.none,
      grains_found c.args.value.now c.grains_of-in-Load.result c.grains_of-in-Load.ensures.some c.grains_of-in-Load.ensures.none,
    )

pub returns-in-InputSlew : goal.returns-in-InputSlew
returns-in-InputSlew c =
    rw (c.in-InputSlew.is, c.is_some-in-InputSlew.ensures) (
      some_grains c.args.value.now c.grains_of-in-InputSlew.result c.grains_of-in-InputSlew.ensures.some c.grains_of-in-InputSlew.ensures.none,
      grains_found c.args.value.now c.grains_of-in-InputSlew.result c.grains_of-in-InputSlew.ensures.some c.grains_of-in-InputSlew.ensures.none,
    )

pub returns-in-PortLoad : goal.returns-in-PortLoad
returns-in-PortLoad c =
    rw (c.in-PortLoad.is, c.is_some-in-PortLoad.ensures) (
      some_grains c.args.value.now c.grains_of-in-PortLoad.result c.grains_of-in-PortLoad.ensures.some c.grains_of-in-PortLoad.ensures.none,
      grains_found c.args.value.now c.grains_of-in-PortLoad.result c.grains_of-in-PortLoad.ensures.some c.grains_of-in-PortLoad.ensures.none,
    )

pub returns-in-Size : goal.returns-in-Size
returns-in-Size c =
    rw (c.in-Size.is, c.is_some-in-Size.ensures) (
      some_size c.args.value.now c.size_of.result c.size_of.ensures.some c.size_of.ensures.none,
      size_found c.args.value.now c.size_of.result c.size_of.ensures.some c.size_of.ensures.none,
    )
