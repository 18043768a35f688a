use Rattle.liberty_tables.proofs.ReadingLemmas.{none_kept}
use Rattle.liberty_tables.proofs.number_lists.Readings.new.Goals as goal

pub returns : goal.returns
returns c = λ unit. none_kept unit c.new.result.items c.new.ensures.items
