-- What is passed over says no more than whether it has a line end.
use Rattle.std.proofs.Common.{◌||◌, refl, ap}
use Rattle.liberty_groups.proofs.SoFar.{passed}
use Rattle.liberty_groups.proofs.reader.ReaderTokenReader.pass.Goals as goal

pub returns-clause-state : goal.returns-clause-state
returns-clause-state c = λ before leads. passed before c.args.bytes.now c.args.self.now _ leads refl (ap (λ breaks. c.args.self.now.fresh || breaks) c.breaks.ensures)
