-- What is passed over says nothing.
use Rattle.spef_text.proofs.SoFar.{passed}
use Rattle.spef_text.proofs.reader.ReaderTokenReader.pass.Goals as goal

pub returns-clause-state : goal.returns-clause-state
returns-clause-state c = λ before leads. passed before c.args._bytes.now c.args.self.now leads
