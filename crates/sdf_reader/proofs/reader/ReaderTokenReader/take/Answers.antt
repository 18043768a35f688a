-- A token is taken, or refused, behind those before it.
use Rattle.sdf_reader.proofs.SoFar.{taken}
use Rattle.sdf_reader.proofs.reader.ReaderTokenReader.take.Goals as goal

pub returns-clause-state : goal.returns-clause-state
returns-clause-state c =
    λ before is_next leads. taken before c.args._number c.args._start c.args.kind c.args.bytes.now c.args.self.now c.take_token.new.self c.take_token.result c.take_token.ensures.state is_next leads
