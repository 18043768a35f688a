-- A word that says no number.
use Rattle.std.proofs.Common.{ap}
use Rattle.sdf_reader.specs.Modes.{numbered_by}
use Rattle.sdf_reader.specs.ReaderStates.{state_of}
use Rattle.sdf_reader.proofs.Finding.{found_none}
use Rattle.sdf_reader.proofs.reader.Reader.number.Goals as goal

pub returns-in-None-clause-state : goal.returns-in-None-clause-state
returns-in-None-clause-state c = λ number decides. ap (λ found. numbered_by found (state_of c.args.self.now)) (found_none number decides c.args.self.now.scale c.args.word.now c.in-None.ensures.none)
