-- What is known behind a token that was taken.
use Rattle.sdf_reader.specs.Modes.{to_mode}
use Rattle.sdf_reader.specs.ReaderStates.{state_of}
use Rattle.sdf_reader.proofs.Deciding.{deciding, decides}
use Rattle.sdf_reader.proofs.SizeLemmas.{taken_fits}
use Rattle.sdf_reader.proofs.reader.Reader.take_token.Goals as goal

pub returns-in-Some-clause-rise : goal.returns-in-Some-clause-rise
returns-in-Some-clause-rise c =
    (taken_fits deciding decides c.in-Some.action (to_mode c.in-Some.mode (state_of c.args.self.now)) (state_of c.apply.new.self) c.args.bytes.now c.apply.result c.requires.rise c.requires.fall (c.apply.ensures.state deciding decides)).0

pub returns-in-Some-clause-fall : goal.returns-in-Some-clause-fall
returns-in-Some-clause-fall c =
    (taken_fits deciding decides c.in-Some.action (to_mode c.in-Some.mode (state_of c.args.self.now)) (state_of c.apply.new.self) c.args.bytes.now c.apply.result c.requires.rise c.requires.fall (c.apply.ensures.state deciding decides)).1

pub returns-in-Some-clause-rows : goal.returns-in-Some-clause-rows
returns-in-Some-clause-rows c =
    (taken_fits deciding decides c.in-Some.action (to_mode c.in-Some.mode (state_of c.args.self.now)) (state_of c.apply.new.self) c.args.bytes.now c.apply.result c.requires.rise c.requires.fall (c.apply.ensures.state deciding decides)).2
