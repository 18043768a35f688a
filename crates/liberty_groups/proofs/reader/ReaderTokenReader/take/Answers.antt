-- A token is taken, or refused, behind those before it.
use Rattle.std.proofs.Common.{refl}
use Rattle.token_texts.specs.Cuts.{byte_count}
use Rattle.liberty_groups.specs.Building.{lexeme}
use Rattle.liberty_groups.proofs.SoFar.{follows, stays_sound}
use Rattle.liberty_groups.proofs.reader.ReaderTokenReader.take.Goals as goal

pub returns-clause-sound : goal.returns-clause-sound
returns-clause-sound c =
    stays_sound _ (lexeme c.args.kind c.args.bytes.now c.args.self.now.fresh 0) c.args.self.now _ c.in_ok-refusal.refusal (c.in_ok-refusal.ensures.state 0) c.requires.sound.few c.in_ok-refusal.ensures.sound c.in_ok-refusal.ensures.built

pub returns-clause-state : goal.returns-clause-state
returns-clause-state c = λ before is_next leads.
    follows before c.args._number c.args._start c.args.kind c.args.bytes.now c.args.self.now _ is_next leads c.in_ok-refusal.refusal refl (c.in_ok-refusal.ensures.state (byte_count before))
