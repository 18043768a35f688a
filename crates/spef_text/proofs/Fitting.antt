-- The reader's steps and the grammar fit together.
use Rattle.token_fronts.specs.Tokens.{numbered}
use Rattle.token_fronts.specs.Accepting.{accepted_is_made, made_is_accepted}
use Rattle.token_fronts.specs.FrontLaw.{Fits}
use Rattle.spef_text.specs.Tokens.{IsToken}
use Rattle.spef_text.specs.Grammar.{IsSpef}
use Rattle.spef_text.specs.Modes.{first_state, next, finish}
use Rattle.spef_text.proofs.Taking.{taking}
use Rattle.spef_text.proofs.Meaning.{meaning}
use Rattle.spef_text.proofs.Living.{lives}

pub fits : Fits IsToken IsSpef next finish first_state
fits = record {
  takes = λ texts reading is. accepted_is_made next finish first_state 1 texts reading (taking is);
  means = λ texts reading made. meaning (numbered 1 texts) reading (made_is_accepted next finish first_state 1 texts reading made);
  lives = lives;
}
