-- The reader's steps and the grammar fit together.
use Rattle.std.proofs.Common.{ℕ}
use Rattle.token_fronts.specs.Tokens.{numbered}
use Rattle.token_fronts.specs.Accepting.{accepted_is_made, made_is_accepted}
use Rattle.token_fronts.specs.FrontLaw.{Fits}
use Rattle.liberty_groups.specs.Tokens.{IsToken}
use Rattle.liberty_groups.specs.Grammar.{IsLibertyTo}
use Rattle.liberty_groups.specs.Modes.{first_state, next, finish}
use Rattle.liberty_groups.proofs.Taking.{taking}
use Rattle.liberty_groups.proofs.Meaning.{meaning}
use Rattle.liberty_groups.proofs.Living.{lives}

pub fits : (limit : ℕ) → Fits IsToken (IsLibertyTo limit) (next limit) finish first_state
fits limit = record {
  takes = λ texts tree is. accepted_is_made (next limit) finish first_state 1 texts tree (taking limit is);
  means = λ texts tree made. meaning limit (numbered 1 texts) tree (made_is_accepted (next limit) finish first_state 1 texts tree made);
  lives = lives limit;
}
