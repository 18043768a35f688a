-- The reader's steps and the grammar fit together, whatever may stand as a number.
use Rattle.std.proofs.Common.{ℕ, List, Option}
use Rattle.token_fronts.specs.Tokens.{numbered}
use Rattle.token_fronts.specs.Accepting.{accepted_is_made, made_is_accepted}
use Rattle.token_fronts.specs.FrontLaw.{Fits}
use Rattle.sdf_reader.specs.Tokens.{IsToken}
use Rattle.sdf_reader.specs.Grammar.{IsSdfBy}
use Rattle.sdf_reader.specs.Modes.{first_state, next, finish, Decides}
use Rattle.sdf_reader.specs.declared.rows.Value.{Value}
use Rattle.sdf_reader.specs.declared.timescales.Timescale.{Timescale}
use Rattle.sdf_reader.proofs.Taking.{taking}
use Rattle.sdf_reader.proofs.Meaning.{meaning_of}
use Rattle.sdf_reader.proofs.Living.{lives}

pub fits : (IsNumber : Timescale → List ℕ → Value → Type 0) (number : Timescale → List ℕ → Option Value) → Decides IsNumber number → Fits IsToken (IsSdfBy IsNumber) (next number) finish first_state
fits IsNumber number decides = record {
  takes = λ texts rows is. accepted_is_made (next number) finish first_state 1 texts rows (taking IsNumber number decides is);
  means = λ texts rows made. meaning_of IsNumber number decides (numbered 1 texts) rows (made_is_accepted (next number) finish first_state 1 texts rows made);
  lives = lives number;
}
