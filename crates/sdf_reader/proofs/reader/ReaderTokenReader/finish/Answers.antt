-- A file ends behind its last parenthesis.
use Rattle.std.proofs.Common.{◌≡◌, List, Err, refl, ap}
use Rattle.token_texts.specs.Cuts.{lexemes}
use Rattle.token_texts.specs.Leading.{leads_to_value, leads_to_end}
use Rattle.sdf_reader.specs.Modes.{first_state, next, finish, finish_in}
use Rattle.sdf_reader.specs.ReaderStates.{state_of}
use Rattle.sdf_reader.specs.declared.modes.Mode.{Mode}
use Rattle.sdf_reader.specs.declared.modes.Mode.TheVariants.{End}
use Rattle.sdf_reader.specs.declared.rows.SdfRow.{SdfRow}
use Rattle.sdf_reader.specs.declared.ends.SdfCause.TheVariants.{EndInside}
use Rattle.sdf_reader.proofs.reader.ReaderTokenReader.finish.Goals as goal

inside : (mode : Mode) (rows : List SdfRow) → (mode ≡ End → ⊥) → finish_in mode rows ≡ Err EndInside
inside End rows ended = absurd (ended refl)
inside _ rows ended = refl

pub returns-in-End : goal.returns-in-End
returns-in-End c = record {
  state = λ before leads find decides.
      leads_to_value (next find) finish first_state (lexemes before) (state_of c.args.self) c.args.self.rows (leads find decides) (ap (λ mode. finish_in mode c.args.self.rows) c.in-End.is);
}

pub returns-in_default : goal.returns-in_default
returns-in_default c = record {
  state = λ before leads find decides.
      leads_to_end (next find) finish first_state (lexemes before) (state_of c.args.self) EndInside (leads find decides) (inside c.args.self.mode c.args.self.rows c.in_default.not-End);
}
