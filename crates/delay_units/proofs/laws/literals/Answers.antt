use Rattle.delay_units.proofs.LiteralShape.{literal_has_parts, literal_ends}
use Rattle.delay_units.proofs.laws.literals.Goals as goal

-- src/laws.rt
pub returns : goal.returns
returns c = record { law = λ text. (literal_has_parts text, literal_ends text) }
