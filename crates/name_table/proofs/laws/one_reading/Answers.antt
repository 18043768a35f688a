use Rattle.name_table.proofs.Writing.{written_back, read_again}
use Rattle.name_table.proofs.laws.one_reading.Goals as goal

-- src/laws.rt
pub returns : goal.returns
returns c = record { back = written_back; only = read_again }
