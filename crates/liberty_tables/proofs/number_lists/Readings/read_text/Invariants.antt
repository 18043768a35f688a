use Rattle.std.proofs.Common.{length}
use Rattle.token_texts.specs.Pieces.{pieces_between}
use Rattle.liberty_tables.specs.NumberLists.{is_parting}
use Rattle.liberty_tables.proofs.TextLemmas.{IsReadTo}
use Rattle.liberty_tables.proofs.number_lists.Readings.read_text.Given as goal

abbrev pub invariant-loop-piece : goal.invariant-loop-piece
invariant-loop-piece l = IsReadTo l.unit (pieces_between is_parting l.text) (pieces_between is_parting l.rest) l.fn.self l.self

abbrev pub decreases-loop-piece : goal.decreases-loop-piece
decreases-loop-piece l = length l.rest
