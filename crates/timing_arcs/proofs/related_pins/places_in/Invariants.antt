-- The names so far, and those that are left.
use Rattle.std.proofs.Common.{length}
use Rattle.token_texts.specs.Blanks.{is_blank}
use Rattle.token_texts.specs.Pieces.{pieces_between}
use Rattle.timing_arcs.specs.PinTable.{entries_in}
use Rattle.timing_arcs.proofs.PlaceLemmas.{ArePlacesSo}
use Rattle.timing_arcs.proofs.related_pins.places_in.Given as goal

abbrev pub invariant-loop-name : goal.invariant-loop-name
invariant-loop-name l = ArePlacesSo (entries_in l.cell.tree l.cell.names l.cell.groups) l.cell.names (pieces_between is_blank l.text) (pieces_between is_blank l.rest) l.places.items

abbrev pub decreases-loop-name : goal.decreases-loop-name
decreases-loop-name l = length l.rest
