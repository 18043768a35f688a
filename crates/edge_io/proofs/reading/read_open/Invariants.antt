use Rattle.std.proofs.Common.{◌≡◌, ◌+◌, ◌-◌, ◌≤◌, [], length}
use Rattle.edge_io.specs.Taking.{Moves}
use Rattle.edge_io.proofs.reading.read_open.Given as goal

abbrev pub invariant-taking : goal.invariant-taking
invariant-taking g l =
    (length l.piece ≡ 131072)
    × (length l.text ≤ l.limit + 1)
    × Moves (g.H.Shelf.left l.fn.shelf) [] (g.H.Shelf.left l.shelf) l.text
    × (g.H.Shelf.held l.shelf ≡ g.H.Shelf.held l.fn.shelf)
    × (g.H.Shelf.reads l.shelf ≤ g.H.Shelf.reads l.fn.shelf + length l.text)
    × (g.H.Shelf.opens l.shelf ≡ g.H.Shelf.opens l.fn.shelf)
    × (g.H.Shelf.faults l.fn.shelf ≤ g.H.Shelf.faults l.shelf)

abbrev pub decreases-taking : goal.decreases-taking
decreases-taking g l = (l.limit + 1) - length l.text
