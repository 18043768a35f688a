-- There is room for the row, and its times are within the bound.
use Rattle.std.proofs.Common.{◌+◌, ◌^◌, ◌<◌, length, sym, subst}
use Rattle.sdf_reader.proofs.SumLemmas.{still_within}
use Rattle.sdf_reader.proofs.rows.SdfRows.push.Goals as goal
use Rattle.sdf_reader.proofs.rows.SdfRows.push.Goals.{in-Ok, in-Err}

pub invariant_of-self : goal.invariant_of-self
invariant_of-self c =
    let room = subst (λ rows. length rows + 1 < 2 ^ 32) (sym c.self.view_is) c.requires.room in
    elim c.match-push.branch [
      | in-Ok w ↦ rw w.in-Ok.ensures.items (still_within c.self.inside.rows.items c.args.row room c.requires.within c.self.invariant)
      | in-Err w ↦ rw w.in-Err.ensures.items c.self.invariant
    ]
