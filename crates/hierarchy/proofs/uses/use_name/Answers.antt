-- A name that is marked is there; any other is marked when it is put there.
use Rattle.std.proofs.Common.{◌≡◌, ℕ, List, subst}
use Rattle.std.specs.Prelude.{slice_get, Some}
use Rattle.hierarchy.proofs.Marking.{marked_more}
use Rattle.hierarchy.proofs.uses.use_name.Goals as goal

pub returns-clause-marked : goal.returns-clause-marked
returns-clause-marked c =
    let table = c.args.cells.now in
    let here : slice_get table.names c.args.number ≡ Some c.text.result.now =
    subst (λ (n : ℕ). slice_get table.names n ≡ Some c.text.result.now) c.in_ok-to_u32.ensures
    (subst (λ (l : List (List ℕ)). slice_get l c.in_ok-to_u32.field-0 ≡ Some c.text.result.now) c.names.ensures c.text.ensures.text) in
    marked_more c.args.names.now c.intern.new.self c.text.result.now c.in_ok-intern.ensures.kept c.in_ok-intern.ensures.added table.names
    c.args.marks.now.items c.args.number c.requires.marked here
