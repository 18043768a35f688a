use Rattle.std.proofs.Common.{sym, ap, ◌∙◌, arith}
use Rattle.std.specs.Prelude.{ℕ, List, Some, slice_get}
use Rattle.std.proofs.lemmas.Slice.Eq.{bytes_eq-Decides}
use Rattle.spef_nets.specs.RowsOf.{rows_of}
use Rattle.spef_nets.proofs.TableLemmas.{many_are, names_of_all}
use Rattle.spef_nets.proofs.sections.Sections.find_near.Goals as goal

-- src/sections.rt
pub returns-then-are_equal-clause-found : goal.returns-then-are_equal-clause-found
returns-then-are_equal-clause-found g c =
    ap (λ (l : List (List ℕ)). slice_get l c.args.place) (names_of_all c.self.inside.file.now c.self.inside.head.now g.C.CornerSet.COUNT c.self.inside.nets c.self.inside.tables.ends.items c.self.inside.tables.nodes.items (rows_of c.self.inside.tables.elements) c.self.invariant c.args.self.now c.self.view_is)
    ∙ c.name.ensures ∙ ap Some ((bytes_eq-Decides c.name.result.now c.args.net.now).0 (sym c.are_equal.ensures ∙ c.if-are_equal.true))

pub returns-then-are_equal-clause-within : goal.returns-then-are_equal-clause-within
returns-then-are_equal-clause-within g c =
    let within = c.if-place-len.true in
    let len = c.len.ensures in
    let many = many_are c.self.inside.file.now c.self.inside.head.now g.C.CornerSet.COUNT c.self.inside.nets c.self.inside.tables.ends.items c.self.inside.tables.nodes.items (rows_of c.self.inside.tables.elements) c.self.invariant c.args.self.now c.self.view_is in
    omega (arith, within, len, many, c.self.invariant.named)
