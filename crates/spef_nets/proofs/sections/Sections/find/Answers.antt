use Rattle.std.proofs.Common.{◌≡◌, ◌<◌, sym, ◌∙◌, subst}
use Rattle.std.specs.Prelude.{ℕ, List, Some, slice_get, Contains, IfSome, IfNone}
use Rattle.spef_nets.specs.RowsOf.{rows_of}
use Rattle.spef_nets.proofs.TableLemmas.{many_are, names_of_all}
use Rattle.spef_nets.proofs.sections.Sections.find.Goals as goal

-- src/sections.rt
pub returns-clause-absent : goal.returns-clause-absent
returns-clause-absent g c =
    subst (λ (l : List (List ℕ)). IfNone c.find.result (Contains l c.args.net.now → ⊥)) (sym (names_of_all c.self.inside.file.now c.self.inside.head.now g.C.CornerSet.COUNT c.self.inside.nets c.self.inside.tables.ends.items c.self.inside.tables.nodes.items (rows_of c.self.inside.tables.elements) c.self.invariant c.args.self.now c.self.view_is)) c.find.ensures.absent

pub returns-clause-found : goal.returns-clause-found
returns-clause-found g c =
    subst (λ (l : List (List ℕ)). IfSome c.find.result (λ s. slice_get l s ≡ Some c.args.net.now)) (sym (names_of_all c.self.inside.file.now c.self.inside.head.now g.C.CornerSet.COUNT c.self.inside.nets c.self.inside.tables.ends.items c.self.inside.tables.nodes.items (rows_of c.self.inside.tables.elements) c.self.invariant c.args.self.now c.self.view_is)) c.find.ensures.found

pub returns-clause-within : goal.returns-clause-within
returns-clause-within g c =
    subst (λ (n : ℕ). IfSome c.find.result (λ s. s < n)) (c.self.invariant.named ∙ sym (many_are c.self.inside.file.now c.self.inside.head.now g.C.CornerSet.COUNT c.self.inside.nets c.self.inside.tables.ends.items c.self.inside.tables.nodes.items (rows_of c.self.inside.tables.elements) c.self.invariant c.args.self.now c.self.view_is)) c.find.ensures.within
