-- A row grows by the number of what an instance is of.
use Rattle.std.proofs.Common.{◌≡◌, ℕ, List, subst}
use Rattle.std.specs.Prelude.{slice_get, Some}
use Rattle.hierarchy.proofs.Numbers.{grows_on, numbers_more}
use Rattle.hierarchy.proofs.instance_cells.number_instances.Goals as goal

pub loop-k-preserved : goal.loop-k-preserved
loop-k-preserved c =
    let old = c.loop-k.numbering.names in
    let new = c.number_of.new.self.names in
    let here = subst (λ (name : List ℕ). slice_get new c.in_ok-number.number ≡ Some name) c.instance_of.ensures c.in_ok-number.ensures.named in (
      numbers_more c.args.modules.now old new c.args.m c.loop-k.k c.loop-k.row.items c.push.new.items.items c.in_ok-number.number c.loop-k.invariant.0
          c.number_of.ensures.grows here c.in_ok-push.ensures.ok,
      grows_on _ old new c.loop-k.invariant.1 c.number_of.ensures.grows,
    )

pub returns-in_err-number-clause-grows : goal.returns-in_err-number-clause-grows
returns-in_err-number-clause-grows c = grows_on _ c.loop-k.numbering.names c.number_of.new.self.names c.loop-k.invariant.1 c.number_of.ensures.grows

pub returns-in_err-push-clause-grows : goal.returns-in_err-push-clause-grows
returns-in_err-push-clause-grows c = grows_on _ c.loop-k.numbering.names c.number_of.new.self.names c.loop-k.invariant.1 c.number_of.ensures.grows
