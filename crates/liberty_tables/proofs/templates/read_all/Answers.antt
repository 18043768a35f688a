use Rattle.std.proofs.Common.{rules, ◌≡◌, ◌≤◌, ◌+◌, ◌++◌, ◌∷◌, [], length, take, subst, sym}
use Rattle.std.specs.List.{AllZip}
use Rattle.liberty_tables.specs.TemplateIndex.{IsReadAt}
use Rattle.liberty_tables.proofs.Fronts.{zip_at, all_taken}
use Rattle.liberty_tables.proofs.templates.read_all.Goals as goal

pub loop-place-preserved : goal.loop-place-preserved
loop-place-preserved c =
    let ids = c.args.index.now.groups.items in
    let pushed : c.push.new.self.items ≡ c.loop-place.read.items ++ c.in_ok-template.template ∷ [] = search rules in
    subst (λ l. AllZip (IsReadAt c.args.tree.now c.args.called.now c.args.units.now) (take (c.loop-place.place + 1) ids) l) (sym pushed)
    (zip_at (IsReadAt c.args.tree.now c.args.called.now c.args.units.now) ids c.loop-place.read.items c.loop-place.place c.group.result c.in_ok-template.template c.group.ensures
    c.loop-place.invariant c.in_ok-template.ensures)

pub returns : goal.returns
returns c =
    let ids = c.args.index.now.groups.items in
    let past : length ids ≤ c.loop-place.place = search rules in
    subst (λ l. AllZip (IsReadAt c.args.tree.now c.args.called.now c.args.units.now) l c.loop-place.read.items) (all_taken ids c.loop-place.place past) c.loop-place.invariant
