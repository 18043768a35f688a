use Rattle.std.proofs.Common.{◌≡◌, ℕ, ◌+◌, List, ◌++◌, length, sym, ap, ◌∙◌, subst}
use Rattle.name_table.specs.NodeKeys.{Key, among}
use Rattle.spef_nets.specs.Refs.{IsInterned}
use Rattle.spef_nets.proofs.FewKeys.{interned_behind}
use Rattle.spef_nets.proofs.node_table.NodeTable.intern.Goals as goal

-- src/node_table.rt
pub returns : goal.returns
returns c =
    let few = c.self.inside.few.items in
    let behind = c.self.inside.keys.keys in
    let after = c.intern.new.keys.keys in
    let sum : c.in_ok-place-2.place ≡ c.in_ok-place.place + length few = c.in_ok-place-2.ensures ∙ ap (λ n. c.in_ok-place.place + n) (c.len-few.ensures ∙ sym c.as_slice.ensures.len ∙ ap length c.as_slice.ensures.value) in
    subst (λ (old : List Key). IsInterned old (few ++ after) c.args.key c.in_ok-place-2.place) c.self.view_is
    (subst (λ (n : ℕ). IsInterned (few ++ behind) (few ++ after) c.args.key n) (sym sum)
    (interned_behind few behind after c.args.key c.in_ok-place.place (ap (among c.args.key) (sym c.as_slice.ensures.value) ∙ c.in_default.ensures.absent) c.in_ok-place.ensures))
