use Rattle.std.proofs.Common.{◌≡◌, ℕ, ◌+◌, ◌-◌, ◌*◌, List, ◌++◌, Contains, map, take, drop, OnOk, sym, ap, ap₂, ◌∙◌, subst, arith}
use Rattle.delay_units.specs.declared.quantities.Farads.{Farads}
use Rattle.rc_tree.specs.Nodes.{node_of}
use Rattle.rc_tree.specs.PinNames.{pin_name}
use Rattle.rc_tree.specs.Pins.{Pins, pin_nodes, row_of}
use Rattle.rc_tree.proofs.PinLemmas.{sound_after, named_more, named_same}
use Rattle.rc_tree.proofs.pins.PinLoads.add.Goals as goal

same_row : (count one two row : ℕ) (values loads : List Farads) → one ≡ count → two ≡ count → values ≡ loads → take (row * one + two - row * one) (drop (row * one) values) ≡ row_of count loads row
same_row count one two row values loads is_one is_two is =
    ap₂ (λ k vs. take k (drop (row * one) vs)) (let e : row * one + two - row * one ≡ two = omega arith in e ∙ is_two) is ∙ ap (λ k. take count (drop (row * k) loads)) is_one

-- src/pins.rt
pub invariant_of-self : goal.invariant_of-self
invariant_of-self g c =
    let view : Pins = record { driver = pin_name c.self.inside.driver; sinks = map pin_name c.self.inside.sinks.items; loads = c.self.inside.loads.items } in
    sound_after c.push_both.result g.C.CornerSet.COUNT view (pin_name c.args.sink) c.args.loads.now.values c.args.row
    c.self.invariant c.requires.row (subst (λ p. Contains (pin_nodes p) (node_of (pin_name c.args.sink)) → ⊥) (sym c.self.view_is) c.requires.other) c.requires.small
    (map pin_name c.push_both.new.sinks.items) c.push_both.new.loads.items
    (named_more pin_name c.push_both.result c.self.inside.sinks.items c.push_both.new.sinks.items c.args.sink c.push_both.ensures.sinks)
    (subst (λ r. OnOk c.push_both.result (c.push_both.new.loads.items ≡ c.self.inside.loads.items ++ r)) (same_row g.C.CornerSet.COUNT c.COUNT.result c.COUNT-2.result c.args.row c.as_slice-values.result.now c.args.loads.now.values c.COUNT.ensures c.COUNT-2.ensures c.as_slice-values.ensures) c.push_both.ensures.loads)
    (named_same pin_name c.push_both.result c.self.inside.sinks.items c.push_both.new.sinks.items c.push_both.ensures.err_sinks) c.push_both.ensures.err_loads
