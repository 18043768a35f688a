use Rattle.std.proofs.Common.{◌≡◌, ℕ, suc, ◌-◌, ◌<◌, List, map, length, get_or, slice_get, Some, option_map, sym, ap, ◌∙◌, arith}
use Rattle.std.proofs.lemmas.List.{length-map}
use Rattle.std.proofs.lemmas.Option.{slice_get-map, slice_get-get_or}
use Rattle.rc_tree.specs.Nodes.{Node, node_of}
use Rattle.rc_tree.specs.PinNames.{pin_name}
use Rattle.rc_tree.specs.FewPins.{pins_of}
use Rattle.rc_tree.specs.declared.pin_names.PinName.{PinName}
use Rattle.rc_tree.proofs.few_pins.FewPins.key.Goals as goal

length_sinks : (sinks : List PinName) → length (map node_of (map pin_name sinks)) ≡ length sinks
length_sinks sinks = length-map (map pin_name sinks) node_of ∙ length-map sinks pin_name

-- a pin behind the driver is a sink
behind : (driver d : PinName) (sinks : List PinName) (place sink : ℕ) (key : Node) → place ≡ suc sink → sink < length sinks → key ≡ node_of (pin_name (get_or sinks sink d)) → slice_get (pins_of driver sinks) place ≡ Some key
behind driver d sinks place sink key place_is below is =
    ap (slice_get (pins_of driver sinks)) place_is ∙ slice_get-map node_of (map pin_name sinks) sink
    ∙ ap (option_map node_of) (slice_get-map pin_name sinks sink ∙ ap (option_map pin_name) (slice_get-get_or sinks sink d below)) ∙ ap Some (sym is)

-- src/few_pins.rt
pub returns-else-place-eq0 : goal.returns-else-place-eq0
returns-else-place-eq0 c =
    let size = length_sinks c.self.inside.sinks.now in
    let whole = ap length c.self.view_is in
    ap (λ l. slice_get l c.args.place) (sym c.self.view_is)
    ∙ behind c.self.inside.driver _ c.self.inside.sinks.now c.args.place (c.args.place - 1) c.key-else-place-eq0.result (omega (arith, c.if-place-eq0.false)) (omega (arith, size, whole, c.requires, c.if-place-eq0.false)) c.key-else-place-eq0.ensures
