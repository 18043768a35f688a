-- A sink more among the pins of a net.
use Rattle.std.proofs.Common.{◌≡◌, ℕ, ◌+◌, ◌*◌, List, [], ◌∷◌, ◌++◌, length, map, take, drop, slice_get, Some, Result, Ok, Err, OnOk, sym, ap, ap₂, ◌∙◌, arith, append-nil}
use Rattle.std.specs.List.{flat_map}
use Rattle.std.proofs.lemmas.Grind.{flat_map-append}
use Rattle.std.proofs.lemmas.List.{map_push, take_all}
use Rattle.std.proofs.lemmas.List.FromFn.{length-map-range_with_len}
use Rattle.delay_units.specs.declared.quantities.Farads.{Farads}
use Rattle.name_table.specs.declared.spef_names.NodeName.{NodeName}
use Rattle.cell_models.specs.NamedSets.{NamedCells}
use Rattle.netlist_link.specs.FlatNetlist.{FlatNetlist}
use Rattle.netlist_link.specs.declared.ends.End.{End}
use Rattle.rc_tree.specs.Pins.{Pins, row_of}
use Rattle.net_parasitics.specs.Inputs.{Inputs}
use Rattle.net_parasitics.specs.NetPins.{end_name, end_load, end_loads, pins_to}
use Rattle.net_parasitics.proofs.Lists.{take_next}

pub flat_push : {X A : Type 0} (f : X → List A) (xs : List X) (x : X) → flat_map f (xs ++ x ∷ []) ≡ flat_map f xs ++ f x
flat_push f xs x = flat_map-append f xs (x ∷ []) ∙ ap (λ l. flat_map f xs ++ l) (append-nil (f x))

pub length-loads : (netlist : FlatNetlist) (cells : List NamedCells) (count : ℕ) (port_load : Farads) (sink : End) → length (end_loads netlist cells count port_load sink) ≡ count
length-loads netlist cells count port_load sink = length-map-range_with_len (λ corner. end_load netlist cells port_load corner sink) 0 count

-- a row alone is all of its grid
sole_row : (count : ℕ) (values : List Farads) → length values ≡ count → row_of count values 0 ≡ values
sole_row count values len = ap (λ n. take count (drop n values)) (let e : 0 * count ≡ 0 = omega arith in e) ∙ take_all count values (omega (arith, len))

pub pins_more : {A E : Type 0} (r : Result A E) (inputs : Inputs) (driver : End) (sinks : List End) (k : ℕ) (sink : End) (name : NodeName) (values : List Farads) (before after : Pins)
    → slice_get sinks k ≡ Some sink → name ≡ end_name inputs.netlist inputs.cells sink → values ≡ end_loads inputs.netlist inputs.cells inputs.count inputs.port_load sink
    → before ≡ pins_to inputs driver (take k sinks)
    → OnOk r (after ≡ record { driver = before.driver; sinks = before.sinks ++ name ∷ []; loads = before.loads ++ row_of inputs.count values 0 })
    → OnOk r (after ≡ pins_to inputs driver (take (k + 1) sinks))
pins_more (Err e) inputs driver sinks k sink name values before after at named loads held added = tt
pins_more (Ok a) inputs driver sinks k sink name values before after at named loads held added =
    let names = map (end_name inputs.netlist inputs.cells) (take k sinks) in
    let rows = flat_map (end_loads inputs.netlist inputs.cells inputs.count inputs.port_load) (take k sinks) in
    let row : row_of inputs.count values 0 ≡ end_loads inputs.netlist inputs.cells inputs.count inputs.port_load sink =
    sole_row inputs.count values (ap length loads ∙ length-loads inputs.netlist inputs.cells inputs.count inputs.port_load sink) ∙ loads in
    let all_names : names ++ name ∷ [] ≡ map (end_name inputs.netlist inputs.cells) (take (k + 1) sinks) =
    ap (λ n. names ++ n ∷ []) named ∙ sym (map_push (end_name inputs.netlist inputs.cells) (take k sinks) sink) ∙ ap (map (end_name inputs.netlist inputs.cells)) (sym (take_next sinks k sink at)) in
    let all_rows : rows ++ row_of inputs.count values 0 ≡ flat_map (end_loads inputs.netlist inputs.cells inputs.count inputs.port_load) (take (k + 1) sinks) =
    ap (λ l. rows ++ l) row ∙ sym (flat_push (end_loads inputs.netlist inputs.cells inputs.count inputs.port_load) (take k sinks) sink)
    ∙ ap (flat_map (end_loads inputs.netlist inputs.cells inputs.count inputs.port_load)) (sym (take_next sinks k sink at)) in
    added
    ∙ ap (λ (p : Pins). record { driver = p.driver; sinks = p.sinks ++ name ∷ []; loads = p.loads ++ row_of inputs.count values 0 }) held
    ∙ ap₂ (λ n l. record { driver = end_name inputs.netlist inputs.cells driver; sinks = n; loads = l }) all_names all_rows
