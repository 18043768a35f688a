-- The names of the instances of a flat netlist.
use Rattle.std.proofs.Common.{◌≡◌, ℕ, List, [], map, get_or, Some, sym, ◌∙◌, arith, ext_get_or}
use Rattle.std.specs.Prelude.{slice_get}
use Rattle.std.proofs.lemmas.Option.{slice_get_within, slice_get-get_or}
use Rattle.std.proofs.lemmas.List.{length-map, get_or-map}
use Rattle.verilog_netlist.specs.NetModules.{NetModule}
use Rattle.cell_models.specs.NamedSets.{NamedCells}
use Rattle.hierarchy.specs.Walks.{Met, cells_met}
use Rattle.hierarchy.specs.WalkTables.{no_met}
use Rattle.netlist_link.specs.FlatNames.{instance_text}
use Rattle.netlist_link.specs.FlatNetlist.{FlatInstance, no_instance}
use Rattle.netlist_link.specs.Links.{IsInstanceOf, AreInstances}

module _ (modules : List NetModule) (top : ℕ) (cells : List NamedCells) (instances : List FlatInstance) (are : AreInstances modules top cells instances)
    (i : ℕ) (instance : FlatInstance) (at : slice_get instances i ≡ Some instance) where
  abbrev met : Met
  met = get_or (cells_met modules top) i no_met

  instance_is : IsInstanceOf modules top cells met instance
  instance_is =
      let below = slice_get_within instances i instance at in
      let count = are.count in
      are.each i met instance (slice_get-get_or (cells_met modules top) i no_met (omega arith)) at

-- the names of all of them are those along the walk
pub instance_texts_are : (modules : List NetModule) (top : ℕ) (cells : List NamedCells) (instances : List FlatInstance)
    → AreInstances modules top cells instances → map (λ instance. instance.text) instances ≡ map (instance_text modules top) (cells_met modules top)
instance_texts_are modules top cells instances are =
    let text_of : FlatInstance → List ℕ = λ instance. instance.text in
    let mets = cells_met modules top in
    let here = length-map instances text_of in
    let there = length-map mets (instance_text modules top) in
    let count = are.count in
    ext_get_or [] (map text_of instances) (map (instance_text modules top) mets) (omega arith)
    (λ i less. get_or-map text_of instances i no_instance [] (omega arith)
    ∙ (instance_is modules top cells instances are i (get_or instances i no_instance) (slice_get-get_or instances i no_instance (omega arith))).text
    ∙ sym (get_or-map (instance_text modules top) mets i no_met [] (omega arith)))
