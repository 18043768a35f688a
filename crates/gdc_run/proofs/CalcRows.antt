-- The rows of a design with its delays may be written, and their names are well spelled.
use Rattle.std.proofs.Common.{inl, inr, ◌⊎◌, ◌≡◌, ◌≢◌, ℕ, zero, suc, ◌<◌, List, [], ◌∷◌, length, get_or, All, Option, Some, None, Ok, refl, sym, ap, ◌∙◌, subst, arith}
use Rattle.std.specs.Prelude.{slice_get}
use Rattle.std.specs.Option.{option_map_or}
use Rattle.std.proofs.lemmas.Option.{slice_get_cases, slice_get_within}
use Rattle.cell_models.specs.NamedSets.{NamedCells}
use Rattle.cell_models.specs.declared.cell.Pin.{Pin}
use Rattle.edge_io.specs.Holding.{Held}
use Rattle.name_table.specs.WellSpelled.{IsWellSpelled}
use Rattle.netlist_link.specs.FlatDesigns.{IsFlatDesign}
use Rattle.netlist_link.specs.FlatNetlist.{FlatInstance, FlatNetlist, instance_at, no_instance}
use Rattle.netlist_link.specs.FlatPins.{pins_of}
use Rattle.verilog_netlist.proofs.NamedModules.{modules_named}
use Rattle.netlist_spelling.proofs.SpelledPaths.{netlist_spelled}
use Rattle.netlist_spelling.proofs.SpelledPins.{pins_named}
use Rattle.sdf_read_back.specs.ReadBack.{AreFit}
use Rattle.sdf_writer.specs.SdfText.{SdfRows}
use Rattle.slew_order.specs.FlatArcs.{net_on}
use Rattle.spef_nets.specs.Sections.{Corners}
use Rattle.verdict_phases.specs.Phases.{Go}
use Rattle.verilog_netlist.specs.NetModules.{NetModule}
use Rattle.verilog_netlist.specs.Parsed.{AreModulesOf}
use Rattle.annotation_rows.specs.Annotation.{annotation_of}
use Rattle.annotation_rows.specs.PathRows.{TimedDesign, timed_of}
use Rattle.annotation_rows.specs.PrintedRows.{AreRowsPrinted}
use Rattle.annotation_rows.specs.SdfEnds.{pin_name}
use Rattle.annotation_rows.specs.SpelledRows.{AreNamesSpelled, AreRowsSpelled}
use Rattle.annotation_rows.proofs.PrintedRows.{printed_rows}
use Rattle.annotation_rows.proofs.SpelledRows.{spelled_rows}
use Rattle.design_phases.specs.DesignReading.{ReadInputs, LinkedDesign, ReadsInputs, with_inputs, LinksInputs, with_netlist}
use Rattle.design_phases.specs.LinkPhase.{LinksDesign, is_linked}
use Rattle.design_phases.specs.NetlistPhase.{ParsesNetlist, is_netlist}
use Rattle.delay_core.specs.AnnotatedDesigns.{AnnotatedDesign, PartsAgree}
use Rattle.delay_core.specs.Annotation.{AnnotatesFrom, with_delays, Annotates, is_annotated}
use Rattle.delay_core.specs.declared.settings.Files.{Files}
use Rattle.delay_core.specs.declared.settings.Settings.{Settings}

-- ---- names

-- a net at a pin is that of an instance that there is
record HasNet (instances : List FlatInstance) (k pin net : ℕ) : Type 0 where
  instance : FlatInstance
  stands : slice_get instances k ≡ Some instance
  own : get_or instances k no_instance ≡ instance
  on : slice_get instance.nets pin ≡ Some (Some net)

abbrev some_net : ℕ → Option ℕ
some_net net = Some net

-- no net
abbrev IsNoNet : Option ℕ → Type 0
IsNoNet None = Unit {0}
IsNoNet (Some net) = ⊥

net_stands : (nets : List (Option ℕ)) (pin net : ℕ) → get_or nets pin None ≡ some_net net → slice_get nets pin ≡ Some (Some net)
net_stands [] pin net is = absurd (subst IsNoNet is tt)
net_stands (on ∷ nets) zero net is = ap Some is
net_stands (on ∷ nets) (suc pin) net is = net_stands nets pin net is

instance_stands : (instances : List FlatInstance) (k pin net : ℕ) → get_or (get_or instances k no_instance).nets pin None ≡ some_net net
    → HasNet instances k pin net
instance_stands [] k pin net is = absurd (subst IsNoNet is tt)
instance_stands (instance ∷ instances) zero pin net is =
    record { instance = instance; stands = refl; own = refl; on = net_stands instance.nets pin net is }
instance_stands (instance ∷ instances) (suc k) pin net is =
    let has = instance_stands instances k pin net is in
    record { instance = has.instance; stands = has.stands; own = has.own; on = has.on }

module _ (bytes : List ℕ) (modules : List NetModule) (name : List ℕ) (cells : List NamedCells) (netlist : FlatNetlist)
    (are : AreModulesOf bytes modules) (design : IsFlatDesign modules name cells netlist) where
  own_pin : (k pin net : ℕ) (has : HasNet netlist.instances k pin net)
      → option_map_or (λ (p : Pin). p.name) (slice_get (pins_of cells has.instance.cell) pin) [] ≢ []
  own_pin k pin net has = elim (slice_get_cases (pins_of cells has.instance.cell) pin).1 [
    | inl found ↦ (λ empty. pins_named modules name cells netlist (modules_named bytes modules are) design k pin has.instance found.0 net has.stands found.2 has.on
        (sym (ap (λ (o : Option Pin). option_map_or (λ (p : Pin). p.name) o []) found.2) ∙ empty))
    | inr past ↦ (λ empty.
        let same = design.is.linked.pins k has.instance has.stands in
        let below = slice_get_within has.instance.nets pin (Some net) has.on in
        let far = past.0 in
        absurd (omega (arith, same, below, far)))
  ]

  pin_has : (k pin net : ℕ) → net_on netlist k pin ≡ Some net → pin_name cells netlist k pin ≢ []
  pin_has k pin net on =
      let has = instance_stands netlist.instances k pin net on in
      subst (λ (i : FlatInstance). option_map_or (λ (p : Pin). p.name) (slice_get (pins_of cells i.cell) pin) [] ≢ []) (sym has.own)
      (own_pin k pin net has)

  names_spelled : AreNamesSpelled cells netlist
  names_spelled =
      let spelled = netlist_spelled modules name cells netlist (modules_named bytes modules are) design in
      record { instances = spelled.instances; ports = spelled.ports; pins = pin_has }

-- ---- the design that is annotated

modules_are : (bytes : List ℕ) (modules : List NetModule) → ParsesNetlist bytes (Ok modules) → AreModulesOf bytes modules
modules_are bytes modules (is_netlist _ are) = are

flat_of : (modules : List NetModule) (top : List ℕ) (cells : List NamedCells) (netlist : FlatNetlist) → LinksDesign modules top cells (Ok netlist)
    → IsFlatDesign modules top cells netlist
flat_of modules top cells netlist (is_linked _ flat) = flat

links_named : (bytes : List ℕ) (inputs : ReadInputs) (top : List ℕ) (design : LinkedDesign) → AreModulesOf bytes inputs.modules
    → LinksInputs inputs top (Ok design) → AreNamesSpelled design.cells design.netlist
links_named bytes inputs top _ are (with_netlist cells netlist models links) =
    names_spelled bytes inputs.modules top cells netlist are (flat_of inputs.modules top cells netlist links)

inputs_modules : (held : Option Held) (corners : ℕ) (bytes top : List ℕ) (libraries : List (List ℕ)) (inputs : ReadInputs)
    → ReadsInputs held corners bytes top libraries (Go inputs) → AreModulesOf bytes inputs.modules
inputs_modules held corners bytes top libraries _ (with_inputs modules used trees parses uses reads) = modules_are bytes modules parses

module _ {I : Type 0} (corners : Corners I) (held : Option Held) (settings : Settings) where
  annotated_named : (bytes : List ℕ) (inputs : ReadInputs) (spef : List ℕ) (annotated : AnnotatedDesign) → AreModulesOf bytes inputs.modules
      → AnnotatesFrom held corners inputs spef settings (Go annotated) → AreNamesSpelled annotated.cells annotated.netlist
  annotated_named bytes inputs spef _ are (with_delays design text delays links reads times) = links_named bytes inputs settings.top design are links

  names_of : (files : Files) (annotated : AnnotatedDesign) → Annotates held corners files settings (Go annotated) → AreNamesSpelled annotated.cells annotated.netlist
  names_of files annotated (is_annotated bytes inputs _ reads are later) =
      annotated_named bytes inputs files.spef annotated (inputs_modules held corners.count bytes settings.top files.libraries inputs are) later

-- ---- its rows

fit_rows : (count : ℕ) (rows : SdfRows) → AreRowsSpelled rows → AreRowsPrinted count rows → AreFit IsWellSpelled count rows
fit_rows count rows spelled printed = record {
  wires = λ k d below. let name = spelled.wires k d below in let time = printed.wires k d below in
      record { from = name.from; to = name.to; one_row = time.one_row; within = time.within };
  paths = λ k d below. let name = spelled.paths k d below in let time = printed.paths k d below in
      record { instance = name.instance; from = name.from; to = name.to; rise = time.rise; fall = time.fall };
}

some_corner : (count : ℕ) → (count ≡ 1) ⊎ (count ≡ 3) → 0 < count
some_corner count is = elim is [ inl one ↦ omega (arith, one) | inr three ↦ omega (arith, three) ]

agreed_fit : (count : ℕ) (annotated : AnnotatedDesign) → (count ≡ 1) ⊎ (count ≡ 3) → AreNamesSpelled annotated.cells annotated.netlist → PartsAgree count annotated
    → AreFit IsWellSpelled count annotated.rows
agreed_fit count annotated is names agree =
    let design : TimedDesign = timed_of annotated.netlist annotated.cells count annotated.nets annotated.slews in
    let name : List ℕ = annotated.rows.design in
    subst (AreFit IsWellSpelled count) (sym agree.rows)
    (fit_rows count (annotation_of name design)
    (spelled_rows name design (record { slews = agree.slews; shaped = agree.shaped }) (some_corner count is) names)
    (printed_rows name design agree.small))

-- what `calc` gives may be written, and is read back
pub calc_fit : {I : Type 0} (corners : Corners I) (held : Option Held) (files : Files) (settings : Settings) (annotated : AnnotatedDesign) → (corners.count ≡ 1) ⊎ (corners.count ≡ 3)
    → Annotates held corners files settings (Go annotated) → PartsAgree corners.count annotated → AreFit IsWellSpelled corners.count annotated.rows
calc_fit corners held files settings annotated is gives agree = agreed_fit corners.count annotated is (names_of corners held settings files annotated gives) agree
