-- The arcs of a design.
use Rattle.std.proofs.Common.{◌≡◌, ℕ, ◌<◌, ◌∙◌, ap, sym, refl, subst, List, length, get_or, Option, Some, None, IfSome, arith}
use Rattle.std.specs.Prelude.{All}
use Rattle.std.proofs.lemmas.List.{get_or_read, length-map}
use Rattle.std.proofs.lemmas.List.Elements.{All-get_or}
use Rattle.cell_models.specs.NamedSets.{NamedCells}
use Rattle.netlist_link.specs.FlatNetlist.{FlatNetlist}
use Rattle.slew_states.specs.Arcs.{no_arc, HaveNets}
use Rattle.slew_states.specs.declared.arcs.FlatArc.{FlatArc}
use Rattle.slew_order.specs.declared.arcs.ArcAt.{ArcAt}
use Rattle.slew_order.specs.Designs.{AreArcsIn}
use Rattle.slew_order.specs.FlatArcs.{flat_at}
use Rattle.slew_order.specs.Sinks.{IsSunk}
use Rattle.slew_order.specs.Timings.{SlewSource, no_arc_at, arcs_in}
use Rattle.slew_order.proofs.Links.{have_nets}

-- the related pin of the arc of a number is a sink
pub sunk_at : (netlist : FlatNetlist) (cells : List NamedCells) (arcs : List ArcAt) (arc : ℕ) → All (IsSunk netlist cells) arcs → arc < length arcs
    → IsSunk netlist cells (get_or arcs arc no_arc_at)
sunk_at netlist cells arcs arc all within = All-get_or (IsSunk netlist cells) arcs arc no_arc_at within all

-- the nets of arcs are nets
pub nets_of_flat : (source : SlewSource) (arcs : List ArcAt) (flat : List FlatArc) (sinks : List ℕ) (here : List FlatArc) → AreArcsIn source arcs flat sinks → here ≡ flat
    → HaveNets (length source.netlist.nets) here
nets_of_flat source arcs flat sinks here are is =
    subst (HaveNets (length source.netlist.nets)) (sym (is ∙ are.flat_are)) (have_nets source.cells source.netlist are.source_is.linked (arcs_in source))

if_some : (net : Option ℕ) (many : ℕ) → ((this : ℕ) → net ≡ Some this → this < many) → IfSome net (λ this. this < many)
if_some None many is = tt
if_some (Some this) many is = is this refl

pub source_within : (source : SlewSource) (arcs : List ArcAt) (flat : List FlatArc) (sinks : List ℕ) (arc : ℕ) (this : FlatArc) → AreArcsIn source arcs flat sinks
    → arc < length (arcs_in source) → this ≡ get_or flat arc this → IfSome this.source (λ net. net < length source.netlist.nets)
source_within source arcs flat sinks arc this are within is =
    let many : length flat ≡ length (arcs_in source) = ap length are.flat_are ∙ length-map (arcs_in source) (flat_at source.netlist source.cells) in
    let below : arc < length flat = omega (arith, within, many) in
    let at : this ≡ get_or flat arc no_arc = get_or_read flat arc this below is no_arc in
    if_some this.source (length source.netlist.nets)
    (λ net here. (nets_of_flat source arcs flat sinks flat are refl arc net below).0 (ap (λ a. a.source) (sym at) ∙ here))
