-- Loops of arcs between nets are cycles of arcs of instances, and no other cycles stand.
use Rattle.std.proofs.Common.{◌≡◌, ℕ, ◌<◌, ◌≤◌, if◌then◌else◌, ◌∙◌, ap, sym, refl, subst, List, [], ◌∷◌, length, map, get_or, Option, Some, None, arith}
use Rattle.std.specs.Prelude.{All}
use Rattle.std.proofs.lemmas.Bool.{ne_eqb}
use Rattle.std.proofs.lemmas.List.{get_or-map, get_or_read, length-map}
use Rattle.std.proofs.lemmas.List.Elements.{All-nil, All-cons, All-get_or}
use Rattle.hierarchy.proofs.Joining.{IsPlaced, joined-has}
use Rattle.netlist_link.specs.FlatNetlist.{FlatNetlist, net_at}
use Rattle.cell_models.specs.NamedSets.{NamedCells}
use Rattle.slew_states.specs.Arcs.{no_arc, arc_at, HaveNets}
use Rattle.slew_states.specs.Loops.{ArcsLead, IsLoopFromLeast, HasNoLoop, IsNetOrder}
use Rattle.slew_states.specs.declared.arcs.FlatArc.{FlatArc}
use Rattle.slew_states.proofs.Graphs.{ordered_nets}
use Rattle.slew_order.specs.declared.arcs.ArcAt.{ArcAt}
use Rattle.slew_order.specs.Cycles.{related_net, output_net, ArcsJoin, IsCycleFromLeast, HasNoCycle}
use Rattle.slew_order.specs.FlatArcs.{IsArcAt, all_arcs, arc_count, flat_at, if_loaded, instance_arcs}
use Rattle.slew_order.specs.Sinks.{IsSunk}
use Rattle.slew_order.specs.Timings.{SlewSource, arcs_in, flat_in, arc_number, no_arc_at}
use Rattle.slew_order.proofs.Links.{if_loaded_is}

-- the arc of an instance is among all arcs
one_placed : (instance count arc : ℕ) → arc < count → IsPlaced (instance_arcs instance count) (record { instance = instance; arc = arc })
one_placed instance count arc within = joined-has (λ arc. record { instance = instance; arc = arc } ∷ []) 0 count arc (record { instance = instance; arc = arc }) (omega arith) (omega (arith, within))
    (record { place = 0; within = omega arith; is = refl })

placed : (netlist : FlatNetlist) (cells : List NamedCells) (at : ArcAt) → IsArcAt netlist cells at → IsPlaced (all_arcs netlist cells) at
placed netlist cells at is = joined-has (λ instance. instance_arcs instance (arc_count netlist cells instance)) 0 (length netlist.instances) at.instance at (omega arith) (omega (arith, is.0))
    (one_placed at.instance (arc_count netlist cells at.instance) at.arc is.1)

module _ (source : SlewSource) (there : All (IsArcAt source.netlist source.cells) (arcs_in source)) where
  many_flat : length (flat_in source) ≡ length (arcs_in source)
  many_flat = length-map (arcs_in source) (flat_at source.netlist source.cells)

  pub flat_is : (arc : ℕ) → arc < length (arcs_in source) → arc_at (flat_in source) arc ≡ flat_at source.netlist source.cells (arc_number source arc)
  flat_is arc within = get_or-map (flat_at source.netlist source.cells) (arcs_in source) arc no_arc_at no_arc within

  at_number : (arc : ℕ) → arc < length (arcs_in source) → IsArcAt source.netlist source.cells (arc_number source arc)
  at_number arc within = All-get_or (IsArcAt source.netlist source.cells) (arcs_in source) arc no_arc_at within there

  lead_within : (a b : ℕ) (numbers : List ℕ) → ArcsLead (flat_in source) a numbers b → All (λ arc. arc < length (arcs_in source)) numbers
  lead_within a b [] lead = All-nil (λ arc. arc < length (arcs_in source))
  lead_within a b (arc ∷ numbers) lead = All-cons (λ arc. arc < length (arcs_in source)) arc numbers (let first = lead.0 in omega (arith, first, many_flat)) (lead_within lead.2.0 b numbers lead.2.2)

  pub lead_joins : (a b : ℕ) (numbers : List ℕ) → ArcsLead (flat_in source) a numbers b → ArcsJoin source.netlist source.cells a (map (arc_number source) numbers) b
  lead_joins a b [] lead = lead
  lead_joins a b (arc ∷ numbers) lead =
      let first = lead.0 in
      let within : arc < length (arcs_in source) = omega (arith, first, many_flat) in
      let at = flat_is arc within in (
        at_number arc within,
        ap (λ f. f.source) (sym at) ∙ lead.1,
        (lead.2.0, if_loaded_is source.netlist _ lead.2.0 (ap (λ f. f.target) (sym at) ∙ lead.2.1), lead_joins lead.2.0 b numbers lead.2.2),
      )

  -- a loop from its least net is a cycle from its least net
  pub loop_within : (numbers : List ℕ) → IsLoopFromLeast (flat_in source) numbers → All (λ arc. arc < length (arcs_in source)) numbers
  loop_within numbers loop = lead_within loop.0 loop.0 numbers loop.1.1

  pub loop_cycles : (numbers : List ℕ) → IsLoopFromLeast (flat_in source) numbers → IsCycleFromLeast source.netlist source.cells (map (arc_number source) numbers)
  loop_cycles numbers loop =
      let many = length-map numbers (arc_number source) in
      let some = loop.1.0 in (
        loop.0,
        (omega (arith, many, some), lead_joins loop.0 loop.0 numbers loop.1.1),
        λ place d below.
            let within : place < length numbers = omega (arith, many, below) in
            let arc = get_or numbers place 0 in
            let arc_within : arc < length (arcs_in source) = All-get_or (λ arc. arc < length (arcs_in source)) numbers place 0 within (loop_within numbers loop) in
            let here = get_or-map (arc_number source) numbers place 0 d within in
            let least = All-get_or (λ arc. (other : ℕ) → (arc_at (flat_in source) arc).source ≡ Some other → loop.0 ≤ other) numbers place 0 within loop.2 in
            λ other on. least other (ap (λ f. f.source) (flat_is arc arc_within) ∙ ap (related_net source.netlist source.cells) (sym here) ∙ on),
      )

  pub record IsNumber (at : ArcAt) : Type 0 where
    pub arc : ℕ
    pub within : arc < length (arcs_in source)
    pub is : arc_number source arc ≡ at

  pub number_of : (at : ArcAt) → IsArcAt source.netlist source.cells at → IsNumber at
  number_of at is =
      let p = placed source.netlist source.cells at is in
      record { arc = p.place; within = p.within; is = sym (get_or_read (arcs_in source) p.place at p.within (sym p.is) no_arc_at) }

  module _ (sunk : All (IsSunk source.netlist source.cells) (arcs_in source)) where
    -- a net with a related pin on it has a sink
    has_sink : (at : ArcAt) (net : ℕ) → IsArcAt source.netlist source.cells at → related_net source.netlist source.cells at ≡ Some net → 0 < length (net_at source.netlist net).sinks
    has_sink at net is on =
        let n = number_of at is in
        let its : IsSunk source.netlist source.cells at = subst (IsSunk source.netlist source.cells) n.is (All-get_or (IsSunk source.netlist source.cells) (arcs_in source) n.arc no_arc_at n.within sunk) in
        let below = its net on in
        omega (arith, below)

    start_sink : (net b : ℕ) (walk : List ArcAt) → ArcsJoin source.netlist source.cells net walk b → 0 < length (net_at source.netlist b).sinks → 0 < length (net_at source.netlist net).sinks
    start_sink net b [] join some = subst (λ n. 0 < length (net_at source.netlist n).sinks) (sym join) some
    start_sink net b (at ∷ walk) join some = has_sink at net join.0 join.1

    loaded : (pin_net : Option ℕ) (net : ℕ) → pin_net ≡ Some net → 0 < length (net_at source.netlist net).sinks → if_loaded source.netlist pin_net ≡ Some net
    loaded pin_net net is some =
        ap (if_loaded source.netlist) is
        ∙ ap (λ empty. if empty then None else Some net) (ne_eqb (length (net_at source.netlist net).sinks) 0 (λ none. absurd (omega (arith, none, some))))

    record Leads (a b : ℕ) (walk : List ArcAt) : Type 0 where
      numbers : List ℕ
      many : length numbers ≡ length walk
      lead : ArcsLead (flat_in source) a numbers b

    join_leads : (a b : ℕ) (walk : List ArcAt) → ArcsJoin source.netlist source.cells a walk b → 0 < length (net_at source.netlist b).sinks → Leads a b walk
    join_leads a b [] join some = record { numbers = []; many = refl; lead = join }
    join_leads a b (at ∷ walk) join some =
        let n = number_of at join.0 in
        let net = join.2.0 in
        let rest = join_leads net b walk join.2.2 some in
        let is : arc_at (flat_in source) n.arc ≡ flat_at source.netlist source.cells at = flat_is n.arc n.within ∙ ap (flat_at source.netlist source.cells) n.is in
        let many = many_flat in
        let within = n.within in
        record {
          numbers = n.arc ∷ rest.numbers;
          many = let len = rest.many in omega (arith, len);
          lead = (
            omega (arith, within, many),
            ap (λ f. f.source) is ∙ join.1,
            (net, ap (λ f. f.target) is ∙ loaded (output_net source.netlist source.cells at) net join.2.1 (start_sink net b walk join.2.2 some), rest.lead),
          );
        }

    -- where there is no loop there is no cycle
    pub no_cycle : HasNoLoop (flat_in source) → HasNoCycle source.netlist source.cells
    no_cycle none net [] cycle = let some = cycle.0 in absurd (omega (arith, some))
    no_cycle none net (at ∷ walk) cycle =
        let leads = join_leads net net (at ∷ walk) cycle.1 (has_sink at net cycle.1.0 cycle.1.1) in
        none net leads.numbers (let many = leads.many in omega (arith, many), leads.lead)

    -- nor where the nets have an order
    pub ordered_no_cycle : (nets : ℕ) (flat : List FlatArc) (order : List ℕ) → nets ≡ length source.netlist.nets → flat ≡ flat_in source → HaveNets (length source.netlist.nets) flat
        → IsNetOrder nets flat order → HasNoCycle source.netlist source.cells
    ordered_no_cycle nets flat order many is have ordered =
        no_cycle (subst HasNoLoop is (ordered_nets nets flat order (subst (λ n. HaveNets n flat) (sym many) have) ordered))

  -- the same of copies of the lists
  pub numbers_within : (numbers copy : List ℕ) (arcs : List ArcAt) → IsLoopFromLeast (flat_in source) numbers → copy ≡ numbers → arcs ≡ arcs_in source → All (λ arc. arc < length arcs) copy
  numbers_within numbers copy arcs loop same are =
      subst (λ list. All (λ arc. arc < length list) copy) (sym are) (subst (All (λ arc. arc < length (arcs_in source))) (sym same) (loop_within numbers loop))

  pub numbers_cycle : (numbers copy : List ℕ) (arcs cycle : List ArcAt) → IsLoopFromLeast (flat_in source) numbers → copy ≡ numbers → arcs ≡ arcs_in source
      → cycle ≡ map (λ arc. get_or arcs arc no_arc_at) copy → IsCycleFromLeast source.netlist source.cells cycle
  numbers_cycle numbers copy arcs cycle loop same are is =
      subst (IsCycleFromLeast source.netlist source.cells)
      (sym (is ∙ ap (λ list. map (λ arc. get_or list arc no_arc_at) copy) are ∙ ap (map (arc_number source)) same)) (loop_cycles numbers loop)
