-- Where there is no cycle, no walk over arcs is longer than there are nets.
use Rattle.std.proofs.Common.{◌≡◌, ◌≢◌, ℕ, zero, suc, ◌<◌, ◌≤◌, ◌∙◌, ap, sym, subst, List, [], ◌∷◌, length, map, take, slice_index, Option, Some, unwrap_or, arith}
use Rattle.std.proofs.lemmas.List.{length-map}
use Rattle.cell_models.specs.NamedSets.{NamedCells}
use Rattle.graph_order.proofs.Waiting.{few}
use Rattle.netlist_link.specs.FlatNetlist.{FlatNetlist}
use Rattle.netlist_link.specs.Linked.{IsLinked}
use Rattle.slew_order.specs.Cycles.{ArcsJoin, HasNoCycle, related_net}
use Rattle.slew_order.specs.FlatArcs.{cell_arc}
use Rattle.slew_order.specs.declared.arcs.ArcAt.{ArcAt}
use Rattle.slew_order.proofs.Links.{net_in}

module _ (cells : List NamedCells) (netlist : FlatNetlist) (linked : IsLinked cells netlist) where
  -- the nets that the arcs begin on
  abbrev begins : ArcAt → ℕ
  begins at = unwrap_or (related_net netlist cells at) 0

  begins_on : (at : ArcAt) (net : ℕ) → related_net netlist cells at ≡ Some net → begins at ≡ net
  begins_on at net on = ap (λ (o : Option ℕ). unwrap_or o 0) on

  nets_within : (a b : ℕ) (walk : List ArcAt) (place : ℕ) → ArcsJoin netlist cells a walk b → place < length walk → slice_index (map begins walk) place < length netlist.nets
  nets_within a b [] place joins below = absurd (omega (arith, below))
  nets_within a b (at ∷ walk) zero joins below =
      let on = begins_on at a joins.1 in let low = net_in cells netlist linked at.instance (cell_arc netlist cells at 0).from a joins.1 in omega (arith, on, low)
  nets_within a b (at ∷ walk) (suc place) joins below = nets_within joins.2.0 b walk place joins.2.2 (omega (arith, below))

  -- the front of a walk
  walk_to : (a b : ℕ) (walk : List ArcAt) (k : ℕ) → ArcsJoin netlist cells a walk b → k < length walk → ArcsJoin netlist cells a (take k walk) (slice_index (map begins walk) k)
  walk_to a b [] k joins below = absurd (omega (arith, below))
  walk_to a b (at ∷ walk) zero joins below = sym (begins_on at a joins.1)
  walk_to a b (at ∷ walk) (suc k) joins below = (joins.0, joins.1, (joins.2.0, joins.2.1, walk_to joins.2.0 b walk k joins.2.2 (omega (arith, below))))

  nets_apart : HasNoCycle netlist cells → (a b : ℕ) (walk : List ArcAt) (j k : ℕ) → ArcsJoin netlist cells a walk b → j < k → k < length walk
      → slice_index (map begins walk) j ≢ slice_index (map begins walk) k
  nets_apart none a b [] j k joins lower below same = absurd (omega (arith, below))
  nets_apart none a b (at ∷ walk) j zero joins lower below same = absurd (omega (arith, lower))
  nets_apart none a b (at ∷ walk) zero (suc k) joins lower below same =
      let back : slice_index (map begins (at ∷ walk)) (suc k) ≡ a = sym same ∙ begins_on at a joins.1 in
      none a (take (suc k) (at ∷ walk)) (omega arith, subst (ArcsJoin netlist cells a (take (suc k) (at ∷ walk))) back (walk_to a b (at ∷ walk) (suc k) joins below))
  nets_apart none a b (at ∷ walk) (suc j) (suc k) joins lower below same =
      nets_apart none joins.2.0 b walk j k joins.2.2 (omega (arith, lower)) (omega (arith, below)) same

  pub walk_short : HasNoCycle netlist cells → (a b : ℕ) (walk : List ArcAt) → ArcsJoin netlist cells a walk b → length walk ≤ length netlist.nets
  walk_short none a b walk joins =
      let size : length (map begins walk) ≡ length walk = length-map walk begins in
      let most = few (map begins walk) (length netlist.nets) (λ place below. nets_within a b walk place joins (omega (arith, below, size)))
      (λ j k lower below. nets_apart none a b walk j k joins lower (omega (arith, below, size))) in
      omega (arith, most, size)
