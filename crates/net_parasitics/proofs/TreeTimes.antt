-- The times of a net, by its tree.
use Rattle.std.proofs.Common.{◌≡◌, ℕ, zero, suc, ◌+◌, ◌*◌, ◌<◌, ◌≤◌, List, [], ◌∷◌, length, map, take, get_or, false, refl, sym, ap, ap₂, ◌∙◌, arith, inl, inr, length-append}
use Rattle.std.specs.Prelude.{sum_by, Contains}
use Rattle.std.specs.List.{flat_map, range_with_len}
use Rattle.std.proofs.Math.Nat.{le-mul_of_pos_right}
use Rattle.std.proofs.lemmas.List.{length-map, take_all, length-take-le}
use Rattle.std.proofs.lemmas.List.Concat.{flat_map-cons, get_or-flat_map}
use Rattle.std.proofs.lemmas.List.Elements.{All-nil, All-cons}
use Rattle.std.proofs.lemmas.List.FromFn.{get_or-map-range_with_len, sum_by-map-range_with_len_more}
use Rattle.std.proofs.lemmas.List.Sums.{sum_by-le, sum_by_more}
use Rattle.corner_set.specs.Places.{place}
use Rattle.delay_units.specs.declared.quantities.Farads.{Farads}
use Rattle.netlist_link.specs.FlatNetlist.{net_at}
use Rattle.netlist_link.specs.declared.ends.End.{End}
use Rattle.spef_nets.specs.NetElements.{NetElements as SectionElements, net_names}
use Rattle.rc_tree.specs.Arenas.{Arena, most_elements}
use Rattle.rc_tree.specs.Builds.{IsTreeEnd, IsTreeOf}
use Rattle.rc_tree.specs.Elmore.{IsElmore}
use Rattle.rc_tree.specs.NetElements.{NetCapacitance}
use Rattle.rc_tree.specs.NetLoad.{net_load}
use Rattle.rc_tree.specs.Nodes.{Node, node_of}
use Rattle.rc_tree.specs.Pins.{pin_nodes}
use Rattle.rc_tree.specs.SectionNets.{on_net, sink_node, IsListed}
use Rattle.rc_tree.specs.Values.{farads_at}
use Rattle.rc_tree.specs.Walk.{Reached}
use Rattle.rc_tree.specs.declared.ends.TreeEnd.{TreeEnd}
use Rattle.rc_tree.specs.declared.ends.TreeEnd.TheVariants as tree
use Rattle.net_delays.specs.NetTimes.{NetTimes, elmore_at}
use Rattle.net_parasitics.specs.Inputs.{Inputs}
use Rattle.net_parasitics.specs.NetPins.{end_name, end_load, end_loads, net_pins}
use Rattle.net_parasitics.specs.NetSections.{no_section, is_missing}
use Rattle.net_parasitics.specs.NetSteps.{HasTreeTimes, HasOwnLoad, IsNetEnd, net_refused, no_memory_for_it, TakesWork}
use Rattle.net_parasitics.specs.NetTrees.{IsWired, IsUnwired, IsNet, IsTreeNet, elements_at, sink_at, AreZero, HasTimes, are_times, IsRefused}
use Rattle.net_parasitics.specs.TreeEnds.{IsEndOf, is_refused, is_short}
use Rattle.net_parasitics.specs.WorkCounts.{most_steps, of_net, of_none}
use Rattle.net_parasitics.specs.declared.ends.ParasiticsEnd.{ParasiticsEnd}
use Rattle.net_parasitics.proofs.NetPins.{length-loads}
use Rattle.net_parasitics.proofs.NetPuts.{same_elmore}

-- a tree's end is the net's
pub net_end_of : (inputs : Inputs) (net : ℕ) (driver : End) (section : SectionElements) (end : TreeEnd) (result : ParasiticsEnd) → IsNet inputs net driver section
    → IsTreeEnd inputs.count section (net_pins inputs net driver) end → IsEndOf net end result → IsNetEnd inputs net result
net_end_of inputs net driver section end result is refused (is_refused e cause) = net_refused e (record { driver = driver; section = section; is = is; refused = refused; cause = cause })
net_end_of inputs net driver section end result is refused is_short = no_memory_for_it

-- the names of the sinks are as many as these
pub sinks_many : (inputs : Inputs) (net : ℕ) (driver : End) → length (net_pins inputs net driver).sinks ≡ length (net_at inputs.netlist net).sinks
sinks_many inputs net driver = length-map (net_at inputs.netlist net).sinks (end_name inputs.netlist inputs.cells)

pub pins_many : (inputs : Inputs) (net : ℕ) (driver : End) → length (pin_nodes (net_pins inputs net driver)) ≡ 1 + length (net_at inputs.netlist net).sinks
pins_many inputs net driver =
    let nodes = length-map (net_pins inputs net driver).sinks node_of in
    let names = sinks_many inputs net driver in
    omega (arith, nodes, names)

-- what was taken of the tree is that of the net
pub times_of_tree : (inputs : Inputs) (net : ℕ) (driver : End) (section : SectionElements) (arena : Arena) (times : NetTimes) → IsNet inputs net driver section
    → IsTreeOf inputs.count section (net_pins inputs net driver) arena → ((corner : ℕ) → corner < inputs.count → HasTreeTimes inputs.count arena times net corner)
    → HasTimes inputs times net
times_of_tree inputs net driver section arena times is of put = are_times driver section is (record { fit = of.fit; tree = of.tree }) (record {
  load = λ corner below. (put corner below).load ∙ of.load corner below;
  elmore = λ corner sink below within.
      let many = sinks_many inputs net driver in
      (of.delays corner sink below (omega (arith, within, many)) (elmore_at inputs.count times net sink corner)).0
      ((put corner below).elmore sink (let placed = of.sinks in omega (arith, within, many, placed)));
})

-- the steps of a net are within its work
work_bound : (n j c s : ℕ) → 0 < n → j + n * (j + c) + 12 * n * (j + 1) + n * s ≤ 16 * n * (j + c + (1 + s))
work_bound n j c s some =
    let one : n * (j + c) ≡ n * j + n * c = grind arith in
    let two : 12 * n * (j + 1) ≡ 12 * (n * j) + 12 * n = grind arith in
    let all : 16 * n * (j + c + (1 + s)) ≡ 16 * (n * j) + 16 * (n * c) + 16 * n + 16 * (n * s) = grind arith in
    let more : j ≤ j * n = le-mul_of_pos_right j some in
    let turned : j * n ≡ n * j = grind arith in
    omega (arith, one, two, all, more, turned)

pub takes_work : (inputs : Inputs) (net : ℕ) (driver : End) (section : SectionElements) (before after : ℕ) → IsNet inputs net driver section → 0 < inputs.count
    → after ≤ before + (length section.joints + inputs.count * (length section.joints + length section.caps) + 12 * inputs.count * (length section.joints + 1) + inputs.count * length (net_at inputs.netlist net).sinks)
    → TakesWork inputs net before after
takes_work inputs net driver section before after is some bound = record {
  work = most_steps inputs net driver section;
  given = of_net driver section is;
  bound =
      let most = work_bound inputs.count (length section.joints) (length section.caps) (length (net_at inputs.netlist net).sinks) some in
      let all : most_steps inputs net driver section ≡ 16 * inputs.count * (length section.joints + length section.caps + (1 + length (net_at inputs.netlist net).sinks)) =
      ap (λ p. 16 * inputs.count * (length section.joints + length section.caps + p)) (pins_many inputs net driver) in
      omega (arith, bound, most, all);
}

-- no step is within any work
pub no_work : (inputs : Inputs) (net : ℕ) (driver : End) (section : SectionElements) (steps : ℕ) → IsNet inputs net driver section → TakesWork inputs net steps steps
no_work inputs net driver section steps is = record { work = most_steps inputs net driver section; given = of_net driver section is; bound = omega arith }

pub unwired_work : (inputs : Inputs) (net steps : ℕ) → IsUnwired inputs.netlist net → TakesWork inputs net steps steps
unwired_work inputs net steps unwired = record { work = 0; given = of_none unwired; bound = omega arith }

-- rows of one length stand one after another
rows_long : {X A : Type 0} (f : X → List A) (count : ℕ) → ((x : X) → length (f x) ≡ count) → (xs : List X) → length (flat_map f xs) ≡ length xs * count
rows_long f count each [] = let none : 0 * count ≡ 0 = omega arith in sym none
rows_long f count each (x ∷ xs) =
    let rest = rows_long f count each xs in
    let here = each x in
    let parts = ap length (flat_map-cons f x xs) ∙ length-append (f x) (flat_map f xs) in
    let next : suc (length xs) * count ≡ count + length xs * count = grind arith in
    omega (arith, rest, here, parts, next)

row_read : {X A : Type 0} (f : X → List A) (count : ℕ) → ((x : X) → length (f x) ≡ count) → (xs : List X) (i j : ℕ) (e : X) (d : A) → i < length xs → j < count
    → get_or (flat_map f xs) (place count i j) d ≡ get_or (f (get_or xs i e)) j d
row_read f count each xs i j e d within below =
    let front : length (flat_map f (take i xs)) ≡ i * count = rows_long f count each (take i xs) ∙ ap (λ n. n * count) (length-take-le i xs (omega (arith, within))) in
    ap (λ n. get_or (flat_map f xs) (n + j) d) (sym front) ∙ get_or-flat_map f xs i j e d within (let len = each (get_or xs i e) in omega (arith, below, len))

module _ (inputs : Inputs) (net : ℕ) (driver : End) where
  sinks_of : List End
  sinks_of = (net_at inputs.netlist net).sinks

  -- the load of a sink, as it is kept
  load_read : (corner k : ℕ) (d : End) → corner < inputs.count → k < length (net_at inputs.netlist net).sinks
      → farads_at inputs.count (net_pins inputs net driver).loads k corner ≡ (end_load inputs.netlist inputs.cells inputs.port_load corner (get_or (net_at inputs.netlist net).sinks k d)).0
  load_read corner k d below within =
      let sinks = (net_at inputs.netlist net).sinks in
      let rows = end_loads inputs.netlist inputs.cells inputs.count inputs.port_load in
      ap (λ (f : Farads). f.0) (row_read rows inputs.count (length-loads inputs.netlist inputs.cells inputs.count inputs.port_load) sinks k corner d (record { 0 = 0 }) within below
      ∙ get_or-map-range_with_len (λ c. end_load inputs.netlist inputs.cells inputs.port_load c (get_or sinks k d)) 0 inputs.count corner corner (record { 0 = 0 }) below (omega arith))

  sum_read : (corner : ℕ) (d : End) (node : ℕ → Node) (n : ℕ) → corner < inputs.count → n ≤ length (net_at inputs.netlist net).sinks
      → sum_by (λ (at : NetCapacitance Node). at.farads) (map (λ k. record { node = node k; farads = farads_at inputs.count (net_pins inputs net driver).loads k corner }) (range_with_len 0 n))
      ≡ sum_by (λ sink. (end_load inputs.netlist inputs.cells inputs.port_load corner sink).0) (take n (net_at inputs.netlist net).sinks)
  sum_read corner d node zero below few = refl
  sum_read corner d node (suc n) below few =
      let sinks = (net_at inputs.netlist net).sinks in
      let h = λ (sink : End). (end_load inputs.netlist inputs.cells inputs.port_load corner sink).0 in
      let next : suc n ≡ n + 1 = omega arith in
      let within : n < length (net_at inputs.netlist net).sinks = omega (arith, few) in
      let before = sum_read corner d node n below (omega (arith, few)) in
      let left = sum_by-map-range_with_len_more (λ (at : NetCapacitance Node). at.farads) (λ k. record { node = node k; farads = farads_at inputs.count (net_pins inputs net driver).loads k corner }) 0 n n (omega arith) in
      let right = sum_by_more h sinks n d within in
      let here = load_read corner n d below within in
      ap (λ m. sum_by (λ (at : NetCapacitance Node). at.farads) (map (λ k. record { node = node k; farads = farads_at inputs.count (net_pins inputs net driver).loads k corner }) (range_with_len 0 m))) next
      ∙ left ∙ ap₂ (λ a b. a + b) before here ∙ sym right ∙ ap (λ m. sum_by h (take m sinks)) (sym next)

  -- the load of a net without a section
  own_load : (corner : ℕ) → corner < inputs.count → net_load (elements_at inputs net driver (no_section (net_at inputs.netlist net).text) corner)
      ≡ sum_by (λ sink. (end_load inputs.netlist inputs.cells inputs.port_load corner sink).0) (net_at inputs.netlist net).sinks
  own_load corner below =
      let sinks = (net_at inputs.netlist net).sinks in
      let pins = net_pins inputs net driver in
      let section = no_section (net_at inputs.netlist net).text in
      let h = λ (sink : End). (end_load inputs.netlist inputs.cells inputs.port_load corner sink).0 in
      let many = sinks_many inputs net driver in
      sum_read corner driver (λ k. on_net section pins (sink_node pins k)) (length pins.sinks) below (omega (arith, many))
      ∙ ap (sum_by h) (take_all (length pins.sinks) sinks (omega (arith, many)))

  -- nothing is delayed where nothing resists
  no_delay : (corner : ℕ) (node : Node) (value : ℕ) → value ≡ 0 → IsElmore (elements_at inputs net driver (no_section (net_at inputs.netlist net).text) corner) node value
  no_delay corner node value is = record {
    cuts = λ place node. false;
    tells = λ place node below. absurd (omega (arith, below));
    sum =
        let elements = elements_at inputs net driver (no_section (net_at inputs.netlist net).text) corner in
        let most = sum_by-le (λ (at : NetCapacitance Node). 0 * at.farads) 0 elements.capacitances (λ k d below. omega arith) in
        let none : length elements.capacitances * 0 ≡ 0 = omega arith in
        let sum : sum_by (λ (at : NetCapacitance Node). 0 * at.farads) elements.capacitances ≡ 0 = omega (arith, most, none) in
        is ∙ sym sum;
  }

  module _ (wired : IsWired inputs.netlist net driver) (absent : ¬ Contains (net_names inputs.sections) (net_at inputs.netlist net).text) where
    pub unwritten_net : IsNet inputs net driver (no_section (net_at inputs.netlist net).text)
    unwritten_net = record { wired = wired; written = is_missing absent }

    -- such a net has a tree, unless it has too many pins
    unwritten_tree : length (net_at inputs.netlist net).sinks < most_elements → IsTreeNet inputs net driver (no_section (net_at inputs.netlist net).text)
    unwritten_tree few = record {
      fit = (
        All-nil (IsListed (no_section (net_at inputs.netlist net).text) (pin_nodes (net_pins inputs net driver))),
        λ large. elim large [
          | inl joints ↦ omega (arith, joints)
          | inr pins ↦ (let many = pins_many inputs net driver in omega (arith, pins, many, few))
        ],
      );
      tree = λ corner below. (
        All-cons (Reached (elements_at inputs net driver (no_section (net_at inputs.netlist net).text) corner)) (node_of (end_name inputs.netlist inputs.cells driver)) [] ([], refl)
            (All-nil (Reached (elements_at inputs net driver (no_section (net_at inputs.netlist net).text) corner))),
        λ place within. absurd (omega (arith, within)),
      );
    }

    pub unwritten_large : most_elements ≤ length (net_at inputs.netlist net).sinks → IsRefused inputs net tree.TooLarge
    unwritten_large many = record {
      driver = driver;
      section = no_section (net_at inputs.netlist net).text;
      is = unwritten_net;
      refused = (
        All-nil (IsListed (no_section (net_at inputs.netlist net).text) (pin_nodes (net_pins inputs net driver))),
        inr (let pins = pins_many inputs net driver in omega (arith, pins, many)),
      );
      cause = λ same. cc;
    }

    pub unwritten_times : (before times : NetTimes) → length (net_at inputs.netlist net).sinks < most_elements → AreZero inputs before net
        → times.starts ≡ before.starts → times.elmores ≡ before.elmores → ((corner : ℕ) → corner < inputs.count → HasOwnLoad inputs inputs.count times net corner) → HasTimes inputs times net
    unwritten_times before times few none starts elmores own = are_times driver (no_section (net_at inputs.netlist net).text) unwritten_net (unwritten_tree few) (record {
      load = λ corner below. own corner below ∙ sym (own_load corner below);
      elmore = λ corner sink below within. no_delay corner (sink_at inputs net driver (no_section (net_at inputs.netlist net).text) sink) (elmore_at inputs.count times net sink corner)
          (same_elmore inputs.count times before net sink corner starts elmores ∙ none.elmore corner sink below within);
    })
