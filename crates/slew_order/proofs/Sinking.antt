-- An input pin of a cell on a net is one of the sinks of the net.
use Rattle.std.proofs.Common.{◌≡◌, ℕ, zero, suc, ◌+◌, ◌<◌, ◌∙◌, ap, sym, refl, subst, Bool, true, false, ◌==◌, if◌then◌else◌, List, [], ◌∷◌, ◌++◌, length, map, filter, get_or, slice_get, take, Option, Some, None, arith}
use Rattle.std.proofs.lemmas.Bool.{true≢false, false≢true}
use Rattle.std.specs.Prelude.{All}
use Rattle.std.proofs.lemmas.List.{take_more, map-append}
use Rattle.std.proofs.lemmas.List.Elements.{All-nil, All-cons, All-append}
use Rattle.std.proofs.lemmas.Option.{slice_get-get_or, none-some, same_Some}
use Rattle.cell_models.specs.NamedSets.{NamedCells}
use Rattle.cell_models.specs.Cells.{HasDirection}
use Rattle.cell_models.specs.declared.cell.Direction.TheVariants.{Input}
use Rattle.cell_models.specs.declared.cell.Pin.{Pin}
use Rattle.netlist_link.specs.FlatNetlist.{FlatNetlist, FlatInstance, EndOn, no_net, no_instance, instance_at, net_at, is_input_pin, end_at, pin_ends, instance_ends, port_ends, ends_on}
use Rattle.netlist_link.specs.FlatPins.{pins_of}
use Rattle.netlist_link.specs.Linked.{IsLinked}
use Rattle.netlist_link.specs.declared.ends.End.{End}
use Rattle.netlist_link.specs.declared.ends.End.TheVariants as end
use Rattle.slew_order.specs.declared.arcs.ArcAt.{ArcAt}
use Rattle.slew_order.specs.FlatArcs.{net_on, cell_arc}
use Rattle.slew_order.specs.Sinks.{is_pin, pin_place, sink_on, related_sink, IsSunk}
use Rattle.slew_order.proofs.Placing.{on_within}
use Rattle.slew_order.proofs.Links.{net_in}

-- the pin is one of the sinks
abbrev pub Has : ℕ → ℕ → List End → Type 0
Has i pin sinks = pin_place i pin sinks < length sinks

step_has : (b : Bool) (p n : ℕ) → (b ≡ false → p < n) → (if b then 0 else suc p) < suc n
step_has true p n below = omega arith
step_has false p n below = omega (arith, below refl)

tail_has : (b : Bool) (p n : ℕ) → (if b then 0 else suc p) < suc n → b ≡ false → p < n
tail_has true p n below off = absurd (true≢false off)
tail_has false p n below off = omega (arith, below)

has_left : (i pin : ℕ) (xs ys : List End) → Has i pin xs → Has i pin (xs ++ ys)
has_left i pin [] ys has = absurd (omega (arith, has))
has_left i pin (x ∷ xs) ys has = step_has (is_pin i pin x) (pin_place i pin (xs ++ ys)) (length (xs ++ ys))
    (λ off. has_left i pin xs ys (tail_has (is_pin i pin x) (pin_place i pin xs) (length xs) has off))

has_right : (i pin : ℕ) (xs ys : List End) → Has i pin ys → Has i pin (xs ++ ys)
has_right i pin [] ys has = has
has_right i pin (x ∷ xs) ys has = step_has (is_pin i pin x) (pin_place i pin (xs ++ ys)) (length (xs ++ ys)) (λ off. has_right i pin xs ys has)

self_pin : (i pin : ℕ) → is_pin i pin (end.Pin i pin) ≡ true
self_pin i pin = grind arith

has_self : (i pin : ℕ) (xs : List End) → Has i pin (end.Pin i pin ∷ xs)
has_self i pin xs = step_has (is_pin i pin (end.Pin i pin)) (pin_place i pin xs) (length xs) (λ off. absurd (true≢false (sym (self_pin i pin) ∙ off)))

ends_join : (n : ℕ) (xs ys : List EndOn) → ends_on n (xs ++ ys) ≡ ends_on n xs ++ ends_on n ys
ends_join n [] ys = refl
ends_join n (x ∷ xs) ys = by (x.net == n) (ends_join n xs ys)
  where
    by : (b : Bool) → ends_on n (xs ++ ys) ≡ ends_on n xs ++ ends_on n ys
        → map (λ (e : EndOn). e.at) (if b then x ∷ filter (λ (e : EndOn). e.net == n) (xs ++ ys) else filter (λ (e : EndOn). e.net == n) (xs ++ ys))
        ≡ map (λ (e : EndOn). e.at) (if b then x ∷ filter (λ (e : EndOn). e.net == n) xs else filter (λ (e : EndOn). e.net == n) xs) ++ ends_on n ys
    by true rest = ap (λ list. x.at ∷ list) rest
    by false rest = rest

on_itself : (i pin n : ℕ) → ends_on n (end_at i pin (Some n)) ≡ end.Pin i pin ∷ []
on_itself i pin n = by (n == n) (grind arith)
  where
    by : (b : Bool) → b ≡ true → map (λ (e : EndOn). e.at) (if b then record { net = n; at = end.Pin i pin } ∷ [] else []) ≡ end.Pin i pin ∷ []
    by true is = refl
    by false is = absurd (false≢true is)

module _ (n : ℕ) where
  pass_pin : (i pin : ℕ) (b : Bool) (head rest : List EndOn) → Has i pin (ends_on n rest) → Has i pin (ends_on n (if b then head ++ rest else rest))
  pass_pin i pin true head rest has = subst (Has i pin) (sym (ends_join n head rest)) (has_right i pin (ends_on n head) (ends_on n rest) has)
  pass_pin i pin false head rest has = has

  this_pin : (i pin : ℕ) (b : Bool) (rest : List EndOn) → b ≡ true → Has i pin (ends_on n (if b then end_at i pin (Some n) ++ rest else rest))
  this_pin i pin true rest is = subst (Has i pin) (sym (ends_join n (end_at i pin (Some n)) rest ∙ ap (λ list. list ++ ends_on n rest) (on_itself i pin n)))
      (has_self i pin (ends_on n rest))
  this_pin i pin false rest is = absurd (false≢true is)

  sunk_pin : (i from : ℕ) (pins : List Pin) (nets : List (Option ℕ)) (k : ℕ) (pin : Pin) → slice_get pins k ≡ Some pin → pin.direction ≡ Input
      → slice_get nets k ≡ Some (Some n) → Has i (from + k) (ends_on n (pin_ends is_input_pin i from pins nets))
  sunk_pin i from [] nets k pin here input on = absurd (none-some pin here)
  sunk_pin i from (first ∷ pins) [] k pin here input on = absurd (none-some (Some n) on)
  sunk_pin i from (first ∷ pins) (net ∷ nets) zero pin here input on =
      let is_first : first ≡ pin = same_Some first pin here in
      let is_net : net ≡ Some n = same_Some net (Some n) on in
      let taken : is_input_pin first.direction ≡ true = ap is_input_pin (ap (λ p. p.direction) is_first ∙ input) in
      let at : from ≡ from + zero = omega arith in
      subst (λ f. Has i f (ends_on n (pin_ends is_input_pin i from (first ∷ pins) (net ∷ nets)))) at
      (subst (λ m. Has i from (ends_on n (pin_ends is_input_pin i from (first ∷ pins) (m ∷ nets)))) (sym is_net)
      (this_pin i from (is_input_pin first.direction) (pin_ends is_input_pin i (suc from) pins nets) taken))
  sunk_pin i from (first ∷ pins) (net ∷ nets) (suc k) pin here input on =
      let at : suc from + k ≡ from + suc k = omega arith in
      subst (λ f. Has i f (ends_on n (pin_ends is_input_pin i from (first ∷ pins) (net ∷ nets)))) at
      (pass_pin i (suc from + k) (is_input_pin first.direction) (end_at i from net) (pin_ends is_input_pin i (suc from) pins nets)
      (sunk_pin i (suc from) pins nets k pin here input on))

  sunk_instance : (cells : List NamedCells) (from : ℕ) (instances : List FlatInstance) (i k : ℕ) (instance : FlatInstance) (pin : Pin)
      → slice_get instances i ≡ Some instance → slice_get (pins_of cells instance.cell) k ≡ Some pin → pin.direction ≡ Input
      → slice_get instance.nets k ≡ Some (Some n) → Has (from + i) k (ends_on n (instance_ends cells is_input_pin from instances))
  sunk_instance cells from [] i k instance pin there here input on = absurd (none-some instance there)
  sunk_instance cells from (first ∷ instances) zero k instance pin there here input on =
      let same : first ≡ instance = same_Some first instance there in
      let at : from ≡ from + zero = omega arith in
      let one = pin_ends is_input_pin from 0 (pins_of cells first.cell) first.nets in
      let rest = instance_ends cells is_input_pin (suc from) instances in
      let zeroth : 0 + k ≡ k = omega arith in
      let has : Has from k (ends_on n one) = subst (λ j. Has from j (ends_on n one)) zeroth
      (sunk_pin from 0 (pins_of cells first.cell) first.nets k pin (ap (λ x. slice_get (pins_of cells x.cell) k) same ∙ here) input (ap (λ x. slice_get x.nets k) same ∙ on)) in
      subst (λ f. Has f k (ends_on n (instance_ends cells is_input_pin from (first ∷ instances)))) at
      (subst (Has from k) (sym (ends_join n one rest)) (has_left from k (ends_on n one) (ends_on n rest) has))
  sunk_instance cells from (first ∷ instances) (suc i) k instance pin there here input on =
      let at : suc from + i ≡ from + suc i = omega arith in
      let one = pin_ends is_input_pin from 0 (pins_of cells first.cell) first.nets in
      let rest = instance_ends cells is_input_pin (suc from) instances in
      subst (λ f. Has f k (ends_on n (instance_ends cells is_input_pin from (first ∷ instances)))) at
      (subst (Has (suc from + i) k) (sym (ends_join n one rest)) (has_right (suc from + i) k (ends_on n one) (ends_on n rest)
      (sunk_instance cells (suc from) instances i k instance pin there here input on)))

-- an input pin on a net is one of its sinks
pub pin_sunk : (cells : List NamedCells) (netlist : FlatNetlist) → IsLinked cells netlist → (i pin net : ℕ) → net_on netlist i pin ≡ Some net
    → HasDirection (pins_of cells (instance_at netlist i).cell) pin Input → pin_place i pin (net_at netlist net).sinks < length (net_at netlist net).sinks
pin_sunk cells netlist linked i pin net on input =
    let within = on_within netlist i pin net on in
    let there = slice_get-get_or netlist.instances i no_instance within.0 in
    let has = slice_get-get_or (instance_at netlist i).nets pin None within.1 ∙ ap Some on in
    let at : 0 + i ≡ i = omega arith in
    let sunk : Has i pin (ends_on net (instance_ends cells is_input_pin 0 netlist.instances)) =
    subst (λ k. Has k pin (ends_on net (instance_ends cells is_input_pin 0 netlist.instances))) at
    (sunk_instance net cells 0 netlist.instances i pin (instance_at netlist i) input.pin there input.here input.directed has) in
    let joined = linked.joined net (net_at netlist net) (slice_get-get_or netlist.nets net no_net (net_in cells netlist linked i pin net on)) in
    subst (Has i pin) (sym (joined.sinks ∙ ends_join net (instance_ends cells is_input_pin 0 netlist.instances) (port_ends false 0 netlist.ports)))
    (has_left i pin (ends_on net (instance_ends cells is_input_pin 0 netlist.instances)) (ends_on net (port_ends false 0 netlist.ports)) sunk)

-- so is the related pin of an arc
pub arc_sunk : (cells : List NamedCells) (netlist : FlatNetlist) (at : ArcAt) → IsLinked cells netlist
    → HasDirection (pins_of cells (instance_at netlist at.instance).cell) (cell_arc netlist cells at 0).from Input → IsSunk netlist cells at
arc_sunk cells netlist at linked input net on =
    let is : related_sink netlist cells at ≡ pin_place at.instance (cell_arc netlist cells at 0).from (net_at netlist net).sinks =
    ap (sink_on netlist at.instance (cell_arc netlist cells at 0).from) on in
    omega (arith, is, pin_sunk cells netlist linked at.instance (cell_arc netlist cells at 0).from net on input)

pub sunk_more : (cells : List NamedCells) (netlist : FlatNetlist) (arcs : List ArcAt) (many : ℕ) (d : ArcAt) → many < length arcs → All (IsSunk netlist cells) (take many arcs)
    → IsSunk netlist cells (get_or arcs many d) → All (IsSunk netlist cells) (take (many + 1) arcs)
sunk_more cells netlist arcs many d within held next =
    subst (All (IsSunk netlist cells)) (sym (take_more arcs many d within))
    (All-append (IsSunk netlist cells) (take many arcs) (get_or arcs many d ∷ []) held (All-cons (IsSunk netlist cells) (get_or arcs many d) [] next (All-nil (IsSunk netlist cells))))

pub sinks_more : (cells : List NamedCells) (netlist : FlatNetlist) (arcs : List ArcAt) (many : ℕ) (d : ArcAt) (sinks after : List ℕ) (sink : ℕ) → many < length arcs
    → sinks ≡ map (related_sink netlist cells) (take many arcs) → sink ≡ related_sink netlist cells (get_or arcs many d) → after ≡ sinks ++ sink ∷ []
    → after ≡ map (related_sink netlist cells) (take (many + 1) arcs)
sinks_more cells netlist arcs many d sinks after sink within held is pushed =
    pushed ∙ ap (λ list. list ++ sink ∷ []) held ∙ ap (λ x. map (related_sink netlist cells) (take many arcs) ++ x ∷ []) is
    ∙ sym (ap (map (related_sink netlist cells)) (take_more arcs many d within) ∙ map-append (related_sink netlist cells) (take many arcs) (get_or arcs many d ∷ []))
