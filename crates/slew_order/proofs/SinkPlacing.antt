-- Which sink of its net a pin is, by the table of places.
use Rattle.std.proofs.Common.{◌≡◌, ℕ, zero, suc, ◌+◌, ◌<◌, ◌≤◌, ◌∙◌, true, false, if◌then◌else◌, ap, sym, List, [], ◌∷◌, length, get_or, Some, None, inl, inr, arith}
use Rattle.std.proofs.lemmas.Bool.{cases_lt, cases_Bool, true≢false, lt-ltb, le-ltb}
use Rattle.netlist_link.specs.FlatNetlist.{FlatNetlist, instance_at, net_at}
use Rattle.netlist_link.specs.declared.ends.End.{End}
use Rattle.netlist_link.specs.declared.ends.End.TheVariants as end
use Rattle.slew_order.specs.FlatArcs.{net_on}
use Rattle.net_delays.specs.NetTimes.{start_in}
use Rattle.slew_order.specs.PinSlews.{sink_of}
use Rattle.slew_order.specs.Sinks.{ArePinStarts, is_pin, pin_place}
use Rattle.slew_order.specs.SinkPlaces.{ArePlaces}
use Rattle.net_delays.proofs.Starts.{row_below}

-- a pin that is met at a place has its first place there or before
pub place_from : (instance pin : ℕ) (sinks : List End) (sink : ℕ) → sink < length sinks → is_pin instance pin (get_or sinks sink (end.Port 0)) ≡ true → pin_place instance pin sinks ≤ sink
place_from instance pin [] sink within is = absurd (omega (arith, within))
place_from instance pin (first ∷ sinks) zero within is =
    let here : pin_place instance pin (first ∷ sinks) ≡ 0 = ap (λ b. if b then 0 else suc (pin_place instance pin sinks)) is in
    omega (arith, here)
place_from instance pin (first ∷ sinks) (suc sink) within is = elim (cases_Bool (is_pin instance pin first)) [
  | inl here_is ↦
      let here : pin_place instance pin (first ∷ sinks) ≡ 0 = ap (λ b. if b then 0 else suc (pin_place instance pin sinks)) here_is in
      omega (arith, here)
  | inr apart ↦
      let here : pin_place instance pin (first ∷ sinks) ≡ suc (pin_place instance pin sinks) = ap (λ b. if b then 0 else suc (pin_place instance pin sinks)) apart in
      let rest = place_from instance pin sinks sink (omega (arith, within)) is in
      omega (arith, here, rest)
]

-- and it is at its first place
pub place_at : (instance pin : ℕ) (sinks : List End) → pin_place instance pin sinks < length sinks → is_pin instance pin (get_or sinks (pin_place instance pin sinks) (end.Port 0)) ≡ true
place_at instance pin [] within = absurd (omega (arith, within))
place_at instance pin (first ∷ sinks) within = elim (cases_Bool (is_pin instance pin first)) [
  | inl here_is ↦
      let here : pin_place instance pin (first ∷ sinks) ≡ 0 = ap (λ b. if b then 0 else suc (pin_place instance pin sinks)) here_is in
      ap (λ k. is_pin instance pin (get_or (first ∷ sinks) k (end.Port 0))) here ∙ here_is
  | inr apart ↦
      let here : pin_place instance pin (first ∷ sinks) ≡ suc (pin_place instance pin sinks) = ap (λ b. if b then 0 else suc (pin_place instance pin sinks)) apart in
      ap (λ k. is_pin instance pin (get_or (first ∷ sinks) k (end.Port 0))) here ∙ place_at instance pin sinks (omega (arith, here, within))
]

-- a pin has a place of its own in the table
pub place_within : (netlist : FlatNetlist) (starts places : List ℕ) → ArePinStarts netlist starts → ArePlaces netlist starts places → (instance pin : ℕ) → instance < length netlist.instances
    → pin < length (instance_at netlist instance).nets → start_in starts instance + pin < length places
place_within netlist starts places are kept instance pin within has =
    let below = row_below _ _ starts are instance pin within has in
    let len = kept.len in
    omega (arith, below, len)

-- the table has the place of a pin that is a sink
pub kept_place : (netlist : FlatNetlist) (starts places : List ℕ) → ArePlaces netlist starts places → (instance pin net sink : ℕ) → net < length netlist.nets
    → net_on netlist instance pin ≡ Some net → sink ≡ start_in places (start_in starts instance + pin)
    → pin_place instance pin (net_at netlist net).sinks < length (net_at netlist net).sinks → sink ≡ pin_place instance pin (net_at netlist net).sinks
kept_place netlist starts places are instance pin net sink within on kept some = let is = are.all instance pin net within on some in omega (arith, is, kept)

module _ (netlist : FlatNetlist) (instance pin net sink : ℕ)
    (kept : pin_place instance pin (net_at netlist net).sinks < length (net_at netlist net).sinks → sink ≡ pin_place instance pin (net_at netlist net).sinks) where
  pub sink_found : sink < length (net_at netlist net).sinks
      → is_pin instance pin (get_or (net_at netlist net).sinks sink (end.Port 0)) ≡ true → Some sink ≡ sink_of netlist instance pin net
  sink_found below is =
      let from = place_from instance pin (net_at netlist net).sinks sink below is in
      let some : pin_place instance pin (net_at netlist net).sinks < length (net_at netlist net).sinks = omega (arith, from, below) in
      ap Some (kept some)
      ∙ sym (ap (λ b. if b then Some (pin_place instance pin (net_at netlist net).sinks) else None) (lt-ltb (pin_place instance pin (net_at netlist net).sinks) (length (net_at netlist net).sinks) some))

  none_of : (pin_place instance pin (net_at netlist net).sinks < length (net_at netlist net).sinks → ⊥) → None ≡ sink_of netlist instance pin net
  none_of none = elim (cases_lt (pin_place instance pin (net_at netlist net).sinks) (length (net_at netlist net).sinks)) [
    | inl some ↦ absurd (none some)
    | inr past ↦ sym (ap (λ b. if b then Some (pin_place instance pin (net_at netlist net).sinks) else None) (le-ltb (pin_place instance pin (net_at netlist net).sinks) (length (net_at netlist net).sinks) past))
  ]

  pub sink_past : length (net_at netlist net).sinks ≤ sink → None ≡ sink_of netlist instance pin net
  sink_past past = none_of (λ some. let is = kept some in omega (arith, some, is, past))

  pub sink_other : is_pin instance pin (get_or (net_at netlist net).sinks sink (end.Port 0)) ≡ false → None ≡ sink_of netlist instance pin net
  sink_other not = none_of (λ some.
      true≢false (sym (place_at instance pin (net_at netlist net).sinks some) ∙ ap (λ k. is_pin instance pin (get_or (net_at netlist net).sinks k (end.Port 0))) (sym (kept some)) ∙ not))
