-- The table of which sink of its net each pin is, by one sink more.
use Rattle.std.proofs.Common.{◌≡◌, ◌≢◌, ℕ, suc, ◌+◌, ◌<◌, ◌∙◌, ap, sym, refl, subst, true, false, if◌then◌else◌, List, [], ◌∷◌, length, length-set, drop, get_or, set, get_or-set_same, get_or-set_other, replicate, Some, None, inl, inr, ◌⊎◌, arith}
use Rattle.std.proofs.lemmas.Option.{none-some, same_Some}
use Rattle.std.proofs.lemmas.Bool.{cases_lt, cases_eq}
use Rattle.std.proofs.Math.Seq.{drop-cons}
use Rattle.std.proofs.lemmas.List.{get_or_past, length-replicate}
use Rattle.netlist_link.specs.FlatNetlist.{FlatNetlist, FlatNet, no_instance, no_net, instance_at, net_at}
use Rattle.netlist_link.specs.declared.ends.End.{End}
use Rattle.netlist_link.specs.declared.ends.End.TheVariants as end
use Rattle.net_delays.specs.NetTimes.{start_in}
use Rattle.slew_order.specs.FlatArcs.{net_on}
use Rattle.slew_order.specs.Sinks.{is_pin, pin_place, ArePinStarts}
use Rattle.slew_order.specs.SinkPlaces.{IsPlaced, HasNoOther, ArePlacedTo, ArePlaces}
use Rattle.slew_order.proofs.SinkPlacing.{place_from}
use Rattle.net_delays.proofs.Starts.{one_row, row_below, replicated}

-- a pin on a net is one of an instance
pub on_within : (netlist : FlatNetlist) (i pin net : ℕ) → net_on netlist i pin ≡ Some net
    → (i < length netlist.instances) × (pin < length (instance_at netlist i).nets)
on_within netlist i pin net on = elim (cases_lt i (length netlist.instances)) [
  | inl within ↦ elim (cases_lt pin (length (instance_at netlist i).nets)) [
    | inl has ↦ (within, has)
    | inr past ↦ absurd (none-some net (sym (get_or_past (instance_at netlist i).nets pin None past) ∙ on))
  ]
  | inr past ↦ absurd (
      let none : instance_at netlist i ≡ no_instance = get_or_past netlist.instances i no_instance past in
      let empty : net_on netlist i pin ≡ None = ap (λ instance. get_or instance.nets pin None) none in
      none-some net (sym empty ∙ on))
]

-- another sink than the pin
pub other_sink : (instance pin : ℕ) (sink : End) (sinks : List End) (from place : ℕ) → is_pin instance pin sink ≡ false
    → (pin_place instance pin sinks < length sinks → place ≡ from + 1 + pin_place instance pin sinks)
    → pin_place instance pin (sink ∷ sinks) < length (sink ∷ sinks) → place ≡ from + pin_place instance pin (sink ∷ sinks)
other_sink instance pin sink sinks from place other held within =
    let is : pin_place instance pin (sink ∷ sinks) ≡ suc (pin_place instance pin sinks) = ap (λ b. if b then 0 else suc (pin_place instance pin sinks)) other in
    let below : pin_place instance pin sinks < length sinks = omega (arith, within, is) in
    omega (arith, held below, is)

-- the pin itself
pub this_sink : (instance pin : ℕ) (sinks : List End) (from : ℕ) → from ≡ from + pin_place instance pin (end.Pin instance pin ∷ sinks)
this_sink instance pin sinks from = grind arith

pub not_port : (instance pin port : ℕ) → is_pin instance pin (end.Port port) ≡ false
not_port instance pin port = refl

pub not_pin : (instance pin this at : ℕ) → ((this ≡ instance) × (at ≡ pin) → ⊥) → is_pin instance pin (end.Pin this at) ≡ false
not_pin instance pin this at apart = grind arith

-- a net with a sink is one of the netlist
net_within : (netlist : FlatNetlist) (net sink : ℕ) → sink < length (net_at netlist net).sinks → net < length netlist.nets
net_within netlist net sink within = elim (cases_lt net (length netlist.nets)) [
  | inl below ↦ below
  | inr past ↦
      let none : length (net_at netlist net).sinks ≡ 0 = ap (λ (n : FlatNet). length n.sinks) (get_or_past netlist.nets net no_net past) in
      absurd (omega (arith, within, none))
]

-- a pin that is at a place of sinks is one of them
own_pin : (instance pin : ℕ) → is_pin instance pin (end.Pin instance pin) ≡ true
own_pin instance pin = grind arith

is_sink : (instance pin : ℕ) (sinks : List End) (sink : ℕ) → sink < length sinks → get_or sinks sink (end.Port 0) ≡ end.Pin instance pin
    → pin_place instance pin sinks < length sinks
is_sink instance pin sinks sink within at =
    let from = place_from instance pin sinks sink within (ap (is_pin instance pin) at ∙ own_pin instance pin) in
    omega (arith, from, within)

module _ (netlist : FlatNetlist) (starts : List ℕ) (are : ArePinStarts netlist starts) where
  -- a pin on a net has a place of its own in the table
  pub pin_below : (i pin net : ℕ) → net_on netlist i pin ≡ Some net → start_in starts i + pin < start_in starts (length netlist.instances)
  pin_below i pin net on =
      let within = on_within netlist i pin net on in
      row_below _ _ starts are i pin within.0 within.1

  pub place_below : (places : List ℕ) → ArePlaces netlist starts places → (i pin net : ℕ) → net_on netlist i pin ≡ Some net → start_in starts i + pin < length places
  place_below places kept i pin net on =
      let below = pin_below i pin net on in
      let len = kept.len in
      omega (arith, below, len)

  own_place : (i pin net i' pin' net' : ℕ) → net_on netlist i pin ≡ Some net → net_on netlist i' pin' ≡ Some net'
      → start_in starts i' + pin' ≡ start_in starts i + pin → (i' ≡ i) × (pin' ≡ pin)
  own_place i pin net i' pin' net' on on' same =
      let within = on_within netlist i pin net on in
      let within' = on_within netlist i' pin' net' on' in
      one_row _ _ starts are i pin i' pin' within.0 within'.0 within.1 within'.1 same

  same_or_apart : (i pin i' pin' : ℕ) → ((i' ≡ i) × (pin' ≡ pin)) ⊎ ((i' ≡ i) × (pin' ≡ pin) → ⊥)
  same_or_apart i pin i' pin' = elim (cases_eq i' i) [
    | inl one ↦ elim (cases_eq pin' pin) [
      | inl other ↦ inl (one, other)
      | inr apart ↦ inr (λ both. apart both.1)
    ]
    | inr apart ↦ inr (λ both. apart both.0)
  ]

  -- a sink that is a pin on its net is placed
  pub placed_more : (net sink i pin : ℕ) (places : List ℕ) → sink < length (net_at netlist net).sinks
      → get_or (net_at netlist net).sinks sink (end.Port 0) ≡ end.Pin i pin → net_on netlist i pin ≡ Some net
      → ArePlacedTo netlist starts net (sink + 1) places → ArePlacedTo netlist starts net sink (set places (start_in starts i + pin) sink)
  placed_more net sink i pin places within at on held =
      let row = start_in starts i + pin in
      let sinks = (net_at netlist net).sinks in
      let next : suc sink ≡ sink + 1 = omega arith in
      let dropped : drop sink sinks ≡ end.Pin i pin ∷ drop (sink + 1) sinks =
      drop-cons sinks sink (end.Port 0) within ∙ ap (λ e. e ∷ drop (suc sink) sinks) at ∙ ap (λ k. end.Pin i pin ∷ drop k sinks) next in
      record {
        len = length-set places row sink ∙ held.len;
        before = λ i' pin' other below on' has.
            let apart : start_in starts i' + pin' ≢ row = λ same.
            (let one = own_place i pin net i' pin' other on on' same in
            let nets : net_on netlist i' pin' ≡ net_on netlist i pin = ap (λ k. net_on netlist k pin') one.0 ∙ ap (λ k. net_on netlist i k) one.1 in
            let both : other ≡ net = same_Some other net (sym on' ∙ nets ∙ on) in
            absurd (omega (arith, below, both))) in
            get_or-set_other places row (start_in starts i' + pin') sink 0 apart ∙ held.before i' pin' other below on' has;
        here = λ i' pin' on'. elim (same_or_apart i pin i' pin') [
          | inl same ↦
              let at_row : start_in starts i' + pin' ≡ row = ap (λ k. start_in starts k + pin') same.0 ∙ ap (λ k. start_in starts i + k) same.1 in
              let value : start_in (set places row sink) (start_in starts i' + pin') ≡ sink =
              ap (start_in (set places row sink)) at_row ∙ get_or-set_same places row sink 0 (omega (arith, held.len, pin_below i pin net on)) in
              let place : pin_place i' pin' (drop sink sinks) ≡ 0 =
              ap (pin_place i' pin') dropped ∙ ap (λ k. pin_place k pin' (end.Pin i pin ∷ drop (sink + 1) sinks)) same.0
              ∙ ap (λ k. pin_place i k (end.Pin i pin ∷ drop (sink + 1) sinks)) same.1
              ∙ (let self = this_sink i pin (drop (sink + 1) sinks) sink in omega (arith, self)) in
              λ has. omega (arith, value, place)
          | inr apart ↦
              let other : start_in starts i' + pin' ≢ row = λ same. apart (own_place i pin net i' pin' net on on' same) in
              let value : start_in (set places row sink) (start_in starts i' + pin') ≡ start_in places (start_in starts i' + pin') =
              get_or-set_other places row (start_in starts i' + pin') sink 0 other in
              subst (λ list. pin_place i' pin' list < length list → start_in (set places row sink) (start_in starts i' + pin') ≡ sink + pin_place i' pin' list) (sym dropped)
              (other_sink i' pin' (end.Pin i pin) (drop (sink + 1) sinks) sink (start_in (set places row sink) (start_in starts i' + pin'))
              (not_pin i' pin' i pin (λ both. apart (sym both.0, sym both.1)))
              (λ has. value ∙ held.here i' pin' on' has))
        ];
        others = λ row' none. elim (cases_eq row' row) [
          | inl same ↦
              absurd (none (record {
                instance = i;
                pin = pin;
                net = net;
                within = net_within netlist net sink within;
                on = on;
                sink = is_sink i pin sinks sink within at;
                row_is = same;
              }))
          | inr apart ↦ get_or-set_other places row row' sink 0 apart ∙ held.others row' none
        ];
      }

  -- another sink is passed
  pub placed_skip : (net sink : ℕ) (e : End) (places : List ℕ) → sink < length (net_at netlist net).sinks
      → get_or (net_at netlist net).sinks sink (end.Port 0) ≡ e → ((i pin : ℕ) → net_on netlist i pin ≡ Some net → is_pin i pin e ≡ false)
      → ArePlacedTo netlist starts net (sink + 1) places → ArePlacedTo netlist starts net sink places
  placed_skip net sink e places within at other held =
      let sinks = (net_at netlist net).sinks in
      let next : suc sink ≡ sink + 1 = omega arith in
      let dropped : drop sink sinks ≡ e ∷ drop (sink + 1) sinks =
      drop-cons sinks sink (end.Port 0) within ∙ ap (λ x. x ∷ drop (suc sink) sinks) at ∙ ap (λ k. e ∷ drop k sinks) next in
      record {
        len = held.len;
        before = held.before;
        here = λ i' pin' on'.
            subst (λ list. pin_place i' pin' list < length list → start_in places (start_in starts i' + pin') ≡ sink + pin_place i' pin' list) (sym dropped)
            (other_sink i' pin' e (drop (sink + 1) sinks) sink (start_in places (start_in starts i' + pin')) (other i' pin' on') (held.here i' pin' on'));
        others = held.others;
      }

  pub skip_port : (net sink port : ℕ) (places : List ℕ) → sink < length (net_at netlist net).sinks
      → get_or (net_at netlist net).sinks sink (end.Port 0) ≡ end.Port port
      → ArePlacedTo netlist starts net (sink + 1) places → ArePlacedTo netlist starts net sink places
  skip_port net sink port places within at held = placed_skip net sink (end.Port port) places within at (λ i pin on. refl) held

  pub skip_pin : (net sink i pin : ℕ) (places : List ℕ) → sink < length (net_at netlist net).sinks
      → get_or (net_at netlist net).sinks sink (end.Port 0) ≡ end.Pin i pin → (net_on netlist i pin ≡ Some net → ⊥)
      → ArePlacedTo netlist starts net (sink + 1) places → ArePlacedTo netlist starts net sink places
  skip_pin net sink i pin places within at off held =
      placed_skip net sink (end.Pin i pin) places within at
      (λ i' pin' on'. not_pin i' pin' i pin (λ both. off (ap (λ k. net_on netlist k pin) both.0 ∙ ap (λ k. net_on netlist i' k) both.1 ∙ on'))) held

-- the nets before this one are placed
pub record AreBefore (netlist : FlatNetlist) (starts : List ℕ) (net : ℕ) (places : List ℕ) : Type 0 where
  pub len : length places ≡ start_in starts (length netlist.instances)
  pub before : (instance pin other : ℕ) → other < net → net_on netlist instance pin ≡ Some other → IsPlaced netlist starts places instance pin other 0
  pub others : HasNoOther netlist starts places

pub none_before : (netlist : FlatNetlist) (starts places : List ℕ) (pins : ℕ) → pins ≡ start_in starts (length netlist.instances) → places ≡ replicate pins 0 → AreBefore netlist starts 0 places
none_before netlist starts places pins all filled = record {
  len = ap length filled ∙ length-replicate {A = ℕ} pins 0 ∙ all;
  before = λ instance pin other below on has. absurd (omega (arith, below));
  others = λ row none. ap (λ list. start_in list row) filled ∙ replicated pins row 0;
}

no_places : (instance pin : ℕ) (sinks : List End) → pin_place instance pin (drop (length sinks) sinks) < length (drop (length sinks) sinks) → ⊥
no_places instance pin [] has = absurd (omega (arith, has))
no_places instance pin (sink ∷ sinks) has = no_places instance pin sinks has

pub begin_net : (netlist : FlatNetlist) (starts places : List ℕ) (net : ℕ) → AreBefore netlist starts net places
    → ArePlacedTo netlist starts net (length (net_at netlist net).sinks) places
begin_net netlist starts places net held = record {
  len = held.len;
  before = held.before;
  here = λ instance pin on has. absurd (no_places instance pin (net_at netlist net).sinks has);
  others = held.others;
}

pub end_net : (netlist : FlatNetlist) (starts places : List ℕ) (net : ℕ) → ArePlacedTo netlist starts net 0 places → AreBefore netlist starts (net + 1) places
end_net netlist starts places net held = record {
  len = held.len;
  before = λ instance pin other below on. elim (cases_eq other net) [
    | inl same ↦ subst (λ n. IsPlaced netlist starts places instance pin n 0) (sym same) (held.here instance pin (on ∙ ap Some same))
    | inr apart ↦ held.before instance pin other (omega (arith, below, apart)) on
  ];
  others = held.others;
}

pub all_placed : (netlist : FlatNetlist) (starts places : List ℕ) (net : ℕ) → net ≡ length netlist.nets → AreBefore netlist starts net places → ArePlaces netlist starts places
all_placed netlist starts places net all held = record {
  len = held.len;
  all = λ instance pin other within on. held.before instance pin other (omega (arith, within, all)) on;
  others = held.others;
}
