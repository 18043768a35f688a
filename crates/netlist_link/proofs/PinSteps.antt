-- One connection more of an instance of a cell.
use Rattle.std.proofs.Common.{◌≡◌, ℕ, ◌+◌, ◌<◌, List, [], ◌∷◌, ◌++◌, length, take, get_or, Option, Some, None, sym, ap, ◌∙◌, subst, arith}
use Rattle.std.specs.Prelude.{slice_get, slice_index, slice_set}
use Rattle.std.proofs.lemmas.Option.{slice_get-get_or}
use Rattle.std.proofs.lemmas.List.{get_or-take, length-take-le, take_all}
use Rattle.verilog_netlist.specs.NetModules.{NetConnection, no_connection, bits_in}
use Rattle.verilog_netlist.specs.SoundModules.{Differ}
use Rattle.cell_models.specs.NamedSets.{NamedCells}
use Rattle.cell_models.specs.declared.cell.Pin.{Pin}
use Rattle.netlist_link.specs.FlatPins.{pins_of}
use Rattle.netlist_link.specs.LinkEnds.{pins_met}
use Rattle.netlist_link.specs.PathTables.{top_of}
use Rattle.netlist_link.specs.Designs.{met_of, walk_of, connections_of, number_here, HoldsJoints, IsOfCell, HaveDistinctPins}
use Rattle.netlist_link.specs.InstanceRows.{connection_of, ArePinNets, IsFirstNet}
use Rattle.netlist_link.specs.declared.checking.Design.{Design}
use Rattle.netlist_link.proofs.Pushing.{take_push}
use Rattle.netlist_link.proofs.PinNets.{empty_there, joined_there}
use Rattle.netlist_link.proofs.PinNumbers.{number_below, number_named, pin_alone}

module _ (d : Design) (cells : List NamedCells) (distinct : HaveDistinctPins cells) (i : ℕ) (within : i < length (walk_of d))
    (starts numbers places : List ℕ) (holds : HoldsJoints d (length (walk_of d)) starts numbers places cells) (of : IsOfCell d i)
    (n : ℕ) (below : n < length (connections_of d i)) where
  abbrev pins : List Pin
  pins = pins_of cells (slice_index places i)

  abbrev all : List NetConnection
  all = connections_of d i

  abbrev here : NetConnection
  here = connection_of d i n

  pins_are : pins ≡ pins_met d.modules.now (top_of d.walk.now) cells (met_of d i)
  pins_are = ap (pins_of cells) (holds.places_are i within of)

  taken : take (n + 1) all ≡ take n all ++ here ∷ []
  taken = take_push all n here (slice_get-get_or all n no_connection below)

  -- the connection leads to a pin of the cell
  pub number_within : (number : ℕ) → number ≡ number_here cells d i here.port → number < length pins
  number_within number is =
      subst (λ (l : List Pin). number < length l) (sym pins_are)
      (subst (λ (k : ℕ). k < length (pins_met d.modules.now (top_of d.walk.now) cells (met_of d i))) (sym is)
      (number_below d cells i within starts numbers places holds n below of))

  named : (number : ℕ) → number ≡ number_here cells d i here.port → (pin : Pin) → slice_get pins number ≡ Some pin → pin.name ≡ here.port
  named number is pin at =
      number_named d cells i within starts numbers places holds n below of pin
      (subst (λ (k : ℕ). slice_get (pins_met d.modules.now (top_of d.walk.now) cells (met_of d i)) k ≡ Some pin) is
      (subst (λ (l : List Pin). slice_get l number ≡ Some pin) pins_are at))

  alone_pin : (number : ℕ) → number ≡ number_here cells d i here.port
      → (j : ℕ) (pin : Pin) → slice_get pins j ≡ Some pin → pin.name ≡ here.port → j ≡ number
  alone_pin number is j pin at same =
      let other = get_or pins number pin in
      let there : slice_get pins number ≡ Some other = slice_get-get_or pins number pin (number_within number is) in
      pin_alone pins (distinct (slice_index places i)) j number pin other at there (same ∙ sym (named number is other there))

  module _ (differ : Differ (length (connections_of d i)) (λ c. (connection_of d i c).port)) (nets : List (Option ℕ))
      (so_far : ArePinNets d (met_of d i).path pins (take n all) nets) where
    alone : (a : ℕ) → a < length (take n all) → (get_or (take n all) a no_connection).port ≡ here.port → ⊥
    alone a less same =
        let long = length-take-le n all (omega arith) in
        let read : get_or (take n all) a no_connection ≡ get_or all a no_connection = get_or-take n all a no_connection (omega arith) in
        differ a n (omega arith) below (ap (λ (x : NetConnection). x.port) (sym read) ∙ same)

    pub empty_next : IsFirstNet d (met_of d i).path (bits_in here.runs) None → ArePinNets d (met_of d i).path pins (take (n + 1) all) nets
    empty_next is = subst (λ (l : List NetConnection). ArePinNets d (met_of d i).path pins l nets) (sym taken)
        (empty_there d (met_of d i).path pins (take n all) here alone nets so_far is)

    pub joined_next : (net : Option ℕ) (number : ℕ) → IsFirstNet d (met_of d i).path (bits_in here.runs) (Some net)
        → number ≡ number_here cells d i here.port → ArePinNets d (met_of d i).path pins (take (n + 1) all) (slice_set nets number net)
    joined_next net number is number_is = subst (λ (l : List NetConnection). ArePinNets d (met_of d i).path pins l (slice_set nets number net)) (sym taken)
        (joined_there d (met_of d i).path pins (take n all) here alone nets so_far net number is (number_within number number_is)
        (named number number_is) (alone_pin number number_is))

-- all connections
pub all_joined : (d : Design) (i n : ℕ) (pins : List Pin) (nets : List (Option ℕ)) → ArePinNets d (met_of d i).path pins (take n (connections_of d i)) nets
    → n ≡ length (connections_of d i) → ArePinNets d (met_of d i).path pins (connections_of d i) nets
all_joined d i n pins nets is whole =
    subst (λ (l : List NetConnection). ArePinNets d (met_of d i).path pins l nets) (take_all n (connections_of d i) (omega arith)) is
