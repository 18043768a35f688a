-- The numbers of the pins to which the connections of an instance of a cell lead.
use Rattle.std.proofs.Common.{◌≡◌, ℕ, suc, ◌+◌, ◌<◌, ◌≤◌, Bool, true, false, not, true≢false, List, [], ◌∷◌, length, take, get_or, Option, Some, None, inl, inr, refl, sym, ap, ◌∙◌, subst, arith}
use Rattle.std.specs.Prelude.{find, slice_get, slice_index, flat_map}
use Rattle.std.specs.List.{position_or_len}
use Rattle.std.specs.Str.{bytes_eq}
use Rattle.std.proofs.lemmas.Bool.{cases_lt}
use Rattle.std.proofs.lemmas.Option.{none-some, slice_get_within, get_or_from_slice_get}
use Rattle.std.proofs.lemmas.List.{take_all, length-map, get_or-map}
use Rattle.std.proofs.lemmas.List.Concat.{get_or-flat_map}
use Rattle.std.proofs.lemmas.List.Folds.{length-flat_map-take}
use Rattle.std.proofs.lemmas.List.Sums.{prefix_len_stops}
use Rattle.std.proofs.lemmas.Slice.Eq.{bytes_eq-Decides}
use Rattle.verilog_netlist.specs.NetModules.{NetConnection, no_connection, bits_in}
use Rattle.cell_models.specs.NamedSets.{NamedCells}
use Rattle.cell_models.specs.declared.cell.Pin.{Pin}
use Rattle.hierarchy.specs.WalkTables.{no_met}
use Rattle.netlist_link.specs.LinkEnds.{Joint, pins_met, joint_of, joint_of_pin, joint_faults, connection_faults}
use Rattle.netlist_link.specs.FlatNames.{instance_text}
use Rattle.netlist_link.specs.PathTables.{top_of}
use Rattle.netlist_link.specs.JointTables.{pin_names}
use Rattle.netlist_link.specs.Designs.{met_of, walk_of, numbers_in, faults_in, connections_of, number_here, HoldsJoints, IsOfCell}
use Rattle.netlist_link.specs.InstanceRows.{connection_of}
use Rattle.netlist_link.specs.declared.checking.Design.{Design}

empty_list : {A : Type 0} (l : List A) → length l ≡ 0 → l ≡ []
empty_list [] is = refl
empty_list (a ∷ l) is = absurd (omega arith)

-- where nothing is joined, each list is empty
none_each : {X A : Type 0} (f : X → List A) (xs : List X) (i : ℕ) (x : X) → flat_map f xs ≡ [] → i < length xs → f (get_or xs i x) ≡ []
none_each f xs i x none below = empty_list (f (get_or xs i x)) (let few = length-flat_map-take f xs i x below in let nothing = ap length none in omega arith)

-- the first place that passes, and none that does
passes_there : {X : Type 0} (p : X → Bool) (xs : List X) (x : X) → position_or_len p xs < length xs → p (get_or xs (position_or_len p xs) x) ≡ true
passes_there p xs x below = by (p (get_or xs (position_or_len p xs) x)) (prefix_len_stops (λ y. not (p y)) xs x below)
  where
    by : (b : Bool) → not b ≡ false → b ≡ true
    by true is = refl
    by false is = absurd (true≢false is)

find_past : {X : Type 0} (p : X → Bool) (xs : List X) → length xs ≤ position_or_len p xs → find p xs ≡ None
find_past p [] past = refl
find_past {X} p (y ∷ ys) past = by (p y) refl past (find_past p ys)
  where
    by : (b : Bool) → p y ≡ b → suc (length ys) ≤ position_or_len p (y ∷ ys) → (length ys ≤ position_or_len p ys → find p ys ≡ None) → find p (y ∷ ys) ≡ None
    by true is long rest = let at : position_or_len p (y ∷ ys) ≡ 0 = rw is refl in absurd (omega arith)
    by false is long rest =
        let at : position_or_len p (y ∷ ys) ≡ 1 + position_or_len p ys = rw is refl in
        rw is (rest (omega arith))

module _ (d : Design) (cells : List NamedCells) (i : ℕ) (within : i < length (walk_of d)) (starts numbers places : List ℕ)
    (holds : HoldsJoints d (length (walk_of d)) starts numbers places cells) where
  all : numbers ≡ flat_map (numbers_in cells d) (walk_of d)
  all = holds.numbers_are ∙ ap (flat_map (numbers_in cells d)) (take_all (length (walk_of d)) (walk_of d) (omega arith))

  module _ (c : ℕ) (below : c < length (connections_of d i)) where
    many : length (numbers_in cells d (met_of d i)) ≡ length (connections_of d i)
    many = length-map (connections_of d i) (λ (connection : NetConnection). number_here cells d i connection.port)

    pub start_within : i < length starts
    start_within = let len = holds.starts_len in omega arith

    pub number_there : slice_index starts i + c < length numbers
    number_there =
        let start = holds.starts_are i within in
        let few = length-flat_map-take (numbers_in cells d) (walk_of d) i no_met within in
        let long = ap length all in
        let own = many in
        omega arith

    pub number_read : slice_index numbers (slice_index starts i + c) ≡ number_here cells d i (connection_of d i c).port
    number_read =
        ap (λ (n : ℕ). get_or numbers (n + c) 0) (holds.starts_are i within)
        ∙ ap (λ (l : List ℕ). get_or l (length (flat_map (numbers_in cells d) (take i (walk_of d))) + c) 0) all
        ∙ get_or-flat_map (numbers_in cells d) (walk_of d) i c no_met 0 within (subst (λ (n : ℕ). c < n) (sym many) below)
        ∙ get_or-map (λ (connection : NetConnection). number_here cells d i connection.port) (connections_of d i) c no_connection 0 below

    faultless : connection_faults d.modules.now (top_of d.walk.now) cells (met_of d i) (connection_of d i c) ≡ []
    faultless =
        none_each (connection_faults d.modules.now (top_of d.walk.now) cells (met_of d i)) (connections_of d i) c no_connection
        (none_each (faults_in cells d) (walk_of d) i no_met
        (sym (ap (flat_map (faults_in cells d)) (take_all (length (walk_of d)) (walk_of d) (omega arith))) ∙ holds.faultless) within) below

    module _ (of : IsOfCell d i) where
      abbrev pins : List Pin
      pins = pins_met d.modules.now (top_of d.walk.now) cells (met_of d i)

      abbrev passes : Pin → Bool
      passes pin = bytes_eq (connection_of d i c).port pin.name

      pub number_is : number_here cells d i (connection_of d i c).port ≡ position_or_len passes pins
      number_is = rw of refl

      joint_is : joint_of d.modules.now (top_of d.walk.now) cells (met_of d i) (connection_of d i c).port ≡ joint_of_pin (find passes pins)
      joint_is = rw of refl

      -- the connection leads to a pin
      pub number_below : number_here cells d i (connection_of d i c).port < length pins
      number_below = subst (λ (n : ℕ). n < length pins) (sym number_is) (elim (cases_lt (position_or_len passes pins) (length pins)) [
        | inl less ↦ less
        | inr past ↦ absurd (unknown (joint_of d.modules.now (top_of d.walk.now) cells (met_of d i) (connection_of d i c).port)
            (joint_is ∙ ap joint_of_pin (find_past passes pins past)) faultless)
      ])
        where
          unknown : (joint : Option Joint) → joint ≡ None
              → joint_faults (instance_text d.modules.now (top_of d.walk.now) (met_of d i)) (connection_of d i c).port joint
              (length (bits_in (connection_of d i c).runs)) ≡ [] → ⊥
          unknown None none no_fault = (let one = ap length no_fault in absurd (omega arith))
          unknown (Some joint) none no_fault = absurd (none-some joint (sym none))

      -- which has its name
      pub number_named : (pin : Pin) → slice_get pins (number_here cells d i (connection_of d i c).port) ≡ Some pin → pin.name ≡ (connection_of d i c).port
      number_named pin at =
          let place = position_or_len passes pins in
          let at_place : slice_get pins place ≡ Some pin = subst (λ (n : ℕ). slice_get pins n ≡ Some pin) number_is at in
          let passed = passes_there passes pins pin (slice_get_within pins place pin at_place) in
          let read : get_or pins place pin ≡ pin = get_or_from_slice_get pins place pin pin at_place in
          sym ((bytes_eq-Decides (connection_of d i c).port pin.name).0 (ap passes (sym read) ∙ passed))

-- a pin of a cell has its name alone
pub pin_alone : (pins : List Pin) (distinct : (a b : ℕ) (e : List ℕ) → a < b → b < length (pin_names pins) → get_or (pin_names pins) a e ≡ get_or (pin_names pins) b e → ⊥)
    (a b : ℕ) (one other : Pin) → slice_get pins a ≡ Some one → slice_get pins b ≡ Some other → one.name ≡ other.name → a ≡ b
pin_alone pins distinct a b one other at_a at_b same = elim (cases_lt a b) [
  | inl less ↦ absurd (distinct a b [] less (within b other at_b) (name a one at_a ∙ same ∙ sym (name b other at_b)))
  | inr past ↦ (elim (cases_lt b a) [
    | inl more ↦ absurd (distinct b a [] more (within a one at_a) (name b other at_b ∙ sym same ∙ sym (name a one at_a)))
    | inr less ↦ omega arith
  ])
]
  where
    within : (j : ℕ) (pin : Pin) → slice_get pins j ≡ Some pin → j < length (pin_names pins)
    within j pin at = let below = slice_get_within pins j pin at in let long = length-map pins (λ (p : Pin). p.name) in omega arith

    name : (j : ℕ) (pin : Pin) → slice_get pins j ≡ Some pin → get_or (pin_names pins) j [] ≡ pin.name
    name j pin at = get_or-map (λ (p : Pin). p.name) pins j pin [] (slice_get_within pins j pin at) ∙ ap (λ (p : Pin). p.name) (get_or_from_slice_get pins j pin pin at)
