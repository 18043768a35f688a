-- The nets of the pins of an instance, one connection after another.
use Rattle.std.proofs.Common.{◌≡◌, ◌≢◌, ℕ, ◌<◌, Bool, true, false, cond, List, [], ◌∷◌, ◌++◌, length, get_or, Option, Some, None, refl, sym, ap, ◌∙◌, subst, arith, true≢false}
use Rattle.std.specs.Prelude.{find, slice_get, slice_set, replicate}
use Rattle.std.specs.Option.{option_and_then, option_or}
use Rattle.std.specs.Str.{bytes_eq}
use Rattle.std.proofs.lemmas.Slice.Eq.{bytes_eq-Decides}
use Rattle.std.proofs.lemmas.Option.{slice_get_within}
use Rattle.std.proofs.lemmas.List.{get_or-set_same, get_or-set_other, get_or-replicate, length-set, length-replicate}
use Rattle.std.proofs.lemmas.List.Folds.{find-append}
use Rattle.verilog_netlist.specs.NetModules.{NetConnection, no_connection, bits_in}
use Rattle.verilog_netlist.specs.declared.runs.Bit.{Bit}
use Rattle.cell_models.specs.declared.cell.Pin.{Pin}
use Rattle.netlist_link.specs.FlatBits.{NetBit, some_bits}
use Rattle.netlist_link.specs.FlatPins.{wired, IsNumbered}
use Rattle.netlist_link.specs.PathTables.{top_of}
use Rattle.netlist_link.specs.InstanceRows.{net_by, ArePinNets, IsFirstNet}
use Rattle.netlist_link.specs.declared.checking.Design.{Design}
use Rattle.netlist_link.proofs.Joining.{find_no}

or_none : {X : Type 0} (o : Option X) → option_or o None ≡ o
or_none None = refl
or_none (Some x) = refl

find_one : {X : Type 0} (p : X → Bool) (x : X) (b : Bool) → p x ≡ b → find p (x ∷ []) ≡ cond b (Some x) None
find_one p x true is = rw is refl
find_one p x false is = rw is refl

-- what is found with one item more
find_other : {X : Type 0} (p : X → Bool) (xs : List X) (x : X) → p x ≡ false → find p (xs ++ x ∷ []) ≡ find p xs
find_other p xs x fails = find-append p xs (x ∷ []) ∙ ap (option_or (find p xs)) (find_one p x false fails) ∙ or_none (find p xs)

find_here : {X : Type 0} (p : X → Bool) (xs : List X) (x : X) → find p xs ≡ None → p x ≡ true → find p (xs ++ x ∷ []) ≡ Some x
find_here {X} p xs x none is = find-append p xs (x ∷ []) ∙ ap (λ (o : Option X). option_or o (find p (x ∷ []))) none ∙ find_one p x true is

texts_differ : (a b : List ℕ) → (a ≡ b → ⊥) → bytes_eq a b ≡ false
texts_differ a b never = by (bytes_eq a b) refl
  where
    by : (e : Bool) → bytes_eq a b ≡ e → bytes_eq a b ≡ false
    by true same = absurd (never ((bytes_eq-Decides a b).0 same))
    by false same = same

module _ (d : Design) (path : List ℕ) where
  -- the net that a connection joins
  abbrev net_of : Option NetConnection → Option NetBit
  net_of found = option_and_then (λ bits. option_and_then (wired d.modules.now (top_of d.walk.now) path) (slice_get bits 0))
      (option_and_then (λ connection. some_bits (bits_in connection.runs)) found)

  abbrev names : List ℕ → NetConnection → Bool
  names pin connection = bytes_eq pin connection.port

  abbrev IsNet : Option NetBit → Option ℕ → Type 0
  IsNet net number = IsNumbered d.modules.now (top_of d.walk.now) net number

  module _ (pins : List Pin) (connections : List NetConnection) (x : NetConnection)
      (alone : (i : ℕ) → i < length connections → (get_or connections i no_connection).port ≡ x.port → ⊥) (nets : List (Option ℕ))
      (so_far : ArePinNets d path pins connections nets) where
    none_before : (pin : List ℕ) → pin ≡ x.port → find (names pin) connections ≡ None
    none_before pin is = find_no (names pin) connections no_connection
        (λ i less. texts_differ pin (get_or connections i no_connection).port (λ same. alone i less (sym same ∙ is)))

    other : (pin : List ℕ) → bytes_eq pin x.port ≡ false → net_by d path (connections ++ x ∷ []) pin ≡ net_by d path connections pin
    other pin fails = ap net_of (find_other (names pin) connections x fails)

    here : (pin : List ℕ) → bytes_eq pin x.port ≡ true → net_by d path (connections ++ x ∷ []) pin ≡ net_of (Some x)
    here pin is = ap net_of (find_here (names pin) connections x (none_before pin ((bytes_eq-Decides pin x.port).0 is)) is)

    before : (pin : List ℕ) → bytes_eq pin x.port ≡ true → net_by d path connections pin ≡ None
    before pin is = ap net_of (none_before pin ((bytes_eq-Decides pin x.port).0 is))

    -- a connection that joins nothing
    pub empty_step : bits_in x.runs ≡ [] → ArePinNets d path pins (connections ++ x ∷ []) nets
    empty_step empty = record { count = so_far.count; on = λ j pin at. by j pin at (bytes_eq pin.name x.port) refl }
      where
        by : (j : ℕ) (pin : Pin) → slice_get pins j ≡ Some pin → (b : Bool) → bytes_eq pin.name x.port ≡ b
            → IsNet (net_by d path (connections ++ x ∷ []) pin.name) (get_or nets j None)
        by j pin at true is =
            let nothing : net_of (Some x) ≡ None =
            ap (λ (bits : List Bit). option_and_then (λ b. option_and_then (wired d.modules.now (top_of d.walk.now) path) (slice_get b 0)) (some_bits bits)) empty in
            subst (λ (net : Option NetBit). IsNet net (get_or nets j None)) (before pin.name is ∙ sym (here pin.name is ∙ nothing)) (so_far.on j pin at)
        by j pin at false is = subst (λ (net : Option NetBit). IsNet net (get_or nets j None)) (sym (other pin.name is)) (so_far.on j pin at)

    -- a connection that joins a bit to the pin of this number
    pub joined_step : (bit : Bit) (later : List Bit) (net : Option ℕ) (number : ℕ) → bits_in x.runs ≡ bit ∷ later
        → IsNet (wired d.modules.now (top_of d.walk.now) path bit) net → number < length pins
        → ((pin : Pin) → slice_get pins number ≡ Some pin → pin.name ≡ x.port)
        → ((j : ℕ) (pin : Pin) → slice_get pins j ≡ Some pin → pin.name ≡ x.port → j ≡ number)
        → ArePinNets d path pins (connections ++ x ∷ []) (slice_set nets number net)
    joined_step bit later net number bits is_net below named alone_pin = record {
      count = length-set nets number net ∙ so_far.count;
      on = λ j pin at. by j pin at (bytes_eq pin.name x.port) refl;
    }
      where
        within : number < length nets
        within = let count = so_far.count in omega arith

        by : (j : ℕ) (pin : Pin) → slice_get pins j ≡ Some pin → (b : Bool) → bytes_eq pin.name x.port ≡ b
            → IsNet (net_by d path (connections ++ x ∷ []) pin.name) (get_or (slice_set nets number net) j None)
        by j pin at true is =
            let joined : net_of (Some x) ≡ wired d.modules.now (top_of d.walk.now) path bit =
            ap (λ (all : List Bit). option_and_then (λ b. option_and_then (wired d.modules.now (top_of d.walk.now) path) (slice_get b 0)) (some_bits all)) bits in
            let j_is : j ≡ number = alone_pin j pin at ((bytes_eq-Decides pin.name x.port).0 is) in
            let read : get_or (slice_set nets number net) j None ≡ net =
            ap (λ (k : ℕ). get_or (slice_set nets number net) k None) j_is ∙ get_or-set_same nets number net None within in
            subst (IsNet (net_by d path (connections ++ x ∷ []) pin.name)) (sym read)
            (subst (λ (n : Option NetBit). IsNet n net) (sym (here pin.name is ∙ joined)) is_net)
        by j pin at false is =
            let apart : j ≢ number = λ same. true≢false (sym ((bytes_eq-Decides pin.name x.port).1 (named pin (subst (λ (k : ℕ). slice_get pins k ≡ Some pin) same at))) ∙ is) in
            subst (IsNet (net_by d path (connections ++ x ∷ []) pin.name)) (sym (get_or-set_other nets number j net None apart))
            (subst (λ (n : Option NetBit). IsNet n (get_or nets j None)) (sym (other pin.name is)) (so_far.on j pin at))

    -- what the first bit is says which it is
    pub empty_there : IsFirstNet d path (bits_in x.runs) None → ArePinNets d path pins (connections ++ x ∷ []) nets
    empty_there is = by (bits_in x.runs) refl is
      where
        by : (bits : List Bit) → bits_in x.runs ≡ bits → IsFirstNet d path bits None → ArePinNets d path pins (connections ++ x ∷ []) nets
        by [] same none = empty_step same
        by (bit ∷ later) same none = absurd none

    pub joined_there : (net : Option ℕ) (number : ℕ) → IsFirstNet d path (bits_in x.runs) (Some net) → number < length pins
        → ((pin : Pin) → slice_get pins number ≡ Some pin → pin.name ≡ x.port)
        → ((j : ℕ) (pin : Pin) → slice_get pins j ≡ Some pin → pin.name ≡ x.port → j ≡ number)
        → ArePinNets d path pins (connections ++ x ∷ []) (slice_set nets number net)
    joined_there net number is below named alone_pin = by (bits_in x.runs) refl is
      where
        by : (bits : List Bit) → bits_in x.runs ≡ bits → IsFirstNet d path bits (Some net)
            → ArePinNets d path pins (connections ++ x ∷ []) (slice_set nets number net)
        by [] same none = absurd none
        by (bit ∷ later) same is_net = joined_step bit later net number same is_net below named alone_pin

  -- before the first connection no pin is on a net
  pub none_joined : (pins : List Pin) (nets : List (Option ℕ)) → nets ≡ replicate (length pins) None → ArePinNets d path pins [] nets
  none_joined pins nets is = record {
    count = ap length is ∙ length-replicate (length pins) None;
    on = λ j pin at. subst (IsNet None)
        (sym (ap (λ (l : List (Option ℕ)). get_or l j None) is ∙ get_or-replicate (length pins) j None None (slice_get_within pins j pin at))) tt;
  }
