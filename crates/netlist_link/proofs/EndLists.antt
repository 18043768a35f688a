-- Ends of ports and pins, one port or pin more.
use Rattle.std.proofs.Common.{◌≡◌, ℕ, zero, suc, ◌+◌, ◌<◌, Bool, true, false, not, if◌then◌else◌, List, [], ◌∷◌, ◌++◌, length, take, get_or, Option, None, refl, sym, ap, ap₂, ◌∙◌, arith, rules, append-nil, append_assoc, true≢false}
use Rattle.hierarchy.specs.Walks.{joined_from}
use Rattle.hierarchy.proofs.Joining.{joined-more}
use Rattle.cell_models.specs.NamedSets.{NamedCells}
use Rattle.cell_models.specs.declared.cell.Direction.{Direction}
use Rattle.cell_models.specs.declared.cell.Direction.TheVariants as direction
use Rattle.cell_models.specs.declared.cell.Pin.{Pin}
use Rattle.netlist_link.specs.declared.ends.End.TheVariants as end
use Rattle.netlist_link.specs.FlatNetlist.{FlatPort, FlatInstance, EndOn, port_ends, pin_ends, end_at, instance_ends, is_output_pin, is_input_pin}
use Rattle.netlist_link.specs.FlatPins.{pins_of}
use Rattle.netlist_link.specs.InstanceTables.{kept_instance}
use Rattle.netlist_link.specs.KeptEnds.{Selects, wanted_end}
use Rattle.netlist_link.specs.PortRows.{kept_port}
use Rattle.netlist_link.specs.declared.instances.Instances.{Instances}
use Rattle.netlist_link.specs.declared.ports.Ports.{Ports}
use Rattle.hierarchy.proofs.Numbered.{numbered_count}

pub port_ends-append : (inputs : Bool) (from : ℕ) (xs ys : List FlatPort)
    → port_ends inputs from (xs ++ ys) ≡ port_ends inputs from xs ++ port_ends inputs (from + length xs) ys
port_ends-append inputs from [] ys = let same : from ≡ from + 0 = omega arith in ap (λ (n : ℕ). port_ends inputs n ys) same
port_ends-append inputs from (x ∷ xs) ys =
    let same : suc from + length xs ≡ from + suc (length xs) = omega arith in
    by (if inputs then x.is_input else not x.is_input) refl
    (port_ends-append inputs (suc from) xs ys ∙ ap (λ (n : ℕ). port_ends inputs (suc from) xs ++ port_ends inputs n ys) same)
  where
    by : (is : Bool) → (if inputs then x.is_input else not x.is_input) ≡ is
        → port_ends inputs (suc from) (xs ++ ys) ≡ port_ends inputs (suc from) xs ++ port_ends inputs (from + suc (length xs)) ys
        → port_ends inputs from (x ∷ xs ++ ys) ≡ port_ends inputs from (x ∷ xs) ++ port_ends inputs (from + suc (length xs)) ys
    by true is rest = rw is (ap (λ (l : List EndOn). record { net = x.net; at = end.Port from } ∷ l) rest)
    by false is rest = rw is rest

-- the ends of one port more
pub port_ends-more : (inputs : Bool) (ports : Ports) (p : ℕ) → port_ends inputs 0 (joined_from (λ k. kept_port ports k ∷ []) 0 (p + 1))
    ≡ port_ends inputs 0 (joined_from (λ k. kept_port ports k ∷ []) 0 p) ++ port_ends inputs p (kept_port ports p ∷ [])
port_ends-more inputs ports p =
    let many : 0 + length (joined_from (λ k. kept_port ports k ∷ []) 0 p) ≡ p = (let count = numbered_count (kept_port ports) 0 p in omega arith) in
    let same : 0 + p ≡ p = omega arith in
    ap (port_ends inputs 0) (joined-more (λ k. kept_port ports k ∷ []) 0 p)
    ∙ port_ends-append inputs 0 (joined_from (λ k. kept_port ports k ∷ []) 0 p) (kept_port ports (0 + p) ∷ [])
    ∙ ap₂ (λ (n k : ℕ). port_ends inputs 0 (joined_from (λ k. kept_port ports k ∷ []) 0 p) ++ port_ends inputs n (kept_port ports k ∷ [])) many same

-- the ends of one pin more
pub pin_ends-more : (test : Direction → Bool) (instance from : ℕ) (pins : List Pin) (nets : List (Option ℕ)) (j : ℕ) (d : Pin)
    → j < length pins → j < length nets → pin_ends test instance from (take (suc j) pins) (take (suc j) nets)
    ≡ pin_ends test instance from (take j pins) (take j nets) ++ wanted_end test instance (from + j) (get_or pins j d).direction (get_or nets j None)
pin_ends-more test instance from [] nets j d low high = absurd (omega arith)
pin_ends-more test instance from (pin ∷ pins) [] j d low high = absurd (omega arith)
pin_ends-more test instance from (pin ∷ pins) (net ∷ nets) zero d low high = by (test pin.direction) refl
  where
    by : (is : Bool) → test pin.direction ≡ is → pin_ends test instance from (pin ∷ []) (net ∷ []) ≡ wanted_end test instance (from + 0) pin.direction net
    by true is = rw is (let same : from ≡ from + 0 = omega arith in append-nil (end_at instance from net) ∙ ap (λ (n : ℕ). end_at instance n net) same)
    by false is = rw is refl
pin_ends-more test instance from (pin ∷ pins) (net ∷ nets) (suc j) d low high =
    let same : suc from + j ≡ from + suc j = omega arith in
    by (test pin.direction) refl
    (pin_ends-more test instance (suc from) pins nets j d (omega arith) (omega arith)
    ∙ ap (λ (n : ℕ). pin_ends test instance (suc from) (take j pins) (take j nets)
    ++ wanted_end test instance n (get_or pins j d).direction (get_or nets j None)) same)
  where
    one : List EndOn
    one = wanted_end test instance (from + suc j) (get_or pins j d).direction (get_or nets j None)

    by : (is : Bool) → test pin.direction ≡ is
        → pin_ends test instance (suc from) (take (suc j) pins) (take (suc j) nets)
        ≡ pin_ends test instance (suc from) (take j pins) (take j nets) ++ wanted_end test instance (from + suc j) (get_or pins j d).direction (get_or nets j None)
        → pin_ends test instance from (pin ∷ take (suc j) pins) (net ∷ take (suc j) nets)
        ≡ pin_ends test instance from (pin ∷ take j pins) (net ∷ take j nets) ++ wanted_end test instance (from + suc j) (get_or pins j d).direction (get_or nets j None)
    by true is rest = rw is (ap (λ (l : List EndOn). end_at instance from net ++ l) rest
        ∙ sym (append_assoc (end_at instance from net) (pin_ends test instance (suc from) (take j pins) (take j nets)) one))
    by false is rest = rw is rest

module _ (cells : List NamedCells) (test : Direction → Bool) where
  pub instance_ends-append : (from : ℕ) (xs ys : List FlatInstance)
      → instance_ends cells test from (xs ++ ys) ≡ instance_ends cells test from xs ++ instance_ends cells test (from + length xs) ys
  instance_ends-append from [] ys = let same : from ≡ from + 0 = omega arith in ap (λ (n : ℕ). instance_ends cells test n ys) same
  instance_ends-append from (x ∷ xs) ys =
      let same : suc from + length xs ≡ from + suc (length xs) = omega arith in
      let own = pin_ends test from 0 (pins_of cells x.cell) x.nets in
      ap (λ (l : List EndOn). own ++ l) (instance_ends-append (suc from) xs ys
      ∙ ap (λ (n : ℕ). instance_ends cells test (suc from) xs ++ instance_ends cells test n ys) same)
      ∙ sym (append_assoc own (instance_ends cells test (suc from) xs) (instance_ends cells test (from + suc (length xs)) ys))

  -- the ends of one instance more
  pub instance_ends-more : (kept : Instances) (i : ℕ) → instance_ends cells test 0 (joined_from (λ k. kept_instance kept k ∷ []) 0 (i + 1))
      ≡ instance_ends cells test 0 (joined_from (λ k. kept_instance kept k ∷ []) 0 i)
      ++ pin_ends test i 0 (pins_of cells (kept_instance kept i).cell) (kept_instance kept i).nets
  instance_ends-more kept i =
      let so_far = joined_from (λ k. kept_instance kept k ∷ []) 0 i in
      let many : 0 + length so_far ≡ i = (let count = numbered_count (kept_instance kept) 0 i in omega arith) in
      let same : 0 + i ≡ i = omega arith in
      ap (instance_ends cells test 0) (joined-more (λ k. kept_instance kept k ∷ []) 0 i)
      ∙ instance_ends-append 0 so_far (kept_instance kept (0 + i) ∷ [])
      ∙ ap₂ (λ (n k : ℕ). instance_ends cells test 0 so_far ++ instance_ends cells test n (kept_instance kept k ∷ [])) many same
      ∙ ap (λ (l : List EndOn). instance_ends cells test 0 so_far ++ l)
      (append-nil (pin_ends test i 0 (pins_of cells (kept_instance kept i).cell) (kept_instance kept i).nets))

pub output_selects : Selects is_output_pin direction.Output
output_selects direction.Input = ((λ yes. absurd (true≢false (sym yes))), (λ is. search rules))
output_selects direction.Output = ((λ yes. refl), (λ is. refl))
output_selects direction.Inout = ((λ yes. absurd (true≢false (sym yes))), (λ is. search rules))
output_selects direction.Internal = ((λ yes. absurd (true≢false (sym yes))), (λ is. search rules))

pub input_selects : Selects is_input_pin direction.Input
input_selects direction.Input = ((λ yes. refl), (λ is. refl))
input_selects direction.Output = ((λ yes. absurd (true≢false (sym yes))), (λ is. search rules))
input_selects direction.Inout = ((λ yes. absurd (true≢false (sym yes))), (λ is. search rules))
input_selects direction.Internal = ((λ yes. absurd (true≢false (sym yes))), (λ is. search rules))

-- a pin of the direction that passes, and one of another
pub selected : (test : Direction → Bool) (wanted : Direction) → Selects test wanted → (i j : ℕ) (net : Option ℕ)
    → wanted_end test i j wanted net ≡ end_at i j net
selected test wanted selects i j net = let is : test wanted ≡ true = (selects wanted).1 refl in rw is refl

pub unselected : (test : Direction → Bool) (wanted direction : Direction) → Selects test wanted → (direction ≡ wanted → ⊥) → (i j : ℕ) (net : Option ℕ)
    → wanted_end test i j direction net ≡ []
unselected test wanted direction selects other i j net = by (test direction) refl
  where
    by : (is : Bool) → test direction ≡ is → wanted_end test i j direction net ≡ []
    by true is = absurd (other ((selects direction).0 is))
    by false is = rw is refl
