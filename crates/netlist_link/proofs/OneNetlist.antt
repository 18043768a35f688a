-- A design has one flat netlist at the most.
use Rattle.std.proofs.Common.{◌≡◌, ℕ, ◌<◌, ◌↔◌, ⊎_elim, Bool, true, false, List, [], length, map, get_or, slice_get, Option, Some, None, refl, sym, ap, ◌∙◌, subst, arith, rules}
use Rattle.std.specs.Prelude.{IsTrue, option_to_list, option_map, unwrap_or}
use Rattle.std.proofs.lemmas.Bool.{cases_lt, cases_eq}
use Rattle.std.proofs.lemmas.List.{ext_get_or, length-map}
use Rattle.std.proofs.lemmas.Option.{slice_get_within, slice_get_cases, slice_get-get_or, slice_get-map, get_or_from_slice_get}
use Rattle.name_table.specs.Names.{AreDistinct}
use Rattle.cell_models.specs.NamedSets.{NamedCells, set_names}
use Rattle.cell_models.specs.declared.cell.Pin.{Pin}
use Rattle.verilog_netlist.specs.NetModules.{NetModule}
use Rattle.hierarchy.specs.Walks.{Met, met_instance, cells_met}
use Rattle.netlist_link.specs.FlatBits.{NetBit, nets, top_ports}
use Rattle.netlist_link.specs.FlatNames.{net_text}
use Rattle.netlist_link.specs.FlatPins.{pins_of, net_on_pin, IsNumbered}
use Rattle.netlist_link.specs.FlatNetlist.{FlatInstance, FlatPort, FlatNet, FlatNetlist, no_instance, no_net, no_port, driving_ends, driven_ends, ends_on, EndOn}
use Rattle.netlist_link.specs.Linked.{IsJoined}
use Rattle.netlist_link.specs.Links.{IsInstanceOf, IsPortOf, AreInstances, ArePorts, IsNetlistOf}

-- in a list of texts that differ a text has one place
pub one_place : (texts : List (List ℕ)) → AreDistinct texts → (i j : ℕ) (text : List ℕ) → slice_get texts i ≡ Some text
    → slice_get texts j ≡ Some text → i ≡ j
one_place texts apart i j text at_i at_j = ⊎_elim (λ same. same)
    (λ unlike. ⊎_elim (λ lt. absurd (apart i j [] lt (slice_get_within texts j text at_j)
    (get_or_from_slice_get texts i text [] at_i ∙ sym (get_or_from_slice_get texts j text [] at_j))))
    (λ le. absurd (apart j i [] (omega arith) (slice_get_within texts i text at_i)
    (get_or_from_slice_get texts j text [] at_j ∙ sym (get_or_from_slice_get texts i text [] at_i)))) (cases_lt i j))
    (cases_eq i j)

-- lists of one length with the same elements are the same
pub same_lists : {X : Type 0} (d : X) (xs ys : List X) → length xs ≡ length ys
    → ((i : ℕ) (x y : X) → slice_get xs i ≡ Some x → slice_get ys i ≡ Some y → x ≡ y) → xs ≡ ys
same_lists d xs ys same each = ext_get_or d xs ys same
    (λ i lt. each i (get_or xs i d) (get_or ys i d) (slice_get-get_or xs i d lt) (slice_get-get_or ys i d (subst (λ n. i < n) same lt)))

same_options : {X : Type 0} (a b : Option X) → option_to_list a ≡ option_to_list b → a ≡ b
same_options None None is = refl
same_options None (Some y) is = grind arith
same_options (Some x) None is = grind arith
same_options (Some x) (Some y) is = grind arith

same_bools : (a b : Bool) {P : Type 0} → IsTrue a ↔ P → IsTrue b ↔ P → a ≡ b
same_bools true true one other = refl
same_bools false false one other = refl
same_bools true false one other = search rules
same_bools false true one other = search rules

-- the element at a place within a list
pub has_element : {X : Type 0} (xs : List X) (j : ℕ) → j < length xs → (x : X) × (slice_get xs j ≡ Some x)
has_element xs j within = ⊎_elim (λ found. (found.0, found.2)) (λ past. absurd (omega (arith, past.0, within))) (slice_get_cases xs j).1

module _ (modules : List NetModule) (top : ℕ) (cells : List NamedCells) where
  -- a net whose name no other has stands at one place
  pub one_number : AreDistinct (map (net_text modules top) (nets modules top)) → (a b : ℕ) (net : NetBit)
      → slice_get (nets modules top) a ≡ Some net → slice_get (nets modules top) b ≡ Some net → a ≡ b
  one_number apart a b net at_a at_b = one_place (map (net_text modules top) (nets modules top)) apart a b (net_text modules top net)
      (slice_get-map (net_text modules top) (nets modules top) a ∙ ap (option_map (net_text modules top)) at_a)
      (slice_get-map (net_text modules top) (nets modules top) b ∙ ap (option_map (net_text modules top)) at_b)

  one_net : AreDistinct (map (net_text modules top) (nets modules top)) → (net : Option NetBit) (a b : Option ℕ)
      → IsNumbered modules top net a → IsNumbered modules top net b → a ≡ b
  one_net apart None None None one other = refl
  one_net apart None None (Some n) one other = absurd other
  one_net apart None (Some n) b one other = absurd one
  one_net apart (Some net) None b one other = absurd one
  one_net apart (Some net) (Some n) None one other = absurd other
  one_net apart (Some net) (Some n) (Some m) one other = ap Some (one_number apart n m net one other)

  module _ (cells_apart : AreDistinct (set_names cells)) (nets_apart : AreDistinct (map (net_text modules top) (nets modules top))) where
    one_cell : (met : Met) (a b : FlatInstance) → IsInstanceOf modules top cells met a → IsInstanceOf modules top cells met b → a.cell ≡ b.cell
    one_cell met a b one other = one_place (set_names cells) cells_apart a.cell b.cell (met_instance modules top met).cell one.cell other.cell

    one_list_of_nets : (met : Met) (a b : FlatInstance) → IsInstanceOf modules top cells met a → IsInstanceOf modules top cells met b
        → a.nets ≡ b.nets
    one_list_of_nets met a b one other = same_lists None a.nets b.nets (one.pins ∙ ap (λ c. length (pins_of cells c)) same ∙ sym other.pins) each
      where
        same : a.cell ≡ b.cell
        same = one_cell met a b one other

        each : (j : ℕ) (x y : Option ℕ) → slice_get a.nets j ≡ Some x → slice_get b.nets j ≡ Some y → x ≡ y
        each j x y at_a at_b = by (has_element (pins_of cells a.cell) j (subst (λ n. j < n) one.pins (slice_get_within a.nets j x at_a)))
          where
            by : (pin : Pin) × (slice_get (pins_of cells a.cell) j ≡ Some pin) → x ≡ y
            by (pin, at) = one_net nets_apart (net_on_pin modules top met pin.name) x y (one.on j pin x at at_a)
                (other.on j pin y (subst (λ c. slice_get (pins_of cells c) j ≡ Some pin) same at) at_b)

    pub one_instance : (met : Met) (a b : FlatInstance) → IsInstanceOf modules top cells met a → IsInstanceOf modules top cells met b → a ≡ b
    one_instance met a b one other = λ i. record { text = text i; sdf = sdf i; cell = cell i; nets = on i }
      where
        text : a.text ≡ b.text
        text = one.text ∙ sym other.text

        sdf : a.sdf ≡ b.sdf
        sdf = one.sdf ∙ sym other.sdf

        cell : a.cell ≡ b.cell
        cell = one_cell met a b one other

        on : a.nets ≡ b.nets
        on = one_list_of_nets met a b one other

    pub one_port : (bit : NetBit) (a b : FlatPort) → IsPortOf modules top cells bit a → IsPortOf modules top cells bit b → a ≡ b
    one_port bit a b one other = λ i. record { text = text i; sdf = sdf i; net = net i; is_input = input i }
      where
        text : a.text ≡ b.text
        text = one.text ∙ sym other.text

        sdf : a.sdf ≡ b.sdf
        sdf = one.sdf ∙ sym other.sdf

        net : a.net ≡ b.net
        net = one_number nets_apart a.net b.net bit one.net other.net

        input : a.is_input ≡ b.is_input
        input = same_bools a.is_input b.is_input one.input other.input

    pub one_list_of_instances : (a b : List FlatInstance) → AreInstances modules top cells a → AreInstances modules top cells b → a ≡ b
    one_list_of_instances a b one other = same_lists no_instance a b (one.count ∙ sym other.count)
        (λ i x y at_a at_b. by i x y at_a at_b
        (has_element (cells_met modules top) i (subst (λ n. i < n) one.count (slice_get_within a i x at_a))))
      where
        by : (i : ℕ) (x y : FlatInstance) → slice_get a i ≡ Some x → slice_get b i ≡ Some y
            → (met : Met) × (slice_get (cells_met modules top) i ≡ Some met) → x ≡ y
        by i x y at_a at_b (met, at) = one_instance met x y (one.each i met x at at_a) (other.each i met y at at_b)

    pub one_list_of_ports : (a b : List FlatPort) → ArePorts modules top cells a → ArePorts modules top cells b → a ≡ b
    one_list_of_ports a b one other = same_lists no_port a b (one.count ∙ sym other.count)
        (λ p x y at_a at_b. by p x y at_a at_b
        (has_element (top_ports modules top) p (subst (λ n. p < n) one.count (slice_get_within a p x at_a))))
      where
        by : (p : ℕ) (x y : FlatPort) → slice_get a p ≡ Some x → slice_get b p ≡ Some y
            → (bit : NetBit) × (slice_get (top_ports modules top) p ≡ Some bit) → x ≡ y
        by p x y at_a at_b (bit, at) = one_port bit x y (one.each p bit x at at_a) (other.each p bit y at at_b)

  -- nets of one name with one list of drivers and of sinks are the same
  one_flat_net : (driving driven driving' driven' : List EndOn) → driving ≡ driving' → driven ≡ driven' → (n : ℕ) (a b : FlatNet) → a.text ≡ b.text
      → IsJoined driving driven n a → IsJoined driving' driven' n b → a ≡ b
  one_flat_net driving driven driving' driven' same_driving same_driven n a b text one other =
      λ i. record { text = text i; driver = driver i; sinks = sinks i }
    where
      driver : a.driver ≡ b.driver
      driver = same_options a.driver b.driver (one.driver ∙ ap (ends_on n) same_driving ∙ sym other.driver)

      sinks : a.sinks ≡ b.sinks
      sinks = one.sinks ∙ ap (ends_on n) same_driven ∙ sym other.sinks

  text_of_net : (a : List FlatNet) (n : ℕ) (x : FlatNet) → slice_get a n ≡ Some x → slice_get (map (λ net. net.text) a) n ≡ Some x.text
  text_of_net a n x at = slice_get-map (λ net. net.text) a n ∙ ap (option_map (λ net. net.text)) at

  pub nets_differ : (netlist : FlatNetlist) → IsNetlistOf modules top cells netlist → AreDistinct (map (net_text modules top) (nets modules top))
  nets_differ netlist is = subst AreDistinct is.nets_are is.net_names

  module _ (cells_apart : AreDistinct (set_names cells)) (a b : FlatNetlist)
      (one : IsNetlistOf modules top cells a) (other : IsNetlistOf modules top cells b) where
    same_instances : a.instances ≡ b.instances
    same_instances = one_list_of_instances cells_apart (nets_differ a one) a.instances b.instances one.instances other.instances

    same_ports : a.ports ≡ b.ports
    same_ports = one_list_of_ports cells_apart (nets_differ a one) a.ports b.ports one.ports other.ports

    same_texts : map (λ net. net.text) a.nets ≡ map (λ net. net.text) b.nets
    same_texts = one.nets_are ∙ sym other.nets_are

    same_nets : a.nets ≡ b.nets
    same_nets = same_lists no_net a.nets b.nets
        (sym (length-map a.nets (λ net. net.text)) ∙ ap length same_texts ∙ length-map b.nets (λ net. net.text))
        (λ n x y at_a at_b. one_flat_net (driving_ends cells a.ports a.instances) (driven_ends cells a.ports a.instances)
        (driving_ends cells b.ports b.instances) (driven_ends cells b.ports b.instances)
        (λ i. driving_ends cells (same_ports i) (same_instances i)) (λ i. driven_ends cells (same_ports i) (same_instances i)) n x y
        (one_text n x y at_a at_b) (one.linked.joined n x at_a) (other.linked.joined n y at_b))
      where
        one_text : (n : ℕ) (x y : FlatNet) → slice_get a.nets n ≡ Some x → slice_get b.nets n ≡ Some y → x.text ≡ y.text
        one_text n x y at_a at_b = ap (λ text. unwrap_or text []) (sym (text_of_net a.nets n x at_a) ∙ ap (λ texts. slice_get texts n) same_texts ∙ text_of_net b.nets n y at_b)

    pub one_netlist : a ≡ b
    one_netlist = λ i. record { instances = same_instances i; nets = same_nets i; ports = same_ports i }
