-- The port and the pin of a name.
use Rattle.std.proofs.Common.{◌≡◌, ◌≢◌, ℕ, zero, suc, ◌<◌, Bool, true, false, List, [], ◌∷◌, length, get_or, Option, Some, None, refl, sym, ◌∙◌, subst, arith, Bor}
use Rattle.std.specs.Prelude.{find, slice_get}
use Rattle.std.proofs.lemmas.Option.{slice_get_within, get_or_from_slice_get}
use Rattle.name_table.specs.Names.{AreDistinct}
use Rattle.std.specs.Map.{lookup}
use Rattle.std.specs.Str.{bytes_eq}
use Rattle.std.proofs.lemmas.Slice.Eq.{bytes_eq-Decides}
use Rattle.std.specs.List.{position_or_len}
use Rattle.std.proofs.lemmas.List.{get_or-map}
use Rattle.std.proofs.lemmas.List.Sums.{position_or_len_is}
use Rattle.cell_models.specs.declared.cell.Direction.TheVariants.{Input}
use Rattle.cell_models.specs.declared.cell.Pin.{Pin}
use Rattle.verilog_netlist.specs.ModuleNames.{NetName, no_name}
use Rattle.netlist_link.specs.FlatBits.{is_port}
use Rattle.netlist_link.specs.Designs.{has_port_name}
use Rattle.netlist_link.specs.PortTables.{IsFoundBy, IsPortNamed, IsPinNamed}
use Rattle.netlist_link.specs.JointTables.{AreCellPins, pin_names}
use Rattle.netlist_link.specs.declared.cell_pins.CellPins.{CellPins}

-- the first item that passes a test
pub find_at : {X : Type 0} (p : X → Bool) (xs : List X) (j : ℕ) (d : X) → j < length xs → p (get_or xs j d) ≡ true
    → ((i : ℕ) → i < j → p (get_or xs i d) ≡ false) → find p xs ≡ Some (get_or xs j d)
find_at p [] j d below is first = absurd (omega arith)
find_at p (x ∷ xs) zero d below is first = rw is refl
find_at p (x ∷ xs) (suc j) d below is first = rw (first 0 (omega arith)) (find_at p xs j d (omega arith) is (λ i less. first (suc i) (omega arith)))

pub find_no : {X : Type 0} (p : X → Bool) (xs : List X) (d : X) → ((i : ℕ) → i < length xs → p (get_or xs i d) ≡ false) → find p xs ≡ None
find_no p [] d none = refl
find_no p (x ∷ xs) d none = rw (none 0 (omega arith)) (find_no p xs d (λ i less. none (suc i) (omega arith)))

pub place_at : {X : Type 0} (p : X → Bool) (xs : List X) (j : ℕ) (d : X) → j < length xs → p (get_or xs j d) ≡ true
    → ((i : ℕ) → i < j → p (get_or xs i d) ≡ false) → j ≡ position_or_len p xs
place_at p xs j d below is first = sym (position_or_len_is p xs j d (omega arith) first (λ _. is))

-- a name with this text that is a port passes, and no other does
pub port_passes : (port : List ℕ) (names : List NetName) (i : ℕ) → IsPortNamed names i port → has_port_name port (get_or names i no_name) ≡ true
port_passes port names i is = rw is.port ((bytes_eq-Decides port (get_or names i no_name).text).1 (sym is.text))

pub port_fails : (port : List ℕ) (names : List NetName) (i : ℕ) → (IsPortNamed names i port → ⊥) → has_port_name port (get_or names i no_name) ≡ false
port_fails port names i never = by (is_port (get_or names i no_name)) (bytes_eq port (get_or names i no_name).text) refl refl
  where
    by : (a b : Bool) → is_port (get_or names i no_name) ≡ a → bytes_eq port (get_or names i no_name).text ≡ b → has_port_name port (get_or names i no_name) ≡ false
    by true true is same = absurd (never (record { port = is; text = sym ((bytes_eq-Decides port (get_or names i no_name).text).0 same) }))
    by true false is same = rw (is, same) refl
    by false b is same = rw is refl

-- a pin with this name passes, and no other does
pub pin_passes : (port : List ℕ) (pins : List Pin) (j : ℕ) (d : Pin) → j < length pins → IsPinNamed (pin_names pins) j port
    → bytes_eq port (get_or pins j d).name ≡ true
pin_passes port pins j d below is =
    (bytes_eq-Decides port (get_or pins j d).name).1 (sym is.text ∙ get_or-map (λ (pin : Pin). pin.name) pins j d [] below)

pub pin_fails : (port : List ℕ) (pins : List Pin) (j : ℕ) (d : Pin) → j < length pins → (IsPinNamed (pin_names pins) j port → ⊥)
    → bytes_eq port (get_or pins j d).name ≡ false
pin_fails port pins j d below never = by (bytes_eq port (get_or pins j d).name) refl
  where
    by : (b : Bool) → bytes_eq port (get_or pins j d).name ≡ b → bytes_eq port (get_or pins j d).name ≡ false
    by true same = absurd (never (record {
      text = get_or-map (λ (pin : Pin). pin.name) pins j d [] below ∙ sym ((bytes_eq-Decides port (get_or pins j d).name).0 same);
    }))
    by false same = same

abbrev pub no_pin : Pin
no_pin = record { name = []; direction = Input; cap = record { 0 = 0 } }

abbrev pub distinct_texts : List ℕ → List ℕ → Type 0
distinct_texts one other = one ≢ other

-- what the table of a cell's pins finds
pub pin_found : (pins : List Pin) (kept : CellPins) → AreCellPins pins kept → (name : Bor (List ℕ)) (result : Option ℕ)
    → result ≡ lookup (λ other. bytes_eq name.now other.now) kept.numbers.numbers.entries
    → IsFoundBy (IsPinNamed (pin_names pins)) (length (pin_names pins)) name.now result
pin_found pins kept are name result is = subst (IsFoundBy (IsPinNamed (pin_names pins)) (length (pin_names pins)) name.now) (sym is) (are.numbers name)

-- a text among distinct texts has its first place
pub text_place : (texts : List (List ℕ)) (text : List ℕ) (j : ℕ) → AreDistinct texts → slice_get texts j ≡ Some text → j ≡ position_or_len (bytes_eq text) texts
text_place texts text j distinct here =
    let below = slice_get_within texts j text here in
    let is : get_or texts j [] ≡ text = get_or_from_slice_get texts j text [] here in
    place_at (bytes_eq text) texts j [] below ((bytes_eq-Decides text (get_or texts j [])).1 (sym is)) (λ i less. other i (λ same. distinct i j [] less below (sym same ∙ sym is)))
  where
    other : (i : ℕ) → (text ≡ get_or texts i [] → ⊥) → bytes_eq text (get_or texts i []) ≡ false
    other i never = by (bytes_eq text (get_or texts i [])) refl
      where
        by : (b : Bool) → bytes_eq text (get_or texts i []) ≡ b → bytes_eq text (get_or texts i []) ≡ false
        by true same = absurd (never ((bytes_eq-Decides text (get_or texts i [])).0 same))
        by false same = same
