-- What the bits of a name are on, where a connection joins something to it and where none does.
use Rattle.std.proofs.Common.{◌≡◌, ℕ, zero, suc, ◌+◌, ◌<◌, if◌then◌else◌, List, [], ◌∷◌, ◌++◌, length, map, take, get_or, Option, Some, None, refl, sym, ap, ap₂, ◌∙◌, arith, append-nil, append_assoc, ext_get_or}
use Rattle.std.specs.Prelude.{slice_get, is_none}
use Rattle.std.proofs.lemmas.Option.{slice_get-get_or}
use Rattle.std.proofs.lemmas.List.{map-append, length-map, get_or-map}
use Rattle.std.proofs.lemmas.Grind.{flat_map-append}
use Rattle.verilog_netlist.specs.NetModules.{NetModule, bit_after, bits_from, bits_of_run, bits_in}
use Rattle.verilog_netlist.specs.Ranges.{whole_width}
use Rattle.verilog_netlist.specs.SoundModules.{AreWithin}
use Rattle.verilog_netlist.specs.declared.runs.Bit.{Bit}
use Rattle.verilog_netlist.specs.declared.runs.Bit.TheVariants.{Tied, Wire}
use Rattle.verilog_netlist.specs.declared.runs.Run.{Run}
use Rattle.hierarchy.specs.Walks.{joined_from}
use Rattle.netlist_link.specs.FlatBits.{flat_bit, carried, decided, joined_above, name_on, bits_of_name, nets_of_name}
use Rattle.netlist_link.specs.FlatPins.{net_in, wired}
use Rattle.netlist_link.specs.BitTables.{IsBitIn}
use Rattle.netlist_link.specs.FlatBitTables.{targets_of_name, visits_of, names_of}
use Rattle.netlist_link.specs.declared.checking.Design.{Design}
use Rattle.netlist_link.proofs.Pushing.{take_push}
use Rattle.netlist_link.proofs.BitPlaces.{singles_read, targets_len}
use Rattle.netlist_link.specs.declared.flat_bits.NamePlaces.{NamePlaces}

map_singles : {X Y : Type 0} (w : X → Y) (g : ℕ → X) (f : ℕ → Y) → ((b : ℕ) → w (g b) ≡ f b) → (from n : ℕ)
    → map w (joined_from (λ b. g b ∷ []) from n) ≡ joined_from (λ b. f b ∷ []) from n
map_singles w g f each from zero = refl
map_singles w g f each from (suc n) = ap₂ (λ (y : _) (l : List _). y ∷ l) (each from) (map_singles w g f each (suc from) n)

module _ (modules : List NetModule) (top : ℕ) where
  -- a bit to which nothing is joined is a net of its own
  own_bit : (path : List ℕ) (name bit : ℕ) → joined_above modules top path name ≡ None
      → wired modules top path (Wire name bit) ≡ Some (record { path = path; name = name; bit = bit })
  unfolding flat_bit
  own_bit [] name bit is = refl
  own_bit (k ∷ outer) name bit is =
      ap (λ (j : Option (List Bit)). net_in (decided (flat_bit modules top outer) (record { path = k ∷ outer; name = name; bit = bit }) j)) is

  -- a bit to which something is joined is on that
  joined_bit : (k : ℕ) (outer : List ℕ) (name bit : ℕ) (bits : List Bit) (b : Bit) → joined_above modules top (k ∷ outer) name ≡ Some bits
      → slice_get bits bit ≡ Some b → wired modules top (k ∷ outer) (Wire name bit) ≡ wired modules top outer b
  unfolding flat_bit
  joined_bit k outer name bit bits b is at =
      ap (λ (j : Option (List Bit)). net_in (decided (flat_bit modules top outer) (record { path = k ∷ outer; name = name; bit = bit }) j)) is
      ∙ ap (λ (o : Option Bit). net_in (carried (flat_bit modules top outer) o)) at ∙ last b
    where
      last : (b : Bit) → net_in (carried (flat_bit modules top outer) (Some b)) ≡ wired modules top outer b
      last Tied = refl
      last (Wire n i) = refl

  module _ (path : List ℕ) (name : ℕ) where
    pub own_targets : joined_above modules top path name ≡ None → map Some (bits_of_name modules top path name) ≡ targets_of_name modules top path name
    own_targets is = map_singles Some (λ bit. record { path = path; name = name; bit = bit }) (λ bit. wired modules top path (Wire name bit))
        (λ bit. sym (own_bit path name bit is)) 0 (whole_width (name_on modules top path name).range)

    pub own_nets : joined_above modules top path name ≡ None → bits_of_name modules top path name ≡ nets_of_name modules top path name
    own_nets is = ap (λ (j : Option (List Bit)). if is_none j then bits_of_name modules top path name else []) (sym is)

    pub joined_nets : (bits : List Bit) → joined_above modules top path name ≡ Some bits → [] ≡ nets_of_name modules top path name
    joined_nets bits is = ap (λ (j : Option (List Bit)). if is_none j then bits_of_name modules top path name else []) (sym is)

  pub joined_targets : (k : ℕ) (outer : List ℕ) (name : ℕ) (bits : List Bit) (old : NamePlaces) → joined_above modules top (k ∷ outer) name ≡ Some bits
      → length bits ≡ whole_width (name_on modules top (k ∷ outer) name).range
      → map (wired modules top outer) bits ≡ targets_of_name modules top (k ∷ outer) name
  joined_targets k outer name bits old is width =
      let path = k ∷ outer in
      let many = length-map bits (wired modules top outer) in
      let len = targets_len modules top path old name in
      ext_get_or None (map (wired modules top outer) bits) (targets_of_name modules top path name) (omega arith)
      (λ j less. get_or-map (wired modules top outer) bits j Tied None (omega arith)
      ∙ sym (joined_bit k outer name j bits (get_or bits j Tied) is (slice_get-get_or bits j Tied (omega arith)))
      ∙ (let from : j ≡ 0 + j = omega arith in ap (λ (b : ℕ). wired modules top path (Wire name b)) from)
      ∙ sym (singles_read (λ b. wired modules top path (Wire name b)) 0 (whole_width (name_on modules top path name).range) j None (omega arith)))

after_once : (first : Bit) (n : ℕ) → bit_after (bit_after first 1) n ≡ bit_after first (suc n)
after_once Tied n = refl
after_once (Wire name bit) n = let same : (bit + 1) + n ≡ bit + suc n = omega arith in ap (Wire name) same

after_none : (first : Bit) → first ≡ bit_after first 0
after_none Tied = refl
after_none (Wire name bit) = let same : bit ≡ bit + 0 = omega arith in ap (Wire name) same

-- a bit of a run more
pub bits_push : (first : Bit) (n : ℕ) → bits_from first (n + 1) ≡ bits_from first n ++ bit_after first n ∷ []
bits_push first n = let e : n + 1 ≡ suc n = omega arith in ap (bits_from first) e ∙ by n first
  where
    by : (n : ℕ) (first : Bit) → bits_from first (suc n) ≡ bits_from first n ++ bit_after first n ∷ []
    by zero first = ap (λ (b : Bit). b ∷ []) (after_none first)
    by (suc n) first = ap (λ (l : List Bit). first ∷ l) (by n (bit_after first 1) ∙ ap (λ (b : Bit). bits_from (bit_after first 1) n ++ b ∷ []) (after_once first n))

module _ {X : Type 0} (w : Bit → X) (before : List X) where
  -- a bit of a run more
  pub run_push : (first : Bit) (n : ℕ) → (before ++ map w (bits_from first n)) ++ w (bit_after first n) ∷ [] ≡ before ++ map w (bits_from first (n + 1))
  run_push first n =
      append_assoc before (map w (bits_from first n)) (w (bit_after first n) ∷ [])
      ∙ ap (λ (l : List X). before ++ l) (sym (ap (map w) (bits_push first n) ∙ map-append w (bits_from first n) (bit_after first n ∷ [])))

  -- a run more
  pub runs_push : (runs : List Run) (r : ℕ) (run : Run) → slice_get runs r ≡ Some run
      → (before ++ map w (bits_in (take r runs))) ++ map w (bits_of_run run) ≡ before ++ map w (bits_in (take (r + 1) runs))
  runs_push runs r run here =
      let bits : bits_in (take (r + 1) runs) ≡ bits_in (take r runs) ++ bits_of_run run =
      ap bits_in (take_push runs r run here) ∙ flat_map-append bits_of_run (take r runs) (run ∷ [])
      ∙ ap (λ (l : List Bit). bits_in (take r runs) ++ l) (append-nil (bits_of_run run)) in
      append_assoc before (map w (bits_in (take r runs))) (map w (bits_of_run run))
      ∙ ap (λ (l : List X). before ++ l) (sym (ap (map w) bits ∙ map-append w (bits_in (take r runs)) (bits_of_run run)))

-- a bit of a run within ranges is one in the visited module
pub run_inside : (d : Design) (visit : ℕ) (first : Bit) (count n : ℕ) → visit < length (visits_of d) → AreWithin (names_of d visit) first count
    → n < count → IsBitIn d visit (bit_after first n)
run_inside d visit Tied count n below within less = tt
run_inside d visit (Wire name bit) count n below within less = record {
  visit_below = below;
  name_below = within.0;
  bit_below = (let most = within.1 in omega arith);
}
