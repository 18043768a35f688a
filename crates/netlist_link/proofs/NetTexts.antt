-- The name of a net, by the bit that it has its name of.
use Rattle.std.proofs.Common.{◌≡◌, ℕ, ◌+◌, ◌-◌, ◌<◌, ◌^◌, Bool, true, false, nat_lt, if◌then◌else◌, List, [], length, map, get_or, inl, inr, Some, refl, sym, ap, ◌∙◌, subst, arith}
use Rattle.std.specs.Prelude.{slice_get, option_map}
use Rattle.std.proofs.lemmas.Bool.{cases_lt, ltb-true}
use Rattle.std.proofs.lemmas.Option.{slice_get-get_or, slice_get-map}
use Rattle.std.proofs.lemmas.List.{get_or_past, get_or-map, length-map}
use Rattle.verilog_netlist.specs.NetModules.{NetModule, module_at, no_module}
use Rattle.verilog_netlist.specs.Ranges.{whole_width}
use Rattle.verilog_netlist.specs.declared.entries.Range.{Range}
use Rattle.hierarchy.specs.Walks.{visits}
use Rattle.netlist_link.specs.FlatNames.{index_at, path_text, net_text}
use Rattle.netlist_link.specs.PathTables.{IsWalk, top_of, visit_at, ArePaths, text_at}
use Rattle.netlist_link.specs.FlatBits.{NetBit}
use Rattle.netlist_link.specs.Clashes.{texts_of_nets}
use Rattle.netlist_link.specs.BitTables.{path_of, module_of, IsBitOf, nets_of, net_bit_of, AreNetPlaces}
use Rattle.netlist_link.specs.declared.flat_bits.NetPlace.{NetPlace}
use Rattle.netlist_link.specs.declared.checking.Design.{Design}
use Rattle.netlist_link.proofs.PathSteps.{visit_is}

-- a module that has a name is a module of the file
pub names_within : (modules : List NetModule) (m i : ℕ) → i < length (module_at modules m).names → m < length modules
names_within modules m i below = elim (cases_lt m (length modules)) [
  | inl less ↦ less
  | inr past ↦ (let none : length (module_at modules m).names ≡ 0 = ap (λ (found : NetModule). length found.names) (get_or_past modules m no_module past) in absurd (omega (arith, none, below)))
]

-- the index of a bit of a range fits where the bounds do
pub index_fits : (range : Range) (bit : ℕ) → range.left < 2 ^ 32 → range.right < 2 ^ 32 → bit < whole_width (Some range) → index_at range bit < 2 ^ 32
index_fits range bit left right below = by (nat_lt range.left range.right) refl
  where
    by : (b : Bool) → nat_lt range.left range.right ≡ b → index_at range bit < 2 ^ 32
    by true is = (let within : bit < range.right - range.left + 1 = subst (λ (b : Bool). bit < (if b then range.right - range.left else range.left - range.right) + 1) is below in
        let less = ltb-true range.left range.right is in rw is (omega arith))
    by false is = rw is (omega arith)

module _ (d : Design) (walk : IsWalk d.modules.now d.walk.now) (visit name bit : ℕ) (at : IsBitOf d visit name bit) where
  pub visited : visit < length d.walk.now.visits
  visited = let count = walk.visits_count in let below = at.visit_below in omega arith

  pub module_there : (visit_at d.walk.now visit).«module» ≡ module_of d visit
  module_there = (visit_is d.modules.now (top_of d.walk.now) d.walk.now walk visit visited).here

  pub name_there : name < length (module_at d.modules.now (visit_at d.walk.now visit).«module»).names
  name_there = subst (λ (m : ℕ). name < length (module_at d.modules.now m).names) (sym module_there) at.name_below

  pub within_there : (visit_at d.walk.now visit).«module» < length d.modules.now
  within_there = names_within d.modules.now (visit_at d.walk.now visit).«module» name name_there

  -- the path of a visited module
  pub path_there : ArePaths d.modules.now (top_of d.walk.now) d.paths.now → text_at d.paths.now visit ≡ path_text d.modules.now (top_of d.walk.now) (path_of d visit)
  path_there paths = ap (λ (l : List (List ℕ)). get_or l visit []) paths.texts_are
      ∙ get_or-map (path_text d.modules.now (top_of d.walk.now)) (visits d.modules.now (top_of d.walk.now)) visit [] [] at.visit_below

abbrev no_place : NetPlace
no_place = record { visit = 0; name = 0; bit = 0 }

-- the nets as they are kept, each with its name
module _ (d : Design) (places : List NetPlace) (are : AreNetPlaces d places) where
  abbrev text_of : NetBit → List ℕ
  text_of net = net_text d.modules.now (top_of d.walk.now) net

  pub nets_count : length (texts_of_nets d) ≡ length places
  nets_count = length-map (nets_of d) text_of ∙ sym (ap length are.nets_are) ∙ length-map places (net_bit_of d)

  module _ (n : ℕ) (below : n < length places) where
    abbrev place : NetPlace
    place = get_or places n no_place

    pub bit_there : IsBitOf d place.visit place.name place.bit
    bit_there = are.each n place (slice_get-get_or places n no_place below)

    pub text_there : slice_get (texts_of_nets d) n ≡ Some (text_of (net_bit_of d place))
    text_there =
        ap (λ (nets : List NetBit). slice_get (map text_of nets) n) (sym are.nets_are)
        ∙ slice_get-map text_of (map (net_bit_of d) places) n
        ∙ ap (option_map text_of) (slice_get-map (net_bit_of d) places n ∙ ap (option_map (net_bit_of d)) (slice_get-get_or places n no_place below))
