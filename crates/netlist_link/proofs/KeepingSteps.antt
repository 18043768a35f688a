-- One bit more of a name, and the visited module that a table names.
use Rattle.std.proofs.Common.{◌≡◌, ℕ, ◌+◌, ◌<◌, List, [], ◌∷◌, ◌++◌, length, map, get_or, Option, Some, sym, ap, ◌∙◌, subst, arith, append-nil, append_assoc}
use Rattle.std.proofs.lemmas.List.{map-append}
use Rattle.hierarchy.specs.Hierarchy.{module_on, lower_of, instance_count}
use Rattle.hierarchy.specs.Walks.{joined_from}
use Rattle.hierarchy.proofs.Joining.{joined-more}
use Rattle.hierarchy.specs.declared.walking.Visit.{Visit}
use Rattle.verilog_netlist.specs.Ranges.{whole_width}
use Rattle.netlist_link.specs.FlatBits.{NetBit, joined_above, name_on}
use Rattle.netlist_link.specs.FlatPins.{wired}
use Rattle.netlist_link.specs.PathTables.{IsWalk, top_of, no_visit, visit_at, around_at}
use Rattle.netlist_link.specs.BitTables.{path_of, module_of, net_bit_of}
use Rattle.netlist_link.specs.FlatBitTables.{visits_of, targets_of_name, HoldBits, joined_bits, IsJoinedBy}
use Rattle.netlist_link.specs.declared.checking.Design.{Design}
use Rattle.netlist_link.specs.declared.flat_bits.FlatBits.{FlatBits}
use Rattle.netlist_link.specs.declared.flat_bits.NamePlaces.{NamePlaces}
use Rattle.netlist_link.specs.declared.flat_bits.NetPlace.{NetPlace}
use Rattle.netlist_link.proofs.PathSteps.{visit_is, path_is, parent_before, around_is, lower_here, module_within}
use Rattle.netlist_link.proofs.JoinedBits.{joined_targets}

-- the first so many bits of a name of a visited module
abbrev pub own_bits : Design → ℕ → ℕ → ℕ → List NetBit
own_bits d visit name many = joined_from (λ bit. record { path = path_of d visit; name = name; bit = bit } ∷ []) 0 many

module _ (d : Design) (started : ℕ) (targets : List (Option NetBit)) (nets : List NetBit) (bits : FlatBits) where
  pub no_targets_more : HoldBits d started targets nets bits → HoldBits d started (targets ++ []) nets bits
  no_targets_more held = subst (λ (l : List (Option NetBit)). HoldBits d started l nets bits) (sym (append-nil targets)) held

  pub no_nets_more : HoldBits d started targets nets bits → HoldBits d started targets (nets ++ []) bits
  no_nets_more held = subst (λ (l : List NetBit). HoldBits d started targets l bits) (sym (append-nil nets)) held

  pub own_push : (visit name i : ℕ) (place : NetPlace) → place.visit ≡ visit → place.name ≡ name → place.bit ≡ i
      → HoldBits d started ((targets ++ map Some (own_bits d visit name i)) ++ Some (net_bit_of d place) ∷ [])
      ((nets ++ own_bits d visit name i) ++ net_bit_of d place ∷ []) bits
      → HoldBits d started (targets ++ map Some (own_bits d visit name (i + 1))) (nets ++ own_bits d visit name (i + 1)) bits
  own_push visit name i place visit_is name_is bit_is held =
      let own = own_bits d visit name i in
      let from : i ≡ 0 + i = omega arith in
      let net : net_bit_of d place ≡ record { path = path_of d visit; name = name; bit = 0 + i } =
      λ k. record { path = path_of d (visit_is k); name = name_is k; bit = (bit_is ∙ from) k } in
      let more : own ++ net_bit_of d place ∷ [] ≡ own_bits d visit name (i + 1) =
      ap (λ (n : NetBit). own ++ n ∷ []) net
      ∙ sym (joined-more (λ bit. record { path = path_of d visit; name = name; bit = bit } ∷ []) 0 i) in
      let one = append_assoc targets (map Some own) (Some (net_bit_of d place) ∷ [])
      ∙ ap (λ (l : List (Option NetBit)). targets ++ l) (sym (map-append Some own (net_bit_of d place ∷ [])) ∙ ap (map Some) more) in
      let two = append_assoc nets own (net_bit_of d place ∷ []) ∙ ap (λ (l : List NetBit). nets ++ l) more in
      subst (λ (l : List NetBit). HoldBits d started (targets ++ map Some (own_bits d visit name (i + 1))) l bits) two
      (subst (λ (l : List (Option NetBit)). HoldBits d started l ((nets ++ own) ++ net_bit_of d place ∷ []) bits) one held)

module _ (d : Design) (walk : IsWalk d.modules.now d.walk.now) (v : ℕ) (below : v < length d.walk.now.visits) (visits : List Visit)
    (are : visits ≡ d.walk.now.visits) where
  -- the module of a visit, read from the table
  pub module_read : (get_or visits v no_visit).«module» ≡ module_of d v
  module_read = ap (λ (l : List Visit). (get_or l v no_visit).«module») are ∙ (visit_is d.modules.now (top_of d.walk.now) d.walk.now walk v below).here

  pub visited : v < length (visits_of d)
  visited = let count = walk.visits_count in omega arith

module _ (d : Design) (walk : IsWalk d.modules.now d.walk.now) (v : ℕ) (lower : 0 < v) (below : v < length d.walk.now.visits) where
  abbrev parent : ℕ
  parent = (visit_at d.walk.now v).parent

  abbrev k : ℕ
  k = (visit_at d.walk.now v).instance

  abbrev around : ℕ
  around = (around_at d.walk.now v).«module»

  pub parent_less : parent < v
  parent_less = parent_before d.modules.now (top_of d.walk.now) d.walk.now walk v lower below

  pub parent_below : parent < length d.walk.now.visits
  parent_below = let less = parent_less in omega arith

  -- the module around a visited one, and the instance that this is
  pub around_module : around ≡ module_of d parent
  around_module = around_is d.modules.now (top_of d.walk.now) d.walk.now walk v lower below

  pub instance_within : k < instance_count d.modules.now around
  instance_within = (lower_here d.modules.now (top_of d.walk.now) d.walk.now walk v lower below).0

  pub around_within : around < length d.modules.now
  around_within = module_within d.modules.now around k instance_within

  pub path_there : path_of d v ≡ k ∷ path_of d parent
  path_there = path_is d.modules.now (top_of d.walk.now) d.walk.now walk v lower below

  -- the module of a visit below the top is one of the file
  pub lower_module_within : module_of d v < length d.modules.now
  lower_module_within =
      subst (λ (path : List ℕ). module_on d.modules.now (top_of d.walk.now) path < length d.modules.now) (sym path_there)
      (subst (λ (m : ℕ). lower_of d.modules.now m k < length d.modules.now) around_module
      (lower_here d.modules.now (top_of d.walk.now) d.walk.now walk v lower below).1)

  -- what is joined to a name decides what its bits are on
  pub lower_targets : (old : NamePlaces) (name c : ℕ) → IsJoinedBy d v name c
      → map (wired d.modules.now (top_of d.walk.now) (path_of d parent)) (joined_bits d v c)
      ≡ targets_of_name d.modules.now (top_of d.walk.now) (path_of d v) name
  lower_targets old name c joined =
      subst (λ (path : List ℕ). joined_above d.modules.now (top_of d.walk.now) path name ≡ Some (joined_bits d v c)
      → length (joined_bits d v c) ≡ whole_width (name_on d.modules.now (top_of d.walk.now) path name).range
      → map (wired d.modules.now (top_of d.walk.now) (path_of d parent)) (joined_bits d v c)
      ≡ targets_of_name d.modules.now (top_of d.walk.now) path name) (sym path_there)
      (joined_targets d.modules.now (top_of d.walk.now) k (path_of d parent) name (joined_bits d v c) old) joined.joined joined.width
