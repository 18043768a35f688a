-- Why a design cannot be walked through, and that it can.
use Rattle.std.proofs.Common.{◌≡◌, ℕ, suc, ◌<◌, ◌≤◌, List, length, get_or, min, refl, sym, ap, ◌∙◌, subst, arith}
use Rattle.std.proofs.lemmas.List.{get_or_default}
use Rattle.verilog_netlist.specs.NetModules.{NetModule, module_at}
use Rattle.hierarchy.specs.Walks.{most_depth}
use Rattle.hierarchy.specs.Uses.{IsTop, ContainsItself, IsTooDeep, IsWalkable, IsUseEnd, instances_visited, bits_visited, connections_visited, most_instances, most_name_bits, most_connections, recursive, too_deep, instances, names, pins, no_memory}
use Rattle.hierarchy.specs.Lowers.{AreLowers, Leads, IsRound}
use Rattle.hierarchy.specs.Orders.{IsOrderOf}
use Rattle.hierarchy.specs.Passes.{value_at, IsPassed, IsDepth, IsTotal, cap}
use Rattle.hierarchy.specs.Limits.{IsShallow, IsOver, visited_of, limit_of}
use Rattle.hierarchy.specs.declared.uses.Count.{Count}
use Rattle.hierarchy.specs.declared.uses.Count.TheVariants.{Depth, Instances, Names, Pins}
use Rattle.hierarchy.specs.declared.uses.UseEnd.{UseEnd}
use Rattle.hierarchy.specs.declared.uses.UseEnd.TheVariants.{NoTop, Recursive, TooMany, OutOfMemory}
use Rattle.hierarchy.proofs.Paths.{contains_itself, on-within, path_of}
use Rattle.hierarchy.proofs.Heights.{finite, shallow, deep}
use Rattle.hierarchy.proofs.Growing.{grown_none, totals_are, instances_are, bits_are, connections_are}

pub limit_few : (count : Count) → limit_of count < cap
limit_few Depth = omega arith
limit_few Instances = omega arith
limit_few Names = omega arith
limit_few Pins = omega arith

module _ (modules : List NetModule) (top : ℕ) (within : top < length modules) where
  name_of_top : List ℕ
  name_of_top = (module_at modules top).name

  pub is_top : IsTop modules (module_at modules top).name top
  is_top = record { within = within; named = refl }

  pub memory_end : IsUseEnd modules (module_at modules top).name OutOfMemory
  memory_end = no_memory

  module _ (lowers : List (List ℕ)) (are : AreLowers modules lowers) where
    pub recursive_end : (m : ℕ) → Leads lowers top m × IsRound lowers m → IsUseEnd modules (module_at modules top).name (Recursive (module_at modules m).name)
    recursive_end m h = recursive top m is_top (contains_itself modules lowers are top m within h.0 h.1)

    pub round_within : (m : ℕ) → Leads lowers top m × IsRound lowers m → m < length modules
    round_within m h =
        let path = path_of modules lowers are top h.0.trail within h.0.is_trail in
        subst (λ x. x < length modules) (path.ends ∙ h.0.ends) (on-within modules top path.path within path.is_path)

    module _ (order : List ℕ) (is : IsOrderOf lowers top order) where
      pub read_value : (values : List ℕ) (read : ℕ) → length values ≡ length lowers → read ≡ get_or values top read → value_at values top ≡ read
      read_value values read size e =
          let same = are.size in get_or_default values top 0 read (omega arith) ∙ sym e

      pub deep_end : (depths : List ℕ) → IsPassed lowers order IsDepth depths (length order) → most_depth < value_at depths top
          → IsUseEnd modules (module_at modules top).name (TooMany Depth)
      deep_end depths passed lt = too_deep top is_top
          (finite lowers order depths is.sorted passed modules are top within is.has_top)
          (deep lowers order depths is.sorted passed modules are top within is.has_top lt)

      pub total_cut : (totals : List ℕ) (count : Count) → IsShallow lowers order top → IsPassed lowers order (IsTotal modules count) totals (length order)
          → value_at totals top ≡ min cap (visited_of modules top count)
      total_cut totals count h passed = by count passed
        where
          by : (count : Count) → IsPassed lowers order (IsTotal modules count) totals (length order)
              → value_at totals top ≡ min cap (visited_of modules top count)
          by Depth p = let e = grown_none modules most_depth top in
              totals_are modules lowers are order h.depths totals Depth is.sorted h.passed p most_depth top is.has_top h.few
              ∙ ap (min cap) e
          by Instances p = let e = instances_are modules top in
              totals_are modules lowers are order h.depths totals Instances is.sorted h.passed p most_depth top is.has_top h.few
              ∙ ap (min cap) (sym e)
          by Names p = let e = bits_are modules top in
              totals_are modules lowers are order h.depths totals Names is.sorted h.passed p (suc most_depth) top is.has_top
              (omega (arith, h.few))
              ∙ ap (min cap) (sym e)
          by Pins p = let e = connections_are modules top in
              totals_are modules lowers are order h.depths totals Pins is.sorted h.passed p most_depth top is.has_top h.few
              ∙ ap (min cap) (sym e)

      module _ (h : IsShallow lowers order top) where
        no_round_in : (m : ℕ) → ContainsItself modules top m → ⊥
        no_round_in = finite lowers order h.depths is.sorted h.passed modules are top within is.has_top

        not_deep : IsTooDeep modules top → ⊥
        not_deep = shallow lowers order h.depths is.sorted h.passed modules are top within is.has_top h.few

        pub instances_end : (end : UseEnd) → IsOver modules top Instances most_instances end → IsUseEnd modules (module_at modules top).name end
        instances_end NoTop o = absurd o
        instances_end (Recursive name) o = absurd o
        instances_end (TooMany which) o =
            subst (λ w. IsUseEnd modules (module_at modules top).name (TooMany w)) (sym o.0) (instances top is_top no_round_in not_deep o.1)
        instances_end OutOfMemory o = no_memory

        pub names_end : instances_visited modules top ≤ most_instances → (end : UseEnd) → IsOver modules top Names most_name_bits end
            → IsUseEnd modules (module_at modules top).name end
        names_end i NoTop o = absurd o
        names_end i (Recursive name) o = absurd o
        names_end i (TooMany which) o =
            subst (λ w. IsUseEnd modules (module_at modules top).name (TooMany w)) (sym o.0) (names top is_top no_round_in not_deep i o.1)
        names_end i OutOfMemory o = no_memory

        pub pins_end : instances_visited modules top ≤ most_instances → bits_visited modules top ≤ most_name_bits
            → (end : UseEnd) → IsOver modules top Pins most_connections end → IsUseEnd modules (module_at modules top).name end
        pins_end i b NoTop o = absurd o
        pins_end i b (Recursive name) o = absurd o
        pins_end i b (TooMany which) o =
            subst (λ w. IsUseEnd modules (module_at modules top).name (TooMany w)) (sym o.0) (pins top is_top no_round_in not_deep i b o.1)
        pins_end i b OutOfMemory o = no_memory

        pub walkable : instances_visited modules top ≤ most_instances → bits_visited modules top ≤ most_name_bits
            → connections_visited modules top ≤ most_connections → IsWalkable modules top
        walkable i b p = record { finite = no_round_in; shallow = not_deep; instances = i; bits = b; connections = p }
