-- In the flat netlist of a design no two bits of ports have one name, since no two nets have.
use Rattle.std.proofs.Common.{◌≡◌, ◌≢◌, ℕ, zero, suc, ◌<◌, Bool, true, false, if◌then◌else◌, List, [], ◌∷◌, ◌++◌, length, map, get_or, sym, ap, subst, ◌∙◌, arith}
use Rattle.std.specs.Prelude.{All, filter_map, ⊤}
use Rattle.std.specs.List.{flat_map}
use Rattle.std.proofs.lemmas.List.{get_or-map, length-map, map-append}
use Rattle.std.proofs.lemmas.List.Concat.{flat_map-cons}
use Rattle.std.proofs.lemmas.List.Elements.{All-nil, All-cons, All-head, All-tail, All-append, All-get_or}
use Rattle.std.proofs.lemmas.Option.{slice_get-get_or}
use Rattle.cell_models.specs.NamedSets.{NamedCells}
use Rattle.name_table.specs.Names.{AreDistinct}
use Rattle.verilog_netlist.specs.NetModules.{NetModule}
use Rattle.hierarchy.specs.Walks.{joined_from, whole_walk, entered}
use Rattle.netlist_link.specs.FlatBits.{NetBit, is_port, name_on, names_on, bits_of_name, nets_of_visit, nets, top_ports}
use Rattle.netlist_link.specs.FlatDesigns.{IsFlatDesign}
use Rattle.netlist_link.specs.FlatNames.{net_text}
use Rattle.netlist_link.specs.FlatNetlist.{FlatNetlist, FlatPort, no_port}
use Rattle.net_parasitics.specs.Inputs.{AreNamedApart}

-- no two texts of a list are one, by recursion
abbrev Differ : List (List ℕ) → Type 0
Differ [] = ⊤
Differ (x ∷ xs) = All (λ y. x ≢ y) xs × Differ xs

differ_from : (xs : List (List ℕ)) → AreDistinct xs → Differ xs
differ_from [] apart = tt
differ_from (x ∷ xs) apart = (
  (λ k d below same. apart 0 (suc k) d (omega arith) (omega (arith, below)) same),
  differ_from xs (λ i j d less below same. apart (suc i) (suc j) d (omega (arith, less)) (omega (arith, below)) same),
)

distinct_from : (xs : List (List ℕ)) → Differ xs → AreDistinct xs
distinct_from [] differ i j d less below same = absurd (omega (arith, below))
distinct_from (x ∷ xs) differ i zero d less below same = absurd (omega (arith, less))
distinct_from (x ∷ xs) differ zero (suc j) d less below same = All-get_or (λ y. x ≢ y) xs j d (omega (arith, below)) differ.0 same
distinct_from (x ∷ xs) differ (suc i) (suc j) d less below same = distinct_from xs differ.1 i j d (omega (arith, less)) (omega (arith, below)) same

abbrev AcrossDiffer : List (List ℕ) → List (List ℕ) → Type 0
AcrossDiffer xs ys = All (λ x. All (λ y. x ≢ y) ys) xs

all_front : (P : List ℕ → Type 0) (xs ys : List (List ℕ)) → All P (xs ++ ys) → All P xs
all_front P [] ys all = All-nil P
all_front P (x ∷ xs) ys all = All-cons P x xs (All-head P x (xs ++ ys) all) (all_front P xs ys (All-tail P x (xs ++ ys) all))

all_back : (P : List ℕ → Type 0) (xs ys : List (List ℕ)) → All P (xs ++ ys) → All P ys
all_back P [] ys all = all
all_back P (x ∷ xs) ys all = all_back P xs ys (All-tail P x (xs ++ ys) all)

front_differ : (xs ys : List (List ℕ)) → Differ (xs ++ ys) → Differ xs
front_differ [] ys differ = tt
front_differ (x ∷ xs) ys differ = (all_front (λ y. x ≢ y) xs ys differ.0, front_differ xs ys differ.1)

back_differ : (xs ys : List (List ℕ)) → Differ (xs ++ ys) → Differ ys
back_differ [] ys differ = differ
back_differ (x ∷ xs) ys differ = back_differ xs ys differ.1

across_differ : (xs ys : List (List ℕ)) → Differ (xs ++ ys) → AcrossDiffer xs ys
across_differ [] ys differ = All-nil (λ x. All (λ y. x ≢ y) ys)
across_differ (x ∷ xs) ys differ = All-cons (λ x. All (λ y. x ≢ y) ys) x xs (all_back (λ y. x ≢ y) xs ys differ.0) (across_differ xs ys differ.1)

both_differ : (xs ys : List (List ℕ)) → Differ xs → Differ ys → AcrossDiffer xs ys → Differ (xs ++ ys)
both_differ [] ys first second across = second
both_differ (x ∷ xs) ys first second across = (
  All-append (λ y. x ≢ y) xs ys first.0 (All-head (λ x. All (λ y. x ≢ y) ys) x xs across),
  both_differ xs ys first.1 second (All-tail (λ x. All (λ y. x ≢ y) ys) x xs across),
)

-- some of the lists that are joined are left out
module _ (text : NetBit → List ℕ) (keep : ℕ → Bool) (lists : ℕ → List NetBit) where
  kept_all : (P : List ℕ → Type 0) (from count : ℕ) → All P (map text (joined_from lists from count)) → All P (map text (joined_from (λ n. if keep n then lists n else []) from count))
  kept_all P from zero all = All-nil P
  kept_all P from (suc count) all = by (keep from) (kept_all P (suc from) count (all_back P (map text (lists from)) (map text (joined_from lists (suc from) count)) parts))
    where
      parts : All P (map text (lists from) ++ map text (joined_from lists (suc from) count))
      parts = subst (All P) (map-append text (lists from) (joined_from lists (suc from) count)) all

      by : (b : Bool) → All P (map text (joined_from (λ n. if keep n then lists n else []) (suc from) count)) → All P (map text ((if b then lists from else []) ++ joined_from (λ n. if keep n then lists n else []) (suc from) count))
      by true behind = subst (All P) (sym (map-append text (lists from) (joined_from (λ n. if keep n then lists n else []) (suc from) count)))
          (All-append P (map text (lists from)) (map text (joined_from (λ n. if keep n then lists n else []) (suc from) count))
          (all_front P (map text (lists from)) (map text (joined_from lists (suc from) count)) parts) behind)
      by false behind = behind

  kept_across : (xs : List (List ℕ)) (from count : ℕ) → AcrossDiffer xs (map text (joined_from lists from count)) → AcrossDiffer xs (map text (joined_from (λ n. if keep n then lists n else []) from count))
  kept_across xs from count across = λ k d below. kept_all (λ y. get_or xs k d ≢ y) from count (across k d below)

  kept_differ : (from count : ℕ) → Differ (map text (joined_from lists from count)) → Differ (map text (joined_from (λ n. if keep n then lists n else []) from count))
  kept_differ from zero differ = tt
  kept_differ from (suc count) differ = by (keep from) (kept_differ (suc from) count (back_differ (map text (lists from)) (map text (joined_from lists (suc from) count)) parts))
    where
      parts : Differ (map text (lists from) ++ map text (joined_from lists (suc from) count))
      parts = subst Differ (map-append text (lists from) (joined_from lists (suc from) count)) differ

      by : (b : Bool) → Differ (map text (joined_from (λ n. if keep n then lists n else []) (suc from) count)) → Differ (map text ((if b then lists from else []) ++ joined_from (λ n. if keep n then lists n else []) (suc from) count))
      by true behind = subst Differ (sym (map-append text (lists from) (joined_from (λ n. if keep n then lists n else []) (suc from) count)))
          (both_differ (map text (lists from)) (map text (joined_from (λ n. if keep n then lists n else []) (suc from) count))
          (front_differ (map text (lists from)) (map text (joined_from lists (suc from) count)) parts) behind
          (kept_across (map text (lists from)) (suc from) count (across_differ (map text (lists from)) (map text (joined_from lists (suc from) count)) parts)))
      by false behind = behind

-- the bits of the top's ports are nets of the top
port_texts_differ : (modules : List NetModule) (top : ℕ) → AreDistinct (map (net_text modules top) (nets modules top)) → AreDistinct (map (net_text modules top) (top_ports modules top))
port_texts_differ modules top apart =
    let text = net_text modules top in
    let names = names_on modules top [] in
    let others = flat_map (nets_of_visit modules top) (filter_map (entered modules top) (whole_walk modules top)) in
    let all : Differ (map text (nets_of_visit modules top []) ++ map text others) =
    subst Differ (ap (map text) (flat_map-cons (nets_of_visit modules top) [] (filter_map (entered modules top) (whole_walk modules top))) ∙ map-append text (nets_of_visit modules top []) others) (differ_from (map text (nets modules top)) apart) in
    distinct_from (map text (top_ports modules top))
    (kept_differ text (λ name. is_port (name_on modules top [] name)) (bits_of_name modules top []) 0 (length names) (front_differ (map text (nets_of_visit modules top [])) (map text others) all))

pub named_apart : (modules : List NetModule) (name : List ℕ) (cells : List NamedCells) (netlist : FlatNetlist) → IsFlatDesign modules name cells netlist → AreNamedApart netlist
named_apart modules name cells netlist design = record {
  instances = design.is.instance_names;
  ports = λ i j d less below same.
      let text = net_text modules design.top in
      let bits = top_ports modules design.top in
      let many = length-map netlist.ports (λ (port : FlatPort). port.text) in
      let high : j < length netlist.ports = omega (arith, below, many) in
      let low : i < length netlist.ports = omega (arith, less, high) in
      let counted : length netlist.ports ≡ length bits = design.is.ports.count in
      let none : NetBit = record { path = []; name = 0; bit = 0 } in
      let named : (k : ℕ) → k < length netlist.ports → get_or (map (λ (port : FlatPort). port.text) netlist.ports) k d ≡ get_or (map text bits) k d =
      (λ k within.
      let inside : k < length bits = omega (arith, within, counted) in
      get_or-map (λ (port : FlatPort). port.text) netlist.ports k no_port d within
      ∙ (design.is.ports.each k (get_or bits k none) (get_or netlist.ports k no_port) (slice_get-get_or bits k none inside) (slice_get-get_or netlist.ports k no_port within)).text
      ∙ sym (get_or-map text bits k none d inside)) in
      port_texts_differ modules design.top (subst AreDistinct design.is.nets_are design.is.net_names) i j d less (let bits_many = length-map bits text in omega (arith, high, counted, bits_many))
      (sym (named i low) ∙ same ∙ named j high);
}
