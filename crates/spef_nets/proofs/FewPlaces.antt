-- A written capacitance counts at two places at the most.
use Rattle.std.proofs.Common.{ℕ, ◌*◌, ◌≤◌, Bool, true, false, cond, List, [], ◌∷◌, length, filter, arith, length-append}
use Rattle.std.specs.Prelude.{Option, Some, None, option_to_list}
use Rattle.std.specs.List.{flat_map}
use Rattle.std.proofs.lemmas.List.{length-map}
use Rattle.name_table.specs.declared.spef_names.NodeName.{NodeName}
use Rattle.spef_text.specs.Entries.{Section}
use Rattle.spef_text.specs.SpefFiles.{SpefText}
use Rattle.spef_text.specs.declared.entries.Cap.{Cap}
use Rattle.spef_nets.specs.Nodes.{node_at, nodes_at, belongs}
use Rattle.spef_nets.specs.Elements.{Grounded, places_of, grounded}

few_kept : {X : Type 0} (p : X → Bool) (xs : List X) → length (filter p xs) ≤ length xs
few_kept p [] = omega arith
few_kept p (x ∷ xs) = by (p x) (few_kept p xs)
  where
    by : (b : Bool) → length (filter p xs) ≤ length xs → length (cond b (x ∷ filter p xs) (filter p xs)) ≤ length (x ∷ xs)
    by true few = omega (arith, few)
    by false few = omega (arith, few)

one_at_most : (node : Option NodeName) → length (option_to_list node) ≤ 1
one_at_most None = omega arith
one_at_most (Some node) = omega arith

few_nodes : (file : SpefText) (tokens : List ℕ) → length (nodes_at file tokens) ≤ length tokens
few_nodes file [] = omega arith
few_nodes file (token ∷ tokens) =
    let one = one_at_most (node_at file token) in
    let rest = few_nodes file tokens in
    let both = length-append (option_to_list (node_at file token)) (nodes_at file tokens) in
    omega (arith, one, rest, both)

few_places : (file : SpefText) (section : Section) (first : ℕ) (second : Option ℕ) → length (places_of file section first second) ≤ 2
few_places file section first None = let few = few_nodes file (first ∷ []) in omega (arith, few)
few_places file section first (Some second) =
    let kept = few_kept (belongs file section) (nodes_at file (first ∷ second ∷ [])) in
    let few = few_nodes file (first ∷ second ∷ []) in
    omega (arith, kept, few)

pub few_grounded : (file : SpefText) (section : Section) (caps : List Cap) → length (flat_map (grounded file section) caps) ≤ 2 * length caps
few_grounded file section [] = omega arith
few_grounded file section (first ∷ caps) =
    let few = few_places file section first.first first.second in
    let here = length-map {B = Grounded} (places_of file section first.first first.second) (λ node. record { node = node; value = first.value }) in
    let rest = few_grounded file section caps in
    let both = length-append (grounded file section first) (flat_map (grounded file section) caps) in
    omega (arith, few, here, rest, both)
