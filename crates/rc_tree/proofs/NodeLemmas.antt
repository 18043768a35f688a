-- A node is among others where the test says so.
use Rattle.std.proofs.Common.{◌≡◌, ◌≢◌, ℕ, Bool, true, false, if◌then◌else◌, List, [], ◌∷◌, ◌++◌, length, Contains, Some, sym, ap, ◌∙◌, arith, true≢false}
use Rattle.std.specs.Prelude.{slice_get, AllPairs}
use Rattle.std.proofs.lemmas.List.{length-append, get_or_default}
use Rattle.std.proofs.lemmas.List.Quantifiers.{all_pairs_push}
use Rattle.std.proofs.lemmas.Option.{slice_get_within, get_or_from_slice_get, slice_get-get_or}
use Rattle.std.proofs.Math.Seq.{get_or-append_seam}
use Rattle.std.proofs.lemmas.Map.Views.{list_any-from_Contains}
use Rattle.indexmap.proofs.CallerLemmas.{Contains-list_any}
use Rattle.name_table.specs.NodeKeys.{same_key, among}
use Rattle.name_table.specs.SameKeys.{same_key_is, keys_equiv}
use Rattle.rc_tree.specs.Nodes.{Node, with_node}

pub among_is : (node : Node) (nodes : List Node) → Contains nodes node → among node nodes ≡ true
among_is node nodes there = list_any-from_Contains keys_equiv node nodes there

pub among_from : (node : Node) (nodes : List Node) → among node nodes ≡ true → Contains nodes node
among_from node nodes is = Contains-list_any same_key same_key_is nodes node is

-- ---- a node that is held, and one that is not

pub node_held : (node : Node) (nodes : List Node) (place : ℕ) → slice_get nodes place ≡ Some node → nodes ≡ with_node nodes node
node_held node nodes place at =
    let there = among_is node nodes (place, slice_get_within nodes place node at, get_or_from_slice_get nodes place node node at) in
    sym (ap (λ (b : Bool). if b then nodes else nodes ++ node ∷ []) there)

pub node_last : (node : Node) (nodes : List Node) → slice_get (nodes ++ node ∷ []) (length nodes) ≡ Some node
node_last node nodes =
    slice_get-get_or (nodes ++ node ∷ []) (length nodes) node (let size = length-append nodes (node ∷ []) in omega (arith, size)) ∙ ap Some (get_or-append_seam nodes node [] node)

pub nodes_apart : (node : Node) (nodes : List Node) → AllPairs (λ one other. one ≢ other) nodes → among node nodes ≡ false → AllPairs (λ one other. one ≢ other) (nodes ++ node ∷ [])
nodes_apart node nodes apart other =
    all_pairs_push (λ one other. one ≢ other) nodes node apart
    (λ k d below same. true≢false (sym (among_is node nodes (k, below, get_or_default nodes k node d below ∙ same)) ∙ other))
