-- The names that are made of the tokens where nodes stand first.
use Rattle.std.proofs.Common.{◌≡◌, ℕ, zero, suc, ◌<◌, List, [], ◌∷◌, ◌++◌, length, map, true, Option, Some, None, Result, Ok, Err, refl, sym, ap, ◌∙◌, subst, arith}
use Rattle.std.specs.Prelude.{All, slice_get, slice_index, option_to_list, OnOk, OnErr}
use Rattle.std.proofs.lemmas.Grind.{flat_map-append}
use Rattle.std.proofs.lemmas.List.Elements.{All-push}
use Rattle.name_table.specs.declared.spef_names.NodeName.{NodeName}
use Rattle.spef_text.specs.SpefFiles.{SpefText}
use Rattle.spef_text.specs.Heads.{HeadText, text_of}
use Rattle.spef_text.specs.References.{IsNodeOf}
use Rattle.spef_nets.specs.Nodes.{node_at, nodes_at}
use Rattle.spef_nets.specs.NodeNames.{NamesOne, NameNodes, AreSpelled}
use Rattle.spef_nets.proofs.Lists.{map_at}
use Rattle.spef_nets.proofs.Naming.{resolved_node}

names_later : (file : SpefText) (token : ℕ) (tokens : List ℕ) → All (NamesOne file) (token ∷ tokens) → All (NamesOne file) tokens
names_later file token tokens all k d within = all (suc k) d (omega (arith, within))

nodes_first : (file : SpefText) (token : ℕ) (tokens : List ℕ) (node : NodeName) → node_at file token ≡ Some node → nodes_at file (token ∷ tokens) ≡ node ∷ nodes_at file tokens
nodes_first file token tokens node is = ap (λ (found : Option NodeName). option_to_list found ++ nodes_at file tokens) is

-- there are as many names as tokens
pub as_many_names : (file : SpefText) (tokens : List ℕ) → All (NamesOne file) tokens → length (nodes_at file tokens) ≡ length tokens
as_many_names file [] all = refl
as_many_names file (token ∷ tokens) all =
    let (node, is) = all 0 0 (omega (arith)) in
    ap length (nodes_first file token tokens node is) ∙ ap suc (as_many_names file tokens (names_later file token tokens all))

-- and each stands at its token's place
name_there : (file : SpefText) (tokens : List ℕ) (i : ℕ) (name : NodeName) → All (NamesOne file) tokens → i < length tokens → node_at file (slice_index tokens i) ≡ Some name → slice_get (nodes_at file tokens) i ≡ Some name
name_there file [] i name all within is = absurd (omega (arith, within))
name_there file (token ∷ tokens) zero name all within is = ap (λ nodes. slice_get nodes 0) (nodes_first file token tokens name is)
name_there file (token ∷ tokens) (suc i) name all within is =
    let (node, first) = all 0 0 (omega (arith)) in
    ap (λ nodes. slice_get nodes (suc i)) (nodes_first file token tokens node first) ∙ name_there file tokens i name (names_later file token tokens all) (omega (arith, within)) is

-- so does the node that a token resolves to
pub resolved_there : (file : SpefText) (head : HeadText) (tokens : List ℕ) (i : ℕ) (node : NodeName) → AreSpelled file head tokens → i < length tokens → IsNodeOf file true (text_of file (slice_index tokens i)) node
    → slice_get (nodes_at file tokens) i ≡ Some node
resolved_there file head tokens i node spelled within is =
    name_there file tokens i node spelled.each within (resolved_node file head (slice_index tokens i) node spelled.head_of_file is)

pub nothing_named : {P : Type 0} (node : NodeName) → None ≡ Some node → P
nothing_named node e = absurd (cc)

-- one more token that names a node
pub still_spelled : {T E : Type 0} (file : SpefText) (head : HeadText) (old new : List ℕ) (token : ℕ) (result : Result T E) → AreSpelled file head old → NamesOne file token
    → OnOk result (new ≡ old ++ token ∷ []) → OnErr result (new ≡ old) → AreSpelled file head new
still_spelled file head old new token (Ok x) are names ok err = record {
  head_of_file = are.head_of_file;
  each = subst (All (NamesOne file)) (sym ok) (All-push (NamesOne file) old token are.each names);
}
still_spelled file head old new token (Err e) are names ok err = subst (AreSpelled file head) (sym err) are

-- and one more name
pub one_more_name : {T E : Type 0} (file : SpefText) (old new : List ℕ) (token : ℕ) (node : NodeName) (result : Result T E) → node_at file token ≡ Some node
    → OnOk result (new ≡ old ++ token ∷ []) → OnOk result (nodes_at file new ≡ nodes_at file old ++ node ∷ [])
one_more_name file old new token node (Err e) names ok = tt
one_more_name file old new token node (Ok x) names ok =
    ap (nodes_at file) ok ∙ flat_map-append (λ (at : ℕ). option_to_list (node_at file at)) old (token ∷ []) ∙ ap (λ l. nodes_at file old ++ l) (nodes_first file token [] node names)

-- the token of a spelling whose name is known
pub token_named : (file : SpefText) (tokens : List ℕ) (i token : ℕ) (node : NodeName) → slice_get (map (node_at file) tokens) i ≡ Some (Some node) → slice_get tokens i ≡ Some token → node_at file token ≡ Some node
token_named file tokens i token node named at =
    let is : Some (node_at file token) ≡ Some (Some node) = sym (map_at (node_at file) tokens i token at) ∙ named in
    cc

-- a number of a node is below the count of the tokens
pub token_within : (file : SpefText) (tokens : List ℕ) (node : ℕ) → NameNodes file tokens → node < length (nodes_at file tokens) → node < length tokens
token_within file tokens node named within = subst (λ (many : ℕ). node < many) (as_many_names file tokens named) within
