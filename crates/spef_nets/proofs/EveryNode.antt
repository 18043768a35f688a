-- What holds of each node that a token of a section names holds of all nodes of the section.
use Rattle.std.proofs.Common.{◌≡◌, ℕ, Bool, not, List, [], ◌∷◌, ◌++◌, map, Option, Some, None, refl}
use Rattle.std.specs.Prelude.{All, filter, option_map, option_to_list}
use Rattle.std.specs.List.{flat_map}
use Rattle.std.proofs.lemmas.List.Elements.{All-nil, All-cons, All-head, All-tail, All-append, All-map, All-filter, All-from_recursion}
use Rattle.name_table.specs.declared.spef_names.NodeName.{NodeName}
use Rattle.name_table.specs.NodeKeys.{same_node, each_once}
use Rattle.spef_text.specs.Entries.{Section}
use Rattle.spef_text.specs.SpefFiles.{SpefText}
use Rattle.spef_text.specs.declared.entries.Conn.{Conn}
use Rattle.spef_text.specs.declared.entries.Cap.{Cap}
use Rattle.spef_text.specs.declared.entries.Res.{Res}
use Rattle.spef_text.proofs.NodeTexts.{HasTextAt, HasNodeTexts, cap_nodes, res_nodes}
use Rattle.spef_nets.specs.Nodes.{node_at, nodes_at, belongs}
use Rattle.spef_nets.specs.Elements.{Connection, Grounded, Joint, connection_at, connections, places_of, grounded, capacitances, joint_of, joint_at, resistors, section_nodes}

-- ---- lists

flat_all : {X Y : Type 0} (P : X → Type 0) (Q : Y → Type 0) (f : X → List Y) → ((x : X) → P x → All Q (f x)) → (xs : List X) → All P xs → All Q (flat_map f xs)
flat_all P Q f each [] all = All-nil Q
flat_all P Q f each (x ∷ xs) all = All-append Q (f x) (flat_map f xs) (each x (All-head P x xs all)) (flat_all P Q f each xs (All-tail P x xs all))

once_all : {X : Type 0} (same : X → X → Bool) (P : X → Type 0) (xs : List X) → All P xs → All P (each_once same xs)
once_all same P [] all = all
once_all same P (x ∷ xs) all =
    All-cons P x (filter (λ other. not (same x other)) (each_once same xs)) (All-head P x xs all)
    (All-filter (λ other. not (same x other)) P (each_once same xs) (once_all same P xs (All-tail P x xs all)))

one_of : {X : Type 0} (P : X → Type 0) (x : X) → P x → All P (x ∷ [])
one_of P x is = All-from_recursion P (x ∷ []) (is, tt)

-- ---- nodes

module _ (file : SpefText) (P : NodeName → Type 0) (each : (token : ℕ) (node : NodeName) → HasTextAt file token → node_at file token ≡ Some node → P node) where
  named_all : (node : Option NodeName) → ((name : NodeName) → node ≡ Some name → P name) → All P (option_to_list node)
  named_all None is = All-nil P
  named_all (Some name) is = one_of P name (is name refl)

  tokens_all : (tokens : List ℕ) → All (HasTextAt file) tokens → All P (nodes_at file tokens)
  tokens_all tokens all = flat_all (HasTextAt file) P (λ token. option_to_list (node_at file token)) (λ token has. named_all (node_at file token) (λ name. each token name has)) tokens all

  abbrev IsAtGood : Connection → Type 0
  IsAtGood conn = P conn.node

  connection_good : (conn : Conn) (node : Option NodeName) → ((name : NodeName) → node ≡ Some name → P name)
      → All IsAtGood (option_to_list (option_map (λ name. let made : Connection = record { node = name; port = conn.port; direction = conn.direction; load = conn.load } in made) node))
  connection_good conn None is = All-nil IsAtGood
  connection_good conn (Some name) is = one_of IsAtGood (record { node = name; port = conn.port; direction = conn.direction; load = conn.load }) (is name refl)

  connections_all : (conns : List Conn) → All (λ conn. HasTextAt file conn.node) conns → All IsAtGood (flat_map (λ conn. option_to_list (connection_at file conn)) conns)
  connections_all conns all =
      flat_all (λ conn. HasTextAt file conn.node) IsAtGood (λ conn. option_to_list (connection_at file conn))
      (λ conn has. connection_good conn (node_at file conn.node) (λ name. each conn.node name has)) conns all

  places_all : (said : Section) (first : ℕ) (second : Option ℕ) → All (HasTextAt file) (first ∷ option_to_list second) → All P (places_of file said first second)
  places_all said first None all = tokens_all (first ∷ []) all
  places_all said first (Some second) all = All-filter (belongs file said) P (nodes_at file (first ∷ second ∷ [])) (tokens_all (first ∷ second ∷ []) all)

  abbrev IsGroundedGood : Grounded → Type 0
  IsGroundedGood cap = P cap.node

  grounded_all : (said : Section) (cap : Cap) → All (HasTextAt file) (cap_nodes cap) → All IsGroundedGood (grounded file said cap)
  grounded_all said cap all =
      All-map IsGroundedGood (λ node. record { node = node; value = cap.value }) (places_of file said cap.first cap.second) (places_all said cap.first cap.second all)

  caps_all : (said : Section) (caps : List Cap) → All (λ cap. All (HasTextAt file) (cap_nodes cap)) caps → All IsGroundedGood (flat_map (grounded file said) caps)
  caps_all said caps all = flat_all (λ cap. All (HasTextAt file) (cap_nodes cap)) IsGroundedGood (grounded file said) (grounded_all said) caps all

  abbrev IsJointGood : Joint → Type 0
  IsJointGood joint = All P (joint.first ∷ joint.second ∷ [])

  joint_good : (first second : Option NodeName) (value : ℕ) → ((name : NodeName) → first ≡ Some name → P name) → ((name : NodeName) → second ≡ Some name → P name) → All IsJointGood (joint_of first second value)
  joint_good None second value one other = All-nil IsJointGood
  joint_good (Some first) None value one other = All-nil IsJointGood
  joint_good (Some first) (Some second) value one other =
      one_of IsJointGood (record { first = first; second = second; value = value })
      (All-from_recursion P (first ∷ second ∷ []) (one first refl, (other second refl, tt)))

  joints_all : (ress : List Res) → All (λ res. All (HasTextAt file) (res_nodes res)) ress → All IsJointGood (flat_map (joint_at file) ress)
  joints_all ress all =
      flat_all (λ res. All (HasTextAt file) (res_nodes res)) IsJointGood (joint_at file)
      (λ res has. joint_good (node_at file res.first) (node_at file res.second) res.value
      (λ name. each res.first name (All-head (HasTextAt file) res.first (res.second ∷ []) has))
      (λ name. each res.second name (All-head (HasTextAt file) res.second [] (All-tail (HasTextAt file) res.first (res.second ∷ []) has))))
      ress all

  pub every_node : (said : Section) → HasNodeTexts file said → All P (section_nodes file said)
  every_node said has =
      let listed = connections file said in
      let counted = capacitances file said in
      let joined = resistors file said in
      let ends = flat_map (λ joint. joint.first ∷ joint.second ∷ []) joined in
      once_all same_node P (map (λ conn. conn.node) listed ++ map (λ cap. cap.node) counted ++ ends)
      (All-append P (map (λ conn. conn.node) listed ++ map (λ cap. cap.node) counted) ends
      (All-append P (map (λ conn. conn.node) listed) (map (λ cap. cap.node) counted)
      (All-map P (λ conn. conn.node) listed (once_all (λ one other. same_node one.node other.node) IsAtGood (flat_map (λ conn. option_to_list (connection_at file conn)) said.conns) (connections_all said.conns has.conns)))
      (All-map P (λ cap. cap.node) counted (caps_all said said.caps has.caps)))
      (flat_all IsJointGood P (λ joint. joint.first ∷ joint.second ∷ []) (λ joint good. good) joined (joints_all said.ress has.ress)))
