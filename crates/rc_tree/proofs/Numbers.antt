-- The numbers of a net's nodes.
use Rattle.std.proofs.Common.{◌≡◌, ◌≢◌, ℕ, ◌+◌, ◌<◌, ◌⊎◌, Bool, true, false, if◌then◌else◌, List, [], ◌∷◌, ◌++◌, map, take, length, get_or, slice_get, slice_index, Some, AllPairs, length-append, append-nil, append_assoc, refl, sym, ◌∙◌, ap, ap₂, subst, arith, inl, inr}
use Rattle.std.proofs.lemmas.Bool.{cases_eq}
use Rattle.std.proofs.lemmas.List.{get_or_push, get_or_append_left, take_more, map_push, get_or_at}
use Rattle.std.proofs.lemmas.Option.{slice_get-get_or, get_or_from_slice_get, slice_get_within}
use Rattle.name_table.specs.declared.spef_names.NodeName.{NodeName}
use Rattle.spef_nets.specs.NetElements.{NetElements as SectionElements}
use Rattle.name_table.specs.NodeKeys.{among}
use Rattle.rc_tree.specs.Nodes.{Node, node_of, with_node, with_nodes}
use Rattle.rc_tree.specs.Numbering.{AreEnds}
use Rattle.rc_tree.specs.SectionNets.{joint_at}
use Rattle.rc_tree.proofs.NodeLemmas.{among_from}

-- a node that is there changes nothing, another goes last
pub with_held : (nodes : List Node) (node : Node) → among node nodes ≡ true → with_node nodes node ≡ nodes
with_held nodes node held = ap (λ b. if b then nodes else nodes ++ node ∷ []) held

pub with_new : (nodes : List Node) (node : Node) → among node nodes ≡ false → with_node nodes node ≡ nodes ++ node ∷ []
with_new nodes node new = ap (λ b. if b then nodes else nodes ++ node ∷ []) new

pub among_cases : (node : Node) (nodes : List Node) → (among node nodes ≡ true) ⊎ (among node nodes ≡ false)
among_cases node nodes = by (among node nodes)
  where
    by : (b : Bool) → (b ≡ true) ⊎ (b ≡ false)
    by true = inl refl
    by false = inr refl

pub get_front : (xs ys : List Node) (k : ℕ) (x : Node) → slice_get xs k ≡ Some x → slice_get (xs ++ ys) k ≡ Some x
get_front xs ys k x at =
    let below = slice_get_within xs k x at in
    slice_get-get_or (xs ++ ys) k x (let l = length-append xs ys in omega (arith, l, below)) ∙ ap Some (get_or_append_left xs ys x k below ∙ get_or_from_slice_get xs k x x at)

pub with_keeps : (nodes : List Node) (node : Node) (k : ℕ) (x : Node) → slice_get nodes k ≡ Some x → slice_get (with_node nodes node) k ≡ Some x
with_keeps nodes node k x at = elim (among_cases node nodes) [
  | inl held ↦ ap (λ l. slice_get l k) (with_held nodes node held) ∙ at
  | inr new ↦ ap (λ l. slice_get l k) (with_new nodes node new) ∙ get_front nodes (node ∷ []) k x at
]

pub all_keep : (nodes later : List Node) (k : ℕ) (x : Node) → slice_get nodes k ≡ Some x → slice_get (with_nodes nodes later) k ≡ Some x
all_keep nodes [] k x at = at
all_keep nodes (node ∷ later) k x at = all_keep (with_node nodes node) later k x (with_keeps nodes node k x at)

pub with_more : (nodes later : List Node) (node : Node) → with_nodes nodes (later ++ node ∷ []) ≡ with_node (with_nodes nodes later) node
with_more nodes [] node = refl
with_more nodes (first ∷ later) node = with_more (with_node nodes first) later node

-- nodes that are apart go one after another
pub with_apart : (nodes later : List Node) → AllPairs (λ one other. one ≢ other) (nodes ++ later) → with_nodes nodes later ≡ nodes ++ later
with_apart nodes [] apart = sym (append-nil nodes)
with_apart nodes (node ∷ later) apart =
    let split : nodes ++ node ∷ [] ++ later ≡ nodes ++ (node ∷ later) = append_assoc nodes (node ∷ []) later in
    ap (λ l. with_nodes l later) (with_new nodes node new) ∙ with_apart (nodes ++ node ∷ []) later (subst (AllPairs (λ one other. one ≢ other)) (sym split) apart) ∙ split
  where
    new : among node nodes ≡ false
    new = elim (among_cases node nodes) [
      | inr apart_so ↦ apart_so
      | inl held ↦
          let at = among_from node nodes held in
          let size = length-append nodes (node ∷ later) in
          let there : get_or (nodes ++ node ∷ later) (length nodes) node ≡ node = get_or_at nodes node later node (length nodes) refl in
          absurd (apart at.0 (length nodes) node at.1 (omega (arith, size)) (get_or_append_left nodes (node ∷ later) node at.0 at.1 ∙ at.2 ∙ sym there))
    ]

-- the pins, which are apart
pub pins_are : (driver : NodeName) (sinks : List NodeName) → AllPairs (λ one other. one ≢ other) (node_of driver ∷ map node_of sinks) → (table : List Node) → table ≡ with_nodes (with_node [] (node_of driver)) (map node_of sinks) → table ≡ node_of driver ∷ map node_of sinks
pins_are driver sinks apart table is = is ∙ with_apart (node_of driver ∷ []) (map node_of sinks) apart

-- the same where the names stand elsewhere
pub pins_named : {X : Type 0} (now : X → NodeName) (driver : NodeName) (names names' : List X) → AllPairs (λ one other. one ≢ other) (node_of driver ∷ map node_of (map now names)) → (first table : List Node) → first ≡ with_node [] (node_of driver) → names' ≡ names
    → table ≡ with_nodes first (map node_of (map now names')) → table ≡ node_of driver ∷ map node_of (map now names)
pins_named now driver names names' apart first table first_is names_are is = pins_are driver (map now names) apart table (is ∙ ap₂ (λ t l. with_nodes t (map node_of (map now l))) first_is names_are)

-- the nodes of a list of names, one more
pub names_more : (names : List NodeName) (before table after : List Node) (i : ℕ) (name : NodeName) → i < length names → get_or names i name ≡ name → table ≡ with_nodes before (map node_of (take i names)) → after ≡ with_node table (node_of name) → after ≡ with_nodes before (map node_of (take (i + 1) names))
names_more names before table after i name below at table_is after_is =
    after_is ∙ ap (λ l. with_node l (node_of name)) table_is ∙ sym (with_more before (map node_of (take i names)) (node_of name))
    ∙ sym (ap (with_nodes before) (ap (map node_of) (take_more names i name below ∙ ap (λ x. take i names ++ x ∷ []) at) ∙ map_push node_of (take i names) name))

-- the ends of the resistors so far
pub record Copying (section : SectionElements) (spots froms tos : List ℕ) (many : ℕ) : Type 0 where
  pub froms_len : length froms ≡ many
  pub tos_len : length tos ≡ many
  pub from : (place : ℕ) → place < many → ((joint_at section place).a < length section.nodes) × (slice_index froms place ≡ slice_index spots (joint_at section place).a)
  pub to : (place : ℕ) → place < many → ((joint_at section place).b < length section.nodes) × (slice_index tos place ≡ slice_index spots (joint_at section place).b)

pub copying_start : (section : SectionElements) (spots froms tos : List ℕ) → froms ≡ [] → tos ≡ [] → Copying section spots froms tos 0
copying_start section spots froms tos froms_are tos_are = record { froms_len = ap length froms_are; tos_len = ap length tos_are; from = λ place below. absurd (omega arith); to = λ place below. absurd (omega arith) }

pub copying_step : (section : SectionElements) (spots froms tos froms' tos' : List ℕ) (many a b x y : ℕ) → slice_get section.joints many ≡ Some (record { a = a; b = b }) → a < length section.nodes → b < length section.nodes → x ≡ slice_index spots a → y ≡ slice_index spots b
    → froms' ≡ froms ++ x ∷ [] → tos' ≡ tos ++ y ∷ [] → Copying section spots froms tos many → Copying section spots froms' tos' (many + 1)
copying_step section spots froms tos froms' tos' many a b x y at a_below b_below x_is y_is froms_are tos_are state =
    let joint : joint_at section many ≡ record { a = a; b = b } = get_or_from_slice_get section.joints many (record { a = a; b = b }) (record { a = 0; b = 0 }) at in
    record {
      froms_len = ap length froms_are ∙ length-append froms (x ∷ []) ∙ ap (λ k. k + 1) state.froms_len;
      tos_len = ap length tos_are ∙ length-append tos (y ∷ []) ∙ ap (λ k. k + 1) state.tos_len;
      from = λ place below. elim (cases_eq place many) [
        | inl is ↦
            let at_place : joint_at section place ≡ record { a = a; b = b } = ap (joint_at section) is ∙ joint in
            (subst (λ j. j.a < length section.nodes) (sym at_place) a_below, ap (λ l. get_or l place 0) froms_are ∙ get_or_push froms x 0 place (state.froms_len ∙ sym is) ∙ x_is ∙ ap (λ j. slice_index spots j.a) (sym at_place))
        | inr ne ↦
            let ne' : place ≢ many = ne in
            let less : place < many = omega (arith, ne', below) in
            let old = state.from place less in
            (old.0, ap (λ l. get_or l place 0) froms_are ∙ get_or_append_left froms (x ∷ []) 0 place (let l = state.froms_len in omega (arith, l, less)) ∙ old.1)
      ];
      to = λ place below. elim (cases_eq place many) [
        | inl is ↦
            let at_place : joint_at section place ≡ record { a = a; b = b } = ap (joint_at section) is ∙ joint in
            (subst (λ j. j.b < length section.nodes) (sym at_place) b_below, ap (λ l. get_or l place 0) tos_are ∙ get_or_push tos y 0 place (state.tos_len ∙ sym is) ∙ y_is ∙ ap (λ j. slice_index spots j.b) (sym at_place))
        | inr ne ↦
            let ne' : place ≢ many = ne in
            let less : place < many = omega (arith, ne', below) in
            let old = state.to place less in
            (old.0, ap (λ l. get_or l place 0) tos_are ∙ get_or_append_left tos (y ∷ []) 0 place (let l = state.tos_len in omega (arith, l, less)) ∙ old.1)
      ];
    }

pub copying_end : (section : SectionElements) (spots froms tos : List ℕ) (many : ℕ) → many ≡ length section.joints → Copying section spots froms tos many → AreEnds section spots froms tos
copying_end section spots froms tos many is state = record {
  froms_len = state.froms_len ∙ is;
  tos_len = state.tos_len ∙ is;
  from = λ place below. state.from place (let l = state.froms_len in omega (arith, l, below));
  to = λ place below. state.to place (let l = state.tos_len in omega (arith, l, below));
}
