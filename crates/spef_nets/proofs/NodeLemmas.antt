-- Nodes by first place, when there is one more.
use Rattle.std.proofs.Common.{◌≡◌, ℕ, Bool, true, false, not, cond, ◌||◌, if◌then◌else◌, List, [], ◌∷◌, ◌++◌, map, filter, refl, sym, ap, ◌∙◌, subst, true≢false, append_assoc, append-nil}
use Rattle.std.specs.Prelude.{Option, Some, None, slice_get, option_to_list}
use Rattle.std.specs.Option.{option_map}
use Rattle.std.specs.List.{flat_map}
use Rattle.std.proofs.lemmas.List.{map_push}
use Rattle.std.proofs.lemmas.Grind.{flat_map-append}
use Rattle.std.proofs.lemmas.List.Elements.{filter-append}
use Rattle.name_table.specs.declared.spef_names.NodeName.{NodeName}
use Rattle.spef_text.specs.SpefFiles.{SpefText}
use Rattle.spef_text.specs.declared.entries.Conn.{Conn}
use Rattle.name_table.specs.NodeKeys.{Key, key_of, same_key, among, each_once}
use Rattle.spef_nets.specs.Nodes.{first_places, named, node_at, nodes_at}
use Rattle.spef_nets.specs.Elements.{Connection, Grounded, Joint, connection_at, first_of_each}
use Rattle.spef_nets.specs.Refs.{Refs, Numbers, held, fresh, with_number, AreRefs, conn_keys}
use Rattle.spef_nets.specs.Drafts.{element_nodes}
use Rattle.spef_nets.proofs.Lists.{get_last, map_at}
use Rattle.spef_nets.proofs.RefLemmas.{same_key_is, other_way, among_at, its_mark, its_name, number_step}

-- the list with one more node by first place
abbrev pub placed : List NodeName → NodeName → List NodeName
placed nodes node = if among (key_of node) (map key_of nodes) then nodes else nodes ++ node ∷ []

-- items of which the first of each key counts
module _ {X : Type 0} (key : X → Key) where
  abbrev pub firsts : List X → List X
  firsts items = each_once (λ one other. same_key (key one) (key other)) items

  abbrev pub with_first : List X → X → List X
  with_first items item = if among (key item) (map key items) then items else items ++ item ∷ []

  -- what is left out is not found
  pub among_kept : (it : Key) (first : X) (items : List X) → same_key it (key first) ≡ false → among it (map key (filter (λ other. not (same_key (key first) (key other))) items)) ≡ among it (map key items)
  among_kept it first [] differ = refl
  among_kept it first (x ∷ items) differ = by (same_key (key first) (key x)) refl (among_kept it first items differ)
    where
      by : (same : Bool) → same_key (key first) (key x) ≡ same → among it (map key (filter (λ other. not (same_key (key first) (key other))) items)) ≡ among it (map key items)
          → among it (map key (filter (λ other. not (same_key (key first) (key other))) (x ∷ items))) ≡ among it (map key (x ∷ items))
      by true is rest =
          let equal : key first ≡ key x = same_key_is (key first) (key x) is in
          ap (λ b. among it (map key (cond (not b) (x ∷ filter (λ other. not (same_key (key first) (key other))) items) (filter (λ other. not (same_key (key first) (key other))) items)))) is
          ∙ rest ∙ ap (λ b. b || among it (map key items)) (sym (ap (same_key it) (sym equal) ∙ differ))
      by false is rest =
          ap (λ b. among it (map key (cond (not b) (x ∷ filter (λ other. not (same_key (key first) (key other))) items) (filter (λ other. not (same_key (key first) (key other))) items)))) is
          ∙ ap (λ b. same_key it (key x) || b) rest

  pub among_firsts : (it : Key) (items : List X) → among it (map key (firsts items)) ≡ among it (map key items)
  among_firsts it [] = refl
  among_firsts it (x ∷ items) = by (same_key it (key x)) refl (among_firsts it items)
    where
      by : (same : Bool) → same_key it (key x) ≡ same → among it (map key (firsts items)) ≡ among it (map key items) → among it (map key (firsts (x ∷ items))) ≡ among it (map key (x ∷ items))
      by true is rest =
          ap (λ b. b || among it (map key (filter (λ other. not (same_key (key x) (key other))) (firsts items)))) is ∙ sym (ap (λ b. b || among it (map key items)) is)
      by false is rest = ap (λ b. same_key it (key x) || b) (among_kept it x (firsts items) is ∙ rest)

  pub firsts_push : (items : List X) (item : X) → firsts (items ++ item ∷ []) ≡ (if among (key item) (map key items) then firsts items else firsts items ++ item ∷ [])
  firsts_push [] item = refl
  firsts_push (x ∷ items) item = by (same_key (key item) (key x)) (among (key item) (map key items)) refl refl (firsts_push items item)
    where
      pass : X → Bool
      pass other = not (same_key (key x) (key other))

      by : (here there : Bool) → same_key (key item) (key x) ≡ here → among (key item) (map key items) ≡ there
          → firsts (items ++ item ∷ []) ≡ (if among (key item) (map key items) then firsts items else firsts items ++ item ∷ [])
          → x ∷ filter (λ other. not (same_key (key x) (key other))) (firsts (items ++ item ∷ []))
          ≡ (if same_key (key item) (key x) || among (key item) (map key items) then x ∷ filter (λ other. not (same_key (key x) (key other))) (firsts items)
          else x ∷ (filter (λ other. not (same_key (key x) (key other))) (firsts items) ++ item ∷ []))
      by here true h t rest =
          ap (λ l. x ∷ filter (λ other. not (same_key (key x) (key other))) l) (rest ∙ ap (λ b. if b then firsts items else firsts items ++ item ∷ []) t)
          ∙ sym (ap (λ b. if b then x ∷ filter (λ other. not (same_key (key x) (key other))) (firsts items) else x ∷ (filter (λ other. not (same_key (key x) (key other))) (firsts items) ++ item ∷ []))
          (ap (λ b. same_key (key item) (key x) || b) t ∙ ap (λ b. b || true) h ∙ or_true here))
        where
          or_true : (a : Bool) → (a || true) ≡ true
          or_true true = refl
          or_true false = refl
      by true false h t rest =
          ap (λ l. x ∷ filter (λ other. not (same_key (key x) (key other))) l) (rest ∙ ap (λ b. if b then firsts items else firsts items ++ item ∷ []) t)
          ∙ ap (λ l. x ∷ l) (filter-append (λ other. not (same_key (key x) (key other))) (firsts items) (item ∷ []) ∙ gone ∙ append-nil (filter (λ other. not (same_key (key x) (key other))) (firsts items)))
          ∙ sym (ap (λ b. if b || among (key item) (map key items) then x ∷ filter (λ other. not (same_key (key x) (key other))) (firsts items) else x ∷ (filter (λ other. not (same_key (key x) (key other))) (firsts items) ++ item ∷ [])) h)
        where
          gone : filter (λ other. not (same_key (key x) (key other))) (firsts items) ++ filter (λ other. not (same_key (key x) (key other))) (item ∷ []) ≡ filter (λ other. not (same_key (key x) (key other))) (firsts items) ++ []
          gone = ap (λ b. filter (λ other. not (same_key (key x) (key other))) (firsts items) ++ cond (not b) (item ∷ []) []) (other_way (key x) (key item) ∙ h)
      by false false h t rest =
          ap (λ l. x ∷ filter (λ other. not (same_key (key x) (key other))) l) (rest ∙ ap (λ b. if b then firsts items else firsts items ++ item ∷ []) t)
          ∙ ap (λ l. x ∷ l) (filter-append (λ other. not (same_key (key x) (key other))) (firsts items) (item ∷ []) ∙ stays)
          ∙ sym (ap (λ b. if b then x ∷ filter (λ other. not (same_key (key x) (key other))) (firsts items) else x ∷ (filter (λ other. not (same_key (key x) (key other))) (firsts items) ++ item ∷ []))
          (ap (λ b. b || among (key item) (map key items)) h ∙ t))
        where
          stays : filter (λ other. not (same_key (key x) (key other))) (firsts items) ++ filter (λ other. not (same_key (key x) (key other))) (item ∷ []) ≡ filter (λ other. not (same_key (key x) (key other))) (firsts items) ++ item ∷ []
          stays = ap (λ b. filter (λ other. not (same_key (key x) (key other))) (firsts items) ++ cond (not b) (item ∷ []) []) (other_way (key x) (key item) ∙ h)

abbrev pub conn_key : Connection → Key
conn_key conn = key_of conn.node

-- the nodes by first place, with one more
pub first_places_push : (nodes : List NodeName) (node : NodeName) → first_places (nodes ++ node ∷ []) ≡ placed (first_places nodes) node
first_places_push nodes node = firsts_push key_of nodes node ∙ ap (λ b. if b then first_places nodes else first_places nodes ++ node ∷ []) (sym (among_firsts key_of (key_of node) nodes))

pub among_first_places : (key : Key) (nodes : List NodeName) → among key (map key_of (first_places nodes)) ≡ among key (map key_of nodes)
among_first_places key nodes = among_firsts key_of key nodes

-- the connections, with one more
pub first_of_each_push : (conns : List Connection) (conn : Connection)
    → first_of_each (conns ++ conn ∷ []) ≡ (if among (conn_key conn) (map conn_key conns) then first_of_each conns else first_of_each conns ++ conn ∷ [])
first_of_each_push conns conn = firsts_push conn_key conns conn

pub among_first_of_each : (key : Key) (conns : List Connection) → among key (map conn_key (first_of_each conns)) ≡ among key (map conn_key conns)
among_first_of_each key conns = among_firsts conn_key key conns

-- the keys of the connections so far are those of their nodes
pub conn_keys_are : (file : SpefText) (conns : List Conn) → map conn_key (flat_map (λ conn. option_to_list (connection_at file conn)) conns) ≡ conn_keys file conns
conn_keys_are file [] = refl
conn_keys_are file (conn ∷ conns) = by (node_at file conn.node) (conn_keys_are file conns)
  where
    rest_conns : List Connection
    rest_conns = flat_map (λ c. option_to_list (connection_at file c)) conns

    rest_nodes : List NodeName
    rest_nodes = nodes_at file (map (λ c. c.node) conns)

    by : (node : Option NodeName) → map conn_key rest_conns ≡ map key_of rest_nodes
        → map conn_key (option_to_list (option_map (λ (n : NodeName). record { node = n; port = conn.port; direction = conn.direction; load = conn.load }) node) ++ rest_conns) ≡ map key_of (option_to_list node ++ rest_nodes)
    by None rest = rest
    by (Some node) rest = ap (λ l. key_of node ∷ l) rest

-- the nodes of elements of which there is one more
pub conn_nodes_push : (conns : List Connection) (conn : Connection) → element_nodes (conns ++ conn ∷ []) [] [] ≡ element_nodes conns [] [] ++ conn.node ∷ []
conn_nodes_push conns conn = alone (conns ++ conn ∷ []) ∙ map_push (λ (c : Connection). c.node) conns conn ∙ ap (λ l. l ++ conn.node ∷ []) (sym (alone conns))
  where
    alone : (all : List Connection) → element_nodes all [] [] ≡ map (λ c. c.node) all
    alone all = append-nil (map (λ c. c.node) all ++ []) ∙ append-nil (map (λ c. c.node) all)

pub cap_nodes_push : (conns : List Connection) (caps : List Grounded) (counted : Grounded) → element_nodes conns (caps ++ counted ∷ []) [] ≡ element_nodes conns caps [] ++ counted.node ∷ []
cap_nodes_push conns caps counted =
    append-nil (map (λ c. c.node) conns ++ map (λ c. c.node) (caps ++ counted ∷ []))
    ∙ ap (λ l. map (λ c. c.node) conns ++ l) (map_push (λ (c : Grounded). c.node) caps counted)
    ∙ sym (append_assoc (map (λ c. c.node) conns) (map (λ c. c.node) caps) (counted.node ∷ []))
    ∙ ap (λ l. l ++ counted.node ∷ []) (sym (append-nil (map (λ c. c.node) conns ++ map (λ c. c.node) caps)))

abbrev joint_nodes : List Joint → List NodeName
joint_nodes joints = flat_map (λ joint. joint.first ∷ joint.second ∷ []) joints

pub joint_nodes_push : (conns : List Connection) (caps : List Grounded) (joints : List Joint) (joint : Joint)
    → element_nodes conns caps (joints ++ joint ∷ []) ≡ (element_nodes conns caps joints ++ joint.first ∷ []) ++ joint.second ∷ []
joint_nodes_push conns caps joints joint =
    ap (λ l. before ++ l) (flat_map-append (λ (j : Joint). j.first ∷ j.second ∷ []) joints (joint ∷ []) ∙ sym (append_assoc (joint_nodes joints) (joint.first ∷ []) (joint.second ∷ [])))
    ∙ sym (append_assoc before (joint_nodes joints ++ joint.first ∷ []) (joint.second ∷ []))
    ∙ ap (λ l. l ++ joint.second ∷ []) (sym (append_assoc before (joint_nodes joints) (joint.first ∷ [])))
  where
    before : List NodeName
    before = map (λ c. c.node) conns ++ map (λ c. c.node) caps

-- a node was numbered: it goes last where it has no number yet
pub record Numbered (file : SpefText) (net : List ℕ) (listed joined : List Key) (old new : Refs) (word number : ℕ) (node : NodeName) : Type 0 where
  pub are : AreRefs file net listed joined new
  pub words : new.words ≡ old.words
  pub nodes : new.nodes ≡ placed old.nodes node
  pub at : slice_get (map key_of new.nodes) number ≡ Some (key_of node)
  pub new_last : among (key_of node) (map key_of old.nodes) ≡ false → slice_get new.nodes number ≡ Some node

module _ (file : SpefText) (net : List ℕ) (listed joined : List Key) (old new : Refs) (are : AreRefs file net listed joined old) (word number : ℕ) (text : List ℕ) (node : NodeName)
    (stands : slice_get old.words word ≡ Some text) (names_it : named file true text ≡ Some node) where
  pub numbering : Numbers old new word number → Numbered file net listed joined old new word number node
  numbering (held place mark is_marked has stays) =
      let its : slice_get (map key_of old.nodes) number ≡ Some (key_of node) = (its_mark file net listed joined old are word text node stands names_it place mark is_marked).numbered number has in
      let there : among (key_of node) (map key_of old.nodes) ≡ true = among_at (map key_of old.nodes) number (key_of node) its in
      record {
        are = subst (λ (r : Refs). AreRefs file net listed joined r) (sym stays) are;
        words = ap (λ (r : Refs). r.words) stays;
        nodes = ap (λ (r : Refs). r.nodes) stays ∙ sym (ap (λ b. if b then old.nodes else old.nodes ++ node ∷ []) there);
        at = ap (λ (r : Refs). slice_get (map key_of r.nodes) number) stays ∙ its;
        new_last = λ absent. absurd (true≢false (sym there ∙ absent));
      }
  numbering (fresh place mark name is_marked none name_is last is) =
      let its_kept : slice_get old.names word ≡ Some (Some node) = its_name file net listed joined old are word text node stands names_it place mark is_marked in
      let name_node : name ≡ Some node = some_is name (Some node) (sym name_is ∙ its_kept) in
      let stays : new ≡ with_number old word place mark (Some node) = is ∙ ap (with_number old word place mark) name_node in
      let absent : among (key_of node) (map key_of old.nodes) ≡ false = (its_mark file net listed joined old are word text node stands names_it place mark is_marked).unnumbered none in
      let there : slice_get new.nodes number ≡ Some node = ap (λ (r : Refs). slice_get r.nodes number) stays ∙ ap (slice_get (old.nodes ++ node ∷ [])) last ∙ get_last old.nodes node in
      record {
        are = subst (λ (r : Refs). AreRefs file net listed joined r) (sym stays) (number_step file net listed joined old are word text node stands names_it place mark is_marked none);
        words = ap (λ (r : Refs). r.words) stays;
        nodes = ap (λ (r : Refs). r.nodes) stays ∙ sym (ap (λ b. if b then old.nodes else old.nodes ++ node ∷ []) absent);
        at = map_at key_of new.nodes number node there;
        new_last = λ _. there;
      }
    where
      some_is : (a b : Option NodeName) → Some a ≡ Some b → a ≡ b
      some_is a b e = cc
