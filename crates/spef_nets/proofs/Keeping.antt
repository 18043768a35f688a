-- One more element is kept.
use Rattle.std.proofs.Common.{◌≡◌, ℕ, ◌≤◌, true, false, List, [], ◌∷◌, ◌++◌, map, sym, ap, ◌∙◌, subst, append_assoc}
use Rattle.std.specs.Prelude.{Some, slice_get}
use Rattle.std.proofs.lemmas.List.{map-append, map_push}
use Rattle.corner_set.specs.declared.pick.Pick.{Pick}
use Rattle.delay_units.specs.declared.quantities.Farads.{Farads}
use Rattle.delay_units.specs.declared.quantities.Ohms.{Ohms}
use Rattle.name_table.specs.declared.spef_names.NodeName.{NodeName}
use Rattle.spef_text.specs.SpefFiles.{SpefText}
use Rattle.spef_text.specs.Heads.{HeadText, text_of}
use Rattle.spef_text.specs.declared.entries.Conn.{Conn}
use Rattle.spef_nets.specs.Values.{triple_of, AreGrains}
use Rattle.name_table.specs.NodeKeys.{Key, key_of, among}
use Rattle.spef_nets.specs.Nodes.{named, first_places}
use Rattle.spef_nets.specs.Elements.{Connection, Grounded, Joint}
use Rattle.delay_units.specs.Bounds.{most_farads, most_ohms}
use Rattle.spef_nets.specs.NetElements.{NetElements}
use Rattle.spef_nets.specs.Sections.{Corners, HasLoad, HasGrains, listing, listing_of, key_at, ends_of, ends_at}
use Rattle.spef_nets.specs.Refs.{Refs, AreRefs}
use Rattle.spef_nets.specs.Drafts.{Drafted, FaradsOf, OhmsOf, PutsConn, PutsCap, PutsRes, element_nodes, AreKept}
use Rattle.spef_nets.specs.declared.amounts.Grains.{Grains}
use Rattle.spef_nets.specs.declared.parts.Ends.{Ends}
use Rattle.spef_nets.proofs.Lists.{get_left}
use Rattle.spef_nets.proofs.DraftLemmas.{key_of_at, placed_more, has_grains, still_listed, still_counted, still_joined}
use Rattle.spef_nets.proofs.NodeLemmas.{placed, first_places_push, conn_nodes_push, cap_nodes_push, joint_nodes_push, Numbered, numbering}
use Rattle.spef_nets.proofs.RowLemmas.{rows_push, small_push}

module _ {I : Type 0} (corners : Corners I) (file : SpefText) (head : HeadText) (net : List ℕ) (listed joined : List Key) (old new : Drafted)
    (are : AreRefs file net listed joined old.refs) (same_nodes : old.net.nodes ≡ old.refs.nodes) where
  -- the nodes after one more is numbered
  nodes_after : (conns : List Connection) (caps : List Grounded) (joints : List Joint) (all : List NodeName) (refs : Refs) (word number : ℕ) (node : NodeName)
      → old.net.nodes ≡ first_places all → Numbered file net listed joined old.refs refs word number node → refs.nodes ≡ first_places (all ++ node ∷ [])
  nodes_after conns caps joints all refs word number node is numbered =
      numbered.nodes ∙ ap (λ l. placed l node) (sym same_nodes ∙ is) ∙ sym (first_places_push all node)

  module _ (conns : List Connection) (caps : List Grounded) (word token : ℕ) (text : List ℕ) (node : NodeName) (grains : Grains)
      (stands : slice_get old.refs.words word ≡ Some text) (names_it : named file true text ≡ Some node) (kept : AreKept corners file head conns caps [] old.net)
      (puts : PutsCap corners old new word grains) (reads : AreGrains head.cap_unit most_farads (triple_of (text_of file token)) grains) where
    pub cap_numbered : Numbered file net listed joined old.refs new.refs word puts.number node
    cap_numbered = numbering file net listed joined old.refs new.refs are word puts.number text node stands names_it puts.numbered

    abbrev counted : Grounded
    counted = record { node = node; value = token }

    abbrev after : NetElements
    after = record {
      net = old.net.net;
      nodes = new.refs.nodes;
      conns = old.net.conns;
      loads = old.net.loads;
      caps = old.net.caps ++ puts.number ∷ [];
      farads = new.net.farads;
      joints = old.net.joints;
      ohms = old.net.ohms;
      written = old.net.written;
    }

    grows : (more : List NodeName) × (new.refs.nodes ≡ old.net.nodes ++ more)
    grows = let more = placed_more old.refs.nodes node in (more.0, cap_numbered.nodes ∙ more.1 ∙ ap (λ l. l ++ more.0) (sym same_nodes))

    kept_after : AreKept corners file head conns (caps ++ record { node = node; value = token } ∷ []) [] after
    kept_after = record {
      nodes = nodes_after conns caps [] (element_nodes conns caps []) new.refs word puts.number node kept.nodes cap_numbered ∙ ap first_places (sym (cap_nodes_push conns caps counted));
      listed = still_listed corners file head conns caps [] old.net kept new.refs.nodes grows;
      loads = kept.loads;
      counted =
          map_push (key_at new.refs.nodes) old.net.caps puts.number
          ∙ (λ i. still_counted corners file head conns caps [] old.net kept new.refs.nodes grows i ++ (key_of_at new.refs.nodes puts.number ∙ cap_numbered.at) i ∷ [])
          ∙ sym (map_push (λ (c : Grounded). Some (key_of c.node)) caps counted);
      farads = rows_push corners (λ (c : Grounded) pick (value : Farads). HasGrains file head.cap_unit most_farads pick c.value value.0) (FaradsOf grains) old.net.farads new.net.farads caps counted kept.farads puts.farads
          (λ pick value is. has_grains file head.cap_unit most_farads token grains reads pick value.0 is);
      joined = still_joined corners file head conns caps [] old.net kept new.refs.nodes grows;
      ohms = kept.ohms;
      small_loads = kept.small_loads;
      small_caps = small_push corners (λ (value : Farads). value.0 ≤ most_farads) (FaradsOf grains) old.net.farads new.net.farads kept.small_caps puts.farads
          (λ pick value is. (has_grains file head.cap_unit most_farads token grains reads pick value.0 is).within);
      small_ress = kept.small_ress;
    }

    pub keeps_cap : AreKept corners file head conns (caps ++ record { node = node; value = token } ∷ []) [] new.net
    keeps_cap = subst (λ (n : NetElements). AreKept corners file head conns (caps ++ record { node = node; value = token } ∷ []) [] n) (sym puts.is) kept_after

  module _ (conns : List Connection) (word : ℕ) (text : List ℕ) (node : NodeName) (conn : Conn) (grains : Grains)
      (stands : slice_get old.refs.words word ≡ Some text) (names_it : named file true text ≡ Some node) (kept : AreKept corners file head conns [] [] old.net)
      (absent : among (key_of node) (map key_of old.refs.nodes) ≡ false)
      (puts : PutsConn corners old new word conn grains)
      (reads : (pick : Pick) (value : Farads) → FaradsOf grains pick value → HasLoad file head.cap_unit pick conn.load value.0)
      (small : (pick : Pick) (value : Farads) → FaradsOf grains pick value → value.0 ≤ most_farads) where
    pub conn_numbered : Numbered file net listed joined old.refs new.refs word puts.number node
    conn_numbered = numbering file net listed joined old.refs new.refs are word puts.number text node stands names_it puts.numbered

    abbrev connection : Connection
    connection = record { node = node; port = conn.port; direction = conn.direction; load = conn.load }

    abbrev with_conn : NetElements
    with_conn = record {
      net = old.net.net;
      nodes = new.refs.nodes;
      conns = old.net.conns ++ record { node = puts.number; port = conn.port; direction = conn.direction } ∷ [];
      loads = new.net.loads;
      caps = old.net.caps;
      farads = old.net.farads;
      joints = old.net.joints;
      ohms = old.net.ohms;
      written = old.net.written;
    }

    more_nodes : (more : List NodeName) × (new.refs.nodes ≡ old.net.nodes ++ more)
    more_nodes = let more = placed_more old.refs.nodes node in (more.0, conn_numbered.nodes ∙ more.1 ∙ ap (λ l. l ++ more.0) (sym same_nodes))

    kept_conn : AreKept corners file head (conns ++ record { node = node; port = conn.port; direction = conn.direction; load = conn.load } ∷ []) [] [] with_conn
    kept_conn = record {
      nodes = nodes_after conns [] [] (element_nodes conns [] []) new.refs word puts.number node kept.nodes conn_numbered ∙ ap first_places (sym (conn_nodes_push conns connection));
      listed =
          map_push (listing_of new.refs.nodes) old.net.conns (record { node = puts.number; port = conn.port; direction = conn.direction })
          ∙ (λ i. still_listed corners file head conns [] [] old.net kept new.refs.nodes more_nodes i ++ record { node = conn_numbered.new_last absent i; port = conn.port; direction = conn.direction } ∷ [])
          ∙ sym (map_push listing conns connection);
      loads = rows_push corners (λ (c : Connection) pick (value : Farads). HasLoad file head.cap_unit pick c.load value.0) (FaradsOf grains) old.net.loads new.net.loads conns connection kept.loads puts.loads reads;
      counted = still_counted corners file head conns [] [] old.net kept new.refs.nodes more_nodes;
      farads = kept.farads;
      joined = still_joined corners file head conns [] [] old.net kept new.refs.nodes more_nodes;
      ohms = kept.ohms;
      small_loads = small_push corners (λ (value : Farads). value.0 ≤ most_farads) (FaradsOf grains) old.net.loads new.net.loads kept.small_loads puts.loads small;
      small_caps = kept.small_caps;
      small_ress = kept.small_ress;
    }

    pub keeps_conn : AreKept corners file head (conns ++ record { node = node; port = conn.port; direction = conn.direction; load = conn.load } ∷ []) [] [] new.net
    keeps_conn = subst (λ (n : NetElements). AreKept corners file head (conns ++ record { node = node; port = conn.port; direction = conn.direction; load = conn.load } ∷ []) [] [] n) (sym puts.is) kept_conn

  module _ (conns : List Connection) (caps : List Grounded) (joints : List Joint) (first second token : ℕ) (first_text second_text : List ℕ) (a b : NodeName) (grains : Grains)
      (first_stands : slice_get old.refs.words first ≡ Some first_text) (names_a : named file true first_text ≡ Some a)
      (second_stands : slice_get old.refs.words second ≡ Some second_text) (names_b : named file true second_text ≡ Some b)
      (kept : AreKept corners file head conns caps joints old.net)
      (puts : PutsRes corners old new first second grains) (reads : AreGrains head.res_unit most_ohms (triple_of (text_of file token)) grains) where
    one : Numbered file net listed joined old.refs puts.middle first puts.a a
    one = numbering file net listed joined old.refs puts.middle are first puts.a first_text a first_stands names_a puts.first_numbered

    pub res_numbered : Numbered file net listed joined puts.middle new.refs second puts.b b
    res_numbered = numbering file net listed joined puts.middle new.refs one.are second puts.b second_text b (ap (λ l. slice_get l second) one.words ∙ second_stands) names_b puts.second_numbered

    pub res_words : new.refs.words ≡ old.refs.words
    res_words = res_numbered.words ∙ one.words

    abbrev joint : Joint
    joint = record { first = a; second = b; value = token }

    abbrev ends : Ends
    ends = record { a = puts.a; b = puts.b }

    abbrev with_res : NetElements
    with_res = record {
      net = old.net.net;
      nodes = new.refs.nodes;
      conns = old.net.conns;
      loads = old.net.loads;
      caps = old.net.caps;
      farads = old.net.farads;
      joints = old.net.joints ++ record { a = puts.a; b = puts.b } ∷ [];
      ohms = new.net.ohms;
      written = old.net.written;
    }

    middle_more : (more : List NodeName) × (new.refs.nodes ≡ puts.middle.nodes ++ more)
    middle_more = let more = placed_more puts.middle.nodes b in (more.0, res_numbered.nodes ∙ more.1)

    nodes_more : (more : List NodeName) × (new.refs.nodes ≡ old.net.nodes ++ more)
    nodes_more =
        let more = placed_more old.refs.nodes a in
        (more.0 ++ middle_more.0, middle_more.1 ∙ ap (λ l. l ++ middle_more.0) (one.nodes ∙ more.1 ∙ ap (λ l. l ++ more.0) (sym same_nodes)) ∙ append_assoc old.net.nodes more.0 middle_more.0)

    a_stands : key_at new.refs.nodes puts.a ≡ Some (key_of a)
    a_stands =
        key_of_at new.refs.nodes puts.a ∙ ap (λ l. slice_get (map key_of l) puts.a) middle_more.1 ∙ ap (λ l. slice_get l puts.a) (map-append key_of puts.middle.nodes middle_more.0)
        ∙ get_left (map key_of puts.middle.nodes) (map key_of middle_more.0) puts.a (key_of a) one.at

    kept_res : AreKept corners file head conns caps (joints ++ record { first = a; second = b; value = token } ∷ []) with_res
    kept_res = record {
      nodes = res_numbered.nodes ∙ ap (λ l. placed l b) (nodes_after conns caps joints (element_nodes conns caps joints) puts.middle first puts.a a kept.nodes one)
          ∙ sym (first_places_push (element_nodes conns caps joints ++ a ∷ []) b) ∙ ap first_places (sym (joint_nodes_push conns caps joints joint));
      listed = still_listed corners file head conns caps joints old.net kept new.refs.nodes nodes_more;
      loads = kept.loads;
      counted = still_counted corners file head conns caps joints old.net kept new.refs.nodes nodes_more;
      farads = kept.farads;
      joined =
          map_push (ends_of new.refs.nodes) old.net.joints ends
          ∙ (λ i. still_joined corners file head conns caps joints old.net kept new.refs.nodes nodes_more i ++ record { a = a_stands i; b = (key_of_at new.refs.nodes puts.b ∙ res_numbered.at) i } ∷ [])
          ∙ sym (map_push ends_at joints joint);
      ohms = rows_push corners (λ (j : Joint) pick (value : Ohms). HasGrains file head.res_unit most_ohms pick j.value value.0) (OhmsOf grains) old.net.ohms new.net.ohms joints joint kept.ohms puts.ohms
          (λ pick value is. has_grains file head.res_unit most_ohms token grains reads pick value.0 is);
      small_loads = kept.small_loads;
      small_caps = kept.small_caps;
      small_ress = small_push corners (λ (value : Ohms). value.0 ≤ most_ohms) (OhmsOf grains) old.net.ohms new.net.ohms kept.small_ress puts.ohms
          (λ pick value is. (has_grains file head.res_unit most_ohms token grains reads pick value.0 is).within);
    }

    pub keeps_res : AreKept corners file head conns caps (joints ++ record { first = a; second = b; value = token } ∷ []) new.net
    keeps_res = subst (λ (n : NetElements). AreKept corners file head conns caps (joints ++ record { first = a; second = b; value = token } ∷ []) n) (sym puts.is) kept_res
