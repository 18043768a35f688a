-- A connection is read.
use Rattle.std.proofs.Common.{◌≡◌, ℕ, ◌+◌, ◌≤◌, Bool, true, false, if◌then◌else◌, List, [], ◌∷◌, ◌++◌, map, take, refl, sym, ap, ◌∙◌, subst, arith, append_assoc, append-nil, add-one}
use Rattle.std.specs.Prelude.{Result, Ok, Err, OnOk, IsErrAnd, IfErr, Option, Some, None, slice_get, All, option_to_list}
use Rattle.std.specs.Option.{option_map}
use Rattle.std.specs.List.{flat_map}
use Rattle.std.proofs.lemmas.Grind.{flat_map-append}
use Rattle.std.proofs.lemmas.List.{map-append}
use Rattle.std.proofs.lemmas.List.Elements.{All-push}
use Rattle.corner_set.specs.declared.pick.Pick.{Pick}
use Rattle.delay_units.specs.declared.quantities.Farads.{Farads}
use Rattle.name_table.specs.declared.spef_names.NodeName.{NodeName}
use Rattle.spef_text.specs.Entries.{Section, section_at}
use Rattle.spef_text.specs.SpefFiles.{SpefText}
use Rattle.spef_text.specs.Heads.{HeadText, text_of}
use Rattle.spef_text.specs.declared.entries.Conn.{Conn}
use Rattle.spef_nets.specs.Values.{grains_at}
use Rattle.name_table.specs.NodeKeys.{Key, key_of, among}
use Rattle.spef_nets.specs.Nodes.{node_at, nodes_at}
use Rattle.spef_nets.specs.Elements.{Connection, connection_at, first_of_each}
use Rattle.delay_units.specs.Bounds.{most_farads}
use Rattle.spef_nets.specs.NetElements.{NetElements}
use Rattle.spef_nets.specs.Sections.{Corners, HasLoad}
use Rattle.spef_nets.specs.Faults.{Point, reference, naming, coupling, amount, IsUnknownAt, IsValueAt, IsFaultAt, IsGood, IsFirstFault, is_later, load_points, points_of}
use Rattle.spef_nets.specs.Refs.{Refs, Lists, Numbers, held, fresh, AreRefs, IsRef, Grows, conn_keys, res_keys}
use Rattle.spef_nets.specs.Drafts.{Drafted, Refers, unknown, FaradsOf, PutsConn, AreKept, element_nodes, points_upto, IsUpto, IsStop, IsLoad, IsLoadFault, IsUnless, PutsRes}
use Rattle.spef_nets.specs.declared.amounts.Grains.{Grains}
use Rattle.spef_nets.specs.declared.ends.SectionEnd.{SectionEnd}
use Rattle.spef_nets.specs.declared.ends.SectionEnd.TheVariants.{UnknownIndex, BadNumber, ValueTooLarge, RepeatedNet, ForeignCoupling, OutOfMemory}
use Rattle.spef_nets.proofs.Lists.{take_push}
use Rattle.spef_nets.proofs.ValuePoints.{good_amount}
use Rattle.spef_nets.proofs.NodeLemmas.{among_first_places, among_first_of_each, conn_keys_are, first_of_each_push}
use Rattle.spef_nets.proofs.DraftLemmas.{has_grains}
use Rattle.spef_nets.proofs.Keeping.{keeps_conn, conn_numbered}
use Rattle.spef_nets.proofs.Referring.{Referred, refers, grows_more, node_of, lists}
use Rattle.spef_nets.proofs.PointLemmas.{Upto, step, stop, conn_split, conn_more, behind_conn}

pub good_reference : (file : SpefText) (place : ℕ) (section : Section) (token : ℕ) (node : NodeName) → node_at file token ≡ Some node → IsGood file place section (reference token)
good_reference file place section token node known (UnknownIndex at) (same, none) = absurd (cc)
good_reference file place section token node known (BadNumber at) is = is
good_reference file place section token node known (ValueTooLarge at) is = is
good_reference file place section token node known (RepeatedNet net at) is = is
good_reference file place section token node known (ForeignCoupling net at) is = is
good_reference file place section token node known OutOfMemory is = is

abbrev pub conns_at : SpefText → List Conn → List Connection
conns_at file conns = flat_map (λ conn. option_to_list (connection_at file conn)) conns

-- a value's fault is one of its point
pub value_stop : (file : SpefText) (head : HeadText) (place : ℕ) (section : Section) (end : SectionEnd) → section ≡ section_at file.reading.sections place → IsFirstFault file place section (points_of file head section) end → IsStop file head place end
value_stop file head place section OutOfMemory same is = tt
value_stop file head place section (UnknownIndex at) same is = subst (λ (s : Section). IsFirstFault file place s (points_of file head s) (UnknownIndex at)) same is
value_stop file head place section (BadNumber at) same is = subst (λ (s : Section). IsFirstFault file place s (points_of file head s) (BadNumber at)) same is
value_stop file head place section (ValueTooLarge at) same is = subst (λ (s : Section). IsFirstFault file place s (points_of file head s) (ValueTooLarge at)) same is
value_stop file head place section (RepeatedNet net at) same is = subst (λ (s : Section). IsFirstFault file place s (points_of file head s) (RepeatedNet net at)) same is
value_stop file head place section (ForeignCoupling net at) same is = subst (λ (s : Section). IsFirstFault file place s (points_of file head s) (ForeignCoupling net at)) same is

map_twice : {X Y Z : Type 0} (f : Y → Z) (g : X → Y) (xs : List X) → map f (map g xs) ≡ map (λ x. f (g x)) xs
map_twice f g [] = refl
map_twice f g (x ∷ xs) = ap (λ l. f (g x) ∷ l) (map_twice f g xs)

abbrev pub with_nodes : NetElements → List NodeName → NetElements
with_nodes net nodes = record {
  net = net.net;
  nodes = nodes;
  conns = net.conns;
  loads = net.loads;
  caps = net.caps;
  farads = net.farads;
  joints = net.joints;
  ohms = net.ohms;
  written = net.written;
}

-- a connection's node is listed
pub record ListedConn (file : SpefText) (net : List ℕ) (listed joined : List Key) (token : ℕ) (old new : Refs) (word : ℕ) (was : Bool) : Type 0 where
  pub node : NodeName
  pub known : node_at file token ≡ Some node
  pub are : AreRefs file net (listed ++ key_of node ∷ []) joined new
  pub was_is : was ≡ among (key_of node) listed
  pub ref : IsRef file new.words token (Some word)
  pub grows : Grows old.words new.words
  pub nodes : new.nodes ≡ old.nodes

-- what an error says that is handed on
pub handed_on : {T E : Type 0} (r : Result T E) (end : E) (P : E → Type 0) → IsErrAnd r (λ e. e ≡ end) → P end → IfErr r P
handed_on (Ok x) end P is holds = tt
handed_on (Err e) end P is holds = subst P (sym is) holds

-- the nodes with a number are those of the connections so far
among_conns : {I : Type 0} (corners : Corners I) (file : SpefText) (head : HeadText) (conns : List Conn) (net : NetElements) (key : Key)
    → AreKept corners file head (first_of_each (conns_at file conns)) [] [] net → among key (map key_of net.nodes) ≡ among key (conn_keys file conns)
among_conns corners file head conns net key kept =
    let firsts = first_of_each (conns_at file conns) in
    ap (λ l. among key (map key_of l)) kept.nodes ∙ among_first_places key (element_nodes firsts [] [])
    ∙ ap (λ l. among key (map key_of l)) (append-nil (map (λ (c : Connection). c.node) firsts ++ []) ∙ append-nil (map (λ (c : Connection). c.node) firsts))
    ∙ ap (among key) (map_twice key_of (λ (c : Connection). c.node) firsts)
    ∙ among_first_of_each key (conns_at file conns) ∙ ap (among key) (conn_keys_are file conns)

module _ {I : Type 0} (corners : Corners I) (file : SpefText) (head : HeadText) (place n i : ℕ) (conn : Conn) where
  abbrev section : Section
  section = section_at file.reading.sections place

  abbrev before : List Conn
  before = take i section.conns

  module _ (old : Drafted) (upto : IsUpto corners file head place n i 0 0 old) (at : slice_get section.conns i ≡ Some conn) where
    start : Upto file head place section (points_upto file head section i 0 0) (reference conn.node ∷ (load_points file head before conn ++ behind_conn file head place section i conn at))
    start = record { split = conn_split file head place section i conn at; good = upto.good }

    pub conn_unknown : node_at file conn.node ≡ None → IsStop file head place (UnknownIndex conn.node)
    conn_unknown none = stop file head place section (points_upto file head section i 0 0) (load_points file head before conn ++ behind_conn file head place section i conn at) (reference conn.node) (UnknownIndex conn.node) start (refl, none)

    module _ (node : NodeName) (known : node_at file conn.node ≡ Some node) where
      abbrev key : Key
      key = key_of node

      abbrev the_connection : Connection
      the_connection = record { node = node; port = conn.port; direction = conn.direction; load = conn.load }

      is_later_is : is_later file before conn ≡ among key (conn_keys file before)
      is_later_is = by (node_at file conn.node) known
        where
          by : (it : Option NodeName) → it ≡ Some node → Rattle.spef_nets.specs.Faults.is_known_among (nodes_at file (map (λ (c : Conn). c.node) before)) it ≡ among key (conn_keys file before)
          by None e = absurd (cc)
          by (Some other) e = let same : other ≡ node = cc in ap (λ x. among (key_of x) (conn_keys file before)) same

      taken : take (i + 1) section.conns ≡ before ++ conn ∷ []
      taken = rw add-one (take_push section.conns i conn at)

      keys_push : conn_keys file before ++ key ∷ [] ≡ conn_keys file (take (i + 1) section.conns)
      keys_push = sym (
          ap (conn_keys file) taken ∙ ap (λ l. map key_of (nodes_at file l)) (map-append (λ (c : Conn). c.node) before (conn ∷ []))
          ∙ ap (map key_of) (flat_map-append (λ token. option_to_list (node_at file token)) (map (λ (c : Conn). c.node) before) (conn.node ∷ []))
          ∙ map-append key_of (nodes_at file (map (λ (c : Conn). c.node) before)) (option_to_list (node_at file conn.node) ++ [])
          ∙ ap (λ (it : Option NodeName). conn_keys file before ++ map key_of (option_to_list it ++ [])) known)

      conns_push : conns_at file (take (i + 1) section.conns) ≡ conns_at file before ++ the_connection ∷ []
      conns_push =
          ap (conns_at file) taken ∙ flat_map-append (λ (c : Conn). option_to_list (connection_at file c)) before (conn ∷ [])
          ∙ ap (λ (it : Option NodeName). conns_at file before ++ (option_to_list (option_map (λ (x : NodeName). record { node = x; port = conn.port; direction = conn.direction; load = conn.load }) it) ++ [])) known

      firsts_push_is : (was : Bool) → was ≡ among key (conn_keys file before) → first_of_each (conns_at file (take (i + 1) section.conns))
          ≡ (if was then first_of_each (conns_at file before) else first_of_each (conns_at file before) ++ the_connection ∷ [])
      firsts_push_is was is =
          ap first_of_each conns_push ∙ first_of_each_push (conns_at file before) the_connection
          ∙ ap (λ b. if b then first_of_each (conns_at file before) else first_of_each (conns_at file before) ++ the_connection ∷ []) (ap (among key) (conn_keys_are file before) ∙ sym is)

      points_more : points_upto file head section (i + 1) 0 0 ≡ points_upto file head section i 0 0 ++ (reference conn.node ∷ load_points file head before conn)
      points_more = rw add-one (conn_more file head place section i conn at)

      -- its node was listed before
      pub conn_again : (new : Drafted) → among key (conn_keys file before) ≡ true → new.net ≡ old.net → new.net.nodes ≡ new.refs.nodes
          → AreRefs file old.net.net (conn_keys file before ++ key ∷ []) (res_keys file (take n section.ress)) new.refs → IsUpto corners file head place n (i + 1) 0 0 new
      conn_again new listed same nodes refs = record {
        net = upto.net ∙ ap (λ (x : NetElements). Some x.net) (sym same);
        nodes = nodes;
        unwritten = ap (λ (x : NetElements). x.written) same ∙ upto.unwritten;
        refs = subst (λ (x : NetElements). AreRefs file x.net (conn_keys file (take (i + 1) section.conns)) (res_keys file (take n section.ress)) new.refs) (sym same)
            (subst (λ (l : List Key). AreRefs file old.net.net l (res_keys file (take n section.ress)) new.refs) keys_push refs);
        kept = subst (λ (x : NetElements). AreKept corners file head (first_of_each (conns_at file (take (i + 1) section.conns))) [] [] x) (sym same)
            (subst (λ (l : List Connection). AreKept corners file head l [] [] old.net) (sym (firsts_push_is true (sym listed))) upto.kept);
        good = subst (λ (l : List Point). All (IsGood file place section) l) (sym (points_more ∙ ap (λ b. points_upto file head section i 0 0 ++ (reference conn.node ∷ (if b then [] else map (amount head.cap_unit most_farads) (option_to_list conn.load)))) (is_later_is ∙ listed)))
            (All-push (IsGood file place section) (points_upto file head section i 0 0) (reference conn.node) upto.good (good_reference file place section conn.node node known));
      }

      module _ (absent : among key (conn_keys file before) ≡ false) where
        loads_are : load_points file head before conn ≡ map (amount head.cap_unit most_farads) (option_to_list conn.load)
        loads_are = ap (λ b. if b then [] else map (amount head.cap_unit most_farads) (option_to_list conn.load)) (is_later_is ∙ absent)

        behind : List Point
        behind = behind_conn file head place section i conn at

        known_upto : (load : Option ℕ) → conn.load ≡ load → Upto file head place section (points_upto file head section i 0 0 ++ reference conn.node ∷ []) (map (amount head.cap_unit most_farads) (option_to_list load) ++ behind_conn file head place section i conn at)
        known_upto load is =
            subst (λ (l : List Point). Upto file head place section (points_upto file head section i 0 0 ++ reference conn.node ∷ []) (l ++ behind_conn file head place section i conn at)) (loads_are ∙ ap (λ o. map (amount head.cap_unit most_farads) (option_to_list o)) is)
            (step file head place section (points_upto file head section i 0 0) (load_points file head before conn ++ behind_conn file head place section i conn at) (reference conn.node) start (good_reference file place section conn.node node known))

        -- its load has a fault
        pub conn_load_stop : (end : SectionEnd) → IsLoadFault file head.cap_unit conn.load end → IsStop file head place end
        conn_load_stop end fault = by conn.load refl fault
          where
            by : (load : Option ℕ) → conn.load ≡ load → IsLoadFault file head.cap_unit load end → IsStop file head place end
            by None is bad = absurd bad
            by (Some token) is bad =
                value_stop file head place section end refl
                (stop file head place section (points_upto file head section i 0 0 ++ reference conn.node ∷ []) (behind_conn file head place section i conn at) (amount head.cap_unit most_farads token) end (known_upto (Some token) is) bad)

        good_loads : (load : Option ℕ) → conn.load ≡ load → (grains : Grains) → IsLoad file head.cap_unit load grains → All (IsGood file place section) ((points_upto file head section i 0 0 ++ reference conn.node ∷ []) ++ map (amount head.cap_unit most_farads) (option_to_list load))
        good_loads None is grains reads = subst (λ (l : List Point). All (IsGood file place section) l) (sym (append-nil (points_upto file head section i 0 0 ++ reference conn.node ∷ []))) (known_upto None is).good
        good_loads (Some token) is grains reads =
            All-push (IsGood file place section) (points_upto file head section i 0 0 ++ reference conn.node ∷ []) (amount head.cap_unit most_farads token) (known_upto (Some token) is).good (good_amount file place section head.cap_unit most_farads token grains reads)

        load_reads : (load : Option ℕ) (grains : Grains) → IsLoad file head.cap_unit load grains → (pick : Pick) (value : Farads) → FaradsOf grains pick value → HasLoad file head.cap_unit pick load value.0
        load_reads None grains none pick value is = is ∙ ap (grains_at pick) none ∙ zero_at pick
          where
            zero_at : (pick : Pick) → grains_at pick (record { min = 0; typ = 0; max = 0 }) ≡ 0
            zero_at Rattle.corner_set.specs.declared.pick.Pick.TheVariants.Min = refl
            zero_at Rattle.corner_set.specs.declared.pick.Pick.TheVariants.Typ = refl
            zero_at Rattle.corner_set.specs.declared.pick.Pick.TheVariants.Max = refl
        load_reads (Some token) grains reads pick value is = has_grains file head.cap_unit most_farads token grains reads pick value.0 is

        load_small : (load : Option ℕ) (grains : Grains) → IsLoad file head.cap_unit load grains → (pick : Pick) (value : Farads) → FaradsOf grains pick value → value.0 ≤ most_farads
        load_small None grains none pick value is = let e = load_reads None grains none pick value is in omega (arith, e)
        load_small (Some token) grains reads pick value is = (has_grains file head.cap_unit most_farads token grains reads pick value.0 is).within

        -- a connection is kept
        pub conn_kept : (middle new : Drafted) (word : ℕ) (grains : Grains) → middle.net ≡ old.net → middle.net.nodes ≡ middle.refs.nodes → new.net.nodes ≡ new.refs.nodes
            → AreRefs file old.net.net (conn_keys file before ++ key ∷ []) (res_keys file (take n section.ress)) middle.refs → IsRef file middle.refs.words conn.node (Some word)
            → PutsConn corners middle new word conn grains → IsLoad file head.cap_unit conn.load grains → IsUpto corners file head place n (i + 1) 0 0 new
        conn_kept middle new word grains same nodes new_nodes refs ref puts reads =
            let kept : AreKept corners file head (first_of_each (conns_at file before)) [] [] middle.net = subst (λ (x : NetElements). AreKept corners file head (first_of_each (conns_at file before)) [] [] x) (sym same) upto.kept in
            let unnumbered : among key (map key_of middle.refs.nodes) ≡ false = ap (λ l. among key (map key_of l)) (sym nodes) ∙ among_conns corners file head before middle.net key kept ∙ absent in
            let numbered = conn_numbered corners file head old.net.net (conn_keys file before ++ key ∷ []) (res_keys file (take n section.ress)) middle new refs nodes
            (first_of_each (conns_at file before)) word (text_of file conn.node) node conn grains ref known kept unnumbered puts (load_reads conn.load grains reads) (load_small conn.load grains reads) in
            let keeps = keeps_conn corners file head old.net.net (conn_keys file before ++ key ∷ []) (res_keys file (take n section.ress)) middle new refs nodes
            (first_of_each (conns_at file before)) word (text_of file conn.node) node conn grains ref known kept unnumbered puts (load_reads conn.load grains reads) (load_small conn.load grains reads) in
            let net_is : new.net.net ≡ old.net.net = ap (λ (x : NetElements). x.net) puts.is ∙ ap (λ (x : NetElements). x.net) same in
            record {
              net = upto.net ∙ ap Some (sym net_is);
              nodes = new_nodes;
              unwritten = ap (λ (x : NetElements). x.written) puts.is ∙ ap (λ (x : NetElements). x.written) same ∙ upto.unwritten;
              refs = subst (λ (x : List ℕ). AreRefs file x (conn_keys file (take (i + 1) section.conns)) (res_keys file (take n section.ress)) new.refs) (sym net_is)
                  (subst (λ (l : List Key). AreRefs file old.net.net l (res_keys file (take n section.ress)) new.refs) keys_push numbered.are);
              kept = subst (λ (l : List Connection). AreKept corners file head l [] [] new.net) (sym (firsts_push_is false (sym absent))) keeps;
              good = subst (λ (l : List Point). All (IsGood file place section) l)
                  (append_assoc (points_upto file head section i 0 0) (reference conn.node ∷ []) (map (amount head.cap_unit most_farads) (option_to_list conn.load))
                  ∙ ap (λ l. points_upto file head section i 0 0 ++ (reference conn.node ∷ l)) (sym loads_are) ∙ sym points_more)
                  (good_loads conn.load refl grains reads);
            }

    -- the connection's reference, and its node listed
    pub conn_referred : (mid : Refs) (word : ℕ) (spelling : Option ℕ) → spelling ≡ Some word → Refers file old.net.net conn.node old.refs mid spelling
        → Referred file old.net.net (conn_keys file before) (res_keys file (take n section.ress)) conn.node old.refs mid (Some word)
    conn_referred mid word spelling is it =
        refers file old.net.net (conn_keys file before) (res_keys file (take n section.ress)) conn.node old.refs mid (Some word) upto.refs
        (subst (λ (w : Option ℕ). Refers file old.net.net conn.node old.refs mid w) is it)

    pub conn_listed : (mid new : Refs) (word : ℕ) (was : Bool) → Referred file old.net.net (conn_keys file before) (res_keys file (take n section.ress)) conn.node old.refs mid (Some word) → Lists mid new word was
        → ListedConn file old.net.net (conn_keys file before) (res_keys file (take n section.ress)) conn.node old.refs new word was
    conn_listed mid new word was its it =
        let known = node_of file old.net.net (conn_keys file before) (res_keys file (take n section.ress)) mid conn.node word its.are its.ref in
        let done = lists file old.net.net (conn_keys file before) (res_keys file (take n section.ress)) mid new conn.node word was known.0 its.are its.ref known.1 it in
        record {
          node = known.0;
          known = known.1;
          are = done.0;
          was_is = done.1;
          ref = ap (λ l. slice_get l word) done.2 ∙ its.ref;
          grows = (its.grows.0, done.2 ∙ its.grows.1);
          nodes = done.3 ∙ its.nodes;
        }

pub referred_none : (file : SpefText) (net : List ℕ) (token : ℕ) (old new : Refs) (word : Option ℕ) → word ≡ None → Refers file net token old new word → node_at file token ≡ None
referred_none file net token old new word is it = by (subst (λ (w : Option ℕ). Refers file net token old new w) is it)
  where
    by : Refers file net token old new None → node_at file token ≡ None
    by (unknown none same) = none

pub number_words : (old new : Refs) (word number : ℕ) → Numbers old new word number → new.words ≡ old.words
number_words old new word number (held place mark is_marked has stays) = ap (λ (r : Refs). r.words) stays
number_words old new word number (fresh place mark name is_marked none name_is last is) = ap (λ (r : Refs). r.words) is

pub put_conn_words : {I : Type 0} (corners : Corners I) (old new : Drafted) (word : ℕ) (conn : Conn) (grains : Grains) → PutsConn corners old new word conn grains → new.refs.words ≡ old.refs.words
put_conn_words corners old new word conn grains puts = number_words old.refs new.refs word puts.number puts.numbered

pub on_ok_grows : {T E : Type 0} (one two three : List (List ℕ)) (r : Result T E) → Grows one two → OnOk r (Grows two three) → OnOk r (Grows one three)
on_ok_grows one two three (Ok x) first second = grows_more one two three first second
on_ok_grows one two three (Err e) first second = second

pub unless_stop : (file : SpefText) (head : HeadText) (place : ℕ) (end other : SectionEnd) → IsUnless (λ e. e ≡ other) end → IsStop file head place other → IsStop file head place end
unless_stop file head place OutOfMemory other is stop = tt
unless_stop file head place (UnknownIndex at) other is stop = subst (IsStop file head place) (sym is) stop
unless_stop file head place (BadNumber at) other is stop = subst (IsStop file head place) (sym is) stop
unless_stop file head place (ValueTooLarge at) other is stop = subst (IsStop file head place) (sym is) stop
unless_stop file head place (RepeatedNet net at) other is stop = subst (IsStop file head place) (sym is) stop
unless_stop file head place (ForeignCoupling net at) other is stop = subst (IsStop file head place) (sym is) stop

pub put_res_words : {I : Type 0} (corners : Corners I) (old new : Drafted) (first second : ℕ) (grains : Grains) → PutsRes corners old new first second grains → new.refs.words ≡ old.refs.words
put_res_words corners old new first second grains puts = number_words puts.middle new.refs second puts.b puts.second_numbered ∙ number_words old.refs puts.middle first puts.a puts.first_numbered
