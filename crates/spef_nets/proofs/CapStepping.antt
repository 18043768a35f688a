-- A capacitance is read.
use Rattle.std.proofs.Common.{◌≡◌, ℕ, ◌+◌, ◌<◌, Bool, true, false, cond, ◌||◌, if◌then◌else◌, List, [], ◌∷◌, ◌++◌, length, map, filter, take, refl, sym, ap, ◌∙◌, subst, append_assoc, append-nil, add-one}
use Rattle.std.specs.Prelude.{Option, Some, None, IfSome, slice_get, All, option_to_list}
use Rattle.std.specs.List.{flat_map}
use Rattle.std.proofs.lemmas.Grind.{flat_map-append}
use Rattle.std.proofs.lemmas.List.Elements.{All-push}
use Rattle.std.proofs.Math.Seq.{take-length}
use Rattle.name_table.specs.declared.spef_names.NodeName.{NodeName}
use Rattle.spef_text.specs.Entries.{Section, section_at}
use Rattle.spef_text.specs.SpefFiles.{SpefText}
use Rattle.spef_text.specs.Heads.{HeadText, text_of}
use Rattle.spef_text.specs.declared.entries.Cap.{Cap}
use Rattle.spef_text.specs.declared.entries.Conn.{Conn}
use Rattle.spef_text.specs.declared.entries.Res.{Res}
use Rattle.spef_nets.specs.Values.{triple_of, AreGrains}
use Rattle.name_table.specs.NodeKeys.{Key}
use Rattle.spef_nets.specs.Nodes.{node_at, nodes_at, belongs, has_head, is_among}
use Rattle.spef_nets.specs.Elements.{Connection, Grounded, first_of_each, joint_at, places_of, grounded}
use Rattle.delay_units.specs.Bounds.{most_farads}
use Rattle.spef_nets.specs.NetElements.{NetElements}
use Rattle.spef_nets.specs.Sections.{Corners}
use Rattle.spef_nets.specs.Faults.{Point, reference, coupling, amount, IsValueAt, IsGood, cap_points}
use Rattle.spef_nets.specs.Refs.{Refs, Belongs, AreRefs, IsRef, Grows, conn_keys, res_keys}
use Rattle.spef_nets.specs.Drafts.{Drafted, Refers, PutsCap, AreKept, points_upto, IsUpto, IsStop, BelongsBy, CountsBy}
use Rattle.spef_nets.specs.declared.amounts.Grains.{Grains}
use Rattle.spef_nets.specs.declared.ends.SectionEnd.{SectionEnd}
use Rattle.spef_nets.specs.declared.ends.SectionEnd.TheVariants.{UnknownIndex, BadNumber, ValueTooLarge, RepeatedNet, ForeignCoupling, OutOfMemory}
use Rattle.spef_nets.proofs.Lists.{take_push}
use Rattle.spef_nets.proofs.RefLemmas.{its_mark}
use Rattle.spef_nets.proofs.ValuePoints.{good_amount}
use Rattle.spef_nets.proofs.Referring.{refers, node_of, word_within}
use Rattle.spef_nets.proofs.Keeping.{keeps_cap, cap_numbered}
use Rattle.spef_nets.proofs.PointLemmas.{Upto, step, stop, cap_split, cap_more, behind_cap}
use Rattle.spef_nets.proofs.Stepping.{good_reference, value_stop, with_nodes, conns_at}

-- a reference that is looked up leaves what is kept
pub upto_referred : {I : Type 0} (corners : Corners I) (file : SpefText) (head : HeadText) (place joined conns caps ress token : ℕ) (old new : Drafted) (word : Option ℕ) → IsUpto corners file head place joined conns caps ress old
    → Refers file old.net.net token old.refs new.refs word → new.net ≡ with_nodes old.net new.refs.nodes → IsUpto corners file head place joined conns caps ress new × IsRef file new.refs.words token word × Grows old.refs.words new.refs.words
upto_referred corners file head place joined conns caps ress token old new word upto it is =
    let section = section_at file.reading.sections place in
    let its = refers file old.net.net (conn_keys file (take conns section.conns)) (res_keys file (take joined section.ress)) token old.refs new.refs word upto.refs it in
    let same : new.net ≡ old.net = is ∙ ap (λ (l : List NodeName). with_nodes old.net l) (its.nodes ∙ sym upto.nodes) in (
      record {
        net = upto.net ∙ ap (λ (x : NetElements). Some x.net) (sym same);
        nodes = ap (λ (x : NetElements). x.nodes) is;
        unwritten = ap (λ (x : NetElements). x.written) same ∙ upto.unwritten;
        refs = subst (λ (x : NetElements). AreRefs file x.net (conn_keys file (take conns section.conns)) (res_keys file (take joined section.ress)) new.refs) (sym same) its.are;
        kept = subst (λ (x : NetElements). AreKept corners file head (first_of_each (conns_at file (take conns section.conns))) (flat_map (grounded file section) (take caps section.caps)) (flat_map (joint_at file) (take ress section.ress)) x) (sym same) upto.kept;
        good = upto.good;
      },
      its.ref,
      its.grows,
    )

-- what is kept while a capacitance is read
pub record Keeps {I : Type 0} (corners : Corners I) (file : SpefText) (head : HeadText) (net : List ℕ) (listed joined : List Key) (conns : List Connection) (caps : List Grounded) (draft : Drafted) : Type 0 where
  pub name : draft.net.net ≡ net
  pub nodes : draft.net.nodes ≡ draft.refs.nodes
  pub unwritten : draft.net.written ≡ 0
  pub are : AreRefs file net listed joined draft.refs
  pub kept : AreKept corners file head conns caps [] draft.net

module _ {I : Type 0} (corners : Corners I) (file : SpefText) (head : HeadText) (net : List ℕ) (listed joined : List Key) (conns : List Connection) where
  pub put_step : (caps : List Grounded) (old new : Drafted) (word token value : ℕ) (node : NodeName) (grains : Grains) → Keeps corners file head net listed joined conns caps old
      → IsRef file old.refs.words token (Some word) → node_at file token ≡ Some node → PutsCap corners old new word grains → new.net.nodes ≡ new.refs.nodes
      → AreGrains head.cap_unit most_farads (triple_of (text_of file value)) grains
      → Keeps corners file head net listed joined conns (caps ++ record { node = node; value = value } ∷ []) new × (new.refs.words ≡ old.refs.words)
  put_step caps old new word token value node grains keeps ref known puts nodes reads =
      let numbered = cap_numbered corners file head net listed joined old new keeps.are keeps.nodes conns caps word value (text_of file token) node grains ref known keeps.kept puts reads in (
        record {
          name = ap (λ (x : NetElements). x.net) puts.is ∙ keeps.name;
          nodes = nodes;
          unwritten = ap (λ (x : NetElements). x.written) puts.is ∙ keeps.unwritten;
          are = numbered.are;
          kept = keeps_cap corners file head net listed joined old new keeps.are keeps.nodes conns caps word value (text_of file token) node grains ref known keeps.kept puts reads;
        },
        numbered.words,
      )

  pub count_step : (counts : Bool) (caps : List Grounded) (old new : Drafted) (word token value : ℕ) (node : NodeName) (grains : Grains) → Keeps corners file head net listed joined conns caps old
      → IsRef file old.refs.words token (Some word) → node_at file token ≡ Some node → CountsBy corners old new word grains counts → new.net.nodes ≡ new.refs.nodes
      → AreGrains head.cap_unit most_farads (triple_of (text_of file value)) grains
      → Keeps corners file head net listed joined conns (caps ++ (if counts then record { node = node; value = value } ∷ [] else [])) new × (new.refs.words ≡ old.refs.words)
  count_step true caps old new word token value node grains keeps ref known puts nodes reads = put_step caps old new word token value node grains keeps ref known puts nodes reads
  count_step false caps old new word token value node grains keeps ref known same nodes reads = (
    subst (λ (d : Drafted). Keeps corners file head net listed joined conns (caps ++ []) d) (sym same) (subst (λ (l : List Grounded). Keeps corners file head net listed joined conns l old) (sym (append-nil caps)) keeps),
    ap (λ (d : Drafted). d.refs.words) same,
  )

abbrev ground_of : ℕ → NodeName → Grounded
ground_of value node = record { node = node; value = value }

good_ground : (file : SpefText) (place : ℕ) (section : Section) (cap : Cap) → cap.second ≡ None → IsGood file place section (coupling cap)
good_ground file place section cap none (UnknownIndex at) is = is
good_ground file place section cap none (BadNumber at) is = is
good_ground file place section cap none (ValueTooLarge at) is = is
good_ground file place section cap none (RepeatedNet net at) is = is
good_ground file place section cap none (ForeignCoupling net at) (one, two, (second, is, empty)) = absurd (cc)
good_ground file place section cap none OutOfMemory is = is

-- a coupling that counts somewhere is not foreign
good_coupling : (file : SpefText) (place : ℕ) (section : Section) (cap : Cap) (second : ℕ) → cap.second ≡ Some second → (places_of file section cap.first (Some second) ≡ [] → ⊥) → IsGood file place section (coupling cap)
good_coupling file place section cap second is some (UnknownIndex at) bad = bad
good_coupling file place section cap second is some (BadNumber at) bad = bad
good_coupling file place section cap second is some (ValueTooLarge at) bad = bad
good_coupling file place section cap second is some (RepeatedNet net at) bad = bad
good_coupling file place section cap second is some (ForeignCoupling net at) (one, two, (other, its, empty)) =
    let same : other ≡ second = cc in some (subst (λ (x : ℕ). places_of file section cap.first (Some x) ≡ []) same empty)
good_coupling file place section cap second is some OutOfMemory bad = bad

-- the places of a coupling
abbrev two_places : Bool → Bool → NodeName → NodeName → List NodeName
two_places near far a b = (if near then a ∷ [] else []) ++ (if far then b ∷ [] else [])

two_filtered : (p : NodeName → Bool) (near far : Bool) (a b : NodeName) → near ≡ p a → far ≡ p b → filter p (a ∷ b ∷ []) ≡ two_places near far a b
two_filtered p near far a b n f = ap (λ x. cond x (a ∷ cond (p b) (b ∷ []) []) (cond (p b) (b ∷ []) [])) (sym n) ∙ ap (λ y. cond near (a ∷ cond y (b ∷ []) []) (cond y (b ∷ []) [])) (sym f) ∙ by near far
  where
    by : (near far : Bool) → cond near (a ∷ cond far (b ∷ []) []) (cond far (b ∷ []) []) ≡ two_places near far a b
    by true true = refl
    by true false = refl
    by false true = refl
    by false false = refl

one_filtered : (p : NodeName → Bool) (near : Bool) (a : NodeName) → near ≡ p a → filter p (a ∷ []) ≡ (if near then a ∷ [] else [])
one_filtered p near a n = ap (λ x. cond x (a ∷ []) []) (sym n)

module _ {I : Type 0} (corners : Corners I) (file : SpefText) (head : HeadText) (place i : ℕ) (cap : Cap) where
  abbrev section : Section
  section = section_at file.reading.sections place

  abbrev n : ℕ
  n = length section.ress

  abbrev m : ℕ
  m = length section.conns

  abbrev listed : List Key
  listed = conn_keys file (take m section.conns)

  abbrev joined : List Key
  joined = res_keys file (take n section.ress)

  abbrev done : List Point
  done = points_upto file head section m i 0

  module _ (old : Drafted) (upto : IsUpto corners file head place n m i 0 old) (at : slice_get section.caps i ≡ Some cap) where
    abbrev behind : List Point
    behind = behind_cap file head place section i cap at

    start : Upto file head place section done (reference cap.first ∷ coupling cap ∷ ((map reference (option_to_list cap.second) ++ amount head.cap_unit most_farads cap.value ∷ []) ++ behind))
    start = record { split = cap_split file head place section i cap at; good = upto.good }

    pub cap_unknown : node_at file cap.first ≡ None → IsStop file head place (UnknownIndex cap.first)
    cap_unknown none = stop file head place section done (coupling cap ∷ ((map reference (option_to_list cap.second) ++ amount head.cap_unit most_farads cap.value ∷ []) ++ behind)) (reference cap.first) (UnknownIndex cap.first) start (refl, none)

    abbrev firsts : List Connection
    firsts = first_of_each (conns_at file (take m section.conns))

    abbrev before : List Grounded
    before = flat_map (grounded file section) (take i section.caps)

    pub keeps_of : Keeps corners file head old.net.net listed joined firsts before old
    keeps_of = record { name = refl; nodes = upto.nodes; unwritten = upto.unwritten; are = upto.refs; kept = upto.kept }

    caps_taken : flat_map (grounded file section) (take (i + 1) section.caps) ≡ flat_map (grounded file section) (take i section.caps) ++ grounded file section cap
    caps_taken =
        ap (flat_map (grounded file section)) (rw add-one (take_push section.caps i cap at)) ∙ flat_map-append (grounded file section) (take i section.caps) (cap ∷ [])
        ∙ ap (λ l. flat_map (grounded file section) (take i section.caps) ++ l) (append-nil (grounded file section cap))

    upto_kept : (more : List Grounded) (new : Drafted) → grounded file section cap ≡ more → All (IsGood file place section) (done ++ cap_points head cap)
        → Keeps corners file head old.net.net listed joined firsts (before ++ more) new → IsUpto corners file head place n m (i + 1) 0 new
    upto_kept more new is good keeps = record {
      net = upto.net ∙ ap Some (sym keeps.name);
      nodes = keeps.nodes;
      unwritten = keeps.unwritten;
      refs = subst (λ (x : List ℕ). AreRefs file x listed joined new.refs) (sym keeps.name) keeps.are;
      kept = subst (λ (l : List Grounded). AreKept corners file head firsts l [] new.net) (sym (caps_taken ∙ ap (λ l. flat_map (grounded file section) (take i section.caps) ++ l) is)) keeps.kept;
      good = (let e : points_upto file head section m (i + 1) 0 ≡ done ++ cap_points head cap = rw add-one (cap_more file head place section i cap at) in subst (λ (l : List Point). All (IsGood file place section) l) (sym e) good);
    }

    module _ (a : NodeName) (known : node_at file cap.first ≡ Some a) where
      second_start : Upto file head place section (done ++ reference cap.first ∷ []) (coupling cap ∷ ((map reference (option_to_list cap.second) ++ amount head.cap_unit most_farads cap.value ∷ []) ++ behind))
      second_start = step file head place section done (coupling cap ∷ ((map reference (option_to_list cap.second) ++ amount head.cap_unit most_farads cap.value ∷ []) ++ behind)) (reference cap.first) start (good_reference file place section cap.first a known)

      module _ (none : cap.second ≡ None) where
        ground_start : Upto file head place section ((done ++ reference cap.first ∷ []) ++ coupling cap ∷ []) (amount head.cap_unit most_farads cap.value ∷ behind)
        ground_start =
            step file head place section (done ++ reference cap.first ∷ []) (amount head.cap_unit most_farads cap.value ∷ behind) (coupling cap)
            (subst (λ (o : Option ℕ). Upto file head place section (done ++ reference cap.first ∷ []) (coupling cap ∷ ((map reference (option_to_list o) ++ amount head.cap_unit most_farads cap.value ∷ []) ++ behind))) none second_start)
            (good_ground file place section cap none)

        pub ground_stop : (end : SectionEnd) → IsValueAt file head.cap_unit most_farads cap.value end → IsStop file head place end
        ground_stop end fault =
            value_stop file head place section end refl (stop file head place section ((done ++ reference cap.first ∷ []) ++ coupling cap ∷ []) behind (amount head.cap_unit most_farads cap.value) end ground_start fault)

        pub ground_kept : (new : Drafted) (word : ℕ) (grains : Grains) → IsRef file old.refs.words cap.first (Some word) → PutsCap corners old new word grains → new.net.nodes ≡ new.refs.nodes
            → AreGrains head.cap_unit most_farads (triple_of (text_of file cap.value)) grains → IsUpto corners file head place n m (i + 1) 0 new × (new.refs.words ≡ old.refs.words)
        ground_kept new word grains ref puts nodes reads =
            let stepped = put_step corners file head old.net.net listed joined firsts before old new word cap.first cap.value a grains keeps_of ref known puts nodes reads in (
              upto_kept (record { node = a; value = cap.value } ∷ []) new
                  (ap (λ o. map (ground_of cap.value) (places_of file section cap.first o)) none ∙ ap (λ o. map (ground_of cap.value) (option_to_list o ++ [])) known)
                  (subst (λ (l : List Point). All (IsGood file place section) l)
                  ((let e : ((done ++ reference cap.first ∷ []) ++ coupling cap ∷ []) ++ amount head.cap_unit most_farads cap.value ∷ [] ≡ done ++ (reference cap.first ∷ coupling cap ∷ amount head.cap_unit most_farads cap.value ∷ []) = simp append_assoc in e)
                  ∙ ap (λ o. done ++ (reference cap.first ∷ coupling cap ∷ (map reference (option_to_list o) ++ amount head.cap_unit most_farads cap.value ∷ []))) (sym none))
                  (All-push (IsGood file place section) ((done ++ reference cap.first ∷ []) ++ coupling cap ∷ []) (amount head.cap_unit most_farads cap.value) ground_start.good (good_amount file place section head.cap_unit most_farads cap.value grains reads)))
                  stepped.0,
              stepped.1,
            )

      module _ (second : ℕ) (has : cap.second ≡ Some second) where
        coupled_start : Upto file head place section (done ++ reference cap.first ∷ []) (coupling cap ∷ reference second ∷ amount head.cap_unit most_farads cap.value ∷ behind)
        coupled_start =
            subst (λ (o : Option ℕ). Upto file head place section (done ++ reference cap.first ∷ []) (coupling cap ∷ ((map reference (option_to_list o) ++ amount head.cap_unit most_farads cap.value ∷ []) ++ behind))) has second_start

        belongs_is : (word token : ℕ) (answer : Bool) (node : NodeName) → IsRef file old.refs.words token (Some word) → node_at file token ≡ Some node → Belongs old.refs word answer → answer ≡ belongs file section node
        unfolding belongs
        belongs_is word token answer node ref its it =
            it.is ∙ (its_mark file old.net.net listed joined old.refs upto.refs word (text_of file token) node ref its it.place it.mark it.marked).does_belong
            ∙ (λ j. is_among node (nodes_at file (map (λ (c : Conn). c.node) (take-length section.conns j))) || (is_among node (nodes_at file (flat_map (λ (r : Res). r.first ∷ r.second ∷ []) (take-length section.ress j))) || has_head (sym upto.net j) node))

        -- where the second node is not known, the first alone can belong
        places_unknown : (near : Bool) (word : ℕ) → IsRef file old.refs.words cap.first (Some word) → Belongs old.refs word near → node_at file second ≡ None → places_of file section cap.first (Some second) ≡ (if near then a ∷ [] else [])
        places_unknown near word ref it none =
            ap (λ o. filter (belongs file section) (option_to_list o ++ (option_to_list (node_at file second) ++ []))) known ∙ ap (λ o. filter (belongs file section) (a ∷ (option_to_list o ++ []))) none
            ∙ one_filtered (belongs file section) near a (belongs_is word cap.first near a ref known it)

        places_known : (near far : Bool) (word other : ℕ) (b : NodeName) → IsRef file old.refs.words cap.first (Some word) → Belongs old.refs word near → IsRef file old.refs.words second (Some other) → Belongs old.refs other far → node_at file second ≡ Some b
            → places_of file section cap.first (Some second) ≡ two_places near far a b
        places_known near far word other b ref it other_ref other_it its =
            ap (λ o. filter (belongs file section) (option_to_list o ++ (option_to_list (node_at file second) ++ []))) known ∙ ap (λ o. filter (belongs file section) (a ∷ (option_to_list o ++ []))) its
            ∙ two_filtered (belongs file section) near far a b (belongs_is word cap.first near a ref known it) (belongs_is other second far b other_ref its other_it)

        pub foreign_stop : (word : ℕ) (other : Option ℕ) (near far : Bool) (end : SectionEnd) → IsRef file old.refs.words cap.first (Some word) → Belongs old.refs word near → IsRef file old.refs.words second other → BelongsBy old.refs other far
            → near ≡ false → far ≡ false → end ≡ ForeignCoupling old.net.net cap.first → IsStop file head place end
        foreign_stop word other near far end ref it other_ref other_it not_near not_far is =
            subst (IsStop file head place) (sym is)
            (stop file head place section (done ++ reference cap.first ∷ []) (reference second ∷ amount head.cap_unit most_farads cap.value ∷ behind) (coupling cap) (ForeignCoupling old.net.net cap.first) coupled_start
            (refl, upto.net, (second, has, by other other_ref other_it)))
          where
            by : (other : Option ℕ) → IsRef file old.refs.words second other → BelongsBy old.refs other far → places_of file section cap.first (Some second) ≡ []
            by None r b = places_unknown near word ref it r ∙ ap (λ x. if x then a ∷ [] else []) not_near
            by (Some w) r b =
                let its = node_of file old.net.net listed joined old.refs second w upto.refs r in
                places_known near far word w its.0 ref it r b its.1 ∙ ap (λ x. two_places x far a its.0) not_near ∙ ap (λ x. two_places false x a its.0) not_far

        module _ (word : ℕ) (near far : Bool) (some : near ≡ false → far ≡ false → ⊥) (ref : IsRef file old.refs.words cap.first (Some word)) (it : Belongs old.refs word near) where
          pub second_unknown : (other : Option ℕ) → other ≡ None → IsRef file old.refs.words second other → BelongsBy old.refs other far → IsStop file head place (UnknownIndex second)
          second_unknown other none other_ref other_it =
              let unknown : node_at file second ≡ None = subst (λ (o : Option ℕ). IsRef file old.refs.words second o) none other_ref in
              let not_far : far ≡ false = subst (λ (o : Option ℕ). BelongsBy old.refs o far) none other_it in
              let is_near : near ≡ true = is_true near (λ e. some e not_far) in
              let places : places_of file section cap.first (Some second) ≡ a ∷ [] = places_unknown near word ref it unknown ∙ ap (λ x. if x then a ∷ [] else []) is_near in
              stop file head place section ((done ++ reference cap.first ∷ []) ++ coupling cap ∷ []) (amount head.cap_unit most_farads cap.value ∷ behind) (reference second) (UnknownIndex second)
              (step file head place section (done ++ reference cap.first ∷ []) (reference second ∷ amount head.cap_unit most_farads cap.value ∷ behind) (coupling cap) coupled_start
              (good_coupling file place section cap second has (λ empty. not_empty (sym places ∙ empty))))
              (refl, unknown)
            where
              is_true : (x : Bool) → (x ≡ false → ⊥) → x ≡ true
              is_true true h = refl
              is_true false h = absurd (h refl)

              not_empty : (a ∷ []) ≡ [] → ⊥
              not_empty e = cc

          module _ (other : ℕ) (b : NodeName) (other_ref : IsRef file old.refs.words second (Some other)) (other_it : Belongs old.refs other far) (its : node_at file second ≡ Some b) where
            places : places_of file section cap.first (Some second) ≡ two_places near far a b
            places = places_known near far word other b ref it other_ref other_it its

            not_foreign : places_of file section cap.first (Some second) ≡ [] → ⊥
            not_foreign empty = by near far some (sym places ∙ empty)
              where
                by : (near far : Bool) → (near ≡ false → far ≡ false → ⊥) → two_places near far a b ≡ [] → ⊥
                by true far some e = cc
                by false true some e = cc
                by false false some e = some refl refl

            value_start : Upto file head place section (((done ++ reference cap.first ∷ []) ++ coupling cap ∷ []) ++ reference second ∷ []) (amount head.cap_unit most_farads cap.value ∷ behind)
            value_start =
                step file head place section ((done ++ reference cap.first ∷ []) ++ coupling cap ∷ []) (amount head.cap_unit most_farads cap.value ∷ behind) (reference second)
                (step file head place section (done ++ reference cap.first ∷ []) (reference second ∷ amount head.cap_unit most_farads cap.value ∷ behind) (coupling cap) coupled_start (good_coupling file place section cap second has not_foreign))
                (good_reference file place section second b its)

            pub coupled_stop : (end : SectionEnd) → IsValueAt file head.cap_unit most_farads cap.value end → IsStop file head place end
            coupled_stop end fault =
                value_stop file head place section end refl (stop file head place section (((done ++ reference cap.first ∷ []) ++ coupling cap ∷ []) ++ reference second ∷ []) behind (amount head.cap_unit most_farads cap.value) end value_start fault)

            two_grounded : (near far : Bool) → map (ground_of cap.value) (two_places near far a b)
                ≡ (if near then record { node = a; value = cap.value } ∷ [] else []) ++ (if far then record { node = b; value = cap.value } ∷ [] else [])
            two_grounded true true = refl
            two_grounded true false = refl
            two_grounded false true = refl
            two_grounded false false = refl

            pub coupled_middle : (middle : Drafted) (grains : Grains) → CountsBy corners old middle word grains near → middle.net.nodes ≡ middle.refs.nodes
                → AreGrains head.cap_unit most_farads (triple_of (text_of file cap.value)) grains → AreRefs file old.net.net listed joined middle.refs × IsRef file middle.refs.words second (Some other)
            coupled_middle middle grains one middle_nodes reads =
                let first = count_step corners file head old.net.net listed joined firsts near before old middle word cap.first cap.value a grains keeps_of ref known one middle_nodes reads in
                (first.0.are, ap (λ l. slice_get l other) first.1 ∙ other_ref)

            pub coupled_kept : (middle new : Drafted) (grains : Grains) → CountsBy corners old middle word grains near → middle.net.nodes ≡ middle.refs.nodes
                → CountsBy corners middle new other grains far → new.net.nodes ≡ new.refs.nodes
                → AreGrains head.cap_unit most_farads (triple_of (text_of file cap.value)) grains → IsUpto corners file head place n m (i + 1) 0 new × (new.refs.words ≡ old.refs.words)
            coupled_kept middle new grains one middle_nodes two new_nodes reads =
                let first = count_step corners file head old.net.net listed joined firsts near before old middle word cap.first cap.value a grains keeps_of ref known one middle_nodes reads in
                let last = count_step corners file head old.net.net listed joined firsts far (before ++ (if near then record { node = a; value = cap.value } ∷ [] else [])) middle new other second cap.value b grains first.0
                (ap (λ l. slice_get l other) first.1 ∙ other_ref) its two new_nodes reads in (
                  upto_kept ((if near then record { node = a; value = cap.value } ∷ [] else []) ++ (if far then record { node = b; value = cap.value } ∷ [] else [])) new
                      (ap (λ o. map (ground_of cap.value) (places_of file section cap.first o)) has
                      ∙ ap (map (ground_of cap.value)) places ∙ two_grounded near far)
                      (subst (λ (l : List Point). All (IsGood file place section) l)
                      ((let e : (((done ++ reference cap.first ∷ []) ++ coupling cap ∷ []) ++ reference second ∷ []) ++ amount head.cap_unit most_farads cap.value ∷ [] ≡ done ++ (reference cap.first ∷ coupling cap ∷ reference second ∷ amount head.cap_unit most_farads cap.value ∷ []) = simp append_assoc in e)
                      ∙ ap (λ o. done ++ (reference cap.first ∷ coupling cap ∷ (map reference (option_to_list o) ++ amount head.cap_unit most_farads cap.value ∷ []))) (sym has))
                      (All-push (IsGood file place section) (((done ++ reference cap.first ∷ []) ++ coupling cap ∷ []) ++ reference second ∷ []) (amount head.cap_unit most_farads cap.value) value_start.good
                      (good_amount file place section head.cap_unit most_farads cap.value grains reads)))
                      (subst (λ (l : List Grounded). Keeps corners file head old.net.net listed joined firsts l new)
                      (append_assoc before (if near then record { node = a; value = cap.value } ∷ [] else []) (if far then record { node = b; value = cap.value } ∷ [] else [])) last.0),
                  last.1 ∙ first.1,
                )

pub within_if_known : (file : SpefText) (net : List ℕ) (keys others : List Key) (refs : Refs) (token : ℕ) (word : Option ℕ) → AreRefs file net keys others refs → IsRef file refs.words token word → IfSome word (λ w. w < length refs.places)
within_if_known file net keys others refs token None are ref = tt
within_if_known file net keys others refs token (Some word) are ref = word_within file net keys others refs token word are ref
