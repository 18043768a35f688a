-- A resistor is read, and then the section is.
use Rattle.std.proofs.Common.{◌≡◌, ℕ, ◌+◌, ◌*◌, ◌≤◌, List, [], ◌∷◌, ◌++◌, length, take, refl, sym, ap, ◌∙◌, subst, arith, append_assoc, add-one}
use Rattle.std.specs.Prelude.{Option, Some, None, slice_get, All}
use Rattle.std.specs.List.{flat_map}
use Rattle.std.proofs.lemmas.Grind.{flat_map-append}
use Rattle.std.proofs.lemmas.List.Elements.{All-push}
use Rattle.std.proofs.Math.Seq.{take-length}
use Rattle.name_table.specs.declared.spef_names.NodeName.{NodeName}
use Rattle.spef_text.specs.Entries.{Section, section_at}
use Rattle.spef_text.specs.SpefFiles.{SpefText}
use Rattle.spef_text.specs.Heads.{HeadText, text_of}
use Rattle.spef_text.specs.declared.entries.Cap.{Cap}
use Rattle.spef_text.specs.declared.entries.Conn.{Conn}
use Rattle.spef_text.specs.declared.entries.Res.{Res}
use Rattle.spef_nets.specs.Values.{triple_of, AreGrains}
use Rattle.name_table.specs.NodeKeys.{Key}
use Rattle.spef_nets.specs.Nodes.{node_at, net_at}
use Rattle.spef_nets.specs.Elements.{Joint, first_of_each, joint_of, joint_at, grounded, connections, capacitances, resistors}
use Rattle.delay_units.specs.Bounds.{most_ohms}
use Rattle.spef_nets.specs.NetElements.{NetElements, AreWhole}
use Rattle.spef_nets.specs.Sections.{Corners, IsNet}
use Rattle.spef_nets.specs.Faults.{Point, reference, naming, amount, IsValueAt, IsGood, res_points, IsFaultless}
use Rattle.spef_nets.specs.Refs.{AreRefs, IsRef, conn_keys, res_keys}
use Rattle.spef_nets.specs.Drafts.{Drafted, PutsRes, written_net, AreKept, points_upto, IsUpto, IsStop}
use Rattle.spef_nets.specs.declared.amounts.Grains.{Grains}
use Rattle.spef_nets.specs.declared.ends.SectionEnd.{SectionEnd}
use Rattle.spef_nets.specs.declared.ends.SectionEnd.TheVariants.{UnknownIndex}
use Rattle.spef_nets.proofs.Lists.{take_push}
use Rattle.spef_nets.proofs.ValuePoints.{good_amount}
use Rattle.spef_nets.proofs.Keeping.{keeps_res, res_numbered}
use Rattle.spef_nets.proofs.PointLemmas.{Upto, step, stop, res_split, res_more, behind_res, points_all}
use Rattle.spef_nets.proofs.Stepping.{good_reference, value_stop, conns_at}
use Rattle.spef_nets.proofs.Naming.{net_or_node}
use Rattle.spef_nets.proofs.DraftLemmas.{nothing_kept, whole}
use Rattle.spef_nets.proofs.FewPlaces.{few_grounded}

module _ {I : Type 0} (corners : Corners I) (file : SpefText) (head : HeadText) (place i : ℕ) (res : Res) where
  abbrev section : Section
  section = section_at file.reading.sections place

  abbrev n : ℕ
  n = length section.ress

  abbrev m : ℕ
  m = length section.conns

  abbrev g : ℕ
  g = length section.caps

  abbrev listed : List Key
  listed = conn_keys file (take m section.conns)

  abbrev joined : List Key
  joined = res_keys file (take n section.ress)

  abbrev done : List Point
  done = points_upto file head section m g i

  module _ (old : Drafted) (upto : IsUpto corners file head place n m g i old) (at : slice_get section.ress i ≡ Some res) where
    abbrev behind : List Point
    behind = behind_res file head place section i res at

    start : Upto file head place section done (reference res.first ∷ reference res.second ∷ amount head.res_unit most_ohms res.value ∷ behind)
    start = record { split = res_split file head place section i res at; good = upto.good }

    pub first_unknown : node_at file res.first ≡ None → IsStop file head place (UnknownIndex res.first)
    first_unknown none = stop file head place section done (reference res.second ∷ amount head.res_unit most_ohms res.value ∷ behind) (reference res.first) (UnknownIndex res.first) start (refl, none)

    module _ (a : NodeName) (known_a : node_at file res.first ≡ Some a) where
      second_start : Upto file head place section (done ++ reference res.first ∷ []) (reference res.second ∷ amount head.res_unit most_ohms res.value ∷ behind)
      second_start = step file head place section done (reference res.second ∷ amount head.res_unit most_ohms res.value ∷ behind) (reference res.first) start (good_reference file place section res.first a known_a)

      pub other_unknown : node_at file res.second ≡ None → IsStop file head place (UnknownIndex res.second)
      other_unknown none = stop file head place section (done ++ reference res.first ∷ []) (amount head.res_unit most_ohms res.value ∷ behind) (reference res.second) (UnknownIndex res.second) second_start (refl, none)

      module _ (b : NodeName) (known_b : node_at file res.second ≡ Some b) where
        value_start : Upto file head place section ((done ++ reference res.first ∷ []) ++ reference res.second ∷ []) (amount head.res_unit most_ohms res.value ∷ behind)
        value_start = step file head place section (done ++ reference res.first ∷ []) (amount head.res_unit most_ohms res.value ∷ behind) (reference res.second) second_start (good_reference file place section res.second b known_b)

        pub res_stop : (end : SectionEnd) → IsValueAt file head.res_unit most_ohms res.value end → IsStop file head place end
        res_stop end fault =
            value_stop file head place section end refl (stop file head place section ((done ++ reference res.first ∷ []) ++ reference res.second ∷ []) behind (amount head.res_unit most_ohms res.value) end value_start fault)

        joints_taken : flat_map (joint_at file) (take (i + 1) section.ress) ≡ flat_map (joint_at file) (take i section.ress) ++ record { first = a; second = b; value = res.value } ∷ []
        joints_taken =
            ap (flat_map (joint_at file)) (rw add-one (take_push section.ress i res at)) ∙ flat_map-append (joint_at file) (take i section.ress) (res ∷ [])
            ∙ ap (λ o. flat_map (joint_at file) (take i section.ress) ++ (joint_of o (node_at file res.second) res.value ++ [])) known_a
            ∙ ap (λ o. flat_map (joint_at file) (take i section.ress) ++ (joint_of (Some a) o res.value ++ [])) known_b

        pub res_kept : (new : Drafted) (first second : ℕ) (grains : Grains) → IsRef file old.refs.words res.first (Some first) → IsRef file old.refs.words res.second (Some second)
            → PutsRes corners old new first second grains → new.net.nodes ≡ new.refs.nodes → AreGrains head.res_unit most_ohms (triple_of (text_of file res.value)) grains → IsUpto corners file head place n m g (i + 1) new
        res_kept new first second grains first_ref second_ref puts nodes reads =
            let firsts = first_of_each (conns_at file (take m section.conns)) in
            let caps = flat_map (grounded file section) (take g section.caps) in
            let joints = flat_map (joint_at file) (take i section.ress) in
            let numbered = res_numbered corners file head old.net.net listed joined old new upto.refs upto.nodes firsts caps joints first second res.value (text_of file res.first) (text_of file res.second) a b grains first_ref known_a second_ref known_b upto.kept puts reads in
            let keeps = keeps_res corners file head old.net.net listed joined old new upto.refs upto.nodes firsts caps joints first second res.value (text_of file res.first) (text_of file res.second) a b grains first_ref known_a second_ref known_b upto.kept puts reads in
            let name : new.net.net ≡ old.net.net = ap (λ (x : NetElements). x.net) puts.is in
            let more : points_upto file head section m g (i + 1) ≡ done ++ res_points head res = rw add-one (res_more file head place section i res at) in
            let e : ((done ++ reference res.first ∷ []) ++ reference res.second ∷ []) ++ amount head.res_unit most_ohms res.value ∷ [] ≡ done ++ (reference res.first ∷ reference res.second ∷ amount head.res_unit most_ohms res.value ∷ []) = simp append_assoc in
            record {
              net = upto.net ∙ ap Some (sym name);
              nodes = nodes;
              unwritten = ap (λ (x : NetElements). x.written) puts.is ∙ upto.unwritten;
              refs = subst (λ (x : List ℕ). AreRefs file x listed joined new.refs) (sym name) numbered.are;
              kept = subst (λ (l : List Joint). AreKept corners file head firsts caps l new.net) (sym joints_taken) keeps;
              good = subst (λ (l : List Point). All (IsGood file place section) l) (e ∙ sym more)
                  (All-push (IsGood file place section) ((done ++ reference res.first ∷ []) ++ reference res.second ∷ []) (amount head.res_unit most_ohms res.value) value_start.good (good_amount file place section head.res_unit most_ohms res.value grains reads));
            }

module _ {I : Type 0} (corners : Corners I) (file : SpefText) (head : HeadText) (place : ℕ) where
  abbrev whole_section : Section
  whole_section = section_at file.reading.sections place

  -- the name of the net is new, and its index in the map
  pub good_net : (net : List ℕ) → net_at file whole_section.net ≡ Some net → IsGood file place whole_section (reference whole_section.net)
  good_net net named = by (node_at file whole_section.net) refl
    where
      by : (o : Option NodeName) → node_at file whole_section.net ≡ o → IsGood file place whole_section (reference whole_section.net)
      by None none = absurd (no_net ((net_or_node file whole_section.net).1 none))
        where
          no_net : net_at file whole_section.net ≡ None → ⊥
          no_net none = cc
      by (Some node) is = good_reference file place whole_section whole_section.net node is

  -- a section of which the resistors' nodes are known
  pub begun : (net : List ℕ) (draft : Drafted) → net_at file whole_section.net ≡ Some net → IsGood file place whole_section (naming whole_section.net)
      → AreRefs file net [] (res_keys file whole_section.ress) draft.refs → draft.refs.nodes ≡ []
      → draft.net ≡ record { net = net; nodes = draft.refs.nodes; conns = []; loads = []; caps = []; farads = []; joints = []; ohms = []; written = 0 }
      → IsUpto corners file head place (length whole_section.ress) 0 0 0 draft
  begun net draft named new refs nodes is = record {
    net = named ∙ ap (λ (x : NetElements). Some x.net) (sym is);
    nodes = ap (λ (x : NetElements). x.nodes) is;
    unwritten = ap (λ (x : NetElements). x.written) is;
    refs = subst (λ (x : NetElements). AreRefs file x.net [] (res_keys file (take (length whole_section.ress) whole_section.ress)) draft.refs) (sym is)
        (subst (λ (l : List Res). AreRefs file net [] (res_keys file l) draft.refs) (sym (take-length whole_section.ress)) refs);
    kept = subst (λ (x : NetElements). AreKept corners file head [] [] [] x) (sym (is ∙ ap (λ (l : List NodeName). record { net = net; nodes = l; conns = []; loads = []; caps = []; farads = []; joints = []; ohms = []; written = 0 }) nodes)) (nothing_kept corners file head net);
    good = All-push (IsGood file place whole_section) (reference whole_section.net ∷ []) (naming whole_section.net)
        (All-push (IsGood file place whole_section) [] (reference whole_section.net) (λ k d h. absurd (omega arith)) (good_net net named)) new;
  }

  module _ (draft : Drafted) (upto : IsUpto corners file head place (length whole_section.ress) (length whole_section.conns) (length whole_section.caps) (length whole_section.ress) draft) where
    kept_whole : AreKept corners file head (connections file whole_section) (capacitances file whole_section) (resistors file whole_section) draft.net
    kept_whole =
        subst (λ (l : List Conn). AreKept corners file head (first_of_each (conns_at file l)) (capacitances file whole_section) (resistors file whole_section) draft.net) (take-length whole_section.conns)
        (subst (λ (l : List Cap). AreKept corners file head (first_of_each (conns_at file (take (length whole_section.conns) whole_section.conns))) (flat_map (grounded file whole_section) l) (resistors file whole_section) draft.net) (take-length whole_section.caps)
        (subst (λ (l : List Res). AreKept corners file head (first_of_each (conns_at file (take (length whole_section.conns) whole_section.conns))) (flat_map (grounded file whole_section) (take (length whole_section.caps) whole_section.caps)) (flat_map (joint_at file) l) draft.net) (take-length whole_section.ress) upto.kept))

    pub whole_draft : (written : ℕ) → written ≡ length whole_section.caps → AreWhole corners.count (written_net draft.net written)
    whole_draft written is =
        let few : length (capacitances file whole_section) ≤ 2 * written = (let most = few_grounded file whole_section whole_section.caps in omega (arith, most, is)) in
        whole corners file head (connections file whole_section) (capacitances file whole_section) (resistors file whole_section) draft.net written kept_whole few

    -- what is kept is what the section says
    pub is_net : (written : ℕ) → written ≡ length whole_section.caps → IsNet corners file head whole_section (written_net draft.net written)
    is_net written is = record {
      named = upto.net;
      nodes = kept_whole.nodes;
      conns = kept_whole.listed;
      loads = λ row conn corner e. kept_whole.loads.each row conn corner e;
      caps = kept_whole.counted;
      farads = λ row one corner e. kept_whole.farads.each row one corner e;
      joints = kept_whole.joined;
      ohms = λ row joint corner e. kept_whole.ohms.each row joint corner e;
      written = is;
    }

    pub is_faultless : IsFaultless file head place whole_section
    is_faultless = subst (λ (l : List Point). All (IsGood file place whole_section) l) (points_all file head place whole_section) upto.good
