-- The elements of a section stay what it says when there is one more.
use Rattle.std.proofs.Common.{◌≡◌, ℕ, zero, suc, ◌*◌, ◌<◌, ◌≤◌, Bool, true, false, if◌then◌else◌, List, [], ◌∷◌, ◌++◌, length, map, get_or, refl, sym, ap, ◌∙◌, subst, arith, append-nil}
use Rattle.std.specs.Prelude.{Some, slice_get}
use Rattle.std.proofs.lemmas.Option.{slice_get_within, slice_get-map, slice_get-get_or}
use Rattle.std.proofs.lemmas.List.{map-append, length-map}
use Rattle.corner_set.specs.declared.pick.Pick.{Pick}
use Rattle.delay_units.specs.declared.numbers.Unit.{Unit}
use Rattle.name_table.specs.declared.spef_names.NodeName.{NodeName}
use Rattle.spef_text.specs.SpefFiles.{SpefText}
use Rattle.spef_text.specs.Heads.{HeadText, text_of}
use Rattle.spef_nets.specs.Values.{triple_of, picked, IsAmount, AreGrains, grains_at}
use Rattle.name_table.specs.NodeKeys.{Key, key_of, among}
use Rattle.spef_nets.specs.Nodes.{AreDistinctNodes}
use Rattle.spef_nets.specs.Elements.{Connection, Grounded, Joint}
use Rattle.spef_nets.specs.NetElements.{NetElements, AreWhole}
use Rattle.spef_nets.specs.Sections.{Corners, HasGrains, Listing, listing, listing_of, key_at, KeyEnds, ends_of, ends_at}
use Rattle.spef_nets.specs.Drafts.{AreKept, element_nodes, written_net}
use Rattle.spef_nets.specs.declared.amounts.Grains.{Grains}
use Rattle.spef_nets.specs.declared.parts.Listed.{Listed}
use Rattle.spef_nets.specs.declared.parts.Ends.{Ends}
use Rattle.spef_nets.proofs.DistinctNodes.{distinct_places}
use Rattle.spef_nets.proofs.AmountLemmas.{picked_amount}
use Rattle.spef_nets.proofs.Lists.{get_left}
use Rattle.spef_nets.proofs.NodeLemmas.{placed}
use Rattle.spef_nets.proofs.RowLemmas.{no_rows}

-- two lists whose items are seen alike, item by item
pub related_at : {A B C : Type 0} (f : A → C) (g : B → C) (xs : List A) (ys : List B) → map f xs ≡ map g ys → (k : ℕ) (a : A) → slice_get xs k ≡ Some a → (b : B) × (slice_get ys k ≡ Some b) × (f a ≡ g b)
related_at f g [] ys e k a at = absurd (cc)
related_at f g (x ∷ xs) [] e k a at = absurd (cc)
related_at f g (x ∷ xs) (b ∷ ys) e zero a at = let same : x ≡ a = cc in let head : f x ≡ g b = cc in (b, refl, ap f (sym same) ∙ head)
related_at f g (x ∷ xs) (b ∷ ys) e (suc k) a at = let rest : map f xs ≡ map g ys = cc in related_at f g xs ys rest k a at

pub same_length : {A B C : Type 0} (f : A → C) (g : B → C) (xs : List A) (ys : List B) → map f xs ≡ map g ys → length xs ≡ length ys
same_length f g xs ys e = sym (length-map xs f) ∙ ap length e ∙ length-map ys g

-- what is seen stays where more nodes are put behind
map_grows : {A B C : Type 0} (of after : A → C) (want : B → C) → ((a : A) (b : B) → of a ≡ want b → after a ≡ want b) → (xs : List A) (ys : List B) → map of xs ≡ map want ys → map after xs ≡ map want ys
map_grows of after want grow [] [] e = refl
map_grows of after want grow [] (b ∷ ys) e = absurd (cc)
map_grows of after want grow (a ∷ xs) [] e = absurd (cc)
map_grows of after want grow (a ∷ xs) (b ∷ ys) e =
    let head : of a ≡ want b = cc in
    let rest : map of xs ≡ map want ys = cc in
    let first : after a ≡ want b = grow a b head in
    let others : map after xs ≡ map want ys = map_grows of after want grow xs ys rest in
    λ i. first i ∷ others i

listing_grows : (nodes more : List NodeName) (listed : Listed) (conn : Connection) → listing_of nodes listed ≡ listing conn → listing_of (nodes ++ more) listed ≡ listing conn
listing_grows nodes more listed conn e =
    let at : slice_get (nodes ++ more) listed.node ≡ Some conn.node = get_left nodes more listed.node conn.node (ap (λ (l : Listing). l.node) e) in
    λ i. record { node = at i; port = (ap (λ (l : Listing). l.port) e) i; direction = (ap (λ (l : Listing). l.direction) e) i }

pub key_of_at : (nodes : List NodeName) (number : ℕ) → key_at nodes number ≡ slice_get (map key_of nodes) number
key_of_at nodes number = sym (slice_get-map key_of nodes number)

key_grows : (nodes more : List NodeName) (number : ℕ) (key : Key) → key_at nodes number ≡ Some key → key_at (nodes ++ more) number ≡ Some key
key_grows nodes more number key e =
    key_of_at (nodes ++ more) number ∙ ap (λ l. slice_get l number) (map-append key_of nodes more) ∙ get_left (map key_of nodes) (map key_of more) number key (sym (key_of_at nodes number) ∙ e)

ends_grow : (nodes more : List NodeName) (ends : Ends) (joint : Joint) → ends_of nodes ends ≡ ends_at joint → ends_of (nodes ++ more) ends ≡ ends_at joint
ends_grow nodes more ends joint e =
    let a : key_at (nodes ++ more) ends.a ≡ Some (key_of joint.first) = key_grows nodes more ends.a (key_of joint.first) (ap (λ (x : KeyEnds). x.a) e) in
    let b : key_at (nodes ++ more) ends.b ≡ Some (key_of joint.second) = key_grows nodes more ends.b (key_of joint.second) (ap (λ (x : KeyEnds). x.b) e) in
    λ i. record { a = a i; b = b i }

-- with one more node by first place nothing is moved
pub placed_more : (nodes : List NodeName) (node : NodeName) → (more : List NodeName) × (placed nodes node ≡ nodes ++ more)
placed_more nodes node = by (among (key_of node) (map key_of nodes)) refl
  where
    by : (there : Bool) → among (key_of node) (map key_of nodes) ≡ there → (more : List NodeName) × (placed nodes node ≡ nodes ++ more)
    by true e = ([], ap (λ b. if b then nodes else nodes ++ node ∷ []) e ∙ sym (append-nil nodes))
    by false e = (node ∷ [], ap (λ b. if b then nodes else nodes ++ node ∷ []) e)

-- a value whose members have so many grains
pub has_grains : (file : SpefText) (unit : Unit) (most token : ℕ) (grains : Grains) → AreGrains unit most (triple_of (text_of file token)) grains → (pick : Pick) (n : ℕ) → n ≡ grains_at pick grains → HasGrains file unit most pick token n
has_grains file unit most token grains are pick n e = subst (λ (k : ℕ). IsAmount unit most (picked pick (triple_of (text_of file token))) k) (sym e) (picked_amount unit most (triple_of (text_of file token)) pick grains are)

module _ {I : Type 0} (corners : Corners I) (file : SpefText) (head : HeadText) where
  pub nothing_kept : (name : List ℕ) → AreKept corners file head [] [] [] (record { net = name; nodes = []; conns = []; loads = []; caps = []; farads = []; joints = []; ohms = []; written = 0 })
  nothing_kept name = record {
    nodes = refl;
    listed = refl;
    loads = no_rows corners _;
    counted = refl;
    farads = no_rows corners _;
    joined = refl;
    ohms = no_rows corners _;
    small_loads = λ k d h. absurd (omega arith);
    small_caps = λ k d h. absurd (omega arith);
    small_ress = λ k d h. absurd (omega arith);
  }

  -- the elements that are kept, when nodes are put behind those that have numbers
  module _ (conns : List Connection) (caps : List Grounded) (joints : List Joint) (net : NetElements) (are : AreKept corners file head conns caps joints net) (nodes : List NodeName) (grows : (more : List NodeName) × (nodes ≡ net.nodes ++ more)) where
    pub still_listed : map (listing_of nodes) net.conns ≡ map listing conns
    still_listed = ap (λ l. map (listing_of l) net.conns) grows.1 ∙ map_grows (listing_of net.nodes) (listing_of (net.nodes ++ grows.0)) listing (listing_grows net.nodes grows.0) net.conns conns are.listed

    pub still_counted : map (key_at nodes) net.caps ≡ map (λ c. Some (key_of c.node)) caps
    still_counted = ap (λ l. map (key_at l) net.caps) grows.1
        ∙ map_grows (key_at net.nodes) (key_at (net.nodes ++ grows.0)) (λ (c : Grounded). Some (key_of c.node)) (λ number c e. key_grows net.nodes grows.0 number (key_of c.node) e) net.caps caps are.counted

    pub still_joined : map (ends_of nodes) net.joints ≡ map ends_at joints
    still_joined = ap (λ l. map (ends_of l) net.joints) grows.1 ∙ map_grows (ends_of net.nodes) (ends_of (net.nodes ++ grows.0)) ends_at (ends_grow net.nodes grows.0) net.joints joints are.joined

  -- what a draft of kept elements is, however many they are
  pub whole : (conns : List Connection) (caps : List Grounded) (joints : List Joint) (net : NetElements) (written : ℕ) → AreKept corners file head conns caps joints net → length caps ≤ 2 * written
      → AreWhole corners.count (written_net net written)
  whole conns caps joints net written are few = record {
    load_rows = are.loads.rows ∙ ap (λ n. n * corners.count) (sym (same_length (listing_of net.nodes) listing net.conns conns are.listed));
    cap_rows = are.farads.rows ∙ ap (λ n. n * corners.count) (sym (same_length (key_at net.nodes) (λ (c : Grounded). Some (key_of c.node)) net.caps caps are.counted));
    res_rows = are.ohms.rows ∙ ap (λ n. n * corners.count) (sym (same_length (ends_of net.nodes) ends_at net.joints joints are.joined));
    listed = λ k d h.
        let its = related_at (listing_of net.nodes) listing net.conns conns are.listed k (get_or net.conns k d) (slice_get-get_or net.conns k d h) in
        slice_get_within net.nodes (get_or net.conns k d).node its.0.node (ap (λ (l : Listing). l.node) its.2);
    counted = λ k d h.
        let its = related_at (key_at net.nodes) (λ (c : Grounded). Some (key_of c.node)) net.caps caps are.counted k (get_or net.caps k d) (slice_get-get_or net.caps k d h) in
        within net.nodes (get_or net.caps k d) (key_of its.0.node) its.2;
    joined = λ k d h.
        let its = related_at (ends_of net.nodes) ends_at net.joints joints are.joined k (get_or net.joints k d) (slice_get-get_or net.joints k d h) in
        (within net.nodes (get_or net.joints k d).a (key_of its.0.first) (ap (λ (x : KeyEnds). x.a) its.2), within net.nodes (get_or net.joints k d).b (key_of its.0.second) (ap (λ (x : KeyEnds). x.b) its.2));
    small_loads = are.small_loads;
    small_caps = are.small_caps;
    small_ress = are.small_ress;
    distinct = subst AreDistinctNodes (sym are.nodes) (distinct_places (element_nodes conns caps joints));
    few_caps = (let many = same_length (key_at net.nodes) (λ (c : Grounded). Some (key_of c.node)) net.caps caps are.counted in omega (arith, many, few));
  }
    where
      within : (nodes : List NodeName) (number : ℕ) (key : Key) → key_at nodes number ≡ Some key → number < length nodes
      within nodes number key e =
          let below = slice_get_within (map key_of nodes) number key (sym (key_of_at nodes number) ∙ e) in
          omega (arith, below, length-map nodes key_of)
