-- The lists of all nets, before and after one more net is put behind.
use Rattle.std.proofs.Common.{◌≡◌, ℕ, zero, suc, ◌+◌, ◌-◌, ◌*◌, ◌<◌, ◌≤◌, List, [], ◌∷◌, ◌++◌, length, take, drop, get_or, refl, sym, ap, ap₂, ◌∙◌, subst, arith, length-append}
use Rattle.std.specs.Prelude.{Some, slice_get, All}
use Rattle.std.specs.List.{between}
use Rattle.std.proofs.Math.Nat.{mul-le-mul_right}
use Rattle.std.proofs.lemmas.List.{drop-append-le, take-append-le, take_all, drop_at, length-drop, length-map}
use Rattle.std.proofs.lemmas.List.Elements.{All-append, All-push, All-take, All-drop}
use Rattle.spef_text.specs.SpefFiles.{SpefText}
use Rattle.spef_text.specs.Heads.{HeadText}
use Rattle.spef_nets.specs.Nodes.{nodes_at}
use Rattle.spef_nets.specs.NodeNames.{NamesOne, NameNodes, AreSpelled}
use Rattle.spef_nets.specs.NetElements.{NetElements, AreWhole, net_names}
use Rattle.spef_nets.specs.Rows.{Rows, no_rows, with_rows, net_in, rows_in}
use Rattle.spef_nets.specs.RowsOf.{rows_of}
use Rattle.spef_nets.specs.Tables.{start, end_of, AreFilled, rows_between, net_between, nets_from, IsBehind, IsWithin, IsLast, AreInOrder, AreTabled}
use Rattle.spef_nets.specs.TablesOf.{nets_in, HoldNets, AddsNet}
use Rattle.spef_nets.specs.declared.tables.NetEnd.{NetEnd}
use Rattle.spef_nets.specs.declared.tables.Tables.{Tables}
use Rattle.spef_nets.proofs.Lists.{all_at}

-- ---- one list

-- what is put behind changes nothing in front
between_kept : {X : Type 0} (from to : ℕ) (all more : List X) → from ≤ to → to ≤ length all → between from to (all ++ more) ≡ between from to all
between_kept from to all more below within =
    let first : from ≤ length all = omega arith in
    let second : to - from ≤ length (drop from all) = omega (arith, length-drop from all) in
    ap (take (to - from)) (drop-append-le from all more first) ∙ take-append-le (to - from) (drop from all) more second

-- and lies behind all that stood
between_new : {X : Type 0} (from to : ℕ) (all more : List X) → from ≡ length all → to ≡ length all + length more → between from to (all ++ more) ≡ more
between_new from to all more is_from is_to =
    ap (take (to - from)) (drop_at all more from (sym is_from)) ∙ take_all (to - from) more (omega (arith, is_from, is_to))

-- the same of the values of rows
module _ {X : Type 0} (count : ℕ) (rows : ℕ) (grid more : List X) (full : length grid ≡ rows * count) where
  row_end : (to : ℕ) → to ≤ rows → to * count ≤ length grid
  row_end to within = let most : to * count ≤ rows * count = mul-le-mul_right count within in omega (arith, most, full)

  grid_kept : (from to : ℕ) → from ≤ to → to ≤ rows → between (from * count) (to * count) (grid ++ more) ≡ between (from * count) (to * count) grid
  grid_kept from to below within = between_kept (from * count) (to * count) grid more (mul-le-mul_right count below) (row_end to within)

  grid_new : (from to many : ℕ) → length more ≡ many * count → from ≡ rows → to ≡ rows + many → between (from * count) (to * count) (grid ++ more) ≡ more
  grid_new from to many full_more is_from is_to =
      let whole : (rows + many) * count ≡ rows * count + many * count = grind arith in
      between_new (from * count) (to * count) grid more (ap (λ n. n * count) is_from ∙ sym full)
      (ap (λ n. n * count) is_to ∙ whole ∙ ap₂ (λ a b. a + b) (sym full) (sym full_more))

-- ---- rows

module _ (count : ℕ) (rows more : Rows) (filled : AreFilled count rows) where
  rows_kept : (from to : NetEnd) (tokens : List ℕ) → IsBehind from to → IsWithin to tokens rows → rows_between count from to (with_rows rows more) ≡ rows_between count from to rows
  rows_kept from to tokens behind within = λ i. record {
    conns = between_kept from.conns to.conns rows.conns more.conns behind.conns within.conns i;
    loads = grid_kept count (length rows.conns) rows.loads more.loads filled.loads from.conns to.conns behind.conns within.conns i;
    caps = between_kept from.caps to.caps rows.caps more.caps behind.caps within.caps i;
    farads = grid_kept count (length rows.caps) rows.farads more.farads filled.farads from.caps to.caps behind.caps within.caps i;
    joints = between_kept from.joints to.joints rows.joints more.joints behind.joints within.joints i;
    ohms = grid_kept count (length rows.joints) rows.ohms more.ohms filled.ohms from.joints to.joints behind.joints within.joints i;
  }

  rows_new : (from : NetEnd) (tokens more_tokens : List ℕ) (written : ℕ) → AreFilled count more → IsLast from tokens rows → rows_between count from (end_of (tokens ++ more_tokens) (with_rows rows more) written) (with_rows rows more) ≡ more
  rows_new from tokens more_tokens written full last =
      let conns = length-append rows.conns more.conns in
      let caps = length-append rows.caps more.caps in
      let joints = length-append rows.joints more.joints in
      λ i. record {
        conns = between_new from.conns (length (rows.conns ++ more.conns)) rows.conns more.conns last.conns conns i;
        loads = grid_new count (length rows.conns) rows.loads more.loads filled.loads from.conns (length (rows.conns ++ more.conns)) (length more.conns) full.loads last.conns conns i;
        caps = between_new from.caps (length (rows.caps ++ more.caps)) rows.caps more.caps last.caps caps i;
        farads = grid_new count (length rows.caps) rows.farads more.farads filled.farads from.caps (length (rows.caps ++ more.caps)) (length more.caps) full.farads last.caps caps i;
        joints = between_new from.joints (length (rows.joints ++ more.joints)) rows.joints more.joints last.joints joints i;
        ohms = grid_new count (length rows.joints) rows.ohms more.ohms filled.ohms from.joints (length (rows.joints ++ more.joints)) (length more.joints) full.ohms last.joints joints i;
      }

  pub still_filled : AreFilled count more → AreFilled count (with_rows rows more)
  still_filled full = record {
    loads = longer rows.loads more.loads rows.conns more.conns filled.loads full.loads;
    farads = longer rows.farads more.farads rows.caps more.caps filled.farads full.farads;
    ohms = longer rows.ohms more.ohms rows.joints more.joints filled.ohms full.ohms;
  }
    where
      longer : {X Y : Type 0} (grid more_grid : List X) (items more_items : List Y) → length grid ≡ length items * count → length more_grid ≡ length more_items * count
          → length (grid ++ more_grid) ≡ length (items ++ more_items) * count
      longer grid more_grid items more_items one other =
          let whole : (length items + length more_items) * count ≡ length items * count + length more_items * count = grind arith in
          length-append grid more_grid ∙ ap₂ (λ a b. a + b) one other ∙ sym whole ∙ ap (λ n. n * count) (sym (length-append items more_items))

-- ---- ends

abbrev last_end : NetEnd → List NetEnd → NetEnd
last_end from [] = from
last_end from (to ∷ ends) = last_end to ends

module _ (tokens : List ℕ) (rows : Rows) where
  first_within : (from : NetEnd) (ends : List NetEnd) → AreInOrder from ends tokens rows → IsWithin from tokens rows
  first_within from [] last = record { nodes = omega (arith, last.nodes); conns = omega (arith, last.conns); caps = omega (arith, last.caps); joints = omega (arith, last.joints) }
  first_within from (to ∷ ends) order =
      let behind = order.0 in
      let later = first_within to ends order.1 in
      record {
        nodes = omega (arith, behind.nodes, later.nodes);
        conns = omega (arith, behind.conns, later.conns);
        caps = omega (arith, behind.caps, later.caps);
        joints = omega (arith, behind.joints, later.joints);
      }

  last_is : (from : NetEnd) (ends : List NetEnd) → AreInOrder from ends tokens rows → IsLast (last_end from ends) tokens rows
  last_is from [] last = last
  last_is from (to ∷ ends) order = last_is to ends order.1

  -- a net lies between two ends
  pub lies_at : (from : NetEnd) (ends : List NetEnd) (place : ℕ) → AreInOrder from ends tokens rows → place < length ends
      → IsBehind (get_or (from ∷ ends) place start) (get_or ends place start) × IsWithin (get_or ends place start) tokens rows
  lies_at from [] place order below = absurd (omega arith)
  lies_at from (to ∷ ends) zero order below = (order.0, first_within to ends order.1)
  lies_at from (to ∷ ends) (suc place) order below = lies_at to ends place order.1 (omega arith)

  order_more : (more_tokens : List ℕ) (more : Rows) (written : ℕ) (from : NetEnd) (ends : List NetEnd) → AreInOrder from ends tokens rows
      → AreInOrder from (ends ++ end_of (tokens ++ more_tokens) (with_rows rows more) written ∷ []) (tokens ++ more_tokens) (with_rows rows more)
  order_more more_tokens more written from [] last = (
    record {
      nodes = omega (arith, last.nodes, length-append tokens more_tokens);
      conns = omega (arith, last.conns, length-append rows.conns more.conns);
      caps = omega (arith, last.caps, length-append rows.caps more.caps);
      joints = omega (arith, last.joints, length-append rows.joints more.joints);
    },
    record { nodes = refl; conns = refl; caps = refl; joints = refl },
  )
  order_more more_tokens more written from (to ∷ ends) order = (order.0, order_more more_tokens more written to ends order.1)

-- ---- nets

module _ (file : SpefText) (count : ℕ) where
  -- a net at its place
  pub net_there : (tokens : List ℕ) (rows : Rows) (from : NetEnd) (ends : List NetEnd) (nets : List (List ℕ)) (place : ℕ) (net : List ℕ) → slice_get nets place ≡ Some net → place < length ends
      → slice_get (nets_from file count from ends nets tokens rows) place ≡ Some (net_between file count (get_or (from ∷ ends) place start) (get_or ends place start) net tokens rows)
  net_there tokens rows from [] nets place net at below = absurd (omega arith)
  net_there tokens rows from (to ∷ ends) [] place net at below = absurd (cc)
  net_there tokens rows from (to ∷ ends) (first ∷ nets) zero net at below = let same : first ≡ net = cc in ap (λ n. Some (net_between file count from to n tokens rows)) same
  net_there tokens rows from (to ∷ ends) (first ∷ nets) (suc place) net at below = net_there tokens rows to ends nets place net at (omega arith)

  -- the names are those of the nets
  pub names_are : (tokens : List ℕ) (rows : Rows) (from : NetEnd) (ends : List NetEnd) (nets : List (List ℕ)) → length nets ≡ length ends → net_names (nets_from file count from ends nets tokens rows) ≡ nets
  names_are tokens rows from [] [] named = refl
  names_are tokens rows from [] (net ∷ nets) named = absurd (omega (arith, named))
  names_are tokens rows from (to ∷ ends) [] named = absurd (omega (arith, named))
  names_are tokens rows from (to ∷ ends) (net ∷ nets) named = ap (λ names. net ∷ names) (names_are tokens rows to ends nets (omega (arith, named)))

  pub as_many_nets : (tokens : List ℕ) (rows : Rows) (from : NetEnd) (ends : List NetEnd) (nets : List (List ℕ)) → length nets ≡ length ends → length (nets_from file count from ends nets tokens rows) ≡ length nets
  as_many_nets tokens rows from ends nets named =
      sym (length-map (nets_from file count from ends nets tokens rows) (λ (net : NetElements). net.net)) ∙ ap length (names_are tokens rows from ends nets named)

  module _ (tokens more_tokens : List ℕ) (rows more : Rows) (filled : AreFilled count rows) where
    net_kept : (from to : NetEnd) (net : List ℕ) → IsBehind from to → IsWithin to tokens rows → net_between file count from to net (tokens ++ more_tokens) (with_rows rows more) ≡ net_between file count from to net tokens rows
    net_kept from to net behind within =
        ap₂ (λ nodes parts. net_in net (nodes_at file nodes) parts to.written)
        (between_kept from.nodes to.nodes tokens more_tokens behind.nodes within.nodes)
        (rows_kept count rows more filled from to tokens behind within)

    nets_kept : (from : NetEnd) (ends : List NetEnd) (nets : List (List ℕ)) → AreInOrder from ends tokens rows → nets_from file count from ends nets (tokens ++ more_tokens) (with_rows rows more) ≡ nets_from file count from ends nets tokens rows
    nets_kept from [] nets order = refl
    nets_kept from (to ∷ ends) [] order = refl
    nets_kept from (to ∷ ends) (net ∷ nets) order =
        ap₂ (λ one others. one ∷ others) (net_kept from to net order.0 (first_within tokens rows to ends order.1)) (nets_kept to ends nets order.1)

    net_new : (from : NetEnd) (net : List ℕ) (written : ℕ) → AreFilled count more → IsLast from tokens rows
        → net_between file count from (end_of (tokens ++ more_tokens) (with_rows rows more) written) net (tokens ++ more_tokens) (with_rows rows more) ≡ net_in net (nodes_at file more_tokens) more written
    net_new from net written full last =
        ap₂ (λ nodes parts. net_in net (nodes_at file nodes) parts written)
        (between_new from.nodes (length (tokens ++ more_tokens)) tokens more_tokens last.nodes (length-append tokens more_tokens))
        (rows_new count rows more filled from tokens more_tokens written full last)

  one_behind : (tokens : List ℕ) (rows : Rows) (to : NetEnd) (net : List ℕ) (from : NetEnd) (ends : List NetEnd) (nets : List (List ℕ)) → length nets ≡ length ends
      → nets_from file count from (ends ++ to ∷ []) (nets ++ net ∷ []) tokens rows ≡ nets_from file count from ends nets tokens rows ++ net_between file count (last_end from ends) to net tokens rows ∷ []
  one_behind tokens rows to net from [] [] named = refl
  one_behind tokens rows to net from [] (first ∷ nets) named = absurd (omega (arith, named))
  one_behind tokens rows to net from (end ∷ ends) [] named = absurd (omega (arith, named))
  one_behind tokens rows to net from (end ∷ ends) (first ∷ nets) named =
      ap (λ others. net_between file count from end first tokens rows ∷ others) (one_behind tokens rows to net end ends nets (omega (arith, named)))

-- no net
pub none_tabled : (file : SpefText) (head : HeadText) (count : ℕ) (nets : List (List ℕ)) (ends : List NetEnd) (tokens : List ℕ) (rows : Rows) → AreSpelled file head []
    → nets ≡ [] → ends ≡ [] → tokens ≡ [] → rows ≡ no_rows → AreTabled file head count nets ends tokens rows
none_tabled file head count nets ends tokens rows spelled no_nets no_ends no_tokens none =
    subst (λ (l : List (List ℕ)). AreTabled file head count l ends tokens rows) (sym no_nets)
    (subst (λ (l : List NetEnd). AreTabled file head count [] l tokens rows) (sym no_ends)
    (subst (λ (l : List ℕ). AreTabled file head count [] [] l rows) (sym no_tokens)
    (subst (λ (r : Rows). AreTabled file head count [] [] [] r) (sym none) (record {
      spelled = spelled;
      named = refl;
      order = record { nodes = refl; conns = refl; caps = refl; joints = refl };
      filled = record { loads = omega arith; farads = omega arith; ohms = omega arith };
      whole = λ k d below. absurd (omega (arith, below));
    }))))

-- one net more
module _ (file : SpefText) (head : HeadText) (count : ℕ) (nets : List (List ℕ)) (ends : List NetEnd) (tokens : List ℕ) (rows : Rows) (are : AreTabled file head count nets ends tokens rows) (net : List ℕ) (more_tokens : List ℕ)
    (more : Rows) (written : ℕ) (name : NameNodes file more_tokens) (whole : AreWhole count (net_in net (nodes_at file more_tokens) more written)) where
  abbrev all_tokens : List ℕ
  all_tokens = tokens ++ more_tokens

  abbrev all_rows : Rows
  all_rows = with_rows rows more

  abbrev all_ends : List NetEnd
  all_ends = ends ++ end_of all_tokens all_rows written ∷ []

  full : AreFilled count more
  full = record { loads = whole.load_rows; farads = whole.cap_rows; ohms = whole.res_rows }

  pub nets_more : nets_from file count start all_ends (nets ++ net ∷ []) all_tokens all_rows ≡ nets_from file count start ends nets tokens rows ++ net_in net (nodes_at file more_tokens) more written ∷ []
  nets_more =
      one_behind file count all_tokens all_rows (end_of all_tokens all_rows written) net start ends nets are.named
      ∙ ap₂ (λ others one. others ++ one ∷ [])
      (nets_kept file count tokens more_tokens rows more are.filled start ends nets are.order)
      (net_new file count tokens more_tokens rows more are.filled (last_end start ends) net written full (last_is tokens rows start ends are.order))

  pub tabled_more : AreTabled file head count (nets ++ net ∷ []) all_ends all_tokens all_rows
  tabled_more = record {
    spelled = record { head_of_file = are.spelled.head_of_file; each = All-append (NamesOne file) tokens more_tokens are.spelled.each name };
    named = length-append nets (net ∷ []) ∙ ap (λ n. n + 1) are.named ∙ sym (length-append ends (end_of all_tokens all_rows written ∷ []));
    order = order_more tokens rows more_tokens more written start ends are.order;
    filled = still_filled count rows more are.filled full;
    whole = subst (All (AreWhole count)) (sym nets_more)
        (All-push (AreWhole count) (nets_from file count start ends nets tokens rows) (net_in net (nodes_at file more_tokens) more written) are.whole whole);
  }

-- the same where the lists are those of tables
module _ (file : SpefText) (head : HeadText) (count : ℕ) (nets : List (List ℕ)) (old new : Tables) (held : HoldNets file head count nets old) (net : NetElements) (adds : AddsNet file old new net) (whole : AreWhole count net)
    (after : List (List ℕ)) (put : after ≡ nets ++ net.net ∷ []) where
  same_net : net_in net.net (nodes_at file adds.tokens) (rows_in net) net.written ≡ net
  same_net = ap (λ nodes. net_in net.net nodes (rows_in net) net.written) adds.are

  as_whole : AreWhole count (net_in net.net (nodes_at file adds.tokens) (rows_in net) net.written)
  as_whole = subst (AreWhole count) (sym same_net) whole

  new_ends : new.ends.items ≡ old.ends.items ++ end_of (old.nodes.items ++ adds.tokens) (with_rows (rows_of old.elements) (rows_in net)) net.written ∷ []
  new_ends = adds.ends ∙ ap₂ (λ tokens rows. old.ends.items ++ end_of tokens rows net.written ∷ []) adds.nodes adds.rows

  pub net_added : nets_in file count after new ≡ nets_in file count nets old ++ net ∷ []
  net_added =
      (λ i. nets_from file count start (new_ends i) (put i) (adds.nodes i) (adds.rows i))
      ∙ nets_more file head count nets old.ends.items old.nodes.items (rows_of old.elements) held net.net adds.tokens (rows_in net) net.written adds.named as_whole
      ∙ ap (λ n. nets_in file count nets old ++ n ∷ []) same_net

  pub still_hold : HoldNets file head count after new
  still_hold =
      subst (λ (l : List (List ℕ)). HoldNets file head count l new) (sym put)
      (subst (λ (l : List NetEnd). AreTabled file head count (nets ++ net.net ∷ []) l new.nodes.items (rows_of new.elements)) (sym new_ends)
      (subst (λ (l : List ℕ). AreTabled file head count (nets ++ net.net ∷ []) (old.ends.items ++ end_of (old.nodes.items ++ adds.tokens) (with_rows (rows_of old.elements) (rows_in net)) net.written ∷ []) l (rows_of new.elements)) (sym adds.nodes)
      (subst (λ (r : Rows). AreTabled file head count (nets ++ net.net ∷ []) (old.ends.items ++ end_of (old.nodes.items ++ adds.tokens) (with_rows (rows_of old.elements) (rows_in net)) net.written ∷ []) (old.nodes.items ++ adds.tokens) r) (sym adds.rows)
      (tabled_more file head count nets old.ends.items old.nodes.items (rows_of old.elements) held net.net adds.tokens (rows_in net) net.written adds.named as_whole))))

-- the tokens of a part name nodes
pub part_spelled : (file : SpefText) (head : HeadText) (tokens part : List ℕ) (from to : ℕ) → AreSpelled file head tokens → part ≡ between from to tokens → AreSpelled file head part
part_spelled file head tokens part from to are is = subst (AreSpelled file head) (sym is) (record {
  head_of_file = are.head_of_file;
  each = All-take (NamesOne file) (to - from) (drop from tokens) (All-drop (NamesOne file) from tokens are.each);
})

-- a net among those of the lists
module _ (file : SpefText) (head : HeadText) (count : ℕ) (nets : List (List ℕ)) (ends : List NetEnd) (tokens : List ℕ) (rows : Rows) (are : AreTabled file head count nets ends tokens rows) (all : List NetElements)
    (view : nets_from file count start ends nets tokens rows ≡ all) where
  pub many_are : length all ≡ length ends
  many_are = ap length (sym view) ∙ as_many_nets file count tokens rows start ends nets are.named ∙ are.named

  pub names_of_all : net_names all ≡ nets
  names_of_all = ap net_names (sym view) ∙ names_are file count tokens rows start ends nets are.named

  pub all_whole : All (AreWhole count) all
  all_whole = subst (All (AreWhole count)) view are.whole

  module _ (place : ℕ) (below : place < length all) where
    pub in_ends : place < length ends
    in_ends = omega (arith, below, many_are)

    pub in_nets : place < length nets
    in_nets = omega (arith, in_ends, are.named)

    module _ (from to : NetEnd) (is_from : from ≡ get_or (start ∷ ends) place start) (is_to : to ≡ get_or ends place start) where
      pub its_behind : IsBehind from to
      its_behind = subst (λ (e : NetEnd). IsBehind e to) (sym is_from)
          (subst (IsBehind (get_or (start ∷ ends) place start)) (sym is_to) (lies_at tokens rows start ends place are.order in_ends).0)

      pub its_within : IsWithin to tokens rows
      its_within = subst (λ (e : NetEnd). IsWithin e tokens rows) (sym is_to) (lies_at tokens rows start ends place are.order in_ends).1

      module _ (net : List ℕ) (named : slice_get nets place ≡ Some net) (part : List ℕ) (is_part : part ≡ between from.nodes to.nodes tokens) (its : Rows) (are_its : its ≡ rows_between count from to rows) where
        pub its_net : slice_get all place ≡ Some (net_in net (nodes_at file part) its to.written)
        its_net =
            ap (λ l. slice_get l place) (sym view)
            ∙ net_there file count tokens rows start ends nets place net named in_ends
            ∙ ap₂ (λ f t. Some (net_between file count f t net tokens rows)) (sym is_from) (sym is_to)
            ∙ ap₂ (λ nodes parts. Some (net_in net (nodes_at file nodes) parts to.written)) (sym is_part) (sym are_its)

        pub its_whole : AreWhole count (net_in net (nodes_at file part) its to.written)
        its_whole = all_at (AreWhole count) all place (net_in net (nodes_at file part) its to.written) all_whole its_net
