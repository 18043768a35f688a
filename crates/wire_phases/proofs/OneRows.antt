-- Nets give one list of rows, or one refusal, the resistor of a mesh aside.
use Rattle.std.proofs.Common.{◌≡◌, ℕ, zero, suc, ◌+◌, ◌<◌, ◌⊎◌, inl, inr, ⊎_elim, Bool, true, false, List, [], ◌∷◌, ◌++◌, length, map, take, drop, Some, Result, Ok, Err, refl, sym, ap, ap₂, ◌∙◌, subst, arith, append_assoc, append-nil}
use Rattle.std.specs.Prelude.{slice_get, slice_index_or, filter, All, pos, ◌^◌, ◌<ℤ◌}
use Rattle.std.proofs.lemmas.Int.{ints}
use Rattle.std.specs.List.{AllByRecursion, AllZip}
use Rattle.std.proofs.lemmas.List.Elements.{recursion_from_All}
use Rattle.edge_io.specs.Zipping.{one_zip}
use Rattle.delay_units.specs.declared.Femto.{Femto}
use Rattle.delay_units.specs.Rounding.{IsRounding}
use Rattle.delay_units.proofs.RoundingLemmas.{one_value}
use Rattle.name_table.specs.declared.spef_names.NodeName.{NodeName}
use Rattle.sdf_writer.specs.SdfText.{WireRow, SdfRows}
use Rattle.spef_nets.specs.NetElements.{NetElements, AreWhole}
use Rattle.spef_nets.specs.declared.parts.Listed.{Listed}
use Rattle.rc_tree.specs.NetElements.{NetElements as TreeElements}
use Rattle.rc_tree.specs.RcTree.{IsUnreached, IsMesh, IsTree}
use Rattle.rc_tree.specs.Nodes.{Node, node_of}
use Rattle.rc_tree.specs.Pins.{Pins}
use Rattle.rc_tree.specs.ListedPins.{listed_pins, without, conn_name, no_conn, no_name}
use Rattle.rc_tree.specs.SectionNets.{net_elements}
use Rattle.rc_tree.specs.Builds.{names, IsFit}
use Rattle.rc_tree.proofs.ElmoreSums.{one_elmore}
use Rattle.rc_tree.proofs.NetShapes.{one_shape, one_unreached}
use Rattle.rc_tree.proofs.Spellings.{one_spelling}
use Rattle.wire_phases.specs.AnnotationRows.{Wire, IsWireDelay, IsAnnotationRow}
use Rattle.wire_phases.specs.SpefPhases.{DesignNets}
use Rattle.wire_phases.specs.WireNets.{drives, wires_of, HasDriver, IsNoTree, too_large, unreached, mesh, NetGives, no_driver, many_drivers, no_tree, is_tree, NetsGive, no_net, and_net, refused, RowsOf}
use Rattle.refusals.specs.SameAnswers.{SameRefusal, some_resistor, SameAnswer}
use Rattle.refusals.specs.declared.refusal.Refusal.{Refusal}
use Rattle.refusals.specs.declared.refusal.Refusal.TheVariants.{Unreached}
use Rattle.refusals.proofs.Places.{got_below, index_is}

-- ---- rows

one_delay : (at : Node) (net : TreeElements Node) (one other : Femto) → IsWireDelay at net one → IsWireDelay at net other → one ≡ other
one_delay at net one other r s =
    let elmore : r.0 ≡ s.0 = one_elmore net at r.0 s.0 r.1 s.1 in
    ap (λ n. record { 0 = n })
    (one_value (pos s.0) (pos (10 ^ 12)) one.0 other.0 positive (subst (λ (e : ℕ). IsRounding (pos e) (pos (10 ^ 12)) one.0) elmore r.2) s.2)
  where
    positive : pos 0 <ℤ pos (10 ^ 12)
    positive = omega (arith, ints)

one_annotation : (wire : Wire) (one other : WireRow) → IsAnnotationRow wire one → IsAnnotationRow wire other → one ≡ other
one_annotation wire one other r s =
    let from : one.from ≡ other.from = r.from ∙ sym s.from in
    let to : one.to ≡ other.to = r.to ∙ sym s.to in
    let delay : one.delay ≡ other.delay = one_zip (IsWireDelay wire.at) (one_delay wire.at) wire.corners one.delay other.delay r.delay s.delay in
    (λ i. record { from = from i; to = to i; delay = delay i })

-- ---- the driver

kept_stands : {X : Type 0} (test : X → Bool) (xs : List X) (place : ℕ) (x : X) → slice_get xs place ≡ Some x → test x ≡ true → filter test xs ≡ [] → ⊥
kept_stands test [] place x at good empty = cc
kept_stands test (z ∷ xs) zero x at good empty = let same : z ≡ x = cc in let kept : test z ≡ true = ap test same ∙ good in cc
kept_stands test (z ∷ xs) (suc place) x at good empty = by (λ rest. kept_stands test xs place x at good rest) (test z) refl
  where
    by : (filter test xs ≡ [] → ⊥) → (t : Bool) → test z ≡ t → ⊥
    by later true e = cc
    by later false e = let rest : filter test xs ≡ [] = cc in later rest

-- one alone passes a test: its place is one
one_place : {X : Type 0} (test : X → Bool) (xs : List X) (one other : ℕ) (x y kept : X) → slice_get xs one ≡ Some x → slice_get xs other ≡ Some y → test x ≡ true → test y ≡ true → filter test xs ≡ kept ∷ [] → one ≡ other
one_place test [] one other x y kept at there a b sole = cc
one_place test (z ∷ xs) zero zero x y kept at there a b sole = refl
one_place test (z ∷ xs) zero (suc other) x y kept at there a b sole =
    let same : z ≡ x = cc in
    let good : test z ≡ true = ap test same ∙ a in
    let empty : filter test xs ≡ [] = cc in
    absurd (kept_stands test xs other y there b empty)
one_place test (z ∷ xs) (suc one) zero x y kept at there a b sole =
    let same : z ≡ y = cc in
    let good : test z ≡ true = ap test same ∙ b in
    let empty : filter test xs ≡ [] = cc in
    absurd (kept_stands test xs one x at a empty)
one_place test (z ∷ xs) (suc one) (suc other) x y kept at there a b sole = by (λ rest. one_place test xs one other x y kept at there a b rest) (test z) refl
  where
    by : (filter test xs ≡ kept ∷ [] → one ≡ other) → (t : Bool) → test z ≡ t → suc one ≡ suc other
    by later true e = let empty : filter test xs ≡ [] = cc in absurd (kept_stands test xs one x at a empty)
    by later false e = let rest : filter test xs ≡ kept ∷ [] = cc in ap suc (later rest)

passes : {X : Type 0} (test : X → Bool) (xs : List X) (x : X) (later : List X) → filter test xs ≡ x ∷ later → test x ≡ true
passes test [] x later e = cc
passes test (z ∷ xs) x later e = by (λ rest. passes test xs x later rest) (test z) refl
  where
    by : (filter test xs ≡ x ∷ later → test x ≡ true) → (t : Bool) → test z ≡ t → test x ≡ true
    by behind true t = let same : z ≡ x = cc in ap test (sym same) ∙ t
    by behind false t = let rest : filter test xs ≡ x ∷ later = cc in behind rest

one_driver : (net : NetElements) (one other : ℕ) → HasDriver net one → HasDriver net other → one ≡ other
one_driver net one other r s =
    one_place drives net.conns one other r.driver s.driver r.driver r.stands s.stands (passes drives net.conns r.driver [] r.sole) (passes drives net.conns s.driver [] s.sole) r.sole

-- ---- the shape of a net

-- the names of listed pins are those of the section's nodes
module _ (net : NetElements) (whole : AreWhole 1 net) (driver : ℕ) (has : HasDriver net driver) where
  abbrev pins : Pins
  pins = listed_pins 1 net driver

  abbrev pub IsNamed : NodeName → Type 0
  IsNamed name = (number : ℕ) × (slice_get net.nodes number ≡ Some name)

  conn_named : (conn : Listed) → conn.node < length net.nodes → IsNamed (conn_name net conn)
  conn_named conn below =
      let got = got_below net.nodes conn.node below in
      (conn.node, got.1 ∙ ap (λ n. Some n) (sym (index_is net.nodes conn.node got.0 no_name got.1)))

  abbrev InNet : Listed → Type 0
  InNet conn = conn.node < length net.nodes

  conns_in : AllByRecursion InNet net.conns
  conns_in = recursion_from_All InNet net.conns whole.listed

  map_named : (conns : List Listed) → AllByRecursion InNet conns → AllByRecursion IsNamed (map (conn_name net) conns)
  map_named [] all = tt
  map_named (conn ∷ conns) all = (conn_named conn all.0, map_named conns all.1)

  taken : (n : ℕ) (conns : List Listed) → AllByRecursion InNet conns → AllByRecursion InNet (take n conns)
  taken zero conns all = tt
  taken (suc n) [] all = tt
  taken (suc n) (conn ∷ conns) all = (all.0, taken n conns all.1)

  dropped : (n : ℕ) (conns : List Listed) → AllByRecursion InNet conns → AllByRecursion InNet (drop n conns)
  dropped zero conns all = all
  dropped (suc n) [] all = tt
  dropped (suc n) (conn ∷ conns) all = dropped n conns all.1

  conns_joined : (xs ys : List Listed) → AllByRecursion InNet xs → AllByRecursion InNet ys → AllByRecursion InNet (xs ++ ys)
  conns_joined [] ys p q = q
  conns_joined (x ∷ xs) ys p q = (p.0, conns_joined xs ys p.1 q)

  pub driver_named : IsNamed pins.driver
  driver_named =
      let at : slice_index_or net.conns driver no_conn ≡ has.driver = index_is net.conns driver has.driver no_conn has.stands in
      subst (λ (c : Listed). IsNamed (conn_name net c)) (sym at)
      (conn_named has.driver (subst InNet (index_is net.conns driver has.driver has.driver has.stands) (slice_within_all driver has.driver has.stands)))
    where
      slice_within_all : (k : ℕ) (c : Listed) → slice_get net.conns k ≡ Some c → InNet (slice_index_or net.conns k c)
      slice_within_all k c at = subst InNet (sym (index_is net.conns k c c at)) (stands_in net.conns k c conns_in at)
        where
          stands_in : (conns : List Listed) (k : ℕ) (c : Listed) → AllByRecursion InNet conns → slice_get conns k ≡ Some c → InNet c
          stands_in [] k c all at = cc
          stands_in (d ∷ conns) zero c all at = let same : d ≡ c = cc in subst InNet same all.0
          stands_in (d ∷ conns) (suc k) c all at = stands_in conns k c all.1 at

  pub sinks_named : AllByRecursion IsNamed pins.sinks
  sinks_named = map_named (without driver net.conns) (conns_joined (take driver net.conns) (drop (suc driver) net.conns) (taken driver net.conns conns_in) (dropped (suc driver) net.conns conns_in))

  shape : (node : Node) → IsUnreached (net_elements 1 net pins 0) node → IsMesh (net_elements 1 net pins 0) → ⊥
  shape = (one_shape (net_elements 1 net pins 0)).2

  one_no_tree : (one other : Refusal) → IsNoTree 1 net pins one → IsNoTree 1 net pins other → SameRefusal one other
  one_no_tree one other (too_large a) (too_large b) = inl refl
  one_no_tree one other (too_large a) (unreached node b) = absurd (b.0.1 a.1)
  one_no_tree one other (too_large a) (mesh place b) = absurd (b.0.1 a.1)
  one_no_tree one other (unreached node a) (too_large b) = absurd (a.0.1 b.1)
  one_no_tree one other (mesh place a) (too_large b) = absurd (a.0.1 b.1)
  one_no_tree one other (unreached node a) (unreached more b) =
      inl (ap (λ n. Unreached net.net n) (one_spelling (names net pins) node more a.1 b.1 (one_unreached (net_elements 1 net pins 0) (node_of node) (node_of more) (a.2 0 (omega arith)) (b.2 0 (omega arith)))))
  one_no_tree one other (unreached node a) (mesh place b) = absurd (shape (node_of node) (a.2 0 (omega arith)) (b.2 0 (omega arith)).0)
  one_no_tree one other (mesh place b) (unreached node a) = absurd (shape (node_of node) (a.2 0 (omega arith)) (b.2 0 (omega arith)).0)
  one_no_tree one other (mesh place a) (mesh more b) = inr (some_resistor net.net place more)

  no_tree_beside : (refusal : Refusal) → IsNoTree 1 net pins refusal → IsFit net pins → IsTree (net_elements 1 net pins 0) → ⊥
  no_tree_beside refusal (too_large a) fit tree = fit.1 a.1
  no_tree_beside refusal (unreached node a) fit tree = (one_shape (net_elements 1 net pins 0)).1 (node_of node) (a.2 0 (omega arith)) tree
  no_tree_beside refusal (mesh place a) fit tree = (one_shape (net_elements 1 net pins 0)).0 tree (a.2 0 (omega arith)).0

-- ---- a net

empty_or_some : {X : Type 0} (xs : List X) (x : X) (later : List X) → xs ≡ [] → xs ≡ x ∷ later → ⊥
empty_or_some xs x later e f = cc

one_or_more : {X : Type 0} (xs : List X) (x y z : X) (later : List X) → xs ≡ x ∷ [] → xs ≡ y ∷ z ∷ later → ⊥
one_or_more xs x y z later e f = cc

pub one_net_answer : (net : NetElements) → AreWhole 1 net → (one other : Result (List WireRow) Refusal) → NetGives 1 net one → NetGives 1 net other → SameAnswer one other
one_net_answer net whole one other (no_driver e) (no_driver f) = inl refl
one_net_answer net whole one other (no_driver e) (many_drivers x y more f) = absurd (empty_or_some (filter drives net.conns) x (y ∷ more) e f)
one_net_answer net whole one other (no_driver e) (no_tree driver refusal has not) = absurd (empty_or_some (filter drives net.conns) has.driver [] e has.sole)
one_net_answer net whole one other (no_driver e) (is_tree driver rows has fit tree are) = absurd (empty_or_some (filter drives net.conns) has.driver [] e has.sole)
one_net_answer net whole one other (many_drivers x y more f) (no_driver e) = absurd (empty_or_some (filter drives net.conns) x (y ∷ more) e f)
one_net_answer net whole one other (many_drivers x y more f) (many_drivers z w rest g) = inl refl
one_net_answer net whole one other (many_drivers x y more f) (no_tree driver refusal has not) = absurd (one_or_more (filter drives net.conns) has.driver x y more has.sole f)
one_net_answer net whole one other (many_drivers x y more f) (is_tree driver rows has fit tree are) = absurd (one_or_more (filter drives net.conns) has.driver x y more has.sole f)
one_net_answer net whole one other (no_tree driver refusal has not) (no_driver e) = absurd (empty_or_some (filter drives net.conns) has.driver [] e has.sole)
one_net_answer net whole one other (no_tree driver refusal has not) (many_drivers x y more f) = absurd (one_or_more (filter drives net.conns) has.driver x y more has.sole f)
one_net_answer net whole one other (no_tree driver refusal has not) (no_tree place its holds never) =
    one_no_tree net whole driver has refusal its not (subst (λ (p : ℕ). IsNoTree 1 net (listed_pins 1 net p) its) (one_driver net place driver holds has) never)
one_net_answer net whole one other (no_tree driver refusal has not) (is_tree place rows holds fit tree are) =
    absurd (no_tree_beside net whole driver has refusal not
    (subst (λ (p : ℕ). IsFit net (listed_pins 1 net p)) (one_driver net place driver holds has) fit)
    (subst (λ (p : ℕ). IsTree (net_elements 1 net (listed_pins 1 net p) 0)) (one_driver net place driver holds has) (tree 0 (omega arith))))
one_net_answer net whole one other (is_tree driver rows has fit tree are) (no_driver e) = absurd (empty_or_some (filter drives net.conns) has.driver [] e has.sole)
one_net_answer net whole one other (is_tree driver rows has fit tree are) (many_drivers x y more f) = absurd (one_or_more (filter drives net.conns) has.driver x y more has.sole f)
one_net_answer net whole one other (is_tree place rows holds fit tree are) (no_tree driver refusal has not) =
    absurd (no_tree_beside net whole driver has refusal not
    (subst (λ (p : ℕ). IsFit net (listed_pins 1 net p)) (one_driver net place driver holds has) fit)
    (subst (λ (p : ℕ). IsTree (net_elements 1 net (listed_pins 1 net p) 0)) (one_driver net place driver holds has) (tree 0 (omega arith))))
one_net_answer net whole one other (is_tree driver rows has fit tree are) (is_tree place more holds fits trees they) =
    one_zip IsAnnotationRow one_annotation (wires_of 1 net (listed_pins 1 net driver)) rows more are
    (subst (λ (p : ℕ). AllZip IsAnnotationRow (wires_of 1 net (listed_pins 1 net p)) more) (one_driver net place driver holds has) they)

-- ---- the nets

-- the answer of nets from the first one on
abbrev Answers : List NetElements → Result (List WireRow) Refusal → Type 0
Answers [] (Ok rows) = rows ≡ []
Answers [] (Err refusal) = ⊥
Answers (net ∷ later) (Ok rows) = (first rest : List WireRow) × NetGives 1 net (Ok first) × Answers later (Ok rest) × (rows ≡ first ++ rest)
Answers (net ∷ later) (Err refusal) = NetGives 1 net (Err refusal) ⊎ ((first : List WireRow) × NetGives 1 net (Ok first) × Answers later (Err refusal))

one_more : (nets : List NetElements) (net : NetElements) (rows more : List WireRow) → Answers nets (Ok rows) → NetGives 1 net (Ok more) → Answers (nets ++ net ∷ []) (Ok (rows ++ more))
one_more [] net rows more are gives = (more, [], gives, refl, ap (λ (l : List WireRow). l ++ more) are ∙ sym (append-nil more))
one_more (first ∷ nets) net rows more are gives =
    (are.0, are.1 ++ more, are.2, one_more nets net are.1 more are.3 gives, ap (λ (l : List WireRow). l ++ more) are.4 ∙ append_assoc are.0 are.1 more)

one_refused : (nets : List NetElements) (net : NetElements) (later : List NetElements) (rows : List WireRow) (refusal : Refusal) → Answers nets (Ok rows) → NetGives 1 net (Err refusal) → Answers (nets ++ net ∷ later) (Err refusal)
one_refused [] net later rows refusal are refuses = inl refuses
one_refused (first ∷ nets) net later rows refusal are refuses = inr (are.0, are.2, one_refused nets net later are.1 refusal are.3 refuses)

answers_rows : (nets : List NetElements) (rows : List WireRow) → NetsGive 1 nets (Ok rows) → Answers nets (Ok rows)
answers_rows nets rows no_net = refl
answers_rows nets rows (and_net {nets = front} {rows = before} {more = more} {net = net} gives one) = one_more front net before more (answers_rows front before gives) one

answers_refusal : (nets : List NetElements) (refusal : Refusal) → NetsGive 1 nets (Err refusal) → Answers nets (Err refusal)
answers_refusal nets refusal (refused {nets = front} {rows = before} {net = net} later gives refuses) = one_refused front net later before refusal (answers_rows front before gives) refuses

one_answer : (nets : List NetElements) → AllByRecursion (AreWhole 1) nets → (one other : Result (List WireRow) Refusal) → Answers nets one → Answers nets other → SameAnswer one other
one_answer [] whole (Ok rows) (Ok more) r s = r ∙ sym s
one_answer [] whole (Ok rows) (Err refusal) r s = absurd s
one_answer [] whole (Err refusal) other r s = absurd r
one_answer (net ∷ nets) whole (Ok rows) (Ok more) r s =
    r.4 ∙ ap₂ (λ (a b : List WireRow). a ++ b) (one_net_answer net whole.0 (Ok r.0) (Ok s.0) r.2 s.2) (one_answer nets whole.1 (Ok r.1) (Ok s.1) r.3 s.3) ∙ sym s.4
one_answer (net ∷ nets) whole (Ok rows) (Err refusal) r s =
    absurd (⊎_elim (λ x. one_net_answer net whole.0 (Ok r.0) (Err refusal) r.2 x) (λ x. one_answer nets whole.1 (Ok r.1) (Err refusal) r.3 x.2) s)
one_answer (net ∷ nets) whole (Err refusal) (Ok rows) s r =
    absurd (⊎_elim (λ x. one_net_answer net whole.0 (Ok r.0) (Err refusal) r.2 x) (λ x. one_answer nets whole.1 (Ok r.1) (Err refusal) r.3 x.2) s)
one_answer (net ∷ nets) whole (Err one) (Err other) r s =
    ⊎_elim (λ x. ⊎_elim (λ y. one_net_answer net whole.0 (Err one) (Err other) x y) (λ y. absurd (one_net_answer net whole.0 (Err one) (Ok y.0) x y.1)) s)
    (λ x. ⊎_elim (λ y. absurd (one_net_answer net whole.0 (Ok x.0) (Err other) x.1 y)) (λ y. one_answer nets whole.1 (Err one) (Err other) x.2 y.2) s) r

-- the nets of a design give one answer
pub one_rows : (design : DesignNets) → All (AreWhole 1) design.nets → (one other : Result SdfRows Refusal) → RowsOf 1 design one → RowsOf 1 design other → SameAnswer one other
one_rows design whole (Ok one) (Ok other) r s =
    let name : one.design ≡ other.design = r.0 ∙ sym s.0 in
    let wires : one.wires ≡ other.wires = one_answer design.nets all (Ok one.wires) (Ok other.wires) (answers_rows design.nets one.wires r.1) (answers_rows design.nets other.wires s.1) in
    let paths : one.paths ≡ other.paths = r.2 ∙ sym s.2 in
    (λ i. record { design = name i; wires = wires i; paths = paths i })
  where
    all : AllByRecursion (AreWhole 1) design.nets
    all = recursion_from_All (AreWhole 1) design.nets whole
one_rows design whole (Ok one) (Err other) r s =
    one_answer design.nets (recursion_from_All (AreWhole 1) design.nets whole) (Ok one.wires) (Err other) (answers_rows design.nets one.wires r.1) (answers_refusal design.nets other s)
one_rows design whole (Err one) (Ok other) r s =
    one_answer design.nets (recursion_from_All (AreWhole 1) design.nets whole) (Err one) (Ok other.wires) (answers_refusal design.nets one r) (answers_rows design.nets other.wires s.1)
one_rows design whole (Err one) (Err other) r s =
    one_answer design.nets (recursion_from_All (AreWhole 1) design.nets whole) (Err one) (Err other) (answers_refusal design.nets one r) (answers_refusal design.nets other s)
