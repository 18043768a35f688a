-- What a section says is one net.
use Rattle.std.proofs.Common.{◌≡◌, ℕ, zero, suc, ◌+◌, ◌*◌, ◌/◌, ◌%◌, ◌<◌, List, [], ◌∷◌, length, map, Option, Some, None, refl, sym, ap, ap₂, ◌∙◌, subst, arith, mod-lt, div-lt_iff_lt-mul, div-add-mod'}
use Rattle.std.specs.Prelude.{slice_get, pos}
use Rattle.std.specs.List.{AllByRecursion}
use Rattle.std.specs.Option.{option_map}
use Rattle.std.proofs.lemmas.List.{length-map}
use Rattle.std.proofs.lemmas.List.Elements.{recursion_from_All}
use Rattle.corner_set.specs.declared.pick.Pick.{Pick}
use Rattle.delay_units.specs.declared.numbers.Unit.{Unit}
use Rattle.delay_units.specs.declared.quantities.Farads.{Farads}
use Rattle.delay_units.specs.declared.quantities.Ohms.{Ohms}
use Rattle.delay_units.proofs.ReadingLemmas.{one_text_reading}
use Rattle.name_table.specs.declared.spef_names.NodeName.{NodeName}
use Rattle.spef_text.specs.Entries.{Section}
use Rattle.spef_text.specs.SpefFiles.{SpefText}
use Rattle.spef_text.specs.Heads.{HeadText, text_of}
use Rattle.spef_nets.specs.Values.{triple_of, picked, IsAmount}
use Rattle.name_table.specs.NodeKeys.{key_of}
use Rattle.spef_nets.specs.Nodes.{AreDistinctNodes}
use Rattle.spef_nets.specs.Elements.{connections, capacitances, resistors}
use Rattle.delay_units.specs.Bounds.{most_farads, most_ohms}
use Rattle.spef_nets.specs.NetElements.{NetElements, AreWhole}
use Rattle.spef_nets.specs.Sections.{Corners, HasValue, HasLoad, HasGrains, listing, listing_of, key_at, ends_of, ends_at, IsNet}
use Rattle.spef_nets.specs.declared.parts.Listed.{Listed}
use Rattle.spef_nets.specs.declared.parts.Ends.{Ends}
use Rattle.wire_phases.specs.SpefPhases.{sole_corner}
use Rattle.refusals.proofs.Places.{some_is, got_below}

-- ---- lists

-- lists of which each element is told by its image are one
images : {X Y : Type 0} (f : X → Y) (P : X → Type 0) → ((x y : X) → P x → P y → f x ≡ f y → x ≡ y) → (xs ys : List X) → AllByRecursion P xs → AllByRecursion P ys → map f xs ≡ map f ys → xs ≡ ys
images f P told [] [] p q e = refl
images f P told [] (y ∷ ys) p q e = cc
images f P told (x ∷ xs) [] p q e = cc
images f P told (x ∷ xs) (y ∷ ys) p q e =
    let first : f x ≡ f y = cc in
    let rest : map f xs ≡ map f ys = cc in
    ap₂ (λ z zs. z ∷ zs) (told x y p.0 q.0 first) (images f P told xs ys p.1 q.1 rest)

-- lists that have one length, and the same at each place
pub by_places : {X : Type 0} (xs ys : List X) → length xs ≡ length ys → ((k : ℕ) → k < length xs → slice_get xs k ≡ slice_get ys k) → xs ≡ ys
by_places [] [] e each = refl
by_places [] (y ∷ ys) e each = absurd (omega (arith, e))
by_places (x ∷ xs) [] e each = absurd (omega (arith, e))
by_places (x ∷ xs) (y ∷ ys) e each =
    let first : x ≡ y = some_is x y (each 0 (omega arith)) in
    let shorter : length xs ≡ length ys = omega (arith, e) in
    ap₂ (λ z zs. z ∷ zs) first (by_places xs ys shorter (λ k below. each (suc k) (omega (arith, below))))

-- ---- values

pos_is : (a b : ℕ) → pos a ≡ pos b → a ≡ b
pos_is a b e = cc

one_amount : (unit : Unit) (most : ℕ) (text : List ℕ) (v w : ℕ) → IsAmount unit most text v → IsAmount unit most text w → v ≡ w
one_amount unit most text v w r s = pos_is v w (one_text_reading unit text (pos v) (pos w) r.reads s.reads)

one_load : (file : SpefText) (unit : Unit) (pick : Pick) (load : Option ℕ) (v w : ℕ) → HasLoad file unit pick load v → HasLoad file unit pick load w → v ≡ w
one_load file unit pick None v w r s = r ∙ sym s
one_load file unit pick (Some token) v w r s = one_amount unit most_farads (picked pick (triple_of (text_of file token))) v w r s

-- each number below the count of corners is that of a corner
abbrev pub AreNumbered : {I : Type 0} → Corners I → Type 0
AreNumbered {I} corners = (number : ℕ) → number < corners.count → (corner : I) × (corners.number corner ≡ number)

pub sole_numbered : (pick : Pick) → AreNumbered (sole_corner pick)
sole_numbered pick number below = (tt, omega (arith, below))

some_count : (count rows k : ℕ) → k < rows * count → 0 < count
some_count zero rows k below = absurd (omega (arith, below))
some_count (suc count) rows k below = omega arith

-- values at corners, of which each element has one
module _ {I : Type 0} (corners : Corners I) (numbered : AreNumbered corners) where
  one_row : {T E : Type 0} (elements : List E) (P : Pick → E → T → Type 0) → ((pick : Pick) (element : E) (v w : T) → P pick element v → P pick element w → v ≡ w) → (one other : List T)
      → length one ≡ length elements * corners.count → length other ≡ length elements * corners.count
      → ((row : ℕ) (element : E) (corner : I) → slice_get elements row ≡ Some element → HasValue corners.count one row (corners.number corner) (P (corners.member corner) element))
      → ((row : ℕ) (element : E) (corner : I) → slice_get elements row ≡ Some element → HasValue corners.count other row (corners.number corner) (P (corners.member corner) element)) → one ≡ other
  one_row elements P unique one other long longer here there = by_places one other (long ∙ sym longer) at
    where
      at : (k : ℕ) → k < length one → slice_get one k ≡ slice_get other k
      at k below =
          let inside : k < length elements * corners.count = subst (λ (n : ℕ). k < n) long below in
          let some : 0 < corners.count = some_count corners.count (length elements) k inside in
          let its = numbered (k % corners.count) (mod-lt k some) in
          let got = got_below elements (k / corners.count) ((div-lt_iff_lt-mul some).1 inside) in
          let a = here (k / corners.count) got.0 its.0 got.1 in
          let b = there (k / corners.count) got.0 its.0 got.1 in
          let place : k / corners.count * corners.count + corners.number its.0 ≡ k = ap (λ n. k / corners.count * corners.count + n) its.1 ∙ div-add-mod' k corners.count in
          let first : slice_get one k ≡ Some a.value = ap (slice_get one) (sym place) ∙ a.stands in
          let second : slice_get other k ≡ Some b.value = ap (slice_get other) (sym place) ∙ b.stands in
          first ∙ ap (λ v. Some v) (unique (corners.member its.0) got.0 a.value b.value a.meets b.meets) ∙ sym second

farads_is : (v w : Farads) → v.0 ≡ w.0 → v ≡ w
farads_is v w e = ap (λ n. record { 0 = n }) e

ohms_is : (v w : Ohms) → v.0 ≡ w.0 → v ≡ w
ohms_is v w e = ap (λ n. record { 0 = n }) e

-- ---- numbers of nodes

-- numbers within are told by their nodes' heads and tails
module _ (nodes : List NodeName) (distinct : AreDistinctNodes nodes) where
  abbrev IsWithin : ℕ → Type 0
  IsWithin number = number < length nodes

  same_key_number : (a b : ℕ) → IsWithin a → IsWithin b → key_at nodes a ≡ key_at nodes b → a ≡ b
  same_key_number a b p q e =
      let x = got_below nodes a p in
      let y = got_below nodes b q in
      distinct a b x.0 y.0 x.1 y.1
      (some_is (key_of x.0) (key_of y.0) (sym (ap (option_map key_of) x.1) ∙ e ∙ ap (option_map key_of) y.1))

  same_number : (a b : ℕ) → IsWithin a → IsWithin b → slice_get nodes a ≡ slice_get nodes b → a ≡ b
  same_number a b p q e = same_key_number a b p q (ap (option_map key_of) e)

  same_conn : (a b : Listed) → IsWithin a.node → IsWithin b.node → listing_of nodes a ≡ listing_of nodes b → a ≡ b
  same_conn a b p q e =
      let node : a.node ≡ b.node = same_number a.node b.node p q (λ i. (e i).node) in
      (λ i. record { node = node i; port = (e i).port; direction = (e i).direction })

  same_ends : (a b : Ends) → IsWithin a.a × IsWithin a.b → IsWithin b.a × IsWithin b.b → ends_of nodes a ≡ ends_of nodes b → a ≡ b
  same_ends a b p q e =
      let first : a.a ≡ b.a = same_key_number a.a b.a p.0 q.0 (λ i. (e i).a) in
      let second : a.b ≡ b.b = same_key_number a.b b.b p.1 q.1 (λ i. (e i).b) in
      (λ i. record { a = first i; b = second i })

-- ---- the net

module _ {I : Type 0} (corners : Corners I) (numbered : AreNumbered corners) (file : SpefText) (head : HeadText) (section : Section) (one other : NetElements) (r : IsNet corners file head section one)
    (s : IsNet corners file head section other) (p : AreWhole corners.count one) (q : AreWhole corners.count other) where
  net_same : one.net ≡ other.net
  net_same = some_is one.net other.net (sym r.named ∙ s.named)

  nodes_same : one.nodes ≡ other.nodes
  nodes_same = r.nodes ∙ sym s.nodes

  abbrev InOne : ℕ → Type 0
  InOne number = number < length one.nodes

  moved : (number : ℕ) → number < length other.nodes → InOne number
  moved number below = subst (λ (l : List NodeName). number < length l) (sym nodes_same) below

  conns_same : one.conns ≡ other.conns
  conns_same = images (listing_of one.nodes) (λ (c : Listed). InOne c.node) (same_conn one.nodes p.distinct) one.conns other.conns
      (recursion_from_All (λ (c : Listed). InOne c.node) one.conns p.listed)
      (recursion_from_All (λ (c : Listed). InOne c.node) other.conns (λ k d below. moved _ (q.listed k d below)))
      (r.conns ∙ sym s.conns ∙ ap (λ (l : List NodeName). map (listing_of l) other.conns) (sym nodes_same))

  caps_same : one.caps ≡ other.caps
  caps_same = images (key_at one.nodes) InOne (same_key_number one.nodes p.distinct) one.caps other.caps
      (recursion_from_All InOne one.caps p.counted)
      (recursion_from_All InOne other.caps (λ k d below. moved _ (q.counted k d below)))
      (r.caps ∙ sym s.caps ∙ ap (λ (l : List NodeName). map (key_at l) other.caps) (sym nodes_same))

  abbrev BothIn : Ends → Type 0
  BothIn e = InOne e.a × InOne e.b

  joints_same : one.joints ≡ other.joints
  joints_same = images (ends_of one.nodes) BothIn (same_ends one.nodes p.distinct) one.joints other.joints
      (recursion_from_All BothIn one.joints p.joined)
      (recursion_from_All BothIn other.joints (λ k d below. (moved _ (q.joined k d below).0, moved _ (q.joined k d below).1)))
      (r.joints ∙ sym s.joints ∙ ap (λ (l : List NodeName). map (ends_of l) other.joints) (sym nodes_same))

  conn_count : (net : NetElements) → IsNet corners file head section net → length net.conns ≡ length (connections file section)
  conn_count net is = sym (length-map net.conns (listing_of net.nodes)) ∙ ap length is.conns ∙ length-map (connections file section) listing

  cap_count : (net : NetElements) → IsNet corners file head section net → length net.caps ≡ length (capacitances file section)
  cap_count net is = sym (length-map net.caps (key_at net.nodes)) ∙ ap length is.caps ∙ length-map (capacitances file section) (λ cap. Some (key_of cap.node))

  res_count : (net : NetElements) → IsNet corners file head section net → length net.joints ≡ length (resistors file section)
  res_count net is = sym (length-map net.joints (ends_of net.nodes)) ∙ ap length is.joints ∙ length-map (resistors file section) ends_at

  abbrev rows_of : ℕ → ℕ
  rows_of rows = rows * corners.count

  loads_same : one.loads ≡ other.loads
  loads_same = one_row corners numbered (connections file section) (λ pick conn value. HasLoad file head.cap_unit pick conn.load value.0)
      (λ pick conn v w a b. farads_is v w (one_load file head.cap_unit pick conn.load v.0 w.0 a b)) one.loads other.loads
      (p.load_rows ∙ ap rows_of (conn_count one r)) (q.load_rows ∙ ap rows_of (conn_count other s)) r.loads s.loads

  farads_same : one.farads ≡ other.farads
  farads_same = one_row corners numbered (capacitances file section) (λ pick cap value. HasGrains file head.cap_unit most_farads pick cap.value value.0)
      (λ pick cap v w a b. farads_is v w (one_amount head.cap_unit most_farads (picked pick (triple_of (text_of file cap.value))) v.0 w.0 a b)) one.farads other.farads
      (p.cap_rows ∙ ap rows_of (cap_count one r)) (q.cap_rows ∙ ap rows_of (cap_count other s)) r.farads s.farads

  ohms_same : one.ohms ≡ other.ohms
  ohms_same = one_row corners numbered (resistors file section) (λ pick joint value. HasGrains file head.res_unit most_ohms pick joint.value value.0)
      (λ pick joint v w a b. ohms_is v w (one_amount head.res_unit most_ohms (picked pick (triple_of (text_of file joint.value))) v.0 w.0 a b)) one.ohms other.ohms
      (p.res_rows ∙ ap rows_of (res_count one r)) (q.res_rows ∙ ap rows_of (res_count other s)) r.ohms s.ohms

  written_same : one.written ≡ other.written
  written_same = r.written ∙ sym s.written

  -- a section says one net
  pub one_net : one ≡ other
  one_net i = record {
    net = net_same i;
    nodes = nodes_same i;
    conns = conns_same i;
    loads = loads_same i;
    caps = caps_same i;
    farads = farads_same i;
    joints = joints_same i;
    ohms = ohms_same i;
    written = written_same i;
  }
