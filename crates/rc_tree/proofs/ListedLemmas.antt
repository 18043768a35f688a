-- The connections of a section as the pins of its net.
use Rattle.std.proofs.Common.{◌≡◌, ◌≢◌, ℕ, suc, ◌+◌, ◌-◌, ◌*◌, ◌<◌, ◌≤◌, if◌then◌else◌, List, ◌++◌, map, take, drop, length, get_or, slice_get, slice_index, slice_index_or, Some, option_map, Contains, length-append, length-drop, length-take-le, add-mul, one-mul, mul-le-mul_right, lt-ltb, le-ltb, sym, ◌∙◌, ap, subst, arith, inl, inr}
use Rattle.std.proofs.lemmas.Bool.{cases_eq, cases_lt}
use Rattle.std.proofs.lemmas.List.{get_or_append_left, get_or-append_right, get_or-take, get_or-drop, get_or_default, take_all, length-map}
use Rattle.std.proofs.lemmas.Option.{slice_get-map, slice_get-get_or, get_or_from_slice_get, slice_get_within}
use Rattle.corner_set.specs.Places.{place, value_at}
use Rattle.delay_units.specs.declared.quantities.Farads.{Farads}
use Rattle.name_table.specs.declared.spef_names.NodeName.{NodeName}
use Rattle.spef_nets.specs.NetElements.{NetElements as SectionElements}
use Rattle.spef_nets.specs.declared.parts.Listed.{Listed}
use Rattle.rc_tree.specs.Nodes.{node_of}
use Rattle.rc_tree.specs.Pins.{Pins, pin_nodes}
use Rattle.rc_tree.specs.SectionNets.{AreListed, IsFirstStrange, sink_node}
use Rattle.rc_tree.specs.ListedPins.{without, other_place, no_name, no_conn, conn_name, listed_pins, IsWithin}
use Rattle.rc_tree.specs.Searched.{IsNumbered, all_nodes}

-- what is left of a list where so many are cut out
left_part : {A : Type 0} (p w : ℕ) (xs : List A) (i : ℕ) (d : A) → i < p → i < length xs → (i < length (take p xs ++ drop (p + w) xs)) × (get_or (take p xs ++ drop (p + w) xs) i d ≡ get_or xs i d)
left_part p w xs i d less below = (omega (arith, inside, size), get_or_append_left (take p xs) (drop (p + w) xs) d i inside ∙ get_or-take p xs i d less)
  where
    size : length (take p xs ++ drop (p + w) xs) ≡ length (take p xs) + length (drop (p + w) xs)
    size = length-append (take p xs) (drop (p + w) xs)

    inside : i < length (take p xs)
    inside = elim (cases_lt (length xs) p) [
      | inl short ↦ (let all = ap length (take_all p xs (omega (arith, short))) in omega (arith, all, below))
      | inr long ↦ (let cut = length-take-le p xs long in omega (arith, cut, less))
    ]

right_part : {A : Type 0} (p w : ℕ) (xs : List A) (i : ℕ) (d : A) → p ≤ i → i + w < length xs → (i < length (take p xs ++ drop (p + w) xs)) × (get_or (take p xs ++ drop (p + w) xs) i d ≡ get_or xs (i + w) d)
right_part p w xs i d more below = (
  omega (arith, cut, rest, size, more, below),
  get_or-append_right (take p xs) (drop (p + w) xs) p i d cut more ∙ get_or-drop (p + w) xs (i - p) d ∙ ap (λ k. get_or xs k d) same,
)
  where
    cut : length (take p xs) ≡ p
    cut = length-take-le p xs (omega (arith, more, below))

    rest : length (drop (p + w) xs) ≡ length xs - (p + w)
    rest = length-drop (p + w) xs

    size : length (take p xs ++ drop (p + w) xs) ≡ length (take p xs) + length (drop (p + w) xs)
    size = length-append (take p xs) (drop (p + w) xs)

    same : p + w + (i - p) ≡ i + w
    same = omega (arith, more)

one_more : (p : ℕ) → suc p ≡ p + 1
one_more p = omega arith

-- all but one
pub without_len : {A : Type 0} (p : ℕ) (xs : List A) → p < length xs → length (without p xs) + 1 ≡ length xs
without_len p xs below =
    let cut = length-take-le p xs (omega (arith, below)) in
    let rest = length-drop (suc p) xs in
    let size = length-append (take p xs) (drop (suc p) xs) in
    omega (arith, cut, rest, size, below)

pub without_past : {A : Type 0} (p : ℕ) (xs : List A) → length xs ≤ p → length (without p xs) ≡ length xs
without_past p xs past =
    let all = ap length (take_all p xs past) in
    let rest = length-drop (suc p) xs in
    let size = length-append (take p xs) (drop (suc p) xs) in
    omega (arith, all, rest, size, past)

pub other_before : (p k : ℕ) → k < p → other_place p k ≡ k
other_before p k less = ap (λ b. if b then k else suc k) (lt-ltb k p less)

pub other_after : (p k : ℕ) → p ≤ k → other_place p k ≡ suc k
other_after p k more = ap (λ b. if b then k else suc k) (le-ltb k p more)

-- its places are those of the whole list but one
pub other_within : {A : Type 0} (p k : ℕ) (xs : List A) → k < length (without p xs) → other_place p k < length xs
other_within p k xs below = elim (cases_lt k p) [
  | inl less ↦ (let is = other_before p k less in elim (cases_lt p (length xs)) [ inl inside ↦ omega (arith, is, less, inside) | inr past ↦ (let all = without_past p xs past in omega (arith, is, all, below)) ])
  | inr more ↦ (let is = other_after p k more in elim (cases_lt p (length xs)) [ inl inside ↦ (let size = without_len p xs inside in omega (arith, is, size, below)) | inr past ↦ (let all = without_past p xs past in absurd (omega (arith, all, below, more, past))) ])
]

pub get_without : {A : Type 0} (p k : ℕ) (xs : List A) (d : A) → k < length (without p xs) → get_or (without p xs) k d ≡ get_or xs (other_place p k) d
get_without p k xs d below =
    let within = other_within p k xs below in
    ap (λ j. get_or (take p xs ++ drop j xs) k d) (one_more p) ∙ elim (cases_lt k p) [
      | inl less ↦ (let is = other_before p k less in let here = left_part p 1 xs k d less (omega (arith, is, within)) in here.1 ∙ ap (λ j. get_or xs j d) (sym is))
      | inr more ↦ (let is = other_after p k more in let here = right_part p 1 xs k d more (omega (arith, is, within)) in here.1 ∙ ap (λ j. get_or xs j d) (sym (one_more k) ∙ sym is))
    ]

-- the loads of the connections but the driver's
pub load_without : (count number p k : ℕ) (loads : List Farads) (x : Farads) → number < count → value_at count loads (other_place p k) number ≡ Some x → value_at count (take (p * count) loads ++ drop (suc p * count) loads) k number ≡ Some x
load_without count number p k loads x small at =
    ap (λ j. slice_get (take (p * count) loads ++ drop j loads) (place count k number)) next ∙ elim (cases_lt k p) [
      | inl less ↦
          (let is = other_before p k less in
          let there : slice_get loads (place count k number) ≡ Some x = ap (λ j. slice_get loads (place count j number)) (sym is) ∙ at in
          let most : (k + 1) * count ≤ p * count = mul-le-mul_right count (let l : k + 1 ≤ p = omega (arith, less) in l) in
          let row : (k + 1) * count ≡ k * count + count = add-mul k 1 count ∙ ap (λ s. k * count + s) (one-mul count) in
          let here = left_part (p * count) count loads (place count k number) x (omega (arith, most, row, small)) (slice_get_within loads (place count k number) x there) in
          slice_get-get_or (take (p * count) loads ++ drop (p * count + count) loads) (place count k number) x here.0 ∙ ap Some (here.1 ∙ get_or_from_slice_get loads (place count k number) x x there))
      | inr more ↦
          (let is = other_after p k more in
          let row : (k + 1) * count ≡ k * count + count = add-mul k 1 count ∙ ap (λ s. k * count + s) (one-mul count) in
          let shifted : place count (suc k) number ≡ place count k number + count = ap (λ j. j * count + number) (one_more k) ∙ (let e : (k + 1) * count + number ≡ k * count + number + count = omega (arith, row) in e) in
          let there : slice_get loads (place count k number + count) ≡ Some x = ap (slice_get loads) (sym shifted) ∙ ap (λ j. slice_get loads (place count j number)) (sym is) ∙ at in
          let most : p * count ≤ k * count = mul-le-mul_right count more in
          let here = right_part (p * count) count loads (place count k number) x (omega (arith, most)) (slice_get_within loads (place count k number + count) x there) in
          slice_get-get_or (take (p * count) loads ++ drop (p * count + count) loads) (place count k number) x here.0 ∙ ap Some (here.1 ∙ get_or_from_slice_get loads (place count k number + count) x x there))
    ]
  where
    next : suc p * count ≡ p * count + count
    next = ap (λ j. j * count) (one_more p) ∙ add-mul p 1 count ∙ ap (λ s. p * count + s) (one-mul count)

-- the sinks' connections so far are at nodes
pub within_more : (section : SectionElements) (driver sink : ℕ) (conn : Listed) → slice_get section.conns (other_place driver sink) ≡ Some conn → conn.node < length section.nodes → ((k : ℕ) → k < sink → IsWithin section (other_place driver k))
    → (k : ℕ) → k < sink + 1 → IsWithin section (other_place driver k)
within_more section driver sink conn at inside before k below = elim (cases_eq k sink) [
  | inl e ↦ (let is = ap (λ (c : Listed). c.node) (ap (λ j. get_or section.conns (other_place driver j) no_conn) e ∙ get_or_from_slice_get section.conns (other_place driver sink) conn no_conn at) in omega (arith, is, inside))
  | inr ne ↦ (let ne' : k ≢ sink = ne in before k (omega (arith, ne', below)))
]

pub within_at : (section : SectionElements) (place : ℕ) (conn : Listed) → slice_get section.conns place ≡ Some conn → conn.node < length section.nodes → IsWithin section place
within_at section place conn at inside = let is = ap (λ (c : Listed). c.node) (get_or_from_slice_get section.conns place conn no_conn at) in omega (arith, is, inside)

module _ (count : ℕ) (section : SectionElements) (driver : ℕ) where
  abbrev pins : Pins
  pins = listed_pins count section driver

  pub sinks_len : length (listed_pins count section driver).sinks ≡ length (without driver section.conns)
  sinks_len = length-map (without driver section.conns) (conn_name section)

  -- how many sinks there are
  pub sinks_less : driver < length section.conns → length (listed_pins count section driver).sinks + 1 ≡ length section.conns
  sinks_less below = ap (λ k. k + 1) sinks_len ∙ without_len driver section.conns below

  pub sinks_all : length section.conns ≤ driver → length (listed_pins count section driver).sinks ≡ length section.conns
  sinks_all past = sinks_len ∙ without_past driver section.conns past

  pub place_within : (k : ℕ) → k < length (listed_pins count section driver).sinks → other_place driver k < length section.conns
  place_within k below = other_within driver k section.conns (let l = sinks_len in omega (arith, l, below))

  -- the name of a sink
  pub sink_is : (k : ℕ) (conn : Listed) → k < length (listed_pins count section driver).sinks → slice_get section.conns (other_place driver k) ≡ Some conn → slice_get (listed_pins count section driver).sinks k ≡ Some (conn_name section conn)
  sink_is k conn below at =
      let inside : k < length (without driver section.conns) = (let l = sinks_len in omega (arith, l, below)) in
      slice_get-map (conn_name section) (without driver section.conns) k
      ∙ ap (option_map (conn_name section)) (slice_get-get_or (without driver section.conns) k conn inside ∙ ap Some (get_without driver k section.conns conn inside ∙ get_or_from_slice_get section.conns (other_place driver k) conn conn at))

  -- the driver's name
  pub driver_is : (conn : Listed) (name : NodeName) → slice_get section.conns driver ≡ Some conn → slice_get section.nodes conn.node ≡ Some name → name ≡ (listed_pins count section driver).driver
  driver_is conn name at named = sym (ap (conn_name section) (get_or_from_slice_get section.conns driver conn no_conn at) ∙ get_or_from_slice_get section.nodes conn.node name no_name named)

  -- a sink's name
  pub sink_name : (k : ℕ) (conn : Listed) (name : NodeName) → k < length (listed_pins count section driver).sinks → slice_get section.conns (other_place driver k) ≡ Some conn → slice_get section.nodes conn.node ≡ Some name → slice_get (listed_pins count section driver).sinks k ≡ Some name
  sink_name k conn name below at named = sink_is k conn below at ∙ ap Some (get_or_from_slice_get section.nodes conn.node name no_name named)

  -- the number of a sink's node
  pub sink_numbered : (spots : List ℕ) (n sink : ℕ) (conn : Listed) → IsNumbered section (listed_pins count section driver) spots n → sink < length (listed_pins count section driver).sinks → slice_get section.conns (other_place driver sink) ≡ Some conn → conn.node < length section.nodes
      → slice_get (all_nodes section (listed_pins count section driver)) (slice_index spots conn.node) ≡ Some (sink_node (listed_pins count section driver) sink)
  sink_numbered spots n sink conn numbered below at within =
      let name : slice_index_or (listed_pins count section driver).sinks sink (listed_pins count section driver).driver ≡ conn_name section conn = get_or_from_slice_get (listed_pins count section driver).sinks sink (conn_name section conn) (listed_pins count section driver).driver (sink_is sink conn below at) in
      numbered.are_spots.each conn.node no_name within ∙ ap (λ x. Some (node_of x)) (sym name)

  -- all connections are at nodes, where those of the driver and of the sinks are
  pub all_within : driver < length section.conns → IsWithin section driver → ((k : ℕ) → k < length (listed_pins count section driver).sinks → IsWithin section (other_place driver k)) → (k : ℕ) → k < length section.conns → IsWithin section k
  all_within within here others k below = elim (cases_eq k driver) [
    | inl e ↦ subst (IsWithin section) (sym e) here
    | inr ne ↦ elim (cases_lt k driver) [
      | inl less ↦ subst (IsWithin section) (other_before driver k less) (others k (let m = sinks_less within in omega (arith, m, less, within)))
      | inr more ↦
          let ne' : k ≢ driver = ne in
          let back : suc (k - 1) ≡ k = omega (arith, more, ne') in
          subst (IsWithin section) (other_after driver (k - 1) (omega (arith, more, ne')) ∙ back) (others (k - 1) (let m = sinks_less within in omega (arith, m, more, ne', below)))
    ]
  ]

  -- each connection is one of the pins
  pub is_pin : driver < length section.conns → (k : ℕ) (conn : Listed) → slice_get section.conns k ≡ Some conn → Contains (pin_nodes (listed_pins count section driver)) (node_of (conn_name section conn))
  is_pin within k conn at = elim (cases_eq k driver) [
    | inl e ↦ (0, omega arith, ap (λ c. node_of (conn_name section c)) (get_or_from_slice_get section.conns driver conn no_conn (ap (slice_get section.conns) (sym e) ∙ at)))
    | inr ne ↦ elim (cases_lt k driver) [
      | inl less ↦ among k (let m = sinks_less within in omega (arith, m, less, within)) (ap (slice_get section.conns) (other_before driver k less) ∙ at)
      | inr more ↦
          let ne' : k ≢ driver = ne in
          let back : suc (k - 1) ≡ k = omega (arith, more, ne') in
          among (k - 1) (let m = sinks_less within in omega (arith, m, more, ne', below)) (ap (slice_get section.conns) (other_after driver (k - 1) (omega (arith, more, ne')) ∙ back) ∙ at)
    ]
  ]
    where
      below : k < length section.conns
      below = slice_get_within section.conns k conn at

      among : (j : ℕ) → j < length (listed_pins count section driver).sinks → slice_get section.conns (other_place driver j) ≡ Some conn → Contains (pin_nodes (listed_pins count section driver)) (node_of (conn_name section conn))
      among j j_below there =
          let held : slice_get (map node_of (listed_pins count section driver).sinks) j ≡ Some (node_of (conn_name section conn)) =
          slice_get-map node_of (listed_pins count section driver).sinks j ∙ ap (option_map node_of) (sink_is j conn j_below there) in (
            suc j,
            (let b = slice_get_within (map node_of (listed_pins count section driver).sinks) j (node_of (conn_name section conn)) held in omega (arith, b)),
            get_or_from_slice_get (map node_of (listed_pins count section driver).sinks) j (node_of (conn_name section conn)) (node_of (conn_name section conn)) held,
          )

  -- so all are listed, where they are at nodes, and none is strange
  pub all_listed : driver < length section.conns → ((k : ℕ) → k < length section.conns → IsWithin section k) → AreListed section (pin_nodes (listed_pins count section driver))
  all_listed within inside k d below = (
    conn_name section (get_or section.conns k d),
    slice_get-get_or section.nodes (get_or section.conns k d).node no_name (let i = inside k below in let same = ap (λ (c : Listed). c.node) (get_or_default section.conns k d no_conn below) in omega (arith, i, same)),
    is_pin within k (get_or section.conns k d) (slice_get-get_or section.conns k d below),
  )

  pub no_stranger : (name : NodeName) → driver < length section.conns → IsFirstStrange section (pin_nodes (listed_pins count section driver)) name → ⊥
  no_stranger name within first =
      first.strange (subst (λ x. Contains (pin_nodes (listed_pins count section driver)) (node_of x)) (get_or_from_slice_get section.nodes first.conn.node name no_name first.named) (is_pin within first.place first.conn first.here))
