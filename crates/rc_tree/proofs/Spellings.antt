-- The first of the names of a node.
use Rattle.std.proofs.Common.{◌≡◌, ◌≢◌, ℕ, zero, suc, ◌<◌, ◌≤◌, ◌⊎◌, List, [], ◌∷◌, ◌++◌, length, get_or, slice_get, slice_index_or, Some, refl, sym, ◌∙◌, ap, arith, inl, inr}
use Rattle.std.proofs.lemmas.Bool.{cases_lt}
use Rattle.std.proofs.lemmas.List.{get_or-map, length-map}
use Rattle.std.proofs.lemmas.Option.{slice_get_within, slice_get-get_or, get_or_from_slice_get, same_Some}
use Rattle.name_table.specs.declared.spef_names.NodeName.{NodeName}
use Rattle.spef_nets.specs.NetElements.{NetElements as SectionElements}
use Rattle.spef_nets.specs.Nodes.{AreDistinctNodes}
use Rattle.spef_nets.specs.declared.parts.Listed.{Listed}
use Rattle.rc_tree.specs.Builds.{IsFirstSpelling}
use Rattle.rc_tree.specs.Nodes.{Node, node_of}
use Rattle.rc_tree.specs.SectionNets.{AreListed}
use Rattle.rc_tree.specs.ListedPins.{no_conn, no_name, conn_name, listed_pins, without, other_place}
use Rattle.rc_tree.proofs.ListedLemmas.{get_without}
use Rattle.rc_tree.proofs.Nets.{same_cases}

-- where an item of two lists stands
pub parted : {A : Type 0} (xs ys : List A) (k : ℕ) (x : A) → slice_get (xs ++ ys) k ≡ Some x → (slice_get xs k ≡ Some x) ⊎ ((j : ℕ) × (slice_get ys j ≡ Some x))
parted [] ys k x at = inr (k, at)
parted (y ∷ xs) ys zero x at = inl at
parted (y ∷ xs) ys (suc k) x at = parted xs ys k x at

pub behind : {A : Type 0} (xs ys : List A) (j : ℕ) (x : A) → slice_get ys j ≡ Some x → (k : ℕ) × (slice_get (xs ++ ys) k ≡ Some x)
behind [] ys j x at = (j, at)
behind (y ∷ xs) ys j x at = let rest = behind xs ys j x at in (suc rest.0, rest.1)

pub before : {A : Type 0} (xs ys : List A) (k : ℕ) (x : A) → slice_get xs k ≡ Some x → slice_get (xs ++ ys) k ≡ Some x
before [] ys k x at = absurd (let no = at in cc)
before (y ∷ xs) ys zero x at = at
before (y ∷ xs) ys (suc k) x at = before xs ys k x at

pub in_front : {A : Type 0} (xs ys : List A) (k : ℕ) (x : A) → k < length xs → slice_get (xs ++ ys) k ≡ Some x → slice_get xs k ≡ Some x
in_front [] ys k x below at = absurd (omega (arith, below))
in_front (y ∷ xs) ys zero x below at = at
in_front (y ∷ xs) ys (suc k) x below at = in_front xs ys k x (omega (arith, below)) at

-- a name of another node stands before
passed : (x : NodeName) (names : List NodeName) (name : NodeName) → node_of x ≢ node_of name → IsFirstSpelling names name → IsFirstSpelling (x ∷ names) name
passed x names name differ first = record { place = suc first.place; here = first.here; earlier = none }
  where
    none : (k : ℕ) (other : NodeName) → k < suc first.place → slice_get (x ∷ names) k ≡ Some other → node_of other ≢ node_of name
    none zero other less at same = differ (ap node_of (same_Some x other at) ∙ same)
    none (suc k) other less at same = first.earlier k other (omega (arith, less)) at same

-- a name that stands among names is the first of its node, where its node has no other name there
pub first_spelling : (names : List NodeName) (name : NodeName) (k : ℕ) → slice_get names k ≡ Some name
    → ((place : ℕ) (other : NodeName) → slice_get names place ≡ Some other → node_of other ≡ node_of name → other ≡ name) → IsFirstSpelling names name
first_spelling [] name k at one = absurd (let no = at in cc)
first_spelling (x ∷ names) name zero at one = record { place = 0; here = at; earlier = λ j other less. absurd (omega (arith, less)) }
first_spelling (x ∷ names) name (suc k) at one = elim (same_cases (node_of x) (node_of name)) [
  | inl same ↦ record { place = 0; here = ap Some (one 0 x refl same.0); earlier = λ j other less. absurd (omega (arith, less)) }
  | inr differ ↦ passed x names name differ.0 (first_spelling names name k at (λ place other. one (suc place) other))
]

-- two first names of one node are one
pub one_spelling : (names : List NodeName) (one other : NodeName) → IsFirstSpelling names one → IsFirstSpelling names other → node_of one ≡ node_of other → one ≡ other
one_spelling names one other some more same = elim (cases_lt some.place more.place) [
  | inl less ↦ absurd (more.earlier some.place one less some.here same)
  | inr past ↦ elim (cases_lt more.place some.place) [
    | inl less ↦ absurd (some.earlier more.place other less more.here (sym same))
    | inr also ↦ (let place : some.place ≡ more.place = omega (arith, past, also) in same_Some one other (sym some.here ∙ ap (slice_get names) place ∙ more.here))
  ]
]

-- a section has one name of a node
pub same_in_section : (nodes : List NodeName) → AreDistinctNodes nodes → (i j : ℕ) (one other : NodeName) → slice_get nodes i ≡ Some one → slice_get nodes j ≡ Some other → node_of one ≡ node_of other → one ≡ other
same_in_section nodes distinct i j one other at there same =
    let place : i ≡ j = distinct i j one other at there same in
    same_Some one other (sym at ∙ ap (slice_get nodes) place ∙ there)

-- ---- the connections of a section

past_end : (xs : List Listed) (k : ℕ) (d : Listed) → length xs ≤ k → get_or xs k d ≡ d
past_end [] k d long = refl
past_end (x ∷ xs) zero d long = absurd (omega (arith, long))
past_end (x ∷ xs) (suc k) d long = past_end xs k d (omega (arith, long))

conn_within : (section : SectionElements) (nodes : List Node) (place : ℕ) → 0 < length section.nodes → AreListed section nodes → (slice_index_or section.conns place no_conn).node < length section.nodes
conn_within section nodes place some listed = elim (cases_lt place (length section.conns)) [
  | inl less ↦ (let here = listed place no_conn less in slice_get_within section.nodes (slice_index_or section.conns place no_conn).node here.0 here.1)
  | inr past ↦ (let none = ap (λ (c : Listed). c.node) (past_end section.conns place no_conn past) in omega (arith, none, some))
]

named_there : (section : SectionElements) (conn : Listed) → conn.node < length section.nodes → slice_get section.nodes conn.node ≡ Some (conn_name section conn)
named_there section conn below = slice_get-get_or section.nodes conn.node no_name below

-- a pin that is a connection has the section's name of its node
pub pin_in_section : (count : ℕ) (section : SectionElements) (driver : ℕ) (nodes : List Node) → 0 < length section.nodes → AreListed section nodes → (k : ℕ) (other : NodeName)
    → slice_get ((listed_pins count section driver).driver ∷ (listed_pins count section driver).sinks) k ≡ Some other → (place : ℕ) × (slice_get section.nodes place ≡ Some other)
pin_in_section count section driver nodes some listed zero other at =
    let conn = slice_index_or section.conns driver no_conn in
    (conn.node, named_there section conn (conn_within section nodes driver some listed) ∙ at)
pin_in_section count section driver nodes some listed (suc k) other at =
    let sinks = without driver section.conns in
    let inside = slice_get_within (listed_pins count section driver).sinks k other at in
    let size = length-map sinks (conn_name section) in
    let below : k < length sinks = omega (arith, inside, size) in
    let conn = slice_index_or section.conns (other_place driver k) no_conn in
    let same : get_or sinks k no_conn ≡ conn = get_without driver k section.conns no_conn below in
    let is : conn_name section conn ≡ other = ap (conn_name section) (sym same) ∙ sym (get_or-map (conn_name section) sinks k no_conn no_name below) ∙ get_or_from_slice_get (listed_pins count section driver).sinks k other no_name at in
    (conn.node, named_there section conn (conn_within section nodes (other_place driver k) some listed) ∙ ap Some is)

-- so a name of the section is that of a pin at its node
pub no_other_pin : (count : ℕ) (section : SectionElements) (driver : ℕ) (nodes : List Node) (place : ℕ) (name : NodeName) → AreDistinctNodes section.nodes → AreListed section nodes → slice_get section.nodes place ≡ Some name
    → (k : ℕ) (other : NodeName) → slice_get ((listed_pins count section driver).driver ∷ (listed_pins count section driver).sinks) k ≡ Some other → node_of other ≡ node_of name → other ≡ name
no_other_pin count section driver nodes place name distinct listed here k other at same =
    let inside = slice_get_within section.nodes place name here in
    let there = pin_in_section count section driver nodes (omega (arith, inside)) listed k other at in
    same_in_section section.nodes distinct there.0 place other name there.1 here same
