-- What the computed names say: a word names the node that is computed, and nothing where none is. One node is one head and one tail.
use Rattle.std.proofs.Common.{◌≡◌, ◌↔◌, ℕ, Bool, true, false, cond, List, [], ◌∷◌, Contains, Option, Some, None, ◌⊎◌, ⊎_elim, inl, inr, refl, sym, ap, ◌∙◌, true≢false, arith}
use Rattle.std.specs.Option.{option_map}
use Rattle.std.specs.Bool.{Decides}
use Rattle.std.specs.Str.{bytes_eq}
use Rattle.std.proofs.lemmas.Slice.Eq.{bytes_eq-Decides}
use Rattle.std.proofs.lemmas.List.Elements.{Contains-append_right, Contains-append_cases, Contains-push_cases}
use Rattle.name_table.specs.Names.{AreDistinct}
use Rattle.name_table.specs.SpefNames.{node_name}
use Rattle.name_table.specs.declared.spef_names.NodeName.{NodeName}
use Rattle.spef_text.specs.SpefFiles.{SpefText}
use Rattle.spef_text.specs.Heads.{HeadText, IsHeadOf, text_of, digits_of, indices_of}
use Rattle.spef_text.specs.References.{marks_of, is_starred, index_end, digits_in, mapped_node, IsNodeOf, plain, mapped, IsUnknown, IsResolveEnd}
use Rattle.spef_text.specs.declared.entries.MapEntry.{MapEntry}
use Rattle.spef_text.specs.declared.references.ResolveEnd.TheVariants.{UnknownIndex}
use Rattle.spef_text.proofs.ReferenceLemmas.{one_node}
use Rattle.name_table.specs.NodeKeys.{same_tail, same_key, same_node}
use Rattle.spef_nets.specs.Nodes.{name_in, indexed_node, named, node_at, net_at}

-- ---- the name of an index

-- an entry with these digits, and the name that it has
record Named (file : SpefText) (entries : List MapEntry) (digits name : List ℕ) : Type 0 where
  entry : MapEntry
  stands : Contains entries entry
  index : digits_of file entry ≡ digits
  is : text_of file entry.name ≡ name

at_head : (entry : MapEntry) (entries : List MapEntry) → Contains (entry ∷ entries) entry
at_head entry entries = (0, omega arith, refl)

behind : (first : MapEntry) (entries : List MapEntry) (entry : MapEntry) → Contains entries entry → Contains (first ∷ entries) entry
behind first entries entry stands = Contains-append_right (first ∷ []) entries entry stands

no_entry : (entry : MapEntry) → Contains [] entry → ⊥
no_entry entry (k, within, is) = omega (arith, within)

of_parts : (first : MapEntry) (entries : List MapEntry) (entry : MapEntry) → Contains (first ∷ entries) entry → (first ≡ entry) ⊎ Contains entries entry
of_parts first entries entry stands =
    ⊎_elim (λ here. ⊎_elim (λ none. absurd (no_entry entry none)) (λ e. inl e) (Contains-push_cases [] first entry here)) (λ later. inr later)
    (Contains-append_cases (first ∷ []) entries entry stands)

same_bytes : (one other : List ℕ) → bytes_eq one other ≡ true → one ≡ other
same_bytes one other e = (bytes_eq-Decides one other).0 e

equal_bytes : (one other : List ℕ) → one ≡ other → bytes_eq one other ≡ true
equal_bytes one other e = (bytes_eq-Decides one other).1 e

name_stands : (file : SpefText) (entries : List MapEntry) (digits name : List ℕ) → name_in file entries digits ≡ Some name → Named file entries digits name
name_stands file [] digits name e = absurd (cc)
name_stands file (entry ∷ entries) digits name e = by (bytes_eq (digits_of file entry) digits) refl (name_stands file entries digits name) e
  where
    by : (here : Bool) → bytes_eq (digits_of file entry) digits ≡ here → (name_in file entries digits ≡ Some name → Named file entries digits name)
        → cond here (Some (text_of file entry.name)) (name_in file entries digits) ≡ Some name → Named file (entry ∷ entries) digits name
    by true is later e = record { entry = entry; stands = at_head entry entries; index = same_bytes (digits_of file entry) digits is; is = cc }
    by false is later e =
        let n = later e in
        record { entry = n.entry; stands = behind entry entries n.entry n.stands; index = n.index; is = n.is }

no_name : (file : SpefText) (entries : List MapEntry) (digits : List ℕ) → name_in file entries digits ≡ None → (entry : MapEntry) → Contains entries entry → digits_of file entry ≡ digits → ⊥
no_name file [] digits e entry stands index = no_entry entry stands
no_name file (first ∷ entries) digits e entry stands index = by (bytes_eq (digits_of file first) digits) refl (λ none later. no_name file entries digits none entry later index) e
  where
    by : (here : Bool) → bytes_eq (digits_of file first) digits ≡ here → (name_in file entries digits ≡ None → Contains entries entry → ⊥) → cond here (Some (text_of file first.name)) (name_in file entries digits) ≡ None → ⊥
    by true is later e = absurd (cc)
    by false is later e =
        ⊎_elim (λ (same : first ≡ entry). true≢false (sym (equal_bytes (digits_of file first) digits (ap (digits_of file) same ∙ index)) ∙ is))
        (λ among. later e among)
        (of_parts first entries entry stands)

-- ---- the node of a word

map_of : SpefText → List MapEntry
map_of file = file.reading.head.map

digits_at : SpefText → List ℕ → List ℕ
digits_at file word = digits_in file.reading.head.marks.delimiter word

node_with : SpefText → Bool → List ℕ → List ℕ → NodeName
node_with file cut word name = mapped_node (marks_of file) cut name word (index_end file.reading.head.marks.delimiter word)

-- what is computed is what the word names
pub node_of_named : (file : SpefText) (cut : Bool) (word : List ℕ) (node : NodeName) → named file cut word ≡ Some node → IsNodeOf file cut word node
unfolding named map_of digits_at node_with
node_of_named file cut word node e = by (is_starred word) refl e
  where
    indexed : is_starred word ≡ true → (name : Option (List ℕ)) → name_in file (map_of file) (digits_at file word) ≡ name → option_map (node_with file cut word) name ≡ Some node → IsNodeOf file cut word node
    indexed starred None is e = absurd (cc)
    indexed starred (Some name) is e =
        let n = name_stands file (map_of file) (digits_at file word) name is in
        let same : node_with file cut word name ≡ node = cc in
        mapped name starred (record { entry = n.entry; stands = n.stands; index = n.index; named = n.is }) (sym same)

    by : (starred : Bool) → is_starred word ≡ starred → cond starred (indexed_node file cut word) (Some (node_name (marks_of file) cut word)) ≡ Some node → IsNodeOf file cut word node
    by true is e = indexed is (name_in file (map_of file) (digits_at file word)) refl e
    by false is e =
        let same : node_name (marks_of file) cut word ≡ node = cc in
        plain is (sym same)

-- where nothing is computed, the word begins with an index that the map does not have
pub unknown_of_named : (file : SpefText) (cut : Bool) (word : List ℕ) → named file cut word ≡ None → IsUnknown file word
unfolding named map_of digits_at node_with
unknown_of_named file cut word e = by (is_starred word) refl e
  where
    indexed : is_starred word ≡ true → (name : Option (List ℕ)) → name_in file (map_of file) (digits_at file word) ≡ name → option_map (node_with file cut word) name ≡ None → IsUnknown file word
    indexed starred None is e =
        record { starred = starred; unmapped = λ name has. no_name file (map_of file) (digits_at file word) is has.entry has.stands has.index }
    indexed starred (Some name) is e = absurd (cc)

    by : (starred : Bool) → is_starred word ≡ starred → cond starred (indexed_node file cut word) (Some (node_name (marks_of file) cut word)) ≡ None → IsUnknown file word
    by true is e = indexed is (name_in file (map_of file) (digits_at file word)) refl e
    by false is e = absurd (cc)

some_or_none : (A : Type 0) (x : Option A) → (x ≡ None) ⊎ ((y : A) × (x ≡ Some y))
some_or_none A None = inl refl
some_or_none A (Some y) = inr (y, refl)

-- a word names nothing, or a node
not_both : (file : SpefText) (cut : Bool) (word : List ℕ) (node : NodeName) → IsUnknown file word → IsNodeOf file cut word node → ⊥
not_both file cut word node unknown (plain p is) = true≢false (sym unknown.starred ∙ p)
not_both file cut word node unknown (mapped name p has is) = unknown.unmapped name has

pub named_of_unknown : (file : SpefText) (cut : Bool) (word : List ℕ) → IsUnknown file word → named file cut word ≡ None
named_of_unknown file cut word unknown =
    ⊎_elim (λ none. none) (λ (node, some). absurd (not_both file cut word node unknown (node_of_named file cut word node some))) (some_or_none NodeName (named file cut word))

distinct_map : (file : SpefText) (head : HeadText) → IsHeadOf file head → AreDistinct (indices_of file file.reading.head.map)
distinct_map file head of_file = of_file.distinct

-- where no index stands twice, what the word names is what is computed
pub named_of_node : (file : SpefText) (head : HeadText) (cut : Bool) (word : List ℕ) (node : NodeName) → IsHeadOf file head → IsNodeOf file cut word node → named file cut word ≡ Some node
named_of_node file head cut word node of_file is =
    ⊎_elim (λ none. absurd (not_both file cut word node (unknown_of_named file cut word none) is))
    (λ (other, some). some ∙ ap (λ (x : NodeName). Some x) (one_node file cut word other node (distinct_map file head of_file) (node_of_named file cut word other some) is))
    (some_or_none NodeName (named file cut word))

pub named_exactly : (file : SpefText) (head : HeadText) (cut : Bool) (word : List ℕ) (node : NodeName) → IsHeadOf file head → IsNodeOf file cut word node ↔ (named file cut word ≡ Some node)
named_exactly file head cut word node of_file = (named_of_node file head cut word node of_file, node_of_named file cut word node)

pub unknown_exactly : (file : SpefText) (cut : Bool) (word : List ℕ) → IsUnknown file word ↔ (named file cut word ≡ None)
unknown_exactly file cut word = (named_of_unknown file cut word, unknown_of_named file cut word)

-- ---- the answers of `resolve`

pub resolved_node : (file : SpefText) (head : HeadText) (token : ℕ) (node : NodeName) → IsHeadOf file head → IsNodeOf file true (text_of file token) node → node_at file token ≡ Some node
resolved_node file head token node of_file is = named_of_node file head true (text_of file token) node of_file is

pub resolved_net : (file : SpefText) (head : HeadText) (token : ℕ) (node : NodeName) → IsHeadOf file head → IsNodeOf file false (text_of file token) node → net_at file token ≡ Some node.head
resolved_net file head token node of_file is = ap (option_map (λ (n : NodeName). n.head)) (named_of_node file head false (text_of file token) node of_file is)

pub refused_node : (file : SpefText) (token at : ℕ) → IsResolveEnd file token (UnknownIndex at) → (at ≡ token) × (node_at file token ≡ None)
refused_node file token at (same, unknown) = (same, named_of_unknown file true (text_of file token) unknown)

-- a token that names no net names no node, and the other way round
pub net_or_node : (file : SpefText) (token : ℕ) → (net_at file token ≡ None) ↔ (node_at file token ≡ None)
net_or_node file token = (
  λ none. named_of_unknown file true (text_of file token) (unknown_of_named file false (text_of file token) (no_head (named file false (text_of file token)) none)),
  λ none. ap (option_map (λ (n : NodeName). n.head)) (named_of_unknown file false (text_of file token) (unknown_of_named file true (text_of file token) none)),
)
  where
    no_head : (node : Option NodeName) → option_map (λ (n : NodeName). n.head) node ≡ None → node ≡ None
    no_head None e = refl
    no_head (Some node) e = absurd (cc)

-- ---- one node

same_tails : (one other : Option (List ℕ)) → Decides (same_tail one other) (one ≡ other)
same_tails None None = (λ e. refl, λ e. refl)
same_tails None (Some other) = (λ e. absurd (true≢false (sym e)), λ e. absurd (cc))
same_tails (Some one) None = (λ e. absurd (true≢false (sym e)), λ e. absurd (cc))
same_tails (Some one) (Some other) = (λ e. ap (λ x. Some x) (same_bytes one other e), λ e. let same : one ≡ other = cc in equal_bytes one other same)

-- two nodes are one exactly where their heads and their tails are equal
pub same_exactly : (one other : NodeName) → (same_node one other ≡ true) ↔ ((one.head ≡ other.head) × (one.tail ≡ other.tail))
unfolding same_key
same_exactly one other = (λ e. forth (bytes_eq one.head other.head) refl e, λ (heads, tails). back heads tails)
  where
    forth : (here : Bool) → bytes_eq one.head other.head ≡ here → cond here (same_tail one.tail other.tail) false ≡ true → (one.head ≡ other.head) × (one.tail ≡ other.tail)
    forth true is e = (same_bytes one.head other.head is, (same_tails one.tail other.tail).0 e)
    forth false is e = absurd (true≢false (sym e))

    back : one.head ≡ other.head → one.tail ≡ other.tail → cond (bytes_eq one.head other.head) (same_tail one.tail other.tail) false ≡ true
    back heads tails = ap (λ b. cond b (same_tail one.tail other.tail) false) (equal_bytes one.head other.head heads) ∙ (same_tails one.tail other.tail).1 tails

pub same_itself : (node : NodeName) → same_node node node ≡ true
same_itself node = (same_exactly node node).1 (refl, refl)

pub same_back : (one other : NodeName) → same_node one other ≡ true → same_node other one ≡ true
same_back one other e = let both = (same_exactly one other).0 e in (same_exactly other one).1 (sym both.0, sym both.1)

pub same_through : (one middle other : NodeName) → same_node one middle ≡ true → same_node middle other ≡ true → same_node one other ≡ true
same_through one middle other e f =
    let a = (same_exactly one middle).0 e in
    let b = (same_exactly middle other).0 f in
    (same_exactly one other).1 (a.0 ∙ b.0, a.1 ∙ b.1)
