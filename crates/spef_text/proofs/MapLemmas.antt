-- The digits of the entries so far, one after another.
use Rattle.std.proofs.Common.{◌≡◌, ◌≢◌, ℕ, ◌+◌, ◌<◌, ◌≤◌, arith, ◌⊎◌, inl, inr, List, [], ◌∷◌, ◌++◌, length, take, get_or, slice_get, Contains, Some, refl, sym, ap, ◌∙◌, add-one, subst}
use Rattle.std.proofs.lemmas.Bool.{cases_lt}
use Rattle.std.proofs.lemmas.List.{map-append, length-map, get_or-map}
use Rattle.std.proofs.lemmas.Option.{slice_get-get_or, get_or_from_slice_get, slice_get_within}
use Rattle.std.proofs.lemmas.List.Elements.{Contains-get_or}
use Rattle.std.proofs.Math.Seq.{take-suc}
use Rattle.name_table.specs.Names.{AreDistinct}
use Rattle.spef_text.specs.SpefFiles.{SpefText}
use Rattle.spef_text.specs.Heads.{indices_of, digits_of, IsRepeatedAt}
use Rattle.spef_text.specs.IndexNumbers.{number_of}
use Rattle.spef_text.specs.References.{IsMapped}
use Rattle.spef_text.specs.declared.entries.MapEntry.{MapEntry}

pub next_index : (file : SpefText) (entries : List MapEntry) (i : ℕ) (d : MapEntry) (indices after : List (List ℕ)) (digits : List ℕ) → i < length entries → indices ≡ indices_of file (take i entries)
    → digits ≡ digits_of file (get_or entries i d) → after ≡ indices ++ digits ∷ [] → after ≡ indices_of file (take (i + 1) entries)
next_index file entries i d indices after digits within so_far same pushed =
    pushed ∙ ap (λ x. x ++ digits ∷ []) so_far ∙ ap (λ x. indices_of file (take i entries) ++ x ∷ []) same
    ∙ sym (map-append (digits_of file) (take i entries) (get_or entries i d ∷ []))
    ∙ ap (λ x. indices_of file x) (sym (rw add-one (take-suc entries i d within)))

-- what stands at a place is in the list
pub contains_at : {A : Type 0} (xs : List A) (i : ℕ) (x : A) → slice_get xs i ≡ Some x → Contains xs x
contains_at {A = A} xs i x at = subst (λ (y : A). Contains xs y) (get_or_from_slice_get xs i x x at) (Contains-get_or xs i x (slice_get_within xs i x at))

pub repeated : (file : SpefText) (entries : List MapEntry) (i : ℕ) (d : MapEntry) (indices : List (List ℕ)) (digits : List ℕ) → entries ≡ file.reading.head.map → i < length entries
    → indices ≡ indices_of file (take i entries) → AreDistinct indices → digits ≡ digits_of file (get_or entries i d) → Contains indices digits
    → IsRepeatedAt file (get_or entries i d).index
repeated file entries i d indices digits is within so_far distinct same again = record {
  place = i;
  entry = get_or entries i d;
  stands = ap (λ xs. slice_get xs i) (sym is) ∙ slice_get-get_or entries i d within;
  again = subst (λ (x : List ℕ). Contains (indices_of file (take i file.reading.head.map)) x) same (subst (λ (xs : List (List ℕ)). Contains xs digits) (so_far ∙ ap (λ xs. indices_of file (take i xs)) is) again);
  no_earlier = subst (λ (xs : List (List ℕ)). AreDistinct xs) (so_far ∙ ap (λ xs. indices_of file (take i xs)) is) distinct;
  token_is = refl;
}

-- the indices of the entries so far are different, and their numbers go up to the last
pub record Rises (file : SpefText) (entries : List MapEntry) (n last : ℕ) : Type 0 where
  pub most : (k : ℕ) (d : List ℕ) → k < n → number_of (get_or (indices_of file entries) k d) ≤ last
  pub distinct : (i j : ℕ) (d : List ℕ) → i < j → j < n → get_or (indices_of file entries) i d ≡ get_or (indices_of file entries) j d → ⊥

pub none_rise : (file : SpefText) (entries : List MapEntry) → Rises file entries 0 0
none_rise file entries = record { most = λ k d below. absurd (omega arith); distinct = λ i j d less below e. absurd (omega arith) }

-- an index of a later number is none of them
pub rises_on : (file : SpefText) (entries : List MapEntry) (n last number : ℕ) (e : MapEntry) → Rises file entries n last → n < length entries
    → last < number → number ≡ number_of (digits_of file (get_or entries n e)) → Rises file entries (n + 1) number
rises_on file entries n last number e h within later is = record { most = λ k d below. at k d below (cases_lt k n); distinct = λ i j d less below same. apart i j d less below (cases_lt j n) same }
  where
    here : (k : ℕ) (d : List ℕ) → k ≡ n → number_of (get_or (indices_of file entries) k d) ≡ number
    here k d same = ap number_of (ap (λ m. get_or (indices_of file entries) m d) same ∙ get_or-map (digits_of file) entries n e d within) ∙ sym is

    last_of : (k : ℕ) → k < n + 1 → n ≤ k → k ≡ n
    last_of k below more = omega arith

    at : (k : ℕ) (d : List ℕ) → k < n + 1 → (k < n) ⊎ (n ≤ k) → number_of (get_or (indices_of file entries) k d) ≤ number
    at k d below (inl less) = let up_to = h.most k d less in omega (arith, up_to, later)
    at k d below (inr more) = let same = here k d (last_of k below more) in omega (arith, same)

    apart : (i j : ℕ) (d : List ℕ) → i < j → j < n + 1 → (j < n) ⊎ (n ≤ j) → get_or (indices_of file entries) i d ≡ get_or (indices_of file entries) j d → ⊥
    apart i j d less below (inl lower) same = h.distinct i j d less lower same
    apart i j d less below (inr more) same =
        let up_to = h.most i d (omega (arith, less, below)) in
        let one = here j d (last_of j below more) in
        let equal = ap number_of same in
        omega (arith, up_to, one, equal, later)

pub all_rise : (file : SpefText) (entries : List MapEntry) (n last : ℕ) → Rises file entries n last → length entries ≤ n → AreDistinct (indices_of file entries)
all_rise file entries n last h all i j d less below same =
    let whole : length (indices_of file entries) ≡ length entries = length-map entries (digits_of file) in
    h.distinct i j d less (omega (arith, whole, all, below)) same

-- an entry of a list of entries is the one at its place
pub at_place : (file : SpefText) (digits : List ℕ)
    → ((k : ℕ) (entry : MapEntry) → k < length file.reading.head.map → slice_get file.reading.head.map k ≡ Some entry → digits_of file entry ≢ digits)
    → (name : List ℕ) → IsMapped file digits name → ⊥
at_place file digits none name is =
    let (k, within, at) = is.stands in
    none k is.entry within (slice_get-get_or file.reading.head.map k is.entry within ∙ ap (λ (e : MapEntry). Some e) at) is.index

-- what is found at a place of a list stands there
pub stands_there : {A : Type 0} (list whole : List A) (place : ℕ) (x : A) → list ≡ whole → place < length list
    → ((d : A) → x ≡ get_or list place d) → slice_get whole place ≡ Some x
stands_there {A = A} list whole place x same within at =
    subst (λ (l : List A). slice_get l place ≡ Some x) same (slice_get-get_or list place x within ∙ ap (λ (e : A). Some e) (sym (at x)))
