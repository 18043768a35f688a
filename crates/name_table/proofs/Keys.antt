-- Keys that stand for texts, in the words of the lists of these texts.
use Rattle.std.proofs.Common.{◌≡◌, ℕ, ◌+◌, Bool, true, false, cond, ◌||◌, List, [], ◌∷◌, ◌++◌, length, map, slice_get, Contains, Some, None, option_map, length-append, refl, sym, ap, ◌∙◌, true≢false, if◌then◌else◌}
use Rattle.std.specs.List.{IsDistinct, AllByRecursion, list_any, find}
use Rattle.std.specs.Str.{bytes_eq}
use Rattle.std.proofs.lemmas.List.{map-append}
use Rattle.std.proofs.lemmas.Cmp.{nat_list_eq_equiv}
use Rattle.std.proofs.lemmas.Map.Keys.{IsDistinct-head, IsDistinct-tail, IsDistinct-cons}
use Rattle.std.proofs.lemmas.Map.Made.{AllPairs-from_IsDistinct}
use Rattle.std.proofs.lemmas.Map.Views.{list_any-from_Contains}
use Rattle.std.proofs.lemmas.Option.{slice_get-map}
use Rattle.std.proofs.lemmas.Slice.Eq.{bytes_eq-Decides}
use Rattle.indexmap.proofs.CallerLemmas.{Contains-list_any}
use Rattle.indexmap.specs.IndexSet.{insert_key}
use Rattle.name_table.specs.Names.{AreDistinct}

-- what is found passes the test, and where nothing is found nothing does
pub none_found : {K : Type 0} (test : K → Bool) (keys : List K) → find test keys ≡ None → list_any test keys ≡ false
none_found test [] none = refl
none_found {K = K} test (key ∷ keys) none = by (test key) (none_found test keys) none
  where
    by : (here : Bool) → (find test keys ≡ None → list_any test keys ≡ false) → cond here (Some key) (find test keys) ≡ None → (here || list_any test keys) ≡ false
    by true rest none = absurd (cc)
    by false rest none = rest none

pub passes : {K : Type 0} (test : K → Bool) (keys : List K) (key : K) → find test keys ≡ Some key → test key ≡ true
passes test [] key found = cc
passes {K = K} test (first ∷ keys) key found = by (test first) refl (passes test keys key) found
  where
    by : (here : Bool) → test first ≡ here → (find test keys ≡ Some key → test key ≡ true) → cond here (Some first) (find test keys) ≡ Some key → test key ≡ true
    by true is rest found = let same : first ≡ key = cc in ap test (sym same) ∙ is
    by false is rest found = rest found

module _ {K : Type 0} (text_of : K → List ℕ) where
  -- keys are equal where their texts are
  abbrev pub same_text : K → K → Bool
  same_text one other = bytes_eq (text_of one) (text_of other)

  all_apart : (one : K) (keys : List K) → AllByRecursion (λ other. same_text one other ≡ false) keys → AllByRecursion (λ other. bytes_eq (text_of one) other ≡ false) (map text_of keys)
  all_apart one [] apart = tt
  all_apart one (key ∷ keys) apart = (apart.0, all_apart one keys apart.1)

  distinct : (keys : List K) → IsDistinct same_text keys → IsDistinct bytes_eq (map text_of keys)
  unfolding IsDistinct
  distinct [] apart = tt
  distinct (key ∷ keys) apart = IsDistinct-cons _ _ _ (all_apart key keys (IsDistinct-head same_text key keys apart)) (distinct keys (IsDistinct-tail same_text key keys apart))

  -- keys that are apart have texts that are
  pub distinct_texts : (keys : List K) → IsDistinct same_text keys → AreDistinct (map text_of keys)
  distinct_texts keys apart = AllPairs-from_IsDistinct bytes_eq-Decides (map text_of keys) (distinct keys apart)

  list_any_text : (text : List ℕ) (keys : List K) → list_any (λ key. bytes_eq text (text_of key)) keys ≡ list_any (bytes_eq text) (map text_of keys)
  list_any_text text [] = refl
  list_any_text text (key ∷ keys) = ap (λ rest. bytes_eq text (text_of key) || rest) (list_any_text text keys)

  -- a text is not among those of the keys where no key has it
  pub not_among : (text : List ℕ) (keys : List K) → find (λ key. bytes_eq text (text_of key)) keys ≡ None → Contains (map text_of keys) text → ⊥
  not_among text keys none among = true≢false (sym (list_any-from_Contains nat_list_eq_equiv text (map text_of keys) among) ∙ sym (list_any_text text keys) ∙ none_found _ keys none)

  -- a key that is found has the text at its place
  pub found_at : (text : List ℕ) (keys : List K) (key : K) (place : ℕ) → find (λ key. bytes_eq text (text_of key)) keys ≡ Some key → slice_get keys place ≡ Some key → slice_get (map text_of keys) place ≡ Some text
  found_at text keys key place found at =
      slice_get-map text_of keys place ∙ ap (option_map text_of) at ∙ ap Some (sym ((bytes_eq-Decides text (text_of key)).0 (passes (λ key. bytes_eq text (text_of key)) keys key found)))

  -- as has one that is equal to a key of that text
  pub stored_at : (keys : List K) (key stored : K) (place : ℕ) → slice_get keys place ≡ Some stored → same_text key stored ≡ true → slice_get (map text_of keys) place ≡ Some (text_of key)
  stored_at keys key stored place at same = slice_get-map text_of keys place ∙ ap (option_map text_of) at ∙ ap Some (sym ((bytes_eq-Decides (text_of key) (text_of stored)).0 same))

  -- a key whose text is new goes last
  pub insert_key-new : (keys : List K) (key : K) → (Contains (map text_of keys) (text_of key) → ⊥) → insert_key same_text keys key ≡ keys ++ key ∷ []
  insert_key-new keys key absent = by (list_any (same_text key) keys) refl
    where
      by : (held : Bool) → list_any (same_text key) keys ≡ held → (if held then keys else keys ++ key ∷ []) ≡ keys ++ key ∷ []
      by true is = absurd (absent (Contains-list_any bytes_eq (λ one other same. (bytes_eq-Decides one other).0 same) (map text_of keys) (text_of key) (sym (list_any_text (text_of key) keys) ∙ is)))
      by false is = refl

  -- so that its text goes last
  pub texts_of_new : (keys : List K) (key : K) → (Contains (map text_of keys) (text_of key) → ⊥) → (after : List K) → after ≡ insert_key same_text keys key → map text_of after ≡ map text_of keys ++ text_of key ∷ []
  texts_of_new keys key absent after is = ap (map text_of) (is ∙ insert_key-new keys key absent) ∙ map-append text_of keys (key ∷ [])

  -- and there is one more
  pub length_of_new : (keys : List K) (key : K) → (Contains (map text_of keys) (text_of key) → ⊥) → (after : List K) → after ≡ insert_key same_text keys key → length after ≡ length keys + 1
  length_of_new keys key absent after is = ap length (is ∙ insert_key-new keys key absent) ∙ length-append keys (key ∷ [])
