-- A net's name is put into a table of names.
use Rattle.std.proofs.Common.{◌≡◌, ℕ, Bool, true, false, not, ◌||◌, List, [], ◌∷◌, ◌++◌, map, Contains, refl, sym, ap, ◌∙◌, true≢false}
use Rattle.std.specs.List.{list_any}
use Rattle.std.specs.Str.{bytes_eq}
use Rattle.std.proofs.lemmas.Cmp.{nat_list_eq_equiv}
use Rattle.std.proofs.lemmas.Map.Views.{Contains-from_any, list_any-from_Contains}
use Rattle.std.proofs.lemmas.Slice.Eq.{bytes_eq-Decides}
use Rattle.indexmap.specs.IndexSet.{insert_key}
use Rattle.name_table.proofs.Keys.{same_text, texts_of_new}

module _ {K : Type 0} (text_of : K → List ℕ) where
  any_text : (text : List ℕ) (keys : List K) → list_any (λ key. bytes_eq text (text_of key)) keys ≡ list_any (bytes_eq text) (map text_of keys)
  any_text text [] = refl
  any_text text (key ∷ keys) = ap (λ rest. bytes_eq text (text_of key) || rest) (any_text text keys)

  module _ (keys : List K) (key : K) (new : Bool) (is : new ≡ not (list_any (same_text text_of key) keys)) where
    among : (any : Bool) → list_any (same_text text_of key) keys ≡ any → new ≡ not any
    among any same = is ∙ ap not same

    -- it is new where it was not among the names
    pub absent : new ≡ true → Contains (map text_of keys) (text_of key) → ⊥
    absent fresh among_them =
        let found : list_any (same_text text_of key) keys ≡ true = any_text (text_of key) keys ∙ list_any-from_Contains nat_list_eq_equiv (text_of key) (map text_of keys) among_them in
        true≢false (sym fresh ∙ among true found)

    -- and then it goes last
    pub put_last : (after : List K) → after ≡ insert_key (same_text text_of) keys key → new ≡ true → map text_of after ≡ map text_of keys ++ text_of key ∷ []
    put_last after put fresh = texts_of_new text_of keys key (absent fresh) after put

    -- and else it was among them
    pub held : new ≡ false → Contains (map text_of keys) (text_of key)
    held known = by (list_any (same_text text_of key) keys) refl
      where
        by : (any : Bool) → list_any (same_text text_of key) keys ≡ any → Contains (map text_of keys) (text_of key)
        by true same = Contains-from_any (λ x y e. (bytes_eq-Decides x y).0 e) (text_of key) (map text_of keys) (sym (any_text (text_of key) keys) ∙ same)
        by false same = absurd (true≢false (sym (among false same) ∙ known))
