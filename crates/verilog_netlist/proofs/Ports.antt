-- The ports of an instance, a few in a list and the others in a set.
use Rattle.std.proofs.Common.{◌≡◌, Bool, true, false, not, ◌||◌, ℕ, List, [], ◌∷◌, ◌++◌, length, refl, sym, ap, ap₂, ◌∙◌, if◌then◌else◌, arith}
use Rattle.std.specs.List.{list_any}
use Rattle.std.specs.Str.{bytes_eq}
use Rattle.std.proofs.lemmas.List.{map-append}
use Rattle.std.proofs.lemmas.List.Folds.{list_any-append}
use Rattle.indexmap.specs.IndexSet.{insert_key}
use Rattle.verilog_netlist.specs.NameRows.{keys_of}
use Rattle.verilog_netlist.specs.declared.name_text.NameText.{NameText}
use Rattle.verilog_netlist.proofs.Naming.{any_text}

abbrev pub Texts : Type 0
Texts = List NameText

abbrev pub among : Texts → List ℕ → Bool
among list name = list_any (λ other. bytes_eq name other.bytes.now) list

-- what the two parts tell
any_of_both : (few others : Texts) (name : List ℕ) → list_any (bytes_eq name) (keys_of (few ++ others)) ≡ (among few name || among others name)
any_of_both few others name = sym (any_text name (few ++ others)) ∙ list_any-append (λ other. bytes_eq name other.bytes.now) few others

module _ (few others : Texts) (name : NameText) where
  abbrev old : List (List ℕ)
  old = keys_of (few ++ others)

  held_old : (held : Bool) → list_any (bytes_eq name.bytes.now) old ≡ held → insert_key bytes_eq old name.bytes.now ≡ (if held then old else old ++ name.bytes.now ∷ [])
  held_old held is = ap (λ (b : Bool). if b then old else old ++ name.bytes.now ∷ []) is

  -- a name of the few
  pub listed : among few name.bytes.now ≡ true → (true ≡ list_any (bytes_eq name.bytes.now) old) × (old ≡ insert_key bytes_eq old name.bytes.now)
  listed h =
      let is : list_any (bytes_eq name.bytes.now) old ≡ true = any_of_both few others name.bytes.now ∙ ap (λ (b : Bool). b || among others name.bytes.now) h in
      (sym is, sym (held_old true is))

  -- a name more of the few, while there are no others
  pub pushed : among few name.bytes.now ≡ false → length others ≡ 0 → (false ≡ list_any (bytes_eq name.bytes.now) old) × (keys_of ((few ++ name ∷ []) ++ others) ≡ insert_key bytes_eq old name.bytes.now)
  pushed h empty =
      let none : others ≡ [] = is_empty others empty in
      let is : list_any (bytes_eq name.bytes.now) old ≡ false = any_of_both few others name.bytes.now ∙ ap₂ (λ (b : Bool) (l : Texts). b || among l name.bytes.now) h none in (
        sym is,
        ap (λ (l : Texts). keys_of ((few ++ name ∷ []) ++ l)) none ∙ ap keys_of (no_more (few ++ name ∷ []))
            ∙ map-append (λ (k : NameText). k.bytes.now) few (name ∷ [])
            ∙ ap (λ (l : List (List ℕ)). l ++ name.bytes.now ∷ []) (sym (ap (λ (l : Texts). keys_of (few ++ l)) none ∙ ap keys_of (no_more few)))
            ∙ sym (held_old false is),
      )
    where
      is_empty : (l : Texts) → length l ≡ 0 → l ≡ []
      is_empty [] h = refl
      is_empty (x ∷ l) h = absurd (omega arith)

      no_more : (l : Texts) → l ++ [] ≡ l
      no_more [] = refl
      no_more (x ∷ l) = ap (λ (m : Texts). x ∷ m) (no_more l)

  -- a name of the others, or one more of them
  pub put : (after : Texts) (is_new : Bool) → among few name.bytes.now ≡ false → is_new ≡ not (among others name.bytes.now)
      → after ≡ insert_key (λ one other. bytes_eq one.bytes.now other.bytes.now) others name
      → (not is_new ≡ list_any (bytes_eq name.bytes.now) old) × (keys_of (few ++ after) ≡ insert_key bytes_eq old name.bytes.now)
  put after is_new h new is = by (among others name.bytes.now) refl
    where
      first : (l : Texts) → keys_of (few ++ l) ≡ keys_of few ++ keys_of l
      first l = map-append (λ (k : NameText). k.bytes.now) few l

      held_is : (held : Bool) → among others name.bytes.now ≡ held → list_any (bytes_eq name.bytes.now) old ≡ held
      held_is held b = any_of_both few others name.bytes.now ∙ ap₂ (λ (p q : Bool). p || q) h b

      by : (held : Bool) → among others name.bytes.now ≡ held → (not is_new ≡ list_any (bytes_eq name.bytes.now) old) × (keys_of (few ++ after) ≡ insert_key bytes_eq old name.bytes.now)
      by true b = (
        ap not (new ∙ ap not b) ∙ sym (held_is true b),
        ap (λ (l : Texts). keys_of (few ++ l)) (is ∙ ap (λ (t : Bool). if t then others else others ++ name ∷ []) b) ∙ sym (held_old true (held_is true b)),
      )
      by false b = (
        ap not (new ∙ ap not b) ∙ sym (held_is false b),
        ap (λ (l : Texts). keys_of (few ++ l)) (is ∙ ap (λ (t : Bool). if t then others else others ++ name ∷ []) b)
            ∙ first (others ++ name ∷ []) ∙ ap (λ (l : List (List ℕ)). keys_of few ++ l) (map-append (λ (k : NameText). k.bytes.now) others (name ∷ []))
            ∙ joined (keys_of few) (keys_of others) ∙ ap (λ (l : List (List ℕ)). l ++ name.bytes.now ∷ []) (sym (first others))
            ∙ sym (held_old false (held_is false b)),
      )
        where
          joined : (a b : List (List ℕ)) → a ++ (b ++ name.bytes.now ∷ []) ≡ (a ++ b) ++ name.bytes.now ∷ []
          joined [] b = refl
          joined (x ∷ a) b = ap (λ (l : List (List ℕ)). x ∷ l) (joined a b)
