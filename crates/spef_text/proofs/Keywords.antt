-- A text that does not begin as keywords do is none.
use Rattle.std.proofs.Common.{◌≡◌, ℕ, Bool, true, false, cond, ◌&&◌, ◌||◌, ◌==◌, List, [], ◌∷◌, Some, None, refl, ap, sym, ◌∙◌, bytes_eq}
use Rattle.std.specs.Char.{is_ascii_uppercase}
use Rattle.std.specs.List.{list_all}
use Rattle.std.proofs.lemmas.Slice.Eq.{bytes_eq-Decides}
use Rattle.std.proofs.lemmas.Bool.{eqb-true}
use Rattle.spef_text.specs.Classes.{keywords, lookup, word_of, lone_word, sifted_word}
use Rattle.spef_text.specs.declared.words.Word.{Word}
use Rattle.spef_text.specs.declared.words.Word.TheVariants.{Load, Port, Internal, Node, Confidence}

-- the capital of a keyword of one letter
abbrev is_lone_letter : ℕ → Bool
is_lone_letter byte = byte == 73 || byte == 80 || byte == 78 || byte == 76 || byte == 86

-- each keyword begins with a star and a capital, which is one of these five where nothing follows it
abbrev begins_as_keyword : List ℕ → Bool
begins_as_keyword [] = false
begins_as_keyword (first ∷ []) = false
begins_as_keyword (first ∷ second ∷ []) = first == 42 && is_lone_letter second
begins_as_keyword (first ∷ second ∷ third ∷ rest) = first == 42 && is_ascii_uppercase second

not_among : (table : List (List ℕ × Word)) (text : List ℕ) → list_all (λ k. begins_as_keyword k.0) table ≡ true → begins_as_keyword text ≡ false → lookup table text ≡ None
not_among [] text all not_so = refl
not_among (k ∷ table) text all not_so =
    by (begins_as_keyword k.0) refl (bytes_eq k.0 text) refl all (not_among table text)
  where
    by : (starts : Bool) → begins_as_keyword k.0 ≡ starts → (same : Bool) → bytes_eq k.0 text ≡ same
        → starts && list_all (λ k. begins_as_keyword k.0) table ≡ true
        → (list_all (λ k. begins_as_keyword k.0) table ≡ true → begins_as_keyword text ≡ false → lookup table text ≡ None)
        → cond same (Some k.1) (lookup table text) ≡ None
    by true is true e h later = let same = (bytes_eq-Decides k.0 text).0 e in let clash = sym is ∙ ap begins_as_keyword same ∙ not_so in absurd (cc)
    by true is false e h later = later h not_so
    by false is same e h later = absurd (cc)

no_keyword : (text : List ℕ) → begins_as_keyword text ≡ false → word_of text ≡ None
unfolding word_of
no_keyword text not_so = not_among keywords text refl not_so

none_of : (a b c d e : Bool) → a ≡ false → b ≡ false → c ≡ false → d ≡ false → e ≡ false → (a || b || c || d || e) ≡ false
none_of a b c d e is_a is_b is_c is_d is_e =
    ap (λ x. x || b || c || d || e) is_a ∙ ap (λ x. x || c || d || e) is_b ∙ ap (λ x. x || d || e) is_c ∙ ap (λ x. x || e) is_d ∙ is_e

-- the keyword of a star and one letter
lone : (letter : ℕ) → word_of (42 ∷ letter ∷ []) ≡ lone_word letter
unfolding word_of
lone letter = by (letter == 73) (letter == 80) (letter == 78) (letter == 76) (letter == 86) refl refl refl refl refl
  where
    by : (i p n l v : Bool) → (letter == 73) ≡ i → (letter == 80) ≡ p → (letter == 78) ≡ n → (letter == 76) ≡ l → (letter == 86) ≡ v
        → word_of (42 ∷ letter ∷ []) ≡ cond i (Some Internal) (cond p (Some Port) (cond n (Some Node) (cond l (Some Load) (cond v (Some Confidence) None))))
    by true p n l v is_i is_p is_n is_l is_v = let is : letter ≡ 73 = eqb-true letter 73 is_i in ap (λ (b : ℕ). word_of (42 ∷ b ∷ [])) is
    by false true n l v is_i is_p is_n is_l is_v = let is : letter ≡ 80 = eqb-true letter 80 is_p in ap (λ (b : ℕ). word_of (42 ∷ b ∷ [])) is
    by false false true l v is_i is_p is_n is_l is_v = let is : letter ≡ 78 = eqb-true letter 78 is_n in ap (λ (b : ℕ). word_of (42 ∷ b ∷ [])) is
    by false false false true v is_i is_p is_n is_l is_v = let is : letter ≡ 76 = eqb-true letter 76 is_l in ap (λ (b : ℕ). word_of (42 ∷ b ∷ [])) is
    by false false false false true is_i is_p is_n is_l is_v = let is : letter ≡ 86 = eqb-true letter 86 is_v in ap (λ (b : ℕ). word_of (42 ∷ b ∷ [])) is
    by false false false false false is_i is_p is_n is_l is_v = no_keyword (42 ∷ letter ∷ []) (none_of (letter == 73) (letter == 80) (letter == 78) (letter == 76) (letter == 86) is_i is_p is_n is_l is_v)

star_is : (first letter : ℕ) (star : Bool) → (first == 42) ≡ star → cond star (lone_word letter) None ≡ word_of (first ∷ letter ∷ [])
star_is first letter true is = let same : first ≡ 42 = eqb-true first 42 is in sym (lone letter) ∙ ap (λ (b : ℕ). word_of (b ∷ letter ∷ [])) (sym same)
star_is first letter false is = sym (no_keyword (first ∷ letter ∷ []) (ap (λ b. b && is_lone_letter letter) is))

begins_is : (first second third : ℕ) (rest : List ℕ) (begins : Bool) → (first == 42 && is_ascii_uppercase second) ≡ begins
    → cond begins (lookup keywords (first ∷ second ∷ third ∷ rest)) None ≡ word_of (first ∷ second ∷ third ∷ rest)
unfolding word_of
begins_is first second third rest true is = refl
begins_is first second third rest false is = sym (no_keyword (first ∷ second ∷ third ∷ rest) is)

pub sifted : (text : List ℕ) → sifted_word text ≡ word_of text
sifted [] = sym (no_keyword [] refl)
sifted (first ∷ []) = sym (no_keyword (first ∷ []) refl)
sifted (first ∷ letter ∷ []) = star_is first letter (first == 42) refl
sifted (first ∷ second ∷ third ∷ rest) = begins_is first second third rest (first == 42 && is_ascii_uppercase second) refl
