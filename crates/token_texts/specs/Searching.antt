-- What a search of bytes finds, in the words of the definitions.
use Rattle.std.proofs.Common.{◌≡◌, ℕ, zero, suc, ◌+◌, ◌<◌, Bool, true, false, cond, ◌&&◌, ◌==◌, List, [], ◌∷◌, length, get_or, Option, Some, None, option_map, position, sym, refl, ap, ◌∙◌, arith, nat_lt, lt-ltb, eq-eqb}
use Rattle.std.specs.List.{position_or_len}
use Rattle.std.proofs.lemmas.Bool.{eqb-true}
use Rattle.std.proofs.lemmas.Grind.{common_steps}
use Rattle.std.proofs.lemmas.List.Sums.{position_or_len_is}
use Rattle.memchr.specs.Find.{Nowhere, NoneBefore, Passes, IsFirstByte, OccursAt, FindsNeedle}
use Rattle.edge_io.specs.Bytes.{begins_with}
use Rattle.token_texts.specs.Comments.{pair_place}

not_passing : (b : Bool) → (b ≡ true → ⊥) → b ≡ false
not_passing true h = absurd (h refl)
not_passing false h = refl

at_first : (test : ℕ → Bool) (hay : List ℕ) (k : ℕ) → NoneBefore (Passes test hay) 0 (length hay) k → Passes test hay k
    → position test hay ≡ Some k
at_first test hay k none passes =
    let below : k < length hay = none.high in
    let at : position_or_len test hay ≡ k = position_or_len_is test hay k 0 (omega arith)
    (λ j lt. not_passing _ (none.before j (omega arith) lt)) (λ inside. passes) in
    let inside : nat_lt (position_or_len test hay) (length hay) ≡ true = lt-ltb _ _ (omega arith) in
    ap (λ b. cond b (Some (position_or_len test hay)) None) inside ∙ ap (λ i. Some i) at

at_none : (test : ℕ → Bool) (hay : List ℕ) → Nowhere (Passes test hay) 0 (length hay) → position test hay ≡ None
at_none test hay nowhere =
    let at : position_or_len test hay ≡ length hay =
    position_or_len_is test hay (length hay) 0 (omega arith) (λ j lt. not_passing _ (nowhere j (omega arith) lt))
    (λ inside. absurd (omega arith)) in
    let past : nat_lt (position_or_len test hay) (length hay) ≡ false = grind (arith, common_steps) in
    ap (λ b. cond b (Some (position_or_len test hay)) None) past

-- the place that `memchr` finds is the position of the first byte that passes
pub byte_found : (test : ℕ → Bool) (hay : List ℕ) (found : Option ℕ) → IsFirstByte test hay found → found ≡ position test hay
byte_found test hay None nowhere = sym (at_none test hay nowhere)
byte_found test hay (Some place) first = sym (at_first test hay place first.0 first.1)

both : (p q : Bool) → p ≡ true → q ≡ true → (p && q) ≡ true
both true true p q = refl
both true false p q = absurd (cc)
both false q' p q = absurd (cc)

each : (p q : Bool) → (p && q) ≡ true → (p ≡ true) × (q ≡ true)
each true true h = (refl, refl)
each true false h = absurd (cc)
each false q h = absurd (cc)

module _ (one two : ℕ) where
  abbrev pub pair : List ℕ
  pair = one ∷ two ∷ []

  -- the test for the pair at the front
  abbrev is_front : ℕ → List ℕ → Bool
  is_front b rest = b == one && begins_with two rest

  occurs_behind : (b : ℕ) (hay : List ℕ) (k : ℕ) → OccursAt (b ∷ hay) pair (suc k) → OccursAt hay pair k
  occurs_behind b hay k occurs =
      let fits = occurs.fits in
      record {
        fits = omega arith;
        reads = λ j lt. let e : suc k + j ≡ suc (k + j) = omega arith in ap (λ i. get_or (b ∷ hay) i 0) (sym e) ∙ occurs.reads j lt;
      }

  occurs_before : (b : ℕ) (hay : List ℕ) (k : ℕ) → OccursAt hay pair k → OccursAt (b ∷ hay) pair (suc k)
  occurs_before b hay k occurs =
      let fits = occurs.fits in
      record {
        fits = omega arith;
        reads = λ j lt. let e : suc k + j ≡ suc (k + j) = omega arith in ap (λ i. get_or (b ∷ hay) i 0) e ∙ occurs.reads j lt;
      }

  front_is : (b : ℕ) (rest : List ℕ) → OccursAt (b ∷ rest) pair 0 → is_front b rest ≡ true
  front_is b [] occurs = let fits = occurs.fits in absurd (omega arith)
  front_is b (c ∷ rest) occurs = both _ _ (eq-eqb b one (occurs.reads 0 (omega arith))) (eq-eqb c two (occurs.reads 1 (omega arith)))

  front_occurs : (b : ℕ) (rest : List ℕ) → is_front b rest ≡ true → OccursAt (b ∷ rest) pair 0
  front_occurs b [] is = absurd (let h : false ≡ true = (each (b == one) false is).1 in cc)
  front_occurs b (c ∷ rest) is =
      let parts = each (b == one) (c == two) is in
      record { fits = omega arith; reads = reads (eqb-true b one parts.0) (eqb-true c two parts.1) }
    where
      reads : b ≡ one → c ≡ two → (j : ℕ) → j < length pair → get_or (b ∷ c ∷ rest) (0 + j) 0 ≡ get_or pair j 0
      reads p q zero lt = p
      reads p q (suc zero) lt = q
      reads p q (suc (suc j)) lt = absurd (omega arith)

  pair_at : (hay : List ℕ) (k : ℕ) → ((j : ℕ) → j < k → OccursAt hay pair j → ⊥) → OccursAt hay pair k → pair_place one two hay ≡ Some k
  unfolding pair_place
  pair_at [] k none occurs = let fits = occurs.fits in absurd (omega arith)
  pair_at (b ∷ hay) zero none occurs = ap (λ t. cond t (Some 0) (option_map (λ place. place + 1) (pair_place one two hay)))
      (front_is b hay occurs)
  pair_at (b ∷ hay) (suc k) none occurs =
      let not_here : is_front b hay ≡ false = not_passing _ (λ is. none 0 (omega arith) (front_occurs b hay is)) in
      let later = pair_at hay k (λ j lt here. none (suc j) (omega arith) (occurs_before b hay j here)) (occurs_behind b hay k occurs) in
      let e : k + 1 ≡ suc k = omega arith in
      ap (λ t. cond t (Some 0) (option_map (λ place. place + 1) (pair_place one two hay))) not_here ∙ ap
      (option_map (λ place. place + 1)) later ∙ ap (λ i. Some i) e

  pair_missing : (hay : List ℕ) → ((j : ℕ) → OccursAt hay pair j → ⊥) → pair_place one two hay ≡ None
  unfolding pair_place
  pair_missing [] none = refl
  pair_missing (b ∷ hay) none =
      let not_here : is_front b hay ≡ false = not_passing _ (λ is. none 0 (front_occurs b hay is)) in
      let later = pair_missing hay (λ j here. none (suc j) (occurs_before b hay j here)) in
      ap (λ t. cond t (Some 0) (option_map (λ place. place + 1) (pair_place one two hay))) not_here ∙ ap
      (option_map (λ place. place + 1)) later

  -- the place that `memmem` finds is that of the pair
  pub pair_found : (hay : List ℕ) (found : Option ℕ) → FindsNeedle hay pair 0 found → found ≡ pair_place one two hay
  pair_found hay None nowhere = sym (pair_missing hay (λ j occurs. nowhere j (omega arith) (let fits = occurs.fits in omega arith) occurs))
  pair_found hay (Some place) first = let none = first.0 in sym (pair_at hay place (λ j lt. none.before j (omega arith) lt) first.1)
