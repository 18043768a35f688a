-- How long a run is, byte by byte.
use Rattle.std.proofs.Common.{◌≡◌, ℕ, zero, suc, ◌+◌, ◌-◌, ◌<◌, ◌≤◌, Bool, true, false, cond, ◌==◌, List, [], ◌∷◌, length, take, drop, get_or, refl, ap, subst, ◌∙◌, arith}
use Rattle.std.proofs.lemmas.Bool.{eq-eqb}
use Rattle.std.proofs.lemmas.List.{drop_more, drop_all}
use Rattle.edge_io.specs.Bytes.{backslash}
use Rattle.token_texts.specs.Runs.{run_length, escaped_run_length}
use Rattle.token_texts.specs.ByteLemmas.{not_byte}

module _ (is_in : ℕ → Bool) where
  -- a run in which no byte takes another
  pub run_more : (b : ℕ) (rest : List ℕ) → is_in b ≡ true → run_length is_in (b ∷ rest) ≡ run_length is_in rest + 1
  unfolding run_length
  run_more b rest p = ap (λ t. cond t (run_length is_in rest + 1) 0) p

  pub run_none : (b : ℕ) (rest : List ℕ) → is_in b ≡ false → run_length is_in (b ∷ rest) ≡ 0
  unfolding run_length
  run_none b rest p = ap (λ t. cond t (run_length is_in rest + 1) 0) p

  pub run_within : (bytes : List ℕ) → run_length is_in bytes ≤ length bytes
  unfolding run_length
  run_within [] = omega arith
  run_within (b ∷ rest) =
      let more = run_within rest in
      elim (is_in b) as (λ t. cond t (run_length is_in rest + 1) 0 ≤ suc (length rest)) [ true ↦ omega arith | false ↦ omega arith ]

  -- the run of the whole is the bytes so far and the run of the rest
  pub record RunSoFar (whole : List ℕ) (place : ℕ) : Type 0 where
    pub within : place ≤ length whole
    pub so_far : run_length is_in whole ≡ place + run_length is_in (drop place whole)

  pub run_goes_on : (whole : List ℕ) (place : ℕ) → RunSoFar whole place → place < length whole → is_in (get_or whole place 0) ≡ true
      → RunSoFar whole (place + 1)
  run_goes_on whole place h lt here =
      let step : run_length is_in (drop place whole)
      ≡ run_length is_in (drop (place + 1) whole) + 1 =
      ap (run_length is_in) (drop_more whole place 0 lt) ∙ run_more (get_or whole place 0) (drop (place + 1) whole) here in
      let so_far = h.so_far in
      record { within = omega arith; so_far = omega arith }

  pub run_stops : (whole : List ℕ) (place : ℕ) → RunSoFar whole place → place < length whole → is_in (get_or whole place 0) ≡ false
      → place ≡ run_length is_in whole
  run_stops whole place h lt here =
      let step : run_length is_in (drop place whole)
      ≡ 0 = ap (run_length is_in) (drop_more whole place 0 lt) ∙ run_none (get_or whole place 0) (drop (place + 1) whole) here in
      let so_far = h.so_far in
      omega arith

  pub run_ends : (whole : List ℕ) (place : ℕ) → RunSoFar whole place → length whole ≤ place → place ≡ run_length is_in whole
  unfolding run_length
  run_ends whole place h le =
      let step : run_length is_in (drop place whole) ≡ 0 = ap (run_length is_in) (drop_all place whole le) in
      let so_far = h.so_far in
      omega arith

  -- a run in which a backslash takes the next byte
  pub escaped_more : (b : ℕ) (rest : List ℕ) → (b == backslash) ≡ false → is_in b ≡ true
      → escaped_run_length is_in (b ∷ rest) ≡ escaped_run_length is_in rest + 1
  unfolding escaped_run_length
  escaped_more b [] p q = ap (λ t. cond t 0 (cond (is_in b) 1 0)) p ∙ ap (λ t. cond t 1 0) q
  escaped_more b (c ∷ rest) p q =
      ap (λ t. cond t (escaped_run_length is_in rest + 2) (cond (is_in b) (escaped_run_length is_in (c ∷ rest) + 1) 0)) p ∙ ap
      (λ t. cond t (escaped_run_length is_in (c ∷ rest) + 1) 0) q

  pub escaped_none : (b : ℕ) (rest : List ℕ) → (b == backslash) ≡ false → is_in b ≡ false → escaped_run_length is_in (b ∷ rest) ≡ 0
  unfolding escaped_run_length
  escaped_none b [] p q = ap (λ t. cond t 0 (cond (is_in b) 1 0)) p ∙ ap (λ t. cond t 1 0) q
  escaped_none b (c ∷ rest) p q =
      ap (λ t. cond t (escaped_run_length is_in rest + 2) (cond (is_in b) (escaped_run_length is_in (c ∷ rest) + 1) 0)) p ∙ ap
      (λ t. cond t (escaped_run_length is_in (c ∷ rest) + 1) 0) q

  pub escaped_taking : (b c : ℕ) (rest : List ℕ) → (b == backslash) ≡ true
      → escaped_run_length is_in (b ∷ c ∷ rest) ≡ escaped_run_length is_in rest + 2
  unfolding escaped_run_length
  escaped_taking b c rest p =
      ap (λ t. cond t (escaped_run_length is_in rest + 2) (cond (is_in b) (escaped_run_length is_in (c ∷ rest) + 1) 0)) p

  -- a backslash at the end
  pub escaped_last : (b : ℕ) → (b == backslash) ≡ true → escaped_run_length is_in (b ∷ []) ≡ 0
  unfolding escaped_run_length
  escaped_last b p = ap (λ t. cond t 0 (cond (is_in b) 1 0)) p

  pub escaped_within : (bytes : List ℕ) → escaped_run_length is_in bytes ≤ length bytes
  unfolding escaped_run_length
  escaped_within [] = omega arith
  escaped_within (b ∷ []) = elim (b == backslash) as (λ t. cond t 0 (cond (is_in b) 1 0) ≤ 1) [
    | true ↦ omega arith
    | false ↦ elim (is_in b) as (λ t. cond t 1 0 ≤ 1) [ true ↦ omega arith | false ↦ omega arith ]
  ]
  escaped_within (b ∷ c ∷ rest) =
      let far = escaped_within rest in
      let near = escaped_within (c ∷ rest) in
      elim (b == backslash) as (λ t. cond t (escaped_run_length is_in rest + 2) (cond (is_in b) (escaped_run_length is_in (c ∷ rest) + 1) 0)
      ≤ suc (suc (length rest))) [
        | true ↦ omega arith
        | false ↦ elim (is_in b) as (λ t. cond t (escaped_run_length is_in (c ∷ rest) + 1) 0 ≤ suc (suc (length rest)))
            [ true ↦ omega arith | false ↦ omega arith ]
      ]

  -- the run is the whole of its own bytes
  nothing : escaped_run_length is_in [] ≡ 0
  unfolding escaped_run_length
  nothing = refl

  whole_one : (b : ℕ) (s t : Bool) → (b == backslash) ≡ s → is_in b ≡ t
      → escaped_run_length is_in (take (cond s 0 (cond t 1 0)) (b ∷ [])) ≡ cond s 0 (cond t 1 0)
  whole_one b true t p q = nothing
  whole_one b false true p q = escaped_more b [] p q ∙ ap (λ n. n + 1) nothing
  whole_one b false false p q = nothing

  whole_two : (b c : ℕ) (rest : List ℕ) (far near : ℕ) (s t : Bool) → (b == backslash) ≡ s → is_in b ≡ t
      → escaped_run_length is_in (take far rest) ≡ far → escaped_run_length is_in (take near (c ∷ rest)) ≡ near
      → escaped_run_length is_in (take (cond s (far + 2) (cond t (near + 1) 0)) (b ∷ c ∷ rest)) ≡ cond s (far + 2) (cond t (near + 1) 0)
  whole_two b c rest far near true t p q after next =
      let e : far + 2 ≡ suc (suc far) = omega arith in
      ap (λ n. escaped_run_length is_in (take n (b ∷ c ∷ rest))) e ∙ escaped_taking b c (take far rest) p ∙ ap (λ n. n + 2) after
  whole_two b c rest far near false true p q after next =
      let e : near + 1 ≡ suc near = omega arith in
      ap (λ n. escaped_run_length is_in (take n (b ∷ c ∷ rest))) e ∙ escaped_more b (take near (c ∷ rest)) p q ∙ ap (λ n. n + 1) next
  whole_two b c rest far near false false p q after next = nothing

  pub escaped_whole : (bytes : List ℕ) → escaped_run_length is_in (take (escaped_run_length is_in bytes) bytes)
      ≡ escaped_run_length is_in bytes
  unfolding escaped_run_length
  escaped_whole [] = refl
  escaped_whole (b ∷ []) = whole_one b (b == backslash) (is_in b) refl refl
  escaped_whole (b ∷ c ∷ rest) =
      whole_two b c rest (escaped_run_length is_in rest) (escaped_run_length is_in (c ∷ rest)) (b == backslash) (is_in b) refl refl
      (escaped_whole rest) (escaped_whole (c ∷ rest))

  -- the run of the whole is the bytes so far and the run of the rest
  pub record EscapedSoFar (whole : List ℕ) (place : ℕ) : Type 0 where
    pub within : place ≤ length whole
    pub so_far : escaped_run_length is_in whole ≡ place + escaped_run_length is_in (drop place whole)

  pub escaped_takes : (whole : List ℕ) (place : ℕ) → EscapedSoFar whole place → place < length whole → get_or whole place 0 ≡ backslash
      → (length whole - place ≡ 1 → ⊥) → EscapedSoFar whole (place + 2)
  escaped_takes whole place h lt is more =
      let next : place + 1 < length whole = omega arith in
      let rest : drop (place + 1) whole ≡ get_or whole (place + 1) 0 ∷ drop (place + 1 + 1) whole = drop_more whole (place + 1) 0 next in
      let all : drop place whole ≡ get_or whole place 0 ∷ get_or whole (place + 1) 0 ∷ drop (place + 1 + 1) whole =
      drop_more whole place 0 lt ∙ ap (λ l. get_or whole place 0 ∷ l) rest in
      let step : escaped_run_length is_in (drop place whole) ≡ escaped_run_length is_in (drop (place + 1 + 1) whole) + 2 =
      ap (escaped_run_length is_in) all ∙ escaped_taking (get_or whole place 0) (get_or whole (place + 1) 0) (drop (place + 1 + 1) whole)
      (eq-eqb _ backslash is) in
      let e : place + 1 + 1 ≡ place + 2 = omega arith in
      let same : escaped_run_length is_in (drop (place + 1 + 1) whole)
      ≡ escaped_run_length is_in (drop (place + 2) whole) = ap (λ i. escaped_run_length is_in (drop i whole)) e in
      let so_far = h.so_far in
      record { within = omega arith; so_far = omega arith }

  pub escaped_goes_on : (whole : List ℕ) (place : ℕ) → EscapedSoFar whole place → place < length whole
      → (get_or whole place 0 ≡ backslash → ⊥) → is_in (get_or whole place 0) ≡ true → EscapedSoFar whole (place + 1)
  escaped_goes_on whole place h lt other here =
      let step : escaped_run_length is_in (drop place whole) ≡ escaped_run_length is_in (drop (place + 1) whole) + 1 =
      ap (escaped_run_length is_in) (drop_more whole place 0 lt) ∙ escaped_more (get_or whole place 0) (drop (place + 1) whole)
      (not_byte _ backslash other) here in
      let so_far = h.so_far in
      record { within = omega arith; so_far = omega arith }

  -- so many bytes more that are of the class, and no backslash
  pub escaped_goes_far : (whole : List ℕ) (place n : ℕ) → EscapedSoFar whole place → place + n ≤ length whole
      → ((k : ℕ) → k < n → (is_in (get_or whole (place + k) 0) ≡ true) × (get_or whole (place + k) 0 ≡ backslash → ⊥))
      → EscapedSoFar whole (place + n)
  escaped_goes_far whole place zero h within plain = subst (EscapedSoFar whole) (let e : place ≡ place + 0 = omega arith in e) h
  escaped_goes_far whole place (suc n) h within plain =
      let last = plain n (omega arith) in
      let before = escaped_goes_far whole place n h (omega (arith, within)) (λ k lt. plain k (omega (arith, lt))) in
      let e : place + n + 1 ≡ place + suc n = omega arith in
      subst (EscapedSoFar whole) e (escaped_goes_on whole (place + n) before (omega (arith, within)) last.1 last.0)

  pub escaped_stops : (whole : List ℕ) (place : ℕ) → EscapedSoFar whole place → place < length whole
      → (get_or whole place 0 ≡ backslash → ⊥) → is_in (get_or whole place 0) ≡ false → place ≡ escaped_run_length is_in whole
  escaped_stops whole place h lt other here =
      let step : escaped_run_length is_in (drop place whole) ≡ 0 =
      ap (escaped_run_length is_in) (drop_more whole place 0 lt) ∙ escaped_none (get_or whole place 0) (drop (place + 1) whole)
      (not_byte _ backslash other) here in
      let so_far = h.so_far in
      omega arith

  pub escaped_ends : (whole : List ℕ) (place : ℕ) → EscapedSoFar whole place → length whole ≤ place → place ≡ escaped_run_length is_in whole
  unfolding escaped_run_length
  escaped_ends whole place h le =
      let step : escaped_run_length is_in (drop place whole) ≡ 0 = ap (escaped_run_length is_in) (drop_all place whole le) in
      let so_far = h.so_far in
      omega arith

  pub escaped_ends_taking : (whole : List ℕ) (place : ℕ) → EscapedSoFar whole place → place < length whole
      → get_or whole place 0 ≡ backslash → length whole - place ≡ 1 → place ≡ escaped_run_length is_in whole
  escaped_ends_taking whole place h lt is last =
      let none : drop (place + 1) whole ≡ [] = drop_all (place + 1) whole (omega arith) in
      let step : escaped_run_length is_in (drop place whole) ≡ 0 =
      ap (escaped_run_length is_in) (drop_more whole place 0 lt ∙ ap (λ l. get_or whole place 0 ∷ l) none) ∙ escaped_last
      (get_or whole place 0) (eq-eqb _ backslash is) in
      let so_far = h.so_far in
      omega arith
