-- The first piece of a text, and those behind it.
use Rattle.std.proofs.Common.{◌≡◌, ℕ, suc, ◌+◌, ◌<◌, ◌≤◌, ⊎_elim, Bool, true, false, not, cond, List, [], ◌∷◌, length, take, drop, get_or, refl, sym, ap, ◌∙◌, subst, arith, length-drop}
use Rattle.std.proofs.lemmas.Bool.{cases_lt}
use Rattle.std.proofs.lemmas.List.Sums.{position_or_len_is}
use Rattle.std.specs.List.{filter, slice_split, onto_first, position_or_len}
use Rattle.std.proofs.lemmas.List.Splits.{slice_split-cons_yes, slice_split-cons_no}
use Rattle.token_texts.specs.Runs.{run_length}
use Rattle.token_texts.specs.RunLemmas.{run_more, run_none}
use Rattle.token_texts.specs.Pieces.{is_filled, pieces_between}

module _ (parts : ℕ → Bool) where
  -- ---- the bytes at the front that part pieces

  drop_more : (byte : ℕ) (rest : List ℕ) (n : ℕ) → drop (n + 1) (byte ∷ rest) ≡ drop n rest
  drop_more byte rest n = let next : n + 1 ≡ suc n = omega arith in ap (λ k. drop k (byte ∷ rest)) next

  -- they are passed over
  behind_parting : (text : List ℕ) → pieces_between parts text ≡ pieces_between parts (drop (run_length parts text) text)
  unfolding run_length pieces_between
  behind_parting [] = refl
  behind_parting (byte ∷ rest) = by (parts byte) refl (behind_parting rest)
    where
      by : (here : Bool) → parts byte ≡ here → pieces_between parts rest ≡ pieces_between parts (drop (run_length parts rest) rest)
          → pieces_between parts (byte ∷ rest) ≡ pieces_between parts (drop (run_length parts (byte ∷ rest)) (byte ∷ rest))
      by true e more =
          ap (filter is_filled) (slice_split-cons_yes parts byte rest e) ∙ more ∙ ap (pieces_between parts)
          (sym (drop_more byte rest (run_length parts rest)))
          ∙ ap (λ n. pieces_between parts (drop n (byte ∷ rest))) (sym (run_more parts byte rest e))
      by false e more = ap (λ n. pieces_between parts (drop n (byte ∷ rest))) (sym (run_none parts byte rest e))

  -- what stands behind them does not begin with one
  not_parting : (text : List ℕ) (first : ℕ) (others : List ℕ) → drop (run_length parts text) text ≡ first ∷ others → parts first ≡ false
  unfolding run_length
  not_parting [] first others is = absurd (cc)
  not_parting (byte ∷ rest) first others is = by (parts byte) refl (not_parting rest first others)
    where
      by : (here : Bool) → parts byte ≡ here → (drop (run_length parts rest) rest ≡ first ∷ others → parts first ≡ false)
          → parts first ≡ false
      by true e more =
          more (sym (drop_more byte rest (run_length parts rest)) ∙ ap (λ n. drop n (byte ∷ rest)) (sym (run_more parts byte rest e)) ∙ is)
      by false e more =
          let whole : byte ∷ rest ≡ first ∷ others = ap (λ n. drop n (byte ∷ rest)) (sym (run_none parts byte rest e)) ∙ is in
          let same : byte ≡ first = cc in
          ap parts (sym same) ∙ e

  -- ---- the bytes before the first that parts pieces

  place_zero : (byte : ℕ) (rest : List ℕ) → parts byte ≡ true → position_or_len parts (byte ∷ rest) ≡ 0
  place_zero byte rest e = ap (λ here. cond (not here) (1 + position_or_len parts rest) 0) e

  place_suc : (byte : ℕ) (rest : List ℕ) → parts byte ≡ false → position_or_len parts (byte ∷ rest) ≡ suc (position_or_len parts rest)
  place_suc byte rest e = ap (λ here. cond (not here) (1 + position_or_len parts rest) 0) e ∙ omega arith

  -- they are the first part, and the pieces behind them are those of the other parts
  record Cut (text : List ℕ) (place : ℕ) : Type 0 where
    others : List (List ℕ)
    split : slice_split parts text ≡ take place text ∷ others
    behind : filter is_filled others ≡ pieces_between parts (drop place text)

  cut : (text : List ℕ) → Cut text (position_or_len parts text)
  unfolding pieces_between
  cut [] = record { others = []; split = refl; behind = refl }
  cut (byte ∷ rest) = by (parts byte) refl (cut rest)
    where
      by : (here : Bool) → parts byte ≡ here → Cut rest (position_or_len parts rest)
          → Cut (byte ∷ rest) (position_or_len parts (byte ∷ rest))
      by true e c =
          let yes = slice_split-cons_yes parts byte rest e in
          subst (Cut (byte ∷ rest)) (sym (place_zero byte rest e))
          (record { others = slice_split parts rest; split = yes; behind = sym (ap (filter is_filled) yes) })
      by false e c =
          subst (Cut (byte ∷ rest)) (sym (place_suc byte rest e))
          (record { others = c.others; split = slice_split-cons_no parts byte rest e ∙ ap (onto_first byte) c.split; behind = c.behind })

  -- where the first byte does not part pieces, they are the first piece
  first_cut : (first : ℕ) (rest : List ℕ) → parts first ≡ false
      → pieces_between parts (first ∷ rest) ≡ take (position_or_len parts (first ∷ rest)) (first ∷ rest)
      ∷ pieces_between parts (drop (position_or_len parts (first ∷ rest)) (first ∷ rest))
  unfolding pieces_between
  first_cut first rest is =
      let c = cut (first ∷ rest) in
      let Filled : ℕ → Type 0 = λ n. filter is_filled (take n (first ∷ rest) ∷ c.others)
      ≡ take n (first ∷ rest) ∷ filter is_filled c.others in
      let filled = subst Filled (sym (place_suc first rest is)) refl in
      ap (filter is_filled) c.split ∙ filled ∙ ap (λ more. take (position_or_len parts (first ∷ rest)) (first ∷ rest) ∷ more) c.behind

  -- ---- what the code owes

  -- the first piece of a text, and what is left behind it
  pub first_and_others : (text rest piece others : List ℕ) (place : ℕ) → rest ≡ drop (run_length parts text) text → 0 < length rest
      → place ≡ position_or_len parts rest
      → piece ≡ take place rest → others ≡ drop place rest → pieces_between parts text ≡ piece ∷ pieces_between parts others
  first_and_others text [] piece others place e some at front back = absurd (omega (arith, some))
  first_and_others text (first ∷ rest) piece others place e some at front back =
      behind_parting text ∙ ap (pieces_between parts) (sym e) ∙ first_cut first rest (not_parting text first rest (sym e))
      ∙ ap (λ n. take n (first ∷ rest) ∷ pieces_between parts (drop n (first ∷ rest))) (sym at)
      ∙ ap (λ l. l ∷ pieces_between parts (drop place (first ∷ rest))) (sym front) ∙ ap (λ l. piece ∷ pieces_between parts l) (sym back)

  pub shorter_behind : (text rest others : List ℕ) (place : ℕ) → rest ≡ drop (run_length parts text) text → 0 < length rest
      → place ≡ position_or_len parts rest → others ≡ drop place rest
      → length others < length text
  shorter_behind text [] others place e some at back = absurd (omega (arith, some))
  shorter_behind text (first ∷ rest) others place e some at back =
      let one : position_or_len parts (first ∷ rest)
      ≡ suc (position_or_len parts rest) = place_suc first rest (not_parting text first rest (sym e)) in
      let whole : length (first ∷ rest) ≡ length (drop (run_length parts text) text) = ap length e in
      let front = length-drop (run_length parts text) text in
      let left : length others ≡ length (drop place (first ∷ rest)) = ap length back in
      let behind = length-drop place (first ∷ rest) in
      omega (arith, one, whole, front, left, behind, at)

  -- a text of which nothing is left has no pieces
  pub no_pieces : (text rest : List ℕ) → rest ≡ drop (run_length parts text) text → length rest ≡ 0 → pieces_between parts text ≡ []
  unfolding pieces_between
  no_pieces text [] e none = behind_parting text ∙ ap (pieces_between parts) (sym e)
  no_pieces text (first ∷ rest) e none = absurd (omega (arith, none))

  -- no byte before a place parts pieces
  pub record NoneSoFar (bytes : List ℕ) (place : ℕ) : Type 0 where
    pub within : place ≤ length bytes
    pub none : (k : ℕ) → k < place → parts (get_or bytes k 0) ≡ false

  pub none_at_first : (bytes : List ℕ) → NoneSoFar bytes 0
  none_at_first bytes = record { within = omega arith; none = λ k below. absurd (omega (arith, below)) }

  pub none_more : (bytes : List ℕ) (place : ℕ) → NoneSoFar bytes place → place < length bytes → parts (get_or bytes place 0) ≡ false
      → NoneSoFar bytes (place + 1)
  none_more bytes place so_far lt here = record {
    within = omega (arith, lt);
    none = λ k below. ⊎_elim (λ before. so_far.none k before)
        (λ past. let same : place ≡ k = omega (arith, below, past) in subst (λ (n : ℕ). parts (get_or bytes n 0) ≡ false) same here)
        (cases_lt k place);
  }

  -- the first byte that does, or the end
  pub first_here : (bytes : List ℕ) (place : ℕ) → NoneSoFar bytes place → parts (get_or bytes place 0) ≡ true
      → place ≡ position_or_len parts bytes
  first_here bytes place so_far here = sym (position_or_len_is parts bytes place 0 so_far.within so_far.none (λ below. here))

  pub first_nowhere : (bytes : List ℕ) (place : ℕ) → NoneSoFar bytes place → length bytes ≤ place → place ≡ position_or_len parts bytes
  first_nowhere bytes place so_far past = sym
      (position_or_len_is parts bytes place 0 so_far.within so_far.none (λ below. absurd (omega (arith, below, past))))
