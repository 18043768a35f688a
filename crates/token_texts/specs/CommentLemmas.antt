-- A comment ends within its bytes, and what stands where one begins has a byte, and none past the end.
use Rattle.std.proofs.Common.{◌≡◌, ℕ, suc, ◌+◌, ◌<◌, ◌≤◌, Bool, true, false, cond, ◌&&◌, ◌==◌, List, [], ◌∷◌, length, drop, Option, Some, None, option_map, position, refl, subst, arith}
use Rattle.std.specs.Prelude.{unwrap_or}
use Rattle.std.proofs.lemmas.List.Quantifiers.{position-Some}
use Rattle.edge_io.specs.Bytes.{star, slash, begins_with}
use Rattle.token_texts.specs.Blanks.{is_line_end}
use Rattle.token_texts.specs.Comments.{line_length, pair_place, comment_to, comment_cut, comment_at}
use Rattle.token_texts.specs.Cuts.{IsWithin}
use Rattle.token_texts.specs.declared.cuts.Cut.{Cut}
use Rattle.token_texts.specs.declared.cuts.Cut.TheVariants.{Skip}

up_to : (rest : List ℕ) (end : Option ℕ) → ((i : ℕ) → end ≡ Some i → i < length rest) → (0 < unwrap_or end (length rest) + 1)
    × (unwrap_or end (length rest) + 1 ≤ length rest + 1)
up_to rest None below = (omega arith, omega arith)
up_to rest (Some place) below = let lt = below place refl in (omega arith, omega arith)

pub line_within : (rest : List ℕ) → (0 < line_length rest) × (line_length rest ≤ length rest + 1)
line_within rest = up_to rest (position is_line_end rest) (λ i e. (position-Some is_line_end rest i 0 e).0)

has_byte : (t : Bool) (two : ℕ) (bytes : List ℕ) → t && begins_with two bytes ≡ true → 1 ≤ length bytes
has_byte t two (x ∷ xs) h = omega arith
has_byte true two [] h = absurd (cc)
has_byte false two [] h = absurd (cc)

step : (bytes : List ℕ) (place : ℕ) (t : Bool) (later : Option ℕ) → (t ≡ true → 1 ≤ length bytes)
    → ((p : ℕ) → later ≡ Some p → p + 2 ≤ length bytes)
    → cond t (Some 0) (option_map (λ n. n + 1) later) ≡ Some place → place + 2 ≤ suc (length bytes)
step bytes place true later here there h = let more = here refl in let z : 0 ≡ place = cc in omega arith
step bytes place false None here there h = absurd (cc)
step bytes place false (Some p) here there h = let more = there p refl in let z : p + 1 ≡ place = cc in omega arith

pub pair_within : (one two : ℕ) (bytes : List ℕ) (place : ℕ) → pair_place one two bytes ≡ Some place → place + 2 ≤ length bytes
unfolding pair_place
pair_within one two [] place e = absurd (cc)
pair_within one two (b ∷ bytes) place e =
    step bytes place (b == one && begins_with two bytes) (pair_place one two bytes) (has_byte (b == one) two bytes)
    (pair_within one two bytes) e

module _ {K : Type 0} (open_kind : K) where
  comment_to_within : (inner : List ℕ) (end : Option ℕ) → ((place : ℕ) → end ≡ Some place → place + 2 ≤ length inner)
      → IsWithin (length inner + 2) (comment_to open_kind inner end)
  comment_to_within inner None below = (omega arith, omega arith)
  comment_to_within inner (Some place) below = let le = below place refl in (omega arith, omega arith)

  -- behind a byte and a star
  pub comment_within : (last : ℕ) (rest : List ℕ) → begins_with star rest ≡ true
      → IsWithin (length rest + 1) (comment_cut last open_kind (drop 1 rest))
  comment_within last [] h = absurd (cc)
  comment_within last (byte ∷ inner) h =
      let e : length inner + 2 ≡ length (byte ∷ inner) + 1 = omega arith in
      subst (λ (n : ℕ). IsWithin n (comment_cut last open_kind inner)) e
      (comment_to_within inner (pair_place star last inner) (pair_within star last inner))

  -- a comment, or what stands there where none begins
  pub comment_or_within : (first : ℕ) (rest : List ℕ) (other : Cut K)
      → (comment_at open_kind first rest ≡ None → IsWithin (length rest + 1) other)
      → IsWithin (length rest + 1) (unwrap_or (comment_at open_kind first rest) other)
  comment_or_within first rest other within =
      by (first == slash) (begins_with slash rest) (begins_with star rest) (comment_within slash rest) within
    where
      by : (slanted line block : Bool)
          → (block ≡ true → IsWithin (length rest + 1) (comment_cut slash open_kind (drop 1 rest)))
          → (cond slanted (cond line (Some (Skip (line_length rest)))
          (cond block (Some (comment_cut slash open_kind (drop 1 rest))) None)) None ≡ None → IsWithin (length rest + 1) other)
          → IsWithin (length rest + 1)
          (unwrap_or (cond slanted (cond line (Some (Skip (line_length rest)))
          (cond block (Some (comment_cut slash open_kind (drop 1 rest))) None)) None) other)
      by false line block inside within = within refl
      by true true block inside within = line_within rest
      by true false true inside within = inside refl
      by true false false inside within = within refl
