-- Bytes are parted into tokens, and in one way.
use Rattle.std.proofs.Common.{◌≡◌, ℕ, zero, suc, ◌+◌, ◌-◌, ◌<◌, ◌≤◌, List, [], ◌∷◌, ◌++◌, length, take, drop, get_or, length-drop, refl, sym, ap, ◌∙◌, subst, arith, append-nil}
use Rattle.std.proofs.lemmas.List.{take_all, length-append, length-take}
use Rattle.token_texts.specs.Cuts.{Lexeme, Part, gap, token, AreParts, no_part, and_gap, and_token, AreTokensOf, AreTokens, lexemes, byte_count, place_behind, IsWithin}
use Rattle.token_texts.specs.declared.cuts.Cut.{Cut}
use Rattle.token_texts.specs.declared.cuts.Cut.TheVariants.{Skip, Take}

-- ---- one list of tokens

-- the parts of given bytes are one list
pub one_list : {K : Type 0} {cut_at : ℕ → List ℕ → Cut K} {bytes : List ℕ} {some other : List (Part K)} → AreParts cut_at bytes some
    → AreParts cut_at bytes other → some ≡ other
one_list no_part no_part = refl
one_list {cut_at = cut_at} (and_gap {first = f} {rest = r} {parts = some} n cut are) (and_gap {parts = other} m same others) =
    let e : m ≡ n = cc in
    let rest : some ≡ other = one_list are (subst (λ (k : ℕ). AreParts cut_at (drop k (f ∷ r)) other) e others) in
    ap (λ l. gap (take n (f ∷ r)) ∷ l) rest ∙ ap (λ k. gap (take k (f ∷ r)) ∷ other) (sym e)
one_list (and_gap n cut are) (and_token m kind same others) = absurd (cc)
one_list (and_token n kind cut are) (and_gap m same others) = absurd (cc)
one_list {cut_at = cut_at} (and_token {first = f} {rest = r} {parts = some} n kind cut are)
    (and_token {parts = other} m kind' same others) =
    let e : m ≡ n = cc in
    let e' : kind' ≡ kind = cc in
    let rest : some ≡ other = one_list are (subst (λ (k : ℕ). AreParts cut_at (drop k (f ∷ r)) other) e others) in
    ap (λ l. token (record { kind = kind; bytes = take n (f ∷ r) }) ∷ l) rest
    ∙ ap (λ k. token (record { kind = kind; bytes = take k (f ∷ r) }) ∷ other) (sym e)
    ∙ ap (λ k. token (record { kind = k; bytes = take m (f ∷ r) }) ∷ other) (sym e')

module _ {K T : Type 0} (cut_at : ℕ → List ℕ → Cut K) (tokens_of : List (Part K) → List T) where
  pub one_parting : (bytes : List ℕ) (some other : List T) → AreTokensOf cut_at tokens_of bytes some
      → AreTokensOf cut_at tokens_of bytes other → some ≡ other
  one_parting bytes some other are others = are.are ∙ ap tokens_of (one_list are.parted others.parted) ∙ sym others.are

module _ {K : Type 0} (cut_at : ℕ → List ℕ → Cut K) where
  -- any bytes have some parts, where each cut takes a byte
  pub some_parts : ((first : ℕ) (rest : List ℕ) → IsWithin (length rest + 1) (cut_at first rest)) → (size : ℕ) (bytes : List ℕ)
      → length bytes ≤ size → (parts : List (Part K)) × AreParts cut_at bytes parts
  some_parts each size [] le = ([], no_part)
  some_parts each zero (first ∷ rest) le = absurd (omega arith)
  some_parts each (suc size) (first ∷ rest) le =
      by (cut_at first rest) refl (each first rest) (λ n small. some_parts each size (drop n (first ∷ rest)) small)
    where
      by : (cut : Cut K) → cut_at first rest ≡ cut → IsWithin (length rest + 1) (cut_at first rest)
          → ((n : ℕ) → length (drop n (first ∷ rest)) ≤ size → (parts : List (Part K)) × AreParts cut_at (drop n (first ∷ rest)) parts)
          → (parts : List (Part K)) × AreParts cut_at (first ∷ rest) parts
      by (Skip n) e within later =
          let here : (0 < n) × (n ≤ length rest + 1) = subst (IsWithin (length rest + 1)) e within in
          let left : length (drop n (first ∷ rest)) ≡ length (first ∷ rest) - n = length-drop n (first ∷ rest) in
          let more = later n (let some = here.0 in omega arith) in
          (gap (take n (first ∷ rest)) ∷ more.0, and_gap n e more.1)
      by (Take n kind) e within later =
          let here : (0 < n) × (n ≤ length rest + 1) = subst (IsWithin (length rest + 1)) e within in
          let left : length (drop n (first ∷ rest)) ≡ length (first ∷ rest) - n = length-drop n (first ∷ rest) in
          let more = later n (let some = here.0 in omega arith) in
          (token (record { kind = kind; bytes = take n (first ∷ rest) }) ∷ more.0, and_token n kind e more.1)

-- ---- tokens one after another

module _ {K : Type 0} {cut_at : ℕ → List ℕ → Cut K} where
  pub no_token : AreTokens cut_at [] []
  no_token = record { parts = []; parted = no_part; are = refl }

  pub skip : {first : ℕ} {rest : List ℕ} {tokens : List (Lexeme K)} (n : ℕ) → cut_at first rest ≡ Skip n
      → AreTokens cut_at (drop n (first ∷ rest)) tokens → AreTokens cut_at (first ∷ rest) tokens
  skip {first} {rest} n cut more = record {
    parts = gap (take n (first ∷ rest)) ∷ more.parts;
    parted = and_gap n cut more.parted;
    are = more.are;
  }

  pub take_one : {first : ℕ} {rest : List ℕ} {tokens : List (Lexeme K)} (n : ℕ) (kind : K) → cut_at first rest ≡ Take n kind
      → AreTokens cut_at (drop n (first ∷ rest)) tokens
      → AreTokens cut_at (first ∷ rest) (record { kind = kind; bytes = take n (first ∷ rest) } ∷ tokens)
  take_one {first} {rest} n kind cut more =
      let here : Lexeme K = record { kind = kind; bytes = take n (first ∷ rest) } in
      record { parts = token here ∷ more.parts; parted = and_token n kind cut more.parted; are = ap (λ l. here ∷ l) more.are }

-- ---- the parts before a token, and it

filled : (n : ℕ) (bytes : List ℕ) (count : ℕ) → count ≡ length (drop n bytes) → length (take n bytes) + count ≡ length bytes
filled n bytes count e = let front = length-take n bytes in let back = length-drop n bytes in omega arith

module _ {K : Type 0} where
  pub lexemes_behind : (before more : List (Part K)) → lexemes (before ++ more) ≡ lexemes before ++ lexemes more
  lexemes_behind [] more = refl
  lexemes_behind (gap bytes ∷ before) more = lexemes_behind before more
  lexemes_behind (token lexeme ∷ before) more = ap (λ l. lexeme ∷ l) (lexemes_behind before more)

  pub lexemes_gap : (before : List (Part K)) (bytes : List ℕ) → lexemes (before ++ gap bytes ∷ []) ≡ lexemes before
  lexemes_gap before bytes = lexemes_behind before (gap bytes ∷ []) ∙ append-nil (lexemes before)

  pub bytes_behind : (before more : List (Part K)) → byte_count (before ++ more) ≡ byte_count before + byte_count more
  bytes_behind [] more = omega arith
  bytes_behind (gap bytes ∷ before) more = let rest = bytes_behind before more in omega arith
  bytes_behind (token lexeme ∷ before) more = let rest = bytes_behind before more in omega arith

  pub one_token_more : (before : List (Part K)) (lexeme : Lexeme K)
      → length (lexemes (before ++ token lexeme ∷ [])) ≡ length (lexemes before) + 1
  one_token_more before lexeme = ap length (lexemes_behind before (token lexeme ∷ [])) ∙ length-append (lexemes before) (lexeme ∷ [])

  pub no_token_more : (before : List (Part K)) (bytes : List ℕ) → length (lexemes (before ++ gap bytes ∷ [])) ≡ length (lexemes before)
  no_token_more before bytes = ap length (lexemes_gap before bytes)

  -- the place of the token behind some parts, and that of their end
  pub place_there : (before more : List (Part K)) (lexeme : Lexeme K)
      → place_behind (length (lexemes before)) (before ++ token lexeme ∷ more) ≡ byte_count before
  place_there [] more lexeme = refl
  place_there (gap bytes ∷ before) more lexeme = ap (λ n. length bytes + n) (place_there before more lexeme)
  place_there (token first ∷ before) more lexeme = ap (λ n. length first.bytes + n) (place_there before more lexeme)

  pub place_past : (count : ℕ) (parts : List (Part K)) → length (lexemes parts) ≤ count → place_behind count parts ≡ byte_count parts
  place_past count [] past = refl
  place_past count (gap bytes ∷ parts) past = ap (λ n. length bytes + n) (place_past count parts past)
  place_past zero (token lexeme ∷ parts) past = absurd (omega arith)
  place_past (suc count) (token lexeme ∷ parts) past = ap (λ n. length lexeme.bytes + n) (place_past count parts (omega arith))

  -- the parts of some bytes have as many
  pub parts_fill : {cut_at : ℕ → List ℕ → Cut K} {bytes : List ℕ} {parts : List (Part K)} → AreParts cut_at bytes parts
      → byte_count parts ≡ length bytes
  parts_fill no_part = refl
  parts_fill (and_gap {first = f} {rest = r} n cut are) = filled n (f ∷ r) _ (parts_fill are)
  parts_fill (and_token {first = f} {rest = r} n kind cut are) = filled n (f ∷ r) _ (parts_fill are)

-- a list with a first element, as a pattern takes it apart
pub first_and_rest : (l : List ℕ) → 1 ≤ length l → l ≡ get_or l 0 0 ∷ take (length l - 1) (drop 1 l)
first_and_rest [] some = absurd (omega arith)
first_and_rest (x ∷ xs) some = ap (λ r. x ∷ r) (sym (take_all (length (x ∷ xs) - 1) xs (omega arith)))

pub no_bytes : (l : List ℕ) → length l < 1 → l ≡ []
no_bytes [] none = refl
no_bytes (x ∷ xs) none = absurd (omega arith)
