-- What stands at the front of some bytes, and the parts and tokens that bytes are parted into by it.
use Rattle.std.specs.Prelude.{◌≡◌, ℕ, zero, suc, ◌+◌, ◌-◌, ◌<◌, ◌≤◌, Bool, false, List, [], ◌∷◌, length, take, drop}
use Rattle.token_texts.specs.declared.cuts.Cut.{Cut}
use Rattle.token_texts.specs.declared.cuts.Cut.TheVariants.{Skip, Take}

-- a token: what it is, and its bytes
pub record Lexeme (K : Type 0) : Type 0 where
  pub kind : K
  pub bytes : List ℕ

-- a part of a text: bytes that are passed over at once, or a token
pub data Part (K : Type 0) : Type 0 where
  gap : List ℕ → Part K
  token : Lexeme K → Part K

-- the parts of the bytes, in order, where `cut_at` says what stands at the front of a first byte and those behind it
pub data AreParts {K : Type 0} (cut_at : ℕ → List ℕ → Cut K) : List ℕ → List (Part K) → Type 0 where
  no_part : AreParts cut_at [] []
  and_gap : {first : ℕ} {rest : List ℕ} {parts : List (Part K)} (n : ℕ)
      → cut_at first rest ≡ Skip n
      → AreParts cut_at (drop n (first ∷ rest)) parts
      → AreParts cut_at (first ∷ rest) (gap (take n (first ∷ rest)) ∷ parts)
  and_token : {first : ℕ} {rest : List ℕ} {parts : List (Part K)} (n : ℕ) (kind : K)
      → cut_at first rest ≡ Take n kind
      → AreParts cut_at (drop n (first ∷ rest)) parts
      → AreParts cut_at (first ∷ rest) (token (record { kind = kind; bytes = take n (first ∷ rest) }) ∷ parts)

-- the first byte is passed over by itself
abbrev pub HasGapFirst : {K : Type 0} → (ℕ → List ℕ → Cut K) → List ℕ → Type 0
HasGapFirst cut_at [] = ⊥
HasGapFirst cut_at (first ∷ rest) = cut_at first rest ≡ Skip 1

-- The tokens of the bytes, in order, where `tokens_of` says what tokens the parts of a text are.
pub record AreTokensOf {K T : Type 0} (cut_at : ℕ → List ℕ → Cut K) (tokens_of : List (Part K) → List T) (bytes : List ℕ)
    (tokens : List T) : Type 0 where
  pub parts : List (Part K)
  pub parted : AreParts cut_at bytes parts
  pub are : tokens ≡ tokens_of parts

-- the tokens among the parts
abbrev pub lexemes : {K : Type 0} → List (Part K) → List (Lexeme K)
lexemes [] = []
lexemes (gap bytes ∷ parts) = lexemes parts
lexemes (token lexeme ∷ parts) = lexeme ∷ lexemes parts

-- the tokens of the bytes, of which each is its kind and its bytes
abbrev pub AreTokens : {K : Type 0} → (ℕ → List ℕ → Cut K) → List ℕ → List (Lexeme K) → Type 0
AreTokens cut_at bytes tokens = AreTokensOf cut_at lexemes bytes tokens

-- how many bytes the parts have
abbrev pub byte_count : {K : Type 0} → List (Part K) → ℕ
byte_count [] = 0
byte_count (gap bytes ∷ parts) = length bytes + byte_count parts
byte_count (token lexeme ∷ parts) = length lexeme.bytes + byte_count parts

-- how many bytes stand before the token that has so many tokens before it, or all, where it is past the last
abbrev pub place_behind : {K : Type 0} → ℕ → List (Part K) → ℕ
place_behind count [] = 0
place_behind count (gap bytes ∷ parts) = length bytes + place_behind count parts
place_behind zero (token lexeme ∷ parts) = 0
place_behind (suc count) (token lexeme ∷ parts) = length lexeme.bytes + place_behind count parts

-- the place of the token of this number, which counts from 1, or of the end of the text
abbrev pub place_of : {K : Type 0} → List (Part K) → ℕ → ℕ
place_of parts number = place_behind (number - 1) parts

-- a byte stands behind what is cut from the bytes, and is passed over by itself
abbrev pub HasGapBehind : {K : Type 0} → (ℕ → List ℕ → Cut K) → List ℕ → Cut K → Type 0
HasGapBehind cut_at bytes (Skip n) = HasGapFirst cut_at (drop n bytes)
HasGapBehind cut_at bytes (Take n kind) = HasGapFirst cut_at (drop n bytes)

-- What can stand as a token, those that are broken aside: some bytes are this one token, and all of it.
pub data IsToken {K : Type 0} (cut_at : ℕ → List ℕ → Cut K) (is_broken : K → Bool) : Lexeme K → Type 0 where
  is_token : {kind : K} {first : ℕ} {rest : List ℕ}
      → cut_at first rest ≡ Take (length (first ∷ rest)) kind
      → is_broken kind ≡ false
      → IsToken cut_at is_broken (record { kind = kind; bytes = first ∷ rest })

-- at least one byte, and at most n
abbrev pub IsWithin : {K : Type 0} → ℕ → Cut K → Type 0
IsWithin n (Skip k) = (0 < k) × (k ≤ n)
IsWithin n (Take k kind) = (0 < k) × (k ≤ n)
