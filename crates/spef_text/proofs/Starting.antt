-- Where tokens begin: behind each part that is read, and that each token is the one at its place.
use Rattle.std.proofs.Common.{◌≡◌, ℕ, zero, suc, ◌+◌, ◌-◌, ◌%◌, ◌<◌, ◌≤◌, if◌then◌else◌, List, [], ◌∷◌, ◌++◌, length, min, take, drop, Some, refl, sym, ap, ◌∙◌, subst, arith, append-nil}
use Rattle.std.specs.Prelude.{slice_get, slice_index_or, get_or}
use Rattle.std.specs.Option.{option_map}
use Rattle.std.proofs.lemmas.Option.{slice_get-map, slice_get-get_or, get_or_from_slice_get}
use Rattle.std.proofs.lemmas.List.{drop-drop, length-take, length-drop, length-map, get_or_past}
use Rattle.token_texts.specs.ByteLemmas.{not_byte}
use Rattle.token_texts.specs.Cuts.{Part, gap, token, Lexeme, AreParts, no_part, and_gap, and_token, lexemes, byte_count, IsWithin}
use Rattle.token_texts.specs.declared.cuts.Cut.{Cut}
use Rattle.token_texts.specs.declared.cuts.Cut.TheVariants.{Skip, Take}
use Rattle.spef_text.specs.Tokens.{cut_at, texts_of}
use Rattle.spef_text.specs.Starts.{taken_by, front_cut, front_token, token_at, short_len, short_lens, texts, starts_from}
use Rattle.spef_text.specs.Within.{cut_within}
use Rattle.spef_text.specs.Heads.{text_of}
use Rattle.spef_text.specs.SpefFiles.{SpefText}
use Rattle.spef_text.specs.declared.scan.Kind.{Kind}

-- ---- one part more

pub texts_behind : (before more : List (Part Kind)) → texts_of (before ++ more) ≡ texts_of before ++ texts_of more
texts_behind [] more = refl
texts_behind (gap bytes ∷ before) more = texts_behind before more
texts_behind (token lexeme ∷ before) more = ap (λ l. lexeme.bytes ∷ l) (texts_behind before more)

pub texts_gap : (before : List (Part Kind)) (bytes : List ℕ) → texts_of (before ++ gap bytes ∷ []) ≡ texts_of before
texts_gap before bytes = texts_behind before (gap bytes ∷ []) ∙ append-nil (texts_of before)

pub texts_count : (parts : List (Part Kind)) → length (texts_of parts) ≡ length (lexemes parts)
texts_count [] = refl
texts_count (gap bytes ∷ parts) = texts_count parts
texts_count (token lexeme ∷ parts) = let rest = texts_count parts in omega arith

pub starts_gap : (place : ℕ) (before : List (Part Kind)) (bytes : List ℕ) → starts_from place (before ++ gap bytes ∷ []) ≡ starts_from place before
starts_gap place [] bytes = refl
starts_gap place (gap first ∷ before) bytes = starts_gap (place + length first) before bytes
starts_gap place (token first ∷ before) bytes = ap (λ l. place ∷ l) (starts_gap (place + length first.bytes) before bytes)

further : (place n count : ℕ) → place + n + count ≡ place + (n + count)
further place n count = omega arith

pub starts_token : (place : ℕ) (before : List (Part Kind)) (lexeme : Lexeme Kind)
    → starts_from place (before ++ token lexeme ∷ []) ≡ starts_from place before ++ (place + byte_count before) ∷ []
starts_token place [] lexeme = ap (λ n. n ∷ []) (omega arith)
starts_token place (gap first ∷ before) lexeme =
    starts_token (place + length first) before lexeme
    ∙ ap (λ n. starts_from (place + length first) before ++ n ∷ []) (further place (length first) (byte_count before))
starts_token place (token first ∷ before) lexeme =
    ap (λ l. place ∷ l) (starts_token (place + length first.bytes) before lexeme
    ∙ ap (λ n. starts_from (place + length first.bytes) before ++ n ∷ []) (further place (length first.bytes) (byte_count before)))

pub starts_count : (place : ℕ) (parts : List (Part Kind)) → length (starts_from place parts) ≡ length (texts_of parts)
starts_count place [] = refl
starts_count place (gap bytes ∷ parts) = starts_count (place + length bytes) parts
starts_count place (token lexeme ∷ parts) = let rest = starts_count (place + length lexeme.bytes) parts in omega arith

-- ---- the token at each place

size_of : (n : ℕ) (first : ℕ) (rest : List ℕ) → n ≤ length rest + 1 → length (take n (first ∷ rest)) ≡ n
size_of n first rest within = omega (arith, length-take n (first ∷ rest))

-- the tokens that begin where those among the parts begin are theirs
pub texts_there : (bytes : List ℕ) (place : ℕ) {rest : List ℕ} {parts : List (Part Kind)} → AreParts cut_at rest parts
    → drop place bytes ≡ rest → texts bytes (starts_from place parts) ≡ texts_of parts
texts_there bytes place no_part there = refl
texts_there bytes place (and_gap {first = first} {rest = rest} {parts = parts} n cut later) there =
    let within : IsWithin {K = Kind} (length rest + 1) (Skip n) = subst (IsWithin {K = Kind} (length rest + 1)) cut (cut_within first rest) in
    let size = size_of n first rest within.1 in
    subst (λ (k : ℕ). texts bytes (starts_from (place + k) parts) ≡ texts_of parts) (sym size)
    (texts_there bytes (place + n) later (sym (drop-drop n place bytes) ∙ ap (drop n) there))
texts_there bytes place (and_token {first = first} {rest = rest} {parts = parts} n kind cut later) there =
    let within : IsWithin {K = Kind} (length rest + 1) (Take n kind) = subst (IsWithin {K = Kind} (length rest + 1)) cut (cut_within first rest) in
    let size = size_of n first rest within.1 in
    let here : token_at bytes place ≡ take n (first ∷ rest) = ap front_token there ∙ ap (λ c. taken_by c (first ∷ rest)) cut in
    let behind : texts bytes (starts_from (place + length (take n (first ∷ rest))) parts) ≡ texts_of parts =
    subst (λ (k : ℕ). texts bytes (starts_from (place + k) parts) ≡ texts_of parts) (sym size)
    (texts_there bytes (place + n) later (sym (drop-drop n place bytes) ∙ ap (drop n) there)) in
    ap (λ text. text ∷ texts bytes (starts_from (place + length (take n (first ∷ rest))) parts)) here
    ∙ ap (λ l. take n (first ∷ rest) ∷ l) behind

-- ---- the length of a token

taken_size : (cut : Cut Kind) (bytes : List ℕ) → taken_by cut bytes ≡ take (length (taken_by cut bytes)) bytes
taken_size (Skip n) bytes = refl
taken_size (Take n kind) bytes = front n bytes
  where
    front : (n : ℕ) (bytes : List ℕ) → take n bytes ≡ take (length (take n bytes)) bytes
    front zero bytes = refl
    front (suc n) [] = refl
    front (suc n) (first ∷ rest) = ap (λ l. first ∷ l) (front n rest)

-- a token is as many bytes as it has from its place on
pub token_size : (bytes : List ℕ) (start : ℕ) → token_at bytes start ≡ take (length (token_at bytes start)) (drop start bytes)
token_size bytes start = taken_size (front_cut (drop start bytes)) (drop start bytes)

-- what is shorter than the byte tells is as long as it tells
known_size : (n len : ℕ) → len ≡ min n 255 → len < 255 → n ≡ len
known_size n len is short = omega (arith, is, short)

-- a token whose length is known is so many bytes from its place on
pub known_token : (bytes : List ℕ) (start len : ℕ) → len ≡ short_len (token_at bytes start) → 0 < len → len < 255
    → (start + len ≤ length bytes) × (take len (drop start bytes) ≡ token_at bytes start)
known_token bytes start len is some short =
    let size : length (token_at bytes start) ≡ len = known_size (length (token_at bytes start)) len is short in
    let part : token_at bytes start ≡ take len (drop start bytes) = token_size bytes start ∙ ap (λ n. take n (drop start bytes)) size in
    let long : len ≡ min len (length (drop start bytes)) = sym size ∙ ap length part ∙ length-take len (drop start bytes) in
    (omega (arith, long, length-drop start bytes, some), sym part)

-- the lengths that are kept of tokens are theirs, place by place
pub length_there : (bytes starts lens : List ℕ) (place start len : ℕ) → lens ≡ short_lens (texts bytes starts) → place < length starts
    → start ≡ get_or starts place start → len ≡ get_or lens place len → len ≡ short_len (token_at bytes start)
length_there bytes starts lens place start len are within at_start at_len =
    let as_many : length lens ≡ length starts = ap length are ∙ length-map (texts bytes starts) short_len ∙ length-map starts (token_at bytes) in
    let here : slice_get starts place ≡ Some start = slice_get-get_or starts place start within ∙ ap Some (sym at_start) in
    let there : slice_get (short_lens (texts bytes starts)) place ≡ Some (short_len (token_at bytes start))
    = slice_get-map short_len (texts bytes starts) place
    ∙ ap (option_map short_len) (slice_get-map (token_at bytes) starts place ∙ ap (option_map (token_at bytes)) here) in
    let same : Some len ≡ Some (short_len (token_at bytes start))
    = ap Some at_len ∙ sym (slice_get-get_or lens place len (omega (arith, as_many, within))) ∙ ap (λ l. slice_get l place) are ∙ there in
    cc

-- ---- the text of a token by its number

-- the place of a number that is less by one, where no number stands before 0
pub place_of_number : (number : ℕ) → 0 < number → number < 18446744073709551616 → (number + 18446744073709551615) % 18446744073709551616 ≡ number - 1
place_of_number number some fits = omega arith

-- a number that is not 0 is that of a place
number_there : (file : SpefText) (number : ℕ) → 0 < number → text_of file number ≡ slice_index_or file.texts (number - 1) []
number_there file number some =
    ap (λ b. if b then [] else slice_index_or file.texts (number - 1) []) (not_byte number 0 (λ none. omega (arith, none, some)))

pub text_there : (file : SpefText) (bytes starts : List ℕ) (number place start : ℕ) → file.texts ≡ texts bytes starts
    → 0 < number → place ≡ number - 1 → place < length starts → start ≡ get_or starts place start → token_at bytes start ≡ text_of file number
text_there file bytes starts number place start are some is within at =
    let here : slice_get (texts bytes starts) place ≡ Some (token_at bytes start)
    = slice_get-map (token_at bytes) starts place ∙ ap (option_map (token_at bytes)) (slice_get-get_or starts place start within ∙ ap Some (sym at)) in
    sym (number_there file number some
    ∙ ap (λ l. slice_index_or l (number - 1) []) are
    ∙ ap (λ k. slice_index_or (texts bytes starts) k []) (sym is)
    ∙ get_or_from_slice_get (texts bytes starts) place (token_at bytes start) [] here)

pub no_text_there : (file : SpefText) (bytes starts : List ℕ) (number place : ℕ) → file.texts ≡ texts bytes starts
    → (0 < number → place ≡ number - 1) → length starts ≤ place → text_of file number ≡ []
no_text_there file bytes starts zero place are is past = refl
no_text_there file bytes starts (suc before) place are is past =
    let number : ℕ = suc before in
    let some : 0 < number = omega arith in
    let size : length (texts bytes starts) ≡ length starts = length-map starts (token_at bytes) in
    number_there file number some
    ∙ ap (λ l. slice_index_or l (number - 1) []) are
    ∙ ap (λ k. slice_index_or (texts bytes starts) k []) (sym (is some))
    ∙ get_or_past (texts bytes starts) place [] (omega (arith, size, past))
