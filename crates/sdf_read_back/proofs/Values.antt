-- The numbers of a value are one word, which is no keyword and says the value.
use Rattle.std.proofs.Common.{◌≡◌, ℕ, suc, ◌+◌, ◌/◌, ◌^◌, ◌<◌, ◌≤◌, ◌⊎◌, inl, inr, Bool, true, false, cond, ◌&&◌, nat_le, nat_lt, nat_eq, ◌==◌, List, [], ◌∷◌, ◌++◌, length, map, Some, None, ℤ, pos, negsuc, unsigned_abs, decimal, refl, ap, ◌∙◌, arith}
use Rattle.std.specs.Char.{to_ascii_lowercase}
use Rattle.std.specs.List.{list_all}
use Rattle.std.specs.Str.{bytes_eq}
use Rattle.std.proofs.lemmas.Bool.{leb-true, lt-ltb}
use Rattle.delay_units.specs.Literal.{AreDigits}
use Rattle.delay_units.specs.Printing.{last_digits, fixed_text, femto_text}
use Rattle.delay_units.specs.declared.quantities.Femto.{Femto}
use Rattle.sdf_reader.specs.Keywords.{keywords, same_word, lookup, keyword_of}
use Rattle.sdf_reader.specs.Numbers.{member, IsValue, single, triple}
use Rattle.sdf_reader.specs.declared.timescales.Timescale.{Timescale}
use Rattle.sdf_reader.specs.declared.timescales.Count.TheVariants.{One}
use Rattle.sdf_reader.specs.declared.timescales.TimeUnit.TheVariants.{Picosecond}
use Rattle.sdf_reader.specs.declared.words.Keyword.{Keyword}
use Rattle.token_texts.specs.ByteLemmas.{not_byte}
use Rattle.sdf_writer.specs.Bounds.{AreWithin}
use Rattle.sdf_read_back.specs.Rows.{value_of}
use Rattle.sdf_read_back.proofs.Digits.{decimal_writes, last_are_digits}
use Rattle.sdf_read_back.proofs.Times.{printed_is_time}
use Rattle.sdf_read_back.proofs.TokenLists.{numbers}
use Rattle.sdf_read_back.proofs.Words.{both, GoesOn, both_go_on, nothing_goes_on, bare_goes_on, BeginsWord, begins_from, bare_from, IsWordText, word_and}
use Rattle.sdf_reader.proofs.Clashes.{never_true}

-- ---- words

digits_go_on : (ds : List ℕ) → AreDigits ds → GoesOn ds
digits_go_on [] are = nothing_goes_on
digits_go_on (d ∷ ds) are =
    let least = are.0 in
    let most = are.1 in
    let other : (d == 92) ≡ false = not_byte d 92 (λ e. omega (arith, e, most)) in
    both_go_on (d ∷ []) ds (bare_goes_on d (bare_from d least other) other) (digits_go_on ds are.2)

-- a byte that no keyword begins with
abbrev pub IsLow : List ℕ → Type 0
IsLow text = (first : ℕ) × (more : List ℕ) × (text ≡ first ∷ more) × (first < 65)

digits_are_word : (ds : List ℕ) → AreDigits ds → 0 < length ds → IsWordText ds × IsLow ds
digits_are_word [] are some = absurd (omega (arith, some))
digits_are_word (d ∷ ds) are some =
    let most = are.1 in
    (record { first = d; more = ds; splits = refl; begins = begins_from d are.0; goes_on = digits_go_on (d ∷ ds) are }, (d, ds, refl, omega (arith, most)))

low_and : (one other : List ℕ) → IsLow one → IsLow (one ++ other)
low_and one other low = (low.0, low.1 ++ other, ap (λ l. l ++ other) low.2, low.3)

fraction_goes_on : (n : ℕ) → GoesOn (46 ∷ last_digits 3 n)
fraction_goes_on n = both_go_on (46 ∷ []) (last_digits 3 n) (bare_goes_on 46 refl refl) (digits_go_on (last_digits 3 n) (last_are_digits 3 n))

fixed_is_word : (n : ℕ) → n ≤ 10 ^ 27 → IsWordText (fixed_text 3 n) × IsLow (fixed_text 3 n)
fixed_is_word n within =
    let writes = decimal_writes (n / 10 ^ 3) (omega (arith, within)) in
    let whole = digits_are_word (decimal (n / 10 ^ 3)) writes.are_digits writes.some in
    (word_and (decimal (n / 10 ^ 3)) (46 ∷ last_digits 3 n) whole.0 (fraction_goes_on n), low_and (decimal (n / 10 ^ 3)) (46 ∷ last_digits 3 n) whole.1)

minus_begins : BeginsWord 45
minus_begins = record { blank = refl; left = refl; right = refl; quote = refl; slash = refl }

printed_is_word : (time : Femto) → unsigned_abs time.0 ≤ 10 ^ 27 → IsWordText (femto_text time) × IsLow (femto_text time)
printed_is_word time within = by time.0 within
  where
    by : (z : ℤ) → unsigned_abs z ≤ 10 ^ 27 → IsWordText (femto_text (record { 0 = z })) × IsLow (femto_text (record { 0 = z }))
    by (pos n) within = fixed_is_word n within
    by (negsuc n) within =
        let goes = (fixed_is_word (suc n) within).0.goes_on in
        (record { first = 45; more = fixed_text 3 (suc n); splits = refl; begins = minus_begins; goes_on = both_go_on (45 ∷ []) (fixed_text 3 (suc n)) (bare_goes_on 45 refl refl) goes }, (45, fixed_text 3 (suc n), refl, omega arith))

-- ---- values

abbrev pub picoseconds : Timescale
picoseconds = record { count = One; unit = Picosecond }

-- one time, or three
pub data IsDelay : List Femto → Type 0 where
  one : {time : Femto} → unsigned_abs time.0 ≤ 10 ^ 27 → IsDelay (time ∷ [])
  three : {least typical largest : Femto} → unsigned_abs least.0 ≤ 10 ^ 27 → unsigned_abs typical.0 ≤ 10 ^ 27 → unsigned_abs largest.0 ≤ 10 ^ 27 → IsDelay (least ∷ typical ∷ largest ∷ [])

pub delay_of : (count : ℕ) → (count ≡ 1) ⊎ (count ≡ 3) → (delay : List Femto) → length delay ≡ count → AreWithin delay → IsDelay delay
delay_of count (inl is) [] long within = absurd (omega (arith, is, long))
delay_of count (inl is) (a ∷ []) long within = one within.0
delay_of count (inl is) (a ∷ b ∷ rest) long within = absurd (omega (arith, is, long))
delay_of count (inr is) [] long within = absurd (omega (arith, is, long))
delay_of count (inr is) (a ∷ []) long within = absurd (omega (arith, is, long))
delay_of count (inr is) (a ∷ b ∷ []) long within = absurd (omega (arith, is, long))
delay_of count (inr is) (a ∷ b ∷ c ∷ []) long within = three within.0 within.1.0 within.1.1.0
delay_of count (inr is) (a ∷ b ∷ c ∷ d ∷ rest) long within = absurd (omega (arith, is, long))

and_colon : (other : List ℕ) → GoesOn other → GoesOn (58 ∷ other)
and_colon other goes = both_go_on (58 ∷ []) other (bare_goes_on 58 refl refl) goes

pub numbers_are_word : (delay : List Femto) → IsDelay delay → IsWordText (numbers delay) × IsLow (numbers delay)
numbers_are_word delay (one {time} within) = printed_is_word time within
numbers_are_word delay (three {least} {typical} {largest} a b c) =
    let first = printed_is_word least a in
    let second = (printed_is_word typical b).0.goes_on in
    let third = (printed_is_word largest c).0.goes_on in
    let behind : GoesOn (58 ∷ (femto_text typical ++ 58 ∷ femto_text largest)) = and_colon (femto_text typical ++ 58 ∷ femto_text largest) (both_go_on (femto_text typical) (58 ∷ femto_text largest) second (and_colon (femto_text largest) third)) in
    (word_and (femto_text least) (58 ∷ (femto_text typical ++ 58 ∷ femto_text largest)) first.0 behind, low_and (femto_text least) (58 ∷ (femto_text typical ++ 58 ∷ femto_text largest)) first.1)

pub numbers_say : (delay : List Femto) → IsDelay delay → IsValue picoseconds (numbers delay) (value_of delay)
numbers_say delay (one {time} within) = single (printed_is_time time within)
numbers_say delay (three {least} {typical} {largest} a b c) = triple (record {
  min = member (printed_is_time least a);
  typ = member (printed_is_time typical b);
  max = member (printed_is_time largest c);
  some = refl;
})

-- ---- no keyword

-- the word begins with a letter
abbrev is_high : List ℕ → Bool
is_high [] = false
is_high (byte ∷ bytes) = nat_le 65 (to_ascii_lowercase byte)

lower_stays : (byte : ℕ) → byte < 65 → to_ascii_lowercase byte ≡ byte
lower_stays byte low = ap (λ t. cond t byte (cond (nat_lt byte 91) (byte + 32) byte)) (lt-ltb byte 65 low)

differs : (first byte : ℕ) → byte < 65 → nat_le 65 (to_ascii_lowercase first) ≡ true → nat_eq (to_ascii_lowercase first) (to_ascii_lowercase byte) ≡ false
differs first byte low high =
    let least = leb-true 65 (to_ascii_lowercase first) high in
    ap (nat_eq (to_ascii_lowercase first)) (lower_stays byte low) ∙ not_byte (to_ascii_lowercase first) byte (λ e. omega (arith, e, least, low))

not_same : (byte : ℕ) (known bytes : List ℕ) → byte < 65 → is_high known ≡ true → same_word known (byte ∷ bytes) ≡ false
unfolding same_word
not_same byte [] bytes low high = never_true high
not_same byte (first ∷ known) bytes low high = ap (λ t. t && bytes_eq (map to_ascii_lowercase known) (map to_ascii_lowercase bytes)) (differs first byte low high)

none_in : (table : List (List ℕ × Keyword)) (byte : ℕ) (bytes : List ℕ) → byte < 65 → list_all (λ (entry : List ℕ × Keyword). is_high entry.0) table ≡ true → lookup table (byte ∷ bytes) ≡ None
none_in [] byte bytes low all = refl
none_in (entry ∷ table) byte bytes low all =
    let parts = both (is_high entry.0) (list_all (λ (entry : List ℕ × Keyword). is_high entry.0) table) all in
    ap (λ t. cond t (Some entry.1) (lookup table (byte ∷ bytes))) (not_same byte entry.0 bytes low parts.0) ∙ none_in table byte bytes low parts.1

pub low_is_no_keyword : (text : List ℕ) → IsLow text → keyword_of text ≡ None
unfolding keyword_of
low_is_no_keyword text low = ap keyword_of low.2 ∙ none_in keywords low.0 low.1 low.3 refl
