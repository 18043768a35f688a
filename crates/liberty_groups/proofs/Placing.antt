-- Each byte leads the scan on: what stood at the front with the byte to come stands there with it scanned.
use Rattle.std.proofs.Common.{◌≡◌, ℕ, suc, ◌+◌, ◌-◌, ◌<◌, Bool, true, false, cond, not, ◌&&◌, ◌||◌, ◌==◌, List, [], ◌∷◌, ◌++◌, length, drop, get_or, Option, Some, None, option_map, position, refl, sym, ap, ◌∙◌, arith, nat_lt, lt-ltb, eqb-true}
use Rattle.std.specs.Prelude.{unwrap_or}
use Rattle.std.specs.List.{position_or_len}
use Rattle.std.proofs.lemmas.Grind.{common_steps}
use Rattle.std.proofs.lemmas.List.{drop_more}
use Rattle.edge_io.specs.Bytes.{quote, star, slash, begins_with}
use Rattle.token_texts.specs.Blanks.{is_line_end}
use Rattle.token_texts.specs.Comments.{pair_place}
use Rattle.token_texts.specs.Quoted.{takes, quote_end}
use Rattle.token_texts.specs.declared.quoted.Escape.TheVariants.{NextQuote}
use Rattle.token_texts.specs.declared.cuts.Cut.TheVariants.{Skip, Take}
use Rattle.liberty_groups.specs.Tokens.{begins_comment, goes_on, opened_behind, word_length, ends_gap}
use Rattle.liberty_groups.specs.Places.{word_to, line_to, block_to, text_to, gap_to, resumed, scanned, IsOpenWithin}
use Rattle.liberty_groups.specs.Scanning.{word_behind, behind}
use Rattle.liberty_groups.specs.declared.scan.Kind.TheVariants as kind
use Rattle.liberty_groups.specs.declared.places.Place.{Place}
use Rattle.liberty_groups.specs.declared.places.Place.TheVariants.{Word, SlashInWord, Slash, Quoted, LineComment, BlockComment, Backslash}
use Rattle.liberty_groups.specs.declared.places.Scanned.{Scanned}
use Rattle.liberty_groups.specs.declared.places.Scanned.TheVariants.{Ended, Bad, Begun}
use Rattle.liberty_groups.proofs.Runs.{word_step}

-- ---- the first byte of a class, one byte further on

shifted : (k l : ℕ) → cond (nat_lt (1 + k) (suc l)) (Some (1 + k)) None ≡ option_map (λ n. n + 1) (cond (nat_lt k l) (Some k) None)
shifted k l = by (nat_lt k l) refl
  where
    by : (t : Bool) → nat_lt k l ≡ t → cond (nat_lt (1 + k) (suc l)) (Some (1 + k)) None ≡ option_map (λ n. n + 1) (cond t (Some k) None)
    by true is = let later : nat_lt (1 + k) (suc l) ≡ true = grind (arith, common_steps) in
        let e : 1 + k ≡ k + 1 = omega arith in
        ap (λ t. cond t (Some (1 + k)) None) later ∙ ap Some e
    by false is = let later : nat_lt (1 + k) (suc l) ≡ false = grind (arith, common_steps) in ap (λ t. cond t (Some (1 + k)) None) later

module _ (test : ℕ → Bool) (b : ℕ) (rest : List ℕ) where
  found_at : Bool → Option ℕ
  found_at here =
      cond (nat_lt (cond (not here) (1 + position_or_len test rest) 0) (suc (length rest)))
      (Some (cond (not here) (1 + position_or_len test rest) 0)) None

  place_here : test b ≡ true → position test (b ∷ rest) ≡ Some 0
  unfolding found_at
  place_here is =
      let below : nat_lt 0 (suc (length rest)) ≡ true = lt-ltb 0 (suc (length rest)) (omega arith) in
      ap found_at is ∙ ap (λ t. cond t (Some 0) None) below

  place_behind : test b ≡ false → position test (b ∷ rest) ≡ option_map (λ n. n + 1) (position test rest)
  unfolding found_at
  place_behind is = ap found_at is ∙ shifted (position_or_len test rest) (length rest)

-- ---- a word

pub slash_goes : (opened : ℕ) (more : List ℕ) (c : Bool) → begins_comment slash more ≡ c → goes_on opened slash more ≡ not c
slash_goes opened more true is = rw is refl
slash_goes opened more false is = rw is refl

word_slash : (opened count : ℕ) (more : List ℕ) (c : Bool) → begins_comment slash more ≡ c
    → word_to count opened (slash ∷ more) ≡ cond c (Take (count + 1 - 1) kind.Word) (word_to (count + 1) opened more)
word_slash opened count more true is =
    let none : word_length opened (slash ∷ more) ≡ 0 =
    word_step opened slash more ∙ ap (λ t. cond t (word_length opened more + 1) 0) (slash_goes opened more true is) in
    let e : count + word_length opened (slash ∷ more) ≡ count + 1 - 1 = omega (arith, none) in
    ap (λ n. Take n kind.Word) e
word_slash opened count more false is =
    let one : word_length opened (slash ∷ more) ≡ word_length opened more + 1 =
    word_step opened slash more ∙ ap (λ t. cond t (word_length opened more + 1) 0) (slash_goes opened more false is) in
    let e : count + word_length opened (slash ∷ more) ≡ count + 1 + word_length opened more = omega (arith, one) in
    ap (λ n. Take n kind.Word) e

other_goes : (opened b : ℕ) (more : List ℕ) → (b == slash) ≡ false → goes_on opened b more ≡ goes_on opened b []
other_goes opened b more is = rw is refl

word_on : (opened count b : ℕ) (more : List ℕ) (slanted goes : Bool) → (b == slash) ≡ slanted → goes_on opened b [] ≡ goes
    → word_to count opened (b ∷ more) ≡ scanned
    (cond goes (cond slanted (Begun (SlashInWord opened)) (Begun (Word (opened_behind opened b)))) (Ended (Take count kind.Word))) (count + 1) more
word_on opened count b more true true p q =
    ap (λ x. word_to count opened (x ∷ more)) (eqb-true b slash p) ∙ word_slash opened count more (begins_comment slash more) refl
word_on opened count b more true false p q = absurd (let e : true ≡ false = sym (ap (λ x. goes_on opened x []) (eqb-true b slash p)) ∙ q in cc)
word_on opened count b more false true p q =
    let one : word_length opened (b ∷ more) ≡ word_length (opened_behind opened b) more + 1 =
    word_step opened b more ∙ ap (λ t. cond t (word_length (opened_behind opened b) more + 1) 0) (other_goes opened b more p ∙ q) in
    let e : count + word_length opened (b ∷ more) ≡ count + 1 + word_length (opened_behind opened b) more = omega (arith, one) in
    ap (λ n. Take n kind.Word) e
word_on opened count b more false false p q =
    let none : word_length opened (b ∷ more) ≡ 0 =
    word_step opened b more ∙ ap (λ t. cond t (word_length (opened_behind opened b) more + 1) 0) (other_goes opened b more p ∙ q) in
    let e : count + word_length opened (b ∷ more) ≡ count = omega (arith, none) in
    ap (λ n. Take n kind.Word) e

word_is : (opened count b : ℕ) (more : List ℕ) → word_to count opened (b ∷ more) ≡ scanned (word_behind opened count b) (count + 1) more
word_is opened count b more = word_on opened count b more (b == slash) (goes_on opened b []) refl refl

-- a slash in a word
slash_is : (opened count b : ℕ) (more : List ℕ) (line block : Bool) → (b == slash) ≡ line → (b == star) ≡ block
    → cond (block || line) (Take (count - 1) kind.Word) (word_to count opened (b ∷ more))
    ≡ scanned (cond (line || block) (Ended (Take (count - 1) kind.Word)) (word_behind opened count b)) (count + 1) more
slash_is opened count b more true true p q = refl
slash_is opened count b more true false p q = refl
slash_is opened count b more false true p q = refl
slash_is opened count b more false false p q = word_is opened count b more

-- ---- a comment that the end of its line ends

unwrapped : (o : Option ℕ) (l : ℕ) → unwrap_or (option_map (λ n. n + 1) o) (suc l) ≡ unwrap_or o l + 1
unwrapped None l = omega arith
unwrapped (Some p) l = refl

line_on : (count b : ℕ) (more : List ℕ) → is_line_end b ≡ false → line_to count (b ∷ more) ≡ line_to (count + 1) more
line_on count b more is =
    let one : unwrap_or (position is_line_end (b ∷ more)) (suc (length more)) ≡ unwrap_or (position is_line_end more) (length more) + 1 =
    ap (λ o. unwrap_or o (suc (length more))) (place_behind is_line_end b more is) ∙ unwrapped (position is_line_end more) (length more) in
    let e : count + unwrap_or (position is_line_end (b ∷ more)) (suc (length more))
    ≡ count + 1 + unwrap_or (position is_line_end more) (length more) = omega (arith, one) in
    ap Skip e

line_is : (count b : ℕ) (more : List ℕ) (ends : Bool) → is_line_end b ≡ ends
    → line_to count (b ∷ more) ≡ scanned (cond ends (Ended (Skip count)) (Begun LineComment)) (count + 1) more
line_is count b more true is =
    let e : count + 0 ≡ count = omega arith in
    ap (λ o. Skip (count + unwrap_or o (suc (length more)))) (place_here is_line_end b more is) ∙ ap Skip e
line_is count b more false is = line_on count b more is

-- ---- a comment that a star and a slash end

pair_step : (b : ℕ) (more : List ℕ) → pair_place star slash (b ∷ more)
    ≡ cond ((b == star) && begins_with slash more) (Some 0) (option_map (λ n. n + 1) (pair_place star slash more))
unfolding pair_place
pair_step b more = refl

block_on : (count b : ℕ) (more : List ℕ) (o : Option ℕ) → block_to count (b ∷ more) (option_map (λ n. n + 1) o) ≡ block_to (count + 1) more o
block_on count b more None = let e : count + suc (length more) ≡ count + 1 + length more = omega arith in ap (λ n. Take n kind.OpenNote) e
block_on count b more (Some p) = let e : count + (p + 1) + 2 ≡ count + 1 + p + 2 = omega arith in ap Skip e

unstarred : (count b : ℕ) (more : List ℕ) (starred : Bool) → (b == star) ≡ starred
    → block_to count (b ∷ more) (pair_place star slash (b ∷ more)) ≡ resumed (BlockComment starred) (count + 1) more
unstarred count b more true is =
    let e : count ≡ count + 1 - 1 = omega arith in
    ap (λ x. block_to count (x ∷ more) (pair_place star slash (x ∷ more))) (eqb-true b star is)
    ∙ ap (λ n. block_to n (star ∷ more) (pair_place star slash (star ∷ more))) e
unstarred count b more false is =
    ap (block_to count (b ∷ more))
    (pair_step b more ∙ ap (λ t. cond (t && begins_with slash more) (Some 0) (option_map (λ n. n + 1) (pair_place star slash more))) is)
    ∙ block_on count b more (pair_place star slash more)

block_is : (starred : Bool) (count b : ℕ) (more : List ℕ) (ends : Bool) → 0 < count → (b == slash) ≡ ends
    → resumed (BlockComment starred) count (b ∷ more)
    ≡ scanned (cond (ends && starred) (Ended (Skip (count + 1))) (Begun (BlockComment (b == star)))) (count + 1) more
block_is false count b more true some is = unstarred count b more (b == star) refl
block_is false count b more false some is = unstarred count b more (b == star) refl
block_is true count b more true some is =
    let e : count - 1 + 0 + 2 ≡ count + 1 = omega (arith, some) in
    ap (block_to (count - 1) (star ∷ b ∷ more))
    (pair_step star (b ∷ more) ∙ ap (λ t. cond t (Some 0) (option_map (λ n. n + 1) (pair_place star slash (b ∷ more)))) is) ∙ ap Skip e
block_is true count b more false some is =
    let e : count - 1 + 1 ≡ count = omega (arith, some) in
    ap (block_to (count - 1) (star ∷ b ∷ more))
    (pair_step star (b ∷ more) ∙ ap (λ t. cond t (Some 0) (option_map (λ n. n + 1) (pair_place star slash (b ∷ more)))) is)
    ∙ block_on (count - 1) star (b ∷ more) (pair_place star slash (b ∷ more))
    ∙ ap (λ n. block_to n (b ∷ more) (pair_place star slash (b ∷ more))) e
    ∙ unstarred count b more (b == star) refl

-- ---- a text

text_step : (taken : Bool) (b : ℕ) (more : List ℕ) → quote_end NextQuote taken (b ∷ more)
    ≡ cond ((b == quote) && not taken) (Some 0) (option_map (λ n. n + 1) (quote_end NextQuote (takes NextQuote b taken) more))
unfolding quote_end
text_step taken b more = refl

text_on : (count b : ℕ) (more : List ℕ) (o : Option ℕ) → text_to count (b ∷ more) (option_map (λ n. n + 1) o) ≡ text_to (count + 1) more o
text_on count b more None = let e : count + suc (length more) ≡ count + 1 + length more = omega arith in ap (λ n. Take n kind.OpenQuoted) e
text_on count b more (Some p) = let e : count + (p + 1) + 1 ≡ count + 1 + p + 1 = omega arith in ap (λ n. Take n kind.Quoted) e

text_is : (taken : Bool) (count b : ℕ) (more : List ℕ) (ends : Bool) → ((b == quote) && not taken) ≡ ends
    → text_to count (b ∷ more) (quote_end NextQuote taken (b ∷ more))
    ≡ scanned (cond ends (Ended (Take (count + 1) kind.Quoted)) (Begun (Quoted (takes NextQuote b taken)))) (count + 1) more
text_is taken count b more true is =
    let e : count + 0 + 1 ≡ count + 1 = omega arith in
    ap (text_to count (b ∷ more)) (text_step taken b more
    ∙ ap (λ t. cond t (Some 0) (option_map (λ n. n + 1) (quote_end NextQuote (takes NextQuote b taken) more))) is) ∙ ap (λ n. Take n kind.Quoted) e
text_is taken count b more false is =
    ap (text_to count (b ∷ more)) (text_step taken b more
    ∙ ap (λ t. cond t (Some 0) (option_map (λ n. n + 1) (quote_end NextQuote (takes NextQuote b taken) more))) is)
    ∙ text_on count b more (quote_end NextQuote (takes NextQuote b taken) more)

-- ---- behind a backslash

gap_on : (count b : ℕ) (more : List ℕ) (o : Option ℕ) → gap_to count (b ∷ more) (option_map (λ n. n + 1) o) ≡ gap_to (count + 1) more o
gap_on count b more None = let e : count + suc (length more) ≡ count + 1 + length more = omega arith in ap (λ n. Take n kind.Bad) e
gap_on count b more (Some p) =
    let next : p + 1 ≡ suc p = omega arith in
    let e : count + (p + 1) + 1 ≡ count + 1 + p + 1 = omega arith in
    let e' : count + suc (length more) ≡ count + 1 + length more = omega arith in
    ap (λ i. cond (is_line_end (get_or (b ∷ more) i 0)) (Skip (count + (p + 1) + 1)) (Take (count + suc (length more)) kind.Bad)) next
    ∙ ap (λ n. cond (is_line_end (get_or more p 0)) (Skip n) (Take (count + suc (length more)) kind.Bad)) e
    ∙ ap (λ n. cond (is_line_end (get_or more p 0)) (Skip (count + 1 + p + 1)) (Take n kind.Bad)) e'

gap_ends : (count b : ℕ) (more : List ℕ) (line : Bool) → is_line_end b ≡ line
    → cond line (Skip (count + 0 + 1)) (Take (count + suc (length more)) kind.Bad)
    ≡ scanned (cond line (Ended (Skip (count + 1))) Bad) (count + 1) more
gap_ends count b more true is = let e : count + 0 + 1 ≡ count + 1 = omega arith in ap Skip e
gap_ends count b more false is = let e : count + suc (length more) ≡ count + 1 + length more = omega arith in ap (λ n. Take n kind.Bad) e

gap_is : (count b : ℕ) (more : List ℕ) (ends : Bool) → ends_gap b ≡ ends
    → gap_to count (b ∷ more) (position ends_gap (b ∷ more))
    ≡ scanned (cond ends (cond (is_line_end b) (Ended (Skip (count + 1))) Bad) (Begun Backslash)) (count + 1) more
gap_is count b more true is =
    ap (gap_to count (b ∷ more)) (place_here ends_gap b more is) ∙ gap_ends count b more (is_line_end b) refl
gap_is count b more false is =
    ap (gap_to count (b ∷ more)) (place_behind ends_gap b more is) ∙ gap_on count b more (position ends_gap more)

-- ---- any place

slash_first : (count b : ℕ) (more : List ℕ) (line block : Bool) → (b == slash) ≡ line → (b == star) ≡ block
    → cond line (line_to count (b ∷ more)) (cond block (block_to (count + 1) more (pair_place star slash more)) (word_to count 0 (b ∷ more)))
    ≡ scanned (cond line (Begun LineComment) (cond block (Begun (BlockComment false)) (word_behind 0 count b))) (count + 1) more
slash_first count b more true block p q = line_on count b more (ap is_line_end (eqb-true b slash p))
slash_first count b more false true p q = refl
slash_first count b more false false p q = word_is 0 count b more

pub behind_is : (place : Place) (count b : ℕ) (more : List ℕ) → 0 < count
    → resumed place count (b ∷ more) ≡ scanned (behind place count b) (count + 1) more
behind_is (Word opened) count b more some = word_is opened count b more
behind_is (SlashInWord opened) count b more some = slash_is opened count b more (b == slash) (b == star) refl refl
behind_is Slash count b more some = slash_first count b more (b == slash) (b == star) refl refl
behind_is (Quoted taken) count b more some = text_is taken count b more ((b == quote) && not taken) refl
behind_is LineComment count b more some = line_is count b more (is_line_end b) refl
behind_is (BlockComment starred) count b more some = block_is starred count b more (b == slash) some refl
behind_is Backslash count b more some = gap_is count b more (ends_gap b) refl

-- ---- some bytes

-- what has ended, and what takes all that comes, does not change
pub ends_scan : (scan : Scanned) → ((place : Place) → scan ≡ Begun place → ⊥) → (count other : ℕ) (bytes more : List ℕ)
    → count + length bytes ≡ other + length more → scanned scan count bytes ≡ scanned scan other more
ends_scan (Ended cut) ends count other bytes more e = refl
ends_scan Bad ends count other bytes more e = ap (λ n. Take n kind.Bad) e
ends_scan (Begun place) ends count other bytes more e = absurd (ends place refl)

pub ends_within : (scan : Scanned) → ((place : Place) → scan ≡ Begun place → ⊥) → (count : ℕ) → IsOpenWithin count scan
ends_within (Ended cut) ends count = tt
ends_within Bad ends count = tt
ends_within (Begun place) ends count = absurd (ends place refl)

pub scan_step : (scan : Scanned) (count : ℕ) (bytes : List ℕ) (i : ℕ) (now : Scanned) (place : Place) (passed : ℕ) → now ≡ Begun place
    → i < length bytes → 0 < passed
    → ((more : List ℕ) → scanned scan count (bytes ++ more) ≡ scanned now passed (drop i bytes ++ more))
    → (more : List ℕ)
    → scanned scan count (bytes ++ more) ≡ scanned (behind place passed (get_or bytes i 0)) (passed + 1) (drop (i + 1) bytes ++ more)
scan_step scan count bytes i now place passed is lt some so_far more =
    so_far more ∙ ap (λ s. scanned s passed (drop i bytes ++ more)) is
    ∙ ap (λ l. resumed place passed (l ++ more)) (drop_more bytes i 0 lt)
    ∙ behind_is place passed (get_or bytes i 0) (drop (i + 1) bytes ++ more) some
