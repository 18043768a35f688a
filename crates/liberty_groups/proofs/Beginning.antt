-- What the first byte shows, what stands at the front where no byte comes, and that a cut which leaves bytes behind stays, whatever comes.
use Rattle.std.proofs.Common.{◌≡◌, ℕ, suc, ◌+◌, ◌-◌, ◌<◌, Bool, true, false, cond, ◌==◌, List, [], ◌∷◌, ◌++◌, length, drop, get_or, Option, Some, None, position, refl, sym, ap, ◌∙◌, arith, nat_lt, lt-ltb, eqb-true, append-nil}
use Rattle.std.specs.Prelude.{unwrap_or}
use Rattle.edge_io.specs.Bytes.{quote, star, slash, backslash, begins_with}
use Rattle.token_texts.specs.Blanks.{is_blank, is_line_end}
use Rattle.token_texts.specs.Comments.{pair_place, comment_to, comment_at, line_length}
use Rattle.token_texts.specs.Quoted.{quote_end, quoted_to}
use Rattle.token_texts.specs.declared.quoted.Escape.TheVariants.{NextQuote}
use Rattle.token_texts.specs.declared.cuts.Cut.TheVariants.{Skip, Take}
use Rattle.liberty_groups.specs.Tokens.{begins_comment, is_plain, mark_of, opened_behind, word_length, ends_gap, continued_to, backslash_cut, cut_at}
use Rattle.liberty_groups.specs.Places.{size_of, word_to, line_to, block_to, text_to, gap_to, resumed, scanned, whole, ended}
use Rattle.liberty_groups.specs.Scanning.{word_begun, begun, behind}
use Rattle.liberty_groups.specs.declared.scan.Kind.{Kind}
use Rattle.liberty_groups.specs.declared.scan.Kind.TheVariants as kind
use Rattle.liberty_groups.specs.declared.places.Place.{Place}
use Rattle.liberty_groups.specs.declared.places.Place.TheVariants.{Word, SlashInWord, Slash, Quoted, LineComment, BlockComment, Backslash}
use Rattle.liberty_groups.specs.declared.places.Scanned.{Scanned}
use Rattle.liberty_groups.specs.declared.places.Scanned.TheVariants.{Ended, Bad, Begun}
use Rattle.liberty_groups.proofs.Cutting.{cut_blank, cut_quote, cut_backslash, cut_other, cut_mark, cut_word}
use Rattle.liberty_groups.proofs.Runs.{word_step}
use Rattle.liberty_groups.proofs.Placing.{slash_goes, behind_is}

-- ---- the first byte

text_first : (more : List ℕ) (o : Option ℕ) → quoted_to kind.Quoted kind.OpenQuoted more o ≡ text_to 1 more o
text_first more None = let e : length more + 1 ≡ 1 + length more = omega arith in ap (λ n. Take n kind.OpenQuoted) e
text_first more (Some p) = let e : p + 2 ≡ 1 + p + 1 = omega arith in ap (λ n. Take n kind.Quoted) e

gap_line : (more : List ℕ) (p : ℕ) (line : Bool)
    → backslash_cut more (cond line (p + 1) 0) ≡ cond line (Skip (1 + p + 1)) (Take (1 + length more) kind.Bad)
gap_line more p true =
    let some : nat_lt 0 (p + 1) ≡ true = lt-ltb 0 (p + 1) (omega arith) in
    let e : p + 1 + 1 ≡ 1 + p + 1 = omega arith in
    ap (λ t. cond t (Skip (p + 1 + 1)) (Take (length more + 1) kind.Bad)) some ∙ ap Skip e
gap_line more p false = let e : length more + 1 ≡ 1 + length more = omega arith in ap (λ n. Take n kind.Bad) e

gap_first : (more : List ℕ) (o : Option ℕ) → backslash_cut more (continued_to more o) ≡ gap_to 1 more o
gap_first more None = let e : length more + 1 ≡ 1 + length more = omega arith in ap (λ n. Take n kind.Bad) e
gap_first more (Some p) = gap_line more p (is_line_end (get_or more p 0))

block_first : (inner : List ℕ) (o : Option ℕ) → comment_to kind.OpenNote inner o ≡ block_to 2 inner o
block_first inner None = let e : length inner + 2 ≡ 2 + length inner = omega arith in ap (λ n. Take n kind.OpenNote) e
block_first inner (Some p) = let e : p + 4 ≡ 2 + p + 2 = omega arith in ap Skip e

slash_first : (more : List ℕ) (line block : Bool) → begins_with slash more ≡ line → begins_with star more ≡ block
    → unwrap_or (cond line (Some (Skip (line_length more)))
    (cond block (Some (comment_to kind.OpenNote (drop 1 more) (pair_place star slash (drop 1 more)))) None))
    (Take (word_length 0 (slash ∷ more)) kind.Word)
    ≡ cond line (line_to 1 more) (cond block (block_to 2 (drop 1 more) (pair_place star slash (drop 1 more))) (word_to 1 0 more))
slash_first more true block p q =
    let e : line_length more ≡ 1 + unwrap_or (position is_line_end more) (length more) = omega arith in ap Skip e
slash_first more false true p q = block_first (drop 1 more) (pair_place star slash (drop 1 more))
slash_first more false false p q =
    let none : begins_comment slash more ≡ false = rw (p, q) refl in
    let one : word_length 0 (slash ∷ more) ≡ word_length 0 more + 1 =
    word_step 0 slash more ∙ ap (λ t. cond t (word_length 0 more + 1) 0) (slash_goes 0 more false none) in
    let e : word_length 0 (slash ∷ more) ≡ 1 + word_length 0 more = omega (arith, one) in
    ap (λ n. Take n kind.Word) e

plain_first : (first : ℕ) (more : List ℕ) (plain : Bool)
    → cond plain (Take (word_length (opened_behind 0 first) more + 1) kind.Word) (Take (length more + 1) kind.Bad)
    ≡ scanned (cond plain (Begun (Word (opened_behind 0 first))) Bad) 1 more
plain_first first more true =
    let e : word_length (opened_behind 0 first) more + 1 ≡ 1 + word_length (opened_behind 0 first) more = omega arith in
    ap (λ n. Take n kind.Word) e
plain_first first more false = let e : length more + 1 ≡ 1 + length more = omega arith in ap (λ n. Take n kind.Bad) e

module _ (first : ℕ) (more : List ℕ) where
  other_first : (mark : Option Kind) → is_blank first ≡ false → (first == quote) ≡ false → (first == backslash) ≡ false
      → (first == slash) ≡ false → mark_of first ≡ mark → cut_at first more ≡ scanned (word_begun first mark) 1 more
  other_first (Some k) p q r s is =
      cut_mark first more k p q r
      (ap (λ t. cond t (cond (begins_with slash more) (Some (Skip (line_length more)))
      (cond (begins_with star more) (Some (comment_to kind.OpenNote (drop 1 more) (pair_place star slash (drop 1 more)))) None)) None) s) is
  other_first None p q r s is =
      cut_word first more p q r
      (ap (λ t. cond t (cond (begins_with slash more) (Some (Skip (line_length more)))
      (cond (begins_with star more) (Some (comment_to kind.OpenNote (drop 1 more) (pair_place star slash (drop 1 more)))) None)) None) s) is
      ∙ plain_first first more (is_plain first)

  by_first : (blank text gap slanted : Bool) → is_blank first ≡ blank → (first == quote) ≡ text → (first == backslash) ≡ gap
      → (first == slash) ≡ slanted
      → cut_at first more ≡ scanned (cond blank (Ended (Skip 1)) (cond text (Begun (Quoted false)) (cond gap (Begun Backslash)
      (cond slanted (Begun Slash) (word_begun first (mark_of first)))))) 1 more
  by_first true text gap slanted p q r s = cut_blank first more p
  by_first false true gap slanted p q r s =
      ap (λ b. cut_at b more) (eqb-true first quote q) ∙ cut_quote more ∙ text_first more (quote_end NextQuote false more)
  by_first false false true slanted p q r s =
      ap (λ b. cut_at b more) (eqb-true first backslash r) ∙ cut_backslash more ∙ gap_first more (position ends_gap more)
  by_first false false false true p q r s =
      ap (λ b. cut_at b more) (eqb-true first slash s) ∙ cut_other slash more (comment_at kind.OpenNote slash more) refl refl refl refl
      ∙ slash_first more (begins_with slash more) (begins_with star more) refl refl
  by_first false false false false p q r s = other_first (mark_of first) p q r s refl

  pub begun_is : cut_at first more ≡ scanned (begun first) 1 more
  begun_is = by_first (is_blank first) (first == quote) (first == backslash) (first == slash) refl refl refl refl

-- ---- nothing comes

no_word : (opened : ℕ) → word_length opened [] ≡ 0
unfolding word_length
no_word opened = refl

no_quote : (taken : Bool) → quote_end NextQuote taken [] ≡ None
unfolding quote_end
no_quote taken = refl

no_pair : pair_place star slash [] ≡ None
unfolding pair_place
no_pair = refl

star_alone : pair_place star slash (star ∷ []) ≡ None
unfolding pair_place
star_alone = refl

pub ends_is : (place : Place) (count : ℕ) → 0 < count → resumed place count [] ≡ whole count (ended place)
ends_is (Word opened) count some =
    let none = no_word opened in let e : count + word_length opened [] ≡ count = omega (arith, none) in ap (λ n. Take n kind.Word) e
ends_is (SlashInWord opened) count some =
    let none = no_word opened in let e : count + word_length opened [] ≡ count = omega (arith, none) in ap (λ n. Take n kind.Word) e
ends_is Slash count some =
    let none = no_word 0 in let e : count + word_length 0 [] ≡ count = omega (arith, none) in ap (λ n. Take n kind.Word) e
ends_is (Quoted taken) count some =
    let e : count + 0 ≡ count = omega arith in ap (text_to count []) (no_quote taken) ∙ ap (λ n. Take n kind.OpenQuoted) e
ends_is LineComment count some = let e : count + 0 ≡ count = omega arith in ap Skip e
ends_is (BlockComment false) count some =
    let e : count + 0 ≡ count = omega arith in ap (block_to count []) no_pair ∙ ap (λ n. Take n kind.OpenNote) e
ends_is (BlockComment true) count some =
    let e : count - 1 + 1 ≡ count = omega (arith, some) in
    ap (block_to (count - 1) (star ∷ [])) star_alone ∙ ap (λ n. Take n kind.OpenNote) e
ends_is Backslash count some = let e : count + 0 ≡ count = omega arith in ap (λ n. Take n kind.Bad) e

size_is : (count : ℕ) (o : Option Kind) → size_of (whole count o) ≡ count
size_is count None = refl
size_is count (Some k) = refl

-- ---- a cut that leaves bytes behind

on_byte : Scanned → ℕ → ℕ → Scanned
on_byte (Ended cut) count b = Ended cut
on_byte Bad count b = Bad
on_byte (Begun place) count b = behind place count b

run : List ℕ → ℕ → Scanned → Scanned
run [] count scan = scan
run (b ∷ bytes) count scan = run bytes (count + 1) (on_byte scan count b)

on_byte_is : (scan : Scanned) (count b : ℕ) (more : List ℕ) → 0 < count
    → scanned scan count (b ∷ more) ≡ scanned (on_byte scan count b) (count + 1) more
unfolding on_byte
on_byte_is (Ended cut) count b more some = refl
on_byte_is Bad count b more some =
    let e : count + suc (length more) ≡ count + 1 + length more = omega arith in ap (λ n. Take n kind.Bad) e
on_byte_is (Begun place) count b more some = behind_is place count b more some

run_is : (bytes : List ℕ) (count : ℕ) (scan : Scanned) (more : List ℕ) → 0 < count
    → scanned scan count (bytes ++ more) ≡ scanned (run bytes count scan) (count + length bytes) more
unfolding run
run_is [] count scan more some = let e : count ≡ count + 0 = omega arith in ap (λ n. scanned scan n more) e
run_is (b ∷ bytes) count scan more some =
    let e : count + 1 + length bytes ≡ count + suc (length bytes) = omega arith in
    on_byte_is scan count b (bytes ++ more) some ∙ run_is bytes (count + 1) (on_byte scan count b) more (omega arith)
    ∙ ap (λ n. scanned (run bytes (count + 1) (on_byte scan count b)) n more) e

module _ (first : ℕ) (rest : List ℕ) where
  at_last : (more : List ℕ) → cut_at first (rest ++ more) ≡ scanned (run rest 1 (begun first)) (1 + length rest) more
  at_last more = begun_is first (rest ++ more) ∙ run_is rest 1 (begun first) more (omega arith)

  no_more : cut_at first rest ≡ scanned (run rest 1 (begun first)) (1 + length rest) []
  no_more = ap (cut_at first) (sym (append-nil rest)) ∙ at_last []

  stays_by : (scan : Scanned) → run rest 1 (begun first) ≡ scan → size_of (cut_at first rest) < length rest + 1 → (more : List ℕ)
      → cut_at first (rest ++ more) ≡ cut_at first rest
  stays_by (Ended cut) is less more =
      at_last more ∙ ap (λ s. scanned s (1 + length rest) more) is ∙ sym (no_more ∙ ap (λ s. scanned s (1 + length rest) []) is)
  stays_by Bad is less more =
      let all : size_of (cut_at first rest) ≡ 1 + length rest + 0 = ap size_of (no_more ∙ ap (λ s. scanned s (1 + length rest) []) is) in
      absurd (omega (arith, all, less))
  stays_by (Begun place) is less more =
      let all : size_of (cut_at first rest) ≡ 1 + length rest =
      ap size_of (no_more ∙ ap (λ s. scanned s (1 + length rest) []) is ∙ ends_is place (1 + length rest) (omega arith))
      ∙ size_is (1 + length rest) (ended place) in
      absurd (omega (arith, all, less))

  -- what leaves bytes behind does not change with those that come behind them
  pub stays : size_of (cut_at first rest) < length rest + 1 → (more : List ℕ) → cut_at first (rest ++ more) ≡ cut_at first rest
  stays = stays_by (run rest 1 (begun first)) refl
