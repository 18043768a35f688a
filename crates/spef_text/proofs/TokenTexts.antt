-- What stands at the front of a token's text alone is that token.
use Rattle.std.proofs.Common.{◌≡◌, ℕ, zero, suc, ◌+◌, Bool, true, false, cond, ◌&&◌, ◌==◌, List, [], ◌∷◌, length, take, drop, get_or, Option, Some, None, position, sym, refl, ap, ◌∙◌, subst, arith, nat_lt, lt-ltb, length-take, inl, inr}
use Rattle.std.specs.List.{position_or_len}
use Rattle.std.proofs.lemmas.List.{get_or-take, take_all, drop_all}
use Rattle.std.proofs.lemmas.List.Sums.{position_or_len_is}
use Rattle.std.proofs.lemmas.List.Quantifiers.{position-Some}
use Rattle.edge_io.specs.Bytes.{star, slash, begins_with}
use Rattle.token_texts.specs.Blanks.{is_blank}
use Rattle.token_texts.specs.Comments.{line_length, pair_place, comment_to, comment_cut}
use Rattle.token_texts.specs.RunLemmas.{escaped_within, escaped_whole}
use Rattle.spef_text.specs.Tokens.{is_quote, is_backslash, ends_text, is_nothing, is_solid, text_cut, run_length, cut_at, IsToken, is_broken, is_broken_cut, texts_of, AreTokens}
use Rattle.spef_text.specs.TokenTexts.{StandAlone}
use Rattle.token_texts.specs.Cuts.{Part, AreParts, no_part, and_gap, and_token}
use Rattle.token_texts.specs.declared.cuts.Cut.{Cut}
use Rattle.token_texts.specs.declared.cuts.Cut.TheVariants.{Skip, Take}
use Rattle.spef_text.specs.declared.scan.Kind.{Kind}
use Rattle.spef_text.specs.declared.scan.Kind.TheVariants.{Whole, Broken}
use Rattle.spef_text.specs.Within.{run_taking, run_from}

text_whole : (rest : List ℕ) (place : ℕ) → position ends_text rest ≡ Some place → position ends_text (take (place + 1) rest) ≡ Some place
text_whole rest place e =
    let found = position-Some ends_text rest place 0 e in
    let lt = found.0 in
    let size : length (take (place + 1) rest) ≡ place + 1 = omega (arith, length-take (place + 1) rest) in
    let at : position_or_len ends_text (take (place + 1) rest) ≡ place =
    position_or_len_is ends_text (take (place + 1) rest) place 0 (omega arith) (λ k below. ap ends_text (get_or-take (place + 1) rest k 0 (omega arith)) ∙ found.2 k below) (λ inside. ap ends_text (get_or-take (place + 1) rest place 0 (omega arith)) ∙ found.1) in
    let inside : nat_lt (position_or_len ends_text (take (place + 1) rest)) (length (take (place + 1) rest)) ≡ true = lt-ltb _ _ (omega arith) in
    ap (λ b. cond b (Some (position_or_len ends_text (take (place + 1) rest))) None) inside ∙ ap (λ i. Some i) at

head_same : (byte : ℕ) (t : Bool) (rest : List ℕ) (k : ℕ) → t && begins_with byte rest ≡ false → t && begins_with byte (take k rest) ≡ false
head_same byte false rest k h = refl
head_same byte true rest zero h = refl
head_same byte true [] (suc k) h = refl
head_same byte true (x ∷ xs) (suc k) h = h

last_same : (first : ℕ) (rest : List ℕ) (k : ℕ) (t : Bool) → is_backslash first ≡ t → t && is_nothing rest ≡ false → run_length (first ∷ rest) ≡ suc k → t && is_nothing (take k rest) ≡ false
last_same first rest k false is h size = refl
last_same first [] k true is h size = absurd (cc)
last_same first (c ∷ rest) zero true is h size = let two = run_taking first c rest is in absurd (omega arith)
last_same first (c ∷ rest) (suc k) true is h size = refl

-- the cut of a token's own text, where it is a run
run_alone : (first : ℕ) (rest : List ℕ) (k : ℕ) → is_blank first ≡ false → is_quote first ≡ false → first == slash && begins_with slash rest ≡ false → first == slash && begins_with star rest ≡ false → is_backslash first && is_nothing rest ≡ false → run_length (first ∷ rest) ≡ suc k
    → cut_at first (take k rest) ≡ Take (length (first ∷ take k rest)) Whole
unfolding cut_at
run_alone first rest k blank quote line comment last size =
    let line_too = head_same slash (first == slash) rest k line in
    let comment_too = head_same star (first == slash) rest k comment in
    let last_too = last_same first rest k (is_backslash first) refl last size in
    let all = escaped_within is_solid (first ∷ rest) in
    let long : length (first ∷ take k rest) ≡ suc k = omega (arith, length-take k rest) in
    let same : run_length (first ∷ take k rest) ≡ suc k = ap (λ m. run_length (take m (first ∷ rest))) (sym size) ∙ escaped_whole is_solid (first ∷ rest) ∙ size in
    simp (blank, quote, line_too, comment_too, last_too) (ap (λ n. Take n Whole) (same ∙ sym long))

text_alone : (first : ℕ) (rest : List ℕ) (place : ℕ) → is_blank first ≡ false → is_quote first ≡ true → position ends_text rest ≡ Some place → is_quote (get_or rest place 0) ≡ true
    → cut_at first (take (place + 1) rest) ≡ Take (length (first ∷ take (place + 1) rest)) Whole
unfolding cut_at
text_alone first rest place blank quote found closes =
    let lt = (position-Some ends_text rest place 0 found).0 in
    let long : place + 2 ≡ length (first ∷ take (place + 1) rest) = omega (arith, length-take (place + 1) rest) in
    let there : is_quote (get_or (take (place + 1) rest) place 0) ≡ true = ap is_quote (get_or-take (place + 1) rest place 0 (omega arith)) ∙ closes in
    simp (blank, quote) (ap (text_cut (take (place + 1) rest)) (text_whole rest place found) ∙ ap (λ b. cond b (Take (place + 2) Whole) (Take (length (take (place + 1) rest) + 1) Broken)) there ∙ ap (λ n. Take n Whole) long)

text_token : (first : ℕ) (rest : List ℕ) (n : ℕ) (end : Option ℕ) → is_blank first ≡ false → is_quote first ≡ true
    → position ends_text rest ≡ end → text_cut rest end ≡ Take n Whole → IsToken (take n (first ∷ rest))
text_token first rest n None blank quote found h = absurd (cc)
text_token first rest n (Some place) blank quote found h = by (is_quote (get_or rest place 0)) refl h
  where
    by : (b : Bool) → is_quote (get_or rest place 0) ≡ b → cond b (Take (place + 2) Whole) (Take (length rest + 1) Broken) ≡ Take n Whole
        → IsToken (take n (first ∷ rest))
    by true closes e =
        let size : n ≡ suc (place + 1) = (let same : place + 2 ≡ n = cc in omega arith) in
        subst (λ (m : ℕ). IsToken (take m (first ∷ rest))) (sym size) (text_alone first rest place blank quote found closes)
    by false closes e = absurd (cc)

no_comment_token : (inner : List ℕ) (end : Option ℕ) (n : ℕ) → comment_to Broken inner end ≡ Take n Whole → ⊥
no_comment_token inner None n h = cc
no_comment_token inner (Some place) n h = cc

run_token : (first : ℕ) (rest : List ℕ) (n : ℕ) → is_blank first ≡ false → is_quote first ≡ false → first == slash && begins_with slash rest ≡ false → first == slash && begins_with star rest ≡ false → is_backslash first && is_nothing rest ≡ false → run_length (first ∷ rest) ≡ n
    → IsToken (take n (first ∷ rest))
run_token first rest zero blank quote line comment last size = let some = run_from first rest blank last in absurd (omega arith)
run_token first rest (suc k) blank quote line comment last size = run_alone first rest k blank quote line comment last size

-- what stands at the front, by the tests of it
abbrev by_tests : ℕ → List ℕ → (blank quote line comment last : Bool) → Cut Kind
by_tests first rest blank quote line comment last =
    cond blank (Skip 1) (cond quote (text_cut rest (position ends_text rest)) (cond line (Skip (line_length rest))
    (cond comment (comment_cut slash Broken (drop 1 rest))
    (cond last (Take (length rest + 1) Broken) (Take (run_length (first ∷ rest)) Whole)))))

token_text : (first : ℕ) (rest : List ℕ) (n : ℕ) → cut_at first rest ≡ Take n Whole → IsToken (take n (first ∷ rest))
unfolding cut_at
token_text first rest n cut =
    by (is_blank first) refl (is_quote first) refl (first == slash && begins_with slash rest) refl (first == slash && begins_with star rest) refl (is_backslash first && is_nothing rest) refl cut
  where
    by : (blank : Bool) → is_blank first ≡ blank → (quote : Bool) → is_quote first ≡ quote → (line : Bool) → first == slash && begins_with slash rest ≡ line → (comment : Bool) → first == slash && begins_with star rest ≡ comment → (last : Bool) → is_backslash first && is_nothing rest ≡ last
        → by_tests first rest blank quote line comment last ≡ Take n Whole
        → IsToken (take n (first ∷ rest))
    by true b quote q line l comment m last z h = absurd (cc)
    by false b true q line l comment m last z h = text_token first rest n (position ends_text rest) b q refl h
    by false b false q true l comment m last z h = absurd (cc)
    by false b false q false l true m last z h = absurd (no_comment_token (drop 1 rest) (pair_place star slash (drop 1 rest)) n h)
    by false b false q false l false m true z h = absurd (cc)
    by false b false q false l false m false z h = run_token first rest n b q l m z (let same : run_length (first ∷ rest) ≡ n = cc in same)

-- ---- a broken token takes all

open_text : (rest : List ℕ) (end : Option ℕ) (n : ℕ) → text_cut rest end ≡ Take n Broken → n ≡ length rest + 1
open_text rest None n h = let same : length rest + 1 ≡ n = cc in sym same
open_text rest (Some place) n h = by (is_quote (get_or rest place 0)) h
  where
    by : (b : Bool) → cond b (Take (place + 2) Whole) (Take (length rest + 1) Broken) ≡ Take n Broken → n ≡ length rest + 1
    by true e = absurd (cc)
    by false e = let same : length rest + 1 ≡ n = cc in sym same

open_comment : (rest : List ℕ) (end : Option ℕ) (n : ℕ) → begins_with star rest ≡ true → comment_to Broken (drop 1 rest) end ≡ Take n Broken
    → n ≡ length rest + 1
open_comment [] end n star h = absurd (cc)
open_comment (b ∷ rest) None n star h = let same : length rest + 2 ≡ n = cc in omega arith
open_comment (b ∷ rest) (Some place) n star h = absurd (cc)

second : (s t : Bool) → s && t ≡ true → t ≡ true
second true t h = h
second false t h = absurd (cc)

broken_all : (first : ℕ) (rest : List ℕ) (n : ℕ) → cut_at first rest ≡ Take n Broken → n ≡ length rest + 1
unfolding cut_at
broken_all first rest n cut =
    by (is_blank first) (is_quote first) (first == slash && begins_with slash rest) (first == slash && begins_with star rest) refl
    (is_backslash first && is_nothing rest) cut
  where
    by : (blank quote line comment : Bool) → first == slash && begins_with star rest ≡ comment → (last : Bool)
        → by_tests first rest blank quote line comment last ≡ Take n Broken → n ≡ length rest + 1
    by true quote line comment m last h = absurd (cc)
    by false true line comment m last h = open_text rest (position ends_text rest) n h
    by false false true comment m last h = absurd (cc)
    by false false false true m last h = open_comment rest (pair_place star slash (drop 1 rest)) n (second (first == slash) _ m) h
    by false false false false m true h = let same : length rest + 1 ≡ n = cc in sym same
    by false false false false m false h = absurd (cc)

is_broken_text : (first : ℕ) (rest : List ℕ) (n : ℕ) → cut_at first rest ≡ Take n Broken → is_broken (take n (first ∷ rest)) ≡ true
unfolding is_broken
is_broken_text first rest n cut =
    let all : take n (first ∷ rest) ≡ first ∷ rest = take_all n (first ∷ rest) (let size = broken_all first rest n cut in omega arith) in
    ap is_broken all ∙ ap is_broken_cut cut

-- ---- the tokens of bytes

no_more : {parts : List (Part Kind)} → AreParts cut_at [] parts → texts_of parts ≡ []
no_more no_part = refl

joined : (text : List ℕ) (rest : List (List ℕ)) → IsToken text → StandAlone rest → StandAlone (text ∷ rest)
joined text [] is all = inl is
joined text (next ∷ rest) is all = (is, all)

parts_alone : {bytes : List ℕ} {parts : List (Part Kind)} → AreParts cut_at bytes parts → StandAlone (texts_of parts)
parts_alone no_part = tt
parts_alone (and_gap n cut are) = parts_alone are
parts_alone (and_token {first = f} {rest = r} n Whole cut are) =
    joined (take n (f ∷ r)) _ (token_text f r n cut) (parts_alone are)
parts_alone (and_token {first = f} {rest = r} {parts = parts} n Broken cut are) =
    let left : drop n (f ∷ r) ≡ [] = drop_all n (f ∷ r) (let size = broken_all f r n cut in omega arith) in
    let none : texts_of parts ≡ [] = no_more (subst (λ (l : List ℕ). AreParts cut_at l parts) left are) in
    subst (λ (l : List (List ℕ)). StandAlone (take n (f ∷ r) ∷ l)) (sym none) (inr (is_broken_text f r n cut))

pub stand_alone : {bytes : List ℕ} {texts : List (List ℕ)} → AreTokens bytes texts → StandAlone texts
stand_alone are = subst StandAlone (sym are.are) (parts_alone are.parted)
