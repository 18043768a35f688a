-- Words that are compared some bytes at a time.
use Rattle.std.proofs.Common.{◌≡◌, ℕ, ◌+◌, ◌-◌, ◌<◌, ◌≤◌, ◌^◌, ◌==◌, Bool, true, false, List, ◌++◌, length, get_or, take, drop, Decides, bytes_eq, w32, w64, eqb-true, eq-eqb, true≢false, refl, sym, ap, ◌∙◌, arith}
use Rattle.std.proofs.Math.Seq.{take-add}
use Rattle.std.proofs.lemmas.Bool.Decides.{same_from_decides}
use Rattle.std.proofs.lemmas.List.{take-append-drop, drop-drop, length-drop}
use Rattle.std.proofs.lemmas.Nat.{le_bytes_4, le_bytes_8}
use Rattle.std.proofs.lemmas.Slice.Eq.{bytes_eq-Decides}
use Rattle.std.specs.Int.{from_le_bytes, to_le_bytes}

-- two tests of one fact
pub same_tests : (test : Bool) (one other : List ℕ) → (test ≡ true → one ≡ other) → (one ≡ other → test ≡ true) → test ≡ bytes_eq one other
same_tests test one other if only = same_from_decides test (bytes_eq one other) (if, only) (bytes_eq-Decides one other)

-- ---- one number of all bytes

pub same_number_4 : (one other : List ℕ) (m n : ℕ) → length one ≡ 4 → length other ≡ 4 → ((i : ℕ) → get_or one i 0 < 256) → ((i : ℕ) → get_or other i 0 < 256)
    → m ≡ from_le_bytes w32 one → n ≡ from_le_bytes w32 other → (m == n) ≡ bytes_eq one other
same_number_4 one other m n long wide small few first second =
    same_tests (m == n) one other
    (λ t. sym (le_bytes_4 one m long small first) ∙ ap (to_le_bytes w32) (eqb-true m n t) ∙ le_bytes_4 other n wide few second)
    (λ e. eq-eqb m n (first ∙ ap (from_le_bytes w32) e ∙ sym second))

pub same_number_8 : (one other : List ℕ) (m n : ℕ) → length one ≡ 8 → length other ≡ 8 → ((i : ℕ) → get_or one i 0 < 256) → ((i : ℕ) → get_or other i 0 < 256)
    → m ≡ from_le_bytes w64 one → n ≡ from_le_bytes w64 other → (m == n) ≡ bytes_eq one other
same_number_8 one other m n long wide small few first second =
    same_tests (m == n) one other
    (λ t. sym (le_bytes_8 one m long small first) ∙ ap (to_le_bytes w64) (eqb-true m n t) ∙ le_bytes_8 other n wide few second)
    (λ e. eq-eqb m n (first ∙ ap (from_le_bytes w64) e ∙ sym second))

-- ---- a front and an end

-- behind a front that meets the end stands a part of the end
pub end_part : (count some : ℕ) (word : List ℕ) → length word ≤ count + some → count ≤ length word → drop count word ≡ drop (count - (length word - some)) (drop (length word - some) word)
end_part count some word meets within =
    let there : (length word - some) + (count - (length word - some)) ≡ count = omega (arith, meets, within) in
    ap (λ n. drop n word) (sym there) ∙ sym (drop-drop (count - (length word - some)) (length word - some) word)

-- words that are as long and have one end have one part of it
pub same_end : (count some : ℕ) (one other : List ℕ) → length one ≡ length other → length one ≤ count + some → count ≤ length one
    → drop (length one - some) one ≡ drop (length other - some) other → drop count one ≡ drop count other
same_end count some one other long meets within ends =
    end_part count some one meets within
    ∙ ap (λ n. drop (count - (n - some)) (drop (length one - some) one)) long
    ∙ ap (drop (count - (length other - some))) ends
    ∙ sym (end_part count some other (omega (arith, meets, long)) (omega (arith, within, long)))

pub same_word : (count : ℕ) (one other : List ℕ) → take count one ≡ take count other → drop count one ≡ drop count other → one ≡ other
same_word count one other fronts ends =
    sym (take-append-drop count one) ∙ ap (λ l. l ++ drop count one) fronts ∙ ap (λ l. take count other ++ l) ends ∙ take-append-drop count other

-- ---- part by part

-- so many bytes at the front are equal, and these are left
pub record AlikeSoFar (one other rest twin : List ℕ) : Type 0 where
  pub count : ℕ
  pub within : count ≤ length one
  pub fronts : take count one ≡ take count other
  pub rest_is : rest ≡ drop count one
  pub twin_is : twin ≡ drop count other

pub alike_begins : (one other : List ℕ) → AlikeSoFar one other one other
alike_begins one other = record { count = 0; within = omega arith; fronts = refl; rest_is = refl; twin_is = refl }

pub alike_more : (one other rest twin : List ℕ) → 8 < length rest → AlikeSoFar one other rest twin → take 8 rest ≡ take 8 twin → AlikeSoFar one other (drop 8 rest) (drop 8 twin)
alike_more one other rest twin many h more =
    let left = ap length h.rest_is ∙ length-drop h.count one in
    record {
      count = h.count + 8;
      within = omega (arith, left, many, h.within);
      fronts = take-add h.count 8 one ∙ ap (λ l. l ++ take 8 (drop h.count one)) h.fronts
          ∙ ap (λ l. take h.count other ++ l) (ap (take 8) (sym h.rest_is) ∙ more ∙ ap (take 8) h.twin_is) ∙ sym (take-add h.count 8 other);
      rest_is = ap (drop 8) h.rest_is ∙ drop-drop 8 h.count one;
      twin_is = ap (drop 8) h.twin_is ∙ drop-drop 8 h.count other;
    }

-- both are left as long
pub twins : (one other rest twin : List ℕ) → length one ≡ length other → AlikeSoFar one other rest twin → length rest ≡ length twin
twins one other rest twin long h =
    let left = ap length h.rest_is ∙ length-drop h.count one in
    let right = ap length h.twin_is ∙ length-drop h.count other in
    omega (arith, left, right, long)

pub alike_all : (one other rest twin : List ℕ) → length one ≡ length other → drop (length one - 8) one ≡ drop (length other - 8) other → AlikeSoFar one other rest twin → length rest ≤ 8
    → bytes_eq one other ≡ true
alike_all one other rest twin long ends h few =
    let left = ap length h.rest_is ∙ length-drop h.count one in
    (bytes_eq-Decides one other).1 (same_word h.count one other h.fronts (same_end h.count 8 one other long (omega (arith, left, few)) h.within ends))

pub unlike_there : (one other rest twin : List ℕ) → AlikeSoFar one other rest twin → bytes_eq (take 8 rest) (take 8 twin) ≡ false → bytes_eq one other ≡ false
unlike_there one other rest twin h differ = by (bytes_eq one other) refl
  where
    by : (b : Bool) → bytes_eq one other ≡ b → b ≡ false
    by false e = refl
    by true e =
        let same = (bytes_eq-Decides one other).0 e in
        let fronts = ap (take 8) (h.rest_is ∙ ap (drop h.count) same ∙ sym h.twin_is) in
        absurd (true≢false (sym ((bytes_eq-Decides (take 8 rest) (take 8 twin)).1 fronts) ∙ differ))

-- ---- the ends first

-- where the ends differ the words do
pub ends_tell : (some : ℕ) (one other : List ℕ) → bytes_eq (drop (length one - some) one) (drop (length other - some) other) ≡ false → bytes_eq one other ≡ false
ends_tell some one other differ = by (bytes_eq one other) refl
  where
    by : (b : Bool) → bytes_eq one other ≡ b → b ≡ false
    by false e = refl
    by true e =
        let same = ap (λ (l : List ℕ). drop (length l - some) l) ((bytes_eq-Decides one other).0 e) in
        absurd (true≢false (sym ((bytes_eq-Decides (drop (length one - some) one) (drop (length other - some) other)).1 same) ∙ differ))

-- of a short word the front tells then
pub front_tells : (one other : List ℕ) → length one ≡ length other → 4 ≤ length one → length one < 8
    → bytes_eq (drop (length one - 4) one) (drop (length other - 4) other) ≡ true → bytes_eq (take 4 one) (take 4 other) ≡ bytes_eq one other
front_tells one other long some few ends =
    same_tests (bytes_eq (take 4 one) (take 4 other)) one other
    (λ t. same_word 4 one other ((bytes_eq-Decides (take 4 one) (take 4 other)).0 t)
    (same_end 4 4 one other long (omega (arith, few)) some ((bytes_eq-Decides (drop (length one - 4) one) (drop (length other - 4) other)).0 ends)))
    (λ e. (bytes_eq-Decides (take 4 one) (take 4 other)).1 (ap (take 4) e))
