-- The counts, the sum and the largest member of rows that grow by one.
use Rattle.std.proofs.Common.{◌≡◌, ℕ, suc, ◌+◌, ◌*◌, ◌^◌, ◌<◌, ◌≤◌, List, [], ◌∷◌, ◌++◌, length, flat_map, take, get_or, Option, Some, None, ℤ, pos, ◌+ℤ◌, unsigned_abs, refl, sym, ap, ◌∙◌, subst, arith}
use Rattle.std.specs.List.{All}
use Rattle.std.specs.Int.{int_max}
use Rattle.std.proofs.lemmas.Int.{ints, clamps}
use Rattle.std.proofs.lemmas.List.{append-nil, take_more, length-take-le, length-append}
use Rattle.std.proofs.lemmas.List.Elements.{All-take, All-push}
use Rattle.std.proofs.lemmas.Grind.{flat_map-append}
use Rattle.delay_units.specs.declared.quantities.Femto.{Femto}
use Rattle.sdf_reader.specs.Lines.{wire_count, path_count, time_or_zero, row_sum, sum_of, member_list, value_members, row_members, larger, largest, largest_of}
use Rattle.sdf_reader.specs.Sizes.{IsTimeWithin, IsRowWithin, AreWithin}
use Rattle.sdf_reader.specs.Summaries.{IsSummaryOf}
use Rattle.sdf_reader.specs.declared.rows.Value.{Value}
use Rattle.sdf_reader.specs.declared.rows.SdfRow.{SdfRow}
use Rattle.sdf_reader.specs.declared.rows.SdfRow.TheVariants.{Wire, Path}
use Rattle.sdf_reader.specs.declared.summary.Summary.{Summary}

-- ---- the largest

max_assoc : (a b c : ℤ) → int_max (int_max a b) c ≡ int_max a (int_max b c)
max_assoc a b c = omega (arith, ints, clamps)

larger_none : (a : Option ℤ) → larger a None ≡ a
larger_none None = refl
larger_none (Some a) = refl

larger_assoc : (a b c : Option ℤ) → larger (larger a b) c ≡ larger a (larger b c)
larger_assoc None b c = refl
larger_assoc (Some a) None c = refl
larger_assoc (Some a) (Some b) None = refl
larger_assoc (Some a) (Some b) (Some c) = ap (λ x. Some x) (max_assoc a b c)

largest_append : (xs ys : List ℤ) → largest (xs ++ ys) ≡ larger (largest xs) (largest ys)
largest_append [] ys = refl
largest_append (x ∷ xs) ys = ap (larger (Some x)) (largest_append xs ys) ∙ sym (larger_assoc (Some x) (largest xs) (largest ys))

pub larger_of_members : (most : Option ℤ) (min typ max : Option Femto) → larger (larger (larger most (largest (member_list min))) (largest (member_list typ))) (largest (member_list max)) ≡ larger most (largest (member_list min ++ member_list typ ++ member_list max))
larger_of_members most min typ max =
    let a : List ℤ = member_list min in
    let b : List ℤ = member_list typ in
    let c : List ℤ = member_list max in
    ap (λ x. larger x (largest c)) (larger_assoc most (largest a) (largest b) ∙ ap (larger most) (sym (largest_append a b)))
    ∙ larger_assoc most (largest (a ++ b)) (largest c) ∙ ap (larger most) (sym (largest_append (a ++ b) c))

larger_of_both : (most : Option ℤ) (rise fall : Value) → larger (larger most (largest (value_members rise))) (largest (value_members fall)) ≡ larger most (largest (value_members rise ++ value_members fall))
larger_of_both most rise fall = larger_assoc most (largest (value_members rise)) (largest (value_members fall)) ∙ ap (larger most) (sym (largest_append (value_members rise) (value_members fall)))

largest_more : (rows : List SdfRow) (row : SdfRow) → largest_of (rows ++ row ∷ []) ≡ larger (largest_of rows) (largest (row_members row))
largest_more rows row =
    ap largest (flat_map-append row_members rows (row ∷ []) ∙ ap (λ l. flat_map row_members rows ++ l) (append-nil (row_members row)))
    ∙ largest_append (flat_map row_members rows) (row_members row)

-- ---- the counts and the sum

wires_more : (rows more : List SdfRow) → wire_count (rows ++ more) ≡ wire_count rows + wire_count more
wires_more [] more = omega arith
wires_more (Wire from to rise fall ∷ rows) more = let e = wires_more rows more in omega (arith, e)
wires_more (Path cell instance from to rise fall ∷ rows) more = wires_more rows more

paths_more : (rows more : List SdfRow) → path_count (rows ++ more) ≡ path_count rows + path_count more
paths_more [] more = omega arith
paths_more (Wire from to rise fall ∷ rows) more = paths_more rows more
paths_more (Path cell instance from to rise fall ∷ rows) more = let e = paths_more rows more in omega (arith, e)

sum_more : (rows : List SdfRow) (row : SdfRow) → sum_of (rows ++ row ∷ []) ≡ sum_of rows +ℤ row_sum row
sum_more [] row = omega (arith, ints)
sum_more (first ∷ rows) row = let e = sum_more rows row in omega (arith, ints, e)

-- each row is a wire or a path
pub all_counted : (rows : List SdfRow) → wire_count rows + path_count rows ≡ length rows
all_counted [] = refl
all_counted (Wire from to rise fall ∷ rows) = let e = all_counted rows in omega (arith, e)
all_counted (Path cell instance from to rise fall ∷ rows) = let e = all_counted rows in omega (arith, e)

time_within : (time : Option Femto) → IsTimeWithin time → unsigned_abs (time_or_zero time) ≤ 10 ^ 27
time_within None within = omega arith
time_within (Some time) within = within

row_within : (row : SdfRow) → IsRowWithin row → unsigned_abs (row_sum row) ≤ 2 * 10 ^ 27
row_within (Wire from to rise fall) within = let one = time_within rise.typ within.0.1 in omega (arith, one)
row_within (Path cell instance from to rise fall) within =
    let one = time_within rise.typ within.0.1 in
    let other = time_within fall.typ within.1.1 in
    omega (arith, ints, one, other)

-- the sum of few rows is small
pub sum_within : (rows : List SdfRow) → All IsRowWithin rows → unsigned_abs (sum_of rows) ≤ length rows * (2 * 10 ^ 27)
sum_within [] all = omega arith
sum_within (row ∷ rows) all =
    let one = row_within row (all 0 row (omega arith)) in
    let rest = sum_within rows (λ k d below. all (suc k) d (omega arith)) in
    omega (arith, ints, one, rest)

-- ---- one row more

pub with_wire : (summary result : Summary) (from to : List ℕ) (rise fall : Value) → result.wires ≡ summary.wires + 1 → result.paths ≡ summary.paths → result.sum ≡ summary.sum +ℤ time_or_zero rise.typ
    → result.largest ≡ larger (larger summary.largest (largest (value_members rise))) (largest (value_members fall))
    → (rows : List SdfRow) → IsSummaryOf rows summary → IsSummaryOf (rows ++ Wire from to rise fall ∷ []) result
with_wire summary result from to rise fall wires paths sum most rows is =
    let row : SdfRow = Wire from to rise fall in
    record {
      wires = wires ∙ ap (λ n. n + 1) is.wires ∙ sym (wires_more rows (row ∷ []));
      paths = paths ∙ is.paths ∙ sym (paths_more rows (row ∷ []) ∙ omega arith);
      sum = sum ∙ ap (λ n. n +ℤ time_or_zero rise.typ) is.sum ∙ sym (sum_more rows row);
      largest = most ∙ larger_of_both summary.largest rise fall ∙ ap (λ m. larger m (largest (row_members row))) is.largest ∙ sym (largest_more rows row);
    }

pub with_path : (summary result : Summary) (cell instance from to : List ℕ) (rise fall : Value) → result.wires ≡ summary.wires → result.paths ≡ summary.paths + 1 → result.sum ≡ (summary.sum +ℤ time_or_zero rise.typ) +ℤ time_or_zero fall.typ
    → result.largest ≡ larger (larger summary.largest (largest (value_members rise))) (largest (value_members fall))
    → (rows : List SdfRow) → IsSummaryOf rows summary → IsSummaryOf (rows ++ Path cell instance from to rise fall ∷ []) result
with_path summary result cell instance from to rise fall wires paths sum most rows is =
    let row : SdfRow = Path cell instance from to rise fall in
    let both : result.sum ≡ summary.sum +ℤ row_sum row = omega (arith, ints, sum) in
    record {
      wires = wires ∙ is.wires ∙ sym (wires_more rows (row ∷ []) ∙ omega arith);
      paths = paths ∙ ap (λ n. n + 1) is.paths ∙ sym (paths_more rows (row ∷ []));
      sum = both ∙ ap (λ n. n +ℤ row_sum row) is.sum ∙ sym (sum_more rows row);
      largest = most ∙ larger_of_both summary.largest rise fall ∙ ap (λ m. larger m (largest (row_members row))) is.largest ∙ sym (largest_more rows row);
    }

-- no row
pub summary_of_none : (summary : Summary) → summary.wires ≡ 0 → summary.paths ≡ 0 → summary.sum ≡ pos 0 → summary.largest ≡ None → IsSummaryOf [] summary
summary_of_none summary wires paths sum most = record { wires = wires; paths = paths; sum = sum; largest = most }

-- what a row more needs: the counts and the sum of the rows before it are small
pub small_counts : (rows : List SdfRow) (i : ℕ) (summary : Summary) → length rows < 2 ^ 32 → i < length rows → IsSummaryOf (take i rows) summary → summary.wires + summary.paths < 2 ^ 32
small_counts rows i summary few below is =
    let all : wire_count (take i rows) + path_count (take i rows) ≡ length (take i rows) = all_counted (take i rows) in
    let size : length (take i rows) ≡ i = length-take-le i rows (omega (arith, below)) in
    omega (arith, is.wires, is.paths, all, size, few, below)

pub small_sum : (rows : List SdfRow) (i : ℕ) (summary : Summary) → AreWithin rows → i < length rows → IsSummaryOf (take i rows) summary → unsigned_abs summary.sum ≤ 2 ^ 33 * 10 ^ 27
small_sum rows i summary are below is =
    let sum : unsigned_abs (sum_of (take i rows)) ≤ length (take i rows) * (2 * 10 ^ 27) = sum_within (take i rows) (All-take IsRowWithin i rows are.each) in
    let size : length (take i rows) ≡ i = length-take-le i rows (omega (arith, below)) in
    let few = are.few in
    let e : unsigned_abs summary.sum ≡ unsigned_abs (sum_of (take i rows)) = ap unsigned_abs is.sum in
    omega (arith, e, sum, size, few, below)

pub summary_more : (rows : List SdfRow) (i : ℕ) (d row : SdfRow) (result : Summary) → i < length rows → row ≡ get_or rows i d → IsSummaryOf (take i rows ++ row ∷ []) result → IsSummaryOf (take (i + 1) rows) result
summary_more rows i d row result below e is =
    subst (λ (l : List SdfRow). IsSummaryOf l result) (ap (λ r. take i rows ++ r ∷ []) e ∙ sym (take_more rows i d below)) is

-- ---- a row that is put at the end, or not

pub still_within : (rows : List SdfRow) (row : SdfRow) → length rows + 1 < 2 ^ 32 → IsRowWithin row → AreWithin rows → AreWithin (rows ++ row ∷ [])
still_within rows row room within are = record {
  few = let size : length (rows ++ row ∷ []) ≡ length rows + 1 = length-append rows (row ∷ []) in omega (arith, room, size);
  each = All-push IsRowWithin rows row are.each within;
}
