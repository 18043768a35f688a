-- What a write at a row and a corner leaves in the columns.
use Rattle.std.proofs.Common.{◌≡◌, ◌≢◌, ℕ, ◌+◌, ◌*◌, ◌<◌, ◌≤◌, List, length, slice_set, refl, ◌∙◌, ap, arith, add-mul, one-mul, mul-le-mul_right, get_or-set_same, get_or-set_other, length-set}
use Rattle.std.proofs.lemmas.Nat.{same_from_place}
use Rattle.corner_set.specs.Places.{place}
use Rattle.elmore_pass.specs.Columns.{column, KeepsOthers}

-- a row of the tree is one of the scratch
pub has_row : (count n size row : ℕ) → n * count ≤ size → row < n → row * count + count ≤ size
has_row count n size row room below =
    let more : (row + 1) * count ≤ n * count = mul-le-mul_right count (let h : row + 1 ≤ n = omega arith in h) in
    let is : (row + 1) * count ≡ row * count + count = add-mul row 1 count ∙ ap (λ s. row * count + s) (one-mul count) in
    omega (arith, more, is, room)

pub place_in : (count n size row number : ℕ) → n * count ≤ size → row < n → number < count → place count row number < size
place_in count n size row number room below within = let row_in = has_row count n size row room below in omega arith

pub column_same : (count : ℕ) (values : List ℕ) (row number value : ℕ) → place count row number < length values → column count (slice_set values (place count row number) value) number row ≡ value
column_same count values row number value within = get_or-set_same values (place count row number) value 0 within

pub column_other : (count : ℕ) (values : List ℕ) (row number value i : ℕ) → number < count → i ≢ row → column count (slice_set values (place count row number) value) number i ≡ column count values number i
column_other count values row number value i within ne =
    get_or-set_other values (place count row number) (place count i number) value 0 (λ e. let same = same_from_place i number row number count within within e in ne same.0)

pub keeps_others : (count : ℕ) (values : List ℕ) (row number value : ℕ) → number < count → KeepsOthers count values (slice_set values (place count row number) value) number
keeps_others count values row number value within = record {
  size = length-set values (place count row number) value;
  others = λ i other below ne. get_or-set_other values (place count row number) (place count i other) value 0 (λ e. let same = same_from_place i other row number count below within e in ne same.1);
}

pub keeps_both : (count : ℕ) (one two three : List ℕ) (number : ℕ) → KeepsOthers count one two number → KeepsOthers count two three number → KeepsOthers count one three number
keeps_both count one two three number first second = record {
  size = second.size ∙ first.size;
  others = λ i other below ne. second.others i other below ne ∙ first.others i other below ne;
}

pub keeps_none : (count : ℕ) (values : List ℕ) (number : ℕ) → KeepsOthers count values values number
keeps_none count values number = record { size = refl; others = λ i other below ne. refl }
