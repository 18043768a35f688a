-- The readings of pieces, one after another.
use Rattle.std.proofs.Common.{◌≡◌, ℕ, suc, Bool, true, false, List, [], ◌∷◌, ◌++◌, ℤ, length-append, arith, subst, sym, refl}
use Rattle.std.specs.List.{All}
use Rattle.std.proofs.lemmas.List.{get_or_append_left}
use Rattle.std.proofs.lemmas.List.Elements.{All-push, Contains-append_left, Contains-append_right}
use Rattle.delay_units.specs.Reading.{ReadsAs}
use Rattle.delay_units.specs.SignedAmounts.{IsSignedAmountOf, unread as no_amount, below as below_bound, within as within_bound, past as past_bound}
use Rattle.delay_units.specs.declared.numbers.Unit.{Unit}
use Rattle.delay_units.specs.declared.signed_amounts.SignedAmount.TheVariants.{Unread, Below, Within, Past}
use Rattle.delay_units.proofs.SignedAmountLemmas.{low_is_large, high_is_large}
use Rattle.nldm_lookup.specs.Axes.{most}
use Rattle.nldm_lookup.specs.Tables.{IsSmall}
use Rattle.liberty_tables.specs.NumberLists.{HasNoNumber}
use Rattle.liberty_tables.specs.Kept.{AreKept, all_within, one_past, IsListFault, unread_piece, no_memory}
use Rattle.liberty_tables.specs.declared.faults.CellFault.{CellFault}
use Rattle.liberty_tables.proofs.Fronts.{zip_push}

all_left : {X : Type 0} (P : X → Type 0) (xs ys : List X) → All P (xs ++ ys) → All P xs
all_left P xs ys all k d below = subst P (get_or_append_left xs ys d k below) (all k d (let l = length-append xs ys in omega (arith, l, below)))

all_last : {X : Type 0} (P : X → Type 0) (xs : List X) (x : X) → All P (xs ++ x ∷ []) → P x
all_last P [] x all = all 0 x (omega arith)
all_last P (y ∷ xs) x all = all_last P xs x (λ k d below. all (suc k) d (omega (arith, below)))

-- a number that is read goes last
pub kept_more : (unit : Unit) (pieces : List (List ℕ)) (within : Bool) (values : List ℤ) (piece : List ℕ) (value : ℤ)
    → AreKept unit pieces within values → ReadsAs unit piece value → IsSmall value → AreKept unit (pieces ++ piece ∷ []) within (values ++ value ∷ [])
kept_more unit pieces true _ piece value (all_within values are small) reading fits = all_within (values ++ value ∷ []) (zip_push (ReadsAs unit) pieces values piece value are reading) (All-push IsSmall values value small fits)
kept_more unit pieces false _ piece value (one_past values readings are past) reading fits = one_past (values ++ value ∷ []) (readings ++ value ∷ []) (zip_push (ReadsAs unit) pieces readings piece value are reading) (λ small. past (all_left IsSmall readings (value ∷ []) small))

-- a number past the bound
pub kept_past : (unit : Unit) (pieces : List (List ℕ)) (within : Bool) (values : List ℤ) (piece : List ℕ) (value : ℤ)
    → AreKept unit pieces within values → ReadsAs unit piece value → ¬ IsSmall value → AreKept unit (pieces ++ piece ∷ []) false values
kept_past unit pieces true _ piece value (all_within values are small) reading past = one_past values (values ++ value ∷ []) (zip_push (ReadsAs unit) pieces values piece value are reading) (λ all. past (all_last IsSmall values value all))
kept_past unit pieces false _ piece value (one_past values readings are others) reading past = one_past values (readings ++ value ∷ []) (zip_push (ReadsAs unit) pieces readings piece value are reading) (λ all. past (all_last IsSmall readings value all))

-- a fault of some pieces is one of more
pub fault_among : (before pieces behind : List (List ℕ)) (fault : CellFault) → IsListFault pieces fault → IsListFault (before ++ (pieces ++ behind)) fault
fault_among before pieces behind _ (unread_piece has) = unread_piece (record { piece = has.piece; among = Contains-append_right before (pieces ++ behind) has.piece (Contains-append_left pieces behind has.piece has.among); unread = has.unread })
fault_among before pieces behind _ no_memory = no_memory

-- no piece has been read
pub none_kept : (unit : Unit) (values : List ℤ) → values ≡ [] → AreKept unit [] true values
none_kept unit values none = subst (AreKept unit [] true) (sym none) (all_within [] tt (λ k d below. absurd (omega (arith, below))))

-- ---- a piece that has been read

pub unread_alone : (unit : Unit) (piece : List ℕ) → IsSignedAmountOf unit most piece Unread → HasNoNumber (piece ∷ [])
unread_alone unit piece (no_amount none) = record { piece = piece; among = (0, omega arith, refl); unread = none }

-- its reading is past the bound, below it or above
pub kept_below : (unit : Unit) (piece : List ℕ) (pieces : List (List ℕ)) (within : Bool) (values : List ℤ) → IsSignedAmountOf unit most piece Below
    → AreKept unit pieces within values → AreKept unit (pieces ++ piece ∷ []) false values
kept_below unit piece pieces within values (below_bound {v} reads low) kept =
    kept_past unit pieces within values piece v kept reads (λ small. omega (arith, low_is_large v most low, small))

pub kept_above : (unit : Unit) (piece : List ℕ) (pieces : List (List ℕ)) (within : Bool) (values : List ℤ) → IsSignedAmountOf unit most piece Past
    → AreKept unit pieces within values → AreKept unit (pieces ++ piece ∷ []) false values
kept_above unit piece pieces within values (past_bound {v} reads far) kept =
    kept_past unit pieces within values piece v kept reads (λ small. omega (arith, high_is_large v most far, small))

-- its reading is within the bound
pub kept_within : (unit : Unit) (piece : List ℕ) (v : ℤ) (pieces : List (List ℕ)) (within : Bool) (values : List ℤ) → IsSignedAmountOf unit most piece (Within v)
    → AreKept unit pieces within values → AreKept unit (pieces ++ piece ∷ []) within (values ++ v ∷ [])
kept_within unit piece v pieces within values (within_bound reads few) kept = kept_more unit pieces within values piece v kept reads few

pub amount_few : (unit : Unit) (piece : List ℕ) (v : ℤ) → IsSignedAmountOf unit most piece (Within v) → IsSmall v
amount_few unit piece v (within_bound reads few) = few
