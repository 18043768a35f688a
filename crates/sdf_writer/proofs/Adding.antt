-- One wire more, with its delays.
use Rattle.std.proofs.Common.{◌≡◌, ℕ, suc, ◌+◌, ◌*◌, ◌≤◌, List, [], ◌∷◌, ◌++◌, length, take, drop, Bool, true, if◌then◌else◌, refl, sym, ap, ap₂, ◌∙◌, subst, arith}
use Rattle.std.specs.List.{All}
use Rattle.std.proofs.lemmas.List.Elements.{All-push}
use Rattle.std.proofs.lemmas.List.{length-append, take-append-le, drop-append-le, take_all, length-drop}
use Rattle.std.proofs.Math.Nat.{suc-mul}
use Rattle.delay_units.specs.declared.Femto.{Femto}
use Rattle.sdf_writer.specs.SdfText.{WireRow, PathRow, SdfRows}
use Rattle.sdf_writer.specs.Names.{ExtendsNames}
use Rattle.sdf_writer.specs.WireRows.{wire_row, wire_rows, IsWireKept, KeepsWire}
use Rattle.sdf_writer.specs.declared.rows.Wire.{Wire}
use Rattle.sdf_writer.proofs.KeptNames.{names_grow, name_stays}
use Rattle.sdf_writer.proofs.Remaining.{enough}

-- what a test that is true chooses
pub chosen : {X : Type 0} {test : Bool} {x : X} (y z : X) → x ≡ (if test then y else z) → test ≡ true → x ≡ y
chosen y z e holds = e ∙ ap (λ b. if b then y else z) holds

-- a row of these parts
abbrev make_row : List ℕ → List ℕ → List Femto → WireRow
make_row from to delay = record { from = from; to = to; delay = delay }

row_parts : {from from' to to' : List ℕ} (delay : List Femto) → from ≡ from' → to ≡ to' → make_row from to delay ≡ make_row from' to' delay
row_parts delay e f = ap₂ (λ (a b : List ℕ). make_row a b delay) e f

-- the sizes agree
pub one_more : (count n m k : ℕ) → n ≡ m * count → k ≡ count → n + k ≡ (m + 1) * count
one_more count n m k e f =
    let next : m + 1 ≡ suc m = omega arith in
    rw (next, suc-mul m count) (omega arith)

-- the rows of one wire more
pub rows_more : (count : ℕ) (names : List (List ℕ)) (wires : List Wire) (delays : List Femto) (wire : Wire) (delay : List Femto) → length delays ≡ length wires * count → length delay ≡ count → wire_rows count names (wires ++ wire ∷ []) (delays ++ delay) ≡ wire_rows count names wires delays ++ wire_row names wire delay ∷ []
rows_more count names [] [] wire delay sizes one = ap (λ t. wire_row names wire t ∷ []) (take_all count delay (omega arith))
rows_more count names [] (d ∷ delays) wire delay sizes one = absurd (omega arith)
rows_more count names (w ∷ wires) delays wire delay sizes one =
    let some = enough count (length delays) (length wires) sizes in
    let rest : length (drop count delays) ≡ length wires * count = length-drop count delays ∙ some.1 in
    rw (take-append-le count delays delay some.0, drop-append-le count delays delay some.0)
    (ap (λ rows. wire_row names w (take count delays) ∷ rows) (rows_more count names wires (drop count delays) wire delay rest one))

-- the sizes after it
pub added_sizes : (count : ℕ) (wires : List Wire) (delays : List Femto) {wires' : List Wire} {delays' slice delay : List Femto} (wire : Wire) → wires' ≡ wires ++ wire ∷ [] → delays' ≡ delays ++ slice → slice ≡ delay → length delays ≡ length wires * count → length delay ≡ count → length delays' ≡ length wires' * count
added_sizes count wires delays {delay = delay} wire e f h sizes one =
    rw (e, f, h, length-append delays delay, length-append wires (wire ∷ [])) (one_more count (length delays) (length wires) (length delay) sizes one)

-- the rows of wires whose names stay
rows_stay : (count : ℕ) {names names' : List (List ℕ)} (wires : List Wire) (delays : List Femto) → ExtendsNames names names' → All (IsWireKept (length names)) wires → wire_rows count names' wires delays ≡ wire_rows count names wires delays
rows_stay count [] delays grown kept = refl
rows_stay count {names} {names'} (wire ∷ wires) delays grown kept =
    let here = kept 0 wire (omega arith) in
    ap₂ (λ (row : WireRow) (rows : List WireRow). row ∷ rows)
    (row_parts (take count delays) (name_stays wire.from grown here.from) (name_stays wire.to grown here.to))
    (rows_stay count wires (drop count delays) grown (λ k d below. kept (suc k) d (omega (arith, below))))

pub wires_kept : {names names' : List (List ℕ)} (wires : List Wire) → ExtendsNames names names' → All (IsWireKept (length names)) wires → All (IsWireKept (length names')) wires
wires_kept {names} {names'} wires grown kept = λ k d below. (
    let here = kept k d below in
    let more : length names ≤ length names' = names_grow grown in
    record { from = omega (arith, more, here.from); to = omega (arith, more, here.to) })

pub wires_added : {names names' : List (List ℕ)} (wires : List Wire) {wires' : List Wire} (wire : Wire) {from to : List ℕ} → ExtendsNames names names' → All (IsWireKept (length names)) wires → KeepsWire names' from to wire → wires' ≡ wires ++ wire ∷ []
    → All (IsWireKept (length names')) wires'
wires_added {names' = names'} wires wire grown kept keeps e =
    subst (All (IsWireKept (length names'))) (sym e)
    (All-push (IsWireKept (length names')) wires wire (wires_kept wires grown kept) (record { from = keeps.from_kept.below; to = keeps.to_kept.below }))

-- the same rows beside names that grew
pub none_added : (count : ℕ) (design : List ℕ) (paths : List PathRow) {names names' : List (List ℕ)} (wires : List Wire) (delays : List Femto) {wires' : List Wire} {delays' : List Femto} {rows : SdfRows} → record { design = design; wires = wire_rows count names wires delays; paths = paths } ≡ rows
    → wires' ≡ wires → delays' ≡ delays → ExtendsNames names names' → All (IsWireKept (length names)) wires → record { design = design; wires = wire_rows count names' wires' delays'; paths = paths } ≡ rows
none_added count design paths wires delays view e f grown kept =
    rw (← view, e, f) (ap (λ (rows : List WireRow). record { design = design; wires = rows; paths = paths }) (rows_stay count wires delays grown kept))

-- the rows after it
pub added : (count : ℕ) (design : List ℕ) (paths : List PathRow) {names names' : List (List ℕ)} (wires : List Wire) (delays : List Femto) {wires' : List Wire} {delays' slice delay : List Femto} (wire : Wire) {from to : List ℕ} {rows : SdfRows} → record { design = design; wires = wire_rows count names wires delays; paths = paths } ≡ rows
    → ExtendsNames names names' → All (IsWireKept (length names)) wires → KeepsWire names' from to wire
    → wires' ≡ wires ++ wire ∷ [] → delays' ≡ delays ++ slice → slice ≡ delay → length delays ≡ length wires * count → length delay ≡ count
    → record { design = design; wires = wire_rows count names' wires' delays'; paths = paths } ≡ record rows { wires = rows.wires ++ record { from = from; to = to; delay = delay } ∷ [] }
added count design paths {names' = names'} wires delays {delay = delay} wire view grown kept keeps e f h sizes one =
    rw (← view, e, f, h)
    (ap (λ (rows : List WireRow). record { design = design; wires = rows; paths = paths })
    (rows_more count names' wires delays wire delay sizes one
    ∙ ap₂ (λ (rows : List WireRow) (row : WireRow). rows ++ row ∷ []) (rows_stay count wires delays grown kept) (row_parts delay keeps.from_kept.is keeps.to_kept.is)))
