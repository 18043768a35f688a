-- Wires whose lines are pushed one after another, each with the next delays.
use Rattle.std.proofs.Common.{◌≡◌, ℕ, zero, suc, ◌+◌, ◌-◌, ◌*◌, ◌<◌, ◌≤◌, List, [], ◌∷◌, ◌++◌, length, take, drop, get_or, Option, Ok, Err, refl, ap, sym, ◌∙◌, arith}
use Rattle.std.proofs.lemmas.List.{append_assoc, length-drop}
use Rattle.std.proofs.Math.Nat.{suc-mul}
use Rattle.delay_units.specs.declared.Femto.{Femto}
use Rattle.edge_io.specs.declared.Failed.{Failed}
use Rattle.sdf_writer.specs.Bounds.{AreWithin}
use Rattle.edge_io.specs.Gathering.{Pushes}
use Rattle.sdf_writer.specs.SdfText.{WireRow}
use Rattle.sdf_writer.specs.Names.{name_at}
use Rattle.sdf_writer.specs.WireRows.{wire_row, wire_rows, wire_text, wires_text}
use Rattle.sdf_writer.specs.declared.rows.Wire.{Wire}
use Rattle.edge_io.specs.Pushing.{pushes_nothing, pushes_then, pushes_stop}
use Rattle.sdf_writer.proofs.Within.{within_drop}

-- of the lines of the whole list those before some wire are pushed; that wire takes the next delays
pub record Wrote (count : ℕ) (names : List (List ℕ)) (whole : List ℕ) (wires : List Wire) (rest : List Femto) (start waiting : List ℕ) (before now : Option (List ℕ)) (faults faults' : ℕ) : Type 0 where
  pub front : List ℕ
  pub whole_is : whole ≡ front ++ wires_text (wire_rows count names wires rest)
  pub pushed : Pushes (start ++ front) waiting before now faults faults' (Ok tt)
  pub sizes : length rest ≡ length wires * count
  pub within : AreWithin rest

-- none is pushed yet
pub wrote_none : (count : ℕ) (names : List (List ℕ)) (wires : List Wire) (delays : List Femto) (start : List ℕ) (before : Option (List ℕ)) (faults : ℕ) → length delays ≡ length wires * count → AreWithin delays → Wrote count names (wires_text (wire_rows count names wires delays)) wires delays start start before before faults faults
wrote_none count names wires delays start before faults sizes within = record {
  front = [];
  whole_is = refl;
  pushed = pushes_nothing start before faults;
  sizes = sizes;
  within = within;
}

-- the delays of one wire are there
pub enough : (count n m : ℕ) → n ≡ suc m * count → (count ≤ n) × (n - count ≡ m * count)
enough count n m e =
    let f : n ≡ m * count + count = e ∙ suc-mul m count in
    (omega arith, omega arith)

-- the row of the wire at `i`, and the rows after it
pub row_at : (count : ℕ) (names : List (List ℕ)) (wires : List Wire) (i : ℕ) (d : Wire) (rest : List Femto) → i < length wires → wire_rows count names (drop i wires) rest ≡ wire_row names (get_or wires i d) (take count rest) ∷ wire_rows count names (drop (i + 1) wires) (drop count rest)
row_at count names [] i d rest below = absurd (omega arith)
row_at count names (wire ∷ wires) zero d rest below = refl
row_at count names (wire ∷ wires) (suc i) d rest below =
    let next : suc i + 1 ≡ suc (i + 1) = omega arith in
    rw next (row_at count names wires i d rest (omega arith))

-- the delays after those of the wire at `i` are those of the wires after it
pub sizes_after : (count : ℕ) (wires : List Wire) (i : ℕ) (rest : List Femto) → i < length wires → length rest ≡ length (drop i wires) * count → length (drop count rest) ≡ length (drop (i + 1) wires) * count
sizes_after count wires i rest below sizes =
    let one : length (drop i wires) ≡ suc (length (drop (i + 1) wires)) = omega (arith, length-drop i wires, length-drop (i + 1) wires) in
    length-drop count rest ∙ (enough count (length rest) (length (drop (i + 1) wires)) (sizes ∙ ap (λ n. n * count) one)).1

-- what a place past the end of a list of wires would hold
abbrev pub no_wire : Wire
no_wire = record { from = 0; to = 0 }

-- a row of the parts of a wire
pub row_of : (names : List (List ℕ)) (wire : Wire) (from to : List ℕ) (delay delay' : List Femto) → from ≡ name_at names wire.from → to ≡ name_at names wire.to → delay ≡ delay' → record { from = from; to = to; delay = delay } ≡ wire_row names wire delay'
row_of names wire from to delay delay' e f h = cc

-- the same of a row that is that of the wire
pub next_row : (count : ℕ) (names : List (List ℕ)) (wires : List Wire) (i : ℕ) (d : Wire) (rest : List Femto) (row : WireRow) → row ≡ wire_row names (get_or wires i d) (take count rest) → i < length wires → wire_rows count names (drop i wires) rest ≡ row ∷ wire_rows count names (drop (i + 1) wires) (drop count rest)
next_row count names wires i d rest row row_is below =
    row_at count names wires i d rest below ∙ ap (λ r. r ∷ wire_rows count names (drop (i + 1) wires) (drop count rest)) (sym row_is)

-- the line of the next wire is pushed
pub wrote_next : {count : ℕ} {names : List (List ℕ)} {whole : List ℕ} (wires : List Wire) (i : ℕ) (d : Wire) {rest : List Femto} {start waiting waiting' : List ℕ} {before middle after : Option (List ℕ)} {faults faults₁ faults₂ : ℕ} {done : Unit {0}} (row : WireRow) → row ≡ wire_row names (get_or wires i d) (take count rest) → i < length wires → Wrote count names whole (drop i wires) rest start waiting before middle faults faults₁ → Pushes (waiting ++ wire_text row) waiting' middle after faults₁ faults₂ (Ok done) → Wrote count names whole (drop (i + 1) wires) (drop count rest) start waiting' before after faults faults₂
wrote_next {count} {names} {whole} wires i d {rest} {start} row row_is below w v =
    let text : List ℕ = wire_text row in
    record {
      front = w.front ++ text;
      whole_is = w.whole_is ∙ ap (λ rows. w.front ++ wires_text rows) (next_row count names wires i d rest row row_is below) ∙ sym (append_assoc w.front text (wires_text (wire_rows count names (drop (i + 1) wires) (drop count rest))));
      pushed = pushes_then start w.front text {result = Ok tt} w.pushed v;
      sizes = sizes_after count wires i rest below w.sizes;
      within = within_drop count rest w.within;
    }

-- the line of the next wire is cut
pub wrote_cut : {count : ℕ} {names : List (List ℕ)} {whole : List ℕ} (wires : List Wire) (i : ℕ) (d : Wire) {rest : List Femto} {start waiting waiting' waiting'' : List ℕ} {before middle after : Option (List ℕ)} {faults faults₁ faults₂ : ℕ} {failed failed' : Failed} (row : WireRow) → row ≡ wire_row names (get_or wires i d) (take count rest) → i < length wires → Wrote count names whole (drop i wires) rest start waiting before middle faults faults₁ → Pushes (waiting ++ wire_text row) waiting' middle after faults₁ faults₂ (Err failed) → Pushes (start ++ whole) waiting'' before after faults faults₂ (Err failed')
wrote_cut {count} {names} {whole} wires i d {rest} {start} row row_is below w v =
    let text : List ℕ = wire_text row in
    let more : List ℕ = wires_text (wire_rows count names (drop (i + 1) wires) (drop count rest)) in
    let parts : whole ≡ (w.front ++ text) ++ more = w.whole_is ∙ ap (λ rows. w.front ++ wires_text rows) (next_row count names wires i d rest row row_is below) ∙ sym (append_assoc w.front text more) in
    rw parts (pushes_stop start (w.front ++ text) more (pushes_then start w.front text {result = Err _} w.pushed v))
