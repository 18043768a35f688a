-- Rows with wires behind.
use Rattle.std.proofs.Common.{◌≡◌, ℕ, ◌+◌, ◌∙◌, ap, sym, List, [], ◌++◌, append_assoc, arith}
use Rattle.std.proofs.lemmas.List.{append-nil}
use Rattle.hierarchy.specs.Walks.{joined_from}
use Rattle.hierarchy.proofs.Joining.{joined-more}
use Rattle.sdf_writer.specs.SdfText.{WireRow, SdfRows}
use Rattle.annotation_rows.specs.WireRows.{with_wires}

pub with_no_wires : (rows : SdfRows) → rows ≡ with_wires rows []
with_no_wires rows = ap (λ (wires : List WireRow). let made : SdfRows = record { design = rows.design; wires = wires; paths = rows.paths } in made) (sym (append-nil rows.wires))

-- the wires of one number more
pub wires_next : (lists : ℕ → List WireRow) (many : ℕ) (before now after : SdfRows) → now ≡ with_wires before (joined_from lists 0 many)
    → after ≡ with_wires now (lists many) → after ≡ with_wires before (joined_from lists 0 (many + 1))
wires_next lists many before now after held is =
    let at : many ≡ 0 + many = omega arith in
    is ∙ ap (λ rows. with_wires rows (lists many)) held
    ∙ ap (λ (wires : List WireRow). let made : SdfRows = record { design = before.design; wires = wires; paths = before.paths } in made)
    (append_assoc before.wires (joined_from lists 0 many) (lists many)
    ∙ ap (λ xs. before.wires ++ xs) (ap (λ k. joined_from lists 0 many ++ lists k) at ∙ sym (joined-more lists 0 many)))
