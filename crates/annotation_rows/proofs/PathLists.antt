-- Rows with paths behind.
use Rattle.std.proofs.Common.{◌≡◌, ℕ, ◌+◌, ◌||◌, Bool, true, false, if◌then◌else◌, ◌∙◌, ap, sym, List, [], ◌∷◌, ◌++◌, append_assoc, Option, Some, None, is_some, arith}
use Rattle.std.proofs.lemmas.Bool.{eq-eqb, ne_eqb}
use Rattle.std.proofs.lemmas.List.{append-nil}
use Rattle.cell_models.specs.declared.edge.Edge.TheVariants.{Rise, Fall}
use Rattle.delay_units.specs.declared.Femto.{Femto}
use Rattle.hierarchy.specs.Walks.{joined_from}
use Rattle.hierarchy.proofs.Joining.{joined-more}
use Rattle.sdf_writer.specs.SdfText.{PathRow, SdfRows}
use Rattle.annotation_rows.specs.CellPaths.{path_of}
use Rattle.annotation_rows.specs.PathRows.{TimedDesign, cell_arcs, edge_delays, if_delayed, path_row, rows_at, with_paths}

pub with_no_paths : (rows : SdfRows) → rows ≡ with_paths rows []
with_no_paths rows = ap (λ (paths : List PathRow). let made : SdfRows = record { design = rows.design; wires = rows.wires; paths = paths } in made) (sym (append-nil rows.paths))

-- the paths of one number more
pub paths_next : (lists : ℕ → List PathRow) (many : ℕ) (before now after : SdfRows) → now ≡ with_paths before (joined_from lists 0 many)
    → after ≡ with_paths now (lists many) → after ≡ with_paths before (joined_from lists 0 (many + 1))
paths_next lists many before now after held is =
    let at : many ≡ 0 + many = omega arith in
    is ∙ ap (λ rows. with_paths rows (lists many)) held
    ∙ ap (λ (paths : List PathRow). let made : SdfRows = record { design = before.design; wires = before.wires; paths = paths } in made)
    (append_assoc before.paths (joined_from lists 0 many) (lists many)
    ∙ ap (λ xs. before.paths ++ xs) (ap (λ k. joined_from lists 0 many ++ lists k) at ∙ sym (joined-more lists 0 many)))

none_of : (has : Bool) (edge : Option (List Femto)) (times : List Femto) → edge ≡ (if has then Some times else None) → is_some edge ≡ has
none_of true edge times is = ap (λ (e : Option (List Femto)). is_some e) is
none_of false edge times is = ap (λ (e : Option (List Femto)). is_some e) is

module _ (design : TimedDesign) (instance arc : ℕ) (rows : SdfRows) where
  -- the row of a path with a delay at an edge, by whether it has a rise and a fall
  delayed_is : (rise fall : Bool) → is_some (edge_delays design instance arc Rise) ≡ rise → is_some (edge_delays design instance arc Fall) ≡ fall
      → if_delayed (path_row design instance arc) ≡ (if rise || fall then path_row design instance arc ∷ [] else [])
  delayed_is rise fall is also =
      ap (λ b. if b || is_some (edge_delays design instance arc Fall) then path_row design instance arc ∷ [] else []) is
      ∙ ap (λ b. if rise || b then path_row design instance arc ∷ [] else []) also

  pub no_row : (rise fall : Bool) (rises falls : List Femto) → edge_delays design instance arc Rise ≡ (if rise then Some rises else None)
      → edge_delays design instance arc Fall ≡ (if fall then Some falls else None) → (rise || fall) ≡ false → rows ≡ with_paths rows (if_delayed (path_row design instance arc))
  no_row rise fall rises falls is also none =
      with_no_paths rows ∙ ap (with_paths rows) (sym (delayed_is rise fall (none_of rise _ rises is) (none_of fall _ falls also)
      ∙ ap (λ b. if b then path_row design instance arc ∷ [] else []) none))

  pub one_row : (rise fall : Bool) (rises falls : List Femto) (after : SdfRows) → edge_delays design instance arc Rise ≡ (if rise then Some rises else None)
      → edge_delays design instance arc Fall ≡ (if fall then Some falls else None) → (rise || fall) ≡ true → after ≡ with_paths rows (path_row design instance arc ∷ [])
      → after ≡ with_paths rows (if_delayed (path_row design instance arc))
  one_row rise fall rises falls after is also some held =
      held ∙ ap (with_paths rows) (sym (delayed_is rise fall (none_of rise _ rises is) (none_of fall _ falls also)
      ∙ ap (λ b. if b then path_row design instance arc ∷ [] else []) some))

  -- an arc with which no path begins adds no row
  pub no_path : (path_of (cell_arcs design instance) arc ≡ arc → ⊥) → rows ≡ with_paths rows (rows_at design instance arc)
  no_path other =
      with_no_paths rows
      ∙ ap (λ b. with_paths rows (if b then if_delayed (path_row design instance arc) else [])) (sym (ne_eqb (path_of (cell_arcs design instance) arc) arc other))

  pub own_path : (after : SdfRows) → path_of (cell_arcs design instance) arc ≡ arc → after ≡ with_paths rows (if_delayed (path_row design instance arc))
      → after ≡ with_paths rows (rows_at design instance arc)
  own_path after own held =
      held
      ∙ ap (λ b. with_paths rows (if b then if_delayed (path_row design instance arc) else [])) (sym (eq-eqb (path_of (cell_arcs design instance) arc) arc own))
