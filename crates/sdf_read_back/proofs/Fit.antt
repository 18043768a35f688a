-- Rows that may be written, name by name and value by value.
use Rattle.std.proofs.Common.{◌≡◌, ℕ, suc, ◌⊎◌, List, [], ◌∷◌, Option, Some, None, arith}
use Rattle.std.specs.Prelude.{⊤}
use Rattle.std.specs.List.{All}
use Rattle.delay_units.specs.declared.quantities.Femto.{Femto}
use Rattle.sdf_writer.specs.PathRows.{IsEdge}
use Rattle.sdf_writer.specs.SdfText.{WireRow, PathRow}
use Rattle.sdf_read_back.specs.Names.{IsSettled}
use Rattle.sdf_read_back.specs.ReadBack.{IsWireFit, IsPathFit}
use Rattle.sdf_read_back.proofs.Values.{IsDelay, delay_of}

-- each one of a list
abbrev pub Each : {X : Type 0} → (X → Type 0) → List X → Type 0
Each P [] = ⊤
Each P (x ∷ xs) = P x × Each P xs

pub each_of : {X : Type 0} (P Q : X → Type 0) → ((x : X) → P x → Q x) → (xs : List X) → All P xs → Each Q xs
each_of P Q more [] all = tt
each_of P Q more (x ∷ xs) all = (more x (all 0 x (omega arith)), each_of P Q more xs (λ k d below. all (suc k) d (omega (arith, below))))

-- one time or three, or no delay
abbrev pub IsEdgeDelay : Option (List Femto) → Type 0
IsEdgeDelay None = ⊤
IsEdgeDelay (Some delay) = IsDelay delay

pub record IsWire (row : WireRow) : Type 0 where
  pub from : IsSettled row.from
  pub to : IsSettled row.to
  pub delay : IsDelay row.delay

pub record IsPath (row : PathRow) : Type 0 where
  pub instance : IsSettled row.instance
  pub from : IsSettled row.from
  pub to : IsSettled row.to
  pub rise : IsEdgeDelay row.rise
  pub fall : IsEdgeDelay row.fall

pub wire_of : (IsName : List ℕ → Type 0) → ((name : List ℕ) → IsName name → IsSettled name) → (count : ℕ) → (count ≡ 1) ⊎ (count ≡ 3) → (row : WireRow) → IsWireFit IsName count row → IsWire row
wire_of IsName settled count corners row fit = record { from = settled row.from fit.from; to = settled row.to fit.to; delay = delay_of count corners row.delay fit.one_row fit.within }

edge_of : (count : ℕ) → (count ≡ 1) ⊎ (count ≡ 3) → (edge : Option (List Femto)) → IsEdge count edge → IsEdgeDelay edge
edge_of count corners None is = tt
edge_of count corners (Some delay) is = delay_of count corners delay is.0 is.1

pub path_of : (IsName : List ℕ → Type 0) → ((name : List ℕ) → IsName name → IsSettled name) → (count : ℕ) → (count ≡ 1) ⊎ (count ≡ 3) → (row : PathRow) → IsPathFit IsName count row → IsPath row
path_of IsName settled count corners row fit = record {
  instance = settled row.instance fit.instance;
  from = settled row.from fit.from;
  to = settled row.to fit.to;
  rise = edge_of count corners row.rise fit.rise;
  fall = edge_of count corners row.fall fit.fall;
}
