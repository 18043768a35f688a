-- What loops over pieces of a text keep.
use Rattle.std.proofs.Common.{◌≡◌, ℕ, ◌-◌, ◌≤◌, List, ◌++◌, length, take, drop, Option, Err, ap, sym, ◌∙◌, arith}
use Rattle.std.proofs.lemmas.List.{append_assoc, take-append-drop, length-drop, take_all}
use Rattle.edge_io.specs.Counts.{Rose}
use Rattle.edge_io.specs.Told.{appended, appended-appended, front_of_first, front_of_all}
use Rattle.edge_io.specs.Writing.{Writes}
use Rattle.edge_io.specs.declared.failures.Failed.{Failed}

-- of the whole text a front is written and the rest is not
pub record Wrote (whole rest : List ℕ) (before now : Option (List ℕ)) (faults faults' : ℕ) : Type 0 where
  pub front : List ℕ
  pub whole_is : whole ≡ front ++ rest
  pub written : now ≡ appended before front
  pub later : faults ≤ faults'

-- a piece more
pub wrote_more : {whole rest : List ℕ} {before now after : Option (List ℕ)} {faults faults₁ faults₂ : ℕ} (count : ℕ) → Wrote whole rest before now faults faults₁ → after ≡ appended now (take count rest) → faults₁ ≤ faults₂ → Wrote whole (drop count rest) before after faults faults₂
wrote_more {whole} {rest} {before} count w more later = record {
  front = w.front ++ take count rest;
  whole_is = w.whole_is ∙ ap (λ t. w.front ++ t) (sym (take-append-drop count rest)) ∙ sym (append_assoc w.front (take count rest) (drop count rest));
  written = more ∙ ap (λ m. appended m (take count rest)) w.written ∙ appended-appended before w.front (take count rest);
  later = omega (arith, w.later, later);
}

-- the same, where the rest is a slice that ends where the rest did
pub wrote_rest : {whole rest : List ℕ} {before now after : Option (List ℕ)} {faults faults₁ faults₂ : ℕ} (count : ℕ) → Wrote whole rest before now faults faults₁ → after ≡ appended now (take count rest) → faults₁ ≤ faults₂ → Wrote whole (take (length rest - count) (drop count rest)) before after faults faults₂
wrote_rest {rest = rest} count w more later =
    let all : length (drop count rest) ≤ length rest - count = omega (arith, length-drop count rest) in
    rw (take_all (length rest - count) (drop count rest) all) (wrote_more count w more later)

-- a fault: what is written is a front of the whole
pub wrote_cut : {whole rest : List ℕ} {before now after : Option (List ℕ)} {faults faults₁ faults₂ : ℕ} {failed : Failed} → Wrote whole rest before now faults faults₁ → after ≡ now → faults₁ ≤ faults₂ → Rose faults₁ faults₂ → Writes whole before after faults faults₂ (Err failed)
wrote_cut {whole} {rest} {before} {after = after} w same later rose = record {
  ok = tt;
  cut = rw (w.whole_is) (front_of_first w.front rest before after (front_of_all w.front before after (same ∙ w.written)));
  later = omega (arith, w.later, later);
  cause = omega (arith, w.later, rose);
}
